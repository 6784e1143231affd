-- What the steps of a check answer: for the code alone.
use Rattle.std.specs.Prelude.{◌≡◌, ℕ, List, Result, Ok, Err}
use Rattle.ps_packed.specs.declared.fault.PackFault.{PackFault}
use Rattle.ps_packed.specs.declared.fault.PackFault.TheVariants as pack_faults
use Rattle.ps_valid.specs.declared.verdict.Verdict.{Verdict}
use Rattle.ps_valid.specs.declared.legal.Legal.{Legal}
use Rattle.program_commands.specs.declared.status.Status.{Status}
use Rattle.program_commands.specs.declared.status.Status.TheVariants.{Done, Usage, FileMissing, FileFault, FileLong, BadDex}
use Rattle.program_commands.specs.declared.status.Status.TheVariants.{BadConfig, BadScript, ScriptLong, ReadFault, WriteFault}
use Rattle.program_commands.specs.declared.status.Status.TheVariants.{BadTeam, NoMemory, DoorFault, UnknownFormat, BadPack, NoTour}
use Rattle.program_commands.specs.declared.status.Status.TheVariants.{KeepFault, KeepFull, BadExport, NoExport}
use Rattle.program_commands.specs.Checks.{IsUnpacked}

-- the statuses by which the lookup of a format ends a check
abbrev pub FormatCause : Status → Type 0
FormatCause (UnknownFormat id) = Unit {0}
FormatCause NoMemory = Unit {0}
FormatCause Done = ⊥
FormatCause (Usage word) = ⊥
FormatCause (FileMissing name) = ⊥
FormatCause (FileFault name) = ⊥
FormatCause (FileLong name) = ⊥
FormatCause (BadDex path kind) = ⊥
FormatCause (BadConfig path kind) = ⊥
FormatCause (BadScript line kind) = ⊥
FormatCause (ScriptLong count) = ⊥
FormatCause ReadFault = ⊥
FormatCause WriteFault = ⊥
FormatCause (BadTeam set rule subject) = ⊥
FormatCause DoorFault = ⊥
FormatCause (BadPack at kind) = ⊥
FormatCause NoTour = ⊥
FormatCause KeepFault = ⊥
FormatCause (KeepFull count) = ⊥
FormatCause (BadExport line) = ⊥
FormatCause (NoExport set) = ⊥

-- the statuses of a text that was checked
abbrev pub IsOfText : Status → Type 0
IsOfText Done = Unit {0}
IsOfText WriteFault = Unit {0}
IsOfText (BadTeam set rule subject) = Unit {0}
IsOfText (BadPack at kind) = Unit {0}
IsOfText NoTour = ⊥
IsOfText KeepFault = ⊥
IsOfText (KeepFull count) = ⊥
IsOfText (BadExport line) = ⊥
IsOfText (NoExport set) = ⊥
IsOfText NoMemory = Unit {0}
IsOfText (Usage word) = ⊥
IsOfText (FileMissing name) = ⊥
IsOfText (FileFault name) = ⊥
IsOfText (FileLong name) = ⊥
IsOfText (BadDex path kind) = ⊥
IsOfText (BadConfig path kind) = ⊥
IsOfText (BadScript line kind) = ⊥
IsOfText (ScriptLong count) = ⊥
IsOfText ReadFault = ⊥
IsOfText DoorFault = ⊥
IsOfText (UnknownFormat id) = ⊥

-- why the bytes of a text have no team; out of memory may come in its place
abbrev pub Unpacks : List ℕ → PackFault → Type 0
Unpacks text (pack_faults.Fault at kind) = IsUnpacked text at kind
Unpacks text pack_faults.NoMemory = Unit {0}

-- how the check of a team ends, of which this was found
abbrev pub RulesEnd : Result Legal Verdict → Status → Type 0
RulesEnd found Done = (legal : Legal) × (found ≡ Ok legal)
RulesEnd found WriteFault = (legal : Legal) × (found ≡ Ok legal)
RulesEnd found (BadTeam set rule subject) = found ≡ Err (record { set = set; rule = rule; subject = subject })
RulesEnd found NoMemory = Unit {0}
RulesEnd found (BadPack at kind) = ⊥
RulesEnd found NoTour = ⊥
RulesEnd found KeepFault = ⊥
RulesEnd found (KeepFull count) = ⊥
RulesEnd found (BadExport line) = ⊥
RulesEnd found (NoExport set) = ⊥
RulesEnd found (Usage word) = ⊥
RulesEnd found (FileMissing name) = ⊥
RulesEnd found (FileFault name) = ⊥
RulesEnd found (FileLong name) = ⊥
RulesEnd found (BadDex path kind) = ⊥
RulesEnd found (BadConfig path kind) = ⊥
RulesEnd found (BadScript line kind) = ⊥
RulesEnd found (ScriptLong count) = ⊥
RulesEnd found ReadFault = ⊥
RulesEnd found DoorFault = ⊥
RulesEnd found (UnknownFormat id) = ⊥
