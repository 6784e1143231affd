-- What a check of a team finds, and how it ends.
use Rattle.std.specs.Prelude.{◌≡◌, ◌⊎◌, ℕ, List, codes, Option, Some, None, Result, Ok, Err}
use Rattle.std.specs.Option.{IsSomeAnd}
use Rattle.std.specs.Str.{IsUtf8, chars}
use Rattle.std.specs.Io.BufRead.{strip_last}
use Rattle.std.specs.Io.KnownBytes.{Appends, Keeps}
use Rattle.ps_base.specs.Ids.{id_of}
use Rattle.ps_base.specs.declared.team_rule.TeamRule.{TeamRule}
use Rattle.ps_base.specs.declared.pack_kind.PackKind.{PackKind}
use Rattle.ps_base.specs.declared.pack_kind.PackKind.TheVariants as pack_kinds
use Rattle.ps_outside.specs.Causes.{Rose}
use Rattle.ps_outside.specs.Files.{FileCounts}
use Rattle.ps_outside.specs.Sinks.{AppendsFront}
use Rattle.ps_packed.specs.declared.set.Set.{Set}
use Rattle.ps_packed.specs.declared.fault.PackFault.TheVariants as pack_faults
use Rattle.ps_packed.specs.Packed.{IsTeam, Refuses}
use Rattle.ps_dex.specs.declared.item.Tables.{Tables}
use Rattle.ps_rules.specs.declared.table.RuleTable.{RuleTable}
use Rattle.ps_rules.specs.declared.table.Format.{Format}
use Rattle.ps_rules.specs.Resolve.{format_of}
use Rattle.rules_config.specs.declared.settings.Settings.{Settings}
use Rattle.ps_valid.specs.declared.legal.Legal.{Legal}
use Rattle.ps_valid.specs.TeamRows.{legal_in}
use Rattle.program_commands.specs.declared.status.Status.{Status}
use Rattle.program_commands.specs.declared.status.Status.TheVariants.{Done, Usage, FileMissing, FileFault, FileLong, BadDex}
use Rattle.program_commands.specs.declared.status.Status.TheVariants.{BadConfig, BadScript, ScriptLong, ReadFault, WriteFault}
use Rattle.program_commands.specs.declared.status.Status.TheVariants.{BadTeam, NoMemory, DoorFault, UnknownFormat, BadPack, NoTour}
use Rattle.program_commands.specs.declared.status.Status.TheVariants.{KeepFault, KeepFull, BadExport, NoExport}
use Rattle.program_commands.specs.Words.{Checked}
use Rattle.program_commands.specs.Steps.{IsFaultOf, within, from_file, dex_in, config_in}
use Rattle.program_commands.specs.Setups.{Then, IsSettled}
use Rattle.ps_base.specs.Characters as characters

abbrev pub most_team : ℕ
most_team = 8192

-- the text of a team: one newline at the file's end is dropped
abbrev pub text_of : List ℕ → Result (List ℕ) Status
text_of bytes = Ok (strip_last characters.newline bytes)

abbrev pub text_in : (List ℕ → Option (List ℕ)) → List ℕ → Result (List ℕ) Status
text_in lookup name = from_file text_of (within most_team name (lookup name))

-- ---- the format and the team

abbrev pub table_or : List ℕ → Option Format → Result RuleTable Status
table_or id None = Err (UnknownFormat id)
table_or id (Some format) = Ok format.table

-- what is played under a format, which is looked up by its id
abbrev pub rules_in : Settings → List ℕ → Result RuleTable Status
rules_in settings format = table_or (id_of format) (format_of (id_of format) settings.formats.formats)

-- the text is packed, and its team keeps the rules
pub record IsLegal (dex : Tables) (rules : RuleTable) (text : List ℕ) : Type 0 where
  pub utf8 : IsUtf8 text
  pub team : List Set
  pub packed : IsTeam (chars text) team
  pub legal : Legal
  pub keeps : legal_in dex rules team ≡ Ok legal

-- the text is packed, and this is the first rule that its team breaks
pub record IsBroken (dex : Tables) (rules : RuleTable) (text : List ℕ) (set : ℕ) (rule : TeamRule) (subject : List ℕ) : Type 0 where
  pub utf8 : IsUtf8 text
  pub team : List Set
  pub packed : IsTeam (chars text) team
  pub breaks : legal_in dex rules team ≡ Err (record { set = set; rule = rule; subject = subject })

-- the bytes are no text, which is reported at 0, or the text isn't packed, and this is its fault
abbrev pub IsUnpacked : List ℕ → ℕ → PackKind → Type 0
IsUnpacked text at kind = ((IsUtf8 text → ⊥) × (at ≡ 0) × (kind ≡ pack_kinds.Text))
    ⊎ (IsUtf8 text × Refuses (chars text) (pack_faults.Fault at kind))

-- ---- How a check may end, where the files are known. A file that is there may still fail.

-- how the check of the text of a team ends; only that of a legal one is written
abbrev pub TextEnds : Tables → RuleTable → List ℕ → Status → Type 0
TextEnds dex rules text Done = IsLegal dex rules text
TextEnds dex rules text WriteFault = IsLegal dex rules text
TextEnds dex rules text (BadTeam set rule subject) = IsBroken dex rules text set rule subject
TextEnds dex rules text (BadPack at kind) = IsUnpacked text at kind
TextEnds dex rules text NoTour = ⊥
TextEnds dex rules text KeepFault = ⊥
TextEnds dex rules text (KeepFull count) = ⊥
TextEnds dex rules text (BadExport line) = ⊥
TextEnds dex rules text (NoExport set) = ⊥
TextEnds dex rules text (Usage word) = ⊥
TextEnds dex rules text (FileMissing name) = ⊥
TextEnds dex rules text (FileFault name) = ⊥
TextEnds dex rules text (FileLong name) = ⊥
TextEnds dex rules text (BadDex path kind) = ⊥
TextEnds dex rules text (BadConfig path kind) = ⊥
TextEnds dex rules text (BadScript line kind) = ⊥
TextEnds dex rules text (ScriptLong count) = ⊥
TextEnds dex rules text ReadFault = ⊥
TextEnds dex rules text NoMemory = ⊥
TextEnds dex rules text DoorFault = ⊥
TextEnds dex rules text (UnknownFormat id) = ⊥

-- from the team's file on
abbrev pub TeamEnds : (List ℕ → Option (List ℕ)) → Tables → List ℕ → RuleTable → Status → Type 0
TeamEnds lookup dex name rules status = IsFaultOf (Some name) status ⊎ Then (text_in lookup name) (TextEnds dex rules) status

-- from the format on
abbrev pub FormatEnds : (List ℕ → Option (List ℕ)) → Checked → Tables → Settings → Status → Type 0
FormatEnds lookup words dex settings status = Then (rules_in settings words.format) (TeamEnds lookup dex words.team) status

-- from the configuration on
abbrev pub ConfigEnds : (List ℕ → Option (List ℕ)) → Checked → Tables → Status → Type 0
ConfigEnds lookup words dex status = IsFaultOf words.config status
    ⊎ Then (config_in lookup dex words.config) (FormatEnds lookup words dex) status

-- from the dex on, which is all
abbrev pub CheckEnds : (List ℕ → Option (List ℕ)) → Checked → Status → Type 0
CheckEnds lookup words status = IsFaultOf words.dex status ⊎ Then (dex_in lookup words.dex) (ConfigEnds lookup words) status

-- the words name the file
abbrev pub IsNamed : Checked → List ℕ → Type 0
IsNamed words name = (words.dex ≡ Some name) ⊎ (words.config ≡ Some name) ⊎ (words.team ≡ name)

-- The statuses of a check, and what has shown each. A status of a file names one of these files, and its count rose.
abbrev pub CheckCause : (List ℕ → Type 0) → FileCounts → FileCounts → Status → Type 0
CheckCause named old new Done = Unit {0}
CheckCause named old new (Usage word) = ⊥
CheckCause named old new (FileMissing name) = named name × Rose old.missing new.missing
CheckCause named old new (FileFault name) = named name × Rose old.faults new.faults
CheckCause named old new (FileLong name) = named name × Rose old.long new.long
CheckCause named old new (BadDex path kind) = Unit {0}
CheckCause named old new (BadConfig path kind) = Unit {0}
CheckCause named old new (BadScript line kind) = ⊥
CheckCause named old new (ScriptLong count) = ⊥
CheckCause named old new ReadFault = ⊥
CheckCause named old new WriteFault = Unit {0}
CheckCause named old new (BadTeam set rule subject) = Unit {0}
CheckCause named old new NoMemory = Unit {0}
CheckCause named old new DoorFault = ⊥
CheckCause named old new (UnknownFormat id) = Unit {0}
CheckCause named old new (BadPack at kind) = Unit {0}
CheckCause named old new NoTour = ⊥
CheckCause named old new KeepFault = ⊥
CheckCause named old new (KeepFull count) = ⊥
CheckCause named old new (BadExport line) = ⊥
CheckCause named old new (NoExport set) = ⊥

-- ---- what was written

-- what a check of a legal team writes: `legal` and a newline
abbrev pub legal_line : List ℕ
legal_line = codes "legal\n"

-- all of the line at Done, a front of it at WriteFault, and else nothing
abbrev pub WritesLegal : Option (List ℕ) → Option (List ℕ) → Status → Type 0
WritesLegal old new Done = Appends old new legal_line
WritesLegal old new WriteFault = AppendsFront old new legal_line
WritesLegal old new (Usage word) = Keeps old new
WritesLegal old new (FileMissing name) = Keeps old new
WritesLegal old new (FileFault name) = Keeps old new
WritesLegal old new (FileLong name) = Keeps old new
WritesLegal old new (BadDex path kind) = Keeps old new
WritesLegal old new (BadConfig path kind) = Keeps old new
WritesLegal old new (BadScript line kind) = Keeps old new
WritesLegal old new (ScriptLong count) = Keeps old new
WritesLegal old new ReadFault = Keeps old new
WritesLegal old new (BadTeam set rule subject) = Keeps old new
WritesLegal old new NoMemory = Keeps old new
WritesLegal old new DoorFault = Keeps old new
WritesLegal old new (UnknownFormat id) = Keeps old new
WritesLegal old new (BadPack at kind) = Keeps old new
WritesLegal old new NoTour = Keeps old new
WritesLegal old new KeepFault = Keeps old new
WritesLegal old new (KeepFull count) = Keeps old new
WritesLegal old new (BadExport line) = Keeps old new
WritesLegal old new (NoExport set) = Keeps old new

-- the files are known, and the team of the check is legal
abbrev pub HasLegal : Option (List ℕ → Option (List ℕ)) → Checked → Type 0
HasLegal contents words = IsSomeAnd contents (λ lookup. CheckEnds lookup words Done)

-- a legal team, with no fault of the files or the sink, settles a check
pub record SettlesCheck (contents : Option (List ℕ → Option (List ℕ))) (file_fault write_fault : Type 0) (words : Checked)
    (status : Status) : Type 0 where
  pub settled : HasLegal contents words → (file_fault → ⊥) → (write_fault → ⊥) → IsSettled status
