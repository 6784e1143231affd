-- What a drill tells, and how it ends.
use Rattle.std.specs.Prelude.{◌≡◌, ◌⊎◌, ℕ, List, [], ◌∷◌, ◌++◌, codes, length, Option}
use Rattle.std.specs.Fmt.{decimal}
use Rattle.std.specs.Str.Lines.{lines}
use Rattle.std.specs.Io.KnownBytes.{Appends, Keeps}
use Rattle.hex.specs.Hex.{encode_lower}
use Rattle.sha2.specs.Sha256.{sha256}
use Rattle.ps_outside.specs.Causes.{Rose}
use Rattle.ps_outside.specs.Files.{FileCounts}
use Rattle.ps_outside.specs.Sinks.{AppendsFront}
use Rattle.ps_dex.specs.declared.item.Tables.{Tables}
use Rattle.rules_config.specs.declared.settings.Settings.{Settings}
use Rattle.replay_script.specs.declared.item.Item.{Item}
use Rattle.replay_script.specs.Scripts.{IsScript}
use Rattle.replay_state.specs.Setup.{Setup, setup_of}
use Rattle.replay_state.specs.Entries.{entries}
use Rattle.replay_state.specs.Counts.{refused}
use Rattle.replay_state.specs.Transcript.{output}
use Rattle.replay_drill.specs.Drills.{drill_text}
use Rattle.replay_drill.specs.Messages.{messages_in}
use Rattle.program_commands.specs.declared.status.Status.{Status}
use Rattle.program_commands.specs.declared.status.Status.TheVariants.{Done, Usage, FileMissing, FileFault, FileLong, BadDex}
use Rattle.program_commands.specs.declared.status.Status.TheVariants.{BadConfig, BadScript, ScriptLong, ReadFault, WriteFault}
use Rattle.program_commands.specs.declared.status.Status.TheVariants.{BadTeam, NoMemory, DoorFault, UnknownFormat, BadPack, NoTour}
use Rattle.program_commands.specs.declared.status.Status.TheVariants.{KeepFault, KeepFull, BadExport, NoExport}
use Rattle.program_commands.specs.Words.{Options, Drilled}
use Rattle.program_commands.specs.Steps.{IsFaultOf, dex_in, config_in}
use Rattle.program_commands.specs.Setups.{HasSetup, IsOption, AreGood, IsSettled, Then}
use Rattle.ps_replay.specs.Outcomes.{symbols_of}
use Rattle.ps_base.specs.Characters as characters

-- ---- the summary

abbrev pub number_line : List ℕ → ℕ → List ℕ
number_line name number = name ++ codes " " ++ decimal number ++ characters.newline ∷ []

-- in lower hex
abbrev pub digest_line : List ℕ → List ℕ
digest_line digest = codes "sha256 " ++ encode_lower digest ++ characters.newline ∷ []

-- the six lines of a drill
unfoldable pub summary_lines : ℕ → ℕ → ℕ → ℕ → ℕ → List ℕ → List ℕ
summary_lines all made refusals messages bytes digest =
    number_line (codes "lines") all
    ++ number_line (codes "entries") made
    ++ number_line (codes "refused") refusals
    ++ number_line (codes "messages") messages
    ++ number_line (codes "bytes") bytes
    ++ digest_line digest

-- Of a script's text and its transcript: the lines of the script, the entries that they make and those of them that are refused,
-- the messages of the transcript, and the bytes and the digest of the script with the transcript behind it.
abbrev pub summary_of : List ℕ → Setup → List Item → List ℕ
summary_of text setup items = summary_lines (length (lines text)) (length (entries setup items)) (refused setup items)
    (messages_in (output setup items)) (length (text ++ output setup items)) (sha256 (text ++ output setup items))

-- what a drill of so many steps tells: the one script that its text is, is run
pub record IsSummary (config : Settings) (dex : Tables) (steps : ℕ) (summary : List ℕ) : Type 0 where
  pub items : List Item
  pub script : IsScript (symbols_of config.groups) (drill_text config dex steps) items
  pub summary_is : summary ≡ summary_of (drill_text config dex steps) (setup_of config dex items) items

-- ---- what was written

-- the summary, and nothing else
pub record WritesSummary (config : Settings) (dex : Tables) (steps : ℕ) (old new : Option (List ℕ)) : Type 0 where
  pub summary : List ℕ
  pub summary_is : IsSummary config dex steps summary
  pub wrote : Appends old new summary

-- a front of it
pub record WritesFrontOfSummary (config : Settings) (dex : Tables) (steps : ℕ) (old new : Option (List ℕ)) : Type 0 where
  pub summary : List ℕ
  pub summary_is : IsSummary config dex steps summary
  pub front : AppendsFront old new summary

-- At a status other than Done: a front of the summary where the sink failed, and else nothing, since all of it is known before
-- its first byte is written.
abbrev pub WritesDrill : Option (List ℕ → Option (List ℕ)) → Drilled → Option (List ℕ) → Option (List ℕ) → Status → Type 0
WritesDrill contents words old new Done = Unit {0}
WritesDrill contents words old new WriteFault = HasSetup contents words.options
    (λ config dex. WritesFrontOfSummary config dex words.steps old new)
WritesDrill contents words old new (Usage word) = Keeps old new
WritesDrill contents words old new (FileMissing name) = Keeps old new
WritesDrill contents words old new (FileFault name) = Keeps old new
WritesDrill contents words old new (FileLong name) = Keeps old new
WritesDrill contents words old new (BadDex path kind) = Keeps old new
WritesDrill contents words old new (BadConfig path kind) = Keeps old new
WritesDrill contents words old new (BadScript line kind) = Keeps old new
WritesDrill contents words old new (ScriptLong count) = Keeps old new
WritesDrill contents words old new ReadFault = Keeps old new
WritesDrill contents words old new (BadTeam set rule subject) = Keeps old new
WritesDrill contents words old new NoMemory = Keeps old new
WritesDrill contents words old new DoorFault = Keeps old new
WritesDrill contents words old new (UnknownFormat id) = Keeps old new
WritesDrill contents words old new (BadPack at kind) = Keeps old new
WritesDrill contents words old new NoTour = Keeps old new
WritesDrill contents words old new KeepFault = Keeps old new
WritesDrill contents words old new (KeepFull count) = Keeps old new
WritesDrill contents words old new (BadExport line) = Keeps old new
WritesDrill contents words old new (NoExport set) = Keeps old new

-- ---- How a drill may end, where the files are known. A file that is there may still fail.

-- under a configuration and a dex: its text is a script whatever they say, so that nothing is at fault
abbrev pub RunEnds : Status → Type 0
RunEnds Done = Unit {0}
RunEnds WriteFault = Unit {0}
RunEnds (Usage word) = ⊥
RunEnds (FileMissing name) = ⊥
RunEnds (FileFault name) = ⊥
RunEnds (FileLong name) = ⊥
RunEnds (BadDex path kind) = ⊥
RunEnds (BadConfig path kind) = ⊥
RunEnds (BadScript line kind) = ⊥
RunEnds (ScriptLong count) = ⊥
RunEnds ReadFault = ⊥
RunEnds (BadTeam set rule subject) = ⊥
RunEnds NoMemory = ⊥
RunEnds DoorFault = ⊥
RunEnds (UnknownFormat id) = ⊥
RunEnds (BadPack at kind) = ⊥
RunEnds NoTour = ⊥
RunEnds KeepFault = ⊥
RunEnds (KeepFull count) = ⊥
RunEnds (BadExport line) = ⊥
RunEnds (NoExport set) = ⊥

abbrev pub SetUpEnds : Settings → Status → Type 0
SetUpEnds config status = RunEnds status

-- from the configuration on
abbrev pub ConfigEnds : (List ℕ → Option (List ℕ)) → Options → Tables → Status → Type 0
ConfigEnds lookup options dex status = IsFaultOf options.config status ⊎ Then (config_in lookup dex options.config) SetUpEnds status

-- from the dex on, which is all
abbrev pub DrillEnds : (List ℕ → Option (List ℕ)) → Options → Status → Type 0
DrillEnds lookup options status = IsFaultOf options.dex status ⊎ Then (dex_in lookup options.dex) (ConfigEnds lookup options) status

-- The statuses of a drill, and what has shown each. A status of a file names one of the words' files, and its count rose.
abbrev pub DrillCause : Options → FileCounts → FileCounts → Status → Type 0
DrillCause options old new Done = Unit {0}
DrillCause options old new (Usage word) = ⊥
DrillCause options old new (FileMissing name) = IsOption options name × Rose old.missing new.missing
DrillCause options old new (FileFault name) = IsOption options name × Rose old.faults new.faults
DrillCause options old new (FileLong name) = IsOption options name × Rose old.long new.long
DrillCause options old new (BadDex path kind) = Unit {0}
DrillCause options old new (BadConfig path kind) = Unit {0}
DrillCause options old new (BadScript line kind) = ⊥
DrillCause options old new (ScriptLong count) = ⊥
DrillCause options old new ReadFault = ⊥
DrillCause options old new WriteFault = Unit {0}
DrillCause options old new (BadTeam set rule subject) = ⊥
DrillCause options old new NoMemory = Unit {0}
DrillCause options old new DoorFault = ⊥
DrillCause options old new (UnknownFormat id) = ⊥
DrillCause options old new (BadPack at kind) = ⊥
DrillCause options old new NoTour = ⊥
DrillCause options old new KeepFault = ⊥
DrillCause options old new (KeepFull count) = ⊥
DrillCause options old new (BadExport line) = ⊥
DrillCause options old new (NoExport set) = ⊥

-- good files, with no fault of the files or the sink, settle a drill
pub record SettlesDrill (contents : Option (List ℕ → Option (List ℕ))) (file_fault write_fault : Type 0) (options : Options)
    (status : Status) : Type 0 where
  pub settled : AreGood contents options → (file_fault → ⊥) → (write_fault → ⊥) → IsSettled status

-- ---- for the code alone: a status that the words and the files have no part in, and what was written at it

abbrev pub IsOfRun : Status → Type 0
IsOfRun Done = Unit {0}
IsOfRun WriteFault = Unit {0}
IsOfRun NoMemory = Unit {0}
IsOfRun (Usage word) = ⊥
IsOfRun (FileMissing name) = ⊥
IsOfRun (FileFault name) = ⊥
IsOfRun (FileLong name) = ⊥
IsOfRun (BadDex path kind) = ⊥
IsOfRun (BadConfig path kind) = ⊥
IsOfRun (BadScript line kind) = ⊥
IsOfRun (ScriptLong count) = ⊥
IsOfRun ReadFault = ⊥
IsOfRun (BadTeam set rule subject) = ⊥
IsOfRun DoorFault = ⊥
IsOfRun (UnknownFormat id) = ⊥
IsOfRun (BadPack at kind) = ⊥
IsOfRun NoTour = ⊥
IsOfRun KeepFault = ⊥
IsOfRun (KeepFull count) = ⊥
IsOfRun (BadExport line) = ⊥
IsOfRun (NoExport set) = ⊥

abbrev pub WritesRun : Settings → Tables → ℕ → Option (List ℕ) → Option (List ℕ) → Status → Type 0
WritesRun config dex steps old new Done = WritesSummary config dex steps old new
WritesRun config dex steps old new WriteFault = WritesFrontOfSummary config dex steps old new
WritesRun config dex steps old new other = Keeps old new
