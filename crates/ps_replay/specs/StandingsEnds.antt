-- What a command that prints standings has shown.
use Rattle.std.specs.Prelude.{◌≡◌, ℕ, ◌≤◌, List, [], ◌∷◌, ◌++◌, length, Option, IfSome}
use Rattle.std.specs.List.{flat_map}
use Rattle.std.specs.Io.KnownBytes.{Appends, Keeps}
use Rattle.ps_base.specs.Ids.{id_of}
use Rattle.ps_outside.specs.Causes.{Rose}
use Rattle.ps_outside.specs.Sinks.{AppendsFront}
use Rattle.ps_keep.specs.declared.note.Note.{Note}
use Rattle.ps_keep.specs.declared.standings.Place.{Place}
use Rattle.ps_keep.specs.Results.{results_in}
use Rattle.ps_keep.specs.Standings.{AreStandings, place_text}
use Rattle.program_commands.specs.declared.status.Status.{Status}
use Rattle.program_commands.specs.declared.status.Status.TheVariants.{Done, Usage, FileMissing, FileFault, FileLong, BadDex}
use Rattle.program_commands.specs.declared.status.Status.TheVariants.{BadConfig, BadScript, ScriptLong, ReadFault, WriteFault}
use Rattle.program_commands.specs.declared.status.Status.TheVariants.{BadTeam, NoMemory, DoorFault, UnknownFormat, BadPack, NoTour}
use Rattle.program_commands.specs.declared.status.Status.TheVariants.{KeepFault, KeepFull, BadExport, NoExport}
use Rattle.program_commands.specs.Setups.{IsSettled}
use Rattle.ps_replay.specs.Dealings.{Dealings, MetWithKeeper, WriteFailed, KeeperFailed, KeeperWasFull, IsUntouched, most_notes}
use Rattle.ps_replay.specs.Dealings.{IsFullAlone}
use Rattle.ps_base.specs.Characters as characters

abbrev pub place_line : Place → List ℕ
place_line place = place_text place ++ characters.newline ∷ []

-- a line for each user that won or lost a rated battle of the format, by falling rating and then by id
pub record AreLines (format : List ℕ) (notes : List Note) (text : List ℕ) : Type 0 where
  pub places : List Place
  pub stand : AreStandings (results_in (id_of format) notes) places
  pub text_is : text ≡ flat_map place_line places

-- these lines were written, and nothing else
pub record WritesStandings (format : List ℕ) (dealings : Dealings) (notes : List Note) : Type 0 where
  pub few : length notes ≤ most_notes
  pub text : List ℕ
  pub lines : AreLines format notes text
  pub wrote : Appends dealings.written dealings.written_after text

-- a front of them
pub record WritesSomeStandings (format : List ℕ) (dealings : Dealings) (notes : List Note) : Type 0 where
  pub few : length notes ≤ most_notes
  pub text : List ℕ
  pub lines : AreLines format notes text
  pub front : AppendsFront dealings.written dealings.written_after text

-- the input and the notes are as they were
pub record IsOnlyRead (run : MetWithKeeper) : Type 0 where
  pub input : run.left_after ≡ run.left
  pub notes : run.dealings.kept_after ≡ run.dealings.kept

-- Each status, with what has shown it and what was written. The notes that are kept are known only where the keeper tells them.
abbrev pub StandingsEnd : List ℕ → MetWithKeeper → Status → Type 0
StandingsEnd format run Done = IsOnlyRead run × IfSome run.dealings.kept (WritesStandings format run.dealings)
StandingsEnd format run (Usage word) = ⊥
StandingsEnd format run (FileMissing name) = ⊥
StandingsEnd format run (FileFault name) = ⊥
StandingsEnd format run (FileLong name) = ⊥
StandingsEnd format run (BadDex path kind) = ⊥
StandingsEnd format run (BadConfig path kind) = ⊥
StandingsEnd format run (BadScript line kind) = ⊥
StandingsEnd format run (ScriptLong count) = ⊥
StandingsEnd format run ReadFault = ⊥
StandingsEnd format run WriteFault = IsOnlyRead run × IfSome run.dealings.kept (WritesSomeStandings format run.dealings)
    × WriteFailed run.dealings
StandingsEnd format run (BadTeam set rule subject) = ⊥
StandingsEnd format run NoMemory = IsUntouched run
StandingsEnd format run DoorFault = ⊥
StandingsEnd format run (UnknownFormat id) = ⊥
StandingsEnd format run (BadPack at kind) = ⊥
StandingsEnd format run NoTour = ⊥
StandingsEnd format run KeepFault = IsUntouched run × KeeperFailed run.dealings
StandingsEnd format run (KeepFull count) = IsFullAlone run count
StandingsEnd format run (BadExport line) = ⊥
StandingsEnd format run (NoExport set) = ⊥

-- a sink without a fault, and a keeper that neither fails nor has too many notes, settle it
abbrev pub SettlesStandings : Dealings → Status → Type 0
SettlesStandings dealings status = (WriteFailed dealings → ⊥) → (KeeperFailed dealings → ⊥) → (KeeperWasFull dealings → ⊥)
    → IsSettled status

-- ---- for the code: how the printing of these notes' standings ends

abbrev pub PrintsLines : List ℕ → List Note → Option (List ℕ) → Option (List ℕ) → ℕ → ℕ → Status → Type 0
PrintsLines format notes old new writes writes_after Done = (text : List ℕ) × AreLines format notes text × Appends old new text
PrintsLines format notes old new writes writes_after (Usage word) = ⊥
PrintsLines format notes old new writes writes_after (FileMissing name) = ⊥
PrintsLines format notes old new writes writes_after (FileFault name) = ⊥
PrintsLines format notes old new writes writes_after (FileLong name) = ⊥
PrintsLines format notes old new writes writes_after (BadDex path kind) = ⊥
PrintsLines format notes old new writes writes_after (BadConfig path kind) = ⊥
PrintsLines format notes old new writes writes_after (BadScript line kind) = ⊥
PrintsLines format notes old new writes writes_after (ScriptLong count) = ⊥
PrintsLines format notes old new writes writes_after ReadFault = ⊥
PrintsLines format notes old new writes writes_after WriteFault = ((text : List ℕ) × AreLines format notes text
    × AppendsFront old new text) × Rose writes writes_after
PrintsLines format notes old new writes writes_after (BadTeam set rule subject) = ⊥
PrintsLines format notes old new writes writes_after NoMemory = Keeps old new
PrintsLines format notes old new writes writes_after DoorFault = ⊥
PrintsLines format notes old new writes writes_after (UnknownFormat id) = ⊥
PrintsLines format notes old new writes writes_after (BadPack at kind) = ⊥
PrintsLines format notes old new writes writes_after NoTour = ⊥
PrintsLines format notes old new writes writes_after KeepFault = ⊥
PrintsLines format notes old new writes writes_after (KeepFull count) = ⊥
PrintsLines format notes old new writes writes_after (BadExport line) = ⊥
PrintsLines format notes old new writes writes_after (NoExport set) = ⊥
