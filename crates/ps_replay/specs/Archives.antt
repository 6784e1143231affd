-- What an archive has shown: how it ended, what it wrote, and which notes it left.
use Rattle.std.specs.Prelude.{◌≡◌, ◌⊎◌, ℕ, ◌+◌, ◌<◌, ◌≤◌, List, length, Option, Some, IfSome}
use Rattle.std.specs.Io.KnownBytes.{Keeps}
use Rattle.ps_base.specs.Numbers.{counted}
use Rattle.ps_outside.specs.Sinks.{AppendsFront}
use Rattle.ps_dex.specs.declared.item.Tables.{Tables}
use Rattle.rules_config.specs.declared.settings.Settings.{Settings}
use Rattle.replay_script.specs.declared.item.Item.{Item}
use Rattle.replay_script.specs.Scripts.{IsScript}
use Rattle.replay_script.specs.Limits.{long_of}
use Rattle.ps_keep.specs.declared.note.Note.{Note}
use Rattle.ps_keep.specs.Keepers.{after_notes, AppendsSome}
use Rattle.replay_state.specs.Setup.{setup_of}
use Rattle.replay_state.specs.Notes.{notes}
use Rattle.replay_state.specs.Transcript.{output}
use Rattle.program_commands.specs.declared.status.Status.{Status}
use Rattle.program_commands.specs.declared.status.Status.TheVariants.{Done, Usage, FileMissing, FileFault, FileLong, BadDex}
use Rattle.program_commands.specs.declared.status.Status.TheVariants.{BadConfig, BadScript, ScriptLong, ReadFault, WriteFault}
use Rattle.program_commands.specs.declared.status.Status.TheVariants.{BadTeam, NoMemory, DoorFault, UnknownFormat, BadPack, NoTour}
use Rattle.program_commands.specs.declared.status.Status.TheVariants.{KeepFault, KeepFull, BadExport, NoExport}
use Rattle.program_commands.specs.Words.{Options}
use Rattle.program_commands.specs.Setups.{HasSetup, IsGood, IsSettled}
use Rattle.ps_replay.specs.Outcomes.{symbols_of, IsTranscript, IsBadScript, ReplayCause, IsReadied}
use Rattle.ps_replay.specs.Dealings.{Dealings, MetWithKeeper, FileFailed, ReadFailed, WriteFailed, KeeperFailed, KeeperWasFull}
use Rattle.ps_replay.specs.Dealings.{IsQuiet, IsUntouched, most_notes, IsFullAlone}

-- ---- the notes of the script that the input has, behind those that are kept

-- together with these, which were loaded, they are few enough
abbrev pub IsRoomFor : List Note → List Note → Type 0
IsRoomFor loaded more = length loaded + length more ≤ most_notes

-- all of it: they are kept, and the whole transcript was written
pub record IsArchived (config : Settings) (dex : Tables) (loaded : List Note) (dealings : Dealings) (bytes : List ℕ) : Type 0 where
  pub transcript : IsTranscript config dex dealings.written dealings.written_after bytes
  pub items : List Item
  pub script : IsScript (symbols_of config.groups) bytes items
  pub room : IsRoomFor loaded (notes (setup_of config dex items) items)
  pub noted : dealings.kept_after ≡ after_notes (notes (setup_of config dex items) items) dealings.kept

-- they are kept, and a front of the transcript was written
pub record IsNoted (config : Settings) (dex : Tables) (loaded : List Note) (dealings : Dealings) (bytes : List ℕ) : Type 0 where
  pub items : List Item
  pub script : IsScript (symbols_of config.groups) bytes items
  pub room : IsRoomFor loaded (notes (setup_of config dex items) items)
  pub noted : dealings.kept_after ≡ after_notes (notes (setup_of config dex items) items) dealings.kept
  pub front : AppendsFront dealings.written dealings.written_after (output (setup_of config dex items) items)

-- some first ones of them are kept, or none, and nothing was written
pub record IsNotedInPart (config : Settings) (dex : Tables) (loaded : List Note) (dealings : Dealings) (bytes : List ℕ) : Type 0 where
  pub items : List Item
  pub script : IsScript (symbols_of config.groups) bytes items
  pub room : IsRoomFor loaded (notes (setup_of config dex items) items)
  pub noted : AppendsSome dealings.kept dealings.kept_after (notes (setup_of config dex items) items)
  pub nothing : Keeps dealings.written dealings.written_after

-- with the loaded ones they would be more than there may be, and this is their number, or the greatest that a count has
pub record IsOver (config : Settings) (dex : Tables) (loaded : List Note) (count : ℕ) (bytes : List ℕ) : Type 0 where
  pub items : List Item
  pub script : IsScript (symbols_of config.groups) bytes items
  pub over : most_notes < length loaded + length (notes (setup_of config dex items) items)
  pub count_is : count ≡ counted (length loaded + length (notes (setup_of config dex items) items))

-- how an archive ends whose files are good and whose notes were loaded, by what is left of the input, where it is known
abbrev pub InputEnds : Settings → Tables → List Note → Option (List ℕ) → Type 0 → Dealings → Status → Type 0
InputEnds config dex loaded left read_fault dealings Done = IfSome left (IsArchived config dex loaded dealings)
InputEnds config dex loaded left read_fault dealings (Usage word) = ⊥
InputEnds config dex loaded left read_fault dealings (FileMissing name) = ⊥
InputEnds config dex loaded left read_fault dealings (FileFault name) = ⊥
InputEnds config dex loaded left read_fault dealings (FileLong name) = ⊥
InputEnds config dex loaded left read_fault dealings (BadDex path kind) = ⊥
InputEnds config dex loaded left read_fault dealings (BadConfig path kind) = ⊥
InputEnds config dex loaded left read_fault dealings (BadScript line kind) = IsQuiet dealings
    × IfSome left (IsBadScript config.groups line kind)
InputEnds config dex loaded left read_fault dealings (ScriptLong count) = IsQuiet dealings
    × IfSome left (λ bytes. long_of bytes ≡ Some count)
InputEnds config dex loaded left read_fault dealings ReadFault = IsQuiet dealings × read_fault
InputEnds config dex loaded left read_fault dealings WriteFault = IfSome left (IsNoted config dex loaded dealings) × WriteFailed dealings
InputEnds config dex loaded left read_fault dealings (BadTeam set rule subject) = ⊥
InputEnds config dex loaded left read_fault dealings NoMemory = IsQuiet dealings
    ⊎ (IfSome left (IsNotedInPart config dex loaded dealings) ⊎ IfSome left (IsNoted config dex loaded dealings))
InputEnds config dex loaded left read_fault dealings DoorFault = ⊥
InputEnds config dex loaded left read_fault dealings (UnknownFormat id) = ⊥
InputEnds config dex loaded left read_fault dealings (BadPack at kind) = ⊥
InputEnds config dex loaded left read_fault dealings NoTour = ⊥
InputEnds config dex loaded left read_fault dealings KeepFault = IfSome left (IsNotedInPart config dex loaded dealings)
    × KeeperFailed dealings
InputEnds config dex loaded left read_fault dealings (KeepFull count) = IsQuiet dealings × IfSome left (IsOver config dex loaded count)
InputEnds config dex loaded left read_fault dealings (BadExport line) = ⊥
InputEnds config dex loaded left read_fault dealings (NoExport set) = ⊥

-- ---- all of it

-- these notes were loaded: those that are kept, where they are known, and no more than there may be
pub record IsLoaded (kept : Option (List Note)) (loaded : List Note) : Type 0 where
  pub are : IfSome kept (λ notes. loaded ≡ notes)
  pub few : length loaded ≤ most_notes

-- the files are good, and notes were loaded
abbrev pub LoadedEnds : Options → MetWithKeeper → Status → Type 0
LoadedEnds options run status = (loaded : List Note) × IsLoaded run.dealings.kept loaded
    × HasSetup run.contents options (λ config dex. InputEnds config dex loaded run.left (ReadFailed run) run.dealings status)

-- a file stopped it, as it stops a replay
abbrev pub StoppedBy : Options → MetWithKeeper → Status → Type 0
StoppedBy options run status = IsUntouched run × ReplayCause run.contents options run.left run.counts run.counts_after status

-- Each status, with what has shown it, what was written, and which notes are kept. The keeper is asked once the files are good, and
-- before the input is read.
abbrev pub ArchiveEnds : Options → MetWithKeeper → Status → Type 0
ArchiveEnds options run Done = LoadedEnds options run Done
ArchiveEnds options run (Usage word) = ⊥
ArchiveEnds options run (FileMissing name) = StoppedBy options run (FileMissing name)
ArchiveEnds options run (FileFault name) = StoppedBy options run (FileFault name)
ArchiveEnds options run (FileLong name) = StoppedBy options run (FileLong name)
ArchiveEnds options run (BadDex path kind) = StoppedBy options run (BadDex path kind)
ArchiveEnds options run (BadConfig path kind) = StoppedBy options run (BadConfig path kind)
ArchiveEnds options run (BadScript line kind) = LoadedEnds options run (BadScript line kind)
ArchiveEnds options run (ScriptLong count) = LoadedEnds options run (ScriptLong count)
ArchiveEnds options run ReadFault = LoadedEnds options run ReadFault
ArchiveEnds options run WriteFault = LoadedEnds options run WriteFault
ArchiveEnds options run (BadTeam set rule subject) = ⊥
ArchiveEnds options run NoMemory = IsUntouched run ⊎ LoadedEnds options run NoMemory
ArchiveEnds options run DoorFault = ⊥
ArchiveEnds options run (UnknownFormat id) = ⊥
ArchiveEnds options run (BadPack at kind) = ⊥
ArchiveEnds options run NoTour = ⊥
ArchiveEnds options run KeepFault = (IsUntouched run × KeeperFailed run.dealings × HasSetup run.contents options IsGood)
    ⊎ LoadedEnds options run KeepFault
ArchiveEnds options run (KeepFull count) = (IsFullAlone run count × HasSetup run.contents options IsGood)
    ⊎ LoadedEnds options run (KeepFull count)
ArchiveEnds options run (BadExport line) = ⊥
ArchiveEnds options run (NoExport set) = ⊥

-- ---- completeness

-- the loaded and the new notes together are too many
abbrev pub IsOverFull : Options → MetWithKeeper → Status → Type 0
IsOverFull options run status = (count : ℕ) × (status ≡ KeepFull count) × LoadedEnds options run (KeepFull count)

-- What settles a replay, with a keeper that neither fails nor has too many notes already, settles an archive, unless the notes become
-- too many.
abbrev pub SettlesArchive : Options → MetWithKeeper → Status → Type 0
SettlesArchive options run status = IsReadied run.contents options run.left → (FileFailed run → ⊥) → (ReadFailed run → ⊥)
    → (WriteFailed run.dealings → ⊥)
    → (KeeperFailed run.dealings → ⊥) → (KeeperWasFull run.dealings → ⊥) → IsSettled status ⊎ IsOverFull options run status
