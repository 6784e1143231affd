-- What a status says.
use Rattle.std.specs.Prelude.{◌≡◌, ◌⊎◌, ℕ, ◌≤◌, List, length, map, Option, Some, None, IfSome}
use Rattle.std.specs.Option.{IsSomeAnd}
use Rattle.std.specs.Io.KnownBytes.{Appends, Keeps}
use Rattle.ps_group.specs.declared.group.Group.{Group}
use Rattle.ps_outside.specs.Causes.{Rose}
use Rattle.ps_outside.specs.Files.{FileCounts}
use Rattle.ps_outside.specs.Sinks.{AppendsFront}
use Rattle.ps_dex.specs.declared.item.Tables.{Tables}
use Rattle.rules_config.specs.declared.settings.Settings.{Settings}
use Rattle.replay_script.specs.declared.item.Item.{Item}
use Rattle.replay_script.specs.declared.script.ScriptKind.{ScriptKind}
use Rattle.replay_script.specs.Scripts.{IsScript, IsFirstFault}
use Rattle.replay_script.specs.Limits.{long_of}
use Rattle.replay_state.specs.Setup.{setup_of}
use Rattle.replay_state.specs.Worlds.{Place, world_view}
use Rattle.replay_state.specs.Entries.{world_of}
use Rattle.replay_state.specs.Transcript.{messages, output, block}
use Rattle.replay_state.specs.OneEntry.{HasOneEntryEach, AreHistories}
use Rattle.replay_state.specs.TwoWorlds.{HasEqualBlocks}
use Rattle.replay_state.specs.WholeHall.{HasWholeHall}
use Rattle.program_commands.specs.declared.status.Status.{Status}
use Rattle.program_commands.specs.declared.status.Status.TheVariants.{Done, Usage, FileMissing, FileFault, FileLong, BadDex}
use Rattle.program_commands.specs.declared.status.Status.TheVariants.{BadConfig, BadScript, ScriptLong, ReadFault, WriteFault}
use Rattle.program_commands.specs.declared.status.Status.TheVariants.{BadTeam, NoMemory, DoorFault, UnknownFormat, BadPack, NoTour}
use Rattle.program_commands.specs.declared.status.Status.TheVariants.{KeepFault, KeepFull, BadExport, NoExport}
use Rattle.program_commands.specs.Words.{Options, IfReplay, words_in}
use Rattle.replay_drill.specs.Plain.{HasPlainFormats}
use Rattle.program_commands.specs.Rooms.{HasOwnRooms}
use Rattle.replay_read.specs.Readings.{IsReadBack}
use Rattle.program_commands.specs.Setups.{HasSetup, IsGood, Stops, IsOption, IsSettled, AreGood}

-- ---- the input

-- the symbols that the `G` lines of a script may have
abbrev pub symbols_of : List Group → List ℕ
symbols_of groups = map (λ group. group.symbol) groups

-- the input is within its limits, and some script
pub record IsReadable (groups : List Group) (bytes : List ℕ) : Type 0 where
  pub within : long_of bytes ≡ None
  pub items : List Item
  pub script : IsScript (symbols_of groups) bytes items

-- no script: the first line that can't stand in one, counted from 1, and what is wrong with it
pub record IsBadScript (groups : List Group) (line : ℕ) (kind : ScriptKind) (bytes : List ℕ) : Type 0 where
  pub within : long_of bytes ≡ None
  pub none : (items : List Item) → IsScript (symbols_of groups) bytes items → ⊥
  pub fault : IsFirstFault (symbols_of groups) bytes line kind

-- what is left of the input stays where the words or the files ended the run
abbrev pub KeepsInput : Option (List ℕ) → Option (List ℕ) → Status → Type 0
KeepsInput old new (Usage word) = new ≡ old
KeepsInput old new (FileMissing name) = new ≡ old
KeepsInput old new (FileFault name) = new ≡ old
KeepsInput old new (FileLong name) = new ≡ old
KeepsInput old new (BadDex path kind) = new ≡ old
KeepsInput old new (BadConfig path kind) = new ≡ old
KeepsInput old new Done = Unit {0}
KeepsInput old new (BadScript line kind) = Unit {0}
KeepsInput old new (ScriptLong count) = Unit {0}
KeepsInput old new ReadFault = Unit {0}
KeepsInput old new WriteFault = Unit {0}
KeepsInput old new (BadTeam set rule subject) = new ≡ old
KeepsInput old new NoMemory = Unit {0}
KeepsInput old new DoorFault = new ≡ old
KeepsInput old new (UnknownFormat id) = new ≡ old
KeepsInput old new (BadPack at kind) = new ≡ old
KeepsInput old new NoTour = new ≡ old
KeepsInput old new KeepFault = Unit {0}
KeepsInput old new (KeepFull count) = Unit {0}
KeepsInput old new (BadExport line) = new ≡ old
KeepsInput old new (NoExport set) = new ≡ old

-- ---- what was written

-- All of the transcript of the one script, and nothing else. Each connection's block from a place is its view there, and that is what a
-- reader of the transcript finds.
pub record IsTranscript (config : Settings) (dex : Tables) (old new : Option (List ℕ)) (bytes : List ℕ) : Type 0 where
  pub within : long_of bytes ≡ None
  pub items : List Item
  pub script : IsScript (symbols_of config.groups) bytes items
  pub wrote : Appends old new (output (setup_of config dex items) items)
  pub blocks : (conn : ℕ) (place : Place) → block conn place (messages (setup_of config dex items) items)
      ≡ world_view conn place (world_of (setup_of config dex items) items)
  pub read : IsReadBack (setup_of config dex items) items

-- each text of the script is one entry
abbrev pub HasOneEntryEachText : Settings → Tables → List ℕ → Type 0
HasOneEntryEachText config dex bytes = (items : List Item) → IsScript (symbols_of config.groups) bytes items
    → HasOneEntryEach (setup_of config dex items) items

-- and these entries, in order, are the history of each place
abbrev pub HasHistories : Settings → Tables → List ℕ → Type 0
HasHistories config dex bytes = (items : List Item) → IsScript (symbols_of config.groups) bytes items
    → AreHistories (setup_of config dex items) items

-- in the hall each match started its battle, and each won report of a rated battle counts
abbrev pub HallLosesNothing : Settings → Tables → List ℕ → Type 0
HallLosesNothing config dex bytes = (items : List Item) → IsScript (symbols_of config.groups) bytes items → HasWholeHall config dex items

-- a connection's block from the hall or a room is the same for every script whose world there is the same to it
abbrev pub HasEqualWorlds : Settings → Tables → List ℕ → Type 0
HasEqualWorlds config dex bytes = (items : List Item) → IsScript (symbols_of config.groups) bytes items → HasEqualBlocks config dex items

-- what a replay of these bytes has shown at Done
pub record IsReplayed (config : Settings) (dex : Tables) (old new : Option (List ℕ)) (bytes : List ℕ) : Type 0 where
  pub transcript : IsTranscript config dex old new bytes
  pub one_entry : HasOneEntryEachText config dex bytes
  pub histories : HasHistories config dex bytes
  pub hall : HallLosesNothing config dex bytes
  pub two_worlds : HasEqualWorlds config dex bytes

-- of the dex and the configuration that a replay with these options ran under, and of its input, if it is known, this holds at Done
abbrev pub AtDone : Option (List ℕ → Option (List ℕ)) → Option (List ℕ) → Status → Options → (Settings → Tables → List ℕ → Type 0) → Type 0
AtDone contents left status options Says = status ≡ Done → HasSetup contents options (λ config dex. IfSome left (Says config dex))

-- the same of these words, if they ask for a replay
abbrev pub AtDoneOfReplay : List (List ℕ) → Option (List ℕ → Option (List ℕ)) → Option (List ℕ) → Status
    → (Settings → Tables → List ℕ → Type 0) → Type 0
AtDoneOfReplay words contents left status Says = IfReplay (words_in words) (λ options. AtDone contents left status options Says)

-- a front of the transcript
pub record WritesFront (config : Settings) (dex : Tables) (old new : Option (List ℕ)) (bytes : List ℕ) : Type 0 where
  pub within : long_of bytes ≡ None
  pub items : List Item
  pub script : IsScript (symbols_of config.groups) bytes items
  pub front : AppendsFront old new (output (setup_of config dex items) items)

-- what was written at a status other than Done, where the input is known: nothing before the whole script was read,
-- and then a front
abbrev pub FrontOf : Settings → Tables → Option (List ℕ) → Option (List ℕ) → Option (List ℕ) → Type 0
FrontOf config dex left old new = IfSome left (WritesFront config dex old new)

abbrev pub WritesPrefix : Option (List ℕ → Option (List ℕ)) → Options → Option (List ℕ) → Option (List ℕ) → Option (List ℕ) → Status
    → Type 0
WritesPrefix contents options left old new Done = Unit {0}
WritesPrefix contents options left old new (Usage word) = Keeps old new
WritesPrefix contents options left old new (FileMissing name) = Keeps old new
WritesPrefix contents options left old new (FileFault name) = Keeps old new
WritesPrefix contents options left old new (FileLong name) = Keeps old new
WritesPrefix contents options left old new (BadDex path kind) = Keeps old new
WritesPrefix contents options left old new (BadConfig path kind) = Keeps old new
WritesPrefix contents options left old new (BadScript line kind) = Keeps old new
WritesPrefix contents options left old new (ScriptLong count) = Keeps old new
WritesPrefix contents options left old new ReadFault = Keeps old new
WritesPrefix contents options left old new WriteFault = HasSetup contents options (λ config dex. FrontOf config dex left old new)
WritesPrefix contents options left old new (BadTeam set rule subject) = Keeps old new
WritesPrefix contents options left old new NoMemory = Keeps old new
    ⊎ HasSetup contents options (λ config dex. FrontOf config dex left old new)
WritesPrefix contents options left old new DoorFault = Keeps old new
WritesPrefix contents options left old new (UnknownFormat id) = Keeps old new
WritesPrefix contents options left old new (BadPack at kind) = Keeps old new
WritesPrefix contents options left old new NoTour = Keeps old new
WritesPrefix contents options left old new KeepFault = Keeps old new
WritesPrefix contents options left old new (KeepFull count) = Keeps old new
WritesPrefix contents options left old new (BadExport line) = Keeps old new
WritesPrefix contents options left old new (NoExport set) = Keeps old new

-- ---- the cause of a status of a replay

-- what has shown each. A status of a file names one of the files of the words, and its count rose.
abbrev pub ReplayCause : Option (List ℕ → Option (List ℕ)) → Options → Option (List ℕ) → FileCounts → FileCounts → Status → Type 0
ReplayCause contents options left old new Done = HasSetup contents options IsGood
ReplayCause contents options left old new (Usage word) = ⊥
ReplayCause contents options left old new (FileMissing name) = Stops contents options (FileMissing name) × IsOption options name
    × Rose old.missing new.missing
ReplayCause contents options left old new (FileFault name) = Stops contents options (FileFault name) × IsOption options name
    × Rose old.faults new.faults
ReplayCause contents options left old new (FileLong name) = Stops contents options (FileLong name) × IsOption options name
    × Rose old.long new.long
ReplayCause contents options left old new (BadDex path kind) = Stops contents options (BadDex path kind)
ReplayCause contents options left old new (BadConfig path kind) = Stops contents options (BadConfig path kind)
ReplayCause contents options left old new (BadScript line kind) = HasSetup contents options
    (λ config dex. IfSome left (IsBadScript config.groups line kind))
ReplayCause contents options left old new (ScriptLong count) = HasSetup contents options IsGood
    × IfSome left (λ bytes. long_of bytes ≡ Some count)
ReplayCause contents options left old new ReadFault = HasSetup contents options IsGood
ReplayCause contents options left old new WriteFault = HasSetup contents options IsGood
ReplayCause contents options left old new (BadTeam set rule subject) = ⊥
ReplayCause contents options left old new NoMemory = Unit {0}
ReplayCause contents options left old new DoorFault = ⊥
ReplayCause contents options left old new (UnknownFormat id) = ⊥
ReplayCause contents options left old new (BadPack at kind) = ⊥
ReplayCause contents options left old new NoTour = ⊥
ReplayCause contents options left old new KeepFault = ⊥
ReplayCause contents options left old new (KeepFull count) = ⊥
ReplayCause contents options left old new (BadExport line) = ⊥
ReplayCause contents options left old new (NoExport set) = ⊥

-- ---- completeness

-- they are, and the input is known, within its limits and a script
pub record IsReadied (contents : Option (List ℕ → Option (List ℕ))) (options : Options) (left : Option (List ℕ)) : Type 0 where
  pub files : AreGood contents options
  pub script : IsSomeAnd left (IsReadable files.config.groups)

-- that, with no fault of the files, the source or the sink, settles a run
abbrev pub Settles : Option (List ℕ → Option (List ℕ)) → Options → Option (List ℕ) → Type 0 → Type 0 → Type 0 → Status → Type 0
Settles contents options left file_fault read_fault write_fault status = IsReadied contents options left → (file_fault → ⊥)
    → (read_fault → ⊥) → (write_fault → ⊥) → IsSettled status

-- ---- for the code alone

-- what is known of each configuration that a command reads
pub record IsReadConfig (config : Settings) : Type 0 where
  pub few : length config.rooms ≤ 16
  pub rooms : HasOwnRooms config
  pub formats : HasPlainFormats config

-- a status that the words and the files have no part in
abbrev pub IsOfInput : Status → Type 0
IsOfInput Done = Unit {0}
IsOfInput (Usage word) = ⊥
IsOfInput (FileMissing name) = ⊥
IsOfInput (FileFault name) = ⊥
IsOfInput (FileLong name) = ⊥
IsOfInput (BadDex path kind) = ⊥
IsOfInput (BadConfig path kind) = ⊥
IsOfInput (BadScript line kind) = Unit {0}
IsOfInput (ScriptLong count) = Unit {0}
IsOfInput ReadFault = Unit {0}
IsOfInput WriteFault = Unit {0}
IsOfInput (BadTeam set rule subject) = ⊥
IsOfInput NoMemory = Unit {0}
IsOfInput DoorFault = ⊥
IsOfInput (UnknownFormat id) = ⊥
IsOfInput (BadPack at kind) = ⊥
IsOfInput NoTour = ⊥
IsOfInput KeepFault = ⊥
IsOfInput (KeepFull count) = ⊥
IsOfInput (BadExport line) = ⊥
IsOfInput (NoExport set) = ⊥

-- what has shown a status of the input, where it is known
abbrev pub InputCause : List Group → Option (List ℕ) → Status → Type 0
InputCause groups left (BadScript line kind) = IfSome left (IsBadScript groups line kind)
InputCause groups left (ScriptLong count) = IfSome left (λ bytes. long_of bytes ≡ Some count)
InputCause groups left Done = Unit {0}
InputCause groups left (Usage word) = Unit {0}
InputCause groups left (FileMissing name) = Unit {0}
InputCause groups left (FileFault name) = Unit {0}
InputCause groups left (FileLong name) = Unit {0}
InputCause groups left (BadDex path kind) = Unit {0}
InputCause groups left (BadConfig path kind) = Unit {0}
InputCause groups left ReadFault = Unit {0}
InputCause groups left WriteFault = Unit {0}
InputCause groups left (BadTeam set rule subject) = Unit {0}
InputCause groups left NoMemory = Unit {0}
InputCause groups left DoorFault = Unit {0}
InputCause groups left (UnknownFormat id) = Unit {0}
InputCause groups left (BadPack at kind) = Unit {0}
InputCause groups left NoTour = Unit {0}
InputCause groups left KeepFault = Unit {0}
InputCause groups left (KeepFull count) = Unit {0}
InputCause groups left (BadExport line) = Unit {0}
InputCause groups left (NoExport set) = Unit {0}

-- what was written at a status of the input
abbrev pub WritesOfInput : Settings → Tables → Option (List ℕ) → Option (List ℕ) → Option (List ℕ) → Status → Type 0
WritesOfInput config dex left old new WriteFault = FrontOf config dex left old new
WritesOfInput config dex left old new NoMemory = Keeps old new ⊎ FrontOf config dex left old new
WritesOfInput config dex left old new Done = Unit {0}
WritesOfInput config dex left old new other = Keeps old new

-- completeness, from the input on
abbrev pub SettlesInput : List Group → Option (List ℕ) → Type 0 → Type 0 → Status → Type 0
SettlesInput groups left read_fault write_fault status = IsSomeAnd left (IsReadable groups) → (read_fault → ⊥) → (write_fault → ⊥)
    → IsSettled status
