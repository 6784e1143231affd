-- How a server ends.
use Rattle.std.specs.Prelude.{◌≡◌, ℕ, zero, suc, List, Option, Result, Ok, Err}
use Rattle.ps_outside.specs.Causes.{Rose}
use Rattle.ps_outside.specs.Counts.{one_more}
use Rattle.ps_outside.specs.Files.{FileCounts}
use Rattle.program_commands.specs.declared.status.Status.{Status}
use Rattle.program_commands.specs.declared.status.Status.TheVariants.{Done, Usage, FileMissing, FileFault, FileLong, BadDex}
use Rattle.program_commands.specs.declared.status.Status.TheVariants.{BadConfig, BadScript, ScriptLong, ReadFault, WriteFault}
use Rattle.program_commands.specs.declared.status.Status.TheVariants.{BadTeam, NoMemory, DoorFault, UnknownFormat, BadPack, NoTour}
use Rattle.program_commands.specs.declared.status.Status.TheVariants.{KeepFault, KeepFull, BadExport, NoExport}
use Rattle.program_commands.specs.Words.{Options, Serves}
use Rattle.rules_config.specs.declared.fresh.Fresh.{Fresh}
use Rattle.rules_config.specs.Fresh.{with_fresh}
use Rattle.ps_hub.specs.Hubs.{Hub}
use Rattle.program_commands.specs.Setups.{HasSetup, IsGood, Stops, IsOption, AreGood, IsSettled}

-- what holds where the words ask for a server
abbrev pub IfServe : Result Serves ℕ → (Serves → Type 0) → Type 0
IfServe (Ok words) holds = holds words
IfServe (Err at) holds = Unit {0}

-- how many links a door has handed out, after so many more
abbrev pub given_by : ℕ → ℕ → ℕ
given_by zero given = given
given_by (suc more) given = one_more (given_by more given)

-- What has shown each status. That of a file names one of the files of the words, and its count rose; at the last three the
-- files are good.
abbrev pub ServeCause : Option (List ℕ → Option (List ℕ)) → Options → FileCounts → FileCounts → Status → Type 0
ServeCause contents options old new (FileMissing name) = Stops contents options (FileMissing name) × IsOption options name
    × Rose old.missing new.missing
ServeCause contents options old new (FileFault name) = Stops contents options (FileFault name) × IsOption options name
    × Rose old.faults new.faults
ServeCause contents options old new (FileLong name) = Stops contents options (FileLong name) × IsOption options name
    × Rose old.long new.long
ServeCause contents options old new (BadDex path kind) = Stops contents options (BadDex path kind)
ServeCause contents options old new (BadConfig path kind) = Stops contents options (BadConfig path kind)
ServeCause contents options old new NoMemory = Unit {0}
ServeCause contents options old new Done = HasSetup contents options IsGood
ServeCause contents options old new DoorFault = HasSetup contents options IsGood
ServeCause contents options old new (Usage word) = ⊥
ServeCause contents options old new (BadScript line kind) = ⊥
ServeCause contents options old new (ScriptLong count) = ⊥
ServeCause contents options old new ReadFault = ⊥
ServeCause contents options old new WriteFault = ⊥
ServeCause contents options old new (BadTeam set rule subject) = ⊥
ServeCause contents options old new (UnknownFormat id) = ⊥
ServeCause contents options old new (BadPack at kind) = ⊥
ServeCause contents options old new NoTour = ⊥
ServeCause contents options old new KeepFault = ⊥
ServeCause contents options old new (KeepFull count) = ⊥
ServeCause contents options old new (BadExport line) = ⊥
ServeCause contents options old new (NoExport set) = ⊥

-- where the words or the files ended it, the door was asked nothing: of its faults and of the links that it handed out, the
-- counts before and after
abbrev pub KeepsDoor : ℕ → ℕ → ℕ → ℕ → Status → Type 0
KeepsDoor faults later given now (Usage word) = (later ≡ faults) × (now ≡ given)
KeepsDoor faults later given now (FileMissing name) = (later ≡ faults) × (now ≡ given)
KeepsDoor faults later given now (FileFault name) = (later ≡ faults) × (now ≡ given)
KeepsDoor faults later given now (FileLong name) = (later ≡ faults) × (now ≡ given)
KeepsDoor faults later given now (BadDex path kind) = (later ≡ faults) × (now ≡ given)
KeepsDoor faults later given now (BadConfig path kind) = (later ≡ faults) × (now ≡ given)
KeepsDoor faults later given now other = Unit {0}

-- good files, with no fault of the files or the door, settle a server
abbrev pub SettlesServe : Option (List ℕ → Option (List ℕ)) → Options → Type 0 → Type 0 → Status → Type 0
SettlesServe contents options file_fault door_fault status = AreGood contents options → (file_fault → ⊥) → (door_fault → ⊥)
    → IsSettled status

-- ---- a server that stays up

-- The hub of a server that stays up: of the configuration and the dex that the words and the files give, with a fresh nonce and seed
-- where the configuration's file says none.
abbrev pub IsFreshHub : Option (List ℕ → Option (List ℕ)) → Options → Fresh → Hub → Type 0
IsFreshHub contents options fresh hub = HasSetup contents options (λ config dex. (hub.config ≡ with_fresh fresh config) × (hub.dex ≡ dex))

-- a status that the files have shown, or want of memory
abbrev pub IsOfFiles : Status → Type 0
IsOfFiles (FileMissing name) = Unit {0}
IsOfFiles (FileFault name) = Unit {0}
IsOfFiles (FileLong name) = Unit {0}
IsOfFiles (BadDex path kind) = Unit {0}
IsOfFiles (BadConfig path kind) = Unit {0}
IsOfFiles NoMemory = Unit {0}
IsOfFiles Done = ⊥
IsOfFiles (Usage word) = ⊥
IsOfFiles DoorFault = ⊥
IsOfFiles (BadScript line kind) = ⊥
IsOfFiles (ScriptLong count) = ⊥
IsOfFiles ReadFault = ⊥
IsOfFiles WriteFault = ⊥
IsOfFiles (BadTeam set rule subject) = ⊥
IsOfFiles (UnknownFormat id) = ⊥
IsOfFiles (BadPack at kind) = ⊥
IsOfFiles NoTour = ⊥
IsOfFiles KeepFault = ⊥
IsOfFiles (KeepFull count) = ⊥
IsOfFiles (BadExport line) = ⊥
IsOfFiles (NoExport set) = ⊥

-- where good files, with no fault of the files, end so, memory was refused
abbrev pub SettlesFiles : Option (List ℕ → Option (List ℕ)) → Options → Type 0 → Status → Type 0
SettlesFiles contents options file_fault status = AreGood contents options → (file_fault → ⊥) → IsSettled status

-- ---- for the code alone

-- a status that the words and the files have no part in
abbrev pub IsOfDoor : Status → Type 0
IsOfDoor Done = Unit {0}
IsOfDoor DoorFault = Unit {0}
IsOfDoor NoMemory = Unit {0}
IsOfDoor (Usage word) = ⊥
IsOfDoor (FileMissing name) = ⊥
IsOfDoor (FileFault name) = ⊥
IsOfDoor (FileLong name) = ⊥
IsOfDoor (BadDex path kind) = ⊥
IsOfDoor (BadConfig path kind) = ⊥
IsOfDoor (BadScript line kind) = ⊥
IsOfDoor (ScriptLong count) = ⊥
IsOfDoor ReadFault = ⊥
IsOfDoor WriteFault = ⊥
IsOfDoor (BadTeam set rule subject) = ⊥
IsOfDoor (UnknownFormat id) = ⊥
IsOfDoor (BadPack at kind) = ⊥
IsOfDoor NoTour = ⊥
IsOfDoor KeepFault = ⊥
IsOfDoor (KeepFull count) = ⊥
IsOfDoor (BadExport line) = ⊥
IsOfDoor (NoExport set) = ⊥
