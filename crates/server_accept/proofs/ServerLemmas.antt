-- What a status of the door says of a server.
use Rattle.std.proofs.Common.{◌≡◌, ℕ, List, Option, Result, Ok}
use Rattle.ps_outside.specs.Files.{FileCounts}
use Rattle.program_commands.specs.declared.status.Status.{Status}
use Rattle.program_commands.specs.declared.status.Status.TheVariants.{Done, Usage, FileMissing, FileFault, FileLong, BadDex, BadConfig, BadScript, ScriptLong, ReadFault, WriteFault, BadTeam, NoMemory, DoorFault, UnknownFormat, BadPack, NoTour, KeepFault, KeepFull, BadExport, NoExport}
use Rattle.program_commands.specs.Words.{Options, Serves}
use Rattle.program_commands.specs.Setups.{HasSetup, IsGood, StepCause}
use Rattle.server_accept.specs.Servers.{IfServe, ServeCause, IsOfDoor, IsOfFiles}

-- good files are behind it
pub door_cause : (contents : Option (List ℕ → Option (List ℕ))) (o : Options) (old new : FileCounts) (status : Status) → HasSetup contents o IsGood → IsOfDoor status → ServeCause contents o old new status
door_cause contents o old new Done setup of = setup
door_cause contents o old new DoorFault setup of = setup
door_cause contents o old new NoMemory setup of = tt
door_cause contents o old new (Usage word) setup of = absurd of
door_cause contents o old new (FileMissing name) setup of = absurd of
door_cause contents o old new (FileFault name) setup of = absurd of
door_cause contents o old new (FileLong name) setup of = absurd of
door_cause contents o old new (BadDex path kind) setup of = absurd of
door_cause contents o old new (BadConfig path kind) setup of = absurd of
door_cause contents o old new (BadScript line kind) setup of = absurd of
door_cause contents o old new (ScriptLong count) setup of = absurd of
door_cause contents o old new ReadFault setup of = absurd of
door_cause contents o old new WriteFault setup of = absurd of
door_cause contents o old new (BadTeam set rule subject) setup of = absurd of
door_cause contents o old new (UnknownFormat id) setup of = absurd of
door_cause contents o old new (BadPack at kind) setup of = absurd of
door_cause contents o old new NoTour setup of = absurd of
door_cause contents o old new KeepFault setup of = absurd of
door_cause contents o old new (KeepFull count) setup of = absurd of
door_cause contents o old new (BadExport line) setup of = absurd of
door_cause contents o old new (NoExport set) setup of = absurd of

-- a step of the files ends in a status of theirs
pub step_of_files : (named : Option (List ℕ)) (old new : FileCounts) (status : Status) → StepCause named old new status → IsOfFiles status
step_of_files named old new Done cause = absurd cause
step_of_files named old new (Usage word) cause = absurd cause
step_of_files named old new (FileMissing name) cause = tt
step_of_files named old new (FileFault name) cause = tt
step_of_files named old new (FileLong name) cause = tt
step_of_files named old new (BadDex path kind) cause = tt
step_of_files named old new (BadConfig path kind) cause = tt
step_of_files named old new (BadScript line kind) cause = absurd cause
step_of_files named old new (ScriptLong count) cause = absurd cause
step_of_files named old new ReadFault cause = absurd cause
step_of_files named old new WriteFault cause = absurd cause
step_of_files named old new (BadTeam set rule subject) cause = absurd cause
step_of_files named old new NoMemory cause = tt
step_of_files named old new DoorFault cause = absurd cause
step_of_files named old new (UnknownFormat id) cause = absurd cause
step_of_files named old new (BadPack at kind) cause = absurd cause
step_of_files named old new NoTour cause = absurd cause
step_of_files named old new KeepFault cause = absurd cause
step_of_files named old new (KeepFull count) cause = absurd cause
step_of_files named old new (BadExport line) cause = absurd cause
step_of_files named old new (NoExport set) cause = absurd cause

-- what holds where the words ask for this
pub serves : (P : Serves → Type 0) (r : Result Serves ℕ) (words : Serves) → r ≡ Ok words → P words → IfServe r P
serves P r words is p = rw is p
