-- The numbers of the statuses.
use Rattle.std.specs.Prelude.{ℕ}
use Rattle.program_commands.specs.declared.status.Status.{Status}
use Rattle.program_commands.specs.declared.status.Status.TheVariants.{Done, Usage, FileMissing, FileFault, FileLong, BadDex}
use Rattle.program_commands.specs.declared.status.Status.TheVariants.{BadConfig, BadScript, ScriptLong, ReadFault, WriteFault}
use Rattle.program_commands.specs.declared.status.Status.TheVariants.{BadTeam, NoMemory, DoorFault, UnknownFormat, BadPack, NoTour}
use Rattle.program_commands.specs.declared.status.Status.TheVariants.{KeepFault, KeepFull, BadExport, NoExport}

abbrev pub number_of : Status → ℕ
number_of Done = 0
number_of (Usage word) = 2
number_of (FileMissing name) = 3
number_of (FileFault name) = 4
number_of (FileLong name) = 5
number_of (BadDex path kind) = 6
number_of (BadConfig path kind) = 7
number_of (BadScript line kind) = 8
number_of (ScriptLong count) = 9
number_of ReadFault = 10
number_of WriteFault = 11
number_of (BadTeam set rule subject) = 12
number_of NoMemory = 13
number_of DoorFault = 14
number_of (UnknownFormat id) = 15
number_of (BadPack at kind) = 16
number_of NoTour = 18
number_of KeepFault = 19
number_of (KeepFull count) = 20
number_of (BadExport line) = 21
number_of (NoExport set) = 22
