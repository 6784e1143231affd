-- What the words name: each file, where what is under each name is given by `lookup`.
use Rattle.std.specs.Prelude.{◌≡◌, ℕ, List, length, nat_le, Option, Some, None, Result, Ok, Err, if◌then◌else◌}
use Rattle.ps_data.specs.Paths.{path_text}
use Rattle.ps_data.specs.declared.fault.Fault.{Fault}
use Rattle.ps_dex.specs.declared.item.Tables.{Tables}
use Rattle.ps_dex.specs.Tables.{tables_of}
use Rattle.ps_dex.specs.Lookups.{no_tables}
use Rattle.rules_config.specs.declared.settings.Settings.{Settings}
use Rattle.rules_config.specs.Reading.{config_of}
use Rattle.rules_config.specs.Standard.{standard}
use Rattle.program_commands.specs.declared.status.Status.{Status}
use Rattle.program_commands.specs.declared.status.Status.TheVariants.{FileMissing, FileFault, FileLong, BadDex, BadConfig}

abbrev pub most_dex : ℕ
most_dex = 16777216

abbrev pub most_config : ℕ
most_config = 1048576

-- the bytes of a file, or why it has none within its limit
abbrev pub within : ℕ → List ℕ → Option (List ℕ) → Result (List ℕ) Status
within limit name None = Err (FileMissing name)
within limit name (Some bytes) = if nat_le (length bytes) limit then Ok bytes else Err (FileLong name)

-- what is read of the bytes of a file, if it has them
abbrev pub from_file : {A : Type 0} → (List ℕ → Result A Status) → Result (List ℕ) Status → Result A Status
from_file read (Ok bytes) = read bytes
from_file read (Err status) = Err status

abbrev pub dex_read : Result Tables Fault → Result Tables Status
dex_read (Ok dex) = Ok dex
dex_read (Err fault) = Err (BadDex (path_text fault.path) fault.kind)

abbrev pub dex_of : List ℕ → Result Tables Status
dex_of bytes = dex_read (tables_of bytes)

-- the dex: nothing is said in it where no file is named
abbrev pub dex_in : (List ℕ → Option (List ℕ)) → Option (List ℕ) → Result Tables Status
dex_in lookup None = Ok no_tables
dex_in lookup (Some name) = from_file dex_of (within most_dex name (lookup name))

abbrev pub config_read : Result Settings Fault → Result Settings Status
config_read (Ok settings) = Ok settings
config_read (Err fault) = Err (BadConfig (path_text fault.path) fault.kind)

abbrev pub settings_of : Tables → List ℕ → Result Settings Status
settings_of dex bytes = config_read (config_of dex bytes)

-- the configuration over a dex: the standard one where no file is named
abbrev pub config_in : (List ℕ → Option (List ℕ)) → Tables → Option (List ℕ) → Result Settings Status
config_in lookup dex None = Ok standard
config_in lookup dex (Some name) = from_file (settings_of dex) (within most_config name (lookup name))

-- the file that is read fails
abbrev pub IsFaultOf : Option (List ℕ) → Status → Type 0
IsFaultOf None status = ⊥
IsFaultOf (Some name) status = status ≡ FileFault name
