-- What reading a file answers.
use Rattle.std.specs.Prelude.{◌≡◌, Result, Ok, Err}
use Rattle.ps_data.specs.Paths.{path_text}
use Rattle.ps_data.specs.declared.fault.Fault.{Fault}
use Rattle.ps_data.specs.declared.fault.Refusal.{Refusal}
use Rattle.ps_data.specs.declared.fault.Refusal.TheVariants as refusals
use Rattle.ps_data.specs.declared.file_fault.FileFault.{FileFault}
use Rattle.ps_data.specs.declared.file_fault.FileFault.TheVariants as faults

-- the same fault with its path as a text; out of memory may come in its place
abbrev pub IsReported : Refusal → FileFault → Type 0
IsReported refusal faults.NoMemory = Unit {0}
IsReported refusals.NoMemory (faults.Fault path kind) = ⊥
IsReported (refusals.Fault fault) (faults.Fault path kind) = (path ≡ path_text fault.path) × (kind ≡ fault.kind)

-- What the file stands for, or else the path of its first fault as a text, and its kind. Out of memory may come in the
-- place of either.
abbrev pub GivesFile : {A : Type 0} → Result A FileFault → Result A Fault → Type 0
GivesFile (Ok value) read = read ≡ Ok value
GivesFile (Err faults.NoMemory) read = Unit {0}
GivesFile (Err (faults.Fault path kind)) (Ok value) = ⊥
GivesFile (Err (faults.Fault path kind)) (Err fault) = (path ≡ path_text fault.path) × (kind ≡ fault.kind)
