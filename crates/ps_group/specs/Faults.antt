-- What reading groups answers where only the group's index is reported.
use Rattle.std.specs.Prelude.{◌≡◌, List, Result, Ok, Err}
use Rattle.ps_data.specs.declared.fault.Fault.{Fault}
use Rattle.ps_data.specs.Paths.{first_index}
use Rattle.ps_group.specs.declared.group.Group.{Group}
use Rattle.ps_group.specs.declared.read.GroupFault.{GroupFault}
use Rattle.ps_group.specs.declared.read.GroupFault.TheVariants as faults

-- The groups, or else the index of the first that isn't in its form, 0 for the list itself, and why. Out of memory may
-- come in the place of either.
abbrev pub GivesGroups : Result (List Group) GroupFault → Result (List Group) Fault → Type 0
GivesGroups (Ok groups) read = read ≡ Ok groups
GivesGroups (Err faults.NoMemory) read = Unit {0}
GivesGroups (Err (faults.Fault index kind)) (Ok groups) = ⊥
GivesGroups (Err (faults.Fault index kind)) (Err fault) = (index ≡ first_index fault.path) × (kind ≡ fault.kind)
