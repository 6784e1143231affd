-- What the code keeps of a path.
use Rattle.std.specs.Prelude.{List, map, reverse, string_bytes}
use Rattle.ps_data.specs.Paths.{Step, Key, Index}
use Rattle.ps_data.specs.declared.fault.Part.{Part}
use Rattle.ps_data.specs.declared.fault.Part.TheVariants as parts

abbrev pub step_of : Part → Step
step_of (parts.Key key) = Key (string_bytes key)
step_of (parts.Index index) = Index index

-- the steps, outermost first, of parts that stand innermost first
abbrev pub steps_of : List Part → List Step
steps_of parts = reverse (map step_of parts)
