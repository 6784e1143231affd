-- What resolving answers.
use Rattle.std.specs.Prelude.{Option, Some, None, Result}
use Rattle.ps_data.specs.Reading.{Returns}
use Rattle.ps_rules.specs.declared.fault.RuleFault.{RuleFault}
use Rattle.ps_rules.specs.declared.fault.RuleFault.TheVariants.{UnknownRule, Cycle, Contradiction, NoMemory}

-- the fault of a walk that an error tells
abbrev pub walk_fault : RuleFault → Option RuleFault
walk_fault NoMemory = None
walk_fault (UnknownRule id) = Some (UnknownRule id)
walk_fault (Cycle id) = Some (Cycle id)
walk_fault (Contradiction id) = Some (Contradiction id)

-- What was found, or the first fault of the walk. Out of memory may come in the place of either.
abbrev pub Finds : {A : Type 0} → Result A RuleFault → Result A RuleFault → Type 0
Finds result found = Returns (λ value. value) walk_fault result found
