use Rattle.ps_rules.proofs.StackLemmas.{Stands}
use Rattle.ps_rules.proofs.StepLemmas.{work}
use Rattle.ps_rules.proofs.walk.walk.Given as goal

abbrev pub invariant-steps : goal.invariant-steps
invariant-steps l = Stands l.sets l.rules l.marks l.frame l.waiting.items

abbrev pub decreases-steps : goal.decreases-steps
decreases-steps l = work l.sets l.rules l.marks l.frame l.waiting.items
