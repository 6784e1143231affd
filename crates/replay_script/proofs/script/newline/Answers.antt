use Rattle.std.proofs.Common.{arith}
use Rattle.std.proofs.lemmas.Bool.{eq-eqb}
use Rattle.replay_script.proofs.script.newline.Goals as goal

pub returns-in-None-clause-before : goal.returns-in-None-clause-before
returns-in-None-clause-before c = λ k low is. c.in-None.ensures k (omega arith) low (eq-eqb _ 10 is)

pub returns-in-Some-clause-before : goal.returns-in-Some-clause-before
returns-in-Some-clause-before c = λ k low is. c.in-Some.ensures.0.before k (omega arith) low (eq-eqb _ 10 is)
