use Rattle.ps_choice.proofs.WantLemmas.{found-of, none-of}
use Rattle.ps_choice.proofs.wanted.read_choice.Goals as goal

pub returns-clause-found : goal.returns-clause-found
returns-clause-found c = found-of c.args.text.now c.wanted_in.result c.wanted_in.ensures

pub returns-clause-none : goal.returns-clause-none
returns-clause-none c = none-of c.args.text.now c.wanted_in.result c.wanted_in.ensures
