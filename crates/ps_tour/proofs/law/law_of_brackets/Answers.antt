use Rattle.ps_tour.proofs.LawLemmas as laws
use Rattle.ps_tour.proofs.law.law_of_brackets.Goals as goal

pub returns : goal.returns
returns c = laws.decided
