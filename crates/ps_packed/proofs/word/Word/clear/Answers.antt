use Rattle.std.proofs.Common.{List, ℕ, sym, subst}
use Rattle.ps_packed.specs.Scan.{CountsOf}
use Rattle.ps_packed.proofs.Counts.{counts_none}
use Rattle.ps_packed.proofs.word.Word.clear.Goals as goal

pub invariant_of-self : goal.invariant_of-self
invariant_of-self c = subst (λ (w : List ℕ). CountsOf w 0 0) (sym c.clear.ensures.items) counts_none
