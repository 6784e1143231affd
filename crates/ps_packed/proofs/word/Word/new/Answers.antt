use Rattle.std.proofs.Common.{List, ℕ, sym, subst}
use Rattle.ps_packed.specs.Scan.{CountsOf}
use Rattle.ps_packed.proofs.Counts.{counts_none}
use Rattle.ps_packed.proofs.word.Word.new.Goals as goal

pub invariant_of-result : goal.invariant_of-result
invariant_of-result c = subst (λ (w : List ℕ). CountsOf w 0 0) (sym c.new.ensures.items) counts_none
