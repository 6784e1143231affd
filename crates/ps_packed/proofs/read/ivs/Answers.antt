use Rattle.std.proofs.Common.{◌≡◌, ◌==◌, length, false, List, ℕ, Bor, sym, subst}
use Rattle.ps_packed.proofs.Reading.{AreSix, not_empty, ivs_six}
use Rattle.ps_packed.proofs.read.ivs.Goals as goal

are_six : (c : goal.After-deref) → AreSix 31 c.deref.result.now
are_six c =
    let some : (length c.args.word.now == 0) ≡ false = cc in
    subst (λ (ps : List (Bor (List ℕ))). AreSix 31 ps) (sym c.deref.ensures.value) (ivs_six c.args.word.now c.in_ok-parts.parts.items c.requires (not_empty c.args.word.now some) c.in_ok-parts.ensures)

pub six_ivs-requires-clause-six : goal.six_ivs-requires-clause-six
six_ivs-requires-clause-six c = (are_six c).six

pub six_ivs-requires-clause-numbers : goal.six_ivs-requires-clause-numbers
six_ivs-requires-clause-numbers c = (are_six c).numbers
