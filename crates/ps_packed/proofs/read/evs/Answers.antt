use Rattle.std.proofs.Common.{◌≡◌, ◌==◌, length, false, List, ℕ, Bor, sym, subst}
use Rattle.ps_packed.specs.Forms.{is_zero}
use Rattle.ps_packed.proofs.Reading.{AreSix, not_empty, evs_six}
use Rattle.ps_packed.proofs.read.evs.Goals as goal

are_six : (c : goal.After-deref) → AreSix 255 c.deref.result.now
are_six c =
    let some : (length c.args.word.now == 0) ≡ false = cc in
    let not_zero : is_zero c.args.word.now ≡ false = cc in
    subst (λ (ps : List (Bor (List ℕ))). AreSix 255 ps) (sym c.deref.ensures.value) (evs_six c.args.word.now c.in_ok-parts.parts.items c.requires (not_empty c.args.word.now some) not_zero c.in_ok-parts.ensures)

pub six_evs-requires-clause-six : goal.six_evs-requires-clause-six
six_evs-requires-clause-six c = (are_six c).six

pub six_evs-requires-clause-numbers : goal.six_evs-requires-clause-numbers
six_evs-requires-clause-numbers c = (are_six c).numbers
