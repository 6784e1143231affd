use Rattle.std.proofs.Common.{◌≡◌, false, sym, ◌∙◌}
use Rattle.ps_mon.specs.Slots.{has_usable}
use Rattle.ps_choice.proofs.request.write_unheld_moves.Goals as goal

pub returns-else-has_usable : goal.returns-else-has_usable
returns-else-has_usable c =
    let none : has_usable c.args.side.now ≡ false = sym c.has_usable.ensures ∙ c.if-has_usable.false in
    rw none c.write_only_move.ensures
