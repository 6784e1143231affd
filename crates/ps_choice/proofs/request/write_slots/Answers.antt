use Rattle.std.proofs.Common.{List, ℕ, ◌++◌, ap, ◌∙◌, string_bytes}
use Rattle.ps_choice.proofs.RequestLemmas.{then, next_slot}
use Rattle.ps_choice.proofs.request.write_slots.Goals as goal

pub loop-slot-preserved : goal.loop-slot-preserved
loop-slot-preserved c =
    next_slot c.args.dex.now.moves c.args.side.now c.loop-slot.slot c.slot_count-count.result c.loop-slot.later
    (string_bytes c.loop-slot.line) (string_bytes c.write_slot.new.line) _ c.loop-slot-test.true
    (then _ _ _ _ _ (c.in_ok-push_piece.ensures ∙ ap (λ (x : List ℕ). string_bytes c.loop-slot.line ++ x) c.comma_if.ensures) c.in_ok-write_slot.ensures)
    c.loop-slot.invariant
