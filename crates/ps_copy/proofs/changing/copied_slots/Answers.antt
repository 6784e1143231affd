use Rattle.ps_copy.specs.Changing.{copied_from}
use Rattle.ps_copy.proofs.ChangeLemmas.{copied-fit, copied-known}
use Rattle.ps_copy.proofs.changing.copied_slots.Goals as goal

pub returns-clause-fit : goal.returns-clause-fit
unfolding copied_from
returns-clause-fit c =
    rw (c.copied_slot.ensures.value, c.copied_slot-2.ensures.value, c.copied_slot-3.ensures.value, c.copied_slot-4.ensures.value, c.slot_count-count.ensures.value)
    (copied-fit c.args.side.now c.requires)

pub returns-clause-known : goal.returns-clause-known
unfolding copied_from
returns-clause-known c = λ moves known.
    rw (c.copied_slot.ensures.value, c.copied_slot-2.ensures.value, c.copied_slot-3.ensures.value, c.copied_slot-4.ensures.value, c.slot_count-count.ensures.value)
    (copied-known moves c.args.side.now c.requires known)
