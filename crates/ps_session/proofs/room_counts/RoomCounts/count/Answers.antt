use Rattle.std.proofs.Common.{◌+◌, ℕ, List, Option, sym, ap, subst, ◌∙◌, unwrap_or}
use Rattle.std.specs.FinMap.{get}
use Rattle.ps_base.specs.ById.{ById}
use Rattle.ps_session.specs.Counts.{Counts}
use Rattle.ps_session.specs.Kept.{HasNoZero, IsRisen}
use Rattle.ps_session.proofs.KeptLemmas.{no_zero-risen, rises, raised_last}
use Rattle.ps_session.proofs.room_counts.RoomCounts.count.Goals as goal

pub invariant_of-self-then-is_last : goal.invariant_of-self-then-is_last
invariant_of-self-then-is_last c =
    let none = subst HasNoZero (sym c.in_ok-settle.ensures.ok) (no_zero-risen c.self.inside.settled c.self.inside.last c.self.invariant.0 c.self.invariant.1) in
    let found = c.requires.so_far ∙ sym (ap (λ (x : Counts). get x.rooms c.args.id.now) c.self.view_is) ∙ sym (ap (λ (m : ById ℕ). get m c.args.id.now) c.in_ok-settle.ensures.ok) in
    let risen = rises c.settle.new.settled c.args.id.now (c.unwrap_or-count.result + 1) none (ap (λ (n : ℕ). n + 1) c.unwrap_or-count.ensures ∙ ap (λ (o : Option ℕ). unwrap_or o 0 + 1) found) in
    (none, raised_last c.settle.new.settled c.self.inside.last c.raise.new.last c.args.id.now (c.unwrap_or-count.result + 1) (c.is_last.ensures c.if-is_last.true) c.raise.ensures risen)

pub invariant_of-self-2 : goal.invariant_of-self-2
invariant_of-self-2 c =
    let none = subst HasNoZero (sym c.in_ok-settle-2.ensures.ok) (no_zero-risen c.self.inside.settled c.self.inside.last c.self.invariant.0 c.self.invariant.1) in
    let found = c.requires.so_far ∙ sym (ap (λ (x : Counts). get x.rooms c.args.id.now) c.self.view_is) ∙ sym (ap (λ (m : ById ℕ). get m c.args.id.now) c.in_ok-settle-2.ensures.ok) in
    let risen = rises c.settle-2.new.settled c.args.id.now (c.unwrap_or-count.result + 1) none (ap (λ (n : ℕ). n + 1) c.unwrap_or-count.ensures ∙ ap (λ (o : Option ℕ). unwrap_or o 0 + 1) found) in
    (none, subst (λ (id : List ℕ). IsRisen c.settle-2.new.settled record { id = id; count = c.unwrap_or-count.result + 1 }) (sym c.in_ok-id.ensures) risen)
