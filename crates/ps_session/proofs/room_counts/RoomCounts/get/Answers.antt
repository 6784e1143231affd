use Rattle.std.proofs.Common.{sym, ap, ◌∙◌, true, false, List, ℕ}
use Rattle.std.specs.Str.{bytes_eq}
use Rattle.std.specs.FinMap.{get}
use Rattle.ps_session.specs.Counts.{Counts}
use Rattle.ps_session.proofs.KeptLemmas.{get_risen}
use Rattle.ps_session.proofs.room_counts.RoomCounts.get.Goals as goal

pub returns-then-eq : goal.returns-then-eq
returns-then-eq c =
    let same = ap (λ (x : List ℕ). bytes_eq x c.args.id.now) (sym c.as_str.ensures.value) ∙ sym c.eq.ensures ∙ c.if-eq.true in
    let found = get_risen c.self.inside.settled c.self.inside.last c.in-Some.risen c.args.id.now true c.in-Some.is same in
    sym found ∙ ap (λ (x : Counts). get x.rooms c.args.id.now) c.self.view_is

pub returns-else-eq : goal.returns-else-eq
returns-else-eq c =
    let same = ap (λ (x : List ℕ). bytes_eq x c.args.id.now) (sym c.as_str.ensures.value) ∙ sym c.eq.ensures ∙ c.if-eq.false in
    let found = get_risen c.self.inside.settled c.self.inside.last c.in-Some.risen c.args.id.now false c.in-Some.is same in
    c.get-in-Some.ensures ∙ sym found ∙ ap (λ (x : Counts). get x.rooms c.args.id.now) c.self.view_is
