use Rattle.std.proofs.Common.{◌≡◌, ◌<◌, ℕ, List, length, Some, refl, sym, ap, subst, ◌∙◌, arith}
use Rattle.std.proofs.lemmas.Option.{slice_get_within, get_or_from_slice_get}
use Rattle.ps_base.specs.declared.badge.Badge.{Badge}
use Rattle.ps_hub.specs.Passes.{RoomPass}
use Rattle.ps_hub.specs.Names.{Names}
use Rattle.ps_hub.specs.Calls.{Held, EntersAt, EnterFails}
use Rattle.ps_hub.proofs.PassListLemmas.{are_set, read_there, read_pass}
use Rattle.ps_hub.proofs.OrderLemmas.{room_not_entered, room_orders}
use Rattle.ps_hub.proofs.hub.Hub.order_room.Goals as goal

pub returns-in-Err-enter_at-clause-does : goal.returns-in-Err-enter_at-clause-does
returns-in-Err-enter_at-clause-does c = rw c.not_entered.ensures (room_not_entered c.args.self.now c.args.id c.args.cmd c.args.moment
    c.args.passes.now c.in-Err-enter_at.fault c.enter_at.new.passes
    (subst (λ (id : List ℕ). EnterFails c.args.self.now id c.args.passes.now c.in-Err-enter_at.fault c.enter_at.new.passes)
    c.as_str.ensures.value c.in-Err-enter_at.ensures.does))

pub index_mut-requires : goal.index_mut-requires
index_mut-requires c =
    let here = c.in-Ok-enter_at.ensures.here in
    let within : c.in-Ok-enter_at.pass_index < length c.enter_at.new.passes.rooms.items = slice_get_within c.enter_at.new.passes.rooms.items c.in-Ok-enter_at.pass_index here.0 here.1 in
    omega (arith, c.enter_at.new.passes.rooms.ok.0)

pub play-requires : goal.play-requires
play-requires c =
    let here = c.in-Ok-enter_at.ensures.here in
    let there = read_there c.enter_at.new.passes.rooms.items c.in-Ok-enter_at.pass_index here.0 c.index_mut.result.now here.1 c.index_mut.ensures.value in
    read_pass c.args.self.now c.enter_at.new.passes c.in-Ok-enter_at.pass_index c.index_mut.result.now c.enter_at.ensures.of there

pub returns-clause-of : goal.returns-clause-of
returns-clause-of c =
    let here = c.in-Ok-enter_at.ensures.here in
    let there = read_there c.enter_at.new.passes.rooms.items c.in-Ok-enter_at.pass_index here.0 c.index_mut.result.now here.1 c.index_mut.ensures.value in
    are_set c.args.self.now c.enter_at.new.passes _ c.in-Ok-enter_at.pass_index c.index_mut.result.now c.play.new.pass c.enter_at.ensures.of there c.play.ensures.same.1 refl refl c.play.ensures.of

pub returns-clause-does : goal.returns-clause-does
returns-clause-does c =
    let here = c.in-Ok-enter_at.ensures.here in
    let there = read_there c.enter_at.new.passes.rooms.items c.in-Ok-enter_at.pass_index here.0 c.index_mut.result.now here.1 c.index_mut.ensures.value in
    let is : c.index_mut.result.now ≡ here.0 = c.index_mut.ensures.value ∙ get_or_from_slice_get c.enter_at.new.passes.rooms.items c.in-Ok-enter_at.pass_index here.0 c.index_mut.result.now here.1 in
    let entered : EntersAt c.args.self.now c.args.id (Held c.args.id) c.args.passes.now c.enter_at.new.passes = subst (λ (id : List ℕ). EntersAt c.args.self.now id (Held id) c.args.passes.now c.enter_at.new.passes) c.as_str.ensures.value c.in-Ok-enter_at.ensures.does in
    let named : Names c.args.self.now.config c.args.id c.index_mut.result.now.number = subst (λ (id : List ℕ). Names c.args.self.now.config id c.index_mut.result.now.number) c.as_str.ensures.value (subst (λ (k : RoomPass). Names c.args.self.now.config c.as_str.result.now k.number) (sym is) here.3) in
    let held : c.index_mut.result.now.id ≡ Some c.args.id = ap (λ (k : RoomPass). k.id) is ∙ here.2 ∙ ap (λ (id : List ℕ). Some id) c.as_str.ensures.value in
    let badge : c.enter_at.new.passes.badge ≡ Some c.in-Ok.badge = entered.but.badge ∙ c.in-Some.is ∙ ap (λ (b : Badge). Some b) (sym c.in-Ok.ensures) in
    room_orders c.args.self.now c.args.id c.args.cmd c.args.moment c.args.passes.now c.enter_at.new.passes c.in-Ok-enter_at.pass_index c.index_mut.result.now c.play.new.pass _ c.in-Ok.badge c.play.result entered there named held refl refl c.play.ensures.same badge c.play.ensures.does
