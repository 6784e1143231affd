use Rattle.std.proofs.Common.{length, refl, ap}
use Rattle.std.proofs.lemmas.Option.{slice_get_read}
use Rattle.ps_hub.specs.Passes.{RoomPass}
use Rattle.ps_hub.specs.Hubs.{site_of}
use Rattle.ps_hub.proofs.PassLemmas.{room_again}
use Rattle.ps_hub.proofs.PassListLemmas.{are_set, read_pass}
use Rattle.ps_hub.proofs.hub.Hub.look_at.Goals as goal

pub returns-clause-of : goal.returns-clause-of
returns-clause-of c =
    let there = slice_get_read c.args.passes.now.rooms.items (length c.args.passes.now.rooms.items) c.args.pass_index c.index_mut-pass.result.now refl c.requires.there c.index_mut-pass.ensures.value in
    are_set c.args.self.now c.args.passes.now _ c.args.pass_index c.index_mut-pass.result.now c.look.new.self c.requires.of there (ap (λ (q : RoomPass). q.number) c.look.ensures.does) refl refl
    (room_again c.args.self.now c.args.passes.now.conn c.index_mut-pass.result.now c.look.new.self (ap (λ (q : RoomPass). q.number) c.look.ensures.does) (ap (λ (q : RoomPass). q.id) c.look.ensures.does) c.look.ensures.grows
    (c.look.ensures.of c.args.passes.now.conn (c.index_mut-pass.result.now.pass.0, site_of c.args.self.now c.index_mut-pass.result.now.number))
    (read_pass c.args.self.now c.args.passes.now c.args.pass_index c.index_mut-pass.result.now c.requires.of there))

pub returns-clause-does : goal.returns-clause-does
returns-clause-does c =
    let there = slice_get_read c.args.passes.now.rooms.items (length c.args.passes.now.rooms.items) c.args.pass_index c.index_mut-pass.result.now refl c.requires.there c.index_mut-pass.ensures.value in
    record { before = c.index_mut-pass.result.now; behind = c.look.new.self; was = there; rooms = refl; number = ap (λ (q : RoomPass). q.number) c.look.ensures.does; id = ap (λ (q : RoomPass). q.id) c.look.ensures.does; done = (c.look.ensures.seen, c.look.ensures.does, c.look.ensures.fresh); conn = refl; badge = refl; hall = refl }
