use Rattle.std.proofs.Common.{length, refl}
use Rattle.std.proofs.lemmas.Option.{slice_get_read}
use Rattle.ps_hub.specs.Hubs.{site_of}
use Rattle.ps_hub.proofs.PassLemmas.{room_again}
use Rattle.ps_hub.proofs.PassListLemmas.{are_set, read_pass}
use Rattle.ps_hub.proofs.CallLemmas.{handed_room}
use Rattle.ps_hub.proofs.hub.Hub.hand_on_at.Goals as goal

pub returns-clause-of : goal.returns-clause-of
returns-clause-of g c =
    let there = slice_get_read c.args.passes.now.rooms.items (length c.args.passes.now.rooms.items) c.args.pass_index c.index_mut-pass.result.now refl c.requires.there c.index_mut-pass.ensures.value in
    are_set c.args.self.now c.args.passes.now _ c.args.pass_index c.index_mut-pass.result.now c.hand_on.new.self c.requires.of there c.hand_on.ensures.same.0 refl refl
    (room_again c.args.self.now c.args.passes.now.conn c.index_mut-pass.result.now c.hand_on.new.self c.hand_on.ensures.same.0 c.hand_on.ensures.same.1 c.hand_on.ensures.grows
    (c.hand_on.ensures.of c.args.passes.now.conn (c.index_mut-pass.result.now.pass.0, site_of c.args.self.now c.index_mut-pass.result.now.number))
    (read_pass c.args.self.now c.args.passes.now c.args.pass_index c.index_mut-pass.result.now c.requires.of there))

pub returns-clause-does : goal.returns-clause-does
returns-clause-does g c =
    let there = slice_get_read c.args.passes.now.rooms.items (length c.args.passes.now.rooms.items) c.args.pass_index c.index_mut-pass.result.now refl c.requires.there c.index_mut-pass.ensures.value in
    handed_room c.args.self.now c.args.pass_index c.args.passes.now _ c.index_mut-pass.result.now c.hand_on.new.self c.hand_on.result (read_pass c.args.self.now c.args.passes.now c.args.pass_index c.index_mut-pass.result.now c.requires.of there) there refl refl c.hand_on.ensures.same c.hand_on.ensures.ok c.hand_on.ensures.err
