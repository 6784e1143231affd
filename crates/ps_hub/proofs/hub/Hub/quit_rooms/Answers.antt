use Rattle.std.proofs.Common.{◌+◌, ◌<◌, length, get_or, IsSome, Result, refl, sym, subst, arith}
use Rattle.std.specs.Prelude.{slice_set, IfErr, OnOk}
use Rattle.std.proofs.lemmas.Option.{slice_get-get_or}
use Rattle.ps_hub.specs.Passes.{RoomPass, IsRoomPass}
use Rattle.ps_hub.specs.Calls.{QuitsRoom, StaysInRoom, QuitsRoomAtMost}
use Rattle.ps_hub.specs.declared.out.QuitFault.{QuitFault}
use Rattle.ps_hub.proofs.PassListLemmas.{at_place, after_set}
use Rattle.ps_hub.proofs.QuitLemmas.{IsDoneTo, IsShutOutBefore, done_there, done_next, done_if_ok, one_of, shut_next, shut_at_last}
use Rattle.ps_hub.proofs.hub.Hub.quit_rooms.Goals as goal

pub quit_room-made-requires-clause-of : goal.quit_room-made-requires-clause-of
quit_room-made-requires-clause-of g c =
    let within : c.loop-pass_index.pass_index < length c.loop-pass_index.rooms = omega arith in
    let there = slice_get-get_or c.loop-pass_index.rooms c.loop-pass_index.pass_index c.index-rooms-pass_index.result within in
    at_place (IsRoomPass c.args.self.now c.args.conn) c.loop-pass_index.rooms c.loop-pass_index.pass_index (get_or c.loop-pass_index.rooms c.loop-pass_index.pass_index c.index-rooms-pass_index.result) there c.loop-pass_index.invariant.of

pub quit_room-made-requires-clause-may : goal.quit_room-made-requires-clause-may
quit_room-made-requires-clause-may g c =
    let within : c.loop-pass_index.pass_index < length c.loop-pass_index.rooms = omega arith in
    let there = slice_get-get_or c.loop-pass_index.rooms c.loop-pass_index.pass_index c.index-rooms-pass_index.result within in
    at_place (λ (k : RoomPass). IsSome k.id → IsSome c.args.badge.now) c.args.rooms.now c.loop-pass_index.pass_index (get_or c.loop-pass_index.rooms c.loop-pass_index.pass_index c.index-rooms-pass_index.result)
    (done_there (QuitsRoomAtMost c.args.badge.now c.args.conn c.args.moment) c.loop-pass_index.pass_index c.args.rooms.now c.loop-pass_index.rooms (get_or c.loop-pass_index.rooms c.loop-pass_index.pass_index c.index-rooms-pass_index.result) there c.loop-pass_index.invariant.most)
    c.requires.may

pub loop-pass_index-preserved : goal.loop-pass_index-preserved
loop-pass_index-preserved g c =
    let n = c.loop-pass_index.pass_index in
    let rooms = c.loop-pass_index.rooms in
    let h = get_or rooms n c.index-rooms-pass_index.result in
    let k = c.quit_room-made.new.pass in
    let badge = c.args.badge.now in
    let within : n < length rooms = omega arith in
    let there = slice_get-get_or rooms n c.index-rooms-pass_index.result within in
    record {
      of = after_set (IsRoomPass c.args.self.now c.args.conn) rooms n k c.quit_room-made.ensures.of c.loop-pass_index.invariant.of;
      ok = subst (λ (r : Result _ QuitFault). OnOk r (IsDoneTo (QuitsRoom badge c.args.conn c.args.moment) (n + 1) c.args.rooms.now (slice_set rooms n k))) (sym c.and-done.ensures)
          (done_if_ok (QuitsRoom badge c.args.conn c.args.moment) n c.args.rooms.now rooms _ h k c.loop-pass_index.done c.quit_room-made.result there refl c.quit_room-made.ensures.ok c.loop-pass_index.invariant.ok);
      most = done_next (QuitsRoomAtMost badge c.args.conn c.args.moment) n c.args.rooms.now rooms _ h k there refl
          (one_of (QuitsRoom badge c.args.conn c.args.moment) StaysInRoom h k c.quit_room-made.result c.quit_room-made.ensures.ok c.quit_room-made.ensures.err) c.loop-pass_index.invariant.most;
      taken = subst (λ (r : Result _ QuitFault). IfErr r (IsShutOutBefore (n + 1) c.args.conn (slice_set rooms n k))) (sym c.and-done.ensures)
          (shut_next n c.args.conn rooms h k c.loop-pass_index.done c.quit_room-made.result there c.loop-pass_index.invariant.taken c.quit_room-made.ensures.taken);
    }

pub returns-clause-taken : goal.returns-clause-taken
returns-clause-taken g c = shut_at_last c.loop-pass_index.pass_index c.args.conn c.loop-pass_index.rooms c.loop-pass_index.done c.loop-pass_index.invariant.taken
