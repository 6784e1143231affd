use Rattle.std.proofs.Common.{List, length, refl, sym, ap, subst, ◌∙◌}
use Rattle.std.specs.Prelude.{All}
use Rattle.std.specs.List.{AllZip}
use Rattle.ps_hub.specs.Passes.{RoomPass, IsRoomPass, numbers}
use Rattle.ps_hub.specs.Calls.{QuitsRoom, QuitsRoomAtMost, QuitsHall, QuitsHallAtMost, IsShutOutAmong}
use Rattle.ps_hub.proofs.PassListLemmas.{are_rooms, lent}
use Rattle.ps_hub.proofs.CallLemmas.{quits_with, quit_numbers}
use Rattle.ps_hub.proofs.hub.Hub.quit.Goals as goal

pub quit_hall-hall-requires : goal.quit_hall-hall-requires
quit_hall-hall-requires g c =
    let conn = c.args.passes.now.conn in
    let badge = c.args.passes.now.badge in
    let old = c.args.passes.now.rooms.items in
    let written = lent c.args.passes.now.rooms.len old c.quit_rooms-rooms.new.rooms c.args.passes.now.rooms.ok.0 (c.quit_rooms-rooms.auto.rooms ∙ ap length c.deref_mut.ensures.value) in
    let most : AllZip (QuitsRoomAtMost badge conn c.args.moment) old c.quit_rooms-rooms.new.rooms = subst (λ (l : List RoomPass). AllZip (QuitsRoomAtMost badge conn c.args.moment) l c.quit_rooms-rooms.new.rooms) c.deref_mut.ensures.value c.quit_rooms-rooms.ensures.most in
    are_rooms c.args.self.now c.args.passes.now _ c.requires.of refl (subst (All (IsRoomPass c.args.self.now conn)) (sym written) c.quit_rooms-rooms.ensures.of)
    (ap (λ (l : List RoomPass). numbers l) written ∙ quit_numbers badge conn c.args.moment old c.quit_rooms-rooms.new.rooms most)

pub returns-in-Err-clause-taken : goal.returns-in-Err-clause-taken
returns-in-Err-clause-taken g c =
    let conn = c.args.passes.now.conn in
    let badge = c.args.passes.now.badge in
    let old = c.args.passes.now.rooms.items in
    let written = lent c.args.passes.now.rooms.len old c.quit_rooms-rooms.new.rooms c.args.passes.now.rooms.ok.0 (c.quit_rooms-rooms.auto.rooms ∙ ap length c.deref_mut.ensures.value) in
    subst (λ (l : List RoomPass). IsShutOutAmong conn l c.in-Err.fault) (sym (c.quit_hall-hall.ensures.most.rooms ∙ written)) c.in-Err.ensures.taken

pub returns-in-Err-clause-does : goal.returns-in-Err-clause-does
returns-in-Err-clause-does g c =
    let conn = c.args.passes.now.conn in
    let badge = c.args.passes.now.badge in
    let old = c.args.passes.now.rooms.items in
    let written = lent c.args.passes.now.rooms.len old c.quit_rooms-rooms.new.rooms c.args.passes.now.rooms.ok.0 (c.quit_rooms-rooms.auto.rooms ∙ ap length c.deref_mut.ensures.value) in
    let rooms : AllZip (QuitsRoomAtMost badge conn c.args.moment) old c.quit_rooms-rooms.new.rooms = subst (λ (l : List RoomPass). AllZip (QuitsRoomAtMost badge conn c.args.moment) l c.quit_rooms-rooms.new.rooms) c.deref_mut.ensures.value c.quit_rooms-rooms.ensures.most in
    quits_with (QuitsRoomAtMost badge conn c.args.moment) (QuitsHallAtMost conn c.args.moment) c.args.passes.now _ c.quit_hall-hall.new.passes refl
    (subst (λ (l : List RoomPass). AllZip (QuitsRoomAtMost badge conn c.args.moment) old l) (sym written) rooms) c.quit_hall-hall.ensures.most

pub returns-in-Ok-hall-clause-does : goal.returns-in-Ok-hall-clause-does
returns-in-Ok-hall-clause-does g c =
    let conn = c.args.passes.now.conn in
    let badge = c.args.passes.now.badge in
    let old = c.args.passes.now.rooms.items in
    let written = lent c.args.passes.now.rooms.len old c.quit_rooms-rooms.new.rooms c.args.passes.now.rooms.ok.0 (c.quit_rooms-rooms.auto.rooms ∙ ap length c.deref_mut.ensures.value) in
    let rooms : AllZip (QuitsRoom badge conn c.args.moment) old c.quit_rooms-rooms.new.rooms = subst (λ (l : List RoomPass). AllZip (QuitsRoom badge conn c.args.moment) l c.quit_rooms-rooms.new.rooms) c.deref_mut.ensures.value c.in-Ok.ensures.ok in
    quits_with (QuitsRoom badge conn c.args.moment) (QuitsHall conn c.args.moment) c.args.passes.now _ c.quit_hall-hall.new.passes refl
    (subst (λ (l : List RoomPass). AllZip (QuitsRoom badge conn c.args.moment) old l) (sym written) rooms) c.in-Ok-hall.ensures.ok

pub returns-in-Err-hall-clause-does : goal.returns-in-Err-hall-clause-does
returns-in-Err-hall-clause-does g c =
    let conn = c.args.passes.now.conn in
    let badge = c.args.passes.now.badge in
    let old = c.args.passes.now.rooms.items in
    let written = lent c.args.passes.now.rooms.len old c.quit_rooms-rooms.new.rooms c.args.passes.now.rooms.ok.0 (c.quit_rooms-rooms.auto.rooms ∙ ap length c.deref_mut.ensures.value) in
    let rooms : AllZip (QuitsRoomAtMost badge conn c.args.moment) old c.quit_rooms-rooms.new.rooms = subst (λ (l : List RoomPass). AllZip (QuitsRoomAtMost badge conn c.args.moment) l c.quit_rooms-rooms.new.rooms) c.deref_mut.ensures.value c.quit_rooms-rooms.ensures.most in
    quits_with (QuitsRoomAtMost badge conn c.args.moment) (QuitsHallAtMost conn c.args.moment) c.args.passes.now _ c.quit_hall-hall.new.passes refl
    (subst (λ (l : List RoomPass). AllZip (QuitsRoomAtMost badge conn c.args.moment) old l) (sym written) rooms) c.quit_hall-hall.ensures.most
