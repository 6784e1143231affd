use Rattle.std.proofs.Common.{◌≡◌, ◌<◌, length, refl, ap, inl, inr, ◌∙◌, arith}
use Rattle.std.proofs.lemmas.Option.{slice_get_within, get_or_from_slice_get}
use Rattle.ps_hub.specs.Passes.{RoomPass, IsRoomPass}
use Rattle.server_pass.proofs.MeetLemmas.{grows_met}
use Rattle.ps_hub.specs.Hubs.{site_of}
use Rattle.ps_hub.proofs.PassLemmas.{room_again}
use Rattle.ps_hub.proofs.PassListLemmas.{are_set, read_there, read_pass}
use Rattle.ps_hub.proofs.MeetLemmas.{at_lock}
use Rattle.ps_hub.proofs.hub.Hub.meet_in_room.Goals as goal

pub returns-in_default-clause-met : goal.returns-in_default-clause-met
returns-in_default-clause-met c = inr (inl c.in_default.ensures.none, refl, refl)

pub returns-in_default-position-clause-met : goal.returns-in_default-position-clause-met
returns-in_default-position-clause-met c = inr (inr c.in_default-position.ensures.none, refl, refl)

pub index_mut-requires : goal.index_mut-requires
index_mut-requires c =
    let found = c.in-Some.ensures.found in
    let within : c.in-Some.one < length c.args.passes.now.rooms.items = slice_get_within c.args.passes.now.rooms.items c.in-Some.one found.0 found.1 in
    omega (arith, c.args.passes.now.rooms.ok.0)

pub index_mut-requires-2 : goal.index_mut-requires-2
index_mut-requires-2 c =
    let found = c.in-Some-position.ensures.found in
    let within : c.in-Some-position.another < length c.args.other.now.rooms.items = slice_get_within c.args.other.now.rooms.items c.in-Some-position.another found.0 found.1 in
    omega (arith, c.args.other.now.rooms.ok.0)

pub meet-requires : goal.meet-requires
meet-requires c =
    let found = c.in-Some.ensures.found in
    let other_found = c.in-Some-position.ensures.found in
    let there = read_there c.args.passes.now.rooms.items c.in-Some.one found.0 c.index_mut.result.now found.1 c.index_mut.ensures.value in
    let other_there = read_there c.args.other.now.rooms.items c.in-Some-position.another other_found.0 c.index_mut-2.result.now
    other_found.1 c.index_mut-2.ensures.value in
    let is : c.index_mut.result.now ≡ found.0 = c.index_mut.ensures.value ∙ get_or_from_slice_get c.args.passes.now.rooms.items c.in-Some.one found.0 c.index_mut.result.now found.1 in
    let other_is : c.index_mut-2.result.now ≡ other_found.0 = c.index_mut-2.ensures.value ∙ get_or_from_slice_get
    c.args.other.now.rooms.items c.in-Some-position.another other_found.0 c.index_mut-2.result.now other_found.1 in
    let pass : IsRoomPass c.args.self.now c.args.passes.now.conn c.index_mut.result.now = read_pass c.args.self.now c.args.passes.now c.in-Some.one c.index_mut.result.now c.requires.0 there in
    let other_pass : IsRoomPass c.args.self.now c.args.other.now.conn c.index_mut-2.result.now = read_pass c.args.self.now c.args.other.now
    c.in-Some-position.another c.index_mut-2.result.now c.requires.1 other_there in (
      at_lock c.args.self.now c.index_mut.result.now.number c.args.number c.index_mut.result.now.pass.0 c.lock-lock.result.now.0 pass.lock
          (ap (λ (k : RoomPass). k.number) is ∙ found.2) c.lock-lock.ensures.name,
      at_lock c.args.self.now c.index_mut-2.result.now.number c.args.number c.index_mut-2.result.now.pass.0 c.lock-lock.result.now.0
          other_pass.lock (ap (λ (k : RoomPass). k.number) other_is ∙ other_found.2) c.lock-lock.ensures.name,
    )

pub returns-clause-of : goal.returns-clause-of
returns-clause-of c =
    let found = c.in-Some.ensures.found in
    let other_found = c.in-Some-position.ensures.found in
    let there = read_there c.args.passes.now.rooms.items c.in-Some.one found.0 c.index_mut.result.now found.1 c.index_mut.ensures.value in
    let other_there = read_there c.args.other.now.rooms.items c.in-Some-position.another other_found.0 c.index_mut-2.result.now
    other_found.1 c.index_mut-2.ensures.value in (
      are_set c.args.self.now c.args.passes.now _ c.in-Some.one c.index_mut.result.now c.meet.new.self c.requires.0 there (ap (λ (k : RoomPass). k.number) c.meet.ensures.same) refl refl
          (room_again c.args.self.now c.args.passes.now.conn c.index_mut.result.now c.meet.new.self (ap (λ (k : RoomPass). k.number) c.meet.ensures.same)
          (ap (λ (k : RoomPass). k.id) c.meet.ensures.same) (grows_met c.index_mut.result.now.pass.1 c.meet.new.self.pass.1 c.meet.ensures.met.one)
          (c.meet.ensures.of c.args.passes.now.conn (c.index_mut.result.now.pass.0, site_of c.args.self.now c.index_mut.result.now.number))
          (read_pass c.args.self.now c.args.passes.now c.in-Some.one c.index_mut.result.now c.requires.0 there)),
      are_set c.args.self.now c.args.other.now _ c.in-Some-position.another c.index_mut-2.result.now c.meet.new.other c.requires.1
          other_there (ap (λ (k : RoomPass). k.number) c.meet.ensures.same_other) refl refl
          (room_again c.args.self.now c.args.other.now.conn c.index_mut-2.result.now c.meet.new.other (ap (λ (k : RoomPass). k.number) c.meet.ensures.same_other)
          (ap (λ (k : RoomPass). k.id) c.meet.ensures.same_other) (grows_met c.index_mut-2.result.now.pass.1 c.meet.new.other.pass.1 c.meet.ensures.met.other)
          (c.meet.ensures.of_other c.args.other.now.conn (c.index_mut-2.result.now.pass.0, site_of c.args.self.now c.index_mut-2.result.now.number))
          (read_pass c.args.self.now c.args.other.now c.in-Some-position.another c.index_mut-2.result.now c.requires.1 other_there)),
    )

pub returns-clause-met : goal.returns-clause-met
returns-clause-met c =
    let found = c.in-Some.ensures.found in
    let other_found = c.in-Some-position.ensures.found in
    let is : c.index_mut.result.now ≡ found.0 = c.index_mut.ensures.value ∙ get_or_from_slice_get c.args.passes.now.rooms.items c.in-Some.one found.0 c.index_mut.result.now found.1 in
    let other_is : c.index_mut-2.result.now ≡ other_found.0 = c.index_mut-2.ensures.value ∙ get_or_from_slice_get
    c.args.other.now.rooms.items c.in-Some-position.another other_found.0 c.index_mut-2.result.now other_found.1 in
    inl record {
      at = c.in-Some.one;
      other_at = c.in-Some-position.another;
      one = c.index_mut.result.now;
      one_after = c.meet.new.self;
      another = c.index_mut-2.result.now;
      another_after = c.meet.new.other;
      was = read_there c.args.passes.now.rooms.items c.in-Some.one found.0 c.index_mut.result.now found.1 c.index_mut.ensures.value;
      is = refl;
      other_was = read_there c.args.other.now.rooms.items c.in-Some-position.another other_found.0 c.index_mut-2.result.now other_found.1
          c.index_mut-2.ensures.value;
      other_is = refl;
      number_is = ap (λ (k : RoomPass). k.number) is ∙ found.2;
      other_number = ap (λ (k : RoomPass). k.number) other_is ∙ other_found.2;
      met = c.meet.ensures.met;
      heard = c.meet.ensures.heard.0;
      heard_back = c.meet.ensures.heard.1;
      same = c.meet.ensures.same;
      other_same = c.meet.ensures.same_other;
      rest = refl;
      other_rest = refl;
    }
