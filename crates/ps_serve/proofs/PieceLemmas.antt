-- Pieces of what a place told, one behind the other.
use Rattle.std.proofs.Common.{◌≡◌, ℕ, zero, suc, ◌+◌, ◌<◌, ◌≤◌, true, List, [], ◌∷◌, ◌++◌, length, take, get_or, Option, Some, None, Bor, refl, ap, sym, ◌∙◌, subst, inl, arith}
use Rattle.std.specs.Prelude.{IsSome, IfSome, is_some, slice_get, slice_set}
use Rattle.std.specs.Option.{option_copied}
use Rattle.std.proofs.lemmas.List.{get_or-set_same}
use Rattle.std.proofs.lemmas.Option.{same_Some, none-some, get_or_from_slice_get, slice_get_within}
use Rattle.ps_base.specs.declared.msg.Msg.{Msg}
use Rattle.ps_histlock.specs.Histories.{commands}
use Rattle.ps_histlock.specs.Views.{after_look}
use Rattle.ps_base.specs.Messages.{texts_of}
use Rattle.ps_outside.specs.Links.{Talk}
use Rattle.server_places.specs.Halls.{HallShows}
use Rattle.server_places.specs.Rooms.{Shows}
use Rattle.ps_hub.specs.Hubs.{Hub, root_of, site_of}
use Rattle.ps_hub.specs.Passes.{HallPass, RoomPass, AreOf, IsHallPass, IsRoomPass}
use Rattle.server_pass.specs.Turns.{Rereads}
use Rattle.server_pass.specs.Catches.{HandsOut}
use Rattle.ps_hub.specs.Calls.{HallOnly, HallHanded, RoomOnly, Handed, LooksRoom}
use Rattle.ps_hub.specs.declared.passes.Passes.{Passes}
use Rattle.ps_hub.proofs.PassListLemmas.{get_set, hall_of}
use Rattle.ps_serve.specs.Tellings.{after_texts, SendsHall, TellsHall, SendsOfHall, SendsRoom, SendsOfRoom, RoomTells, TellsRoom, TellsRoomPart}
use Rattle.ps_serve.proofs.Prefixes.{prefix_commands}
use Rattle.ps_serve.proofs.SendingLemmas.{after_texts-append, texts_of-append}
use Rattle.ps_serve.proofs.LookLemmas.{reread, rereads_then, hands_none, hands_then}
use Rattle.ps_serve.proofs.PlaceLemmas.{hall_one, room_one}
use Rattle.ps_serve.proofs.CallLemmas.{Read, read_there, read_held}

-- ---- lists

take_over : {A : Type 0} (xs ys : List A) (n : ℕ) → take (length xs + n) (xs ++ ys) ≡ xs ++ take n ys
take_over {A} [] ys n = let same : length {A = A} [] + n ≡ n = omega arith in ap (λ (i : ℕ). take i ys) same
take_over (x ∷ xs) ys n = let same : length (x ∷ xs) + n ≡ suc (length xs + n) = omega arith in ap (λ (i : ℕ). take i (x ∷ xs ++ ys)) same ∙ ap (λ (l : List _). x ∷ l) (take_over xs ys n)

set_own : {A : Type 0} (xs : List A) (i : ℕ) (x : A) → slice_get xs i ≡ Some x → xs ≡ slice_set xs i x
set_own [] i x e = absurd (none-some x e)
set_own (y ∷ ys) zero x e = ap (λ z. z ∷ ys) (same_Some y x e)
set_own (y ∷ ys) (suc i) x e = ap (λ (l : List _). y ∷ l) (set_own ys i x e)

set_twice : {A : Type 0} (xs : List A) (i : ℕ) (x y : A) → slice_set (slice_set xs i x) i y ≡ slice_set xs i y
set_twice [] i x y = refl
set_twice (z ∷ zs) zero x y = refl
set_twice (z ∷ zs) (suc i) x y = ap (λ (l : List _). z ∷ l) (set_twice zs i x y)

-- ---- texts

texts_then : (room : Option (List ℕ)) (msgs others : List Msg) (was mid is : Option Talk) → mid ≡ after_texts (texts_of room msgs) was → is ≡ after_texts (texts_of room others) mid → is ≡ after_texts (texts_of room (msgs ++ others)) was
texts_then room msgs others was mid is before now =
    now ∙ ap (after_texts (texts_of room others)) before
    ∙ sym (after_texts-append (texts_of room msgs) (texts_of room others) was)
    ∙ ap (λ (ts : List (List ℕ)). after_texts ts was) (sym (texts_of-append room msgs others))

some_then : (room : Option (List ℕ)) (msgs others : List Msg) (count : ℕ) (was mid is : Option Talk) → mid ≡ after_texts (texts_of room msgs) was → is ≡ after_texts (take count (texts_of room others)) mid → is ≡ after_texts (take (length (texts_of room msgs) + count) (texts_of room (msgs ++ others))) was
some_then room msgs others count was mid is before now =
    now ∙ ap (after_texts (take count (texts_of room others))) before
    ∙ sym (after_texts-append (texts_of room msgs) (take count (texts_of room others)) was)
    ∙ ap (λ (ts : List (List ℕ)). after_texts ts was) (sym (take_over (texts_of room msgs) (texts_of room others) count))
    ∙ ap (λ (ts : List (List ℕ)). after_texts (take (length (texts_of room msgs) + count) ts) was) (sym (texts_of-append room msgs others))

-- ---- the hall

hall_nothing : (hub : Hub) (conn : ℕ) (h k : HallPass) → IsHallPass hub conn h → Rereads h.pass.1 k.pass.1 → k.at ≡ h.at → HallHanded hub conn [] h k
hall_nothing hub conn h k is r same =
    let out : h.at ≤ h.cursor.passed = is.told.handed_out in
    let within : h.cursor.passed ≤ length (commands h.pass.1.seen) = is.told.within in
    (r, hands_none (HallShows conn (root_of hub)) (commands h.pass.1.seen) h.at is.told.before (commands k.pass.1.seen) k.at is.told.shown_before (omega arith) (prefix_commands h.pass.1.seen k.pass.1.seen (reread h.pass.1 k.pass.1 r).grows) same)

-- no piece was taken yet
pub hall_none : (hub : Hub) (passes : Passes) (talk : Option Talk) → AreOf hub passes → SendsHall hub passes passes talk talk
hall_none hub passes talk are = record {
  msgs = [];
  only = record { before = are.hall_pass; behind = are.hall_pass; was = are.hall; is = are.hall; done = hall_nothing hub passes.conn are.hall_pass are.hall_pass are.hall_is (0, refl) refl; rooms = refl; conn = refl; badge = refl };
  sent = refl;
}

-- if out of memory
pub hall_fails : (hub : Hub) (old new : Passes) (talk : Option Talk) → AreOf hub old → HallOnly (λ h k. Rereads h.pass.1 k.pass.1 × (k.at ≡ h.at)) old new → SendsOfHall hub old new talk talk
hall_fails hub old new talk are o = record {
  msgs = [];
  only = record { before = o.before; behind = o.behind; was = o.was; is = o.is; done = hall_nothing hub old.conn o.before o.behind (hall_of hub old o.before are o.was) o.done.0 o.done.1; rooms = o.rooms; conn = o.conn; badge = o.badge };
  count = 0;
  sent = refl;
}

hall_both : (hub : Hub) (msgs others : List Msg) (old mid new : Passes) → HallOnly (HallHanded hub old.conn msgs) old mid → HallOnly (HallHanded hub mid.conn others) mid new → HallOnly (HallHanded hub old.conn (msgs ++ others)) old new
hall_both hub msgs others old mid new a b =
    let same : b.before ≡ a.behind = same_Some b.before a.behind (sym b.was ∙ a.is) in
    let next : HallHanded hub old.conn others a.behind b.behind = subst (λ (h : HallPass). HallHanded hub old.conn others h b.behind) same (subst (λ (c : ℕ). HallHanded hub c others b.before b.behind) a.conn b.done) in
    let h : HallPass = a.before in
    let j : HallPass = a.behind in
    let k : HallPass = b.behind in
    record {
      before = h;
      behind = k;
      was = a.was;
      is = b.is;
      done = (rereads_then h.pass.1 j.pass.1 k.pass.1 a.done.0 next.0, hands_then (HallShows old.conn (root_of hub)) (hall_one old.conn (root_of hub)) (commands h.pass.1.seen) h.at msgs (commands j.pass.1.seen) j.at others (commands k.pass.1.seen) k.at a.done.1 next.1);
      rooms = b.rooms ∙ a.rooms;
      conn = b.conn ∙ a.conn;
      badge = b.badge ∙ a.badge;
    }

-- a piece more
pub hall_then : (hub : Hub) (old mid new : Passes) (was then_is is : Option Talk) → SendsHall hub old mid was then_is → SendsHall hub mid new then_is is → SendsHall hub old new was is
hall_then hub old mid new was then_is is a b = record { msgs = a.msgs ++ b.msgs; only = hall_both hub a.msgs b.msgs old mid new a.only b.only; sent = texts_then None a.msgs b.msgs was then_is is a.sent b.sent }

pub hall_breaks_then : (hub : Hub) (old mid new : Passes) (was then_is is : Option Talk) → SendsHall hub old mid was then_is → SendsOfHall hub mid new then_is is → SendsOfHall hub old new was is
hall_breaks_then hub old mid new was then_is is a b = record { msgs = a.msgs ++ b.msgs; only = hall_both hub a.msgs b.msgs old mid new a.only b.only; count = length (texts_of None a.msgs) + b.count; sent = some_then None a.msgs b.msgs b.count was then_is is a.sent b.sent }

-- all was handed out that the look showed
pub hall_answers : (hub : Hub) (shown handed : ℕ) (old new : Passes) (was is : Option Talk) → SendsHall hub old new was is → IfSome new.hall (λ h. handed ≡ h.at) → shown ≤ handed → TellsHall hub shown old new was is
hall_answers hub shown handed old new was is s at le =
    let same : handed ≡ s.only.behind.at = subst (λ (o : Option HallPass). IfSome o (λ h. handed ≡ h.at)) s.only.is at in
    record { sends = s; answered = omega (arith, same, le) }

-- ---- a room

-- the pass of a room of passes
room_of : (hub : Hub) (passes : Passes) (place : ℕ) (h : RoomPass) → AreOf hub passes → slice_get passes.rooms.items place ≡ Some h → IsRoomPass hub passes.conn h
room_of hub passes place h are there = subst (IsRoomPass hub passes.conn) (get_or_from_slice_get passes.rooms.items place h h there) (are.rooms place h (slice_get_within passes.rooms.items place h there))

room_nothing : (hub : Hub) (conn : ℕ) (h k : RoomPass) → IsRoomPass hub conn h → Rereads h.pass.1 k.pass.1 → k.at ≡ h.at → Handed hub conn [] h k
room_nothing hub conn h k is r same =
    let out : h.at ≤ h.cursor.passed = is.place.told.handed_out in
    let within : h.cursor.passed ≤ length (commands h.pass.1.seen) = is.place.told.within in
    (r, hands_none (Shows conn (site_of hub h.number)) (commands h.pass.1.seen) h.at is.place.told.before (commands k.pass.1.seen) k.at is.place.told.shown_before (omega arith) (prefix_commands h.pass.1.seen k.pass.1.seen (reread h.pass.1 k.pass.1 r).grows) same)

-- one call behind another at the same place
abbrev room_both : (place : ℕ) (does other all : RoomPass → RoomPass → Type 0) (old mid new : Passes) (a : RoomOnly place does old mid) (b : RoomOnly place other mid new) → (does a.before a.behind → other a.behind b.behind → all a.before b.behind) → RoomOnly place all old new
room_both place does other all old mid new a b join =
    let there : slice_get mid.rooms.items place ≡ Some a.behind = ap (λ (rs : List RoomPass). slice_get rs place) a.rooms ∙ get_set old.rooms.items place a.before a.behind a.was in
    let same : b.before ≡ a.behind = same_Some b.before a.behind (sym b.was ∙ there) in
    record {
      before = a.before;
      behind = b.behind;
      was = a.was;
      rooms = b.rooms ∙ ap (λ (rs : List RoomPass). slice_set rs place b.behind) a.rooms ∙ set_twice old.rooms.items place a.behind b.behind;
      number = b.number ∙ ap (λ (x : RoomPass). x.number) same ∙ a.number;
      id = b.id ∙ ap (λ (x : RoomPass). x.id) same ∙ a.id;
      done = join a.done (subst (λ (x : RoomPass). other x b.behind) same b.done);
      conn = b.conn ∙ a.conn;
      badge = b.badge ∙ a.badge;
      hall = b.hall ∙ a.hall;
    }

abbrev pieces_both : (hub : Hub) (place : ℕ) (msgs others : List Msg) (old mid new : Passes) → RoomOnly place (Handed hub old.conn msgs) old mid → RoomOnly place (Handed hub mid.conn others) mid new → RoomOnly place (Handed hub old.conn (msgs ++ others)) old new
pieces_both hub place msgs others old mid new a b = room_both place (Handed hub old.conn msgs) (Handed hub mid.conn others) (Handed hub old.conn (msgs ++ others)) old mid new a b
    (λ first next.
    let h : RoomPass = a.before in
    let j : RoomPass = a.behind in
    let k : RoomPass = b.behind in
    let out : HandsOut (Shows old.conn (site_of hub h.number)) (commands j.pass.1.seen) j.at others (commands k.pass.1.seen) k.at =
    subst (λ (n : ℕ). HandsOut (Shows old.conn (site_of hub n)) (commands j.pass.1.seen) j.at others (commands k.pass.1.seen) k.at) a.number
    (subst (λ (c : ℕ). HandsOut (Shows c (site_of hub j.number)) (commands j.pass.1.seen) j.at others (commands k.pass.1.seen) k.at) a.conn next.1) in
    (rereads_then h.pass.1 j.pass.1 k.pass.1 first.0 next.0, hands_then (Shows old.conn (site_of hub h.number)) (room_one old.conn (site_of hub h.number)) (commands h.pass.1.seen) h.at msgs (commands j.pass.1.seen) j.at others (commands k.pass.1.seen) k.at first.1 out))

abbrev look_both : (hub : Hub) (place shown : ℕ) (msgs : List Msg) (old mid new : Passes) → RoomOnly place (LooksRoom shown) old mid → RoomOnly place (Handed hub mid.conn msgs) mid new → RoomOnly place (RoomTells hub old.conn shown msgs) old new
look_both hub place shown msgs old mid new a b = room_both place (LooksRoom shown) (Handed hub mid.conn msgs) (RoomTells hub old.conn shown msgs) old mid new a b
    (λ look next.
    let h : RoomPass = a.before in
    let k : RoomPass = b.behind in
    let handed : Handed hub old.conn msgs (record h { pass = (h.pass.0, after_look h.pass.1 shown) }) k = subst (λ (x : RoomPass). Handed hub old.conn msgs x k) look.1 (subst (λ (c : ℕ). Handed hub c msgs a.behind k) a.conn next) in
    record { seen = look.0; fresh = look.2; read = handed.0; out = handed.1 })

-- no piece was taken yet
pub room_none : (hub : Hub) (place shown : ℕ) (old passes : Passes) (talk : Option Talk) → RoomOnly place (LooksRoom shown) old passes → AreOf hub passes → SendsRoom hub place passes passes talk talk
room_none hub place shown old passes talk o are =
    let there : slice_get passes.rooms.items place ≡ Some o.behind = ap (λ (rs : List RoomPass). slice_get rs place) o.rooms ∙ get_set old.rooms.items place o.before o.behind o.was in
    record {
      msgs = [];
      only = record { before = o.behind; behind = o.behind; was = there; rooms = set_own passes.rooms.items place o.behind there; number = refl; id = refl; done = room_nothing hub passes.conn o.behind o.behind (room_of hub passes place o.behind are there) (0, refl) refl; conn = refl; badge = refl; hall = refl };
      sent = refl;
    }

-- if out of memory
pub room_fails : (hub : Hub) (place : ℕ) (old new : Passes) (talk : Option Talk) → AreOf hub old → RoomOnly place (λ h k. Rereads h.pass.1 k.pass.1 × (k.at ≡ h.at)) old new → SendsOfRoom hub place old new talk talk
room_fails hub place old new talk are o = record {
  msgs = [];
  only = record { before = o.before; behind = o.behind; was = o.was; rooms = o.rooms; number = o.number; id = o.id; done = room_nothing hub old.conn o.before o.behind (room_of hub old place o.before are o.was) o.done.0 o.done.1; conn = o.conn; badge = o.badge; hall = o.hall };
  count = 0;
  sent = refl;
}

-- the id by which the place is held, as it was read after the call
pub record Given (place : ℕ) (old new : Passes) (later : RoomPass) (id : Option (Bor (List ℕ))) (msgs lent : List Msg) : Type 0 where
  pub within : place < length old.rooms.items
  pub at : later ≡ get_or new.rooms.items place later
  pub is : option_copied id ≡ later.id
  pub lent_is : lent ≡ msgs

later_is : {does : RoomPass → RoomPass → Type 0} (place : ℕ) (old new : Passes) (later : RoomPass) (o : RoomOnly place does old new) → place < length old.rooms.items → later ≡ get_or new.rooms.items place later → later ≡ o.behind
later_is place old new later o within at = at ∙ ap (λ (rs : List RoomPass). get_or rs place later) o.rooms ∙ get_or-set_same old.rooms.items place o.behind later within

given_texts : {does : RoomPass → RoomPass → Type 0} (place : ℕ) (old new : Passes) (later : RoomPass) (id : Option (Bor (List ℕ))) (msgs lent : List Msg) (o : RoomOnly place does old new) → Given place old new later id msgs lent → texts_of (option_copied id) lent ≡ texts_of o.behind.id msgs
given_texts place old new later id msgs lent o g = ap (λ (ms : List Msg). texts_of (option_copied id) ms) g.lent_is ∙ ap (λ (i : Option (List ℕ)). texts_of i msgs) (g.is ∙ ap (λ (x : RoomPass). x.id) (later_is place old new later o g.within g.at))

pub sends_room : (hub : Hub) (place : ℕ) (old new : Passes) (later : RoomPass) (id : Option (Bor (List ℕ))) (msgs lent : List Msg) (was is : Option Talk) → RoomOnly place (Handed hub old.conn msgs) old new → Given place old new later id msgs lent → is ≡ after_texts (texts_of (option_copied id) lent) was → SendsRoom hub place old new was is
sends_room hub place old new later id msgs lent was is o g sent = record { msgs = msgs; only = o; sent = sent ∙ ap (λ (ts : List (List ℕ)). after_texts ts was) (given_texts place old new later id msgs lent o g) }

pub sends_of_room : (hub : Hub) (place : ℕ) (old new : Passes) (later : RoomPass) (id : Option (Bor (List ℕ))) (msgs lent : List Msg) (was is : Option Talk) → RoomOnly place (Handed hub old.conn msgs) old new → Given place old new later id msgs lent → (count : ℕ) × (is ≡ after_texts (take count (texts_of (option_copied id) lent)) was) → SendsOfRoom hub place old new was is
sends_of_room hub place old new later id msgs lent was is o g sent = record { msgs = msgs; only = o; count = sent.0; sent = sent.1 ∙ ap (λ (ts : List (List ℕ)). after_texts (take sent.0 ts) was) (given_texts place old new later id msgs lent o g) }

-- the id stays from piece to piece
id_then : (hub : Hub) (place : ℕ) (msgs others : List Msg) (old mid new : Passes) (a : RoomOnly place (Handed hub old.conn msgs) old mid) (b : RoomOnly place (Handed hub mid.conn others) mid new) → a.behind.id ≡ b.behind.id
id_then hub place msgs others old mid new a b =
    let there : slice_get mid.rooms.items place ≡ Some a.behind = ap (λ (rs : List RoomPass). slice_get rs place) a.rooms ∙ get_set old.rooms.items place a.before a.behind a.was in
    sym (b.id ∙ ap (λ (x : RoomPass). x.id) (same_Some b.before a.behind (sym b.was ∙ there)))

-- a piece more
pub room_then : (hub : Hub) (place : ℕ) (old mid new : Passes) (was then_is is : Option Talk) → SendsRoom hub place old mid was then_is → SendsRoom hub place mid new then_is is → SendsRoom hub place old new was is
room_then hub place old mid new was then_is is a b =
    let before : then_is ≡ after_texts (texts_of b.only.behind.id a.msgs) was = subst (λ (i : Option (List ℕ)). then_is ≡ after_texts (texts_of i a.msgs) was) (id_then hub place a.msgs b.msgs old mid new a.only b.only) a.sent in
    record { msgs = a.msgs ++ b.msgs; only = pieces_both hub place a.msgs b.msgs old mid new a.only b.only; sent = texts_then b.only.behind.id a.msgs b.msgs was then_is is before b.sent }

abbrev room_some_then : (hub : Hub) (place : ℕ) (old mid new : Passes) (was then_is is : Option Talk) → SendsRoom hub place old mid was then_is → SendsOfRoom hub place mid new then_is is → SendsOfRoom hub place old new was is
room_some_then hub place old mid new was then_is is a b =
    let before : then_is ≡ after_texts (texts_of b.only.behind.id a.msgs) was = subst (λ (i : Option (List ℕ)). then_is ≡ after_texts (texts_of i a.msgs) was) (id_then hub place a.msgs b.msgs old mid new a.only b.only) a.sent in
    record {
      msgs = a.msgs ++ b.msgs;
      only = pieces_both hub place a.msgs b.msgs old mid new a.only b.only;
      count = length (texts_of b.only.behind.id a.msgs) + b.count;
      sent = some_then b.only.behind.id a.msgs b.msgs b.count was then_is is before b.sent;
    }

-- ---- what the room at a place told that is held

-- it was looked at
pub record LookedAt (place shown : ℕ) (old mid : Passes) (item : RoomPass) (id : Option (Bor (List ℕ))) : Type 0 where
  pub read : Read old.rooms.items place item id
  pub some : is_some id ≡ true
  pub look : RoomOnly place (LooksRoom shown) old mid

looked_held : (place shown : ℕ) (old mid : Passes) (item : RoomPass) (id : Option (Bor (List ℕ))) (l : LookedAt place shown old mid item id) → IsSome l.look.before.id
looked_held place shown old mid item id l =
    subst (λ (x : RoomPass). IsSome x.id) (same_Some item l.look.before (sym (read_there old.rooms.items place item id l.read) ∙ l.look.was)) (read_held old.rooms.items place item id l.read l.some)

pub tells_held : (hub : Hub) (place shown : ℕ) (old mid new : Passes) (item later : RoomPass) (id : Option (Bor (List ℕ))) (was is : Option Talk) → LookedAt place shown old mid item id → SendsRoom hub place mid new was is → later ≡ get_or new.rooms.items place later → shown ≤ later.at → TellsRoom hub place old new was is
tells_held hub place shown old mid new item later id was is l s at le =
    let o : RoomOnly place (RoomTells hub old.conn shown s.msgs) old new = look_both hub place shown s.msgs old mid new l.look s.only in
    let same : later.at ≡ o.behind.at = ap (λ (x : RoomPass). x.at) (later_is place old new later o l.read.within at) in
    inl (record {
      shown = shown;
      msgs = s.msgs;
      only = o;
      held = looked_held place shown old mid item id l;
      answered = omega (arith, same, le);
      sent = s.sent ∙ ap (λ (i : Option (List ℕ)). after_texts (texts_of i s.msgs) was) o.id;
    })

pub room_breaks_then : (hub : Hub) (place shown : ℕ) (old mid now new : Passes) (item : RoomPass) (id : Option (Bor (List ℕ))) (was then_is is : Option Talk) → LookedAt place shown old mid item id → SendsRoom hub place mid now was then_is → SendsOfRoom hub place now new then_is is → TellsRoomPart hub place old new was is
room_breaks_then hub place shown old mid now new item id was then_is is l s part =
    let p : SendsOfRoom hub place mid new was is = room_some_then hub place mid now new was then_is is s part in
    let o : RoomOnly place (RoomTells hub old.conn shown p.msgs) old new = look_both hub place shown p.msgs old mid new l.look p.only in
    record {
      shown = shown;
      msgs = p.msgs;
      only = o;
      held = looked_held place shown old mid item id l;
      count = p.count;
      sent = p.sent ∙ ap (λ (i : Option (List ℕ)). after_texts (take p.count (texts_of i p.msgs)) was) o.id;
    }
