-- A session that tells what happened in a room.
use Rattle.std.proofs.Common.{◌≡◌, ◌≢◌, ℕ, ◌+◌, ◌≤◌, List, [], ◌∷◌, ◌++◌, length, take, Option, Some, None, refl, ap, sym, ◌∙◌, subst, inl, inr, arith, append_assoc}
use Rattle.std.specs.Prelude.{All, IsSome, slice_get, slice_set}
use Rattle.std.proofs.lemmas.List.{length_push, set_at}
use Rattle.std.proofs.lemmas.List.Elements.{All-cons, All-head, All-tail, All-append, All-push}
use Rattle.std.proofs.lemmas.Option.{get_or_from_slice_get, slice_get_within}
use Rattle.ps_base.specs.declared.badge.Badge.{Badge}
use Rattle.ps_session.specs.Sessions.{Record}
use Rattle.ps_base.specs.Messages.{texts_of}
use Rattle.ps_outside.specs.Links.{Talk}
use Rattle.ps_hub.specs.Hubs.{Hub}
use Rattle.ps_hub.specs.Passes.{HallPass, RoomPass, AreOf, IsRoomPass}
use Rattle.ps_hub.specs.Calls.{HallOnly, LooksHall}
use Rattle.ps_hub.specs.declared.passes.Passes.{Passes}
use Rattle.ps_hub.proofs.PassListLemmas.{get_set}
use Rattle.ps_serve.specs.declared.closed.End.{End}
use Rattle.ps_serve.specs.Acts.{Act}
use Rattle.ps_serve.specs.Sendings.{Sending}
use Rattle.ps_serve.specs.Sittings.{IsCaughtUp, PlaceSits, PlaceLeft, Left, Sits}
use Rattle.ps_serve.specs.Steps.{after_sendings, Tells, TellsPart, is_fault}
use Rattle.ps_serve.specs.Tellings.{TellsHall, SendsOfHall, RoomTells, TellsHeld, TellsRoom, TellsRoomPart}
use Rattle.ps_serve.proofs.SendingLemmas.{sendings, from_self, from_room, all_sent_at, sendings_more, texts_after}
use Rattle.ps_serve.proofs.LookLemmas.{Looked, looked}
use Rattle.ps_histlock.proofs.Lists.{prefix_self}
use Rattle.ps_serve.proofs.Goings.{one_goes}
use Rattle.ps_serve.proofs.Halls.{IsHallKin}
use Rattle.ps_serve.proofs.PassLists.{apart_left, apart_right, contains_at}
use Rattle.ps_serve.proofs.PlaceLemmas.{hall_looks, room_goes, place_tells, place_up, place_free, never_free, hall_sits_on, hall_left_late, hall_waits, place_left_late, place_part}
use Rattle.ps_serve.proofs.TellingLemmas.{hall_breaks, telling_starts, telling_ends, Based, based_on, all_from, Telling, by_now, one_more, all_apart, room_alone, places_left, left_of, split_at}

-- ---- the room at an index of the list

-- It is about to tell, and others of the list aren't of its number.
pub record Here (hub : Hub) (conn open_at : ℕ) (acts : List Act) (m : ℕ) (all : List Sending) (hall_pass : HallPass) (front behind : List RoomPass) (badge : Option Badge) (h : RoomPass) : Type 0 where
  pub rest : List RoomPass
  pub split : behind ≡ h ∷ rest
  pub base : Based hub conn open_at acts all hall_pass (front ++ h ∷ rest) badge
  pub sits : PlaceSits hub conn acts m all h
  pub waits : All (PlaceSits hub conn acts m all) rest
  pub before : All (λ (o : RoomPass). o.number ≢ h.number) front
  pub later : All (λ (o : RoomPass). o.number ≢ h.number) rest

here_by : (hub : Hub) (conn open_at : ℕ) (acts : List Act) (m : ℕ) (all : List Sending) (hall_pass : HallPass) (front behind : List RoomPass) (badge : Option Badge) (h : RoomPass) (rest : List RoomPass) → behind ≡ h ∷ rest → Based hub conn open_at acts all hall_pass (front ++ behind) badge → All (PlaceSits hub conn acts m all) behind
    → Here hub conn open_at acts m all hall_pass front behind badge h
here_by hub conn open_at acts m all hall_pass front behind badge h rest split base waits =
    let b : Based hub conn open_at acts all hall_pass (front ++ h ∷ rest) badge = subst (λ (x : List RoomPass). Based hub conn open_at acts all hall_pass (front ++ x) badge) split base in
    let w : All (PlaceSits hub conn acts m all) (h ∷ rest) = subst (λ (x : List RoomPass). All (PlaceSits hub conn acts m all) x) split waits in
    record {
      rest = rest;
      split = split;
      base = b;
      sits = All-head (PlaceSits hub conn acts m all) h rest w;
      waits = All-tail (PlaceSits hub conn acts m all) h rest w;
      before = apart_left front h rest b.apart;
      later = apart_right front h rest b.apart;
    }

here_of : (hub : Hub) (conn open_at : ℕ) (acts : List Act) (a : Act) (ss : List Sending) (session : Record) (shown place : ℕ) (was is : Option Talk) (passes : Passes) (h : RoomPass) (t : Telling hub conn open_at acts a ss session shown place was is passes) → slice_get passes.rooms.items place ≡ Some h
    → Here hub conn open_at (acts ++ a ∷ []) (length acts) t.all t.hall_pass t.front t.behind passes.badge h
here_of hub conn open_at acts a ss session shown place was is passes h t get =
    let at = split_at t.front t.behind place h t.place_is (subst (λ (rs : List RoomPass). slice_get rs place ≡ Some h) t.pass_list get) in
    here_by hub conn open_at (acts ++ a ∷ []) (length acts) t.all t.hall_pass t.front t.behind passes.badge h at.0 at.1 t.base t.waits

member : (P : RoomPass → Type 0) (rooms : List RoomPass) (place : ℕ) (h : RoomPass) → All P rooms → slice_get rooms place ≡ Some h → P h
member P rooms place h all there = subst P (get_or_from_slice_get rooms place h h there) (all place h (slice_get_within rooms place h there))

hall_kin_self : (h : HallPass) → IsHallKin h h
hall_kin_self h = record { number = refl; seen = prefix_self h.pass.1.seen }

base_after : (hub : Hub) (conn open_at : ℕ) (acts : List Act) (m : ℕ) (all : List Sending) (hall_pass : HallPass) (front behind : List RoomPass) (badge : Option Badge) (h k : RoomPass) (n : ℕ) (texts : List (List ℕ)) → (x : Here hub conn open_at acts m all hall_pass front behind badge h) → IsSome h.id → Looked h.pass.1 k.pass.1 n → k.number ≡ h.number → k.id ≡ h.id
    → Based hub conn open_at acts (all ++ sendings (Some h.number) (m + 1) texts) hall_pass (front ++ k ∷ x.rest) badge
base_after hub conn open_at acts m all hall_pass front behind badge h k n texts x held l number id =
    based_on hub conn open_at acts all (sendings (Some h.number) (m + 1) texts) hall_pass hall_pass (front ++ h ∷ x.rest) (front ++ k ∷ x.rest) badge (hall_kin_self hall_pass) (one_goes front h k x.rest (room_goes h k n l number id))
    (all_from (Some h.number) (m + 1) texts (front ++ k ∷ x.rest) (k, contains_at front k x.rest, number, subst (λ (o : Option (List ℕ)). IsSome o) (sym id) held)) x.base

pass_list_after : (front behind : List RoomPass) (h k : RoomPass) (rest : List RoomPass) (place : ℕ) (old new : List RoomPass) → old ≡ front ++ behind → behind ≡ h ∷ rest → length front ≡ place → new ≡ slice_set old place k → new ≡ front ++ k ∷ rest
pass_list_after front behind h k rest place old new pass_list split at is = is ∙ ap (λ (rs : List RoomPass). slice_set rs place k) (pass_list ∙ ap (λ (b : List RoomPass). front ++ b) split) ∙ set_at front h rest k place at

-- ---- it tells all

held_step : (hub : Hub) (conn open_at : ℕ) (acts : List Act) (a : Act) (ss : List Sending) (session : Record) (shown place : ℕ) (was mid is : Option Talk) (old new : Passes) → Telling hub conn open_at acts a ss session shown place was mid old → AreOf hub old → AreOf hub new → TellsHeld hub place old new mid is → Telling hub conn open_at acts a ss session shown (place + 1) was is new
held_step hub conn open_at acts a ss session shown place was mid is old new t was_of are r =
    let m : ℕ = length acts in
    let h : RoomPass = r.only.before in
    let k : RoomPass = r.only.behind in
    let texts : List (List ℕ) = texts_of h.id r.msgs in
    let news : List Sending = sendings (Some h.number) (m + 1) texts in
    let tells : RoomTells hub conn r.shown r.msgs h k = subst (λ (c : ℕ). RoomTells hub c r.shown r.msgs h k) t.conn_is r.only.done in
    let l = looked h.pass.1 k.pass.1 r.shown tells.read in
    let x = here_of hub conn open_at acts a ss session shown place was mid old h t r.only.was in
    let now = all_sent_at (Some h.number) (m + 1) texts in
    let time = by_now (m + 1) t.all news t.on_time now in
    let pass_list : new.rooms.items ≡ t.front ++ k ∷ x.rest = pass_list_after t.front t.behind h k x.rest place old.rooms.items new.rooms.items t.pass_list x.split t.place_is r.only.rooms in
    let base = base_after hub conn open_at (acts ++ a ∷ []) m t.all t.hall_pass t.front t.behind old.badge h k r.shown texts x r.held l r.only.number r.only.id in
    let further : t.front ++ k ∷ x.rest ≡ (t.front ++ k ∷ []) ++ x.rest = sym (append_assoc t.front (k ∷ []) x.rest) in
    let conn_is : new.conn ≡ conn = r.only.conn ∙ t.conn_is in
    let was_pass : IsRoomPass hub conn h = subst (λ (c : ℕ). IsRoomPass hub c h) t.conn_is (member (IsRoomPass hub old.conn) old.rooms.items place h was_of.rooms r.only.was) in
    let there : slice_get new.rooms.items place ≡ Some k = ap (λ (rs : List RoomPass). slice_get rs place) r.only.rooms ∙ get_set old.rooms.items place h k r.only.was in
    let is_pass : IsRoomPass hub conn k = subst (λ (c : ℕ). IsRoomPass hub c k) conn_is (member (IsRoomPass hub new.conn) new.rooms.items place k are.rooms there) in
    record {
      more = t.more ++ news;
      all = t.all ++ news;
      all_is = ap (λ (ys : List Sending). ys ++ news) t.all_is ∙ append_assoc ss t.more news;
      now = All-append (λ (s : Sending). s.after ≡ m + 1) t.more news t.now now;
      sent = r.sent ∙ texts_after (Some h.number) (m + 1) texts mid ∙ ap (after_sendings news) t.sent ∙ sendings_more t.more news was;
      conn_is = conn_is;
      way = t.way;
      session_is = t.session_is;
      badge_is = r.only.badge ∙ t.badge_is;
      hall_before = t.hall_before;
      hall_pass = t.hall_pass;
      look = t.look;
      hall = r.only.hall ∙ t.hall;
      hall_sits = hall_sits_on hub conn (acts ++ a ∷ []) m t.all news t.hall_before t.hall_sits (from_room h.number (m + 1) texts);
      front = t.front ++ k ∷ [];
      behind = x.rest;
      pass_list = pass_list ∙ further;
      place_is = length_push t.front k ∙ ap (λ (i : ℕ). i + 1) t.place_is;
      base = subst (λ (rs : List RoomPass). Based hub conn open_at (acts ++ a ∷ []) (t.all ++ news) t.hall_pass rs new.badge) further (subst (λ (b : Option Badge). Based hub conn open_at (acts ++ a ∷ []) (t.all ++ news) t.hall_pass (t.front ++ k ∷ x.rest) b) (sym r.only.badge) base);
      done = All-push (PlaceSits hub conn (acts ++ a ∷ []) (m + 1) (t.all ++ news)) t.front k (all_apart hub conn (acts ++ a ∷ []) (m + 1) t.all news t.front t.done (room_alone h.number (m + 1) texts t.front x.before))
          (place_tells hub conn (acts ++ a ∷ []) m r.shown t.all news h k r.msgs x.sits r.held tells r.answered r.only.number r.only.id (from_self (Some h.number) (m + 1) texts) time (one_more acts a));
      told = All-push (λ (o : RoomPass). IsSome o.id → IsCaughtUp o.pass.1 o.at) t.front k t.told (λ e. place_up hub conn r.shown h k r.msgs tells r.answered was_pass is_pass);
      waits = all_apart hub conn (acts ++ a ∷ []) m t.all news x.rest x.waits (room_alone h.number (m + 1) texts x.rest x.later);
      on_time = time;
    }

-- ---- it isn't held

free_step : (hub : Hub) (conn open_at : ℕ) (acts : List Act) (a : Act) (ss : List Sending) (session : Record) (shown place : ℕ) (was mid is : Option Talk) (old : Passes) (h : RoomPass) → Telling hub conn open_at acts a ss session shown place was mid old → slice_get old.rooms.items place ≡ Some h → h.id ≡ None → is ≡ mid → Telling hub conn open_at acts a ss session shown (place + 1) was is old
free_step hub conn open_at acts a ss session shown place was mid is old h t there free silent =
    let x = here_of hub conn open_at acts a ss session shown place was mid old h t there in
    let further : t.front ++ h ∷ x.rest ≡ (t.front ++ h ∷ []) ++ x.rest = sym (append_assoc t.front (h ∷ []) x.rest) in
    record {
      more = t.more;
      all = t.all;
      all_is = t.all_is;
      now = t.now;
      sent = silent ∙ t.sent;
      conn_is = t.conn_is;
      way = t.way;
      session_is = t.session_is;
      badge_is = t.badge_is;
      hall_before = t.hall_before;
      hall_pass = t.hall_pass;
      look = t.look;
      hall = t.hall;
      hall_sits = t.hall_sits;
      front = t.front ++ h ∷ [];
      behind = x.rest;
      pass_list = t.pass_list ∙ ap (λ (b : List RoomPass). t.front ++ b) x.split ∙ further;
      place_is = length_push t.front h ∙ ap (λ (i : ℕ). i + 1) t.place_is;
      base = subst (λ (rs : List RoomPass). Based hub conn open_at (acts ++ a ∷ []) t.all t.hall_pass rs old.badge) further x.base;
      done = All-push (PlaceSits hub conn (acts ++ a ∷ []) (length acts + 1) t.all) t.front h t.done (place_free hub conn (acts ++ a ∷ []) (length acts) (length acts + 1) t.all h free x.sits);
      told = All-push (λ (o : RoomPass). IsSome o.id → IsCaughtUp o.pass.1 o.at) t.front h t.told (λ held. absurd (never_free h.id held free));
      waits = x.waits;
      on_time = t.on_time;
    }

pub room_step : (hub : Hub) (conn open_at : ℕ) (acts : List Act) (a : Act) (ss : List Sending) (session : Record) (shown place : ℕ) (was mid is : Option Talk) (old new : Passes) → Telling hub conn open_at acts a ss session shown place was mid old → AreOf hub old → AreOf hub new → TellsRoom hub place old new mid is → Telling hub conn open_at acts a ss session shown (place + 1) was is new
room_step hub conn open_at acts a ss session shown place was mid is old new t was_of are (inl r) = held_step hub conn open_at acts a ss session shown place was mid is old new t was_of are r
room_step hub conn open_at acts a ss session shown place was mid is old new t was_of are (inr r) = subst (λ (p : Passes). Telling hub conn open_at acts a ss session shown (place + 1) was is p) (sym r.same) (free_step hub conn open_at acts a ss session shown place was mid is old r.pass t r.there r.free r.silent)

-- ---- the session breaks off

pub room_breaks : (end : End) (hub : Hub) (conn open_at : ℕ) (acts : List Act) (a : Act) (ss : List Sending) (session : Record) (shown place : ℕ) (was mid is : Option Talk) (old new : Passes) → Telling hub conn open_at acts a ss session shown place was mid old → AreOf hub new → TellsRoomPart hub place old new mid is → TellsPart end hub conn open_at acts a ss was is new
room_breaks end hub conn open_at acts a ss session shown place was mid is old new t are r =
    let m : ℕ = length acts in
    let h : RoomPass = r.only.before in
    let k : RoomPass = r.only.behind in
    let texts : List (List ℕ) = take r.count (texts_of h.id r.msgs) in
    let news : List Sending = sendings (Some h.number) (m + 1) texts in
    let tells : RoomTells hub conn r.shown r.msgs h k = subst (λ (c : ℕ). RoomTells hub c r.shown r.msgs h k) t.conn_is r.only.done in
    let l = looked h.pass.1 k.pass.1 r.shown tells.read in
    let x = here_of hub conn open_at acts a ss session shown place was mid old h t r.only.was in
    let now = all_sent_at (Some h.number) (m + 1) texts in
    let pass_list : new.rooms.items ≡ t.front ++ k ∷ x.rest = pass_list_after t.front t.behind h k x.rest place old.rooms.items new.rooms.items t.pass_list x.split t.place_is r.only.rooms in
    let base = base_after hub conn open_at (acts ++ a ∷ []) m t.all t.hall_pass t.front t.behind old.badge h k r.shown texts x r.held l r.only.number r.only.id in
    let all_is : t.all ++ news ≡ ss ++ (t.more ++ news) = ap (λ (ys : List Sending). ys ++ news) t.all_is ∙ append_assoc ss t.more news in
    let hall = hall_left_late (is_fault end) hub conn acts a t.all news t.hall_before t.hall_pass shown t.hall_sits (hall_looks t.hall_before t.hall_pass shown t.look) (hall_waits hub conn (acts ++ a ∷ []) m shown t.all news t.hall_before t.hall_pass t.hall_sits t.look (from_room h.number (m + 1) texts)) in
    let told = places_left (is_fault end) hub conn acts a (m + 1) (t.all ++ news) t.front (omega arith) (all_apart hub conn (acts ++ a ∷ []) (m + 1) t.all news t.front t.done (room_alone h.number (m + 1) texts t.front x.before)) in
    let untold = places_left (is_fault end) hub conn acts a m (t.all ++ news) x.rest (omega arith) (all_apart hub conn (acts ++ a ∷ []) m t.all news x.rest x.waits (room_alone h.number (m + 1) texts x.rest x.later)) in
    let here = place_left_late (is_fault end) hub conn acts a t.all news h k r.shown x.sits r.held l r.only.number r.only.id (place_part hub conn (acts ++ a ∷ []) m r.shown t.all news h k r.msgs r.count x.sits tells (from_self (Some h.number) (m + 1) texts)) in
    record {
      more = t.more ++ news;
      now = All-append (λ (s : Sending). s.after ≡ m + 1) t.more news t.now now;
      sent = r.sent ∙ texts_after (Some h.number) (m + 1) texts mid ∙ ap (after_sendings news) t.sent ∙ sendings_more t.more news was;
      left = subst (λ (ys : List Sending). Left (is_fault end) hub conn open_at acts (acts ++ a ∷ []) ys new) all_is
          (left_of (is_fault end) hub conn open_at acts a (t.all ++ news) t.hall_pass (t.front ++ k ∷ x.rest) new are (r.only.conn ∙ t.conn_is) t.way (r.only.hall ∙ t.hall) pass_list (r.only.badge ∙ t.badge_is ∙ ap (λ (y : Record). y.badge) t.session_is)
          hall
          (All-append (PlaceLeft (is_fault end) hub conn acts (acts ++ a ∷ []) (t.all ++ news)) t.front (k ∷ x.rest) told (All-cons (PlaceLeft (is_fault end) hub conn acts (acts ++ a ∷ []) (t.all ++ news)) k x.rest here untold))
          (subst (λ (b : Option Badge). Based hub conn open_at (acts ++ a ∷ []) (t.all ++ news) t.hall_pass (t.front ++ k ∷ x.rest) b) (sym r.only.badge) base));
    }

-- ---- whatever the session did before

-- The hall was looked at and the first rooms of the list have told, since the passes were `old`.
pub record HaveTold (hub : Hub) (session : Record) (shown place : ℕ) (old new : Passes) (was is : Option Talk) : Type 0 where
  pub so : (conn open_at : ℕ) (acts : List Act) (a : Act) (ss : List Sending) → Sits hub conn open_at (acts ++ a ∷ []) (length acts) ss session old → Telling hub conn open_at acts a ss session shown place was is new

pub none_have_told : (hub : Hub) (session : Record) (shown : ℕ) (old new : Passes) (was : Option Talk) → HallOnly (LooksHall shown) old new → HaveTold hub session shown 0 old new was was
none_have_told hub session shown old new was o = record { so = λ conn open_at acts a ss s. telling_starts hub conn open_at acts a ss session shown was old new s o }

pub room_has_told : (hub : Hub) (session : Record) (shown place : ℕ) (old mid new : Passes) (was then_is is : Option Talk) → HaveTold hub session shown place old mid was then_is → AreOf hub mid → AreOf hub new → TellsRoom hub place mid new then_is is → HaveTold hub session shown (place + 1) old new was is
room_has_told hub session shown place old mid new was then_is is t was_of are r = record { so = λ conn open_at acts a ss s. room_step hub conn open_at acts a ss session shown place was then_is is mid new (t.so conn open_at acts a ss s) was_of are r }

-- what a session tells that breaks off
pub room_breaks_off : (end : End) (hub : Hub) (session : Record) (shown place : ℕ) (old mid new : Passes) (was then_is is : Option Talk) → HaveTold hub session shown place old mid was then_is → AreOf hub new → TellsRoomPart hub place mid new then_is is
    → (conn open_at : ℕ) (acts : List Act) (a : Act) (ss : List Sending) → Sits hub conn open_at (acts ++ a ∷ []) (length acts) ss session old → TellsPart end hub conn open_at acts a ss was is new
room_breaks_off end hub session shown place old mid new was then_is is t are r conn open_at acts a ss s = room_breaks end hub conn open_at acts a ss session shown place was then_is is mid new (t.so conn open_at acts a ss s) are r

pub hall_breaks_off : (end : End) (hub : Hub) (session : Record) (shown place : ℕ) (old mid new : Passes) (was then_is is : Option Talk) → HaveTold hub session shown place old mid was then_is → AreOf hub new → length mid.rooms.items ≤ place → SendsOfHall hub mid new then_is is
    → (conn open_at : ℕ) (acts : List Act) (a : Act) (ss : List Sending) → Sits hub conn open_at (acts ++ a ∷ []) (length acts) ss session old → TellsPart end hub conn open_at acts a ss was is new
hall_breaks_off end hub session shown place old mid new was then_is is t are past r conn open_at acts a ss s = hall_breaks end hub conn open_at acts a ss session shown place was then_is is mid new (t.so conn open_at acts a ss s) are past r

-- and one that has told all
pub all_have_told : (hub : Hub) (session : Record) (shown place : ℕ) (old mid new : Passes) (was then_is is : Option Talk) → HaveTold hub session shown place old mid was then_is → AreOf hub mid → AreOf hub new → length mid.rooms.items ≤ place → TellsHall hub shown mid new then_is is
    → (conn open_at : ℕ) (acts : List Act) (a : Act) (ss : List Sending) → Sits hub conn open_at (acts ++ a ∷ []) (length acts) ss session old → Tells hub conn open_at acts a ss session was is new
all_have_told hub session shown place old mid new was then_is is t was_of are past r conn open_at acts a ss s = telling_ends hub conn open_at acts a ss session shown place was then_is is mid new (t.so conn open_at acts a ss s) was_of are past r
