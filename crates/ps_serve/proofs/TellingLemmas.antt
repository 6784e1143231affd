-- A session that tells what happened, place after place.
use Rattle.std.proofs.Common.{◌≡◌, ◌≢◌, ℕ, zero, suc, ◌+◌, ◌≤◌, Bool, true, false, List, [], ◌∷◌, ◌++◌, length, take, get_or, Option, Some, None, refl, ap, sym, ◌∙◌, subst, inl, arith, append_assoc}
use Rattle.std.specs.Prelude.{All, IsSome, slice_get}
use Rattle.std.specs.List.{AllZip}
use Rattle.std.proofs.lemmas.List.{append-nil, length-append, nil_from_length}
use Rattle.std.proofs.lemmas.List.Elements.{All-nil, All-cons, All-head, All-tail, All-append, All-weaker, All-contains}
use Rattle.std.proofs.lemmas.Option.{same_Some, none-some}
use Rattle.std.proofs.lemmas.Grind.{flat_map-append}
use Rattle.ps_base.specs.declared.badge.Badge.{Badge}
use Rattle.rules_start.specs.declared.start.Start.{Start}
use Rattle.ps_base.specs.declared.msg.Msg.{Msg}
use Rattle.ps_histlock.specs.Histories.{entries_of}
use Rattle.ps_session.specs.Sessions.{Record, begun}
use Rattle.ps_base.specs.Messages.{texts_of}
use Rattle.ps_outside.specs.Links.{Talk}
use Rattle.ps_hub.specs.Hubs.{Hub}
use Rattle.ps_hub.specs.Passes.{HallPass, RoomPass, AreOf, IsHallPass}
use Rattle.ps_hub.specs.Calls.{HallOnly, HallHanded, LooksHall}
use Rattle.ps_hub.specs.declared.passes.Passes.{Passes}
use Rattle.ps_hub.proofs.PassListLemmas.{all_left, hall_of}
use Rattle.ps_serve.specs.declared.closed.End.{End}
use Rattle.ps_serve.specs.Acts.{Act, after_acts, AreActs, since, begun_by, all_begun}
use Rattle.ps_serve.specs.Sendings.{Sending, is_place, texts_from}
use Rattle.ps_serve.specs.Sittings.{HasOpen, HallSits, IsCaughtUp, PlaceSits, AreGiven, AreGivenSo, IsFromBy, IsFrom, IsBegun, AreApart, IsUntouched, Sits, sure_acts, HallLeft, PlaceLeft, Left}
use Rattle.ps_serve.specs.Steps.{after_sendings, Tells, TellsPart, is_fault}
use Rattle.ps_serve.specs.Tellings.{TellsHall, SendsOfHall}
use Rattle.ps_serve.proofs.PassLists.{begun_grows, from_grows}
use Rattle.ps_serve.proofs.Actions.{given_parts}
use Rattle.ps_serve.proofs.Halls.{IsHallKin, open_grows, given_grows}
use Rattle.ps_serve.proofs.SendingLemmas.{sendings, sending, is_place_other, from_self, from_other, from_still, all_sent_at, no_sendings, sendings_more, texts_after}
use Rattle.ps_serve.proofs.LookLemmas.{reread, looked}
use Rattle.ps_serve.proofs.Goings.{Goes, all_stay, kept_in, zip_all, all_went, apart_on}
use Rattle.ps_serve.proofs.PlaceLemmas.{HallTells, hall_grew, hall_looks, hall_told, hall_tells, hall_up, hall_own, hall_sits_on, place_apart, hall_left_late, place_left, hall_part}

-- ---- what telling leaves as it is

pub record Based (hub : Hub) (conn open_at : ℕ) (acts : List Act) (ss : List Sending) (h : HallPass) (rooms : List RoomPass) (badge : Option Badge) : Type 0 where
  pub joined : All (λ (k : RoomPass). IsSome k.id → since k.number acts ≢ []) rooms
  pub others : (number : ℕ) → All (λ (k : RoomPass). k.number ≢ number) rooms → IsUntouched conn number acts ss
  pub apart : AreApart rooms
  pub begins_are : All (IsBegun rooms) (all_begun acts)
  pub named : All (λ (k : RoomPass). IsSome k.id → IsSome badge) rooms
  pub gave : AreGiven hub conn [] acts h rooms
  pub from : All (IsFrom rooms) ss
  pub opened : HasOpen conn open_at h

base_of : (hub : Hub) (conn open_at : ℕ) (acts : List Act) (looked : ℕ) (ss : List Sending) (session : Record) (passes : Passes) (s : Sits hub conn open_at acts looked ss session passes) → Based hub conn open_at acts ss s.hall_pass passes.rooms.items passes.badge
base_of hub conn open_at acts looked ss session passes s = record { joined = s.joined; others = s.others; apart = s.apart; begins_are = s.begun; named = s.named; gave = s.gave; from = s.from; opened = s.opened }

-- nothing of these is from a place without a pass
unsent_by : (number : ℕ) (place : Option ℕ) (rooms : List RoomPass) → IsFromBy place rooms → All (λ (k : RoomPass). k.number ≢ number) rooms → is_place (Some number) place ≡ false
unsent_by number None rooms f all = refl
unsent_by number (Some other) rooms f all =
    let differs : f.0.number ≢ number = All-contains (λ (k : RoomPass). k.number ≢ number) rooms f.0 all f.1 in
    is_place_other number other (λ e. differs (f.2 ∙ sym e))

unsent : (number : ℕ) (rooms : List RoomPass) (news : List Sending) → All (IsFrom rooms) news → All (λ (k : RoomPass). k.number ≢ number) rooms → texts_from (Some number) news ≡ []
unsent number rooms [] f all = refl
unsent number rooms (s ∷ news) f all = rw (unsent_by number s.place rooms (All-head (IsFrom rooms) s news f) all) (unsent number rooms news (All-tail (IsFrom rooms) s news f) all)

pub all_from : (place : Option ℕ) (n : ℕ) (texts : List (List ℕ)) (rooms : List RoomPass) → IsFromBy place rooms → All (IsFrom rooms) (sendings place n texts)
all_from place n [] rooms f = All-nil (IsFrom rooms)
all_from place n (text ∷ texts) rooms f = All-cons (IsFrom rooms) (sending place n text) (sendings place n texts) f (all_from place n texts rooms f)

pub based_on : (hub : Hub) (conn open_at : ℕ) (acts : List Act) (ss news : List Sending) (h k : HallPass) (old new : List RoomPass) (badge : Option Badge) → IsHallKin h k → AllZip Goes old new → All (IsFrom new) news → Based hub conn open_at acts ss h old badge → Based hub conn open_at acts (ss ++ news) k new badge
based_on hub conn open_at acts ss news h k old new badge more pass_list here b = record {
  joined = zip_all Goes (λ (x : RoomPass). IsSome x.id → since x.number acts ≢ []) (λ (x : RoomPass). IsSome x.id → since x.number acts ≢ []) (λ x y g p held. subst (λ (n : ℕ). since n acts ≢ []) (sym g.grew.place) (p (subst (λ (o : Option (List ℕ)). IsSome o) g.id held))) old new pass_list b.joined;
  others = λ number all. untouched number (b.others number (all_went (λ (x : RoomPass). x.number ≢ number) (λ (x : RoomPass). x.number ≢ number) (λ x y g p e. p (g.grew.place ∙ e)) old new pass_list all)) all;
  apart = apart_on old new pass_list b.apart;
  begins_are = All-weaker (IsBegun old) (IsBegun new) (begun_grows old new (kept_in old new pass_list)) (all_begun acts) b.begins_are;
  named = zip_all Goes (λ (x : RoomPass). IsSome x.id → IsSome badge) (λ (x : RoomPass). IsSome x.id → IsSome badge) (λ x y g p held. p (subst (λ (o : Option (List ℕ)). IsSome o) g.id held)) old new pass_list b.named;
  gave = given_grows hub conn [] acts h k old new more (kept_in old new pass_list) b.gave;
  from = All-append (IsFrom new) ss news (All-weaker (IsFrom old) (IsFrom new) (from_grows old new (kept_in old new pass_list)) ss b.from) here;
  opened = open_grows conn open_at h k more b.opened;
}
  where
    untouched : (number : ℕ) → IsUntouched conn number acts ss → All (λ (x : RoomPass). x.number ≢ number) new → IsUntouched conn number acts (ss ++ news)
    untouched number u all = record { no_cmds = u.no_cmds; not_joined = u.not_joined; not_asked = u.not_asked; not_begun = u.not_begun; not_sent = from_still (Some number) ss news (unsent number new news here all) ∙ u.not_sent }

-- ---- on the way

-- The hall was looked at, and has told nothing yet. The first rooms of the list have told, and the others haven't.
pub record Telling (hub : Hub) (conn open_at : ℕ) (acts : List Act) (a : Act) (ss : List Sending) (session : Record) (shown place : ℕ) (was is : Option Talk) (passes : Passes) : Type 0 where
  pub more : List Sending
  pub all : List Sending
  pub all_is : all ≡ ss ++ more
  pub now : All (λ (s : Sending). s.after ≡ length acts + 1) more
  pub sent : is ≡ after_sendings more was
  pub conn_is : passes.conn ≡ conn
  pub way : AreActs (begun conn) (acts ++ a ∷ [])
  pub session_is : session ≡ after_acts (begun conn) (acts ++ a ∷ [])
  pub badge_is : passes.badge ≡ session.badge
  pub hall_before : HallPass
  pub hall_pass : HallPass
  pub look : LooksHall shown hall_before hall_pass
  pub hall : passes.hall ≡ Some hall_pass
  pub hall_sits : HallSits hub conn (acts ++ a ∷ []) (length acts) all hall_before
  pub front : List RoomPass
  pub behind : List RoomPass
  pub pass_list : passes.rooms.items ≡ front ++ behind
  pub place_is : length front ≡ place
  pub base : Based hub conn open_at (acts ++ a ∷ []) all hall_pass (front ++ behind) passes.badge
  pub done : All (PlaceSits hub conn (acts ++ a ∷ []) (length acts + 1) all) front
  pub told : All (λ (k : RoomPass). IsSome k.id → IsCaughtUp k.pass.1 k.at) front
  pub waits : All (PlaceSits hub conn (acts ++ a ∷ []) (length acts) all) behind
  pub on_time : All (λ (s : Sending). s.after ≤ length acts + 1) all

-- what was sent before and now was sent by now
pub by_now : (m : ℕ) (ss news : List Sending) → All (λ (s : Sending). s.after ≤ m) ss → All (λ (s : Sending). s.after ≡ m) news → All (λ (s : Sending). s.after ≤ m) (ss ++ news)
by_now m ss news before now = All-append (λ (s : Sending). s.after ≤ m) ss news before (All-weaker (λ (s : Sending). s.after ≡ m) (λ (s : Sending). s.after ≤ m) (λ s e. omega (arith, e)) news now)

later : (m : ℕ) (ss : List Sending) → All (λ (s : Sending). s.after ≤ m) ss → All (λ (s : Sending). s.after ≤ m + 1) ss
later m ss all = All-weaker (λ (s : Sending). s.after ≤ m) (λ (s : Sending). s.after ≤ m + 1) (λ s le. omega (arith, le)) ss all

pub one_more : (acts : List Act) (a : Act) → length acts + 1 ≡ length (acts ++ a ∷ [])
one_more acts a = sym (length-append acts (a ∷ []))

-- ---- places from which nothing was sent now

pub all_apart : (hub : Hub) (conn : ℕ) (acts : List Act) (looked : ℕ) (ss news : List Sending) (rooms : List RoomPass) → All (PlaceSits hub conn acts looked ss) rooms → All (λ (k : RoomPass). texts_from (Some k.number) news ≡ []) rooms → All (PlaceSits hub conn acts looked (ss ++ news)) rooms
all_apart hub conn acts looked ss news rooms sits others i d lt = place_apart hub conn acts looked ss news (get_or rooms i d) (sits i d lt) (others i d lt)

-- of the hall's texts none is from a room
hall_alone : (n : ℕ) (texts : List (List ℕ)) (rooms : List RoomPass) → All (λ (k : RoomPass). texts_from (Some k.number) (sendings None n texts) ≡ []) rooms
hall_alone n texts rooms i d lt = from_other (Some (get_or rooms i d).number) None n texts refl

-- of a room's texts none is from another
pub room_alone : (number n : ℕ) (texts : List (List ℕ)) (rooms : List RoomPass) → All (λ (k : RoomPass). k.number ≢ number) rooms → All (λ (k : RoomPass). texts_from (Some k.number) (sendings (Some number) n texts) ≡ []) rooms
room_alone number n texts rooms differ i d lt = from_other (Some (get_or rooms i d).number) (Some number) n texts (is_place_other (get_or rooms i d).number number (differ i d lt))

-- ---- breaking off

pub places_left : (whole : Bool) (hub : Hub) (conn : ℕ) (acts : List Act) (a : Act) (looked : ℕ) (ss : List Sending) (rooms : List RoomPass) → length acts ≤ looked → All (PlaceSits hub conn (acts ++ a ∷ []) looked ss) rooms → All (PlaceLeft whole hub conn acts (acts ++ a ∷ []) ss) rooms
places_left whole hub conn acts a looked ss rooms le sits i d lt = place_left whole hub conn acts a looked ss (get_or rooms i d) le (sits i d lt)

begun_left : (whole : Bool) (rooms : List RoomPass) (acts : List Act) (a : Act) → All (IsBegun rooms) (all_begun (acts ++ a ∷ [])) → All (IsBegun rooms) (all_begun (sure_acts whole acts (acts ++ a ∷ [])))
begun_left true rooms acts a all = all
begun_left false rooms acts a all = all_left (IsBegun rooms) (all_begun acts) (all_begun (a ∷ [])) (subst (λ (starts : List Start). All (IsBegun rooms) starts) (flat_map-append begun_by acts (a ∷ [])) all)

given_left : (whole : Bool) (hub : Hub) (conn : ℕ) (acts : List Act) (a : Act) (h : HallPass) (rooms : List RoomPass) → AreGiven hub conn [] (acts ++ a ∷ []) h rooms → AreGivenSo whole hub conn acts (acts ++ a ∷ []) h rooms
given_left true hub conn acts a h rooms g = g
given_left false hub conn acts a h rooms g = (let p = given_parts hub conn [] acts a h rooms g in (a ∷ [], refl, p.0, (inl p.1, refl)))

pub left_of : (whole : Bool) (hub : Hub) (conn open_at : ℕ) (acts : List Act) (a : Act) (ss : List Sending) (h : HallPass) (rooms : List RoomPass) (passes : Passes) → AreOf hub passes → passes.conn ≡ conn → AreActs (begun conn) (acts ++ a ∷ []) → passes.hall ≡ Some h → passes.rooms.items ≡ rooms → passes.badge ≡ (after_acts (begun conn) (acts ++ a ∷ [])).badge
    → HallLeft whole hub conn acts (acts ++ a ∷ []) ss h → All (PlaceLeft whole hub conn acts (acts ++ a ∷ []) ss) rooms → Based hub conn open_at (acts ++ a ∷ []) ss h rooms passes.badge → Left whole hub conn open_at acts (acts ++ a ∷ []) ss passes
left_of whole hub conn open_at acts a ss h rooms passes are conn_is way hall pass_list badge_is hall_is all b = record {
  are = are;
  conn_is = conn_is;
  way = way;
  hall_pass = h;
  hall = hall;
  hall_left = hall_is;
  rooms = subst (λ (rs : List RoomPass). All (PlaceLeft whole hub conn acts (acts ++ a ∷ []) ss) rs) (sym pass_list) all;
  apart = subst AreApart (sym pass_list) b.apart;
  gave = subst (λ (rs : List RoomPass). AreGivenSo whole hub conn acts (acts ++ a ∷ []) h rs) (sym pass_list) (given_left whole hub conn acts a h rooms b.gave);
  badge_is = badge_is;
  begun = subst (λ (rs : List RoomPass). All (IsBegun rs) (all_begun (sure_acts whole acts (acts ++ a ∷ [])))) (sym pass_list) (begun_left whole rooms acts a b.begins_are);
  from = subst (λ (rs : List RoomPass). All (IsFrom rs) ss) (sym pass_list) b.from;
  named = subst (λ (rs : List RoomPass). All (λ (k : RoomPass). IsSome k.id → IsSome passes.badge) rs) (sym pass_list) b.named;
  opened = b.opened;
}

-- ---- the hall is looked at

pub telling_starts : (hub : Hub) (conn open_at : ℕ) (acts : List Act) (a : Act) (ss : List Sending) (session : Record) (shown : ℕ) (was : Option Talk) (old new : Passes) → Sits hub conn open_at (acts ++ a ∷ []) (length acts) ss session old → HallOnly (LooksHall shown) old new
    → Telling hub conn open_at acts a ss session shown 0 was was new
telling_starts hub conn open_at acts a ss session shown was old new s o =
    let m : ℕ = length acts in
    let look : LooksHall shown s.hall_pass o.behind = subst (λ (h : HallPass). LooksHall shown h o.behind) (same_Some o.before s.hall_pass (sym o.was ∙ s.hall)) o.done in
    record {
      more = [];
      all = ss ++ [];
      all_is = refl;
      now = All-nil (λ (x : Sending). x.after ≡ m + 1);
      sent = no_sendings was;
      conn_is = o.conn ∙ s.conn_is;
      way = s.way;
      session_is = s.session_is;
      badge_is = o.badge ∙ s.badge_is;
      hall_before = s.hall_pass;
      hall_pass = o.behind;
      look = look;
      hall = o.is;
      hall_sits = hall_sits_on hub conn (acts ++ a ∷ []) m ss [] s.hall_pass s.hall_sits refl;
      front = [];
      behind = old.rooms.items;
      pass_list = o.rooms;
      place_is = refl;
      base = subst (λ (b : Option Badge). Based hub conn open_at (acts ++ a ∷ []) (ss ++ []) o.behind old.rooms.items b) (sym o.badge)
          (based_on hub conn open_at (acts ++ a ∷ []) ss [] s.hall_pass o.behind old.rooms.items old.rooms.items old.badge (hall_grew s.hall_pass o.behind shown (hall_looks s.hall_pass o.behind shown look)) (all_stay old.rooms.items) (All-nil (IsFrom old.rooms.items)) (base_of hub conn open_at (acts ++ a ∷ []) m ss session old s));
      done = All-nil (PlaceSits hub conn (acts ++ a ∷ []) (m + 1) (ss ++ []));
      told = All-nil (λ (k : RoomPass). IsSome k.id → IsCaughtUp k.pass.1 k.at);
      waits = all_apart hub conn (acts ++ a ∷ []) m ss [] old.rooms.items s.rooms (λ i d lt. refl);
      on_time = by_now (m + 1) ss [] (later m ss s.on_time) (All-nil (λ (x : Sending). x.after ≡ m + 1));
    }

-- ---- the hall tells, behind all rooms

-- what it tells, of which these texts were sent
record Ending (hub : Hub) (conn open_at : ℕ) (acts : List Act) (all : List Sending) (shown : ℕ) (texts : List (List ℕ)) (hall_before : HallPass) (front : List RoomPass) (badge : Option Badge) (msgs : List Msg) (old new : Passes) (k : HallPass) : Type 0 where
  pub tells : HallTells hub conn shown msgs hall_before k
  pub pass_list : new.rooms.items ≡ front
  pub base : Based hub conn open_at acts (all ++ sendings None (length acts) texts) k front badge

ending : (hub : Hub) (conn open_at : ℕ) (acts : List Act) (a : Act) (ss : List Sending) (session : Record) (shown place : ℕ) (was is : Option Talk) (old new : Passes) (texts : List (List ℕ)) (msgs : List Msg) → (t : Telling hub conn open_at acts a ss session shown place was is old) → length old.rooms.items ≤ place → (o : HallOnly (HallHanded hub old.conn msgs) old new)
    → Ending hub conn open_at (acts ++ a ∷ []) t.all shown texts t.hall_before t.front old.badge msgs old new o.behind
ending hub conn open_at acts a ss session shown place was is old new texts msgs t past o =
    let size = ap length t.pass_list ∙ length-append t.front t.behind in
    let at = t.place_is in
    let none_left : t.behind ≡ [] = nil_from_length t.behind (omega arith) in
    let all_front : t.front ++ t.behind ≡ t.front = ap (λ (b : List RoomPass). t.front ++ b) none_left ∙ append-nil t.front in
    let same : o.before ≡ t.hall_pass = same_Some o.before t.hall_pass (sym o.was ∙ t.hall) in
    let handed : HallHanded hub conn msgs t.hall_pass o.behind = subst (λ (h : HallPass). HallHanded hub conn msgs h o.behind) same (subst (λ (c : ℕ). HallHanded hub c msgs o.before o.behind) t.conn_is o.done) in
    let r = reread t.hall_pass.pass.1 o.behind.pass.1 handed.0 in
    record {
      tells = hall_told hub conn shown t.hall_before t.hall_pass o.behind msgs t.look handed;
      pass_list = o.rooms ∙ t.pass_list ∙ all_front;
      base = based_on hub conn open_at (acts ++ a ∷ []) t.all (sendings None (length (acts ++ a ∷ [])) texts) t.hall_pass o.behind t.front t.front old.badge (record { number = r.number; seen = r.grows }) (all_stay t.front) (all_from None (length (acts ++ a ∷ [])) texts t.front tt)
          (subst (λ (rs : List RoomPass). Based hub conn open_at (acts ++ a ∷ []) t.all t.hall_pass rs old.badge) all_front t.base);
    }

pub telling_ends : (hub : Hub) (conn open_at : ℕ) (acts : List Act) (a : Act) (ss : List Sending) (session : Record) (shown place : ℕ) (was mid is : Option Talk) (old new : Passes) → Telling hub conn open_at acts a ss session shown place was mid old → AreOf hub old → AreOf hub new → length old.rooms.items ≤ place → TellsHall hub shown old new mid is
    → Tells hub conn open_at acts a ss session was is new
telling_ends hub conn open_at acts a ss session shown place was mid is old new t was_of are past r =
    let m : ℕ = length acts in
    let all_acts : List Act = acts ++ a ∷ [] in
    let k : HallPass = r.sends.only.behind in
    let msgs : List Msg = r.sends.msgs in
    let texts : List (List ℕ) = texts_of None msgs in
    let news : List Sending = sendings None (m + 1) texts in
    let e = ending hub conn open_at acts a ss session shown place was mid old new texts msgs t past r.sends.only in
    let now = all_sent_at None (m + 1) texts in
    let time = by_now (m + 1) t.all news t.on_time now in
    let own : t.hall_before.pass.1.mine ≡ entries_of t.hall_before.pass.1.number t.hall_before.pass.1.seen = hall_own hub old.conn shown t.hall_before t.hall_pass t.look (hall_of hub old t.hall_pass was_of t.hall) in
    let conn_is : new.conn ≡ conn = r.sends.only.conn ∙ t.conn_is in
    let behind : IsHallPass hub conn k = subst (λ (c : ℕ). IsHallPass hub c k) conn_is (hall_of hub new k are r.sends.only.is) in
    let rooms_told : All (λ (x : RoomPass). IsSome x.id → IsCaughtUp x.pass.1 x.at) new.rooms.items = subst (λ (rs : List RoomPass). All (λ (x : RoomPass). IsSome x.id → IsCaughtUp x.pass.1 x.at) rs) (sym e.pass_list) t.told in
    let base : Based hub conn open_at all_acts (t.all ++ news) k new.rooms.items new.badge =
    subst (λ (rs : List RoomPass). Based hub conn open_at all_acts (t.all ++ news) k rs new.badge) (sym e.pass_list)
    (subst (λ (b : Option Badge). Based hub conn open_at all_acts (t.all ++ news) k t.front b) (sym r.sends.only.badge)
    (subst (λ (n : ℕ). Based hub conn open_at all_acts (t.all ++ sendings None n texts) k t.front old.badge) (sym (one_more acts a)) e.base)) in
    let sits : Sits hub conn open_at all_acts (m + 1) (t.all ++ news) session new = record {
      are = are;
      conn_is = conn_is;
      way = t.way;
      session_is = t.session_is;
      badge_is = r.sends.only.badge ∙ t.badge_is;
      hall_pass = k;
      hall = r.sends.only.is;
      hall_sits = hall_tells hub conn all_acts m shown t.all news t.hall_before k msgs t.hall_sits e.tells r.answered (from_self None (m + 1) texts) time;
      rooms = subst (λ (rs : List RoomPass). All (PlaceSits hub conn all_acts (m + 1) (t.all ++ news)) rs) (sym e.pass_list) (all_apart hub conn all_acts (m + 1) t.all news t.front t.done (hall_alone (m + 1) texts t.front));
      joined = base.joined;
      others = base.others;
      apart = base.apart;
      begun = base.begins_are;
      named = base.named;
      gave = base.gave;
      from = base.from;
      opened = base.opened;
      on_time = time;
    } in
    record {
      more = t.more ++ news;
      now = All-append (λ (s : Sending). s.after ≡ m + 1) t.more news t.now now;
      sent = r.sends.sent ∙ texts_after None (m + 1) texts mid ∙ ap (after_sendings news) t.sent ∙ sendings_more t.more news was;
      sits = subst (λ (ys : List Sending). Sits hub conn open_at all_acts (m + 1) ys session new) (ap (λ (ys : List Sending). ys ++ news) t.all_is ∙ append_assoc ss t.more news) sits;
      up = record {
        hall = λ h is. subst (λ (x : HallPass). IsCaughtUp x.pass.1 x.at) (same_Some k h (sym r.sends.only.is ∙ is)) (hall_up hub conn shown t.hall_before k msgs e.tells r.answered own behind);
        rooms = rooms_told;
      };
    }

-- the hall told in part
pub hall_breaks : (end : End) (hub : Hub) (conn open_at : ℕ) (acts : List Act) (a : Act) (ss : List Sending) (session : Record) (shown place : ℕ) (was mid is : Option Talk) (old new : Passes) → Telling hub conn open_at acts a ss session shown place was mid old → AreOf hub new → length old.rooms.items ≤ place → SendsOfHall hub old new mid is
    → TellsPart end hub conn open_at acts a ss was is new
hall_breaks end hub conn open_at acts a ss session shown place was mid is old new t are past r =
    let m : ℕ = length acts in
    let k : HallPass = r.only.behind in
    let texts : List (List ℕ) = take r.count (texts_of None r.msgs) in
    let news : List Sending = sendings None (m + 1) texts in
    let e = ending hub conn open_at acts a ss session shown place was mid old new texts r.msgs t past r.only in
    let base : Based hub conn open_at (acts ++ a ∷ []) (t.all ++ news) k t.front new.badge =
    subst (λ (b : Option Badge). Based hub conn open_at (acts ++ a ∷ []) (t.all ++ news) k t.front b) (sym r.only.badge)
    (subst (λ (n : ℕ). Based hub conn open_at (acts ++ a ∷ []) (t.all ++ sendings None n texts) k t.front old.badge) (sym (one_more acts a)) e.base) in
    record {
      more = t.more ++ news;
      now = All-append (λ (s : Sending). s.after ≡ m + 1) t.more news t.now (all_sent_at None (m + 1) texts);
      sent = r.sent ∙ texts_after None (m + 1) texts mid ∙ ap (after_sendings news) t.sent ∙ sendings_more t.more news was;
      left = subst (λ (ys : List Sending). Left (is_fault end) hub conn open_at acts (acts ++ a ∷ []) ys new) (ap (λ (ys : List Sending). ys ++ news) t.all_is ∙ append_assoc ss t.more news)
          (left_of (is_fault end) hub conn open_at acts a (t.all ++ news) k t.front new are (r.only.conn ∙ t.conn_is) t.way r.only.is e.pass_list (r.only.badge ∙ t.badge_is ∙ ap (λ (x : Record). x.badge) t.session_is)
          (hall_left_late (is_fault end) hub conn acts a t.all news t.hall_before k shown t.hall_sits (looked t.hall_before.pass.1 k.pass.1 shown e.tells.read) (hall_part hub conn (acts ++ a ∷ []) m shown t.all news t.hall_before k r.msgs r.count t.hall_sits e.tells (from_self None (m + 1) texts)))
          (places_left (is_fault end) hub conn acts a (m + 1) (t.all ++ news) t.front (omega arith) (all_apart hub conn (acts ++ a ∷ []) (m + 1) t.all news t.front t.done (hall_alone (m + 1) texts t.front)))
          base);
    }

-- ---- a room

-- the pass at an index of the list
pub split_at : (front behind : List RoomPass) (i : ℕ) (h : RoomPass) → length front ≡ i → slice_get (front ++ behind) i ≡ Some h → (rest : List RoomPass) × (behind ≡ h ∷ rest)
split_at [] [] i h e get = absurd (none-some h get)
split_at [] (x ∷ rest) zero h e get = (rest, ap (λ (y : RoomPass). y ∷ rest) (same_Some x h get))
split_at [] (x ∷ rest) (suc i) h e get = absurd (let bad : zero ≡ suc i = e in omega (arith, bad))
split_at (f ∷ front) behind zero h e get = absurd (let bad : suc (length front) ≡ zero = e in omega (arith, bad))
split_at (f ∷ front) behind (suc i) h e get = split_at front behind i h (let same : suc (length front) ≡ suc i = e in omega (arith, same)) get
