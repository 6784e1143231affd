-- What a session promises at its end.
use Rattle.std.proofs.Common.{◌≡◌, ℕ, ◌+◌, ◌-◌, ◌<◌, ◌≤◌, Bool, true, false, zero, suc, List, [], ◌∷◌, ◌++◌, length, get_or, Option, Some, None, refl, ap, sym, ◌∙◌, subst, inl, inr, ⊎_elim, append_assoc, arith}
use Rattle.std.specs.Prelude.{All, Contains, IsSome, IfSome}
use Rattle.std.specs.List.{AllZip}
use Rattle.std.proofs.lemmas.List.{append-nil}
use Rattle.std.proofs.lemmas.List.Elements.{All-weaker, All-contains, All-contains_itself, Contains-get_or, AllZip-get_or, length_all_zip}
use mathlib.Core.List.{IsPrefix}
use Rattle.ps_base.specs.declared.badge.Badge.{Badge}
use Rattle.rules_start.specs.declared.start.Start.{Start}
use Rattle.ps_histlock.specs.Histories.{commands}
use Rattle.ps_histlock.proofs.Lists.{prefix_length}
use Rattle.ps_outside.specs.Clocks.{IsNow, after_now}
use Rattle.ps_outside.specs.Links.{Talk, LinkCounts}
use Rattle.server_places.specs.declared.command.RoomCmd.{RoomCmd}
use Rattle.ps_hub.specs.Hubs.{Hub, root_of, site_of}
use Rattle.server_places.specs.Rooms.{Shows}
use Rattle.server_places.specs.Halls.{HallShows}
use Rattle.ps_hub.specs.Names.{Names}
use Rattle.ps_hub.specs.Passes.{HallPass, RoomPass, AreOf, IsRoomPass}
use Rattle.ps_hub.specs.Calls.{QuitsHall, QuitsRoom, QuitsRoomAtMost, QuitsHallAtMost, QuitsWith}
use Rattle.ps_hub.specs.declared.passes.Passes.{Passes}
use Rattle.ps_hub.proofs.PassListLemmas.{hall_of}
use Rattle.ps_serve.specs.Names.{LooksFreshly}
use Rattle.ps_serve.specs.declared.closed.End.{End}
use Rattle.ps_serve.specs.declared.closed.End.TheVariants as ends
use Rattle.ps_serve.specs.Acts.{Act, moments_of, hall_entries, room_cmds, since, begins, all_begun}
use Rattle.ps_serve.specs.Sittings.{IsFrom, IsBegun, AreApart}
use Rattle.ps_serve.specs.Steps.{Hours, Asked}
use Rattle.ps_serve.specs.Ends.{Account, is_short, is_broken, AllOrPart, AllThenQuit, hall_quit, room_quit, HallMade, HallGiven, RoomMadeBy, RoomMade, RoomGiven, HallLooks, RoomLooksBy, RoomLooks, HallSent, RoomSent, AreAnswers, IsAsked, IsOpen, moments_in, HasExtra, TellsMoments, starts_in, IsBegunBy, AreSure, IsOwnStart, OneBegin, HallElsewhere, IsHallOf, IsRoomOf, OneHistory, IsTooMany, HasTextCause, HasCause, Served}
use Rattle.ps_serve.specs.Rests.{HallRests, RoomRests, HasExtraAt, Rests, ComesToRest}
use Rattle.ps_serve.proofs.Prefixes.{prefix_same, prefix_trans}
use Rattle.ps_serve.proofs.PassLists.{Grows, from_grows}
use Rattle.ps_serve.proofs.Halls.{IsHallKin, open_grows, nowhere_grows, given_grows, almost_grows}
use Rattle.ps_serve.proofs.Goings.{Goes, kept_in, zip_all, apart_on}
use Rattle.ps_serve.proofs.StandLemmas.{asked_on}
use Rattle.ps_serve.proofs.RestLemmas.{looks_so, sent_so, answers_so, given_broken}
use Rattle.ps_serve.proofs.QuitLemmas.{HallWent, quits_hall, quits_hall_at_most, hall_grew, hall_within, HallKeeps, hall_keeps, hall_made, hall_made_at_most, room_within, RoomQuit, quits_room, quits_room_at_most, zip_more, asked_quit}
use Rattle.ps_serve.proofs.BeginLemmas.{starts-append, starts_are, begun_there, own_starts, one_each, almost_each}
use Rattle.ps_serve.proofs.CountLemmas.{complete_of}
use Rattle.ps_serve.proofs.NowhereLemmas.{answers_rightly, made_before}
use Rattle.ps_serve.proofs.LabelLemmas.{in_longer, IsKnown, labelled}
use Rattle.ps_serve.proofs.WorldLemmas.{hall_elsewhere, room_elsewhere}

-- ---- rows

zip_find : (R : RoomPass → RoomPass → Type 0) (old new : List RoomPass) → AllZip R old new → (h : RoomPass) → Contains old h → (k : RoomPass) × Contains new k × R h k
zip_find R old new z h c =
    let same : length old ≡ length new = length_all_zip R old new z in
    let there : c.0 < length old = c.1 in
    let within : c.0 < length new = omega arith in
    (get_or new c.0 h, Contains-get_or new c.0 h within, subst (λ (x : RoomPass). R x (get_or new c.0 h)) c.2 (AllZip-get_or R old new c.0 h h z c.1))

all_front : {A : Type 0} (P : A → Type 0) (xs ys : List A) → IsPrefix xs ys → All P ys → All P xs
all_front P xs ys p all = All-weaker (Contains xs) P (λ x c. All-contains P ys x all (in_longer xs ys x p c)) xs (All-contains_itself xs)

-- ---- Begins

starts_front : (xs ys : List RoomCmd) → IsPrefix xs ys → IsPrefix (starts_in xs) (starts_in ys)
starts_front xs ys p = (starts_in p.0, sym (starts-append xs p.0) ∙ ap (λ l. starts_in l) p.1)

no_quit_start : (xs : List RoomCmd) (conn : ℕ) (b : Badge) (moment : ℕ) → starts_in (xs ++ room_quit conn b moment) ≡ starts_in xs
no_quit_start xs conn b moment = starts-append xs (room_quit conn b moment) ∙ append-nil (starts_in xs)

with_quit : (s : Bool) (made all : List RoomCmd) (conn : ℕ) (b : Badge) (moment : ℕ) → AllThenQuit s made all (room_quit conn b moment) → IsPrefix (starts_in made) (starts_in all)
with_quit false made all conn b moment e = prefix_same (starts_in made) (starts_in all) (ap (λ l. starts_in l) e ∙ no_quit_start all conn b moment)
with_quit true made all conn b moment (part, front, inl e) = subst (λ l. IsPrefix (starts_in l) (starts_in all)) (sym e) (starts_front part all front)
with_quit true made all conn b moment (part, front, inr e) = subst (λ (l : List Start). IsPrefix l (starts_in all)) (sym (ap (λ l. starts_in l) e ∙ no_quit_start part conn b moment)) (starts_front part all front)

made_starts : (id : Option (List ℕ)) (s : Bool) (conn : ℕ) (badge : Option Badge) (t : Account) (k : RoomPass) → RoomMadeBy id s conn badge t k → IsPrefix (starts_in (commands k.pass.1.mine)) (starts_in (room_cmds conn k.number t.acts))
made_starts None true conn badge t k m = starts_front (commands k.pass.1.mine) (room_cmds conn k.number t.acts) m
made_starts None false conn badge t k m = prefix_same (starts_in (commands k.pass.1.mine)) (starts_in (room_cmds conn k.number t.acts)) (ap (λ l. starts_in l) m)
made_starts (Some id) s conn badge t k m = with_quit s (commands k.pass.1.mine) (room_cmds conn k.number t.acts) conn m.0 t.left m.2

-- no pass has a Begin but of battles that the connection started
own_of : (s : Bool) (conn : ℕ) (badge : Option Badge) (t : Account) (k : RoomPass) → RoomMade s conn badge t k → All (IsOwnStart t k.number) (starts_in (commands k.pass.1.mine))
own_of s conn badge t k m =
    let front : IsPrefix (starts_in (commands k.pass.1.mine)) (begins k.number t.acts) = subst (λ (l : List Start). IsPrefix (starts_in (commands k.pass.1.mine)) l) (starts_are conn k.number t.acts) (made_starts k.id s conn badge t k m) in
    All-weaker (λ (x : Start). Contains (all_begun t.acts) x × (k.number ≡ 15 + x.number)) (IsOwnStart t k.number) (λ x p. record { started = p.0; place = p.1 }) (starts_in (commands k.pass.1.mine))
    (all_front (λ (x : Start). Contains (all_begun t.acts) x × (k.number ≡ 15 + x.number)) (starts_in (commands k.pass.1.mine)) (begins k.number t.acts) front (own_starts k.number t.acts))

single : (xs : List Start) (x : Start) → Contains xs x → length xs ≤ 1 → xs ≡ x ∷ []
single [] x c le = absurd (let lt : c.0 < 0 = c.1 in omega arith)
single (y ∷ z ∷ xs) x c le = absurd (let bad : length (y ∷ z ∷ xs) ≤ 1 = le in omega arith)
single (y ∷ []) x (zero, lt, e) le = ap (λ (s : Start). s ∷ []) e
single (y ∷ []) x (suc k, lt, e) le = absurd (let bad : suc k < length (y ∷ []) = lt in omega arith)

-- each battle has a number of its own
begins_few : (s : Bool) (hub : Hub) (conn : ℕ) (t : Account) (number : ℕ) (rooms : List RoomPass) (hall : HallPass) → AreAnswers s hub conn t rooms hall → length (begins number t.acts) ≤ 1
begins_few false hub conn t number rooms hall g = one_each hub conn number [] t.acts hall rooms g
begins_few true hub conn t number rooms hall g = almost_each hub conn number g.0 t.acts hall rooms g.1

-- a battle that was started has its Begin
begin_of : (s : Bool) (hub : Hub) (conn : ℕ) (badge : Option Badge) (t : Account) (sure : List Act) (hall : HallPass) (rooms : List RoomPass) (h k : RoomPass) (start : Start) → AreAnswers s hub conn t rooms hall → Contains (all_begun sure) start → h.number ≡ 15 + start.number
    → IsPrefix (room_cmds conn h.number sure) (commands h.pass.1.mine) → k.number ≡ h.number → IsPrefix (commands h.pass.1.mine) (commands k.pass.1.mine) → RoomMade s conn badge t k → starts_in (commands k.pass.1.mine) ≡ start ∷ []
begin_of s hub conn badge t sure hall rooms h k start g c place early same more m =
    let front : IsPrefix (starts_in (commands k.pass.1.mine)) (begins k.number t.acts) = subst (λ (l : List Start). IsPrefix (starts_in (commands k.pass.1.mine)) l) (starts_are conn k.number t.acts) (made_starts k.id s conn badge t k m) in
    let few : length (begins k.number t.acts) ≤ 1 = begins_few s hub conn t k.number rooms hall g in
    let shorter : length (starts_in (commands k.pass.1.mine)) ≤ length (begins k.number t.acts) = prefix_length (starts_in (commands k.pass.1.mine)) (begins k.number t.acts) front in
    let there : Contains (starts_in (commands k.pass.1.mine)) start =
    in_longer (starts_in (room_cmds conn h.number sure)) (starts_in (commands k.pass.1.mine)) start
    (starts_front (room_cmds conn h.number sure) (commands k.pass.1.mine) (prefix_trans (room_cmds conn h.number sure) (commands h.pass.1.mine) (commands k.pass.1.mine) early more))
    (subst (λ (l : List Start). Contains l start) (sym (starts_are conn h.number sure)) (begun_there h.number sure start c place)) in
    single (starts_in (commands k.pass.1.mine)) start there (omega arith)

-- ---- after the Quits

pub record Quitted (broken short : Bool) (hub : Hub) (conn : ℕ) (t : Account) (old new : Passes) (was : HallPass) : Type 0 where
  pub are : AreOf hub new
  pub conn_is : new.conn ≡ conn
  pub hall_pass : HallPass
  pub hall : new.hall ≡ Some hall_pass
  pub grew : IsHallKin was hall_pass
  pub keeps : HallKeeps broken hub conn t hall_pass
  pub made : HallMade short conn t hall_pass
  pub rooms : AllZip (RoomQuit broken short hub conn new.badge t) old.rooms.items new.rooms.items
  pub badge : new.badge ≡ old.badge

abbrev Nothing : RoomPass → Type 0
Nothing k = Unit {0}

room_facts : (b s : Bool) (hub : Hub) (conn : ℕ) (t : Account) (old new : Passes) (Q : RoomPass → Type 0) → ((h k : RoomPass) → RoomQuit b s hub conn new.badge t h k → Q k) → AllZip (RoomQuit b s hub conn new.badge t) old.rooms.items new.rooms.items → All Q new.rooms.items
room_facts b s hub conn t old new Q step z = zip_all (RoomQuit b s hub conn new.badge t) Nothing Q (λ h k r nothing. step h k r) old.rooms.items new.rooms.items z (λ i d lt. tt)

rooms_go : (b s : Bool) (hub : Hub) (conn : ℕ) (t : Account) (old new : Passes) → AllZip (RoomQuit b s hub conn new.badge t) old.rooms.items new.rooms.items → AllZip Goes old.rooms.items new.rooms.items
rooms_go b s hub conn t old new z = zip_more (RoomQuit b s hub conn new.badge t) Goes Nothing (λ h k nothing r. r.goes) old.rooms.items new.rooms.items (λ i d lt. tt) z

-- the entries of the acts that are sure are still there
early_on : (b s : Bool) (hub : Hub) (conn : ℕ) (t : Account) (sure : List Act) (old new : Passes) → All (λ (k : RoomPass). IsPrefix (room_cmds conn k.number sure) (commands k.pass.1.mine)) old.rooms.items → AllZip (RoomQuit b s hub conn new.badge t) old.rooms.items new.rooms.items → All (λ (k : RoomPass). IsPrefix (room_cmds conn k.number sure) (commands k.pass.1.mine)) new.rooms.items
early_on b s hub conn t sure old new early z =
    zip_all (RoomQuit b s hub conn new.badge t) (λ (k : RoomPass). IsPrefix (room_cmds conn k.number sure) (commands k.pass.1.mine)) (λ (k : RoomPass). IsPrefix (room_cmds conn k.number sure) (commands k.pass.1.mine))
    (λ h k rq p. subst (λ (n : ℕ). IsPrefix (room_cmds conn n sure) (commands k.pass.1.mine)) (sym rq.goes.grew.place) (prefix_trans (room_cmds conn h.number sure) (commands h.pass.1.mine) (commands k.pass.1.mine) p rq.more)) old.rooms.items new.rooms.items z early

at_hall : (P : HallPass → Type 0) (passes : Passes) (h : HallPass) → passes.hall ≡ Some h → P h → IfSome passes.hall P
at_hall P passes h is p = subst (λ (o : Option HallPass). IfSome o P) (sym is) p

answers_on : (s : Bool) (hub : Hub) (conn : ℕ) (t : Account) (h k : HallPass) (old new : List RoomPass) → IsHallKin h k → Grows old new → AreAnswers s hub conn t old h → AreAnswers s hub conn t new k
answers_on true hub conn t h k old new grew kept g = (g.0, almost_grows hub conn g.0 t.acts h k old new grew kept g.1)
answers_on false hub conn t h k old new grew kept g = given_grows hub conn [] t.acts h k old new grew kept g

tells_of : (end : End) (conn : ℕ) (t : Account) (h : HallPass) (old new : Hours) → HasExtraAt end conn t → Asked old (moments_in t) new → TellsMoments end conn t (Some h) old new
tells_of ends.Closed conn t h old new extra asked = (extra, asked)
tells_of ends.LinkFault conn t h old new extra asked = (extra, asked)
tells_of (ends.OwnLimit room) conn t h old new extra asked = (extra, asked)
tells_of (ends.BadText bytes) conn t h old new extra asked = (extra, asked)
tells_of ends.NoMemory conn t h old new extra asked = (extra, asked)
tells_of ends.Taken conn t h old new extra asked = absurd extra

moments_all : (t : Account) (start hours0 hours1 hours2 : Hours) → IsNow start t.opened → hours0 ≡ after_now start → Asked hours0 (moments_of t.acts ++ t.extra) hours1 → IsNow hours1 t.left → hours2 ≡ after_now hours1 → Asked start (moments_in t) hours2
moments_all t start hours0 hours1 hours2 first begun_at asked last end =
    let rest : Asked hours1 (t.left ∷ []) hours2 = (last, end) in
    let behind : Asked (after_now start) (moments_of t.acts ++ t.extra) hours1 = subst (λ (h : Hours). Asked h (moments_of t.acts ++ t.extra) hours1) begun_at asked in
    let all : Asked (after_now start) ((moments_of t.acts ++ t.extra) ++ t.left ∷ []) hours2 = asked_on (after_now start) (moments_of t.acts ++ t.extra) (t.left ∷ []) hours1 hours2 behind rest in
    (first, subst (λ (ms : List ℕ). Asked (after_now start) ms hours2) (append_assoc (moments_of t.acts) t.extra (t.left ∷ [])) all)

one_begin : (end : End) (hub : Hub) (conn : ℕ) (t : Account) (old new : Passes) (talk0 talk : Option Talk) (counts0 counts : LinkCounts) (hours0 hours1 : Hours) → (r : Rests end hub conn t old talk0 talk counts0 counts hours0 hours1) → Quitted (is_broken end) (is_short end) hub conn t old new r.hall_pass → OneBegin end t new.rooms.items
one_begin end hub conn t old new talk0 talk counts0 counts hours0 hours1 r q = record {
  sure = r.sure;
  are_sure = r.are_sure;
  begun = All-weaker (λ (start : Start). IsBegun old.rooms.items start × Contains (all_begun r.sure) start) (IsBegunBy new.rooms.items) begun_one (all_begun r.sure) (λ i d lt. (r.begun i d lt, Contains-get_or (all_begun r.sure) i d lt));
  own = room_facts (is_broken end) (is_short end) hub conn t old new (λ (k : RoomPass). All (IsOwnStart t k.number) (starts_in (commands k.pass.1.mine))) (λ h k rq. own_of (is_short end) conn new.badge t k rq.made) q.rooms;
} where
  begun_one : (start : Start) → IsBegun old.rooms.items start × Contains (all_begun r.sure) start → IsBegunBy new.rooms.items start
  begun_one start b =
      let h = b.0.0 in
      let n = zip_find (RoomQuit (is_broken end) (is_short end) hub conn new.badge t) old.rooms.items new.rooms.items q.rooms h b.0.1 in
      record {
        pass = n.0;
        there = n.1;
        place = n.2.goes.grew.place ∙ b.0.2;
        begin = begin_of (is_short end) hub conn new.badge t r.sure r.hall_pass old.rooms.items h n.0 start r.gave b.1 b.0.2
            (All-contains (λ (k : RoomPass). IsPrefix (room_cmds conn k.number r.sure) (commands k.pass.1.mine)) old.rooms.items h r.early b.0.1) n.2.goes.grew.place n.2.more n.2.made;
      }

history_of : (hub : Hub) (conn : ℕ) (passes : Passes) → AreOf hub passes → passes.conn ≡ conn → AreApart passes.rooms.items → OneHistory hub conn passes
history_of hub conn passes are conn_is apart = record {
  conn_is = conn_is;
  hall = at_hall (IsHallOf hub) passes are.hall_pass are.hall (record { lock_is = are.hall_is.lock; origin_is = are.hall_is.origin; at_rest = are.hall_is.rest });
  rooms = All-weaker (IsRoomPass hub passes.conn) (IsRoomOf hub) (λ k is. (k.pass.0, is.lock, record { lock_is = refl; origin_is = is.place.origin; at_rest = is.place.rest })) passes.rooms.items are.rooms;
  apart = apart;
}

-- that no such room was there is what passes of more say too
many_on : (room : Option (List ℕ)) (hub : Hub) (conn : ℕ) (t : Account) (h k : HallPass) (old new : List RoomPass) (bytes : List ℕ) → IsHallKin h k → Grows old new → IsTooMany room hub conn t old bytes → IsTooMany room hub conn t new bytes
many_on room hub conn t h k old new bytes grew kept (inl c) = inl c
many_on room hub conn t h k old new bytes grew kept (inr (hall, id, cmd, asked, take, full, unfound, one)) = inr (hall, id, cmd, asked, take, full, nowhere_grows hub conn t.acts h k old new grew kept asked id unfound, one)

text_on : (end : End) (hub : Hub) (conn : ℕ) (t : Account) (h k : HallPass) (old new : List RoomPass) → IsHallKin h k → Grows old new → HasTextCause end hub conn t old → HasTextCause end hub conn t new
text_on ends.Closed hub conn t h k old new grew kept c = c
text_on ends.LinkFault hub conn t h k old new grew kept c = c
text_on (ends.OwnLimit room) hub conn t h k old new grew kept c = (c.0, c.1, many_on room hub conn t h k old new c.0 grew kept c.2)
text_on (ends.BadText bytes) hub conn t h k old new grew kept c = c
text_on ends.NoMemory hub conn t h k old new grew kept c = c
text_on ends.Taken hub conn t h k old new grew kept c = c

-- a session with its Quits
pub served : (end : End) (hub : Hub) (conn : ℕ) (t : Account) (old new : Passes) (talk0 talk : Option Talk) (counts0 counts : LinkCounts) (start hours0 hours1 hours2 : Hours)
    → (r : Rests end hub conn t old talk0 talk counts0 counts hours0 hours1) → Quitted (is_broken end) (is_short end) hub conn t old new r.hall_pass → All (IsAsked end hub t) new.rooms.items
    → IsNow start t.opened → hours0 ≡ after_now start → IsNow hours1 t.left → hours2 ≡ after_now hours1 → Served end hub conn t new talk0 talk counts0 counts start hours2
served end hub conn t old new talk0 talk counts0 counts start hours0 hours1 hours2 r q asked first begun_at last ended =
    let b = is_broken end in
    let s = is_short end in
    let go = rooms_go b s hub conn t old new q.rooms in
    let kept = kept_in old.rooms.items new.rooms.items go in
    let k = q.hall_pass in
    let gave = answers_on s hub conn t r.hall_pass k old.rooms.items new.rooms.items q.grew kept r.gave in
    let named : All (λ (x : RoomPass). IfSome x.id (λ id. Names hub.config id x.number)) new.rooms.items = room_facts b s hub conn t old new (λ (x : RoomPass). IfSome x.id (λ id. Names hub.config id x.number)) (λ h x rq. rq.keeps.named) q.rooms in
    let apart = apart_on old.rooms.items new.rooms.items go r.apart in
    let made = made_before s conn r.sure t.acts new.rooms.items r.are_sure (early_on b s hub conn t r.sure old new r.early q.rooms) in
    let cause : HasCause end hub conn t new.rooms.items talk counts0 counts = record { counts = r.cause.counts; inbox = r.cause.inbox; text = text_on end hub conn t r.hall_pass k old.rooms.items new.rooms.items q.grew kept r.cause.text } in
    let rooms_sent : All (RoomSent b hub conn t) new.rooms.items = room_facts b s hub conn t old new (RoomSent b hub conn t) (λ h x rq. rq.keeps.sent) q.rooms in
    let known : All (IsKnown b hub conn t) new.rooms.items = room_facts b s hub conn t old new (IsKnown b hub conn t) (λ h x rq. (rq.keeps.sent, rq.keeps.named)) q.rooms in
    record {
      told = r.told;
      sent = record { hall = at_hall (HallSent b hub conn t) new k q.hall q.keeps.sent; rooms = rooms_sent };
      labels = labelled b hub conn t k new.rooms.items q.keeps.sent known (All-weaker (IsFrom old.rooms.items) (IsFrom new.rooms.items) (λ x f. from_grows old.rooms.items new.rooms.items kept x f) t.sendings r.from);
      entries = record {
        hall = at_hall (HallMade s conn t) new k q.hall q.made;
        hall_given = at_hall (HallGiven b conn t) new k q.hall q.keeps.given;
        rooms = room_facts b s hub conn t old new (RoomMade s conn new.badge t) (λ h x rq. rq.made) q.rooms;
        rooms_given = room_facts b s hub conn t old new (RoomGiven b conn t) (λ h x rq. rq.keeps.given) q.rooms;
        badge = q.badge ∙ r.badge;
      };
      answers = record {
        made = at_hall (AreAnswers s hub conn t new.rooms.items) new k q.hall gave;
        rightly = answers_rightly hub conn k new.rooms.items (subst (λ (n : ℕ). All (IsRoomPass hub n) new.rooms.items) q.conn_is q.are.rooms) named apart s t gave made;
        asked = asked;
      };
      opened = subst (IsOpen s conn t new) (sym q.hall) (open_grows conn t.opened r.hall_pass k q.grew r.opened);
      moments = subst (λ (o : Option HallPass). TellsMoments end conn t o start hours2) (sym q.hall) (tells_of end conn t k start hours2 r.extra (moments_all t start hours0 hours1 hours2 first begun_at r.asked_for last ended));
      looks = record {
        hall = at_hall (HallLooks b hub conn t) new k q.hall q.keeps.looks;
        rooms = room_facts b s hub conn t old new (RoomLooks b hub conn t) (λ h x rq. rq.keeps.looks) q.rooms;
        fresh = record { hall = at_hall (λ (h : HallPass). LooksFreshly h.pass.1) new k q.hall ((hall_of hub new k q.are q.hall).looks, (hall_of hub new k q.are q.hall).rest.9); rooms = λ i d lt. ((q.are.rooms i d lt).place.looks, (q.are.rooms i d lt).place.rest.9) };
      };
      of = record { of = λ some. q.are; named = named };
      history = history_of hub conn new q.are q.conn_is apart;
      begin = one_begin end hub conn t old new talk0 talk counts0 counts hours0 hours1 r q;
      worlds = record {
        hall = at_hall (HallElsewhere b hub conn t) new k q.hall (hall_elsewhere b hub conn t k q.keeps.sent);
        rooms = λ i d lt. room_elsewhere b hub conn t (get_or new.rooms.items i d) (rooms_sent i d lt);
      };
      cause = cause;
      complete = complete_of end hub conn t new.rooms.items talk0 talk counts0 counts r.told cause;
    }

-- ---- if out of memory

hall_weak : (b s : Bool) (hub : Hub) (conn : ℕ) (t : Account) (h : HallPass) → HallRests b s hub conn t h → HallRests true true hub conn t h
hall_weak b s hub conn t h r = record {
  entries = entries_weak s (commands h.pass.1.mine) (hall_entries conn t.acts) r.entries;
  given = tt;
  looks = looks_weak b hub conn t h r.looks;
  sent = sent_weak b hub conn t h r.sent;
} where
  entries_weak : {C : Type 0} (s : Bool) (made all : List C) → AllOrPart s made all → AllOrPart true made all
  entries_weak false made all e = prefix_same made all e
  entries_weak true made all e = e

  looks_weak : (b : Bool) (hub : Hub) (conn : ℕ) (t : Account) (h : HallPass) → HallLooks b hub conn t h → HallLooks true hub conn t h
  looks_weak false hub conn t h l = looks_so (HallShows conn (root_of hub)) true (commands h.pass.1.seen) h.at None None t.sendings 1 (length t.acts) h.pass.1.looks l
  looks_weak true hub conn t h l = l

  sent_weak : (b : Bool) (hub : Hub) (conn : ℕ) (t : Account) (h : HallPass) → HallSent b hub conn t h → HallSent true hub conn t h
  sent_weak false hub conn t h l = sent_so (HallShows conn (root_of hub)) true (commands h.pass.1.seen) h.at None None t.sendings l
  sent_weak true hub conn t h l = l

room_entries : (s : Bool) (made all : List RoomCmd) → AllOrPart s made all → AllOrPart true made all
room_entries false made all e = prefix_same made all e
room_entries true made all e = e

room_looks_weak : (b : Bool) (id : Option (List ℕ)) (hub : Hub) (conn : ℕ) (t : Account) (k : RoomPass) → RoomLooksBy id b hub conn t k → RoomLooksBy id true hub conn t k
room_looks_weak true id hub conn t k l = l
room_looks_weak false None hub conn t k l = l
room_looks_weak false (Some id) hub conn t k l = looks_so (Shows conn (site_of hub k.number)) true (commands k.pass.1.seen) k.at (Some id) (Some k.number) t.sendings (length t.acts - length (since k.number t.acts) + 1) (length (since k.number t.acts)) k.pass.1.looks l

room_sent_weak : (b : Bool) (hub : Hub) (conn : ℕ) (t : Account) (k : RoomPass) → RoomSent b hub conn t k → RoomSent true hub conn t k
room_sent_weak true hub conn t k l = l
room_sent_weak false hub conn t k l = sent_so (Shows conn (site_of hub k.number)) true (commands k.pass.1.seen) k.at k.id (Some k.number) t.sendings l

room_weak : (b s : Bool) (hub : Hub) (conn : ℕ) (t : Account) (k : RoomPass) → RoomRests b s hub conn t k → RoomRests true true hub conn t k
room_weak b s hub conn t k r = record {
  entries = room_entries s (commands k.pass.1.mine) (room_cmds conn k.number t.acts) r.entries;
  given = given_broken k.id conn t k;
  looks = room_looks_weak b k.id hub conn t k r.looks;
  sent = room_sent_weak b hub conn t k r.sent;
  named = r.named;
}

sure_weak : (s : Bool) (sure acts : List Act) → AreSure s sure acts → AreSure true sure acts
sure_weak true sure acts a = a
sure_weak false sure acts e = ([], sym e ∙ sym (append-nil sure), omega arith)

answers_weak : (s : Bool) (hub : Hub) (conn : ℕ) (t : Account) (rooms : List RoomPass) (h : HallPass) → AreAnswers s hub conn t rooms h → AreAnswers true hub conn t rooms h
answers_weak true hub conn t rooms h g = g
answers_weak false hub conn t rooms h g = answers_so true hub conn t rooms h g

no_texts : {A : Type 0} (xs : List A) → xs ≡ [] → length xs ≤ 1
no_texts xs e = let l = ap length e in omega arith

one_text : {A : Type 0} (xs : List A) (x : A) → xs ≡ x ∷ [] → length xs ≤ 1
one_text xs x e = let l = ap length e in omega arith

rest_few : (end : End) (hub : Hub) (conn : ℕ) (t : Account) (rooms : List RoomPass) → HasTextCause end hub conn t rooms → length t.rest ≤ 1
rest_few ends.Closed hub conn t rooms c = no_texts t.rest c
rest_few ends.LinkFault hub conn t rooms c = no_texts t.rest c
rest_few (ends.OwnLimit room) hub conn t rooms c = one_text t.rest c.0 c.1
rest_few (ends.BadText bytes) hub conn t rooms c = one_text t.rest bytes.items c.0
rest_few ends.NoMemory hub conn t rooms c = c
rest_few ends.Taken hub conn t rooms c = c

extra_weak : (end : End) (conn : ℕ) (t : Account) → HasExtraAt end conn t → HasExtra conn t
extra_weak ends.Closed conn t e = inl e
extra_weak ends.LinkFault conn t e = inl e
extra_weak (ends.OwnLimit room) conn t e = e
extra_weak (ends.BadText bytes) conn t e = inl e
extra_weak ends.NoMemory conn t e = e
extra_weak ends.Taken conn t e = absurd e

-- what holds at any end holds if out of memory then
pub rests_weak : (end : End) (hub : Hub) (conn : ℕ) (t : Account) (passes : Passes) (talk0 talk : Option Talk) (counts0 counts : LinkCounts) (hours0 hours1 : Hours) → Rests end hub conn t passes talk0 talk counts0 counts hours0 hours1 → Rests ends.NoMemory hub conn t passes talk0 talk counts0 counts hours0 hours1
rests_weak end hub conn t passes talk0 talk counts0 counts hours0 hours1 r = record {
  are = r.are;
  conn_is = r.conn_is;
  told = r.told;
  hall_pass = r.hall_pass;
  hall = r.hall;
  hall_rests = hall_weak (is_broken end) (is_short end) hub conn t r.hall_pass r.hall_rests;
  rooms = λ i d lt. room_weak (is_broken end) (is_short end) hub conn t (get_or passes.rooms.items i d) (r.rooms i d lt);
  asked = λ i d lt. tt;
  apart = r.apart;
  from = r.from;
  named = r.named;
  badge = r.badge;
  gave = answers_weak (is_short end) hub conn t passes.rooms.items r.hall_pass r.gave;
  sure = r.sure;
  are_sure = sure_weak (is_short end) r.sure t.acts r.are_sure;
  begun = r.begun;
  early = r.early;
  opened = r.opened;
  cause = record { counts = tt; inbox = tt; text = rest_few end hub conn t passes.rooms.items r.cause.text };
  extra = extra_weak end conn t r.extra;
  asked_for = r.asked_for;
}

-- ---- the Quits

-- what is known of a pass before its Quit
abbrev Before : Bool → Bool → Hub → ℕ → Account → Option Badge → RoomPass → Type 0
Before b s hub conn t badge h = RoomRests b s hub conn t h × (h.at ≤ length h.pass.1.seen) × (IsSome h.id → IsSome badge)

before_all : (end : End) (hub : Hub) (conn : ℕ) (t : Account) (old : Passes) (talk0 talk : Option Talk) (counts0 counts : LinkCounts) (hours0 hours1 : Hours) → Rests end hub conn t old talk0 talk counts0 counts hours0 hours1 → All (Before (is_broken end) (is_short end) hub conn t old.badge) old.rooms.items
before_all end hub conn t old talk0 talk counts0 counts hours0 hours1 r i d lt = (r.rooms i d lt, room_within hub old.conn (get_or old.rooms.items i d) (r.are.rooms i d lt), r.named i d lt)

same_hall : (passes : Passes) (one two : HallPass) → passes.hall ≡ Some one → passes.hall ≡ Some two → one ≡ two
same_hall passes one two a b = let e : Some one ≡ Some two = sym a ∙ b in cc

pub quitted_ok : (end : End) (hub : Hub) (conn : ℕ) (t : Account) (old new : Passes) (talk0 talk : Option Talk) (counts0 counts : LinkCounts) (hours0 hours1 : Hours) → (r : Rests end hub conn t old talk0 talk counts0 counts hours0 hours1) → AreOf hub new
    → QuitsWith (QuitsRoom old.badge conn t.left) (QuitsHall conn t.left) old new → Quitted (is_broken end) (is_short end) hub conn t old new r.hall_pass
quitted_ok end hub conn t old new talk0 talk counts0 counts hours0 hours1 r are q =
    let h = r.hall_pass in
    let same : q.before ≡ h = same_hall old q.before h q.was r.hall in
    let went = quits_hall conn t.left h q.behind (subst (λ (x : HallPass). QuitsHall conn t.left x q.behind) same q.done) in
    let quit = hall_quit conn t.left in
    let within = hall_within hub old.conn h (hall_of hub old h r.are r.hall) in
    record {
      are = are;
      conn_is = q.conn ∙ r.conn_is;
      hall_pass = q.behind;
      hall = q.is;
      grew = hall_grew h q.behind quit went;
      keeps = hall_keeps (is_broken end) (is_short end) hub conn t h q.behind quit went within r.hall_rests;
      made = hall_made (is_short end) conn t h q.behind went r.hall_rests.entries;
      rooms = subst (λ (b : Option Badge). AllZip (RoomQuit (is_broken end) (is_short end) hub conn b t) old.rooms.items new.rooms.items) (sym q.badge)
          (zip_more (QuitsRoom old.badge conn t.left) (RoomQuit (is_broken end) (is_short end) hub conn old.badge t) (Before (is_broken end) (is_short end) hub conn t old.badge)
          (λ x k p d. quits_room (is_broken end) (is_short end) hub conn old.badge t x k d p.1 p.0) old.rooms.items new.rooms.items (before_all end hub conn t old talk0 talk counts0 counts hours0 hours1 r) q.rooms);
      badge = q.badge;
    }

pub quitted_short : (hub : Hub) (conn : ℕ) (t : Account) (old new : Passes) (talk0 talk : Option Talk) (counts0 counts : LinkCounts) (hours0 hours1 : Hours) → (r : Rests ends.NoMemory hub conn t old talk0 talk counts0 counts hours0 hours1) → AreOf hub new
    → QuitsWith (QuitsRoomAtMost old.badge conn t.left) (QuitsHallAtMost conn t.left) old new → Quitted true true hub conn t old new r.hall_pass
quitted_short hub conn t old new talk0 talk counts0 counts hours0 hours1 r are q =
    let h = r.hall_pass in
    let same : q.before ≡ h = same_hall old q.before h q.was r.hall in
    let went = quits_hall_at_most conn t.left h q.behind (subst (λ (x : HallPass). QuitsHallAtMost conn t.left x q.behind) same q.done) in
    let within = hall_within hub old.conn h (hall_of hub old h r.are r.hall) in
    let quit = hall_quit conn t.left in
    record {
      are = are;
      conn_is = q.conn ∙ r.conn_is;
      hall_pass = q.behind;
      hall = q.is;
      grew = ⊎_elim (λ (w : HallWent h q.behind []). hall_grew h q.behind [] w) (λ (w : HallWent h q.behind quit). hall_grew h q.behind quit w) went;
      keeps = ⊎_elim (λ (w : HallWent h q.behind []). hall_keeps true true hub conn t h q.behind [] w within r.hall_rests) (λ (w : HallWent h q.behind quit). hall_keeps true true hub conn t h q.behind quit w within r.hall_rests) went;
      made = hall_made_at_most conn t h q.behind went r.hall_rests.entries;
      rooms = subst (λ (b : Option Badge). AllZip (RoomQuit true true hub conn b t) old.rooms.items new.rooms.items) (sym q.badge)
          (zip_more (QuitsRoomAtMost old.badge conn t.left) (RoomQuit true true hub conn old.badge t) (Before true true hub conn t old.badge)
          (λ x k p d. quits_room_at_most true hub conn old.badge t x k d p.1 p.2 p.0) old.rooms.items new.rooms.items (before_all ends.NoMemory hub conn t old talk0 talk counts0 counts hours0 hours1 r) q.rooms);
      badge = q.badge;
    }

-- ---- the end of a session

pub serves_ok : (end : End) (hub : Hub) (conn open_at left : ℕ) (old new : Passes) (talk0 talk : Option Talk) (counts0 counts : LinkCounts) (start hours0 hours1 hours2 : Hours) → ComesToRest end hub conn open_at left old talk0 talk counts0 counts hours0 hours1 → AreOf hub new
    → QuitsWith (QuitsRoom old.badge old.conn left) (QuitsHall old.conn left) old new → IsNow start open_at → hours0 ≡ after_now start → IsNow hours1 left → hours2 ≡ after_now hours1 → (t : Account) × Served end hub conn t new talk0 talk counts0 counts start hours2
serves_ok end hub conn open_at left old new talk0 talk counts0 counts start hours0 hours1 hours2 (t, o, l, r) are q first begun_at last ended =
    let own = subst (λ (n : ℕ). QuitsWith (QuitsRoom old.badge n left) (QuitsHall n left) old new) r.conn_is q in
    let quits = subst (λ (m : ℕ). QuitsWith (QuitsRoom old.badge conn m) (QuitsHall conn m) old new) (sym l) own in (
      t,
      served end hub conn t old new talk0 talk counts0 counts start hours0 hours1 hours2 r (quitted_ok end hub conn t old new talk0 talk counts0 counts hours0 hours1 r are quits)
          (zip_all (QuitsRoom old.badge conn t.left) (IsAsked end hub t) (IsAsked end hub t) (λ h k d a. asked_quit end hub conn t.left old.badge t h k d a) old.rooms.items new.rooms.items quits.rooms r.asked)
          (subst (IsNow start) (sym o) first) begun_at (subst (IsNow hours1) (sym l) last) ended,
    )

pub serves_short : (end : End) (hub : Hub) (conn open_at left : ℕ) (old new : Passes) (talk0 talk : Option Talk) (counts0 counts : LinkCounts) (start hours0 hours1 hours2 : Hours) → ComesToRest end hub conn open_at left old talk0 talk counts0 counts hours0 hours1 → AreOf hub new
    → QuitsWith (QuitsRoomAtMost old.badge old.conn left) (QuitsHallAtMost old.conn left) old new → IsNow start open_at → hours0 ≡ after_now start → IsNow hours1 left → hours2 ≡ after_now hours1 → (t : Account) × Served ends.NoMemory hub conn t new talk0 talk counts0 counts start hours2
serves_short end hub conn open_at left old new talk0 talk counts0 counts start hours0 hours1 hours2 (t, o, l, r) are q first begun_at last ended =
    let own = subst (λ (n : ℕ). QuitsWith (QuitsRoomAtMost old.badge n left) (QuitsHallAtMost n left) old new) r.conn_is q in
    let quits = subst (λ (m : ℕ). QuitsWith (QuitsRoomAtMost old.badge conn m) (QuitsHallAtMost conn m) old new) (sym l) own in
    let weak = rests_weak end hub conn t old talk0 talk counts0 counts hours0 hours1 r in (
      t,
      served ends.NoMemory hub conn t old new talk0 talk counts0 counts start hours0 hours1 hours2 weak (quitted_short hub conn t old new talk0 talk counts0 counts hours0 hours1 weak are quits)
          (λ i d lt. tt) (subst (IsNow start) (sym o) first) begun_at (subst (IsNow hours1) (sym l) last) ended,
    )
