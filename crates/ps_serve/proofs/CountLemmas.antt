-- A link with texts within the limits is served to its end; and few texts in all are within them, since a connection gave no more
-- texts to a place than it gave at all.
use Rattle.std.proofs.Common.{◌≡◌, ◌≢◌, ℕ, zero, suc, ◌+◌, ◌-◌, ◌<◌, ◌≤◌, Bool, true, false, cond, List, [], ◌∷◌, ◌++◌, map, length, get_or, Option, Some, None, Result, Ok, Err, refl, ap, sym, ◌∙◌, subst, inl, inr, arith}
use Rattle.std.specs.Prelude.{All, Contains, unwrap_or, nat_le}
use Rattle.std.specs.FinMap.{get, get-empty, get-remove}
use Rattle.std.specs.Ordering.{nat_cmp, eq_by_cmp}
use Rattle.std.specs.Cmp.Lexicographic.{slice_cmp, nat_list_cmp_total}
use Rattle.std.specs.Str.{bytes_eq}
use Rattle.std.proofs.lemmas.Bool.Decides.{nat_tests}
use Rattle.std.proofs.lemmas.List.{length-append}
use Rattle.std.proofs.lemmas.List.Elements.{All-contains, All-head, Contains-append_left, Contains-append_right, filter_map-append}
use Rattle.ps_base.specs.declared.badge.Badge.{Badge}
use Rattle.ps_lines.specs.Clients.{client}
use Rattle.ps_lines.specs.declared.client.ClientFault.{ClientFault}
use Rattle.ps_lines.specs.declared.client.ClientFault.TheVariants as client_faults
use Rattle.ps_lines.specs.declared.order.Order.{Order}
use Rattle.ps_outside.specs.Causes.{Rose}
use Rattle.ps_outside.specs.Links.{Talk, LinkCounts}
use Rattle.ps_outside.specs.declared.link.Arrival.{Arrival}
use Rattle.ps_base.specs.ById.{ById}
use Rattle.ps_hub.specs.Hubs.{Hub}
use Rattle.ps_hub.specs.Passes.{RoomPass}
use Rattle.ps_session.specs.Counts.{count_in, raised, with_left}
use Rattle.ps_session.specs.declared.session.TheConstants.{MOST_TEXTS}
use Rattle.ps_session.specs.Sessions.{Record, begun, is_full, counted, uncounted}
use Rattle.ps_session.specs.Routes.{by_client, order_of, place_of, limited, within_limit, taken}
use Rattle.ps_session.specs.declared.session.TakeFault.TheVariants as take_faults
use Rattle.ps_session.proofs.KeptLemmas.{get_put}
use Rattle.ps_serve.specs.declared.closed.End.{End}
use Rattle.ps_serve.specs.declared.closed.End.TheVariants as ends
use Rattle.ps_serve.specs.Acts.{Made, in_hall, in_room, nowhere, Act, quiet, heard, with_given, after_made, after_acts, arrival_of}
use Rattle.ps_serve.specs.Ends.{Account, text_item, text_in, texts_in, IsReadable, IsWithin, EndsWell, EndsWellWithin, AreFew, IsTalk, AreOfLink, IsAccount, IsTooMany, HasCause}

-- ---- counts

-- no place was given more texts than this
record Few (n : ℕ) (r : Record) : Type 0 where
  pub hall : r.hall ≤ n
  pub rooms : (id : List ℕ) → count_in id r.rooms ≤ n

put_few : (b : Bool) (o : Option ℕ) (k n : ℕ) → k ≤ n → unwrap_or o 0 ≤ n → unwrap_or (cond b (Some k) o) 0 ≤ n
put_few true o k n here other = here
put_few false o k n here other = other

raised_few : (m : ById ℕ) (id : List ℕ) (n : ℕ) → ((q : List ℕ) → count_in q m ≤ n) → (q : List ℕ) → count_in q (raised id m) ≤ n + 1
raised_few m id n few q =
    let here : count_in id m ≤ n = few id in
    let other : count_in q m ≤ n = few q in
    subst (λ (o : Option ℕ). unwrap_or o 0 ≤ n + 1) (sym (get_put m id (count_in id m + 1) q)) (put_few (bytes_eq id q) (get m q) (count_in id m + 1) (n + 1) (omega arith) (omega arith))

out_few : (b : Bool) (o : Option ℕ) (n : ℕ) → unwrap_or o 0 ≤ n → unwrap_or (cond b None o) 0 ≤ n
out_few true o n other = omega arith
out_few false o n other = other

left_few : (k : ℕ) (id : List ℕ) (m : ById ℕ) (n : ℕ) → k ≤ n → ((q : List ℕ) → count_in q m ≤ n) → (q : List ℕ) → count_in q (with_left k id m) ≤ n
left_few zero id m n le few q = subst (λ (o : Option ℕ). unwrap_or o 0 ≤ n) (sym (get-remove nat_list_cmp_total m id q)) (out_few (eq_by_cmp (slice_cmp nat_cmp) q id) (get m q) n (few q))
left_few (suc k) id m n le few q = subst (λ (o : Option ℕ). unwrap_or o 0 ≤ n) (sym (get_put m id (suc k) q)) (put_few (bytes_eq id q) (get m q) (suc k) n le (few q))

-- ---- texts

hall_few : (n : ℕ) (r : Record) → Few n r → Few (n + 1) (counted None r)
hall_few n r f = record { hall = (let h : r.hall ≤ n = f.hall in omega arith); rooms = λ id. (let c : count_in id r.rooms ≤ n = f.rooms id in omega arith) }

room_few : (n : ℕ) (id : List ℕ) (r : Record) → Few n r → Few (n + 1) (counted (Some id) r)
room_few n id r f = record { hall = (let h : r.hall ≤ n = f.hall in omega arith); rooms = raised_few r.rooms id n f.rooms }

given_few : (n : ℕ) (badge : Option Badge) (r : Record) → Few n r → Few n (with_given badge r)
given_few n None r f = f
given_few n (Some badge) r f = record { hall = f.hall; rooms = f.rooms }

away_by : (b : Bool) (n : ℕ) (id : List ℕ) (r : Record) → Few n r → Few (n + 1) (cond b (counted (Some id) r) (counted None (uncounted (Some id) (counted (Some id) r))))
away_by true n id r f = room_few n id r f
away_by false n id r f =
    let all = raised_few r.rooms id n f.rooms in
    let here : count_in id (raised id r.rooms) ≤ n + 1 = all id in
    record { hall = (let h : r.hall ≤ n = f.hall in omega arith); rooms = left_few (count_in id (raised id r.rooms) - 1) id (raised id r.rooms) (n + 1) (omega arith) all }

made_few : (n : ℕ) (r : Record) (made : Made) → Few n r → Few (n + 1) (after_made r made)
made_few n r (in_hall cmd badge start) f = given_few (n + 1) badge (counted None r) (hall_few n r f)
made_few n r (in_room number id cmd badge ended) f = room_few n id r f
made_few n r (nowhere asked id cmd) f = away_by (is_full None (counted (Some id) r)) n id r f

-- how many texts the acts are
abbrev heard_in : List Act → ℕ
heard_in acts = length (texts_in (map arrival_of acts))

acts_few : (n : ℕ) (r : Record) (acts : List Act) → Few n r → Few (n + heard_in acts) (after_acts r acts)
acts_few n r [] f = subst (λ (k : ℕ). Few k r) (let e : n ≡ n + 0 = omega arith in e) f
acts_few n r (quiet ∷ acts) f = acts_few n r acts f
acts_few n r (heard bytes moment made ∷ acts) f =
    let rest = acts_few (n + 1) (after_made r made) acts (made_few n r made f) in
    subst (λ (k : ℕ). Few k (after_acts (after_made r made) acts)) (let e : n + 1 + heard_in acts ≡ n + length (bytes ∷ texts_in (map arrival_of acts)) = omega arith in e) rest

begun_few : (conn : ℕ) → Few 0 (begun conn)
begun_few conn = record { hall = omega arith; rooms = λ id. subst (λ (o : Option ℕ). unwrap_or o 0 ≤ 0) (sym (get-empty (slice_cmp nat_cmp) id)) (omega arith) }

-- ---- what a text is taken for

full_many : (place : Option (List ℕ)) (n : ℕ) (r : Record) → Few n r → is_full place r ≡ true → MOST_TEXTS ≤ n
full_many None n r f e = let h : r.hall ≤ n = f.hall in let l : MOST_TEXTS ≤ r.hall = grind (arith, nat_tests) in omega arith
full_many (Some id) n r f e = let h : count_in id r.rooms ≤ n = f.rooms id in let l : MOST_TEXTS ≤ count_in id r.rooms = grind (arith, nat_tests) in omega arith

limit_by : (b : Bool) (order : Order) (room : Option (List ℕ)) → limited b order ≡ Err (take_faults.Limit room) → b ≡ true
limit_by true order room e = refl
limit_by false order room e = absurd (cc)

limit_full : (r : Record) (o : Option Order) (room : Option (List ℕ)) → within_limit r o ≡ Err (take_faults.Limit room) → (place : Option (List ℕ)) × (is_full place r ≡ true)
limit_full r None room e = absurd (cc)
limit_full r (Some order) room e = (place_of order, limit_by (is_full (place_of order) r) order room e)

bad_by : (b : Bool) (order : Order) → limited b order ≡ Err take_faults.BadText → ⊥
bad_by true order e = cc
bad_by false order e = cc

bad_order : (r : Record) (o : Option Order) → within_limit r o ≡ Err take_faults.BadText → o ≡ None
bad_order r None e = refl
bad_order r (Some order) e = absurd (bad_by (is_full (place_of order) r) order e)

no_text : (badge : Option Badge) (r : Record) (c : Result (List ℕ × List ℕ) ClientFault) → by_client badge r c ≡ None → (c ≢ Err client_faults.NotUtf8) → ((n : ℕ) → c ≢ Err (client_faults.Long n)) → ⊥
no_text badge r (Err client_faults.NoBar) e utf8 long = cc
no_text badge r (Err client_faults.NotUtf8) e utf8 long = utf8 refl
no_text badge r (Err (client_faults.Long n)) e utf8 long = long n refl
no_text badge r (Ok message) e utf8 long = cc

readable : (r : Record) (bytes : List ℕ) → IsReadable bytes → taken r bytes ≡ Err take_faults.BadText → ⊥
unfolding order_of
readable r bytes fit e = no_text r.badge r (client bytes) (bad_order r (order_of r.badge r bytes) e) fit.0 fit.1

-- ---- the inbox

texts-append : (xs ys : List Arrival) → texts_in (xs ++ ys) ≡ texts_in xs ++ texts_in ys
texts-append xs ys = filter_map-append text_in xs ys

items_are : (texts : List (List ℕ)) → texts_in (map text_item texts) ≡ texts
items_are [] = refl
items_are (x ∷ xs) = ap (λ (l : List (List ℕ)). x ∷ l) (items_are xs)

inbox_texts : (t : Account) (old new : Talk) → IsTalk t old new → texts_in old.inbox ≡ texts_in (map arrival_of t.acts) ++ (t.rest ++ texts_in new.inbox)
inbox_texts t old new k =
    ap texts_in k.given
    ∙ texts-append (map arrival_of t.acts) (map text_item t.rest ++ new.inbox)
    ∙ ap (λ (l : List (List ℕ)). texts_in (map arrival_of t.acts) ++ l) (texts-append (map text_item t.rest) new.inbox ∙ ap (λ (l : List (List ℕ)). l ++ texts_in new.inbox) (items_are t.rest))

rest_read : (t : Account) (old new : Talk) (bytes : List ℕ) → IsTalk t old new → All IsReadable (texts_in old.inbox) → t.rest ≡ bytes ∷ [] → IsReadable bytes
rest_read t old new bytes k all e =
    let there : Contains (t.rest ++ texts_in new.inbox) bytes = Contains-append_left t.rest (texts_in new.inbox) bytes (subst (λ (l : List (List ℕ)). Contains l bytes) (sym e) (0, omega arith, refl)) in
    All-contains IsReadable (texts_in old.inbox) bytes all (subst (λ (l : List (List ℕ)). Contains l bytes) (sym (inbox_texts t old new k)) (Contains-append_right (texts_in (map arrival_of t.acts)) (t.rest ++ texts_in new.inbox) bytes there))

few_heard : (t : Account) (old new : Talk) (i : ℕ) → IsTalk t old new → length (texts_in old.inbox) ≤ MOST_TEXTS → i < length t.rest → heard_in t.acts < MOST_TEXTS
few_heard t old new i k all lt =
    let parts = ap length (inbox_texts t old new k) ∙ length-append (texts_in (map arrival_of t.acts)) (t.rest ++ texts_in new.inbox) in
    let rest = length-append t.rest (texts_in new.inbox) in
    omega arith

-- ---- the end

too_many : (room : Option (List ℕ)) (hub : Hub) (conn : ℕ) (t : Account) (rooms : List RoomPass) (bytes : List ℕ) → heard_in t.acts < MOST_TEXTS → IsTooMany room hub conn t rooms bytes → ⊥
unfolding order_of
too_many room hub conn t rooms bytes less (inl c) =
    let r = after_acts (begun conn) t.acts in
    let f : Few (0 + heard_in t.acts) r = acts_few 0 (begun conn) t.acts (begun_few conn) in
    let l = limit_full r (order_of r.badge r bytes) room c.0 in
    let many : MOST_TEXTS ≤ 0 + heard_in t.acts = full_many l.0 (0 + heard_in t.acts) r f l.1 in
    omega arith
too_many room hub conn t rooms bytes less (inr c) =
    let r = after_acts (begun conn) t.acts in
    let f : Few (0 + heard_in t.acts) r = acts_few 0 (begun conn) t.acts (begun_few conn) in
    let h : r.hall ≤ 0 + heard_in t.acts = f.hall in
    let full : nat_le MOST_TEXTS r.hall ≡ true = c.5 in
    let l : MOST_TEXTS ≤ r.hall = grind (arith, nat_tests) in
    omega arith

-- whatever became of them, none of so few texts is one more than its place takes
few_within : (hub : Hub) (conn : ℕ) (t : Account) (rooms : List RoomPass) (old new : Talk) → IsTalk t old new → AreFew old.inbox → IsWithin hub conn t rooms old.inbox
few_within hub conn t rooms old new k f = record { readable = f.readable; few = λ i d lt room many. too_many room hub conn t rooms (get_or t.rest i d) (few_heard t old new i k f.few lt) many }

ends_well : (end : End) (hub : Hub) (conn : ℕ) (t : Account) (rooms : List RoomPass) (old new : Talk) (counts0 counts : LinkCounts) → IsTalk t old new → HasCause end hub conn t rooms (Some new) counts0 counts → IsWithin hub conn t rooms old.inbox → (Rose counts0.faults counts.faults → ⊥) → EndsWell end
ends_well ends.Closed hub conn t rooms old new counts0 counts k cause w sound = tt
ends_well ends.NoMemory hub conn t rooms old new counts0 counts k cause w sound = tt
ends_well ends.Taken hub conn t rooms old new counts0 counts k cause w sound = tt
ends_well ends.LinkFault hub conn t rooms old new counts0 counts k cause w sound = sound cause.counts.0
ends_well (ends.BadText bytes) hub conn t rooms old new counts0 counts k cause w sound = readable (after_acts (begun conn) t.acts) bytes.items (rest_read t old new bytes.items k w.readable cause.text.0) cause.text.1
ends_well (ends.OwnLimit room) hub conn t rooms old new counts0 counts k cause w sound =
    let not_many : All (λ (bytes : List ℕ). (room : Option (List ℕ)) → IsTooMany room hub conn t rooms bytes → ⊥) (cause.text.0 ∷ []) = subst (All (λ (bytes : List ℕ). (room : Option (List ℕ)) → IsTooMany room hub conn t rooms bytes → ⊥)) cause.text.1 w.few in
    All-head (λ (bytes : List ℕ). (room : Option (List ℕ)) → IsTooMany room hub conn t rooms bytes → ⊥) cause.text.0 [] not_many room cause.text.2

pub complete_of : (end : End) (hub : Hub) (conn : ℕ) (t : Account) (rooms : List RoomPass) (told new : Option Talk) (counts0 counts : LinkCounts) → IsAccount conn t told new → HasCause end hub conn t rooms new counts0 counts → EndsWellWithin end hub conn t rooms told counts0 counts
complete_of end hub conn t rooms told new counts0 counts are cause old is w sound = by_talk new (subst (λ (o : Option Talk). IsAccount conn t o new) is are).0 cause where
  by_talk : (new : Option Talk) → AreOfLink t (Some old) new → HasCause end hub conn t rooms new counts0 counts → EndsWell end
  by_talk None k cause = absurd k
  by_talk (Some talk) k cause = ends_well end hub conn t rooms old talk counts0 counts k cause w sound

pub few_complete : (end : End) (hub : Hub) (conn : ℕ) (t : Account) (rooms : List RoomPass) (old : Talk) (told new : Option Talk) (counts0 counts : LinkCounts) → told ≡ Some old → IsAccount conn t told new → EndsWellWithin end hub conn t rooms told counts0 counts → AreFew old.inbox → (Rose counts0.faults counts.faults → ⊥) → EndsWell end
few_complete end hub conn t rooms old told new counts0 counts is are complete f sound = by_talk new (subst (λ (o : Option Talk). IsAccount conn t o new) is are).0 where
  by_talk : (new : Option Talk) → AreOfLink t (Some old) new → EndsWell end
  by_talk None k = absurd k
  by_talk (Some talk) k = complete old is (few_within hub conn t rooms old talk k f) sound
