-- The battles that a connection started, and their Begins.
use Rattle.std.proofs.Common.{◌≡◌, ◌⊎◌, ℕ, zero, suc, get_or, ◌+◌, ◌<◌, ◌≤◌, Bool, true, false, cond, eqb, eq-eqb, List, [], ◌∷◌, ◌++◌, length, Option, Some, None, refl, sym, ap, ◌∙◌, subst, inl, inr, ⊎_elim, append_assoc, arith}
use Rattle.std.specs.Prelude.{All, Contains}
use Rattle.std.proofs.lemmas.Bool.{cases_lt}
use Rattle.std.proofs.lemmas.Bool.Decides.{nat_tests}
use Rattle.std.proofs.lemmas.List.{append-nil, length-append}
use Rattle.std.proofs.lemmas.List.Elements.{All-weaker, All-contains_itself, Contains-append_left, Contains-append_right, Contains-push, Contains-append_cases, filter_map-append}
use mathlib.Core.List.{IsPrefix}
use Rattle.ps_base.specs.declared.badge.Badge.{Badge}
use Rattle.ps_lines.specs.declared.command.HallCmd.{HallCmd}
use Rattle.rules_start.specs.declared.start.Start.{Start}
use Rattle.ps_hall.specs.declared.entry.HallEntry.{HallEntry}
use Rattle.ps_hall.specs.declared.outcome.HallOut.{HallOut}
use Rattle.ps_histlock.specs.declared.view.Entry.{Entry}
use Rattle.ps_histlock.specs.Histories.{commands, entry, entries_of}
use Rattle.ps_histlock.proofs.Lists.{entries_of-append}
use Rattle.ps_histlock.proofs.TurnLemmas.{commands-append}
use Rattle.server_places.specs.declared.command.RoomCmd.{RoomCmd}
use Rattle.server_places.specs.declared.command.RoomCmd.TheVariants.{Begin, Play}
use Rattle.server_places.specs.Halls.{HallAnswers}
use Rattle.server_places.proofs.NumberLemmas.{numbers_rise}
use Rattle.ps_hub.specs.Hubs.{Hub, root_of}
use Rattle.ps_hub.specs.Calls.{hall_entry}
use Rattle.ps_hub.specs.Passes.{HallPass, RoomPass}
use Rattle.ps_serve.specs.Acts.{in_hall, in_room, nowhere, Act, quiet, heard, hall_of, hall_entries, room_of, room_cmds, begins_by, begins, begun_by, all_begun}
use Rattle.ps_serve.specs.Sittings.{HallGave, Gave, AreGiven, SaysNothing, LastGave, AreAlmostGiven}
use Rattle.ps_serve.specs.Ends.{start_in, starts_in}
use Rattle.ps_serve.proofs.Actions.{hall_more, begins_more, given_more}
use Rattle.ps_serve.proofs.PassLists.{contains_none}

-- ---- Begins among the commands of a place

pub starts-append : (xs ys : List RoomCmd) → starts_in (xs ++ ys) ≡ starts_in xs ++ starts_in ys
starts-append xs ys = filter_map-append start_in xs ys

at_place : (b : Bool) (start : Start) → starts_in (cond b (Begin start ∷ []) []) ≡ cond b (start ∷ []) []
at_place true start = refl
at_place false start = refl

no_start : (b : Bool) (e : RoomCmd) → start_in e ≡ None → starts_in (cond b (e ∷ []) []) ≡ []
no_start true (Begin start) is = absurd (let bad : Some start ≡ None = is in cc)
no_start true (Play e) is = refl
no_start false e is = refl

act_starts : (conn number : ℕ) (a : Act) → starts_in (room_of conn number a) ≡ begins_by number a
act_starts conn number quiet = refl
act_starts conn number (heard bytes moment (in_hall cmd badge None)) = refl
act_starts conn number (heard bytes moment (in_hall cmd badge (Some start))) = at_place (eqb (15 + start.number) number) start
act_starts conn number (heard bytes moment (in_room other id cmd badge ended)) = no_start (eqb other number) _ refl
act_starts conn number (heard bytes moment (nowhere asked id cmd)) = refl

-- the Begins of a place are those of the battles that were started with its number
pub starts_are : (conn number : ℕ) (acts : List Act) → starts_in (room_cmds conn number acts) ≡ begins number acts
starts_are conn number [] = refl
starts_are conn number (a ∷ later) = starts-append (room_of conn number a) (room_cmds conn number later) ∙ ap (λ l. l ++ starts_in (room_cmds conn number later)) (act_starts conn number a) ∙ ap (λ l. begins_by number a ++ l) (starts_are conn number later)

-- ---- which battles are begun at a place

pub only_one : (x y : Start) → Contains (x ∷ []) y → x ≡ y
only_one x y c = by_index c.0 c.1 c.2 where
  by_index : (k : ℕ) → k < length (x ∷ []) → get_or (x ∷ []) k y ≡ y → x ≡ y
  by_index zero lt e = e
  by_index (suc k) lt e = absurd (omega arith)

at_its_place : (number : ℕ) (start : Start) → number ≡ 15 + start.number → Contains (cond (eqb (15 + start.number) number) (start ∷ []) []) start
at_its_place number start e = subst (λ (b : Bool). Contains (cond b (start ∷ []) []) start) (sym (eq-eqb (15 + start.number) number (sym e))) (Contains-push [] start)

act_begins : (number : ℕ) (a : Act) (start : Start) → Contains (begun_by a) start → number ≡ 15 + start.number → Contains (begins_by number a) start
act_begins number quiet start c e = contains_none start c
act_begins number (heard bytes moment (in_hall cmd badge None)) start c e = contains_none start c
act_begins number (heard bytes moment (in_hall cmd badge (Some s))) start c e =
    let same : s ≡ start = only_one s start c in
    subst (λ (x : Start). Contains (cond (eqb (15 + x.number) number) (x ∷ []) []) start) (sym same) (at_its_place number start e)
act_begins number (heard bytes moment (in_room other id cmd badge ended)) start c e = contains_none start c
act_begins number (heard bytes moment (nowhere asked id cmd)) start c e = contains_none start c

-- a battle that was started is begun at the place of its number
pub begun_there : (number : ℕ) (acts : List Act) (start : Start) → Contains (all_begun acts) start → number ≡ 15 + start.number → Contains (begins number acts) start
begun_there number [] start c e = contains_none start c
begun_there number (a ∷ later) start c e =
    ⊎_elim
    (λ (here : Contains (begun_by a) start). Contains-append_left (begins_by number a) (begins number later) start (act_begins number a start here e))
    (λ (behind : Contains (all_begun later) start). Contains-append_right (begins_by number a) (begins number later) start (begun_there number later start behind e))
    (Contains-append_cases (begun_by a) (all_begun later) start c)

-- which battle that is, and where
abbrev IsFromAct : ℕ → List Start → Start → Type 0
IsFromAct number started start = Contains started start × (number ≡ 15 + start.number)

started_if : (b : Bool) (number : ℕ) (s start : Start) → eqb (15 + s.number) number ≡ b → Contains (cond b (s ∷ []) []) start → IsFromAct number (s ∷ []) start
started_if true number s start e c =
    let same : s ≡ start = only_one s start c in
    let is : 15 + s.number ≡ number = grind (arith, nat_tests) in
    (subst (λ (x : Start). Contains (s ∷ []) x) same (Contains-push [] s), sym is ∙ ap (λ (x : Start). 15 + x.number) same)
started_if false number s start e c = contains_none start c

act_started : (number : ℕ) (a : Act) (start : Start) → Contains (begins_by number a) start → IsFromAct number (begun_by a) start
act_started number quiet start c = contains_none start c
act_started number (heard bytes moment (in_hall cmd badge None)) start c = contains_none start c
act_started number (heard bytes moment (in_hall cmd badge (Some s))) start c = started_if (eqb (15 + s.number) number) number s start refl c
act_started number (heard bytes moment (in_room other id cmd badge ended)) start c = contains_none start c
act_started number (heard bytes moment (nowhere asked id cmd)) start c = contains_none start c

started_by : (number : ℕ) (acts : List Act) (start : Start) → Contains (begins number acts) start → IsFromAct number (all_begun acts) start
started_by number [] start c = contains_none start c
started_by number (a ∷ later) start c =
    ⊎_elim
    (λ (here : Contains (begins_by number a) start). (let r = act_started number a start here in (Contains-append_left (begun_by a) (all_begun later) start r.0, r.1)))
    (λ (behind : Contains (begins number later) start). (let r = started_by number later start behind in (Contains-append_right (begun_by a) (all_begun later) start r.0, r.1)))
    (Contains-append_cases (begins_by number a) (begins number later) start c)

pub own_starts : (number : ℕ) (acts : List Act) → All (λ (s : Start). Contains (all_begun acts) s × (number ≡ 15 + s.number)) (begins number acts)
own_starts number acts = All-weaker (Contains (begins number acts)) (λ (s : Start). Contains (all_begun acts) s × (number ≡ 15 + s.number)) (λ s c. started_by number acts s c) (begins number acts) (All-contains_itself (begins number acts))

-- ---- two entries of one history

module _ {A : Type 0} where
  -- of two beginnings of a list the shorter is a beginning of the other
  pub shorter : (xs ys all : List A) → IsPrefix xs all → IsPrefix ys all → length xs ≤ length ys → IsPrefix xs ys
  shorter [] ys all p q le = (ys, refl)
  shorter (x ∷ xs) [] all p q le = absurd (let bad : length (x ∷ xs) ≤ 0 = le in omega arith)
  shorter (x ∷ xs) (y ∷ ys) [] p q le = absurd (let bad : x ∷ (xs ++ p.0) ≡ [] = p.1 in cc)
  shorter (x ∷ xs) (y ∷ ys) (z ∷ all) p q le =
      let e : x ∷ (xs ++ p.0) ≡ z ∷ all = p.1 in
      let f : y ∷ (ys ++ q.0) ≡ z ∷ all = q.1 in
      let xs_is : xs ++ p.0 ≡ all = cc in
      let ys_is : ys ++ q.0 ≡ all = cc in
      let same : x ≡ y = cc in
      let r = shorter xs ys all (p.0, xs_is) (q.0, ys_is) (let l : length (x ∷ xs) ≤ length (y ∷ ys) = le in omega arith) in
      (r.0, ap (λ (w : A). w ∷ (xs ++ r.0)) same ∙ ap (λ (w : List A). y ∷ w) r.1)

module _ {C : Type 0} where
  fewer : (by : ℕ) (xs ys : List (Entry C)) → IsPrefix xs ys → length (entries_of by xs) ≤ length (entries_of by ys)
  fewer by xs ys p =
      let e : entries_of by ys ≡ entries_of by xs ++ entries_of by p.0 = ap (λ l. entries_of by l) (sym p.1) ∙ entries_of-append by xs p.0 in
      let l : length (entries_of by ys) ≡ length (entries_of by xs) + length (entries_of by p.0) = ap length e ∙ length-append (entries_of by xs) (entries_of by p.0) in
      omega arith

  -- who has fewer own entries before it stands before the other
  pub stands_before : (by : ℕ) (xs ys seen : List (Entry C)) (x y : Entry C) → IsPrefix (xs ++ x ∷ []) seen → IsPrefix (ys ++ y ∷ []) seen → length (entries_of by xs) < length (entries_of by ys) → IsPrefix (xs ++ x ∷ []) ys
  stands_before by xs ys seen x y p q less = by_length (cases_lt (length xs) (length ys)) where
    ys_in : IsPrefix ys seen
    ys_in = ((y ∷ []) ++ q.0, sym (append_assoc ys (y ∷ []) q.0) ∙ q.1)

    xs_in : IsPrefix xs seen
    xs_in = ((x ∷ []) ++ p.0, sym (append_assoc xs (x ∷ []) p.0) ∙ p.1)

    by_length : (length xs < length ys) ⊎ (length ys ≤ length xs) → IsPrefix (xs ++ x ∷ []) ys
    by_length (inr le) = absurd (let few : length (entries_of by ys) ≤ length (entries_of by xs) = fewer by ys xs (shorter ys xs seen ys_in xs_in le) in omega arith)
    by_length (inl lt) = shorter (xs ++ x ∷ []) ys seen p ys_in (let l = length-append xs (x ∷ []) in omega arith)

-- ---- one begin for each number

-- a battle that started earlier, by an entry with so many own ones before it
pub record Earlier (hub : Hub) (conn : ℕ) (own : ℕ) (h : HallPass) (start : Start) : Type 0 where
  pub moment : ℕ
  pub cmd : HallCmd
  pub badge : Option Badge
  pub before : List (Entry HallEntry)
  pub out : HallOut
  pub there : IsPrefix (before ++ entry h.pass.1.number (hall_entry conn moment cmd) ∷ []) h.pass.1.seen
  pub own_is : length (entries_of h.pass.1.number before) ≡ own
  pub answer : HallAnswers (root_of hub) (commands before) (hall_entry conn moment cmd) out
  pub start_is : Some start ≡ out.start

earlier_of : (hub : Hub) (conn : ℕ) (done : List Act) (moment : ℕ) (cmd : HallCmd) (badge : Option Badge) (start : Start) (h : HallPass) → HallGave hub conn done moment cmd badge (Some start) h → Earlier hub conn (length (hall_entries conn done)) h start
earlier_of hub conn done moment cmd badge start h g = record { moment = moment; cmd = cmd; badge = badge; before = g.before; out = g.out; there = g.there; own_is = g.own; answer = g.answer; start_is = g.start_is }

-- it has the lower number
lower : (hub : Hub) (conn own later : ℕ) (h : HallPass) (one two : Start) → Earlier hub conn own h one → Earlier hub conn later h two → own < later → one.number < two.number
lower hub conn own later h one two a b less =
    let by = h.pass.1.number in
    let fewer_own : length (entries_of by a.before) < length (entries_of by b.before) = (let x = a.own_is in let y = b.own_is in omega arith) in
    let front : IsPrefix (a.before ++ entry by (hall_entry conn a.moment a.cmd) ∷ []) b.before = stands_before by a.before b.before h.pass.1.seen (entry by (hall_entry conn a.moment a.cmd)) (entry by (hall_entry conn b.moment b.cmd)) a.there b.there fewer_own in
    let split : commands b.before ≡ commands a.before ++ hall_entry conn a.moment a.cmd ∷ commands front.0 =
    ap (λ (l : List (Entry HallEntry)). commands l) (sym (sym (append_assoc a.before (entry by (hall_entry conn a.moment a.cmd) ∷ []) front.0) ∙ front.1)) ∙ commands-append a.before (entry by (hall_entry conn a.moment a.cmd) ∷ front.0) in
    numbers_rise (root_of hub) (commands a.before) (hall_entry conn a.moment a.cmd) (commands front.0) (hall_entry conn b.moment b.cmd) a.out b.out one two a.answer (sym a.start_is)
    (subst (λ (l : List HallEntry). HallAnswers (root_of hub) l (hall_entry conn b.moment b.cmd) b.out) split b.answer) (sym b.start_is)

more_own : (conn : ℕ) (done : List Act) (a : Act) → length (hall_entries conn (done ++ a ∷ [])) ≡ length (hall_entries conn done) + length (hall_of conn a)
more_own conn done a = ap length (hall_more conn done a) ∙ length-append (hall_entries conn done) (hall_of conn a)

same_number : (b : Bool) (number : ℕ) (one s : Start) → eqb (15 + s.number) number ≡ b → number ≡ 15 + one.number → one.number < s.number → cond b (s ∷ []) [] ≡ []
same_number true number one s e is less = absurd (let same : 15 + s.number ≡ number = grind (arith, nat_tests) in omega arith)
same_number false number one s e is less = refl

-- no later battle has its number
act_later : (hub : Hub) (conn own number : ℕ) (done : List Act) (a : Act) (h : HallPass) (rooms : List RoomPass) (one : Start) → Earlier hub conn own h one → own < length (hall_entries conn done) → number ≡ 15 + one.number → Gave hub conn done a h rooms → begins_by number a ≡ []
act_later hub conn own number done quiet h rooms one early less is g = refl
act_later hub conn own number done (heard bytes moment (in_hall cmd badge None)) h rooms one early less is g = refl
act_later hub conn own number done (heard bytes moment (in_hall cmd badge (Some s))) h rooms one early less is g = same_number (eqb (15 + s.number) number) number one s refl is (lower hub conn own (length (hall_entries conn done)) h one s early (earlier_of hub conn done moment cmd badge s h g) less)
act_later hub conn own number done (heard bytes moment (in_room other id cmd badge ended)) h rooms one early less is g = refl
act_later hub conn own number done (heard bytes moment (nowhere asked id cmd)) h rooms one early less is g = refl

none_later : (hub : Hub) (conn own number : ℕ) (done acts : List Act) (h : HallPass) (rooms : List RoomPass) (one : Start) → Earlier hub conn own h one → own < length (hall_entries conn done) → number ≡ 15 + one.number → AreGiven hub conn done acts h rooms → begins number acts ≡ []
none_later hub conn own number done [] h rooms one early less is g = refl
none_later hub conn own number done (a ∷ later) h rooms one early less is g =
    let more = more_own conn done a in
    let still : own < length (hall_entries conn (done ++ a ∷ [])) = omega arith in
    ap (λ l. l ++ begins number later) (act_later hub conn own number done a h rooms one early less is g.0) ∙ none_later hub conn own number (done ++ a ∷ []) later h rooms one early still is g.1

abbrev AtMostOne : List Start → Type 0
AtMostOne l = length l ≤ 1

one_or_none : (b : Bool) (hub : Hub) (conn number : ℕ) (done later : List Act) (bytes : List ℕ) (moment : ℕ) (cmd : HallCmd) (badge : Option Badge) (s : Start) (h : HallPass) (rooms : List RoomPass) → eqb (15 + s.number) number ≡ b → HallGave hub conn done moment cmd badge (Some s) h
    → AreGiven hub conn (done ++ heard bytes moment (in_hall cmd badge (Some s)) ∷ []) later h rooms → AtMostOne (begins number later) → AtMostOne (cond b (s ∷ []) [] ++ begins number later)
one_or_none false hub conn number done later bytes moment cmd badge s h rooms e g rest few = few
one_or_none true hub conn number done later bytes moment cmd badge s h rooms e g rest few =
    let is : 15 + s.number ≡ number = grind (arith, nat_tests) in
    let a : Act = heard bytes moment (in_hall cmd badge (Some s)) in
    let more : length (hall_entries conn (done ++ a ∷ [])) ≡ length (hall_entries conn done) + 1 = more_own conn done a in
    let less : length (hall_entries conn done) < length (hall_entries conn (done ++ a ∷ [])) = omega arith in
    let none : begins number later ≡ [] = none_later hub conn (length (hall_entries conn done)) number (done ++ a ∷ []) later h rooms s (earlier_of hub conn done moment cmd badge s h g) less (sym is) rest in
    let l : length (s ∷ begins number later) ≡ length (s ∷ []) = ap (λ (x : List Start). length (s ∷ x)) none in
    omega arith

pub one_each : (hub : Hub) (conn number : ℕ) (done acts : List Act) (h : HallPass) (rooms : List RoomPass) → AreGiven hub conn done acts h rooms → AtMostOne (begins number acts)
one_each hub conn number done [] h rooms g = omega arith
one_each hub conn number done (quiet ∷ later) h rooms g = one_each hub conn number (done ++ quiet ∷ []) later h rooms g.1
one_each hub conn number done (heard bytes moment (in_hall cmd badge None) ∷ later) h rooms g = one_each hub conn number (done ++ heard bytes moment (in_hall cmd badge None) ∷ []) later h rooms g.1
one_each hub conn number done (heard bytes moment (in_hall cmd badge (Some s)) ∷ later) h rooms g = one_or_none (eqb (15 + s.number) number) hub conn number done later bytes moment cmd badge s h rooms refl g.0 g.1 (one_each hub conn number (done ++ heard bytes moment (in_hall cmd badge (Some s)) ∷ []) later h rooms g.1)
one_each hub conn number done (heard bytes moment (in_room other id cmd badge ended) ∷ later) h rooms g = one_each hub conn number (done ++ heard bytes moment (in_room other id cmd badge ended) ∷ []) later h rooms g.1
one_each hub conn number done (heard bytes moment (nowhere asked id cmd) ∷ later) h rooms g = one_each hub conn number (done ++ heard bytes moment (nowhere asked id cmd) ∷ []) later h rooms g.1

-- ---- if out of memory

nothing_begun : (number : ℕ) (a : Act) (rooms : List RoomPass) → SaysNothing a rooms → begins_by number a ≡ []
nothing_begun number quiet rooms n = refl
nothing_begun number (heard bytes moment (in_hall cmd badge start)) rooms n = ap (λ (s : Option Start). begins_by number (heard bytes moment (in_hall cmd badge s))) n.1
nothing_begun number (heard bytes moment (in_room other id cmd badge ended)) rooms n = refl
nothing_begun number (heard bytes moment (nowhere asked id cmd)) rooms n = absurd n

last_each : (hub : Hub) (conn number : ℕ) (sure last : List Act) (h : HallPass) (rooms : List RoomPass) → AreGiven hub conn [] sure h rooms → LastGave hub conn sure last h rooms → AtMostOne (begins number (sure ++ last))
last_each hub conn number sure [] h rooms g l = subst (λ (acts : List Act). AtMostOne (begins number acts)) (sym (append-nil sure)) (one_each hub conn number [] sure h rooms g)
last_each hub conn number sure (a ∷ rest) h rooms g l =
    let only : sure ++ a ∷ rest ≡ sure ++ a ∷ [] = ap (λ (r : List Act). sure ++ a ∷ r) l.1 in
    subst (λ (acts : List Act). AtMostOne (begins number acts)) (sym only) (⊎_elim
    (λ (gave : Gave hub conn sure a h rooms). one_each hub conn number [] (sure ++ a ∷ []) h rooms (given_more hub conn [] sure a h rooms g gave))
    (λ (n : SaysNothing a rooms).
    let same : begins number (sure ++ a ∷ []) ≡ begins number sure = begins_more number sure a ∙ ap (λ (l : List Start). begins number sure ++ l) (nothing_begun number a rooms n) ∙ append-nil (begins number sure) in
    subst AtMostOne (sym same) (one_each hub conn number [] sure h rooms g))
    l.0)

pub almost_each : (hub : Hub) (conn number : ℕ) (sure acts : List Act) (h : HallPass) (rooms : List RoomPass) → AreAlmostGiven hub conn sure acts h rooms → AtMostOne (begins number acts)
almost_each hub conn number sure acts h rooms g = subst (λ (l : List Act). AtMostOne (begins number l)) (sym g.1) (last_each hub conn number sure g.0 h rooms g.2 g.3)
