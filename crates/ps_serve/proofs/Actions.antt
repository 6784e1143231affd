-- What one act more makes of what the acts made.
use Rattle.std.proofs.Common.{◌≡◌, ◌≢◌, ℕ, ◌+◌, ◌-◌, Bool, true, false, if◌then◌else◌, List, [], ◌∷◌, ◌++◌, length, refl, sym, ap, ◌∙◌, subst, arith, append_assoc, append-nil, length-append, Option, Some, None, eqb, ne_eqb, eq-eqb}
use Rattle.ps_base.specs.declared.badge.Badge.{Badge}
use Rattle.ps_lines.specs.declared.command.Command.{Command}
use Rattle.ps_lines.specs.declared.command.HallCmd.{HallCmd}
use Rattle.ps_room.specs.declared.outcome.Ending.{Ending}
use Rattle.ps_session.specs.Sessions.{Record}
use Rattle.server_places.specs.declared.command.RoomCmd.TheVariants.{Begin, Play}
use Rattle.server_places.specs.Rooms.{Shows}
use Rattle.rules_start.specs.declared.start.Start.{Start}
use Rattle.ps_hub.specs.Calls.{room_entry}
use Rattle.ps_hub.specs.Hubs.{Hub, site_of}
use Rattle.ps_hub.specs.Passes.{HallPass, RoomPass}
use Rattle.ps_histlock.specs.Histories.{commands}
use Rattle.ps_serve.specs.Acts.{in_hall, in_room, nowhere, Act, heard, after_act, after_acts, IsAct, AreActs, hall_of, hall_entries, room_of, room_cmds, is_at, since, asked_by, asked, begins_by, begins, begun_by, all_begun}
use Rattle.ps_serve.specs.Sendings.{Sending, AreLooksAnswered}
use Rattle.ps_serve.specs.Sittings.{RoomSits, IsUntouched, Gave, AreGiven}
use Rattle.ps_serve.proofs.Prefixes.{flat_snoc}

-- ---- the way of texts

pub after_acts_more : (r : Record) (acts : List Act) (a : Act) → after_acts r (acts ++ a ∷ []) ≡ after_act (after_acts r acts) a
after_acts_more r [] a = refl
after_acts_more r (x ∷ acts) a = after_acts_more (after_act r x) acts a

pub after_acts-append : (r : Record) (xs ys : List Act) → after_acts r (xs ++ ys) ≡ after_acts (after_acts r xs) ys
after_acts-append r [] ys = refl
after_acts-append r (x ∷ xs) ys = after_acts-append (after_act r x) xs ys

pub acts_more : (r : Record) (acts : List Act) (a : Act) → AreActs r acts → IsAct (after_acts r acts) a → AreActs r (acts ++ a ∷ [])
acts_more r [] a are is = (is, tt)
acts_more r (x ∷ acts) a are is = (are.0, acts_more (after_act r x) acts a are.1 is)

-- ---- entries

pub hall_more : (conn : ℕ) (acts : List Act) (a : Act) → hall_entries conn (acts ++ a ∷ []) ≡ hall_entries conn acts ++ hall_of conn a
hall_more conn acts a = flat_snoc (hall_of conn) acts a

pub cmds_more : (conn number : ℕ) (acts : List Act) (a : Act) → room_cmds conn number (acts ++ a ∷ []) ≡ room_cmds conn number acts ++ room_of conn number a
cmds_more conn number acts a = flat_snoc (room_of conn number) acts a

pub asked_more : (number : ℕ) (acts : List Act) (a : Act) → asked number (acts ++ a ∷ []) ≡ asked number acts ++ asked_by number a
asked_more number acts a = flat_snoc (asked_by number) acts a

pub begins_more : (number : ℕ) (acts : List Act) (a : Act) → begins number (acts ++ a ∷ []) ≡ begins number acts ++ begins_by number a
begins_more number acts a = flat_snoc (begins_by number) acts a

pub all_begun_more : (acts : List Act) (a : Act) → all_begun (acts ++ a ∷ []) ≡ all_begun acts ++ begun_by a
all_begun_more acts a = flat_snoc begun_by acts a

-- ---- since when a room is joined

not_none : {A P : Type 0} → (x : A) (xs : List A) → x ∷ xs ≡ [] → P
not_none x xs e = absurd (let l = ap length e in omega arith)

pub since_more : (number : ℕ) (acts : List Act) (a : Act) → since number acts ≢ [] → since number (acts ++ a ∷ []) ≡ since number acts ++ a ∷ []
since_more number [] a ne = absurd (ne refl)
since_more number (x ∷ acts) a ne = by_test (is_at number x) (λ e. since_more number acts a e) ne
  where
    by_test : (b : Bool) → (since number acts ≢ [] → since number (acts ++ a ∷ []) ≡ since number acts ++ a ∷ []) → (if b then x ∷ acts else since number acts) ≢ [] → (if b then x ∷ (acts ++ a ∷ []) else since number (acts ++ a ∷ [])) ≡ (if b then x ∷ acts else since number acts) ++ a ∷ []
    by_test true further ne = refl
    by_test false further ne = further ne

pub since_first : (number : ℕ) (acts : List Act) (a : Act) → since number acts ≡ [] → since number (acts ++ a ∷ []) ≡ since number (a ∷ [])
since_first number [] a e = refl
since_first number (x ∷ acts) a e = by_test (is_at number x) (λ none. since_first number acts a none) e
  where
    by_test : (b : Bool) → (since number acts ≡ [] → since number (acts ++ a ∷ []) ≡ since number (a ∷ [])) → (if b then x ∷ acts else since number acts) ≡ [] → (if b then x ∷ (acts ++ a ∷ []) else since number (acts ++ a ∷ [])) ≡ since number (a ∷ [])
    by_test true further e = not_none x acts e
    by_test false further e = further e

-- ---- places that an act leaves alone

pub record IsQuietAt (conn number : ℕ) (a : Act) : Type 0 where
  pub cmds : room_of conn number a ≡ []
  pub away : is_at number a ≡ false
  pub asks : asked_by number a ≡ []
  pub starts : begins_by number a ≡ []

nothing_more : {A : Type 0} → (all xs more : List A) → all ≡ xs ++ more → more ≡ [] → all ≡ xs
nothing_more all xs more e none = e ∙ ap (λ l. xs ++ l) none ∙ append-nil xs

pub cmds_quiet : (conn number : ℕ) (acts : List Act) (a : Act) → IsQuietAt conn number a → room_cmds conn number (acts ++ a ∷ []) ≡ room_cmds conn number acts
cmds_quiet conn number acts a q = nothing_more _ (room_cmds conn number acts) (room_of conn number a) (cmds_more conn number acts a) q.cmds

pub asked_quiet : (conn number : ℕ) (acts : List Act) (a : Act) → IsQuietAt conn number a → asked number (acts ++ a ∷ []) ≡ asked number acts
asked_quiet conn number acts a q = nothing_more _ (asked number acts) (asked_by number a) (asked_more number acts a) q.asks

pub begins_quiet : (conn number : ℕ) (acts : List Act) (a : Act) → IsQuietAt conn number a → begins number (acts ++ a ∷ []) ≡ begins number acts
begins_quiet conn number acts a q = nothing_more _ (begins number acts) (begins_by number a) (begins_more number acts a) q.starts

pub since_away : (number : ℕ) (acts : List Act) (a : Act) → is_at number a ≡ false → since number acts ≡ [] → since number (acts ++ a ∷ []) ≡ []
since_away number acts a away e = since_first number acts a e ∙ ap (λ (b : Bool). if b then a ∷ [] else []) away

pub since_here : (number : ℕ) (acts : List Act) (a : Act) → is_at number a ≡ true → since number acts ≡ [] → since number (acts ++ a ∷ []) ≡ a ∷ []
since_here number acts a here e = since_first number acts a e ∙ ap (λ (b : Bool). if b then a ∷ [] else []) here

pub untouched_on : (conn number : ℕ) (acts : List Act) (a : Act) (ss : List Sending) → IsQuietAt conn number a → IsUntouched conn number acts ss → IsUntouched conn number (acts ++ a ∷ []) ss
untouched_on conn number acts a ss q u = record {
  no_cmds = cmds_quiet conn number acts a q ∙ u.no_cmds;
  not_joined = since_away number acts a q.away u.not_joined;
  not_asked = asked_quiet conn number acts a q ∙ u.not_asked;
  not_begun = begins_quiet conn number acts a q ∙ u.not_begun;
  not_sent = u.not_sent;
}

-- ---- which places an act leaves alone

pub quiet_hall : (conn number : ℕ) (bytes : List ℕ) (moment : ℕ) (cmd : HallCmd) (badge : Option Badge) → IsQuietAt conn number (heard bytes moment (in_hall cmd badge None))
quiet_hall conn number bytes moment cmd badge = record { cmds = refl; away = refl; asks = refl; starts = refl }

pub quiet_start : (conn number : ℕ) (bytes : List ℕ) (moment : ℕ) (cmd : HallCmd) (badge : Option Badge) (start : Start) → 15 + start.number ≢ number → IsQuietAt conn number (heard bytes moment (in_hall cmd badge (Some start)))
quiet_start conn number bytes moment cmd badge start ne =
    let test : eqb (15 + start.number) number ≡ false = ne_eqb (15 + start.number) number ne in
    record { cmds = ap (λ (b : Bool). if b then Begin start ∷ [] else []) test; away = refl; asks = refl; starts = ap (λ (b : Bool). if b then start ∷ [] else []) test }

pub quiet_room : (conn number : ℕ) (bytes : List ℕ) (moment other : ℕ) (id : List ℕ) (cmd : Command) (badge : Badge) (ended : Option Ending) → other ≢ number → IsQuietAt conn number (heard bytes moment (in_room other id cmd badge ended))
quiet_room conn number bytes moment other id cmd badge ended ne =
    let test : eqb other number ≡ false = ne_eqb other number ne in
    record { cmds = ap (λ (b : Bool). if b then Play (room_entry conn badge moment cmd) ∷ [] else []) test; away = test; asks = refl; starts = refl }

pub quiet_nowhere : (conn number : ℕ) (bytes : List ℕ) (moment : ℕ) (id : List ℕ) (cmd : Command) → IsQuietAt conn number (heard bytes moment (nowhere None id cmd))
quiet_nowhere conn number bytes moment id cmd = record { cmds = refl; away = refl; asks = refl; starts = refl }

pub quiet_asked : (conn number : ℕ) (bytes : List ℕ) (moment other : ℕ) (id : List ℕ) (cmd : Command) → other ≢ number → IsQuietAt conn number (heard bytes moment (nowhere (Some other) id cmd))
quiet_asked conn number bytes moment other id cmd ne =
    let test : eqb other number ≡ false = ne_eqb other number ne in
    record { cmds = refl; away = refl; asks = ap (λ (b : Bool). if b then id ∷ [] else []) test; starts = refl }

-- ---- what an act gives at its own place

pub cmds_here : (conn number : ℕ) (bytes : List ℕ) (moment : ℕ) (id : List ℕ) (cmd : Command) (badge : Badge) (ended : Option Ending) → room_of conn number (heard bytes moment (in_room number id cmd badge ended)) ≡ Play (room_entry conn badge moment cmd) ∷ []
cmds_here conn number bytes moment id cmd badge ended = ap (λ (b : Bool). if b then Play (room_entry conn badge moment cmd) ∷ [] else []) (eq-eqb number number refl)

pub joins_here : (number : ℕ) (bytes : List ℕ) (moment : ℕ) (id : List ℕ) (cmd : Command) (badge : Badge) (ended : Option Ending) → is_at number (heard bytes moment (in_room number id cmd badge ended)) ≡ true
joins_here number bytes moment id cmd badge ended = eq-eqb number number refl

pub starts_here : (conn : ℕ) (bytes : List ℕ) (moment : ℕ) (cmd : HallCmd) (badge : Option Badge) (start : Start) (number : ℕ) → number ≡ 15 + start.number
    → (room_of conn number (heard bytes moment (in_hall cmd badge (Some start))) ≡ Begin start ∷ []) × (begins_by number (heard bytes moment (in_hall cmd badge (Some start))) ≡ start ∷ [])
starts_here conn bytes moment cmd badge start number e =
    let test : eqb (15 + start.number) number ≡ true = eq-eqb (15 + start.number) number (sym e) in
    (ap (λ (b : Bool). if b then Begin start ∷ [] else []) test, ap (λ (b : Bool). if b then start ∷ [] else []) test)

pub asks_here : (number : ℕ) (bytes : List ℕ) (moment : ℕ) (id : List ℕ) (cmd : Command) → asked_by number (heard bytes moment (nowhere (Some number) id cmd)) ≡ id ∷ []
asks_here number bytes moment id cmd = ap (λ (b : Bool). if b then id ∷ [] else []) (eq-eqb number number refl)

-- ---- a room that is held

-- one act more, at which the place wasn't looked at yet
pub room_on : (hub : Hub) (conn : ℕ) (acts : List Act) (a : Act) (ss : List Sending) (id : List ℕ) (k : RoomPass) → since k.number acts ≢ [] → RoomSits hub conn acts (length acts) ss id k → RoomSits hub conn (acts ++ a ∷ []) (length acts) ss id k
room_on hub conn acts a ss id k joined s =
    let more : length (acts ++ a ∷ []) ≡ length acts + 1 = length-append acts (a ∷ []) in
    let longer : length (since k.number (acts ++ a ∷ [])) ≡ length (since k.number acts) + 1 = ap length (since_more k.number acts a joined) ∙ length-append (since k.number acts) (a ∷ []) in
    let count : length k.pass.1.looks + (length acts - length acts) ≡ length (since k.number acts) = s.count in
    let first : length acts - length (since k.number acts) + 1 ≡ length (acts ++ a ∷ []) - length (since k.number (acts ++ a ∷ [])) + 1 = omega arith in
    record {
      count = omega arith;
      looks = subst (λ (n : ℕ). AreLooksAnswered (Shows conn (site_of hub k.number)) (commands k.pass.1.seen) (Some id) (Some k.number) ss n k.pass.1.looks) first s.looks;
      named = s.named;
    }

-- the act that joins it
pub room_joins : (hub : Hub) (conn : ℕ) (acts : List Act) (a : Act) (ss : List Sending) (id : List ℕ) (k : RoomPass) → since k.number acts ≡ [] → is_at k.number a ≡ true → RoomSits hub conn acts (length acts) ss id k → RoomSits hub conn (acts ++ a ∷ []) (length acts) ss id k
room_joins hub conn acts a ss id k none here s =
    let more : length (acts ++ a ∷ []) ≡ length acts + 1 = length-append acts (a ∷ []) in
    let one : length (since k.number (acts ++ a ∷ [])) ≡ 1 = ap length (since_here k.number acts a here none) in
    let zero : length (since k.number acts) ≡ 0 = ap length none in
    let count : length k.pass.1.looks + (length acts - length acts) ≡ length (since k.number acts) = s.count in
    let bare : k.pass.1.looks ≡ [] = no_length k.pass.1.looks (omega arith) in
    record {
      count = omega arith;
      looks = subst (λ (l : List ℕ). AreLooksAnswered (Shows conn (site_of hub k.number)) (commands k.pass.1.seen) (Some id) (Some k.number) ss (length (acts ++ a ∷ []) - length (since k.number (acts ++ a ∷ [])) + 1) l) (sym bare) tt;
      named = s.named;
    }
  where
    no_length : (l : List ℕ) → length l ≡ 0 → l ≡ []
    no_length [] e = refl
    no_length (x ∷ l) e = absurd (omega arith)

pub since_still : (number : ℕ) (acts : List Act) (a : Act) → since number acts ≢ [] → since number (acts ++ a ∷ []) ≢ []
since_still number acts a ne e = absurd (let l = ap length (sym (since_more number acts a ne) ∙ e) in let m = length-append (since number acts) (a ∷ []) in omega arith)

-- ---- answers of acts

pub given_more : (hub : Hub) (conn : ℕ) (done acts : List Act) (a : Act) (h : HallPass) (rooms : List RoomPass) → AreGiven hub conn done acts h rooms → Gave hub conn (done ++ acts) a h rooms → AreGiven hub conn done (acts ++ a ∷ []) h rooms
given_more hub conn done [] a h rooms are gave = (subst (λ (l : List Act). Gave hub conn l a h rooms) (append-nil done) gave, tt)
given_more hub conn done (x ∷ acts) a h rooms are gave = (are.0, given_more hub conn (done ++ x ∷ []) acts a h rooms are.1 (subst (λ (l : List Act). Gave hub conn l a h rooms) (sym (append_assoc done (x ∷ []) acts)) gave))

pub given_parts : (hub : Hub) (conn : ℕ) (done acts : List Act) (a : Act) (h : HallPass) (rooms : List RoomPass) → AreGiven hub conn done (acts ++ a ∷ []) h rooms → AreGiven hub conn done acts h rooms × Gave hub conn (done ++ acts) a h rooms
given_parts hub conn done [] a h rooms g = (tt, subst (λ (l : List Act). Gave hub conn l a h rooms) (sym (append-nil done)) g.0)
given_parts hub conn done (x ∷ acts) a h rooms g =
    let rest = given_parts hub conn (done ++ x ∷ []) acts a h rooms g.1 in
    ((g.0, rest.0), subst (λ (l : List Act). Gave hub conn l a h rooms) (append_assoc done (x ∷ []) acts) rest.1)
