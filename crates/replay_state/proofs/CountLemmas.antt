-- How many connections the lines of a script have opened.
use Rattle.std.proofs.Common.{◌≡◌, ℕ, zero, suc, ◌+◌, ◌-◌, ◌≤◌, ◌==◌, Bool, true, false, cond, List, [], ◌∷◌, ◌++◌, length, map, Option, Some, None, refl, sym, ap, ◌∙◌, arith}
use Rattle.std.specs.Prelude.{slice_get, unwrap_or, nat_le}
use Rattle.std.proofs.lemmas.Bool.Decides.{nat_tests}
use Rattle.std.proofs.lemmas.List.{length-append, length-set}
use Rattle.std.proofs.lemmas.Option.{slice_get_within}
use Rattle.std.specs.Str.Lines.{lines}
use Rattle.ps_base.specs.Limits.{most_text}
use Rattle.replay_script.specs.declared.item.Item.{Item}
use Rattle.replay_script.specs.declared.item.Item.TheVariants.{Nothing, Moment, Group, Open, Send, Close}
use Rattle.replay_script.specs.Scripts.{Seen, start, is_open, fault_of, next, seen_after, AreItems, IsScript}
use Rattle.ps_session.specs.Sessions.{Record as Session, begun}
use Rattle.replay_state.specs.declared.place.Happening.{Happening}
use Rattle.replay_state.specs.declared.place.Happening.TheVariants.{Entry}
use Rattle.replay_state.specs.Setup.{Setup}
use Rattle.replay_state.specs.Entries.{State, idle, sent_by, sent, closed, line_at, session_of, quits, Run, state_of, run_opening, run_after, run_past}
use Rattle.replay_state.specs.Entries as entries

-- ---- the tests of the grammar

-- what both of two tests let through
pub passed : {K : Type 0} (a b : Bool) (k l : K) → cond a (cond b None (Some k)) (Some l) ≡ None → a ≡ true
passed true b k l e = refl
passed false b k l e = absurd cc

pub opens_next : (s : Seen) (n : ℕ) → fault_of s (Open n) ≡ None → n ≡ length s.opened + 1
opens_next s n e = let t = passed (n == length s.opened + 1) (nat_le n 1024) _ _ e in grind (arith, nat_tests)

pub flag_some : (o : Option Bool) → unwrap_or o false ≡ true → o ≡ Some true
flag_some None e = absurd cc
flag_some (Some b) e = ap (λ (x : Bool). Some x) e

is_open_within : (opened : List Bool) (n : ℕ) → is_open opened n ≡ true → (1 ≤ n) × (n ≤ length opened)
is_open_within opened zero e = absurd cc
is_open_within opened (suc n) e = (omega arith, omega (arith, slice_get_within opened n true (flag_some (slice_get opened n) e)))

pub sends_open : (s : Seen) (n : ℕ) (text : List ℕ) → fault_of s (Send n text) ≡ None → (1 ≤ n) × (n ≤ length s.opened)
sends_open s n text e = is_open_within s.opened n (passed (is_open s.opened n) (nat_le (length text) most_text) _ _ e)

flag_passed : {K : Type 0} (a : Bool) (k : K) → cond a None (Some k) ≡ None → a ≡ true
flag_passed true k e = refl
flag_passed false k e = absurd cc

pub closes_open : (s : Seen) (n : ℕ) → fault_of s (Close n) ≡ None → (1 ≤ n) × (n ≤ length s.opened)
closes_open s n e = is_open_within s.opened n (flag_passed (is_open s.opened n) _ e)

-- ---- the sessions of a line

sent_sessions_by : (s : State) (conn : ℕ) (text : List ℕ) (o : Option Session) → length (sent_by s conn text o).sessions ≡ length s.sessions
sent_sessions_by s conn text None = refl
sent_sessions_by s conn text (Some session) = length-set s.sessions (conn - 1) _

sent_sessions_if : (s : State) (conn : ℕ) (text : List ℕ) (online : Bool) → length (cond online (sent_by s conn text (session_of conn s.sessions)) (idle s.sessions)).sessions ≡ length s.sessions
sent_sessions_if s conn text true = sent_sessions_by s conn text (session_of conn s.sessions)
sent_sessions_if s conn text false = refl

pub sent_sessions : (s : State) (conn : ℕ) (text : List ℕ) → length (sent s conn text).sessions ≡ length s.sessions
sent_sessions s conn text = sent_sessions_if s conn text (entries.is_open conn s.now)

closed_sessions_if : (s : State) (xs : List Happening) (online : Bool) → length (cond online (record { happenings = xs; sessions = s.sessions }) (idle s.sessions)).sessions ≡ length s.sessions
closed_sessions_if s xs true = refl
closed_sessions_if s xs false = refl

pub closed_sessions : (s : State) (conn : ℕ) → length (closed s conn).sessions ≡ length s.sessions
closed_sessions s conn = closed_sessions_if s (map Entry (quits s.moment s.now conn)) (entries.is_open conn s.now)

pub open_sessions : (s : State) (conn : ℕ) → length (line_at s (Open conn)).sessions ≡ length s.sessions + 1
open_sessions s conn = length-append s.sessions (begun conn ∷ [])

-- ---- as many sessions as openings

pub count_next : (s : Seen) (r : Run) (i : Item) → length s.opened ≡ length r.sessions → length (next s i).opened ≡ length (run_after r i).sessions
count_next s r Nothing e = e
count_next s r (Moment n) e = e
count_next s r (Group symbol id) e = e
count_next s r (Open conn) e = length-append s.opened (true ∷ []) ∙ ap (λ (n : ℕ). n + 1) e ∙ sym (open_sessions (state_of r) conn)
count_next s r (Send conn text) e = e ∙ sym (sent_sessions (state_of r) conn text)
count_next s r (Close conn) e = length-set s.opened (conn - 1) false ∙ e ∙ sym (closed_sessions (state_of r) conn)

pub count_past : (s : Seen) (r : Run) (is : List Item) → length s.opened ≡ length r.sessions → length (seen_after s is).opened ≡ length (run_past r is).sessions
count_past s r [] e = e
count_past s r (i ∷ is) e = count_past (next s i) (run_after r i) is (count_next s r i e)

-- behind any lines there are as many sessions as connections that opened
pub counts : (s : Setup) (symbols : List ℕ) (is : List Item) → length (seen_after (start symbols) is).opened ≡ length (run_past (run_opening s) is).sessions
counts s symbols is = count_past (start symbols) (run_opening s) is refl

-- ---- a line among others

-- a line of a script is in order behind those before it
pub fault_none : (s : Seen) (ls : List (List ℕ)) (before : List Item) (i : Item) (later : List Item) → AreItems s ls (before ++ i ∷ later) → fault_of (seen_after s before) i ≡ None
fault_none s [] [] i later a = absurd a
fault_none s (line ∷ ls) [] i later a = a.1
fault_none s [] (b ∷ before) i later a = absurd a
fault_none s (line ∷ ls) (b ∷ before) i later a = fault_none (next s b) ls before i later a.2

-- who sends a text in a script has a session behind the lines before it
pub sender_counted : (s : Setup) (symbols bytes : List ℕ) (before : List Item) (conn : ℕ) (text : List ℕ) (later : List Item) → IsScript symbols bytes (before ++ Send conn text ∷ later)
    → (1 ≤ conn) × (conn ≤ length (run_past (run_opening s) before).sessions)
sender_counted s symbols bytes before conn text later script =
    let within = sends_open (seen_after (start symbols) before) conn text (fault_none (start symbols) (lines bytes) before (Send conn text) later script) in
    (within.0, omega (arith, within.1, counts s symbols before))
