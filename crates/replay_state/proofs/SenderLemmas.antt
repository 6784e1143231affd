-- Whose the entries of a line are.
use Rattle.std.proofs.Common.{◌≡◌, ℕ, List, [], ◌∷◌, ◌+◌, length, None, IfSome, refl, sym, subst, arith}
use Rattle.ps_session.specs.Sessions.{Record as Session}
use Rattle.ps_room.proofs.SilenceLemmas.{IsUpTo}
use Rattle.replay_script.specs.declared.item.Item.{Item}
use Rattle.replay_script.specs.declared.item.Item.TheVariants.{Nothing, Moment, Group, Open, Send, Close}
use Rattle.replay_script.specs.Scripts.{Seen, fault_of}
use Rattle.replay_state.specs.declared.place.Placed.{Placed}
use Rattle.replay_state.specs.Nows.{Now}
use Rattle.replay_state.specs.Entries.{quits, text_entry, State, sent, closed, entries_in, Run, state_of, line_in}
use Rattle.replay_state.proofs.CountLemmas.{opens_next, sends_open, closes_open, sent_sessions, closed_sessions, open_sessions}
use Rattle.replay_state.proofs.LineLemmas.{AllOf, quits_all, text_some, sent_all, closed_all}
use Rattle.replay_state.proofs.WorldSilence.{sender}

-- ---- entries of one connection

abbrev IsBy : ℕ → Placed → Type 0
IsBy conn p = sender p ≡ conn

quits_by : (moment : ℕ) (n : Now) (conn : ℕ) → AllOf (IsBy conn) (quits moment n conn)
quits_by moment n conn = quits_all (IsBy conn) moment n conn (λ badge k lt. refl) (λ badge k lt. refl) refl

text_by : (moment : ℕ) (n : Now) (conn : ℕ) (text : List ℕ) (s : Session) → IfSome (text_entry moment n conn text s) (IsBy conn)
text_by moment n conn text s = text_some (IsBy conn) moment n conn (λ cmd a. refl) (λ id number badge cmd is. refl) text s

sent_by_one : (s : State) (conn : ℕ) (text : List ℕ) → AllOf (IsBy conn) (entries_in (sent s conn text).happenings)
sent_by_one s conn text = sent_all (IsBy conn) s conn text (text_by s.moment s.now conn text) (λ number winner. refl) (quits_by s.moment s.now conn)

closed_by_one : (s : State) (conn : ℕ) → AllOf (IsBy conn) (entries_in (closed s conn).happenings)
closed_by_one s conn = closed_all (IsBy conn) s conn (quits_by s.moment s.now conn)

-- ---- lines

-- each of these entries is of one of the first n connections
abbrev pub AreUpTo : ℕ → List Placed → Type 0
AreUpTo n [] = Unit {0}
AreUpTo n (p ∷ ps) = IsUpTo n (sender p) × AreUpTo n ps

by_up_to : (n conn : ℕ) (ps : List Placed) → IsUpTo n conn → AllOf (IsBy conn) ps → AreUpTo n ps
by_up_to n conn [] up by = tt
by_up_to n conn (p ∷ ps) up by = (subst (IsUpTo n) (sym by.0) up, by_up_to n conn ps up by.1)

-- a line that opens the next connection, and a text of one of those that have opened

pub open_up_to : (r : Run) (conn : ℕ) → conn ≡ length r.sessions + 1 → AreUpTo (length (line_in r (Open conn)).sessions) (entries_in (line_in r (Open conn)).happenings)
open_up_to r conn number = let more = open_sessions (state_of r) conn in ((omega (arith, number), omega (arith, number, more)), tt)

pub send_up_to : (r : Run) (conn : ℕ) (text : List ℕ) → IsUpTo (length r.sessions) conn → AreUpTo (length (line_in r (Send conn text)).sessions) (entries_in (line_in r (Send conn text)).happenings)
send_up_to r conn text up =
    let same = sent_sessions (state_of r) conn text in
    by_up_to (length (line_in r (Send conn text)).sessions) conn (entries_in (line_in r (Send conn text)).happenings) (up.0, omega (arith, up.1, same)) (sent_by_one (state_of r) conn text)

-- the entries of a line in order are of connections that have opened with it
pub line_up_to : (s : Seen) (r : Run) (i : Item) → fault_of s i ≡ None → length s.opened ≡ length r.sessions → AreUpTo (length (line_in r i).sessions) (entries_in (line_in r i).happenings)
line_up_to s r Nothing a e = tt
line_up_to s r (Moment n) a e = tt
line_up_to s r (Group symbol id) a e = tt
line_up_to s r (Open conn) a e =
    let number = opens_next s conn a in
    open_up_to r conn (omega (arith, number, e))
line_up_to s r (Send conn text) a e =
    let within = sends_open s conn text a in
    send_up_to r conn text (within.0, omega (arith, within.1, e))
line_up_to s r (Close conn) a e =
    let within = closes_open s conn a in
    let same = closed_sessions (state_of r) conn in
    by_up_to (length (line_in r (Close conn)).sessions) conn (entries_in (line_in r (Close conn)).happenings) (within.0, omega (arith, within.1, e, same)) (closed_by_one (state_of r) conn)
