-- A text of a script can be read, and is taken, unless its place has as many as it takes.
use Rattle.std.proofs.Common.{◌≡◌, ℕ, suc, ◌+◌, ◌<◌, ◌≤◌, Bool, true, false, cond, List, [], ◌∷◌, ◌++◌, length, get_or, drop, Option, Some, None, Result, Ok, Err, refl, sym, ap, ◌∙◌, subst, arith, append_assoc}
use Rattle.std.specs.Prelude.{nat_le}
use Rattle.std.specs.Str.{IsUtf8}
use Rattle.std.proofs.Math.Seq.{get_or-append_seam, drop-append_seam}
use Rattle.std.proofs.lemmas.Bool.{le-ltb}
use Rattle.std.proofs.lemmas.Bool.Decides.{nat_tests}
use Rattle.std.proofs.lemmas.List.{length-append}
use Rattle.std.proofs.lemmas.Str.{is_utf8-from_IsUtf8, IsUtf8-drop, IsCharBoundary-after_ascii}
use Rattle.ps_base.specs.Numbers.{counted}
use Rattle.ps_base.specs.Limits.{most_text}
use Rattle.ps_lines.specs.Clients.{text_of, barred, readable, client}
use Rattle.ps_lines.specs.Commands.{command}
use Rattle.ps_lines.specs.Parts.{at_first}
use Rattle.ps_lines.specs.declared.client.ClientFault.{ClientFault}
use Rattle.ps_lines.specs.declared.client.ClientFault.TheVariants as client_faults
use Rattle.ps_lines.specs.declared.command.BadWhy.TheVariants as bad
use Rattle.ps_lines.specs.declared.order.Order.{Order}
use Rattle.ps_session.specs.Sessions.{Record, is_full}
use Rattle.ps_session.specs.Routes.{bad_order, by_command, by_client, order_of, place_of, limited, within_limit, taken}
use Rattle.ps_session.specs.declared.session.TakeFault.{TakeFault}
use Rattle.ps_session.specs.declared.session.TakeFault.TheVariants.{BadText, Limit, NoMemory}
use Rattle.replay_script.specs.declared.item.Item.{Item}
use Rattle.replay_script.specs.declared.item.Item.TheVariants.{Send}
use Rattle.replay_script.specs.Items.{IsSend}
use Rattle.replay_script.specs.Scripts.{Seen, is_open, fault_of, next, seen_after, AreItems, IsLine}
use Rattle.replay_state.proofs.CountLemmas.{fault_none}

-- ---- a script's text is UTF-8, and not too long

-- the text's part of a line is UTF-8, since what stands before it ends with a space
pub send_utf8 : (line : List ℕ) (n : ℕ) (text : List ℕ) → IsUtf8 line → IsSend line n text → IsUtf8 text
send_utf8 line n text utf8 send =
    let front : List ℕ = 62 ∷ (send.digits ++ 32 ∷ []) in
    let whole : line ≡ front ++ text = send.spelled ∙ ap (λ (x : List ℕ). 62 ∷ x) (sym (append_assoc send.digits (32 ∷ []) text)) in
    let space : get_or line (suc (length send.digits)) 0 ≡ 32 = ap (λ (x : List ℕ). get_or x (suc (length send.digits)) 0) send.spelled ∙ get_or-append_seam send.digits 32 text 0 in
    let many : length front ≡ suc (length send.digits) + 1 = omega (arith, length-append send.digits (32 ∷ [])) in
    let long : suc (length send.digits) < length line = omega (arith, ap length whole, length-append front text, many) in
    let rest : drop (suc (length send.digits) + 1) line ≡ text = ap (λ (x : List ℕ). drop (suc (length send.digits) + 1) x) whole ∙ ap (λ (k : ℕ). drop k (front ++ text)) (sym many) ∙ drop-append_seam front text in
    subst IsUtf8 rest (IsUtf8-drop line (suc (length send.digits) + 1) utf8 (IsCharBoundary-after_ascii line (suc (length send.digits)) utf8 long (omega (arith, space))))

line_of : (s : Seen) (ls : List (List ℕ)) (before : List Item) (i : Item) (later : List Item) → AreItems s ls (before ++ i ∷ later) → (line : List ℕ) × IsLine line i
line_of s [] [] i later a = absurd a
line_of s (line ∷ ls) [] i later a = (line, a.0)
line_of s [] (b ∷ before) i later a = absurd a
line_of s (line ∷ ls) (b ∷ before) i later a = line_of (next s b) ls before i later a.2

pub passed_second : {K : Type 0} (a b : Bool) (k l : K) → cond a (cond b None (Some k)) (Some l) ≡ None → b ≡ true
passed_second true true k l e = refl
passed_second true false k l e = absurd cc
passed_second false b k l e = absurd cc

sends_short : (s : Seen) (conn : ℕ) (text : List ℕ) → fault_of s (Send conn text) ≡ None → length text ≤ most_text
sends_short s conn text e = let t = passed_second (is_open s.opened conn) (nat_le (length text) most_text) _ _ e in grind (arith, nat_tests)

pub text_utf8 : (s : Seen) (ls : List (List ℕ)) (before : List Item) (conn : ℕ) (text : List ℕ) (later : List Item) → AreItems s ls (before ++ Send conn text ∷ later) → IsUtf8 text
text_utf8 s ls before conn text later a = let found = line_of s ls before (Send conn text) later a in send_utf8 found.0 conn text found.1.utf8 found.1.item

pub text_short : (s : Seen) (ls : List (List ℕ)) (before : List Item) (conn : ℕ) (text : List ℕ) (later : List Item) → AreItems s ls (before ++ Send conn text ∷ later) → length text ≤ most_text
text_short s ls before conn text later a = sends_short (seen_after s before) conn text (fault_none s ls before (Send conn text) later a)

-- ---- what such a text is taken for

abbrev IsRead : Result (List ℕ × List ℕ) ClientFault → Type 0
IsRead (Ok message) = Unit {0}
IsRead (Err client_faults.NoBar) = Unit {0}
IsRead (Err other) = ⊥

read_barred : (o : Option (List ℕ × List ℕ)) → IsRead (barred o)
read_barred None = tt
read_barred (Some parts) = tt

text_there : (text : List ℕ) → IsUtf8 text → text_of text ≡ Some text
unfolding text_of
text_there text utf8 = ap (λ (b : Bool). cond b (Some text) None) (is_utf8-from_IsUtf8 text utf8)

read_text : (text : List ℕ) → IsUtf8 text → IsRead (readable (text_of text))
read_text text utf8 = subst (λ (o : Option (List ℕ)). IsRead (readable o)) (sym (text_there text utf8)) (read_barred (at_first 124 text))

client_read : (text : List ℕ) → IsUtf8 text → length text ≤ most_text → IsRead (client text)
unfolding client
client_read text utf8 le = subst (λ (b : Bool). IsRead (cond b (Err (client_faults.Long (counted (length text)))) (readable (text_of text)))) (sym (le-ltb most_text (length text) le)) (read_text text utf8)

-- an order, or a place's limit
abbrev pub IsTaken : Result Order TakeFault → Type 0
IsTaken (Ok order) = Unit {0}
IsTaken (Err BadText) = ⊥
IsTaken (Err (Limit place)) = Unit {0}
IsTaken (Err NoMemory) = ⊥

limited_taken : (full : Bool) (order : Order) → IsTaken (limited full order)
limited_taken true order = tt
limited_taken false order = tt

order_taken : (r : Record) (order : Order) → IsTaken (within_limit r (Some order))
order_taken r order = limited_taken (is_full (place_of order) r) order

read_taken : (r : Record) (read : Result (List ℕ × List ℕ) ClientFault) → IsRead read → IsTaken (within_limit r (by_client r.badge r read))
read_taken r (Ok message) h = order_taken r (by_command r.badge r message.0 (command message.1))
read_taken r (Err client_faults.NoBar) h = order_taken r (bad_order bad.NoBar)
read_taken r (Err other) h = absurd h

pub text_taken : (r : Record) (text : List ℕ) → IsUtf8 text → length text ≤ most_text → IsTaken (taken r text)
unfolding order_of
text_taken r text utf8 le = read_taken r (client text) (client_read text utf8 le)
