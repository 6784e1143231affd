-- Reading a log at once, and as it grows.
use Rattle.std.proofs.Common.{◌≡◌, ℕ, ◌+◌, ◌≤◌, List, [], ◌∷◌, ◌++◌, length, take, drop, refl, sym, ap, ◌∙◌, append_assoc, arith}
use Rattle.std.proofs.lemmas.List.{append-nil, length-append, take-append-le, drop-append-le, take-append-drop}
use Rattle.std.proofs.Math.Seq.{take-append_seam, drop-append_seam}
use Rattle.ps_view.specs.declared.role.Role.{Role}
use Rattle.ps_splitlog.specs.declared.entry.LogEntry.{LogEntry}
use Rattle.ps_splitlog.specs.declared.cursor.Cursor.{Cursor}
use Rattle.ps_splitlog.specs.Entries.{changed, logged_lines, message_of}
use Rattle.ps_splitlog.specs.Reads.{messages_of, role_past, first_cursor, cursor_past, read_past, read_each, ReadsCompose, ReadsAgree}
use Rattle.ps_base.specs.Messages.{sent}

messages-append : (conn : ℕ) (role : Role) (earlier xs ys : List LogEntry) → messages_of conn role earlier (xs ++ ys) ≡ messages_of conn role earlier xs ++ messages_of conn (role_past conn role xs) (earlier ++ xs) ys
messages-append conn role earlier [] ys = ap (λ hs. messages_of conn role hs ys) (sym (append-nil earlier))
messages-append conn role earlier (h ∷ xs) ys =
    let m : List (List (List ℕ)) = sent (message_of conn role (logged_lines earlier) h) in
    let next : Role = changed conn h.roles role in
    ap (λ ms. m ++ ms) (messages-append conn next (earlier ++ h ∷ []) xs ys)
    ∙ sym (append_assoc m (messages_of conn next (earlier ++ h ∷ []) xs) (messages_of conn (role_past conn next xs) ((earlier ++ h ∷ []) ++ xs) ys))
    ∙ ap (λ hs. (m ++ messages_of conn next (earlier ++ h ∷ []) xs) ++ messages_of conn (role_past conn next xs) hs ys) (append_assoc earlier (h ∷ []) xs)

role_past-append : (conn : ℕ) (role : Role) (xs ys : List LogEntry) → role_past conn role (xs ++ ys) ≡ role_past conn (role_past conn role xs) ys
role_past-append conn role [] ys = refl
role_past-append conn role (h ∷ xs) ys = role_past-append conn (changed conn h.roles role) xs ys

messages_twice : (c : Cursor) (log more : List LogEntry) → c.at ≤ length log → read_past c (log ++ more) ≡ read_past c log ++ read_past (cursor_past c log) (log ++ more)
messages_twice c log more le =
    let earlier : List LogEntry = take c.at log in
    let between : List LogEntry = drop c.at log in
    ap (λ hs. messages_of c.conn c.role hs (drop c.at (log ++ more))) (take-append-le c.at log more le)
    ∙ ap (messages_of c.conn c.role earlier) (drop-append-le c.at log more le)
    ∙ messages-append c.conn c.role earlier between more
    ∙ ap (λ hs. read_past c log ++ messages_of c.conn (role_past c.conn c.role between) hs more) (take-append-drop c.at log ∙ sym (take-append_seam log more))
    ∙ ap (λ hs. read_past c log ++ messages_of c.conn (role_past c.conn c.role between) (take (length log) (log ++ more)) hs) (sym (drop-append_seam log more))

role_twice : (c : Cursor) (log more : List LogEntry) → c.at ≤ length log → role_past c.conn c.role (drop c.at (log ++ more)) ≡ role_past c.conn (role_past c.conn c.role (drop c.at log)) (drop (length log) (log ++ more))
role_twice c log more le =
    ap (role_past c.conn c.role) (drop-append-le c.at log more le)
    ∙ role_past-append c.conn c.role (drop c.at log) more
    ∙ ap (role_past c.conn (role_past c.conn c.role (drop c.at log))) (sym (drop-append_seam log more))

pub reads_compose : ReadsCompose
reads_compose c log more le = record {
  messages = messages_twice c log more le;
  end = λ i. record {
    conn = c.conn;
    at = length (log ++ more);
    role = role_twice c log more le i;
  };
}

-- ---- after each entry

each_is : (c : Cursor) (log hs : List LogEntry) → c.at ≡ length log → read_each c log hs ≡ read_past c (log ++ hs)
each_is c log [] at =
    sym (ap (λ xs. messages_of c.conn c.role (take c.at (log ++ [])) xs) (ap (λ n. drop n (log ++ [])) at ∙ drop-append_seam log []))
each_is c log (h ∷ hs) at =
    let grown : List LogEntry = log ++ h ∷ [] in
    let longer : length grown ≡ length log + 1 = length-append log (h ∷ []) in
    let le : c.at ≤ length grown = omega (arith, at, longer) in
    ap (λ ms. read_past c grown ++ ms) (each_is (cursor_past c grown) grown hs refl)
    ∙ sym (messages_twice c grown hs le)
    ∙ ap (read_past c) (append_assoc log (h ∷ []) hs)

pub reads_agree : ReadsAgree
reads_agree conn log = each_is (first_cursor conn) [] log refl
