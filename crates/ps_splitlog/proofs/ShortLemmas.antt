-- A log that forgets.
use Rattle.std.proofs.Common.{◌≡◌, ◌≤◌, ◌<◌, ℕ, zero, suc, ◌+◌, ◌-◌, Bool, true, false, cond, List, [], ◌∷◌, ◌++◌, length, get_or, take, drop, Option, Some, None, refl, sym, ap, ◌∙◌, append_assoc, ◌⊎◌, inl, inr, arith}
use Rattle.std.specs.Prelude.{nat_lt}
use Rattle.std.specs.List.{filter, filter_map}
use Rattle.std.specs.Option.{option_to_list}
use Rattle.std.proofs.lemmas.Grind.{flat_map-append}
use Rattle.std.proofs.lemmas.List.{append-nil, length-append, length-drop, drop-drop, drop-append-le, take-append-le, take-append-drop, drop_more, take_more, take_all, drop_all}
use Rattle.std.proofs.lemmas.List.Elements.{filter-append, filter_map-append}
use Rattle.std.proofs.lemmas.Bool.Decides.{nat_tests}
use Rattle.ps_view.specs.declared.role.Role.{Role}
use Rattle.ps_splitlog.specs.declared.backlog.BacklogSize.{BacklogSize}
use Rattle.ps_splitlog.specs.declared.backlog.BacklogSize.TheVariants.{All, Last}
use Rattle.ps_splitlog.specs.declared.stored.Stored.{Stored}
use Rattle.ps_splitlog.specs.declared.entry.Joined.{Joined}
use Rattle.ps_splitlog.specs.declared.entry.LogEntry.{LogEntry}
use Rattle.ps_splitlog.specs.Lines.{is_logged_line, shown, shown_lines}
use Rattle.ps_splitlog.specs.Entries.{logged_in, logged_lines, size_of_keep, last_of, join_for, joined_or, message_of}
use Rattle.ps_splitlog.specs.Shorts.{Short, IsShortOf, started, with_entry, gone_of, forgotten, lines_of, fewer, first_of, skipped_of, IsFew, StaysShort, AreShort}

-- ---- lists

abbrev nothing : (X : Type 0) → List X
nothing X = []

drop-none : (X : Type 0) (n : ℕ) → drop n (nothing X) ≡ nothing X
drop-none X zero = refl
drop-none X (suc n) = refl

pub drop-append : {X : Type 0} (n : ℕ) (xs ys : List X) → drop n (xs ++ ys) ≡ drop n xs ++ drop (n - length xs) ys
drop-append zero xs ys = ap (λ k. xs ++ drop k ys) (let none : 0 ≡ 0 - length xs = omega arith in none)
drop-append (suc n) [] ys = ap (λ k. drop k ys) (let same : suc n ≡ suc n - 0 = omega arith in same)
drop-append (suc n) (x ∷ xs) ys = drop-append n xs ys ∙ ap (λ k. drop n xs ++ drop k ys) (let same : n - length xs ≡ suc n - suc (length xs) = omega arith in same)

below : (a b : ℕ) → nat_lt a b ≡ true → a < b
below a b lt = grind (arith, nat_tests, lt)

above : (a b : ℕ) → nat_lt a b ≡ false → b ≤ a
above a b ge = grind (arith, nat_tests, ge)

-- ---- the last lines

pub last_again : {X : Type 0} (size : BacklogSize) (xs ys : List X) → last_of size (last_of size xs ++ ys) ≡ last_of size (xs ++ ys)
last_again All xs ys = refl
last_again (Last m) xs ys =
    let k : ℕ = length xs - m in
    let le : k ≤ length xs = omega arith in
    let whole : drop k xs ++ ys ≡ drop k (xs ++ ys) = sym (drop-append-le k xs ys le) in
    let many : length (xs ++ ys) ≡ length xs + length ys = length-append xs ys in
    let left : length (drop k (xs ++ ys)) ≡ length (xs ++ ys) - k = length-drop k (xs ++ ys) in
    ap (λ zs. drop (length zs - m) zs) whole
    ∙ drop-drop (length (drop k (xs ++ ys)) - m) k (xs ++ ys)
    ∙ ap (λ n. drop n (xs ++ ys)) (let sum : k + (length (drop k (xs ++ ys)) - m) ≡ length (xs ++ ys) - m = omega (arith, many, left) in sum)

last_none : (X : Type 0) (size : BacklogSize) → last_of size (nothing X) ≡ nothing X
last_none X All = refl
last_none X (Last m) = drop-none X (0 - m)

-- the last of the last
pub last_of_last : {X : Type 0} (size most : BacklogSize) (xs : List X) → last_of size (last_of most xs) ≡ last_of (fewer size most) xs
last_of_last All most xs = refl
last_of_last (Last keep) All xs = refl
last_of_last (Last keep) (Last most) xs = twice (nat_lt keep most) refl
  where
    twice : (b : Bool) → nat_lt keep most ≡ b → drop (length (drop (length xs - most) xs) - keep) (drop (length xs - most) xs) ≡ drop (length xs - cond b keep most) xs
    twice b is =
        let left : length (drop (length xs - most) xs) ≡ length xs - (length xs - most) = length-drop (length xs - most) xs in
        drop-drop (length (drop (length xs - most) xs) - keep) (length xs - most) xs
        ∙ ap (λ n. drop n xs) (sums b is left)
      where
        sums : (b : Bool) → nat_lt keep most ≡ b → length (drop (length xs - most) xs) ≡ length xs - (length xs - most) → (length xs - most) + (length (drop (length xs - most) xs) - keep) ≡ length xs - cond b keep most
        sums true lt left = omega (arith, left, below keep most lt)
        sums false ge left = omega (arith, left, above keep most ge)

-- the last of two lists
pub recent : (conn : ℕ) (role : Role) (size : BacklogSize) (from skip : ℕ) (backlog more : List Stored) → from ≡ first_of size (length backlog) (length more) → skip ≡ skipped_of size (length more)
    → shown_lines conn role (drop from backlog) ++ shown_lines conn role (drop skip more) ≡ shown_lines conn role (last_of size (backlog ++ more))
recent conn role size from skip backlog more f s =
    sym (filter_map-append (shown conn role) (drop from backlog) (drop skip more))
    ∙ ap (shown_lines conn role) (ap (λ n. drop n backlog ++ drop skip more) f ∙ ap (λ n. drop (first_of size (length backlog) (length more)) backlog ++ drop n more) s ∙ by size)
  where
    by : (size : BacklogSize) → drop (first_of size (length backlog) (length more)) backlog ++ drop (skipped_of size (length more)) more ≡ last_of size (backlog ++ more)
    by All = refl
    by (Last keep) =
        let many : length (backlog ++ more) ≡ length backlog + length more = length-append backlog more in
        let k : ℕ = length (backlog ++ more) - keep in
        ap (λ (x : List Stored). x ++ drop (length more - keep) more) (sym (same (nat_lt keep (length more)) refl))
        ∙ ap (λ n. drop k backlog ++ drop n more) (let rest : length more - keep ≡ k - length backlog = omega (arith, many) in rest)
        ∙ sym (drop-append k backlog more)
      where
        same : (b : Bool) → nat_lt keep (length more) ≡ b → drop (length (backlog ++ more) - keep) backlog ≡ drop (length backlog - (keep - length more)) backlog
        same false ge = ap (λ n. drop n backlog) (let is : length (backlog ++ more) - keep ≡ length backlog - (keep - length more) = omega (arith, length-append backlog more, above keep (length more) ge) in is)
        same true lt =
            drop_all (length (backlog ++ more) - keep) backlog (omega (arith, length-append backlog more, below keep (length more) lt))
            ∙ sym (drop_all (length backlog - (keep - length more)) backlog (omega (arith, below keep (length more) lt)))

-- ---- the code's loops

-- one entry more
pub lines_more : (log : List LogEntry) (i : ℕ) (d : LogEntry) → i < length log → logged_lines (take (i + 1) log) ≡ logged_lines (take i log) ++ logged_in (get_or log i d)
lines_more log i d lt =
    ap logged_lines (take_more log i d lt)
    ∙ flat_map-append logged_in (take i log) (get_or log i d ∷ [])
    ∙ ap (λ ls. logged_lines (take i log) ++ ls) (append-nil (logged_in (get_or log i d)))

pub count_more : (log : List LogEntry) (i : ℕ) (d : LogEntry) → i < length log → length (logged_lines (take (i + 1) log)) ≡ length (logged_lines (take i log)) + length (logged_in (get_or log i d))
count_more log i d lt = ap length (lines_more log i d lt) ∙ length-append (logged_lines (take i log)) (logged_in (get_or log i d))

pub line_more : (lines : List Stored) (i : ℕ) (d : Stored) → i < length lines → filter is_logged_line (take (i + 1) lines) ≡ filter is_logged_line (take i lines) ++ filter is_logged_line (get_or lines i d ∷ [])
line_more lines i d lt = ap (filter is_logged_line) (take_more lines i d lt) ∙ filter-append is_logged_line (take i lines) (get_or lines i d ∷ [])

-- what is shown past so many lines, and then past as many as are left
pub past_more : (conn : ℕ) (role : Role) (skip left : ℕ) (first next : List Stored) (old texts now : List (List ℕ)) → left ≡ skip - length first → texts ≡ old ++ shown_lines conn role (drop skip first) → now ≡ texts ++ shown_lines conn role (drop left next)
    → now ≡ old ++ shown_lines conn role (drop skip (first ++ next))
past_more conn role skip left first next old texts now l t n =
    n ∙ ap (λ (x : List (List ℕ)). x ++ shown_lines conn role (drop left next)) t
    ∙ append_assoc old (shown_lines conn role (drop skip first)) (shown_lines conn role (drop left next))
    ∙ ap (λ (x : List (List ℕ)). old ++ x) (
    sym (filter_map-append (shown conn role) (drop skip first) (drop left next))
    ∙ ap (shown_lines conn role) (ap (λ k. drop skip first ++ drop k next) l ∙ sym (drop-append skip first next)))

pub left_more : (skip left now : ℕ) (first next : List Stored) → left ≡ skip - length first → now ≡ left - length next → now ≡ skip - length (first ++ next)
left_more skip left now first next l n = let many : length (first ++ next) ≡ length first + length next = length-append first next in omega (arith, l, n, many)

-- ---- what is short of a log

front_of : (log : List LogEntry) (n : ℕ) (h : LogEntry) (hs : List LogEntry) → h ∷ hs ≡ drop n log → n < length log
front_of log n h hs is = let many : length (drop n log) ≡ length log - n = length-drop n log in let some : suc (length hs) ≡ length (drop n log) = ap length is in omega (arith, many, some)

forgot : (log : List LogEntry) (most : BacklogSize) (backlog : List Stored) (n : ℕ) (kept : List LogEntry) → backlog ≡ last_of most (logged_lines (take n log)) → kept ≡ drop n log → n ≤ length log → IsShortOf log (gone_of most backlog n kept)
forgot log most backlog n [] b k le = record { backlog = b; kept = k; gone = le }
forgot log most backlog n (h ∷ hs) b k le =
    let lt : n < length log = front_of log n h hs k in
    let here : h ∷ hs ≡ get_or log n h ∷ drop (n + 1) log = k ∙ drop_more log n h lt in
    let head : h ≡ get_or log n h = ap (λ (l : List LogEntry). get_or l 0 h) here in
    record {
      backlog =
          ap (λ (ls : List Stored). last_of most (ls ++ logged_in h)) b
          ∙ last_again most (logged_lines (take n log)) (logged_in h)
          ∙ ap (last_of most) (ap (λ (x : LogEntry). logged_lines (take n log) ++ logged_in x) head ∙ sym (lines_more log n h lt))
          ∙ ap (λ i. last_of most (logged_lines (take i log))) (let next : n + 1 ≡ suc n = omega arith in next);
      kept = ap (drop 1) here ∙ ap (λ i. drop i log) (let next : n + 1 ≡ suc n = omega arith in next);
      gone = omega (arith, lt);
    }

pushed : (log : List LogEntry) (s : Short) (h : LogEntry) → IsShortOf log s → IsShortOf (log ++ h ∷ []) (with_entry h s)
pushed log s h is = record {
  backlog = is.backlog ∙ ap (λ (hs : List LogEntry). last_of s.most (logged_lines hs)) (sym (take-append-le s.gone log (h ∷ []) is.gone));
  kept = ap (λ (hs : List LogEntry). hs ++ h ∷ []) is.kept ∙ sym (drop-append-le s.gone log (h ∷ []) is.gone);
  gone = let longer : length (log ++ h ∷ []) ≡ length log + 1 = length-append log (h ∷ []) in omega (arith, longer, is.gone);
}

pub lines_are : (log : List LogEntry) (s : Short) → IsShortOf log s → lines_of s ≡ last_of s.most (logged_lines log)
lines_are log s is =
    ap (λ (ls : List Stored). last_of s.most (ls ++ logged_lines s.kept)) is.backlog
    ∙ last_again s.most (logged_lines (take s.gone log)) (logged_lines s.kept)
    ∙ ap (λ (hs : List LogEntry). last_of s.most (logged_lines (take s.gone log) ++ logged_lines hs)) is.kept
    ∙ ap (last_of s.most) (sym (flat_map-append logged_in (take s.gone log) (drop s.gone log)) ∙ ap logged_lines (take-append-drop s.gone log))

-- who joins is sent no more lines than these are
pub few_message : (conn : ℕ) (role : Role) (most : BacklogSize) (before : List Stored) (h : LogEntry) → IsFew most h → message_of conn role (last_of most before) h ≡ message_of conn role before h
few_message conn role most before h few = by (join_for conn h) refl
  where
    by : (o : Option Joined) → join_for conn h ≡ o → joined_or conn o (last_of most before) (shown_lines conn role h.lines) ≡ joined_or conn o before (shown_lines conn role h.lines)
    by None is = refl
    by (Some j) is = ap (λ (ls : List Stored). j.head ++ shown_lines conn j.role ls ++ option_to_list j.tail) (last_of_last (size_of_keep j.keep) most before ∙ ap (λ (size : BacklogSize). last_of size before) (few conn j is))

pub are_short : AreShort
are_short = record {
  start = λ most. record { backlog = sym (last_none Stored most); kept = refl; gone = omega arith };
  next = λ log s is. record {
    pushed = λ h. pushed log s h is;
    forgotten = forgot log s.most s.backlog s.gone s.kept is.backlog is.kept is.gone;
    message = λ conn role h few. ap (λ (ls : List Stored). message_of conn role ls h) (lines_are log s is) ∙ few_message conn role s.most (logged_lines log) h few;
  };
}
