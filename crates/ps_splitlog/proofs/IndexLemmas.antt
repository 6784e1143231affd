-- The index of a log.
use Rattle.std.proofs.Common.{◌≡◌, ℕ, suc, ◌+◌, ◌-◌, Bool, true, false, cond, List, [], ◌∷◌, ◌++◌, length, get_or, set, map, take, drop, Option, Some, refl, sym, ap, subst, ◌∙◌, append_assoc, ◌⊎◌, inl, inr, arith}
use Rattle.std.specs.List.{filter, filter_map, cons_option, slice_get}
use Rattle.std.proofs.lemmas.Grind.{flat_map-append}
use Rattle.std.proofs.lemmas.List.{append-nil, map-append, length-map, length-append, take-map, drop-map}
use Rattle.std.proofs.Math.Seq.{take-length, take-append_seam, get_or-append_seam, set-append_seam}
use Rattle.ps_view.specs.declared.role.Role.{Role}
use Rattle.ps_splitlog.specs.declared.backlog.BacklogSize.{BacklogSize}
use Rattle.ps_splitlog.specs.declared.backlog.BacklogSize.TheVariants.{All, Last}
use Rattle.ps_splitlog.specs.declared.stored.Stored.{Stored}
use Rattle.ps_splitlog.specs.declared.entry.LogEntry.{LogEntry}
use Rattle.ps_splitlog.specs.declared.index.LineIndex.{LineIndex}
use Rattle.ps_splitlog.specs.Lines.{is_logged_line, shown_if, shown_lines}
use Rattle.ps_splitlog.specs.Entries.{logged_in, logged_lines, last_of}
use Rattle.ps_splitlog.specs.Indices.{starts_of, line_indices_in, line_indices_of, IsIndex, line_at, shown_at}

-- ---- lists

got_at_seam : {X : Type 0} (xs : List X) (y : X) (ys : List X) → slice_get (xs ++ y ∷ ys) (length xs) ≡ Some y
got_at_seam [] y ys = refl
got_at_seam (x ∷ xs) y ys = got_at_seam xs y ys

of_map : {X Y Z : Type 0} (f : Y → Option Z) (g : X → Y) (xs : List X) → filter_map (λ x. f (g x)) xs ≡ filter_map f (map g xs)
of_map f g [] = refl
of_map f g (x ∷ xs) = ap (cons_option (f (g x))) (of_map f g xs)

last_of-map : {X Y : Type 0} (g : X → Y) (size : BacklogSize) (xs : List X) → map g (last_of size xs) ≡ last_of size (map g xs)
last_of-map g All xs = refl
last_of-map g (Last count) xs = sym (drop-map g (length xs - count) xs) ∙ ap (λ n. drop (n - count) (map g xs)) (sym (length-map xs g))

-- ---- the indices are those of the logged lines

next_line : (log : List LogEntry) (logged : Bool) (s : Stored) (p : LineIndex) (ps : List LineIndex) (ss : List Stored) → line_at log p ≡ Some s → map (line_at log) ps ≡ map Some ss → map (line_at log) (cond logged (p ∷ ps) ps) ≡ map Some (cond logged (s ∷ ss) ss)
next_line log true s p ps ss at more = ap (λ o. o ∷ map (line_at log) ps) at ∙ ap (λ os. Some s ∷ os) more
next_line log false s p ps ss at more = more

lines_in : (log : List LogEntry) (entry : ℕ) (h : LogEntry) → slice_get log entry ≡ Some h → (front rest : List Stored) → h.lines ≡ front ++ rest → map (line_at log) (line_indices_in entry (length front) rest) ≡ map Some (filter is_logged_line rest)
lines_in log entry h at front [] is = refl
lines_in log entry h at front (s ∷ rest) is =
    let here : line_at log (record { entry = entry; line = length front }) ≡ Some s = rw (at, is) (got_at_seam front s rest) in
    let more : map (line_at log) (line_indices_in entry (suc (length front)) rest) ≡ map Some (filter is_logged_line rest) =
    ap (λ n. map (line_at log) (line_indices_in entry n rest)) (sym (length-append front (s ∷ []) ∙ omega arith))
    ∙ lines_in log entry h at (front ++ s ∷ []) rest (is ∙ sym (append_assoc front (s ∷ []) rest)) in
    next_line log (is_logged_line s) s (record { entry = entry; line = length front }) (line_indices_in entry (suc (length front)) rest) (filter is_logged_line rest) here more

lines_past : (earlier hs : List LogEntry) → map (line_at (earlier ++ hs)) (line_indices_of (length earlier) hs) ≡ map Some (logged_lines hs)
lines_past earlier [] = refl
lines_past earlier (h ∷ hs) =
    let log : List LogEntry = earlier ++ h ∷ hs in
    let more : map (line_at log) (line_indices_of (suc (length earlier)) hs) ≡ map Some (logged_lines hs) =
    ap (λ n. map (line_at log) (line_indices_of n hs)) (sym (length-append earlier (h ∷ []) ∙ omega arith))
    ∙ ap (λ l. map (line_at l) (line_indices_of (length (earlier ++ h ∷ [])) hs)) (sym (append_assoc earlier (h ∷ []) hs))
    ∙ lines_past (earlier ++ h ∷ []) hs in
    map-append (line_at log) (line_indices_in (length earlier) 0 h.lines) (line_indices_of (suc (length earlier)) hs)
    ∙ ap (λ os. os ++ map (line_at log) (line_indices_of (suc (length earlier)) hs)) (lines_in log (length earlier) h (got_at_seam earlier h hs) [] h.lines refl)
    ∙ ap (λ os. map Some (logged_in h) ++ os) more
    ∙ sym (map-append Some (logged_in h) (logged_lines hs))

pub lines_are : (log : List LogEntry) → map (line_at log) (line_indices_of 0 log) ≡ map Some (logged_lines log)
lines_are log = lines_past [] log

count_is : (log : List LogEntry) → length (line_indices_of 0 log) ≡ length (logged_lines log)
count_is log = sym (length-map (line_indices_of 0 log) (line_at log)) ∙ ap length (lines_are log) ∙ length-map (logged_lines log) Some

-- ---- a further entry

starts-append : (before next : ℕ) (xs ys : List LogEntry) → next ≡ before + length (logged_lines xs) → starts_of before (xs ++ ys) ≡ starts_of before xs ++ starts_of next ys
starts-append before next [] ys is = ap (λ n. starts_of n ys) (sym (is ∙ omega arith))
starts-append before next (h ∷ xs) ys is =
    let same : next ≡ (before + length (logged_in h)) + length (logged_lines xs) = is ∙ (rw (length-append (logged_in h) (logged_lines xs)) (omega arith)) in
    ap (λ ns. before ∷ ns) (starts-append (before + length (logged_in h)) next xs ys same)

length-starts : (before : ℕ) (hs : List LogEntry) → length (starts_of before hs) ≡ length hs
length-starts before [] = refl
length-starts before (h ∷ hs) = ap suc (length-starts (before + length (logged_in h)) hs)

line_indices-append : (entry next : ℕ) (xs ys : List LogEntry) → next ≡ entry + length xs → line_indices_of entry (xs ++ ys) ≡ line_indices_of entry xs ++ line_indices_of next ys
line_indices-append entry next [] ys is = ap (λ n. line_indices_of n ys) (sym (is ∙ omega arith))
line_indices-append entry next (h ∷ xs) ys is =
    let same : next ≡ suc entry + length xs = is ∙ omega arith in
    ap (λ ps. line_indices_in entry 0 h.lines ++ ps) (line_indices-append (suc entry) next xs ys same)
    ∙ sym (append_assoc (line_indices_in entry 0 h.lines) (line_indices_of (suc entry) xs) (line_indices_of next ys))

-- the index with a further entry noted is that of the log with the entry at its end
pub noted : (log : List LogEntry) (h : LogEntry) (old_starts new_starts : List ℕ) (old_line_indices new_line_indices : List LineIndex) → IsIndex log old_starts old_line_indices
    → new_starts ≡ old_starts ++ length old_line_indices ∷ [] → new_line_indices ≡ old_line_indices ++ line_indices_in (length log) 0 h.lines → IsIndex (log ++ h ∷ []) new_starts new_line_indices
noted log h old_starts new_starts old_line_indices new_line_indices index s p = record {
  starts = s ∙ ap (λ ns. ns ++ length old_line_indices ∷ []) index.starts
      ∙ ap (λ n. starts_of 0 log ++ n ∷ []) (ap length index.line_indices ∙ count_is log)
      ∙ sym (starts-append 0 (length (logged_lines log)) log (h ∷ []) (omega arith));
  line_indices = p ∙ ap (λ ps. ps ++ line_indices_in (length log) 0 h.lines) index.line_indices
      ∙ ap (λ ps. line_indices_of 0 log ++ ps) (sym (append-nil (line_indices_in (length log) 0 h.lines)))
      ∙ sym (line_indices-append 0 (length log) log (h ∷ []) (omega arith));
}

-- ---- the last entry is taken back

front_is : {X : Type 0} (xs : List X) (x : X) → length (xs ++ x ∷ []) - 1 ≡ length xs
front_is xs x = let longer : length (xs ++ x ∷ []) ≡ length xs + 1 = length-append xs (x ∷ []) in omega (arith, longer)

pub front : {X : Type 0} (xs : List X) (x : X) → take (length (xs ++ x ∷ []) - 1) (xs ++ x ∷ []) ≡ xs
front xs x = ap (λ n. take n (xs ++ x ∷ [])) (front_is xs x) ∙ take-append_seam xs (x ∷ [])

without_last : (log : List LogEntry) (h : LogEntry) (old_starts new_starts : List ℕ) (old_line_indices new_line_indices : List LineIndex) → IsIndex (log ++ h ∷ []) old_starts old_line_indices
    → new_starts ≡ take (length old_starts - 1) old_starts → new_line_indices ≡ take (get_or old_starts (length old_starts - 1) 0) old_line_indices → IsIndex log new_starts new_line_indices
without_last log h old_starts new_starts old_line_indices new_line_indices index s p =
    let n : ℕ = length (logged_lines log) in
    let starts : old_starts ≡ starts_of 0 log ++ n ∷ [] = index.starts ∙ starts-append 0 n log (h ∷ []) (omega arith) in
    let line_indices : old_line_indices ≡ line_indices_of 0 log ++ line_indices_of (length log) (h ∷ []) = index.line_indices ∙ line_indices-append 0 (length log) log (h ∷ []) (omega arith) in
    let start : get_or old_starts (length old_starts - 1) 0 ≡ length (line_indices_of 0 log) =
    ap (λ ns. get_or ns (length ns - 1) 0) starts
    ∙ ap (λ i. get_or (starts_of 0 log ++ n ∷ []) i 0) (front_is (starts_of 0 log) n)
    ∙ get_or-append_seam (starts_of 0 log) n [] 0
    ∙ sym (count_is log) in
    record {
      starts = s ∙ ap (λ ns. take (length ns - 1) ns) starts ∙ front (starts_of 0 log) n;
      line_indices = p ∙ ap (λ i. take i old_line_indices) start ∙ ap (take (length (line_indices_of 0 log))) line_indices ∙ take-append_seam (line_indices_of 0 log) (line_indices_of (length log) (h ∷ []));
    }

pub parts : (log : List LogEntry) → (log ≡ []) ⊎ ((xs : List LogEntry) × (h : LogEntry) × (log ≡ xs ++ h ∷ []))
parts [] = inl refl
parts (h ∷ hs) = elim (parts hs) [
  | inl none ↦ inr ([], h, ap (λ l. h ∷ l) none)
  | inr some ↦ inr (h ∷ some.0, some.1, ap (λ l. h ∷ l) some.2)
]

-- the index with the last entry forgotten is that of the log without it
pub forgotten : (log : List LogEntry) (old_starts new_starts : List ℕ) (old_line_indices new_line_indices : List LineIndex) → IsIndex log old_starts old_line_indices
    → new_starts ≡ take (length old_starts - 1) old_starts → new_line_indices ≡ take (get_or old_starts (length old_starts - 1) 0) old_line_indices → IsIndex (take (length log - 1) log) new_starts new_line_indices
forgotten log old_starts new_starts old_line_indices new_line_indices index s p =
    elim (parts log) [
      | inl none ↦
          let empty : IsIndex [] old_starts old_line_indices = subst (λ (l : List LogEntry). IsIndex l old_starts old_line_indices) none index in
          subst (λ (l : List LogEntry). IsIndex (take (length l - 1) l) new_starts new_line_indices) (sym none) (record {
            starts = s ∙ ap (λ ns. take (length ns - 1) ns) empty.starts;
            line_indices = p ∙ ap (λ ns. take (get_or ns (length ns - 1) 0) old_line_indices) empty.starts ∙ ap (take 0) empty.line_indices;
          })
      | inr some ↦
          let whole : IsIndex (some.0 ++ some.1 ∷ []) old_starts old_line_indices = subst (λ (l : List LogEntry). IsIndex l old_starts old_line_indices) some.2 index in
          subst (λ (l : List LogEntry). IsIndex l new_starts new_line_indices) (sym (ap (λ (l : List LogEntry). take (length l - 1) l) some.2 ∙ front some.0 some.1))
          (without_last some.0 some.1 old_starts new_starts old_line_indices new_line_indices whole s p)
    ]

-- ---- other roles

-- the index looks at no roles
pub same_index : (log : List LogEntry) (h : LogEntry) (roles : List (ℕ × Role)) (starts : List ℕ) (line_indices : List LineIndex) → IsIndex (log ++ h ∷ []) starts line_indices → IsIndex (log ++ record h { roles = roles } ∷ []) starts line_indices
same_index log h roles starts line_indices index =
    let n : ℕ = length (logged_lines log) in
    record {
      starts = index.starts ∙ starts-append 0 n log (h ∷ []) (omega arith) ∙ sym (starts-append 0 n log (record h { roles = roles } ∷ []) (omega arith));
      line_indices = index.line_indices ∙ line_indices-append 0 (length log) log (h ∷ []) (omega arith) ∙ sym (line_indices-append 0 (length log) log (record h { roles = roles } ∷ []) (omega arith));
    }

-- whoever changes the roles of the last entry alone keeps the index
pub kept_index : (old new : List LogEntry) (roles : List (ℕ × Role)) (starts : List ℕ) (line_indices : List LineIndex) → IsIndex old starts line_indices
    → ((log : List LogEntry) (h : LogEntry) → old ≡ log ++ h ∷ [] → new ≡ log ++ record h { roles = roles } ∷ []) → (old ≡ [] → new ≡ []) → IsIndex new starts line_indices
kept_index old new roles starts line_indices index last none =
    elim (parts old) [
      | inl empty ↦ subst (λ (l : List LogEntry). IsIndex l starts line_indices) (empty ∙ sym (none empty)) index
      | inr some ↦ subst (λ (l : List LogEntry). IsIndex l starts line_indices) (sym (last some.0 some.1 some.2))
          (same_index some.0 some.1 roles starts line_indices (subst (λ (l : List LogEntry). IsIndex l starts line_indices) some.2 index))
    ]

-- the last entry is given other roles
pub set_last : (items log : List LogEntry) (h x : LogEntry) (roles : List (ℕ × Role)) (entry_index : ℕ) → items ≡ log ++ h ∷ [] → entry_index ≡ length items - 1 → x ≡ get_or items entry_index x
    → set items entry_index (record x { roles = roles }) ≡ log ++ record h { roles = roles } ∷ []
set_last items log h x roles entry_index is last got =
    let seam : entry_index ≡ length log = last ∙ ap (λ (l : List LogEntry). length l - 1) is ∙ front_is log h in
    let same : x ≡ h = got ∙ ap (λ (l : List LogEntry). get_or l entry_index x) is ∙ ap (λ n. get_or (log ++ h ∷ []) n x) seam ∙ get_or-append_seam log h [] x in
    ap (λ (l : List LogEntry). set l entry_index (record x { roles = roles })) is
    ∙ ap (λ n. set (log ++ h ∷ []) n (record x { roles = roles })) seam
    ∙ set-append_seam log h [] (record x { roles = roles })
    ∙ ap (λ (y : LogEntry). log ++ record y { roles = roles } ∷ []) same

-- ---- the backlog

start_is : (earlier : List LogEntry) (h : LogEntry) (later : List LogEntry) → get_or (starts_of 0 (earlier ++ h ∷ later)) (length earlier) 0 ≡ length (logged_lines earlier)
start_is earlier h later =
    ap (λ ns. get_or ns (length earlier) 0) (starts-append 0 (length (logged_lines earlier)) earlier (h ∷ later) (omega arith))
    ∙ ap (λ n. get_or (starts_of 0 earlier ++ length (logged_lines earlier) ∷ starts_of (length (logged_lines earlier) + length (logged_in h)) later) n 0) (sym (length-starts 0 earlier))
    ∙ get_or-append_seam (starts_of 0 earlier) (length (logged_lines earlier)) (starts_of (length (logged_lines earlier) + length (logged_in h)) later) 0

-- what is shown of the last lines at these indices is what is shown of the lines
last_shown : (conn : ℕ) (role : Role) (log : List LogEntry) (size : BacklogSize) (n : ℕ) → shown_at conn role log (last_of size (take n (line_indices_of 0 log))) ≡ shown_lines conn role (last_of size (take n (logged_lines log)))
last_shown conn role log size n =
    of_map (shown_if conn role) (line_at log) (last_of size (take n (line_indices_of 0 log)))
    ∙ ap (filter_map (shown_if conn role)) (last_of-map (line_at log) size (take n (line_indices_of 0 log))
    ∙ ap (last_of size) (sym (take-map (line_at log) n (line_indices_of 0 log)) ∙ ap (take n) (lines_are log) ∙ take-map Some n (logged_lines log))
    ∙ sym (last_of-map Some size (take n (logged_lines log))))
    ∙ sym (of_map (shown_if conn role) Some (last_of size (take n (logged_lines log))))

-- what who joins by the entry behind these is shown of the backlog
pub backlog_is : (conn : ℕ) (role : Role) (size : BacklogSize) (earlier : List LogEntry) (h : LogEntry) (later : List LogEntry) (starts : List ℕ) (line_indices : List LineIndex) → IsIndex (earlier ++ h ∷ later) starts line_indices
    → shown_at conn role (earlier ++ h ∷ later) (last_of size (take (get_or starts (length earlier) 0) line_indices)) ≡ shown_lines conn role (last_of size (logged_lines earlier))
backlog_is conn role size earlier h later starts line_indices index =
    let log : List LogEntry = earlier ++ h ∷ later in
    ap (λ ps. shown_at conn role log (last_of size (take (get_or starts (length earlier) 0) ps))) index.line_indices
    ∙ ap (λ n. shown_at conn role log (last_of size (take n (line_indices_of 0 log)))) (ap (λ ns. get_or ns (length earlier) 0) index.starts ∙ start_is earlier h later)
    ∙ last_shown conn role log size (length (logged_lines earlier))
    ∙ ap (λ ls. shown_lines conn role (last_of size (take (length (logged_lines earlier)) ls))) (flat_map-append logged_in earlier (h ∷ later))
    ∙ ap (λ ls. shown_lines conn role (last_of size ls)) (take-append_seam (logged_lines earlier) (logged_lines (h ∷ later)))

-- what who joins by the next entry is shown of the whole log
pub whole_backlog_is : (conn : ℕ) (role : Role) (size : BacklogSize) (entries : List LogEntry) (starts : List ℕ) (line_indices : List LineIndex) → IsIndex entries starts line_indices
    → shown_at conn role entries (last_of size line_indices) ≡ shown_lines conn role (last_of size (logged_lines entries))
whole_backlog_is conn role size entries starts line_indices index =
    let n : ℕ = length (line_indices_of 0 entries) in
    ap (λ ps. shown_at conn role entries (last_of size ps)) (index.line_indices ∙ sym (take-length (line_indices_of 0 entries)))
    ∙ last_shown conn role entries size n
    ∙ ap (λ i. shown_lines conn role (last_of size (take i (logged_lines entries)))) (count_is entries)
    ∙ ap (λ ls. shown_lines conn role (last_of size ls)) (take-length (logged_lines entries))
