-- Where each connection is named first, and what is shown before that.
use Rattle.std.proofs.Common.{◌≡◌, ◌≤◌, ◌<◌, ℕ, zero, suc, ◌+◌, ◌-◌, min, ◌==◌, ◌||◌, ltb, Bool, true, false, cond, List, []}
use Rattle.std.proofs.Common.{◌∷◌, ◌++◌, length, take, drop, get_or, Option, Some, None, refl, sym, ap, subst, ◌∙◌, ◌⊎◌, inl, inr, arith, append_assoc}
use Rattle.std.specs.List.{list_any}
use Rattle.std.specs.Ordering.{nat_cmp, is_eq}
use Rattle.std.specs.BTreeMap.{BTreeMap, Updates, get}
use Rattle.std.proofs.lemmas.Bool.{or_parts, or_from, ltb-true, ltb-false, lt-ltb}
use Rattle.std.proofs.lemmas.Bool.{ne_eqb, eqb-false, cond-true, cond-false}
use Rattle.std.proofs.lemmas.Bool.Decides.{eqb_tells}
use Rattle.std.proofs.lemmas.List.{append-nil, length-append, length-take, take-take, take-append-drop, take_all}
use Rattle.std.proofs.Math.Seq.{take-append_seam, get_or-append_seam}
use Rattle.std.specs.declared.cmp.Ordering.{Ordering}
use Rattle.std.specs.declared.cmp.Ordering.TheVariants.{Less, Equal, Greater}
use Rattle.std.proofs.lemmas.Cmp.{ranked as by_rank}
use Rattle.ps_base.specs.Messages.{sent}
use Rattle.ps_event.specs.declared.audience.Audience.{Audience}
use Rattle.ps_event.specs.declared.audience.Audience.TheVariants as audiences
use Rattle.ps_event.specs.declared.side.Side.TheVariants.{P1, P2}
use Rattle.ps_view.specs.declared.role.Role.{Role}
use Rattle.ps_view.specs.declared.role.Role.TheVariants.{Outside}
use Rattle.ps_splitlog.specs.declared.stored.Stored.{Stored}
use Rattle.ps_splitlog.specs.declared.stored.Stored.TheVariants.{Same, Split}
use Rattle.ps_splitlog.specs.declared.entry.Joined.{Joined}
use Rattle.ps_splitlog.specs.declared.entry.LogEntry.{LogEntry}
use Rattle.ps_splitlog.specs.Lines.{shown, shown_lines}
use Rattle.ps_splitlog.specs.Entries.{changed, joined_or, logged_lines, message_of}
use Rattle.ps_splitlog.specs.Reads.{messages_of, role_past}
use Rattle.ps_splitlog.specs.Firsts.{owner_in, joiner_by, joiner_of, is_that, is_owner}
use Rattle.ps_splitlog.specs.Firsts.{is_given, is_named, first_or, first_for, AreFirsts, IsSameBefore, AreNoted}
use Rattle.ps_splitlog.proofs.IndexLemmas.{parts}

-- ---- numbers

is_other : (a b : ℕ) → (a ≡ b → ⊥) → is_eq (nat_cmp a b) ≡ false
is_other a b h = by (nat_cmp a b) refl
  where
    by : (r : Ordering) → r ≡ nat_cmp a b → is_eq r ≡ false
    by Less e = refl
    by Equal e = absurd (h (by_rank a b Equal e))
    by Greater e = refl

turned : (a b : ℕ) → (a == b) ≡ false → (b == a) ≡ false
turned a b other = ne_eqb b a (λ same. eqb-false a b other (sym same))

-- ---- who is outside is shown nothing before the entry that names it

unseen_by : (reader : ℕ) (a : Audience) (logged : Bool) (text : List ℕ) → is_that reader (owner_in a) ≡ false
    → shown reader Outside (Same a logged text) ≡ None
unseen_by reader (audiences.One conn) logged text other = rw (turned conn reader other) refl
unseen_by reader audiences.All logged text other = refl
unseen_by reader (audiences.Split side) logged text other = refl
unseen_by reader (audiences.Side P1) logged text other = refl
unseen_by reader (audiences.Side P2) logged text other = refl
unseen_by reader (audiences.Rank lowest) logged text other = refl

unseen : (reader : ℕ) (line : Stored) → is_owner reader line ≡ false → shown reader Outside line ≡ None
unseen reader (Same a logged text) other = unseen_by reader a logged text other
unseen reader (Split side logged secret public) other = refl

none_shown : (reader : ℕ) (lines : List Stored) → list_any (is_owner reader) lines ≡ false → shown_lines reader Outside lines ≡ []
none_shown reader [] none = refl
none_shown reader (line ∷ lines) none =
    let both = or_parts (is_owner reader line) (list_any (is_owner reader) lines) none in
    rw (unseen reader line both.0) (none_shown reader lines both.1)

no_role : (reader : ℕ) (roles : List (ℕ × Role)) → list_any (is_given reader) roles ≡ false → changed reader roles Outside ≡ Outside
no_role reader [] none = refl
no_role reader (change ∷ roles) none =
    let both = or_parts (is_given reader change) (list_any (is_given reader) roles) none in
    rw both.0 (no_role reader roles both.1)

not_joined : (reader conn : ℕ) (join : Option Joined) → is_that reader (joiner_by conn join) ≡ false
    → cond (reader == conn) join None ≡ None
not_joined reader conn None other = by (reader == conn)
  where
    by : (b : Bool) → cond {A = Option Joined} b None None ≡ None
    by true = refl
    by false = refl
not_joined reader conn (Some joined) other = rw (turned conn reader other) refl

no_message : (reader : ℕ) (before : List Stored) (h : LogEntry) → is_named reader h ≡ false → message_of reader Outside before h ≡ []
no_message reader before h other =
    let both = or_parts (is_that reader (joiner_of h) || list_any (is_owner reader) h.lines) (list_any (is_given reader) h.roles) other in
    let of_lines = or_parts (is_that reader (joiner_of h)) (list_any (is_owner reader) h.lines) both.0 in
    ap (λ o. joined_or reader o before (shown_lines reader Outside h.lines)) (not_joined reader h.conn h.join of_lines.0)
    ∙ none_shown reader h.lines of_lines.1

still_outside : (reader : ℕ) (h : LogEntry) → is_named reader h ≡ false → changed reader h.roles Outside ≡ Outside
still_outside reader h other = no_role reader h.roles
    (or_parts (is_that reader (joiner_of h) || list_any (is_owner reader) h.lines) (list_any (is_given reader) h.roles) other).1

none_sent : (reader : ℕ) (earlier xs ys : List LogEntry) → list_any (is_named reader) xs ≡ false
    → messages_of reader Outside earlier (xs ++ ys) ≡ messages_of reader Outside (earlier ++ xs) ys
none_sent reader earlier [] ys none = ap (λ hs. messages_of reader Outside hs ys) (sym (append-nil earlier))
none_sent reader earlier (h ∷ xs) ys none =
    let both = or_parts (is_named reader h) (list_any (is_named reader) xs) none in
    ap (λ texts. sent texts ++ messages_of reader (changed reader h.roles Outside) (earlier ++ h ∷ []) (xs ++ ys))
    (no_message reader (logged_lines earlier) h both.0)
    ∙ ap (λ role. messages_of reader role (earlier ++ h ∷ []) (xs ++ ys)) (still_outside reader h both.0)
    ∙ none_sent reader (earlier ++ h ∷ []) xs ys both.1
    ∙ ap (λ hs. messages_of reader Outside hs ys) (append_assoc earlier (h ∷ []) xs)

none_given : (reader : ℕ) (xs ys : List LogEntry) → list_any (is_named reader) xs ≡ false
    → role_past reader Outside (xs ++ ys) ≡ role_past reader Outside ys
none_given reader [] ys none = refl
none_given reader (h ∷ xs) ys none =
    let both = or_parts (is_named reader h) (list_any (is_named reader) xs) none in
    ap (λ role. role_past reader role (xs ++ ys)) (still_outside reader h both.0) ∙ none_given reader xs ys both.1

-- who is outside, and before the first entry, may begin behind those that don't name it
pub messages_behind : (reader : ℕ) (role : Role) (at from : ℕ) (log : List LogEntry) → role ≡ Outside → at ≡ 0
    → list_any (is_named reader) (take from log) ≡ false
    → messages_of reader role (take from log) (drop from log) ≡ messages_of reader role (take at log) (drop at log)
messages_behind reader role at from log outside begins none =
    rw (outside, begins) (sym (none_sent reader [] (take from log) (drop from log) none)
    ∙ ap (messages_of reader Outside []) (take-append-drop from log))

pub role_behind : (reader : ℕ) (role : Role) (at from : ℕ) (log : List LogEntry) → role ≡ Outside → at ≡ 0
    → list_any (is_named reader) (take from log) ≡ false
    → role_past reader role (drop from log) ≡ role_past reader role (drop at log)
role_behind reader role at from log outside begins none =
    rw (outside, begins) (sym (none_given reader (take from log) (drop from log) none)
    ∙ ap (role_past reader Outside) (take-append-drop from log))

-- ---- noting one

first_or-le : (o : Option ℕ) (count : ℕ) → first_or o count ≤ count
first_or-le None count = omega arith
first_or-le (Some first) count = by (ltb first count) refl
  where
    by : (b : Bool) → ltb first count ≡ b → cond b first count ≤ count
    by true lt = let l : first < count = ltb-true first count lt in omega (arith, l)
    by false ge = omega arith

-- what was found, and noted again
found_again : (o : Option ℕ) (entry : ℕ) → first_or (Some (first_or o entry)) entry ≡ first_or o entry
found_again o entry = by (ltb (first_or o entry) entry) refl
  where
    by : (b : Bool) → ltb (first_or o entry) entry ≡ b → cond b (first_or o entry) entry ≡ first_or o entry
    by true lt = refl
    by false ge = let l : entry ≤ first_or o entry = ltb-false (first_or o entry) entry ge in
        let m : first_or o entry ≤ entry = first_or-le o entry in omega (arith, l, m)

found_behind : (o : Option ℕ) (entry : ℕ) → first_or (Some (first_or o entry)) (suc entry) ≡ first_or o entry
found_behind o entry = let m : first_or o entry ≤ entry = first_or-le o entry in
    rw (lt-ltb (first_or o entry) (suc entry) (omega (arith, m))) refl

pub noted_same : (conn first entry : ℕ) (old new : BTreeMap ℕ ℕ) → first ≡ first_for old entry conn
    → Updates nat_cmp old new conn (Some first) → IsSameBefore entry old new
noted_same conn first entry old new is u = λ reader.
    elim (eqb_tells conn reader) [
      | inl same ↦ ap (λ k. first_for new entry k) (sym same.1) ∙ ap (λ o. first_or o entry) (u.1 ∙ ap (λ n. Some n) is)
          ∙ found_again (get nat_cmp old conn) entry ∙ ap (λ k. first_for old entry k) same.1
      | inr other ↦ ap (λ o. first_or o entry) (u.2 reader (is_other conn reader other.1))
    ]

pub noted : (conn first entry : ℕ) (old new : BTreeMap ℕ ℕ) → first ≡ first_for old entry conn → Updates nat_cmp old new conn (Some first)
    → AreNoted (λ reader. conn == reader) entry old new
noted conn first entry old new is u = λ reader.
    elim (eqb_tells conn reader) [
      | inl same ↦ rw same.0 (ap (λ k. first_for new (suc entry) k) (sym same.1)
          ∙ ap (λ o. first_or o (suc entry)) (u.1 ∙ ap (λ n. Some n) is) ∙ found_behind (get nat_cmp old conn) entry
          ∙ ap (λ k. first_for old entry k) same.1)
      | inr other ↦ rw other.0 (ap (λ o. first_or o (suc entry)) (u.2 reader (is_other conn reader other.1)))
    ]

-- ---- noting several

both_noted : (a b : Bool) (x y : ℕ) → cond b x (cond a x y) ≡ cond (a || b) x y
both_noted true true x y = refl
both_noted true false x y = refl
both_noted false true x y = refl
both_noted false false x y = refl

-- those who are noted first, and then those who are noted behind them
pub noted_both : (first second : ℕ → Bool) (entry : ℕ) (old mid new : BTreeMap ℕ ℕ) → IsSameBefore entry old mid
    → AreNoted first entry old mid → AreNoted second entry mid new
    → AreNoted (λ reader. first reader || second reader) entry old new
noted_both first second entry old mid new same one two = λ reader.
    two reader
    ∙ ap (λ n. cond (second reader) n (first_for mid (suc entry) reader)) (same reader)
    ∙ ap (λ n. cond (second reader) (first_for old entry reader) n) (one reader)
    ∙ both_noted (first reader) (second reader) (first_for old entry reader) (first_for old (suc entry) reader)

-- what is noted when these are noted too
abbrev pub with_rest : {X : Type 0} → (ℕ → X → Bool) → ℕ → BTreeMap ℕ ℕ → List X → ℕ → ℕ
with_rest test entry firsts xs reader = cond (list_any (test reader) xs) (first_for firsts entry reader)
    (first_for firsts (suc entry) reader)

-- the invariant of a loop that notes them: what is left to note, and what stays
pub record IsNoting {X : Type 0} (test : ℕ → X → Bool) (entry : ℕ) (old new : BTreeMap ℕ ℕ) (all rest : List X) : Type 0 where
  pub same : IsSameBefore entry old new
  pub left : (reader : ℕ) → with_rest test entry new rest reader ≡ with_rest test entry old all reader

pub noting_starts : {X : Type 0} (test : ℕ → X → Bool) (entry : ℕ) (old : BTreeMap ℕ ℕ) (all : List X) → IsNoting test entry old old all all
noting_starts test entry old all = record { same = λ reader. refl; left = λ reader. refl }

pub next_noted : {X : Type 0} (test : ℕ → X → Bool) (entry : ℕ) (old mid new : BTreeMap ℕ ℕ) (all rest : List X) (x : X)
    → IsNoting test entry old mid all (x ∷ rest) → IsSameBefore entry mid new → AreNoted (λ reader. test reader x) entry mid new
    → IsNoting test entry old new all rest
next_noted test entry old mid new all rest x so_far same one = record {
  same = λ reader. same reader ∙ so_far.same reader;
  left = λ reader.
      ap (λ n. cond (list_any (test reader) rest) n (first_for new (suc entry) reader)) (same reader)
      ∙ ap (λ n. cond (list_any (test reader) rest) (first_for mid entry reader) n) (one reader)
      ∙ both_noted (test reader x) (list_any (test reader) rest) (first_for mid entry reader) (first_for mid (suc entry) reader)
      ∙ so_far.left reader;
}

pub all_noted : {X : Type 0} (test : ℕ → X → Bool) (entry : ℕ) (old new : BTreeMap ℕ ℕ) (all : List X)
    → IsNoting test entry old new all [] → AreNoted (λ reader. list_any (test reader) all) entry old new
all_noted test entry old new all done = λ reader. done.left reader

-- ---- the last entry is noted

list_any-append : {X : Type 0} (test : X → Bool) (xs ys : List X) → list_any test xs ≡ false → list_any test ys ≡ false
    → list_any test (xs ++ ys) ≡ false
list_any-append test [] ys none others = others
list_any-append test (x ∷ xs) ys none others =
    let both = or_parts (test x) (list_any test xs) none in
    or_from (test x) (list_any test (xs ++ ys)) both.0 (list_any-append test xs ys both.1 others)

pub none_in_front : {X : Type 0} (test : X → Bool) (n : ℕ) (xs : List X) → list_any test xs ≡ false → list_any test (take n xs) ≡ false
none_in_front test zero xs none = refl
none_in_front test (suc n) [] none = refl
none_in_front test (suc n) (x ∷ xs) none =
    let both = or_parts (test x) (list_any test xs) none in
    or_from (test x) (list_any test (take n xs)) both.0 (none_in_front test n xs both.1)

-- of fewer entries, and of a log that has these at its begin, too
pub still_firsts : (count fewer : ℕ) (log other : List LogEntry) (firsts : BTreeMap ℕ ℕ) → fewer ≤ count
    → take fewer other ≡ take fewer log → AreFirsts count log firsts → AreFirsts fewer other firsts
still_firsts count fewer log other firsts le front are = λ reader.
    let n : ℕ = first_for firsts fewer reader in
    let m : ℕ = first_for firsts count reader in
    let n_le : n ≤ fewer = first_or-le (get nat_cmp firsts reader) fewer in
    let n_le_m : n ≤ m = mono (get nat_cmp firsts reader) in
    let same : take n other ≡ take n (take m log) = sym (take-take n fewer other n_le) ∙ ap (take n) front ∙ take-take n fewer log n_le
    ∙ sym (take-take n m log n_le_m) in
    rw same (none_in_front (is_named reader) n (take m log) (are reader))
  where
    mono : (o : Option ℕ) → first_or o fewer ≤ first_or o count
    mono None = le
    mono (Some first) = by (ltb first fewer) (ltb first count) refl refl
      where
        by : (a b : Bool) → ltb first fewer ≡ a → ltb first count ≡ b → cond a first fewer ≤ cond b first count
        by true true x y = omega arith
        by true false x y = let l : first < fewer = ltb-true first fewer x in omega (arith, l, le)
        by false true x y = let l : fewer ≤ first = ltb-false first fewer x in omega (arith, l)
        by false false x y = le

first_step : (o : Option ℕ) (entry : ℕ) → (first_or o (suc entry) ≡ first_or o entry) ⊎
    ((first_or o (suc entry) ≡ suc entry) × (first_or o entry ≡ entry))
first_step None entry = inr (refl, refl)
first_step (Some first) entry = by (ltb first (suc entry)) (ltb first entry) refl refl
  where
    by : (a b : Bool) → ltb first (suc entry) ≡ a → ltb first entry ≡ b
        → (cond a first (suc entry) ≡ cond b first entry) ⊎ ((cond a first (suc entry) ≡ suc entry) × (cond b first entry ≡ entry))
    by true true x y = inl refl
    by true false x y = let l : first < suc entry = ltb-true first (suc entry) x in let m : entry ≤ first = ltb-false first entry y in
        inl (omega (arith, l, m))
    by false true x y = let l : suc entry ≤ first = ltb-false first (suc entry) x in let m : first < entry = ltb-true first entry y in
        absurd (omega (arith, l, m))
    by false false x y = inr (refl, refl)

-- the entry behind so many is noted
pub firsts_more : (log : List LogEntry) (h : LogEntry) (entry : ℕ) (old new : BTreeMap ℕ ℕ) → length log ≡ entry
    → AreFirsts entry (log ++ h ∷ []) old → AreNoted (λ reader. is_named reader h) entry old new → AreFirsts (suc entry) (log ++ h ∷ []) new
firsts_more log h entry old new many are note = λ reader. by reader (is_named reader h) refl (note reader)
  where
    whole : List LogEntry
    whole = log ++ h ∷ []

    unnamed : (reader : ℕ) (o : Option ℕ) → is_named reader h ≡ false → list_any (is_named reader) (take (first_or o entry) whole) ≡ false
        → list_any (is_named reader) (take (first_or o (suc entry)) whole) ≡ false
    unnamed reader o other none = elim (first_step o entry) [
      | inl same ↦ ap (λ n. list_any (is_named reader) (take n whole)) same ∙ none
      | inr past ↦
          let front : list_any (is_named reader) log ≡ false =
          sym (ap (λ n. list_any (is_named reader) (take n whole)) (past.1 ∙ sym many)
          ∙ ap (list_any (is_named reader)) (take-append_seam log (h ∷ []))) ∙ none in
          let longer : length whole ≡ length log + 1 = length-append log (h ∷ []) in
          ap (λ n. list_any (is_named reader) (take n whole)) past.0
          ∙ ap (list_any (is_named reader)) (take_all (suc entry) whole (omega (arith, many, longer)))
          ∙ list_any-append (is_named reader) log (h ∷ []) front (or_from (is_named reader h) false other refl)
    ]

    by : (reader : ℕ) (b : Bool) → is_named reader h ≡ b
        → first_for new (suc entry) reader ≡ cond (is_named reader h) (first_for old entry reader) (first_for old (suc entry) reader)
        → list_any (is_named reader) (take (first_for new (suc entry) reader) whole) ≡ false
    by reader true named is = ap (λ n. list_any (is_named reader) (take n whole))
        (is ∙ cond-true (is_named reader h) (first_for old entry reader) (first_for old (suc entry) reader) named) ∙ are reader
    by reader false other is = ap (λ n. list_any (is_named reader) (take n whole))
        (is ∙ cond-false (is_named reader h) (first_for old entry reader) (first_for old (suc entry) reader) other)
        ∙ unnamed reader (get nat_cmp old reader) other (are reader)

-- whatever is noted at an entry, of those before it the same is known
pub same_firsts : (entry : ℕ) (log : List LogEntry) (old new : BTreeMap ℕ ℕ) → AreFirsts entry log old → IsSameBefore entry old new
    → AreFirsts entry log new
same_firsts entry log old new are same = λ reader. ap (λ n. list_any (is_named reader) (take n log)) (same reader) ∙ are reader

pub last_noted : (log : List LogEntry) (h : LogEntry) (last : ℕ) (old new : BTreeMap ℕ ℕ) → last < length log → last ≡ length log - 1
    → h ≡ get_or log last h → AreFirsts (length log - 1) log old → AreNoted (λ reader. is_named reader h) last old new
    → AreFirsts (length log) log new
last_noted log h last old new lt is got are note =
    elim (parts log) [
      | inl none ↦ let empty : length log ≡ 0 = ap length none in absurd (omega (arith, lt, empty))
      | inr some ↦
          let longer : length (some.0 ++ some.1 ∷ []) ≡ length some.0 + 1 = length-append some.0 (some.1 ∷ []) in
          let many : length log ≡ suc (length some.0) = ap length some.2 ∙ longer ∙ omega arith in
          let seam : last ≡ length some.0 = omega (arith, is, many) in
          let same : h ≡ some.1 = got ∙ ap (λ (l : List LogEntry). get_or l last h) some.2
          ∙ ap (λ n. get_or (some.0 ++ some.1 ∷ []) n h) seam ∙ get_or-append_seam some.0 some.1 [] h in
          let here : AreNoted (λ reader. is_named reader some.1) last old new =
          subst (λ (x : LogEntry). AreNoted (λ reader. is_named reader x) last old new) same note in
          let before : AreFirsts last (some.0 ++ some.1 ∷ []) old =
          subst (λ (l : List LogEntry). AreFirsts last l old) some.2 (subst (λ n. AreFirsts n log old) (sym is) are) in
          let whole : AreFirsts (suc last) (some.0 ++ some.1 ∷ []) new = firsts_more some.0 some.1 last old new (sym seam) before here in
          subst (λ (l : List LogEntry). AreFirsts (length l) l new) (sym some.2)
          (subst (λ n. AreFirsts n (some.0 ++ some.1 ∷ []) new) (sym (longer ∙ omega (arith, seam))) whole)
    ]

-- ---- a further entry, and the last one

-- with a further entry, who was noted of all before it is noted of all but the last
pub firsts_pushed : (log : List LogEntry) (h : LogEntry) (firsts : BTreeMap ℕ ℕ) → AreFirsts (length log) log firsts
    → AreFirsts (length (log ++ h ∷ []) - 1) (log ++ h ∷ []) firsts
firsts_pushed log h firsts are =
    let end : length (log ++ h ∷ []) - 1 ≡ length log = let longer : length (log ++ h ∷ []) ≡ length log + 1 = length-append log (h ∷ []) in
    omega (arith, longer) in
    subst (λ n. AreFirsts n (log ++ h ∷ []) firsts) (sym end)
    (still_firsts (length log) (length log) log (log ++ h ∷ []) firsts (omega arith)
    (take-append_seam log (h ∷ []) ∙ sym (take_all (length log) log (omega arith))) are)

pub firsts_behind : (log : List LogEntry) (firsts : BTreeMap ℕ ℕ) → AreFirsts (length log - 1) log firsts
    → AreFirsts (length (take (length log - 1) log) - 1) (take (length log - 1) log) firsts
firsts_behind log firsts are =
    let n : ℕ = length log - 1 in
    let fewer : length (take n log) ≤ n = let many : length (take n log) ≡ min n (length log) = length-take n log in omega (arith, many) in
    still_firsts n (length (take n log) - 1) log (take n log) firsts (omega (arith, fewer))
    (take-take (length (take n log) - 1) n log (omega (arith, fewer))) are

-- whoever changes the roles of the last entry alone keeps what is noted
pub kept_firsts : (old new : List LogEntry) (roles : List (ℕ × Role)) (firsts : BTreeMap ℕ ℕ) → AreFirsts (length old - 1) old firsts
    → ((log : List LogEntry) (h : LogEntry) → old ≡ log ++ h ∷ [] → new ≡ log ++ record h { roles = roles } ∷ []) → (old ≡ [] → new ≡ [])
    → AreFirsts (length new - 1) new firsts
kept_firsts old new roles firsts are last none =
    elim (parts old) [
      | inl empty ↦ subst (λ (l : List LogEntry). AreFirsts (length l - 1) l firsts) (empty ∙ sym (none empty)) are
      | inr some ↦
          let changed_last : LogEntry = record some.1 { roles = roles } in
          let is : new ≡ some.0 ++ changed_last ∷ [] = last some.0 some.1 some.2 in
          let old_end : length old - 1 ≡ length some.0 = let longer : length (some.0 ++ some.1 ∷ []) ≡ length some.0 + 1 =
          length-append some.0 (some.1 ∷ []) in ap (λ (l : List LogEntry). length l - 1) some.2 ∙ omega (arith, longer) in
          let new_end : length new - 1 ≡ length some.0 = let longer : length (some.0 ++ changed_last ∷ []) ≡ length some.0 + 1 =
          length-append some.0 (changed_last ∷ []) in ap (λ (l : List LogEntry). length l - 1) is ∙ omega (arith, longer) in
          let front : take (length some.0) new ≡ take (length some.0) old =
          ap (take (length some.0)) is ∙ take-append_seam some.0 (changed_last ∷ []) ∙ sym (take-append_seam some.0 (some.1 ∷ []))
          ∙ sym (ap (take (length some.0)) some.2) in
          subst (λ n. AreFirsts n new firsts) (sym new_end)
          (still_firsts (length some.0) (length some.0) old new firsts (omega arith) front
          (subst (λ n. AreFirsts n old firsts) old_end are))
    ]

-- none of the entries before the one at which it was noted names it
pub unnamed_before : (firsts : BTreeMap ℕ ℕ) (log : List LogEntry) (reader conn count from : ℕ) → from ≡ first_for firsts count conn
    → conn ≡ reader → count ≡ length log - 1 → AreFirsts (length log - 1) log firsts
    → list_any (is_named reader) (take from log) ≡ false
unnamed_before firsts log reader conn count from is same all are =
    ap (λ n. list_any (is_named reader) (take n log))
    (is ∙ ap (λ k. first_for firsts count k) same ∙ ap (λ n. first_for firsts n reader) all) ∙ are reader
