-- What a line of EVs or IVs says.
use Rattle.std.proofs.Common.{◌≡◌, ◌≢◌, ℕ, zero, suc, ◌+◌, ◌^◌, ◌<◌, ◌≤◌, ◌⊎◌, ◌==◌, ◌||◌, ◌&&◌, Bool, true, false, not, cond, eqb, leb, List, [], ◌∷◌, ◌++◌, length, map, decimal, Option, Some, None, refl, sym, ap, subst, ◌∙◌, arith, inl, inr}
use Rattle.std.specs.Prelude.{codes, option_and_then}
use Rattle.std.specs.List.{list_all}
use Rattle.std.proofs.lemmas.Bool.{and_parts, and_from, eq-eqb, ne_eqb, eqb-true, le-leb, leb-true, cases_lt}
use Rattle.std.proofs.lemmas.Fmt.{length-decimal-le, decimal_nonempty}
use Rattle.std.proofs.lemmas.List.{append-nil, append_assoc}
use Rattle.std.proofs.lemmas.List.Folds.{list_all-append}
use Rattle.ps_packed.specs.Forms.{are_digits, number_of}
use Rattle.ps_packed.specs.Packed.{is_nil}
use Rattle.ps_packed.proofs.CanonNumbers.{IsDecimal, is_decimal}
use Rattle.ps_packed.proofs.Unique.{Lacks, split_join}
use Rattle.ps_export.specs.Lines.{parts}
use Rattle.ps_export.specs.Spreads.{number_in, stat_named, pair_of, number_at, is_named, more_pairs, pairs_after, pairs_in, numbers_of}
use Rattle.ps_export.specs.Written.{slash, with_stat, stats_text, or_zero}
use Rattle.ps_export.proofs.Spelling.{parts_append, parts_none, lacks_append, two_parts, Printed, printed_append, EndsIn, ends_append, snoc}

-- ---- numbers

some_length : (n : ℕ) → n < 256 → 0 < length (decimal n)
some_length n lt = decimal_nonempty n (omega (arith, lt))

pub number_read : (n : ℕ) → n < 256 → number_in (decimal n) ≡ Some n
unfolding number_in
number_read n lt =
    let small : n < 2 ^ 64 = omega (arith, lt) in
    let d = is_decimal n small in
    let some : leb 1 (length (decimal n)) ≡ true = le-leb _ _ (some_length n lt) in
    let short : leb (length (decimal n)) 3 ≡ true = le-leb _ _ (length-decimal-le 3 n (omega arith) (omega (arith, lt)) small) in
    rw (d.digits, some, short) (ap Some d.value)

digits_printed : (w : List ℕ) → are_digits w ≡ true → Printed w × Lacks 32 w × Lacks 47 w
digits_printed [] e = (refl, refl, refl)
digits_printed (c ∷ w) e =
    let a = and_parts (leb 48 c && leb c 57) (are_digits w) e in
    let low : 48 ≤ c = leb-true _ _ (and_parts (leb 48 c) (leb c 57) a.0).0 in
    let more = digits_printed w a.1 in
    (and_from _ _ (le-leb _ _ (omega (arith, low))) more.0, and_from _ _ (ap not (ne_eqb c 32 (λ z. omega (arith, z, low)))) more.1, and_from _ _ (ap not (ne_eqb c 47 (λ z. omega (arith, z, low)))) more.2)

pub decimal_printed : (n : ℕ) → n < 256 → Printed (decimal n) × Lacks 32 (decimal n) × Lacks 47 (decimal n)
decimal_printed n lt = digits_printed (decimal n) (is_decimal n (omega (arith, lt))).digits

digits_end : (w : List ℕ) → are_digits w ≡ true → 0 < length w → EndsIn w
digits_end [] e lt = absurd (omega (arith, lt))
digits_end (b ∷ w) e lt =
    let s = snoc b w in
    let last = and_parts _ _ (sym (list_all-append (λ c. leb 48 c && leb c 57) s.0 (s.1 ∷ [])) ∙ ap are_digits (sym s.2) ∙ e) in
    let low : 48 ≤ s.1 = leb-true _ _ (and_parts (leb 48 s.1) (leb s.1 57) (and_parts _ _ last.1).0).0 in
    record { front = s.0; last = s.1; is = s.2; other = λ z. omega (arith, z, low) }

pub decimal_ends : (n : ℕ) → n < 256 → EndsIn (decimal n)
decimal_ends n lt = digits_end (decimal n) (is_decimal n (omega (arith, lt))).digits (some_length n lt)

-- ---- pairs

-- the pairs with one stat more, where it isn't silent
abbrev pub pairs_with : ℕ → ℕ → ℕ → List (ℕ × ℕ) → List (ℕ × ℕ)
pairs_with silent stat number pairs = cond (eqb number silent) pairs (pairs ++ (stat, number) ∷ [])

named_append : (k stat number : ℕ) (pairs : List (ℕ × ℕ)) → is_named k (pairs ++ (stat, number) ∷ []) ≡ (is_named k pairs || eqb stat k)
named_append k stat number [] = or_false (eqb stat k)
  where
    or_false : (b : Bool) → (b || false) ≡ b
    or_false true = refl
    or_false false = refl
named_append k stat number (pair ∷ pairs) = ap (λ (b : Bool). eqb pair.0 k || b) (named_append k stat number pairs) ∙ or_assoc (eqb pair.0 k) (is_named k pairs) (eqb stat k)
  where
    or_assoc : (a b c : Bool) → (a || (b || c)) ≡ ((a || b) || c)
    or_assoc true b c = refl
    or_assoc false b c = refl

at_append : (k silent stat number : ℕ) (pairs : List (ℕ × ℕ)) → number_at k silent (pairs ++ (stat, number) ∷ []) ≡ cond (is_named k pairs) (number_at k silent pairs) (cond (eqb stat k) number silent)
at_append k silent stat number [] = refl
at_append k silent stat number (pair ∷ pairs) = by_first (eqb pair.0 k) refl (at_append k silent stat number pairs)
  where
    by_first : (b : Bool) → eqb pair.0 k ≡ b → number_at k silent (pairs ++ (stat, number) ∷ []) ≡ cond (is_named k pairs) (number_at k silent pairs) (cond (eqb stat k) number silent) → cond (eqb pair.0 k) pair.1 (number_at k silent (pairs ++ (stat, number) ∷ [])) ≡ cond (eqb pair.0 k || is_named k pairs) (cond (eqb pair.0 k) pair.1 (number_at k silent pairs)) (cond (eqb stat k) number silent)
    by_first true e h = rw e refl
    by_first false e h = rw e h

unnamed_step : (k silent : ℕ) (pair : ℕ × ℕ) (pairs : List (ℕ × ℕ)) (b : Bool) → eqb pair.0 k ≡ b → (eqb pair.0 k || is_named k pairs) ≡ false → (is_named k pairs ≡ false → number_at k silent pairs ≡ silent) → cond (eqb pair.0 k) pair.1 (number_at k silent pairs) ≡ silent
unnamed_step k silent pair pairs true z h more = absurd (let wrong : true ≡ false = ap (λ (u : Bool). u || is_named k pairs) (sym z) ∙ h in cc)
unnamed_step k silent pair pairs false z h more = rw z (more (ap (λ (u : Bool). u || is_named k pairs) (sym z) ∙ h))

unnamed_at : (k silent : ℕ) (pairs : List (ℕ × ℕ)) → is_named k pairs ≡ false → number_at k silent pairs ≡ silent
unnamed_at k silent [] e = refl
unnamed_at k silent (pair ∷ pairs) e = unnamed_step k silent pair pairs (eqb pair.0 k) refl e (unnamed_at k silent pairs)

-- what the stats so far say, of which this one is the next
pub record Says (silent next : ℕ) (numbers : ℕ → ℕ) (text : List ℕ) (pairs : List (ℕ × ℕ)) : Type 0 where
  pub read : is_nil text ≡ false → pairs_after [] (parts 47 (text ++ 32 ∷ [])) ≡ Some pairs
  pub none : is_nil text ≡ true → pairs ≡ []
  pub later : (stat : ℕ) → next ≤ stat → is_named stat pairs ≡ false
  pub before : (stat : ℕ) → stat < next → number_at stat silent pairs ≡ numbers stat
  pub printed : Printed text
  pub ends : is_nil text ≡ false → EndsIn text
  pub begins : is_nil text ≡ false → (rest : List ℕ) × (text ≡ 32 ∷ rest)

pub says_none : (silent : ℕ) (numbers : ℕ → ℕ) → Says silent 0 numbers [] []
says_none silent numbers = record {
  read = λ e. absurd cc;
  none = λ e. refl;
  later = λ stat le. refl;
  before = λ stat lt. absurd (omega (arith, lt));
  printed = refl;
  ends = λ e. absurd cc;
  begins = λ e. absurd cc;
}

after_step : (q : List ℕ) (found : Option (List (ℕ × ℕ))) (ps : List (List ℕ)) (m : List (ℕ × ℕ)) → option_and_then (λ more. pairs_after more ps) found ≡ Some m → ((b : List (ℕ × ℕ)) → pairs_after b ps ≡ Some m → pairs_after b (ps ++ q ∷ []) ≡ more_pairs (pair_of (parts 32 q)) m) → option_and_then (λ more. pairs_after more (ps ++ q ∷ [])) found ≡ more_pairs (pair_of (parts 32 q)) m
after_step q None ps m e h = absurd cc
after_step q (Some b) ps m e h = h b e

and_then_some : (o : Option (List (ℕ × ℕ))) → option_and_then (λ more. Some more) o ≡ o
and_then_some None = refl
and_then_some (Some x) = refl

after_append : (q : List ℕ) (ps : List (List ℕ)) (b m : List (ℕ × ℕ)) → pairs_after b ps ≡ Some m → pairs_after b (ps ++ q ∷ []) ≡ more_pairs (pair_of (parts 32 q)) m
after_append q [] b m e = and_then_some (more_pairs (pair_of (parts 32 q)) b) ∙ ap (λ (x : List (ℕ × ℕ)). more_pairs (pair_of (parts 32 q)) x) (same b m e)
  where
    same : (x y : List (ℕ × ℕ)) → Some x ≡ Some y → x ≡ y
    same x y h = cc
after_append q (p ∷ ps) b m e = after_step q (more_pairs (pair_of (parts 32 p)) b) ps m e (λ c k. after_append q ps c m k)

-- ` 4 Atk`
abbrev piece : ℕ → List ℕ → List ℕ
piece number name = 32 ∷ (decimal number ++ 32 ∷ name)

-- a stat's name
pub record IsStat (stat : ℕ) (name : List ℕ) : Type 0 where
  pub named : stat_named name ≡ Some stat
  pub lacks : Lacks 32 name
  pub slashes : Lacks 47 name
  pub printed : Printed name
  pub ends : EndsIn name

piece_read : (number stat : ℕ) (name : List ℕ) → number < 256 → IsStat stat name → pair_of (parts 32 (piece number name ++ 32 ∷ [])) ≡ Some (stat, number)
piece_read number stat name lt is =
    let d = decimal_printed number lt in
    let whole : piece number name ++ 32 ∷ [] ≡ [] ++ 32 ∷ (decimal number ++ 32 ∷ (name ++ 32 ∷ [])) = ap (λ (u : List ℕ). 32 ∷ u) (append_assoc (decimal number) (32 ∷ name) (32 ∷ [])) in
    let last : parts 32 (name ++ 32 ∷ []) ≡ name ∷ [] ∷ [] = two_parts 32 name [] is.lacks refl in
    let mid : parts 32 (decimal number ++ 32 ∷ (name ++ 32 ∷ [])) ≡ decimal number ∷ name ∷ [] ∷ [] = parts_append 32 (decimal number) (name ++ 32 ∷ []) ∙ rw (parts_none 32 (decimal number) d.1, last) refl in
    let all : parts 32 (piece number name ++ 32 ∷ []) ≡ [] ∷ decimal number ∷ name ∷ [] ∷ [] = ap (parts 32) whole ∙ parts_append 32 [] (decimal number ++ 32 ∷ (name ++ 32 ∷ [])) ∙ rw mid refl in
    rw (all, is.named, number_read number lt) refl

piece_printed : (number stat : ℕ) (name : List ℕ) → number < 256 → IsStat stat name → Printed (piece number name) × Lacks 47 (piece number name ++ 32 ∷ []) × EndsIn (piece number name)
piece_printed number stat name lt is =
    let d = decimal_printed number lt in
    (printed_append (decimal number) (32 ∷ name) d.0 is.printed, lacks_append 47 (piece number name) (32 ∷ []) (lacks_append 47 (decimal number) (32 ∷ name) d.2 is.slashes) refl, same_end number name (ends_append (32 ∷ (decimal number ++ 32 ∷ [])) name is.ends))
  where
    same_end : (number : ℕ) (name : List ℕ) → EndsIn ((32 ∷ (decimal number ++ 32 ∷ [])) ++ name) → EndsIn (piece number name)
    same_end number name e = subst EndsIn (ap (λ (u : List ℕ). 32 ∷ u) (append_assoc (decimal number) (32 ∷ []) name)) e

-- ---- one stat more

text_shape : (text : List ℕ) (number : ℕ) (name : List ℕ) → text ++ slash text ++ codes " " ++ decimal number ++ codes " " ++ name ≡ (text ++ slash text) ++ piece number name
text_shape text number name =
    let front : List ℕ = text ++ slash text in
    append_assoc (front ++ codes " " ++ decimal number) (codes " ") name ∙ append_assoc (front ++ codes " ") (decimal number) (codes " " ++ name) ∙ append_assoc front (codes " ") (decimal number ++ (codes " " ++ name))

read_first : (number stat : ℕ) (name : List ℕ) → number < 256 → IsStat stat name → pairs_after [] (parts 47 (piece number name ++ 32 ∷ [])) ≡ Some ((stat, number) ∷ [])
read_first number stat name lt is =
    let one = parts_none 47 (piece number name ++ 32 ∷ []) (piece_printed number stat name lt is).1 in
    rw (one, piece_read number stat name lt is) refl

read_next : (text : List ℕ) (pairs : List (ℕ × ℕ)) (number stat : ℕ) (name : List ℕ) → number < 256 → IsStat stat name → is_named stat pairs ≡ false →
    pairs_after [] (parts 47 (text ++ 32 ∷ [])) ≡ Some pairs → pairs_after [] (parts 47 (((text ++ codes " /") ++ piece number name) ++ 32 ∷ [])) ≡ Some (pairs ++ (stat, number) ∷ [])
read_next text pairs number stat name lt is new read =
    let last : List ℕ = piece number name ++ 32 ∷ [] in
    let whole : ((text ++ codes " /") ++ piece number name) ++ 32 ∷ [] ≡ (text ++ 32 ∷ []) ++ 47 ∷ last =
    append_assoc (text ++ codes " /") (piece number name) (32 ∷ []) ∙ append_assoc text (codes " /") last ∙ sym (append_assoc text (32 ∷ []) (47 ∷ last)) in
    let split : parts 47 (((text ++ codes " /") ++ piece number name) ++ 32 ∷ []) ≡ parts 47 (text ++ 32 ∷ []) ++ last ∷ [] =
    ap (parts 47) whole ∙ parts_append 47 (text ++ 32 ∷ []) last ∙ ap (λ (u : List (List ℕ)). parts 47 (text ++ 32 ∷ []) ++ u) (parts_none 47 last (piece_printed number stat name lt is).1) in
    ap (pairs_after []) split ∙ after_append last (parts 47 (text ++ 32 ∷ [])) [] pairs read ∙ rw (piece_read number stat name lt is, new) refl

-- what it says is read, whatever stood before
read_more : (text : List ℕ) (pairs : List (ℕ × ℕ)) (number stat : ℕ) (name : List ℕ) → number < 256 → IsStat stat name → is_named stat pairs ≡ false →
    (is_nil text ≡ false → pairs_after [] (parts 47 (text ++ 32 ∷ [])) ≡ Some pairs) → (is_nil text ≡ true → pairs ≡ []) →
    pairs_after [] (parts 47 (((text ++ slash text) ++ piece number name) ++ 32 ∷ [])) ≡ Some (pairs ++ (stat, number) ∷ [])
read_more [] pairs number stat name lt is new read none = read_first number stat name lt is ∙ ap (λ (ps : List (ℕ × ℕ)). Some (ps ++ (stat, number) ∷ [])) (sym (none refl))
read_more (b ∷ text) pairs number stat name lt is new read none = read_next (b ∷ text) pairs number stat name lt is new (read refl)

begins_more : (text more rest : List ℕ) → (is_nil text ≡ false → (r : List ℕ) × (text ≡ 32 ∷ r)) → (is_nil text ≡ true → more ≡ 32 ∷ rest) → (r : List ℕ) × (text ++ more ≡ 32 ∷ r)
begins_more [] more rest some none = (rest, none refl)
begins_more (b ∷ text) more rest some none = let s = some refl in (s.0 ++ more, ap (λ (u : List ℕ). u ++ more) s.1)

slash_printed : (text : List ℕ) → Printed (slash text)
slash_printed [] = refl
slash_printed (b ∷ text) = refl

slash_nil : (text more : List ℕ) → is_nil text ≡ true → slash text ++ more ≡ more
slash_nil [] more e = refl
slash_nil (b ∷ text) more e = absurd cc

some_end : (text : List ℕ) (number : ℕ) (name : List ℕ) → is_nil ((text ++ slash text) ++ piece number name) ≡ false
some_end [] number name = refl
some_end (b ∷ text) number name = refl

number_kept : (k stat silent number : ℕ) (pairs : List (ℕ × ℕ)) → stat ≢ k → number_at k silent (pairs ++ (stat, number) ∷ []) ≡ number_at k silent pairs
number_kept k stat silent number pairs ne = at_append k silent stat number pairs ∙ by_named (is_named k pairs) refl
  where
    by_named : (b : Bool) → is_named k pairs ≡ b → cond (is_named k pairs) (number_at k silent pairs) (cond (eqb stat k) number silent) ≡ number_at k silent pairs
    by_named true e = rw e refl
    by_named false e = rw (e, ne_eqb stat k ne) (sym (unnamed_at k silent pairs e))

number_new : (k silent number : ℕ) (pairs : List (ℕ × ℕ)) → is_named k pairs ≡ false → number_at k silent (pairs ++ (k, number) ∷ []) ≡ number
number_new k silent number pairs e = at_append k silent k number pairs ∙ rw (e, eq-eqb k k refl) refl

still_unnamed : (k stat number : ℕ) (pairs : List (ℕ × ℕ)) → stat ≢ k → is_named k pairs ≡ false → is_named k (pairs ++ (stat, number) ∷ []) ≡ false
still_unnamed k stat number pairs ne e = named_append k stat number pairs ∙ rw (e, ne_eqb stat k ne) refl

before_next : (k stat : ℕ) → k < suc stat → (k < stat) ⊎ (k ≡ stat)
before_next k stat lt = elim (cases_lt k stat) [
  | inl l ↦ inl l
  | inr le ↦ inr (omega (arith, lt, le))
]

written_stat : (silent stat : ℕ) (numbers : ℕ → ℕ) (text : List ℕ) (pairs : List (ℕ × ℕ)) (name : List ℕ) → numbers stat < 256 → IsStat stat name → Says silent stat numbers text pairs →
    Says silent (suc stat) numbers ((text ++ slash text) ++ piece (numbers stat) name) (pairs ++ (stat, numbers stat) ∷ [])
written_stat silent stat numbers text pairs name lt is s =
    let new = s.later stat (omega arith) in
    let p = piece_printed (numbers stat) stat name lt is in record {
      read = λ e. read_more text pairs (numbers stat) stat name lt is new s.read s.none;
      none = λ e. absurd (let wrong : true ≡ false = sym e ∙ some_end text (numbers stat) name in cc);
      later = λ k le. still_unnamed k stat (numbers stat) pairs (λ z. omega (arith, z, le)) (s.later k (omega (arith, le)));
      before = λ k l. elim (before_next k stat l) [
        | inl less ↦ number_kept k stat silent (numbers stat) pairs (λ z. omega (arith, z, less)) ∙ s.before k less
        | inr same ↦ rw same (number_new stat silent (numbers stat) pairs new)
      ];
      printed = printed_append (text ++ slash text) (piece (numbers stat) name) (printed_append text (slash text) s.printed (slash_printed text)) p.0;
      ends = λ e. ends_append (text ++ slash text) (piece (numbers stat) name) p.2;
      begins = λ e. subst (λ (u : List ℕ). (r : List ℕ) × (u ≡ 32 ∷ r)) (sym (append_assoc text (slash text) (piece (numbers stat) name))) (begins_more text (slash text ++ piece (numbers stat) name) (decimal (numbers stat) ++ 32 ∷ name) s.begins (slash_nil text (piece (numbers stat) name)));
    }

silent_stat : (silent stat : ℕ) (numbers : ℕ → ℕ) (text : List ℕ) (pairs : List (ℕ × ℕ)) → numbers stat ≡ silent → Says silent stat numbers text pairs → Says silent (suc stat) numbers text pairs
silent_stat silent stat numbers text pairs e s = record {
  read = s.read;
  none = s.none;
  later = λ k le. s.later k (omega (arith, le));
  before = λ k l. elim (before_next k stat l) [
    | inl less ↦ s.before k less
    | inr same ↦ rw same (unnamed_at stat silent pairs (s.later stat (omega arith)) ∙ sym e)
  ];
  printed = s.printed;
  ends = s.ends;
  begins = s.begins;
}

-- ---- six stats

-- the text says some pairs
pub record SaysSome (silent next : ℕ) (numbers : ℕ → ℕ) (text : List ℕ) : Type 0 where
  pub pairs : List (ℕ × ℕ)
  pub says : Says silent next numbers text pairs

stat_step : (silent stat : ℕ) (numbers : ℕ → ℕ) (text name : List ℕ) → numbers stat < 256 → IsStat stat name → SaysSome silent stat numbers text → SaysSome silent (suc stat) numbers (with_stat silent (numbers stat) name text)
unfolding with_stat
stat_step silent stat numbers text name lt is s = by_silent (eqb (numbers stat) silent) refl
  where
    by_silent : (b : Bool) → eqb (numbers stat) silent ≡ b → SaysSome silent (suc stat) numbers (cond (eqb (numbers stat) silent) text (text ++ slash text ++ codes " " ++ decimal (numbers stat) ++ codes " " ++ name))
    by_silent true e = rw e (record { pairs = s.pairs; says = silent_stat silent stat numbers text s.pairs (eqb-true _ _ e) s.says })
    by_silent false e = rw (e, text_shape text (numbers stat) name) (record { pairs = s.pairs ++ (stat, numbers stat) ∷ []; says = written_stat silent stat numbers text s.pairs name lt is s.says })

-- the k-th of six
abbrev pub nth : ℕ → ℕ → ℕ → ℕ → ℕ → ℕ → ℕ → ℕ
nth a b c d e f zero = a
nth a b c d e f (suc zero) = b
nth a b c d e f (suc (suc zero)) = c
nth a b c d e f (suc (suc (suc zero))) = d
nth a b c d e f (suc (suc (suc (suc zero)))) = e
nth a b c d e f (suc (suc (suc (suc (suc k))))) = f

stat_is : (stat : ℕ) (name front : List ℕ) (last : ℕ) → stat_named name ≡ Some stat → Lacks 32 name → Lacks 47 name → Printed name → name ≡ front ++ last ∷ [] → last ≢ 32 → IsStat stat name
stat_is stat name front last e l s p is ne = record { named = e; lacks = l; slashes = s; printed = p; ends = record { front = front; last = last; is = is; other = ne } }

pub six_say : (silent a b c d e f : ℕ) → a < 256 → b < 256 → c < 256 → d < 256 → e < 256 → f < 256 → SaysSome silent 6 (nth a b c d e f) (stats_text silent (a ∷ b ∷ c ∷ d ∷ e ∷ f ∷ []))
unfolding stat_named
six_say silent a b c d e f la lb lc ld le lf =
    let n : ℕ → ℕ = nth a b c d e f in
    let s0 : SaysSome silent 0 n [] = record { pairs = []; says = says_none silent n } in
    let s1 = stat_step silent 0 n [] (codes "HP") la (stat_is 0 (codes "HP") (codes "H") 80 refl refl refl refl refl (λ z. omega (arith, z))) s0 in
    let s2 = stat_step silent 1 n _ (codes "Atk") lb (stat_is 1 (codes "Atk") (codes "At") 107 refl refl refl refl refl (λ z. omega (arith, z))) s1 in
    let s3 = stat_step silent 2 n _ (codes "Def") lc (stat_is 2 (codes "Def") (codes "De") 102 refl refl refl refl refl (λ z. omega (arith, z))) s2 in
    let s4 = stat_step silent 3 n _ (codes "SpA") ld (stat_is 3 (codes "SpA") (codes "Sp") 65 refl refl refl refl refl (λ z. omega (arith, z))) s3 in
    let s5 = stat_step silent 4 n _ (codes "SpD") le (stat_is 4 (codes "SpD") (codes "Sp") 68 refl refl refl refl refl (λ z. omega (arith, z))) s4 in
    stat_step silent 5 n _ (codes "Spe") lf (stat_is 5 (codes "Spe") (codes "Sp") 101 refl refl refl refl refl (λ z. omega (arith, z))) s5

-- six numbers that a byte has
pub record AreSix (numbers : List ℕ) : Type 0 where
  pub a : ℕ
  pub b : ℕ
  pub c : ℕ
  pub d : ℕ
  pub e : ℕ
  pub f : ℕ
  pub are : numbers ≡ a ∷ b ∷ c ∷ d ∷ e ∷ f ∷ []
  pub small : (a < 256) × (b < 256) × (c < 256) × (d < 256) × (e < 256) × (f < 256)

-- what the text of six says, if it is some
pub record StatsRead (silent : ℕ) (numbers text : List ℕ) : Type 0 where
  pub pairs : List (ℕ × ℕ)
  pub read : is_nil text ≡ false → pairs_in text ≡ Some pairs
  pub none : is_nil text ≡ true → pairs ≡ []
  pub are : numbers_of silent pairs ≡ numbers
  pub printed : Printed text
  pub ends : is_nil text ≡ false → EndsIn text

pub stats_read : (silent : ℕ) (numbers : List ℕ) → AreSix numbers → StatsRead silent numbers (stats_text silent numbers)
unfolding pairs_in numbers_of
stats_read silent numbers six = subst (λ (ns : List ℕ). StatsRead silent ns (stats_text silent ns)) (sym six.are) (by_six six.a six.b six.c six.d six.e six.f six.small)
  where
    by_six : (a b c d e f : ℕ) → (a < 256) × (b < 256) × (c < 256) × (d < 256) × (e < 256) × (f < 256) → StatsRead silent (a ∷ b ∷ c ∷ d ∷ e ∷ f ∷ []) (stats_text silent (a ∷ b ∷ c ∷ d ∷ e ∷ f ∷ []))
    by_six a b c d e f l =
        let s = six_say silent a b c d e f l.0 l.1 l.2 l.3 l.4 l.5 in
        let at : (k : ℕ) → k < 6 → number_at k silent s.pairs ≡ nth a b c d e f k = s.says.before in record {
          pairs = s.pairs;
          read = s.says.read;
          none = s.says.none;
          are = rw (at 0 (omega arith), at 1 (omega arith), at 2 (omega arith), at 3 (omega arith), at 4 (omega arith), at 5 (omega arith)) refl;
          printed = s.says.printed;
          ends = s.says.ends;
        }
