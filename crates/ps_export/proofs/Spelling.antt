-- Texts, their parts and their ends.
use Rattle.std.proofs.Common.{◌≡◌, ◌≢◌, ℕ, ◌+◌, ◌<◌, ◌≤◌, ◌==◌, ◌||◌, Bool, true, false, not, cond, eqb, leb, List, [], ◌∷◌, ◌++◌, length, Option, Some, None, IsSome, is_some, refl, sym, ap, subst, ◌∙◌, arith, inl, inr}
use Rattle.std.specs.Prelude.{reverse, codes}
use Rattle.std.specs.List.{list_all, list_any, slice_split, onto_first, join_with_byte, concat}
use Rattle.std.proofs.lemmas.Bool.{and_parts, and_from, eq-eqb, ne_eqb, eqb-false, not-true, leb-true}
use Rattle.std.proofs.lemmas.List.{append-nil, append_assoc, reverse-append, reverse-reverse, length-append}
use Rattle.std.proofs.lemmas.List.Folds.{list_all-append}
use Rattle.std.proofs.lemmas.List.Splits.{length-slice_split}
use Rattle.ps_base.specs.Cuts.{after_front, before_end}
use Rattle.ps_base.specs.Names.{after_spaces, trim_end_spaces}
use Rattle.ps_base.proofs.CutLemmas.{before_end_is}
use Rattle.ps_packed.specs.Packed.{is_nil}
use Rattle.ps_packed.proofs.Unique.{Lacks, split_join}
use Rattle.ps_export.specs.Lines.{parts, clean, is_sign, is_bare, bare}
use Rattle.ps_export.specs.Written.{is_plain}

-- ---- parts

onto_append : (x : ℕ) (ps qs : List (List ℕ)) → 0 < length ps → onto_first x (ps ++ qs) ≡ onto_first x ps ++ qs
onto_append x [] qs lt = absurd (omega (arith, lt))
onto_append x (p ∷ ps) qs lt = refl

parts_some : (c : ℕ) (a : List ℕ) → 0 < length (parts c a)
parts_some c a = omega (arith, length-slice_split (λ b. b == c) a)

split_step : (c x : ℕ) (a b : List ℕ) (t : Bool) → eqb x c ≡ t → parts c (a ++ c ∷ b) ≡ parts c a ++ parts c b → parts c (x ∷ (a ++ c ∷ b)) ≡ parts c (x ∷ a) ++ parts c b
split_step c x a b true e h = rw (e, h) refl
split_step c x a b false e h = rw (e, h) (onto_append x (parts c a) (parts c b) (parts_some c a))

pub parts_append : (c : ℕ) (a b : List ℕ) → parts c (a ++ c ∷ b) ≡ parts c a ++ parts c b
parts_append c [] b = rw (eq-eqb c c refl) refl
parts_append c (x ∷ a) b = split_step c x a b (eqb x c) refl (parts_append c a b)

pub parts_none : (c : ℕ) (a : List ℕ) → Lacks c a → parts c a ≡ a ∷ []
parts_none c a h = split_join c a [] (h, tt)

pub lacks_append : (c : ℕ) (a b : List ℕ) → Lacks c a → Lacks c b → Lacks c (a ++ b)
lacks_append c a b p q = list_all-append (λ x. not (x == c)) a b ∙ and_from _ _ p q

pub two_parts : (c : ℕ) (a b : List ℕ) → Lacks c a → Lacks c b → parts c (a ++ c ∷ b) ≡ a ∷ b ∷ []
two_parts c a b p q = parts_append c a b ∙ rw (parts_none c a p, parts_none c b q) refl

-- ---- printed texts

-- no control character
abbrev pub Printed : List ℕ → Type 0
Printed text = list_all (λ b. leb 32 b) text ≡ true

pub printed_append : (a b : List ℕ) → Printed a → Printed b → Printed (a ++ b)
printed_append a b p q = list_all-append (λ x. leb 32 x) a b ∙ and_from _ _ p q

pub printed_lacks : (c : ℕ) (text : List ℕ) → c < 32 → Printed text → Lacks c text
printed_lacks c [] lt h = refl
printed_lacks c (b ∷ text) lt h =
    let a = and_parts (leb 32 b) (list_all (λ x. leb 32 x) text) h in
    let big : 32 ≤ b = leb-true _ _ a.0 in
    and_from _ _ (ap not (ne_eqb b c (λ z. omega (arith, z, big, lt)))) (printed_lacks c text lt a.1)

-- ---- ends

-- it ends in something else than a space
pub record EndsIn (text : List ℕ) : Type 0 where
  pub front : List ℕ
  pub last : ℕ
  pub is : text ≡ front ++ last ∷ []
  pub other : last ≢ 32

pub ends_append : (a b : List ℕ) → EndsIn b → EndsIn (a ++ b)
ends_append a b e = record { front = a ++ e.front; last = e.last; is = ap (λ (u : List ℕ). a ++ u) e.is ∙ sym (append_assoc a e.front (e.last ∷ [])); other = e.other }

other_kept : (b : ℕ) (text : List ℕ) → b ≢ 32 → after_spaces (b ∷ text) ≡ b ∷ text
other_kept b text ne = rw (ne_eqb b 32 ne) refl

pub trimmed : (text : List ℕ) → EndsIn text → trim_end_spaces text ≡ text
trimmed text e =
    let back : reverse (e.front ++ e.last ∷ []) ≡ e.last ∷ reverse e.front = reverse-append e.front (e.last ∷ []) in
    ap trim_end_spaces e.is ∙ ap (λ (u : List ℕ). reverse (after_spaces u)) back ∙ ap reverse (other_kept e.last (reverse e.front) e.other) ∙ ap reverse (sym back) ∙ reverse-reverse (e.front ++ e.last ∷ []) ∙ sym e.is

-- a line that is written means itself
pub clean_is : (line : List ℕ) → Printed line → EndsIn line → clean line ≡ line
unfolding clean
clean_is line p e = ap (λ (ps : List (List ℕ)). trim_end_spaces (concat ps)) (parts_none 13 line (printed_lacks 13 line (omega arith) p)) ∙ ap trim_end_spaces (append-nil line) ∙ trimmed line e

pub snoc : (b : ℕ) (text : List ℕ) → (front : List ℕ) × (last : ℕ) × (b ∷ text ≡ front ++ last ∷ [])
snoc b [] = ([], b, refl)
snoc b (c ∷ text) = let more = snoc c text in (b ∷ more.0, more.1, ap (λ (u : List ℕ). b ∷ u) more.2)

no_space : (text front : List ℕ) (last : ℕ) → text ≡ front ++ last ∷ [] → is_some (before_end (32 ∷ []) text) ≡ false → last ≢ 32
no_space text front last e none z = absurd (let some : before_end (32 ∷ []) text ≡ Some front = before_end_is text (32 ∷ []) front (e ∙ ap (λ (c : ℕ). front ++ c ∷ []) z) in let wrong : is_some (Some front) ≡ false = ap is_some (sym some) ∙ none in cc)

-- ---- plain texts

pub record IsPlain (text : List ℕ) : Type 0 where
  pub signs : list_all (λ b. not (is_sign b)) text ≡ true
  pub ends : is_nil text ≡ false → EndsIn text

plain_ends : (text : List ℕ) → is_some (before_end (32 ∷ []) text) ≡ false → is_nil text ≡ false → EndsIn text
plain_ends [] none e = absurd cc
plain_ends (b ∷ text) none e = let s = snoc b text in record { front = s.0; last = s.1; is = s.2; other = no_space (b ∷ text) s.0 s.1 s.2 none }

pub plain_facts : (text : List ℕ) → is_plain text ≡ true → IsPlain text
unfolding is_plain
plain_facts text e =
    let a = and_parts _ _ e in
    let b = and_parts _ _ a.0 in
    record { signs = b.0; ends = plain_ends text (not-true _ a.1) }

none_of_three : (a b c : Bool) → not (a || b || c) ≡ true → (not a ≡ true) × (not b ≡ true) × (not c ≡ true)
none_of_three false false false e = (refl, refl, refl)
none_of_three false false true e = absurd cc
none_of_three false true c e = absurd cc
none_of_three true b c e = absurd cc

pub signs_lack : (text : List ℕ) → list_all (λ b. not (is_sign b)) text ≡ true → Lacks 40 text × Lacks 41 text × Lacks 64 text
signs_lack [] e = (refl, refl, refl)
signs_lack (b ∷ text) e =
    let a = and_parts (not (is_sign b)) (list_all (λ x. not (is_sign x)) text) e in
    let here = none_of_three (eqb b 40) (eqb b 41) (eqb b 64) a.0 in
    let later = signs_lack text a.1 in
    (and_from _ _ here.0 later.0, and_from _ _ here.1 later.1, and_from _ _ here.2 later.2)

pub bare_is : (text : List ℕ) → is_nil text ≡ false → list_all (λ b. not (is_sign b)) text ≡ true → bare (Some text) ≡ Some text
unfolding is_bare
bare_is text some signs = rw (some, signs) refl

-- a key doesn't begin a text without a colon
pub no_key : (front text : List ℕ) → list_any (λ b. b == 58) text ≡ false → after_front (front ++ 58 ∷ []) text ≡ None
no_key [] [] h = refl
no_key [] (b ∷ text) h = first_other (eqb b 58) refl h
  where
    first_other : (t : Bool) → eqb b 58 ≡ t → (eqb b 58 || list_any (λ x. x == 58) text) ≡ false → cond (eqb 58 b) (Some text) None ≡ None
    first_other true e k = absurd (let wrong : true ≡ false = ap (λ (u : Bool). u || list_any (λ x. x == 58) text) (sym e) ∙ k in cc)
    first_other false e k = rw (ne_eqb 58 b (λ z. eqb-false b 58 e (sym z))) refl
no_key (f ∷ front) [] h = refl
no_key (f ∷ front) (b ∷ text) h = other_first f front b text (eqb f b) refl (no_key front text (second (eqb b 58) _ h))
  where
    second : (x y : Bool) → (x || y) ≡ false → y ≡ false
    second false y k = k
    second true y k = absurd cc

    other_first : (f : ℕ) (front : List ℕ) (b : ℕ) (text : List ℕ) (t : Bool) → eqb f b ≡ t → after_front (front ++ 58 ∷ []) text ≡ None → cond (eqb f b) (after_front (front ++ 58 ∷ []) text) None ≡ None
    other_first f front b text true e k = rw e k
    other_first f front b text false e k = rw e refl
