-- What the parser knows of the fields that it reads.
use Rattle.std.proofs.Common.{◌≡◌, ◌≢◌, ℕ, zero, suc, ◌+◌, ◌<◌, ◌≤◌, ◌&&◌, Bool, true, false, eqb, List, [], ◌∷◌, ◌++◌, length, get_or, map, take, Bor, Option, refl, sym, ap, subst, ◌∙◌, inl, inr, arith}
use Rattle.std.specs.Char.{encode_utf8}
use Rattle.std.specs.Str.{encode_utf8_all}
use Rattle.std.specs.List.{AllByRecursion, list_all}
use Rattle.std.proofs.lemmas.Bool.{ne_eqb, and_parts}
use Rattle.std.proofs.lemmas.List.{append-nil, take_more, length-map}
use Rattle.std.proofs.lemmas.Str.{encodes-append}
use Rattle.ps_packed.specs.Forms.{is_number, number_of, parts, is_zero, is_spread, evs, ivs, level, in_form, form_of}
use Rattle.ps_packed.specs.Packed.{is_nil, or_other, AreFields, AreFieldTexts, field, set_of}
use Rattle.ps_packed.proofs.Unique.{pieces_long}
use Rattle.ps_packed.proofs.LevelLaws.{level_facts}
use Rattle.ps_packed.proofs.SpreadLaws.{spread_cases, numbers_facts}

pub text_grows : (word : List ℕ) (i x : ℕ) (old new : List ℕ) → i < length word → x ≡ get_or word i x → old ≡ encode_utf8_all (take i word) → new ≡ old ++ encode_utf8 x → new ≡ encode_utf8_all (take (i + 1) word)
text_grows word i x old new lt is before more =
    let later : encode_utf8_all (take (i + 1) word) ≡ encode_utf8_all (take i word) ++ encode_utf8 x = ap encode_utf8_all (take_more word i x lt) ∙ encodes-append (take i word) (get_or word i x ∷ []) ∙ ap (λ (u : List ℕ). encode_utf8_all (take i word) ++ u) (append-nil (encode_utf8 (get_or word i x))) ∙ ap (λ (y : ℕ). encode_utf8_all (take i word) ++ encode_utf8 y) (sym is) in
    more ∙ ap (λ (u : List ℕ). u ++ encode_utf8 x) before ∙ sym later

each_number : (most : ℕ) (ps : List (List ℕ)) → list_all (is_number most) ps ≡ true → AllByRecursion (λ p. is_number most p ≡ true) ps
each_number most [] e = tt
each_number most (p ∷ ps) e = let a = and_parts (is_number most p) (list_all (is_number most) ps) e in (a.0, each_number most ps a.1)

-- six numbers
pub record AreSix (most : ℕ) (ps : List (Bor (List ℕ))) : Type 0 where
  pub six : length ps ≡ 6
  pub numbers : AllByRecursion (λ p. is_number most p ≡ true) (map (λ x. x.now) ps)

spread_six : (zero_alone : Bool) (most : ℕ) (w : List ℕ) (ps : List (Bor (List ℕ))) → is_spread zero_alone most w ≡ true → length w ≢ 0 → (zero_alone && is_zero w) ≡ false → map (λ x. x.now) ps ≡ parts w → AreSix most ps
spread_six zero_alone most [] ps e some not_zero are = absurd (some refl)
spread_six zero_alone most (c ∷ w) ps e some not_zero are = elim (spread_cases zero_alone most c w e) [
  | inl h ↦ absurd (let wrong : false ≡ true = sym not_zero ∙ ap (λ (b : Bool). b && is_zero (c ∷ w)) h.0 ∙ h.1 in cc)
  | inr h ↦ record {
    six = pieces_long ps (parts (c ∷ w)) are ∙ h.1;
    numbers = subst (AllByRecursion (λ p. is_number most p ≡ true)) (sym are) (each_number most (parts (c ∷ w)) (numbers_facts most (c ∷ w) h.0).each);
  }
]

pub evs_six : (w : List ℕ) (ps : List (Bor (List ℕ))) → in_form evs w ≡ true → length w ≢ 0 → is_zero w ≡ false → map (λ x. x.now) ps ≡ parts w → AreSix 255 ps
unfolding in_form
evs_six w ps e some not_zero are = spread_six true 255 w ps e some not_zero are

pub ivs_six : (w : List ℕ) (ps : List (Bor (List ℕ))) → in_form ivs w ≡ true → length w ≢ 0 → map (λ x. x.now) ps ≡ parts w → AreSix 31 ps
unfolding in_form
ivs_six w ps e some are = spread_six false 31 w ps e some refl are

pub level_number : (w : List ℕ) → in_form level w ≡ true → (length w ≤ 3) × (number_of w ≤ 100)
unfolding in_form
level_number [] e = (omega arith, omega arith)
level_number (c ∷ w) e = let f = level_facts c w e in (f.number.short, f.number.small)

-- each field is of its form
pub from_field : (k : ℕ) (ws : List (List ℕ)) (i j : ℕ) → AreFields k ws → i < length ws → j ≡ k + i → in_form (form_of j) (field ws i) ≡ true
from_field k [] i j h lt e = absurd h
from_field k (w ∷ []) zero j h lt e = let same : j ≡ k = omega (arith, e) in rw same h.0
from_field k (w ∷ []) (suc i) j h lt e = absurd (omega (arith, lt))
from_field k (w ∷ x ∷ ws) zero j h lt e = let same : j ≡ k = omega (arith, e) in rw same h.0
from_field k (w ∷ x ∷ ws) (suc i) j h lt e = from_field (suc k) (x ∷ ws) i j h.2 (omega (arith, lt)) (omega (arith, e))

pub not_empty : (w : List ℕ) → eqb (length w) 0 ≡ false → length w ≢ 0
not_empty [] e h = cc
not_empty (c ∷ w) e h = omega (arith, h)

-- the pieces of a set's text are its fields
pub mapped_at : (fs : List (Bor (List ℕ))) (i : ℕ) (d : Bor (List ℕ)) → i < length fs → (get_or fs i d).now ≡ field (map (λ x. x.now) fs) i
mapped_at [] i d lt = absurd (omega (arith, lt))
mapped_at (f ∷ fs) zero d lt = refl
mapped_at (f ∷ fs) (suc i) d lt = mapped_at fs i d (omega (arith, lt))

pub piece_fits : (fs : List (Bor (List ℕ))) (i : ℕ) (d : Bor (List ℕ)) → AreFieldTexts (map (λ x. x.now) fs) → i < length fs → in_form (form_of i) (get_or fs i d).now ≡ true
piece_fits fs i d h lt = rw (mapped_at fs i d lt) (from_field 0 (map (λ x. x.now) fs) i i h.0 (rw (length-map fs (λ (x : Bor (List ℕ)). x.now)) lt) (omega arith))

pub nil_shows : (w : List ℕ) → eqb (length w) 0 ≡ is_nil w
nil_shows [] = refl
nil_shows (c ∷ w) = ne_eqb _ _ (λ z. omega (arith, z))

pub set_is : (ws : List (List ℕ)) (n s i a : List ℕ) (m : List (List ℕ)) (t e : List ℕ) (g : Option ℕ) (v : List ℕ) (h : Bool) (l : ℕ) (x : List ℕ) →
    n ≡ (set_of ws).nick → s ≡ (set_of ws).species → i ≡ (set_of ws).item → a ≡ (set_of ws).ability → m ≡ (set_of ws).moves → t ≡ (set_of ws).nature →
    e ≡ (set_of ws).evs → g ≡ (set_of ws).gender → v ≡ (set_of ws).ivs → h ≡ (set_of ws).shiny → l ≡ (set_of ws).level → x ≡ (set_of ws).misc →
    record { nick = n; species = s; item = i; ability = a; moves = m; nature = t; evs = e; gender = g; ivs = v; shiny = h; level = l; misc = x } ≡ set_of ws
set_is ws n s i a m t e g v h l x e1 e2 e3 e4 e5 e6 e7 e8 e9 e10 e11 e12 = rw (e1, e2, e3, e4, e5, e6, e7, e8, e9, e10, e11, e12) refl

pub same_other : (a b x y : List ℕ) → a ≡ x → b ≡ y → or_other a b ≡ or_other x y
same_other a b x y e h = rw (e, h) refl
