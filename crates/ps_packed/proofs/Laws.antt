-- What each form keeps.
use Rattle.std.proofs.Common.{◌≡◌, ℕ, ◌+◌, ◌≤◌, ◌==◌, ◌&&◌, Bool, true, not, leb, List, [], ◌∷◌, ◌++◌, length, refl}
use Rattle.std.specs.List.{list_all}
use Rattle.std.specs.Prelude.{nat_lt}
use Rattle.std.proofs.lemmas.Bool.{and_parts, and_from}
use Rattle.ps_packed.specs.Forms.{Form, is_field_char, in_form}
use Rattle.ps_packed.specs.Scan.{prefix_ok, need}

-- a character of a field is no bar and no bracket
abbrev pub is_inner : ℕ → Bool
is_inner c = not (c == 124) && not (c == 93)

abbrev pub is_low : ℕ → Bool
is_low c = nat_lt c 128

pub record Laws (f : Form) : Type 0 where
  -- the text's fronts are told apart
  pub closed : (w r : List ℕ) → in_form f (w ++ r) ≡ true → prefix_ok f w ≡ true
  -- a front goes on to a text
  pub completes : (w : List ℕ) → prefix_ok f w ≡ true → (r : List ℕ) × (in_form f (w ++ r) ≡ true) × (length r ≡ need f w) × (list_all is_low r ≡ true)
  -- a character shortens what is needed by one at most
  pub slow : (w : List ℕ) (c : ℕ) → prefix_ok f (w ++ c ∷ []) ≡ true → need f w ≤ need f (w ++ c ∷ []) + 1
  pub full : (w : List ℕ) → in_form f w ≡ true → need f w ≡ 0
  pub plain : (w : List ℕ) → in_form f w ≡ true → list_all is_inner w ≡ true

pub field_inner : (w : List ℕ) → list_all is_field_char w ≡ true → list_all is_inner w ≡ true
field_inner [] e = refl
field_inner (c ∷ cs) e =
    let a = and_parts (is_field_char c) (list_all is_field_char cs) e in
    let h = and_parts (leb 32 c && not (c == 124)) (not (c == 93)) a.0 in
    let d = and_parts (leb 32 c) (not (c == 124)) h.0 in
    and_from _ _ (and_from _ _ d.1 h.1) (field_inner cs a.1)
