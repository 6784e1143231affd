-- Each form of a line is read in one way only.
use Rattle.std.proofs.Common.{◌≡◌, ◌≢◌, ℕ, suc, ◌^◌, ◌<◌, List, [], ◌∷◌, ◌++◌, length, get_or, codes, Some, None, refl, sym, ap, ◌∙◌, subst, arith, append_assoc}
use Rattle.std.proofs.lemmas.List.{append_cancel_left, length-append}
use Rattle.std.proofs.Math.Seq.{get_or-append_seam}
use Rattle.std.specs.Fmt.{decimal}
use Rattle.std.proofs.lemmas.Fmt.{decimal_is_IsNumeral}
use Rattle.std.proofs.Math.Utf8.{encode}
use Rattle.std.proofs.lemmas.Str.{encode_same, length-le-encodes}
use Rattle.std.proofs.lemmas.Str.Parse.{digit_at}
use Rattle.ps_base.specs.Ids.{id_in}
use Rattle.ps_base.specs.Numbers.{IsNumeral}
use Rattle.replay_script.specs.Items.{IsNumber, IsSend, IsGroup, IsCharFirst}

pub no_number : (front line rest : List ℕ) → line ≡ front ++ rest → ((n : ℕ) → IsNumeral rest n → ⊥) → (n : ℕ) → IsNumber front line n → ⊥
no_number front line rest e none n h =
    let same : h.digits ≡ rest = append_cancel_left front h.digits rest (sym h.spelled ∙ e) in
    none n (subst (λ (x : List ℕ). IsNumeral x n) same h.numeral)

abbrev pub NoSpace : List ℕ → Type 0
NoSpace xs = (i : ℕ) → i < length xs → get_or xs i 0 ≢ 32

-- parts round the first space are the same parts
pub first_space : (xs ys us vs : List ℕ) → xs ++ 32 ∷ ys ≡ us ++ 32 ∷ vs → NoSpace xs → NoSpace us → (xs ≡ us) × (ys ≡ vs)
first_space [] ys [] vs e p q = (refl, cc)
first_space [] ys (u ∷ us) vs e p q = absurd (q 0 (omega arith) cc)
first_space (x ∷ xs) ys [] vs e p q = absurd (p 0 (omega arith) cc)
first_space (x ∷ xs) ys (u ∷ us) vs e p q =
    let tails : xs ++ 32 ∷ ys ≡ us ++ 32 ∷ vs = cc in
    let heads : x ≡ u = cc in
    let r = first_space xs ys us vs tails (λ i h. p (suc i) (omega arith)) (λ i h. q (suc i) (omega arith)) in
    (cc (heads, r.0), r.1)

pub numeral_no_space : (xs : List ℕ) (n : ℕ) → IsNumeral xs n → NoSpace xs
numeral_no_space xs n h i lt e =
    let small : n < 2 ^ 64 = omega (arith, h.small) in
    let d = digit_at (decimal n) i (decimal_is_IsNumeral n small).0.1 (rw h.spelled at lt) in
    let f = rw h.spelled at e in
    omega (arith, d.0, f)

pub no_space : (line rest : List ℕ) → line ≡ codes ">" ++ rest → NoSpace rest → (n : ℕ) (text : List ℕ) → IsSend line n text → ⊥
no_space line rest e none n text h =
    let same : h.digits ++ 32 ∷ text ≡ rest = append_cancel_left (codes ">") (h.digits ++ 32 ∷ text) rest (sym (append_assoc (codes ">") h.digits (32 ∷ text)) ∙ sym h.spelled ∙ e) in
    let here : get_or rest (length h.digits) 0 ≡ 32 = ap (λ (x : List ℕ). get_or x (length h.digits) 0) (sym same) ∙ get_or-append_seam h.digits 32 text 0 in
    none (length h.digits) (omega (arith, ap length same, length-append h.digits (32 ∷ text))) here

pub no_send : (line rest digits text : List ℕ) → line ≡ codes ">" ++ rest → rest ≡ digits ++ 32 ∷ text → NoSpace digits → ((n : ℕ) → IsNumeral digits n → ⊥) → (n : ℕ) (t : List ℕ) → IsSend line n t → ⊥
no_send line rest digits text e f first none n t h =
    let same : h.digits ++ 32 ∷ t ≡ rest = append_cancel_left (codes ">") (h.digits ++ 32 ∷ t) rest (sym (append_assoc (codes ">") h.digits (32 ∷ t)) ∙ sym h.spelled ∙ e) in
    let parts = first_space h.digits t digits text (same ∙ f) (numeral_no_space h.digits n h.numeral) first in
    none n (subst (λ (x : List ℕ). IsNumeral x n) parts.0 h.numeral)

pub char_some : (c : ℕ) → 0 < length (encode c)
char_some c = omega (arith, length-le-encodes (c ∷ []), length-append (encode c) [])

-- the parts of a group's line are the same parts
pub group_parts : (line rest : List ℕ) (symbol : ℕ) (id : List ℕ) → line ≡ codes "G " ++ rest → IsGroup line symbol id → rest ≡ encode symbol ++ 32 ∷ id
group_parts line rest symbol id e g = append_cancel_left (codes "G ") _ _ (sym e ∙ g.spelled)

pub no_char : (text : List ℕ) (c : ℕ) (rest : List ℕ) → length text ≡ 0 → IsCharFirst text c rest → ⊥
no_char text c rest none e = omega (arith, none, char_some c, ap length e, length-append (encode c) rest)

-- a group's line goes on with its symbol, a space and its id
group_more : (line rest more : List ℕ) (c d : ℕ) (id : List ℕ) → line ≡ codes "G " ++ rest → IsCharFirst rest c more → IsGroup line d id → more ≡ 32 ∷ id
group_more line rest more c d id e f g = (encode_same c d more (32 ∷ id) (sym f ∙ group_parts line rest d id e g)).1

pub no_group_space : (line rest more : List ℕ) (c : ℕ) → line ≡ codes "G " ++ rest → IsCharFirst rest c more → ((x : List ℕ) → more ≢ 32 ∷ x) → (d : ℕ) (id : List ℕ) → IsGroup line d id → ⊥
no_group_space line rest more c e f none d id g = none id (group_more line rest more c d id e f g)

pub no_group_id : (line rest more word : List ℕ) (c : ℕ) → line ≡ codes "G " ++ rest → IsCharFirst rest c more → more ≡ 32 ∷ word → id_in word ≡ None → (d : ℕ) (id : List ℕ) → IsGroup line d id → ⊥
no_group_id line rest more word c e f m none d id g =
    let both : 32 ∷ word ≡ 32 ∷ id = sym m ∙ group_more line rest more c d id e f g in
    let same : word ≡ id = cc in
    let clash : None ≡ Some id = sym none ∙ ap id_in same ∙ g.named in
    absurd cc
