-- The parts of a text round the first and the last of a byte.
use Rattle.std.proofs.Common.{◌≡◌, ◌≢◌, ℕ, suc, ◌<◌, List, [], ◌∷◌, ◌++◌, length, get_or, drop, Option, Some, None, MatchOption, refl, sym, ap, ◌∙◌, arith}
use Rattle.std.specs.Option.{option_map}
use Rattle.std.specs.Str.Pattern.{RFindsChar, SplitsAroundMatch}
use Rattle.std.proofs.lemmas.List.{take-append-drop}
use Rattle.std.proofs.lemmas.Str.Pattern.{IsSplitOnceResult, split_parts, drop_at_char, NoCharPasses-char}
use Rattle.std.proofs.lemmas.Bool.{ne_eqb, eq-eqb}
use denote.Ref.{Bor}
use Rattle.ps_lines.specs.Parts.{at_first, at_last}

abbrev pub Lacks : ℕ → List ℕ → Type 0
Lacks c text = (i : ℕ) → i < length text → get_or text i 0 ≢ c

tail_lacks : (c b : ℕ) (text : List ℕ) → Lacks c (b ∷ text) → Lacks c text
tail_lacks c b text h = λ i l. h (suc i) (omega arith)

at_first-append : (c : ℕ) (front back : List ℕ) → Lacks c front → at_first c (front ++ c ∷ back) ≡ Some (front, back)
at_first-append c [] back h = rw (eq-eqb c c refl) refl
at_first-append c (b ∷ front) back h = rw (ne_eqb b c (h 0 (omega arith)), at_first-append c front back (tail_lacks c b front h)) refl

at_first_none : (c : ℕ) (text : List ℕ) → Lacks c text → at_first c text ≡ None
at_first_none c [] h = refl
at_first_none c (b ∷ text) h = rw (ne_eqb b c (h 0 (omega arith)), at_first_none c text (tail_lacks c b text h)) refl

at_last_none : (c : ℕ) (text : List ℕ) → Lacks c text → at_last c text ≡ None
at_last_none c [] h = refl
at_last_none c (b ∷ text) h = rw (at_last_none c text (tail_lacks c b text h), ne_eqb b c (h 0 (omega arith))) refl

at_last-append : (c : ℕ) (front back : List ℕ) → Lacks c back → at_last c (front ++ c ∷ back) ≡ Some (front, back)
at_last-append c [] back h = rw (at_last_none c back h, eq-eqb c c refl) refl
at_last-append c (b ∷ front) back h = rw (at_last-append c front back h) refl

abbrev pub pair_of : Option (Bor (List ℕ) × Bor (List ℕ)) → Option (List ℕ × List ℕ)
pair_of r = option_map (λ parts. (parts.0.now, parts.1.now)) r

first_parts : (c : ℕ) (text : List ℕ) (r : Option (Bor (List ℕ) × Bor (List ℕ))) → MatchOption r (Lacks c text) (λ x. (text ≡ x.0.now ++ (c ∷ x.1.now)) × Lacks c x.0.now) → pair_of r ≡ at_first c text
first_parts c text None h = sym (at_first_none c text h)
first_parts c text (Some x) h = sym (ap (at_first c) h.0 ∙ at_first-append c x.0.now x.1.now h.1)

-- `split_once` at a byte
pub split_first : (c : ℕ) (text : List ℕ) (r : Option (Bor (List ℕ) × Bor (List ℕ))) → IsSplitOnceResult c text r → c < 128 → pair_of r ≡ at_first c text
split_first c text r h small = first_parts c text r (split_parts c text r h small)

-- `rsplit_once` at a byte
pub split_last : (c : ℕ) (text : List ℕ) (r : Option (Bor (List ℕ) × Bor (List ℕ))) → MatchOption r (RFindsChar c text None) (λ x. SplitsAroundMatch (RFindsChar c) text x.0.now x.1.now) → c < 128 → pair_of r ≡ at_last c text
split_last c text None h small = sym (at_last_none c text (λ i l. NoCharPasses-char c text i h small l))
split_last c text (Some x) h small =
    let here : drop h.0 text ≡ c ∷ drop h.1 text = drop_at_char c text h.0 h.1 h.2.1 small in
    let whole : text ≡ x.0.now ++ c ∷ x.1.now = sym (take-append-drop h.0 text) ∙ rw (here, ← h.3, ← h.4) refl in
    let none : Lacks c x.1.now = rw h.4 (λ i l. NoCharPasses-char c (drop h.1 text) i h.2.0 small l) in
    sym (ap (at_last c) whole ∙ at_last-append c x.0.now x.1.now none)
