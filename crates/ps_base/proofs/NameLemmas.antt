-- What is left between the spaces at both ends.
use Rattle.std.proofs.Common.{◌≡◌, ◌≢◌, ℕ, ◌-◌, List, [], ◌∷◌, ◌++◌, length, take, drop, Option, Some, None, refl, sym, ap, ◌∙◌, arith, lit<, inl, inr}
use Rattle.std.specs.Prelude.{reverse, IfSome}
use Rattle.std.specs.Str.Pattern.{CutsPrefixes, CutsSuffixes, IsFullyTrimmed, FindsCharPrefix, FindsCharSuffix, IsTrimStartMatches, IsTrimEndMatches}
use Rattle.std.proofs.lemmas.Bool.Decides.{eqb_tells}
use Rattle.std.proofs.lemmas.List.{take-append-drop, reverse-append, reverse-reverse}
use Rattle.std.proofs.Math.Seq.{drop-length}
use Rattle.std.proofs.lemmas.Str.{encode_ascii}
use Rattle.std.proofs.lemmas.Str.Pattern.{drop_at_char}
use Rattle.ps_base.specs.Names.{after_spaces, trim_end_spaces}

other_first : (text : List ℕ) → ((rest : List ℕ) → text ≢ 32 ∷ rest) → after_spaces text ≡ text
other_first [] h = refl
other_first (b ∷ text) h =
    elim (eqb_tells b 32) [
      | inl e ↦ absurd (h text (ap (λ (x : ℕ). x ∷ text) e.1))
      | inr e ↦ rw e.0 refl
    ]

cut_front : (text left : List ℕ) (n : ℕ) → FindsCharPrefix 32 text (Some n) → left ≡ drop n text → after_spaces text ≡ after_spaces left
cut_front text left n found e =
    let here : text ≡ 32 ∷ drop n text = drop_at_char 32 text 0 n found (lit< tt) in
    ap after_spaces here ∙ ap after_spaces (sym e)

cuts_front : (text : List ℕ) (ns : List ℕ) (left : List ℕ) → CutsPrefixes (FindsCharPrefix 32) text ns left → after_spaces text ≡ after_spaces left
cuts_front text [] left h = ap after_spaces (sym h)
cuts_front text (n ∷ ns) left h = cuts_front text ns h.0 h.1 ∙ cut_front h.0 left n h.2 h.3

front_done : (left : List ℕ) → IsFullyTrimmed (FindsCharPrefix 32) left → after_spaces left ≡ left
front_done left h = by_answer h.0 h.1 h.2
  where
    by_answer : (o : Option ℕ) → FindsCharPrefix 32 left o → IfSome o (λ n. n ≡ 0) → after_spaces left ≡ left
    by_answer None none zero = other_first left (λ rest e. none rest (rw (encode_ascii 32 (lit< tt)) e))
    by_answer (Some n) found zero = absurd (omega (arith, found.ends))

pub trimmed_front : (text left : List ℕ) → IsTrimStartMatches (FindsCharPrefix 32) text left → left ≡ after_spaces text
trimmed_front text left h = sym (cuts_front text h.0.0 left h.0.1 ∙ front_done left h.1)

last_space : (text left : List ℕ) (n : ℕ) → FindsCharSuffix 32 text (Some n) → left ≡ take (length text - n) text → text ≡ left ++ 32 ∷ []
last_space text left n found e =
    let here : drop (length text - n) text ≡ 32 ∷ drop (length text) text = drop_at_char 32 text (length text - n) (length text) found.1 (lit< tt) in
    let none : drop (length text) text ≡ [] = drop-length text in
    sym (take-append-drop (length text - n) text) ∙ rw (here, none, ← e) refl

cut_end : (text left : List ℕ) (n : ℕ) → FindsCharSuffix 32 text (Some n) → left ≡ take (length text - n) text → trim_end_spaces text ≡ trim_end_spaces left
cut_end text left n found e = ap trim_end_spaces (last_space text left n found e) ∙ ap (λ (x : List ℕ). reverse (after_spaces x)) (reverse-append left (32 ∷ []))

cuts_end : (text : List ℕ) (ns : List ℕ) (left : List ℕ) → CutsSuffixes (FindsCharSuffix 32) text ns left → trim_end_spaces text ≡ trim_end_spaces left
cuts_end text [] left h = ap trim_end_spaces (sym h)
cuts_end text (n ∷ ns) left h = cuts_end text ns h.0 h.1 ∙ cut_end h.0 left n h.2 h.3

no_last : (left : List ℕ) → ((front : List ℕ) → left ≢ front ++ 32 ∷ []) → (rest : List ℕ) → reverse left ≢ 32 ∷ rest
no_last left none rest e = none (reverse rest) (sym (reverse-reverse left) ∙ ap reverse e ∙ reverse-append (32 ∷ []) rest)

end_done : (left : List ℕ) → IsFullyTrimmed (FindsCharSuffix 32) left → trim_end_spaces left ≡ left
end_done left h = by_answer h.0 h.1 h.2
  where
    by_answer : (o : Option ℕ) → FindsCharSuffix 32 left o → IfSome o (λ n. n ≡ 0) → trim_end_spaces left ≡ left
    by_answer None none zero =
        ap reverse (other_first (reverse left) (no_last left (λ front e. none front (rw (encode_ascii 32 (lit< tt)) e)))) ∙ reverse-reverse left
    by_answer (Some n) found zero = absurd (omega (arith, found.0))

pub trimmed_end : (text left : List ℕ) → IsTrimEndMatches (FindsCharSuffix 32) text left → left ≡ trim_end_spaces text
trimmed_end text left h = sym (cuts_end text h.0.0 left h.0.1 ∙ end_done left h.1)
