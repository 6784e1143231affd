-- The characters of a text, from those that `next` of `chars` gave.
use Rattle.std.proofs.Common.{◌≡◌, ℕ, List, [], ◌∷◌, ◌++◌, length, Ok, Err, ap, ◌∙◌}
use Rattle.std.specs.Char.{encode_utf8}
use Rattle.std.specs.Str.{chars, IsUtf8}
use Rattle.std.proofs.lemmas.Str.{chars-nil, chars_past_char, IsUtf8-past_char}
use Rattle.std.proofs.lemmas.List.{nil_from_length}
use Rattle.ps_lines.specs.Arguments.{symbol_at, only}
use Rattle.ps_lines.specs.declared.command.CommandFault.TheVariants.{BadArgs}

pub one_char : (which : ℕ) (text rest : List ℕ) (c : ℕ) → IsUtf8 text → text ≡ encode_utf8 c ++ rest → length rest ≡ 0 → symbol_at which text ≡ Ok c
one_char which text rest c u e none =
    let chars_are : chars text ≡ c ∷ [] = chars_past_char text rest c u e ∙ ap (λ (x : List ℕ). c ∷ chars x) (nil_from_length rest none) ∙ ap (λ (x : List ℕ). c ∷ x) chars-nil in
    ap (only which) chars_are

pub more_chars : (which : ℕ) (text rest more : List ℕ) (c d : ℕ) → IsUtf8 text → text ≡ encode_utf8 c ++ rest → rest ≡ encode_utf8 d ++ more → symbol_at which text ≡ Err (BadArgs which)
more_chars which text rest more c d u e f =
    let chars_are : chars text ≡ c ∷ d ∷ chars more = chars_past_char text rest c u e ∙ ap (λ (x : List ℕ). c ∷ x) (chars_past_char rest more d (IsUtf8-past_char text rest c u e) f) in
    ap (only which) chars_are
