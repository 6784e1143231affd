-- What a line is printed as behind the digits of its connection.
use Rattle.std.proofs.Common.{◌≡◌, ◌≢◌, ℕ, suc, false, List, [], ◌∷◌, ◌++◌, codes, append_assoc, refl, sym, ap, ◌∙◌, arith}
use Rattle.std.specs.Prelude.{◌==◌}
use Rattle.std.proofs.lemmas.Bool.Decides.{nat_tests}
use Rattle.std.proofs.lemmas.List.Concat.{flat_map-append}
use Rattle.replay_state.specs.Transcript.{HasNoNewline, byte_behind, line_behind}

plain_byte : (digits : List ℕ) (b : ℕ) → b ≢ 10 → byte_behind digits b ≡ b ∷ []
plain_byte digits b other = let test : (b == 10) ≡ false = grind (arith, nat_tests) in rw test refl

-- one without a newline is printed as it stands
pub plain_line : (digits line : List ℕ) → HasNoNewline line → line_behind digits line ≡ line
plain_line digits [] plain = refl
plain_line digits (b ∷ line) plain =
    ap (λ (front : List ℕ). front ++ line_behind digits line) (plain_byte digits b (plain 0 (omega arith)))
    ∙ ap (λ (rest : List ℕ). b ∷ rest) (plain_line digits line (λ i lt. plain (suc i) (omega (arith, lt))))

-- and behind its first newline the number stands again
pub parted_line : (digits line part rest : List ℕ) → line ≡ part ++ 10 ∷ rest → HasNoNewline part
    → line_behind digits line ≡ (part ++ (10 ∷ digits ++ codes ". ")) ++ line_behind digits rest
parted_line digits line part rest is plain =
    ap (line_behind digits) is
    ∙ flat_map-append (byte_behind digits) part (10 ∷ rest)
    ∙ ap (λ (front : List ℕ). front ++ line_behind digits (10 ∷ rest)) (plain_line digits part plain)
    ∙ sym (append_assoc part (10 ∷ digits ++ codes ". ") (line_behind digits rest))
