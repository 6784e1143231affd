-- Bytes that a text lacks.
use Rattle.std.proofs.Common.{◌≡◌, ℕ, false, List, [], ◌∷◌, ◌++◌}
use Rattle.std.specs.Prelude.{◌==◌}
use Rattle.ps_base.specs.Characters as characters

abbrev pub Lacks : ℕ → List ℕ → Type 0
Lacks c [] = Unit {0}
Lacks c (b ∷ bs) = ((b == c) ≡ false) × Lacks c bs

abbrev pub LacksNewline : List ℕ → Type 0
LacksNewline text = Lacks characters.newline text

pub lacks_append : (c : ℕ) (xs ys : List ℕ) → Lacks c xs → Lacks c ys → Lacks c (xs ++ ys)
lacks_append c [] ys one two = two
lacks_append c (x ∷ xs) ys one two = (one.0, lacks_append c xs ys one.1 two)
