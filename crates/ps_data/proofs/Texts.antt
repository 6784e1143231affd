-- The test of UTF-8.
use Rattle.std.proofs.Common.{◌≡◌, Bool, true, false, List, ℕ, refl}
use Rattle.std.specs.Str.{IsUtf8, is_utf8}
use Rattle.std.proofs.lemmas.Str.{IsUtf8-from_is_utf8}

by_test : (b : Bool) (P : Type 0) → (b ≡ true → P) → ¬ P → b ≡ false
by_test true P f n = absurd (n (f refl))
by_test false P f n = refl

pub no_utf8 : (bs : List ℕ) → ¬ (IsUtf8 bs) → is_utf8 bs ≡ false
no_utf8 bs n = by_test (is_utf8 bs) (IsUtf8 bs) (IsUtf8-from_is_utf8 bs) n
