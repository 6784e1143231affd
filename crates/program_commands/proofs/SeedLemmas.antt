-- Which texts are seeds: those that a number's text is again.
use Rattle.std.proofs.Common.{◌≡◌, ◌≢◌, ℕ, ◌^◌, ◌<◌, Bool, true, false, cond, ltb, ◌&&◌, List, Some, None, Result, Ok, Err, refl, sym, ap, ◌∙◌, arith}
use Rattle.std.specs.Fmt.{decimal}
use Rattle.std.specs.Str.{bytes_eq}
use Rattle.std.specs.Str.Parse.{ParsesUnsigned, digits_value}
use Rattle.std.proofs.lemmas.Bool.{and_parts}
use Rattle.std.proofs.lemmas.Bool.Decides.{nat_tests}
use Rattle.std.proofs.lemmas.Fmt.{decimal_is_IsNumeral, parse-decimal}
use Rattle.std.proofs.lemmas.Slice.Eq.{bytes_eq-Decides}
use Rattle.program_commands.specs.Words.{seed_in}

pub seed_is : (text : List ℕ) (n : ℕ) → text ≡ decimal n → n < 2 ^ 64 → seed_in text ≡ Some n
unfolding seed_in
seed_is text n spelled small =
    let e : digits_value 10 text ≡ n = rw spelled ((decimal_is_IsNumeral n small).1) in
    let same : bytes_eq text (decimal n) ≡ true = (bytes_eq-Decides text (decimal n)).1 spelled in
    let few : ltb n (2 ^ 64) ≡ true = grind (arith, nat_tests, small) in
    rw (e, same, few) refl

seed_none : (text : List ℕ) → ((n : ℕ) → text ≡ decimal n → n < 2 ^ 64 → ⊥) → seed_in text ≡ None
unfolding seed_in
seed_none text none = by_test _ refl
  where
    by_test : (b : Bool) → (bytes_eq text (decimal (digits_value 10 text)) && ltb (digits_value 10 text) (2 ^ 64)) ≡ b → cond b (Some (digits_value 10 text)) None ≡ None
    by_test true e =
        let t = and_parts _ _ e in
        let small : digits_value 10 text < 2 ^ 64 = grind (arith, nat_tests, t.1) in
        absurd (none (digits_value 10 text) ((bytes_eq-Decides text (decimal (digits_value 10 text))).0 t.0) small)
    by_test false e = refl

-- a text that isn't read as a number
pub no_seed : {E : Type 0} (text : List ℕ) (e : E) → ParsesUnsigned 64 10 text (Err e) → seed_in text ≡ None
no_seed text e parsed = seed_none text (λ n spelled small. let k : Err e ≡ Ok n = parse-decimal 64 n text (Err e) small small spelled parsed in cc)

-- one that is read as a number, but isn't its text
pub other_seed : {E : Type 0} (text : List ℕ) (m : ℕ) (r : Result ℕ E) → r ≡ Ok m → ParsesUnsigned 64 10 text r → text ≢ decimal m → seed_in text ≡ None
other_seed text m r is parsed other = seed_none text (λ n spelled small. let k : r ≡ Ok n = parse-decimal 64 n text r small small spelled parsed in let same : n ≡ m = cc in other (spelled ∙ ap decimal same))
