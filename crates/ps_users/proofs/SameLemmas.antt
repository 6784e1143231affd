-- Two texts are the same where no bits differ.
use Rattle.std.proofs.Common.{◌≡◌, ◌↔◌, ℕ, ◌+◌, ◌<◌, List, length, min, get_or, take, bit_or, bit_xor, sym, ap, ◌∙◌, arith}
use Rattle.std.proofs.lemmas.List.{take_more_same, take_all}
use Rattle.std.proofs.lemmas.Nat.{le_or_l, le_or_r, and_le_l, and_le_r}
use Rattle.std.specs.Int.Bits.{xor_self, xor_add_and}

-- of the first so many bytes
pub record IsCompared (one other : List ℕ) (n bits : ℕ) : Type 0 where
  pub same : bits ≡ 0 → take n one ≡ take n other
  pub alike : one ≡ other → bits ≡ 0

xor_tells : (a b : ℕ) → bit_xor a b ≡ 0 → a ≡ b
xor_tells a b none = omega (arith, xor_add_and a b, and_le_l a b, and_le_r a b)

xor_alike : (a b : ℕ) → a ≡ b → bit_xor a b ≡ 0
xor_alike a b same = ap (λ (x : ℕ). bit_xor x b) same ∙ xor_self b

pub next_compared : (one other : List ℕ) (n m bits a b : ℕ) → m ≡ n + 1 → IsCompared one other n bits → n < length one → n < length other → a ≡ get_or one n 0 → b ≡ get_or other n 0 → IsCompared one other m (bit_or bits (bit_xor a b))
next_compared one other n m bits a b next before in_one in_other is_a is_b = rw next (record {
  same = λ none. take_more_same one other n 0 in_one in_other
      (before.same (omega (arith, le_or_l bits (bit_xor a b), none)))
      (sym is_a ∙ xor_tells a b (omega (arith, le_or_r bits (bit_xor a b), none)) ∙ is_b);
  alike = λ e. ap (λ (x : ℕ). bit_or x (bit_xor a b)) (before.alike e) ∙ ap (λ (x : ℕ). bit_or 0 x) (xor_alike a b (is_a ∙ ap (λ (xs : List ℕ). get_or xs n 0) e ∙ sym is_b));
})

pub all_compared : (one other : List ℕ) (n bits : ℕ) → length one ≡ length other → n ≡ min (length one) (length other) → IsCompared one other n bits → bits ≡ 0 ↔ one ≡ other
all_compared one other n bits long all c = (
  λ none. sym (take_all n one (omega arith)) ∙ c.same none ∙ take_all n other (omega arith),
  c.alike,
)
