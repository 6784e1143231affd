-- 48ths of a whole: no more than 48 of what isn't more than the whole, and 48 of the whole alone.
use Rattle.std.proofs.Common.{◌≡◌, ℕ, ◌+◌, ◌*◌, ◌/◌, ◌<◌, ◌≤◌, ◌↔◌, sym, subst, inl, inr, arith}
use Rattle.std.proofs.lemmas.Bool.{cases_lt}
use Rattle.std.proofs.lemmas.Nat.{div_below, div-mul-add}

pub share_within : (hp most : ℕ) → hp ≤ most → 0 < most → 48 * hp / most ≤ 48
share_within hp most le low = let h : 48 * hp / most < 49 = div_below (48 * hp) most 49 low (omega (arith, le, low)) in omega (arith, h)

part_share : (hp most : ℕ) → hp < most → 48 * hp / most < 48
part_share hp most lt = div_below (48 * hp) most 48 (omega (arith, lt)) (omega (arith, lt))

full_share : (most : ℕ) → 0 < most → 48 * most / most ≡ 48
full_share most low = let h : (48 * most + 0) / most ≡ 48 = div-mul-add 48 most 0 low in grind (arith, h)

whole_alone : (hp most : ℕ) → hp ≤ most → 48 * hp / most ≡ 48 → hp ≡ most
whole_alone hp most le e = elim (cases_lt hp most) [
  | inl lt ↦ absurd (let h : 48 * hp / most < 48 = part_share hp most lt in omega (arith, h, e))
  | inr ge ↦ omega (arith, le, ge)
]

pub whole_share : (hp most : ℕ) → hp ≤ most → 0 < most → (48 * hp / most ≡ 48) ↔ (hp ≡ most)
whole_share hp most le low = (λ e. whole_alone hp most le e, λ e. subst (λ (n : ℕ). 48 * n / most ≡ 48) (sym e) (full_share most low))
