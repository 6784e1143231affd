-- The first values of a function, written index by index and read.
use Rattle.std.proofs.Common.{◌≡◌, ◌∙◌, ◌<◌, ◌+◌, ◌++◌, ◌∷◌, ℕ, zero, suc, Bool, true, false, List, [], arith, length, take, get_or, set, ltb, refl, sym, ap, add-one}
use Rattle.std.proofs.lemmas.Bool.{ltb-true, ltb-false}
use Rattle.std.proofs.lemmas.List.{take_more_set, take_all, length-append, get_or_append_left, get_or_push}
use Rattle.ps_mon.specs.Facts.{factor_at}
use Rattle.ps_dex.specs.declared.item.FactorItem.{FactorItem}
use Rattle.ps_dex.specs.Lookups.{factor_of}
use Rattle.ps_dex.specs.Figures.{listed, factors_of_attack, factor_table}

-- one more index is written
pub listed_more : {A : Type 0} (f : ℕ → A) (xs : List A) (n : ℕ) (y : A) → n < length xs → y ≡ f n → take n xs ≡ listed f n → take (n + 1) (set xs n y) ≡ listed f (n + 1)
listed_more f xs n y lt e so_far = take_more_set xs n y lt ∙ rw (so_far, e, add-one) refl

-- all indices are written
pub listed_all : {A : Type 0} (f : ℕ → A) (xs : List A) (n : ℕ) → length xs ≡ n → take n xs ≡ listed f n → xs ≡ listed f n
listed_all f xs n e so_far = sym (take_all n xs (omega (arith, e))) ∙ so_far

length-listed : {A : Type 0} (f : ℕ → A) (n : ℕ) → length (listed f n) ≡ n
length-listed f zero = refl
length-listed f (suc n) = length-append (listed f n) (f n ∷ []) ∙ rw (length-listed f n, add-one) refl

-- what stands at an index
pub listed_at : {A : Type 0} (f : ℕ → A) (n k : ℕ) (d : A) → k < n → get_or (listed f n) k d ≡ f k
listed_at f zero k d lt = absurd (omega (arith, lt))
listed_at f (suc n) k d lt = by_index (ltb k n) refl (listed_at f n k d) where
  by_index : (b : Bool) → ltb k n ≡ b → (k < n → get_or (listed f n) k d ≡ f k) → get_or (listed f n ++ f n ∷ []) k d ≡ f k
  by_index true e earlier = get_or_append_left (listed f n) (f n ∷ []) d k (rw (length-listed f n) (ltb-true k n e)) ∙ earlier (ltb-true k n e)
  by_index false e earlier = let same : k ≡ n = omega (arith, ltb-false k n e, lt) in rw same (get_or_push (listed f n) (f n) d n (length-listed f n))

-- the factor of a type on a type, in the table
pub table_factor : (items : List FactorItem) (attack defend : ℕ) → attack < 32 → defend < 32 → factor_at (factor_table items) attack defend ≡ factor_of items attack defend
unfolding factor_table factors_of_attack
table_factor items attack defend la ld = rw (listed_at (factors_of_attack items) 32 attack [] la) (listed_at (factor_of items attack) 32 defend 0 ld)
