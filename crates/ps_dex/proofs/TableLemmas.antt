-- The table of factors, and what a dex tells of its moves.
use Rattle.std.proofs.Common.{inl, inr, ℕ, zero, suc, ◌==◌, ◌&&◌, Bool, true, false, cond, List, [], ◌∷◌, map, refl, sym, subst, arith}
use Rattle.std.specs.Prelude.{All, slice_index}
use Rattle.std.proofs.lemmas.List.{length-map}
use Rattle.std.proofs.lemmas.List.Elements.{All-nil}
use Rattle.ps_mon.specs.declared.facts.MoveData.{MoveData}
use Rattle.ps_mon.specs.Facts.{IsFairMove, IsFactor, factor_at, struggle}
use Rattle.ps_dex.specs.declared.item.FactorItem.{FactorItem}
use Rattle.ps_dex.specs.declared.item.MoveItem.{MoveItem}
use Rattle.ps_dex.specs.declared.item.Tables.{Tables}
use Rattle.ps_dex.specs.Types.{is_special, is_contact}
use Rattle.ps_dex.specs.Lookups.{factor_of, built_in}
use Rattle.ps_dex.specs.Fit.{AreFit}
use Rattle.ps_dex.proofs.Holds.{all_cons}

abbrev IsItem : FactorItem → Type 0
IsItem r = IsFactor r.tenths

choose : (b : Bool) (m n : ℕ) → IsFactor m → IsFactor n → IsFactor (cond b m n)
choose true m n p q = p
choose false m n p q = q

pub factor_fits : (items : List FactorItem) → All IsItem items → (attack defend : ℕ) → IsFactor (factor_of items attack defend)
factor_fits [] all attack defend = inr (inr (inl refl))
factor_fits (r ∷ items) all attack defend =
    choose (r.attack == attack && r.defend == defend) r.tenths (factor_of items attack defend) (all zero r (omega arith))
    (factor_fits items (λ k d lt. all (suc k) d (omega (arith, lt))) attack defend)

pub numbers_fit : (moves : List MoveItem) → All (λ m. IsFairMove m.numbers) moves → All IsFairMove (map (λ m. m.numbers) moves)
numbers_fit [] all = All-nil IsFairMove
numbers_fit (m ∷ moves) all = all_cons IsFairMove m.numbers (map (λ m. m.numbers) moves) (all zero m (omega arith)) (numbers_fit moves (λ k d lt. all (suc k) d (omega (arith, lt))))
