-- Who acts first where priorities decide nothing.
use Rattle.std.proofs.Common.{◌≡◌, ℕ, ℤ, true, false, int_lt}
use Rattle.ps_mon.specs.declared.record.Battle.{Battle}
use Rattle.ps_mon.specs.declared.choice.Choice.{Choice}
use Rattle.ps_mon.specs.declared.duel.Duel.{Duel}
use Rattle.ps_mon.specs.Facts.{Figures}
use Rattle.ps_mon.specs.Reading.{side_of}
use Rattle.ps_mon.specs.Duels.{duel_of}
use Rattle.ps_battle.specs.Chosen.{is_act, priority_of}
use Rattle.ps_battle.specs.Turns.{faster, ordered, first_of}

ordered-even : (p q : ℤ) (d : Duel) (x : ℕ) → int_lt q p ≡ false → int_lt p q ≡ false → ordered p q d x ≡ faster d x
unfolding ordered
ordered-even p q d x one two = rw one (rw two)

pub first-even : (facts : Figures) (c1 c2 : Choice) (b : Battle) (p q : ℤ) → is_act c1 ≡ true → is_act c2 ≡ true → p ≡ priority_of facts (side_of b 0) c1 → q ≡ priority_of facts (side_of b 1) c2 → int_lt q p ≡ false → int_lt p q ≡ false → first_of facts c1 c2 b ≡ faster (duel_of b 0) b.rng
unfolding first_of
first-even facts c1 c2 b p q act1 act2 ep eq one two =
    rw act1 (rw act2 (rw (← ep) (rw (← eq) (ordered-even p q (duel_of b 0) b.rng one two))))
