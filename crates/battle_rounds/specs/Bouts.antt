-- A battle in its rounds: the number of the open one, and the choices that wait for the other side's.
use Rattle.std.specs.Prelude.{◌≡◌, ℕ, zero, suc, true, Option, None, IfSome}
use Rattle.ps_mon.specs.declared.record.Battle.{Battle}
use Rattle.ps_mon.specs.declared.choice.Choice.{Choice}
use Rattle.ps_mon.specs.Facts.{Figures}
use Rattle.ps_mon.specs.Choices.{is_asked, legal}
use Rattle.ps_mon.specs.Known.{AreFairFor}
use Rattle.ps_mon.specs.Valid.{IsValid}
use Rattle.battle_rounds.specs.declared.bout.Bout.{Bout}

-- the choice of a side that waits
abbrev pub waiting : Bout → ℕ → Option Choice
waiting bout zero = bout.first
waiting bout (suc side) = bout.second

abbrev pub with_waiting : ℕ → Option Choice → Bout → Bout
with_waiting zero choice bout = record bout { first = choice }
with_waiting (suc side) choice bout = record bout { second = choice }

-- a choice may wait where its side is asked and it is legal
pub record CanWait (battle : Battle) (side : ℕ) (choice : Choice) : Type 0 where
  pub asked : is_asked battle.phase side ≡ true
  pub legal : legal battle side choice ≡ None

-- the battle is one, its moves are those of the figures, and what waits may
pub record IsBout (facts : Figures) (bout : Bout) : Type 0 where
  pub valid : IsValid bout.battle
  pub fair : AreFairFor facts bout.battle
  pub first : IfSome bout.first (CanWait bout.battle 0)
  pub second : IfSome bout.second (CanWait bout.battle 1)
