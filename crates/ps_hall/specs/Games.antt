-- For the code: how many battles have started, and those that weren't reported, found by number and by player.
use Rattle.std.specs.Prelude.{◌≡◌, ℕ, ◌+◌, List, [], ◌∷◌, ◌++◌}
use Rattle.hall_index.specs.Numbered.{AreBelow, items_of}
use Rattle.hall_index.specs.IdIndices.{IsIndexed}
use Rattle.ps_hall.specs.declared.game.Game.{Game}
use Rattle.ps_hall.specs.declared.games.Table.{Table}
use Rattle.ps_hall.specs.Lookups.{plays}

-- how many battles have started, and those of them that weren't reported yet, in order
pub record Played : Type 0 where
  pub started : ℕ
  pub list : List Game

abbrev pub played_of : Table → Played
played_of table = record { started = table.started; list = items_of table.games }

-- the next battle has started
abbrev pub with_next : Played → Game → Played
with_next played game = record { started = played.started + 1; list = played.list ++ game ∷ [] }

-- each battle stands at its number
abbrev pub AreNumbered : List (ℕ × Game) → Type 0
AreNumbered [] = Unit {0}
AreNumbered (entry ∷ entries) = (entry.0 ≡ entry.1.number) × AreNumbered entries

-- the battles stand at their numbers, of those that have started, and the index finds each at its players' ids
pub record AreKept (table : Table) : Type 0 where
  pub below : AreBelow (table.started + 1) table.games
  pub numbered : AreNumbered table.games
  pub indexed : IsIndexed plays (table.started + 1) table.games table.players
