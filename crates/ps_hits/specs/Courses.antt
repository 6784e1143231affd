-- A battle, the events told so far, and what a play of its two active members makes of them.
use Rattle.std.specs.Prelude.{ℕ, List, []}
use Rattle.arrayvec.specs.ArrayVec.{ArrayVec}
use Rattle.ps_event.specs.declared.event.Event.{Event}
use Rattle.ps_mon.specs.declared.record.Battle.{Battle}
use Rattle.ps_mon.specs.Duels.{duel_of, with_duel}
use Rattle.ps_hits.specs.Scenes.{Play}

pub record Course : Type 0 where
  pub battle : Battle
  pub told : List Event

-- the active member of side `user` plays against the other one
abbrev pub played : {A : Type 0} → Play A → ℕ → Course → Course
played row user before =
    let after = (row (record { duel = duel_of before.battle user; told = before.told })).1 in
    record { battle = with_duel before.battle user after.duel; told = after.told }

abbrev pub course : Battle → ArrayVec Event → Course
course battle events = record { battle = battle; told = events.items }

-- a battle of which nothing is told yet
abbrev pub untold : Battle → Course
untold battle = record { battle = battle; told = [] }
