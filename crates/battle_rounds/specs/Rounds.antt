-- What choices, undos and forfeits do to a battle, and what is told of it.
use Rattle.std.specs.Prelude.{ℕ, ◌+◌, ◌-◌, ◌^◌, min, Bool, not, ◌||◌, ◌&&◌, List, [], ◌∷◌, Option, Some, None, is_some, if◌then◌else◌}
use Rattle.arrayvec.specs.ArrayVec.{ArrayVec}
use Rattle.ps_event.specs.declared.event.Event.{Event}
use Rattle.ps_event.specs.declared.event.Event.TheVariants as events
use Rattle.ps_mon.specs.declared.choice.Choice.{Choice}
use Rattle.ps_mon.specs.declared.choice.Choice.TheVariants as choices
use Rattle.ps_mon.specs.declared.record.Phase.{Phase}
use Rattle.ps_mon.specs.declared.record.Phase.TheVariants as phases
use Rattle.ps_mon.specs.declared.team.BattleTeam.{BattleTeam}
use Rattle.ps_mon.specs.Facts.{Figures}
use Rattle.ps_mon.specs.Choices.{is_asked}
use Rattle.ps_mon.specs.Valid.{is_over}
use Rattle.ps_hits.specs.Courses.{Course, untold}
use Rattle.ps_hits.specs.Told.{side_name}
use Rattle.ps_battle.specs.Openings.{open_course, give_up}
use Rattle.ps_battle.specs.Turns.{turn}
use Rattle.battle_rounds.specs.declared.bout.Bout.{Bout}
use Rattle.battle_rounds.specs.declared.finish.Finish.{Finish}
use Rattle.battle_rounds.specs.declared.finish.Finish.TheVariants as finishes
use Rattle.battle_rounds.specs.Bouts.{waiting, with_waiting}

-- the battle in its rounds after something, and the events of it
pub record Outcome : Type 0 where
  pub bout : Bout
  pub told : List Event

abbrev pub outcome : Bout → ArrayVec Event → Outcome
outcome bout events = record { bout = bout; told = events.items }

-- a round is open, and nothing waits
abbrev pub in_round : ℕ → Course → Outcome
in_round round course = record { bout = record { battle = course.battle; round = round; first = None; second = None }; told = course.told }

-- the opening: the first round is open
unfoldable pub opened : List BattleTeam → ℕ → ℕ → Outcome
opened teams clauses seed = in_round 1 (open_course teams clauses seed)

-- the number of the round after one; it stands still at the last
abbrev pub next_round : ℕ → ℕ
next_round round = min (round + 1) (2 ^ 32 - 1)

-- a side has chosen, or isn't asked
abbrev pub is_ready : Bout → ℕ → Bool
is_ready bout side = not (is_asked bout.battle.phase side) || is_some (waiting bout side)

abbrev pub choice_or_pass : Option Choice → Choice
choice_or_pass (Some choice) = choice
choice_or_pass None = choices.Pass

-- what waits is committed, and the next round opens
unfoldable pub committed : Figures → Bout → Outcome
committed facts bout = in_round (next_round bout.round)
    (turn facts (choice_or_pass bout.first) (choice_or_pass bout.second) (untold bout.battle))

-- the round is completed where both sides are ready; else the choice waits, and nothing is told
unfoldable pub completed : Figures → Bout → Outcome
completed facts bout = if is_ready bout 0 && is_ready bout 1 then committed facts bout else record { bout = bout; told = [] }

-- a side chooses
abbrev pub chose : Figures → ℕ → Choice → Bout → Outcome
chose facts side choice bout = completed facts (with_waiting side (Some choice) bout)

-- a side takes its choice back, and is asked again
abbrev pub undone : ℕ → Bout → Outcome
undone side bout = record { bout = with_waiting side None bout; told = events.Request (side_name side) ∷ [] }

-- a side gives up: the other one wins, and nothing waits
unfoldable pub gave_up : ℕ → Bout → Outcome
gave_up side bout = in_round bout.round (give_up side (untold bout.battle))

-- how a battle ended that has come to this phase; None where it goes on
abbrev pub finish_of : Phase → Option Finish
finish_of (phases.Won side) = Some (finishes.Won side)
finish_of phases.Tied = Some finishes.Tied
finish_of other = None

-- how a battle ended between two phases; None where it was over before, and where it goes on
abbrev pub ended : Phase → Phase → Option Finish
ended before after = if is_over before then None else finish_of after
