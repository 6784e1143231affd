-- Switches, and the begin of a turn.
use Rattle.std.specs.Prelude.{ℕ, false, None, [], ◌∷◌, ◌++◌}
use Rattle.ps_event.specs.declared.event.Event.{Event}
use Rattle.ps_event.specs.declared.event.Event.TheVariants as events
use Rattle.ps_mon.specs.declared.record.Battle.{Battle}
use Rattle.ps_mon.specs.declared.record.SideState.{SideState}
use Rattle.ps_mon.specs.declared.choice.Choice.{Choice}
use Rattle.ps_mon.specs.declared.choice.Choice.TheVariants as choices
use Rattle.ps_mon.specs.declared.duel.Duel.{Duel}
use Rattle.ps_mon.specs.declared.duel.Fighter.{Fighter}
use Rattle.ps_mon.specs.Reading.{side_of, active_of}
use Rattle.ps_mon.specs.Duels.{duel_of, with_duel, fighter_of}
use Rattle.ps_mon.specs.Switching.{with_switch}
use Rattle.ps_hits.specs.Courses.{Course}
use Rattle.ps_hits.specs.Told.{who_of, health_of}

-- the active member of a side has come in
unfoldable pub switch_event : ℕ → SideState → Event
switch_event side_number side =
    let fighter = fighter_of side_number side in
    events.Switch (who_of fighter) (active_of side).species fighter.level (health_of fighter)

-- a side sends in the member at a position
unfoldable pub sent_in : ℕ → ℕ → Course → Course
sent_in side position course =
    let battle = with_switch course.battle side position in
    record { battle = battle; told = course.told ++ switch_event side (side_of battle side) ∷ [] }

-- what a choice changes before the acts
unfoldable pub switched : ℕ → Choice → Course → Course
switched side (choices.Switch position) course = sent_in side position course
switched side choice course = course

-- flinching and the damage taken are of one turn
abbrev pub refreshed : Fighter → Fighter
refreshed fighter = record fighter { vol = record fighter.vol { flinch = false; taken = None } }

abbrev pub refreshed_duel : Duel → Duel
refreshed_duel duel = record duel { user = refreshed duel.user; foe = refreshed duel.foe }

-- the begin of a turn
unfoldable pub begun : Battle → Battle
begun battle = with_duel battle 0 (refreshed_duel (duel_of battle 0))
