-- What follows the acts.
use Rattle.std.specs.Prelude.{List, [], ◌∷◌, ◌++◌, ◌+◌, ◌&&◌, ◌||◌, not, ◌==◌, if◌then◌else◌}
use Rattle.ps_event.specs.declared.event.Event.{Event}
use Rattle.ps_event.specs.declared.event.Event.TheVariants.{Upkeep, Turn, Win, Tie, Request}
use Rattle.ps_event.specs.declared.side.Side.TheVariants.{P1, P2}
use Rattle.ps_mon.specs.declared.record.Phase.{Phase}
use Rattle.ps_mon.specs.declared.record.Phase.TheVariants as phases
use Rattle.ps_mon.specs.Reading.{side_of}
use Rattle.ps_mon.specs.Valid.{has_standing}
use Rattle.ps_hits.specs.Courses.{Course}
use Rattle.ps_battle.specs.Acts.{is_down}

-- the phase, and what is told of it
unfoldable pub enter : Phase → List Event → Course → Course
enter phase events course = record { battle = record course.battle { phase = phase }; told = course.told ++ events }

-- each commit that doesn't end the battle ends with a request for each side
abbrev pub asks : List Event
asks = Request P1 ∷ Request P2 ∷ []

-- Upkeep; the turn's number rises, and at 1,000 the battle is tied
unfoldable pub next_turn : Course → Course
next_turn course =
    let turn = course.battle.turn + 1 in
    let later : Course = record { battle = record course.battle { turn = turn }; told = course.told ++ Upkeep ∷ [] } in
    if turn == 1000 then enter phases.Tied (Tie ∷ []) later
    else enter phases.Turn (Turn turn ∷ asks) later

-- a side without a standing member loses, both tie; who has fainted is replaced; else the next turn comes
unfoldable pub closed : Course → Course
closed course =
    let one = has_standing (side_of course.battle 0) in
    let two = has_standing (side_of course.battle 1) in
    if not one && not two then enter phases.Tied (Tie ∷ []) course
    else if not one then enter (phases.Won 1) (Win P2 ∷ []) course
    else if not two then enter (phases.Won 0) (Win P1 ∷ []) course
    else if is_down course.battle 0 || is_down course.battle 1 then enter
    (phases.Replace (is_down course.battle 0) (is_down course.battle 1)) asks course
    else next_turn course
