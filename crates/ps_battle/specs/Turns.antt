-- A turn.
use Rattle.std.specs.Prelude.{ℕ, ℤ, Bool, true, false, ◌&&◌, ◌==◌, nat_lt, int_lt, if◌then◌else◌}
use Rattle.ps_calc.specs.Draws.{after, drawn}
use Rattle.ps_mon.specs.declared.record.Battle.{Battle}
use Rattle.ps_mon.specs.declared.record.Phase.{Phase}
use Rattle.ps_mon.specs.declared.record.Phase.TheVariants as phases
use Rattle.ps_mon.specs.declared.choice.Choice.{Choice}
use Rattle.ps_mon.specs.declared.choice.Choice.TheVariants as choices
use Rattle.ps_mon.specs.declared.duel.Duel.{Duel}
use Rattle.ps_mon.specs.Facts.{Figures}
use Rattle.ps_mon.specs.Orders.{with_order}
use Rattle.ps_mon.specs.Reading.{side_of}
use Rattle.ps_mon.specs.Duels.{duel_of}
use Rattle.ps_hits.specs.Courses.{Course}
use Rattle.ps_hits.specs.Fighters.{speed_of}
use Rattle.ps_battle.specs.Chosen.{is_act, priority_of}
use Rattle.ps_battle.specs.Acts.{two_acts}
use Rattle.ps_battle.specs.Switches.{switched, begun}
use Rattle.ps_battle.specs.Closings.{closed, next_turn}
use Rattle.ps_battle.specs.Openings.{started}

-- by Speed whether P1 acts first, and the random source after: where both are as fast, a draw below 2 is 0
unfoldable pub faster : Duel → ℕ → Bool × ℕ
faster duel source =
    if nat_lt (speed_of duel.foe) (speed_of duel.user) then (true, source)
    else if nat_lt (speed_of duel.user) (speed_of duel.foe) then (false, source)
    else (drawn (after source) 2 == 0, after source)

-- the higher priority first, then by Speed
unfoldable pub ordered : ℤ → ℤ → Duel → ℕ → Bool × ℕ
ordered one two duel source = if int_lt two one then (true, source) else if int_lt one two then (false, source) else faster duel source

-- whether P1 acts first; where one side alone acts there is no draw
unfoldable pub first_of : Figures → Choice → Choice → Battle → Bool × ℕ
first_of facts one two battle =
    if is_act one && is_act two
    then ordered (priority_of facts (side_of battle 0) one) (priority_of facts (side_of battle 1) two) (duel_of battle 0) battle.rng
    else (true, battle.rng)

-- the acts of a turn in their order
unfoldable pub acted : Figures → Choice → Choice → Course → Course
acted facts one two course =
    let first = first_of facts one two course.battle in
    let from : Course = record course { battle = record course.battle { rng = first.1 } } in
    if first.0 then two_acts facts 0 one 1 two from else two_acts facts 1 two 0 one from

-- both switches, P1's first
unfoldable pub both_switched : Choice → Choice → Course → Course
both_switched one two course = switched 1 two (switched 0 one course)

-- the order that a choice sets
unfoldable pub placed : ℕ → Choice → Battle → Battle
placed side (choices.Team numbers) battle = with_order battle side numbers
placed side choice battle = battle

-- both orders, P1's first
abbrev pub both_placed : Choice → Choice → Battle → Battle
both_placed one two battle = placed 1 two (placed 0 one battle)

-- both orders are set, and the first members sent out
unfoldable pub sent_out : Choice → Choice → Course → Course
sent_out one two course =
    let battle = both_placed one two course.battle in
    record { battle = record battle { phase = phases.Turn }; told = started battle course.told }

-- a commit by its phase: orders; or switches, then acts, then what follows them; or replacements, and the next turn
unfoldable pub turn_in : Phase → Figures → Choice → Choice → Course → Course
turn_in phases.Preview facts one two course = sent_out one two course
turn_in phases.Turn facts one two course =
    closed (acted facts one two (both_switched one two (record course { battle = begun course.battle })))
turn_in (phases.Replace first second) facts one two course = next_turn (both_switched one two course)
turn_in over facts one two course = course

abbrev pub turn : Figures → Choice → Choice → Course → Course
turn facts one two course = turn_in course.battle.phase facts one two course
