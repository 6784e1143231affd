-- The opening of a battle, and its end by a forfeit.
use Rattle.std.specs.Prelude.{ℕ, Bool, List, [], ◌∷◌, ◌++◌, ◌-◌, ◌==◌, bit_and, map, take, slice_index_or, if◌then◌else◌}
use Rattle.ps_event.specs.declared.event.Event.{Event}
use Rattle.ps_event.specs.declared.event.Event.TheVariants as events
use Rattle.ps_event.specs.declared.side.Side.{Side}
use Rattle.ps_event.specs.declared.side.Side.TheVariants.{P1, P2}
use Rattle.ps_mon.specs.declared.record.Battle.{Battle}
use Rattle.ps_mon.specs.declared.record.Phase.{Phase}
use Rattle.ps_mon.specs.declared.record.Phase.TheVariants as phases
use Rattle.ps_mon.specs.declared.record.SideState.{SideState}
use Rattle.ps_mon.specs.declared.team.BattleTeam.{BattleTeam}
use Rattle.ps_mon.specs.declared.team.Member.{Member}
use Rattle.ps_mon.specs.Clauses.{has_clause}
use Rattle.ps_mon.specs.Reading.{side_of}
use Rattle.ps_mon.specs.Teams.{opened}
use Rattle.ps_hits.specs.Courses.{Course}
use Rattle.ps_hits.specs.Told.{side_name}
use Rattle.ps_battle.specs.Switches.{switch_event}
use Rattle.ps_battle.specs.Closings.{asks, enter}

abbrev pub no_team : BattleTeam
no_team = record { members = []; count = 0 }

abbrev pub team_of : List BattleTeam → ℕ → BattleTeam
team_of teams side = slice_index_or teams side no_team

-- a clause is told where its bit is on
unfoldable pub rule : ℕ → ℕ → ℕ → List Event → List Event
rule clauses bit clause told = if bit_and clauses bit == 0 then told else told ++ events.Rule clause ∷ []

-- each clause that is on, in the order of the clauses
unfoldable pub rules : ℕ → List Event → List Event
rules clauses told =
    rule clauses 128 7 (rule clauses 64 6 (rule clauses 32 5 (rule clauses 16 4
    (rule clauses 8 3 (rule clauses 4 2 (rule clauses 2 1 (rule clauses 1 0 told)))))))

-- the players, their teams and the game
unfoldable pub heads : ℕ → ℕ → List Event → List Event
heads one two told =
    told ++ events.Player P1 ∷ events.Player P2 ∷ events.TeamSize P1 one ∷ events.TeamSize P2 two ∷ events.GameType ∷ events.Gen
    ∷ events.Tier ∷ []

-- the bit of Team Preview
abbrev pub preview_clause : ℕ
preview_clause = 64

-- whether both sides order their teams
abbrev pub previews : ℕ → Bool
previews clauses = has_clause clauses preview_clause

-- what a battle waits for at first: under Team Preview an order of each team
unfoldable pub first_phase : ℕ → Phase
first_phase clauses = if bit_and clauses preview_clause == 0 then phases.Turn else phases.Preview

-- the battle before anything is told: turn 1, or what comes before it
unfoldable pub fresh_battle : List BattleTeam → ℕ → ℕ → Battle
fresh_battle teams clauses seed = record {
  sides = opened (team_of teams 0) ∷ opened (team_of teams 1) ∷ [];
  turn = 1;
  phase = first_phase clauses;
  clauses = clauses;
  rng = seed;
}

-- what both sides see of a member before it is sent out
abbrev pub poke : Side → Member → Event
poke side member = events.Poke side member.species member.level

abbrev pub pokes : Side → SideState → List Event
pokes name side = map (poke name) (take side.count side.members)

-- both teams, and a request for each side
unfoldable pub previewed : Battle → List Event → List Event
previewed battle told = told ++ events.ClearPoke ∷ [] ++ pokes P1 (side_of battle 0) ++ pokes P2 (side_of battle 1)
    ++ events.TeamPreview ∷ asks

-- both sides send out their first members: Start, both switches, the first turn, and a request for each side
unfoldable pub started : Battle → List Event → List Event
started battle told = told ++ events.Start ∷ switch_event 0 (side_of battle 0) ∷ switch_event 1 (side_of battle 1) ∷ events.Turn 1 ∷ asks

abbrev pub shown_in : Phase → Battle → List Event → List Event
shown_in phases.Preview battle told = previewed battle told
shown_in other battle told = started battle told

-- the opening rows, and then the teams or their first members
unfoldable pub opening : Battle → List Event → List Event
opening battle told = shown_in battle.phase battle (rules battle.clauses (heads (side_of battle 0).count (side_of battle 1).count told))

abbrev pub open_course : List BattleTeam → ℕ → ℕ → Course
open_course teams clauses seed =
    let battle = fresh_battle teams clauses seed in
    record { battle = battle; told = opening battle [] }

-- a side gives up, and the other one wins
unfoldable pub give_up : ℕ → Course → Course
give_up side course = enter (phases.Won (1 - side)) (events.Forfeit (side_name side) ∷ events.Win (side_name (1 - side)) ∷ []) course
