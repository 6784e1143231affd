-- The battle of a room: which commands it takes, and what they do.
use Rattle.std.specs.Prelude.{◌≡◌, ◌<◌, ℕ, Bool, true, false, List, [], Option, Some, None, Result, Ok, Err, if◌then◌else◌}
use Rattle.std.specs.List.{filter_map}
use Rattle.ps_base.specs.declared.why.Why.{Why}
use Rattle.ps_base.specs.declared.why.Why.TheVariants.{NotPlayer}
use Rattle.ps_lines.specs.declared.command.Command.{Command}
use Rattle.ps_lines.specs.declared.command.Command.TheVariants.{Choose, Undo, Forfeit}
use Rattle.ps_event.specs.declared.audience.Audience.TheVariants as audiences
use Rattle.ps_event.specs.declared.event.Event.{Event}
use Rattle.ps_event.specs.declared.event.Event.TheVariants as events
use Rattle.ps_event.specs.declared.side.Side.{Side}
use Rattle.ps_event.specs.declared.line.ChatLine.{ChatLine}
use Rattle.ps_event.specs.Sides.{side_number}
use Rattle.ps_mon.specs.declared.choice.Choice.{Choice}
use Rattle.ps_mon.specs.Valid.{is_over}
use Rattle.ps_dex.specs.declared.item.Tables.{Tables}
use Rattle.ps_dex.specs.Figures.{figures_of}
use Rattle.battle_rounds.specs.declared.bout.Bout.{Bout}
use Rattle.battle_rounds.specs.declared.decision.Decision.{Decision}
use Rattle.battle_rounds.specs.declared.decision.Decision.TheVariants as decisions
use Rattle.battle_rounds.specs.Bouts.{CanWait}
use Rattle.battle_rounds.specs.Refusals.{chosen, refusal_of_choose, refusal_of_undo, refusal_of_forfeit}
use Rattle.battle_rounds.specs.Rounds.{Outcome, chose, undone, gave_up}
use Rattle.battle_rounds.specs.Casts.{Cast}
use Rattle.battle_rounds.specs.Asked.{request_line}

-- its number, from 1; what its lines name; and its rounds
pub record Fight : Type 0 where
  pub number : ℕ
  pub cast : Cast
  pub bout : Bout

-- ---- the commands of a battle

abbrev pub is_of_battle : Command → Bool
is_of_battle (Choose choice rqid) = true
is_of_battle Undo = true
is_of_battle Forfeit = true
is_of_battle other = false

-- why a command of the player of a side is refused
abbrev pub refusal_of_side : Tables → Bout → ℕ → Command → Option Why
refusal_of_side dex bout side (Choose choice rqid) = refusal_of_choose bout side dex choice rqid
refusal_of_side dex bout side Undo = refusal_of_undo bout side
refusal_of_side dex bout side Forfeit = refusal_of_forfeit bout
refusal_of_side dex bout side other = None

-- why the battle refuses a command of a member, by the side that the member plays
abbrev pub refusal_in : Tables → Bout → Option ℕ → Command → Option Why
refusal_in dex bout None cmd = if is_of_battle cmd then Some NotPlayer else None
refusal_in dex bout (Some side) cmd = refusal_of_side dex bout side cmd

-- ---- what they do

-- nothing
abbrev pub still : Bout → Outcome
still bout = record { bout = bout; told = [] }

abbrev pub chose_by : Tables → Bout → ℕ → Result Choice Why → Outcome
chose_by dex bout side (Ok choice) = chose (figures_of dex) side choice bout
chose_by dex bout side (Err why) = still bout

abbrev pub outcome_of_side : Tables → Bout → ℕ → Command → Outcome
outcome_of_side dex bout side (Choose choice rqid) = chose_by dex bout side (chosen bout side dex choice rqid)
outcome_of_side dex bout side Undo = undone side bout
outcome_of_side dex bout side Forfeit = gave_up side bout
outcome_of_side dex bout side other = still bout

-- what a command that is allowed makes of the battle
abbrev pub outcome_in : Tables → Bout → Option ℕ → Command → Outcome
outcome_in dex bout None cmd = still bout
outcome_in dex bout (Some side) cmd = outcome_of_side dex bout side cmd

-- ---- for the code: what a command comes to, worked out once

-- what it makes of the battle
abbrev pub outcome_of : Tables → Bout → Decision → Outcome
outcome_of dex bout decisions.Nothing = still bout
outcome_of dex bout (decisions.Choose side choice) = chose (figures_of dex) side choice bout
outcome_of dex bout (decisions.Undo side) = undone side bout
outcome_of dex bout (decisions.Forfeit side) = gave_up side bout

-- whether it can be done to the battle
abbrev pub CanDecide : Bout → Decision → Type 0
CanDecide bout decisions.Nothing = Unit {0}
CanDecide bout (decisions.Choose side choice) = (side < 2) × CanWait bout.battle side choice
CanDecide bout (decisions.Undo side) = Unit {0}
CanDecide bout (decisions.Forfeit side) = (side < 2) × (is_over bout.battle.phase ≡ false)

-- the battle after it, where there is another one than before
abbrev pub bout_or : Bout → Option Bout → Bout
bout_or bout None = bout
bout_or bout (Some after) = after

-- ---- requests

-- the request of a side, which it alone sees, and which isn't logged
abbrev pub request_of : Cast → Bout → Side → ChatLine (List ℕ)
request_of cast bout side = record {
  audience = audiences.Side side;
  logged = false;
  text = request_line bout cast.dex cast.names (side_number side);
}

abbrev pub request_at : Cast → Bout → Event → Option (ChatLine (List ℕ))
request_at cast bout (events.Request side) = Some (request_of cast bout side)
request_at cast bout other = None

-- the requests that events tell of, for a battle as it stands after them
abbrev pub requests : Cast → Bout → List Event → List (ChatLine (List ℕ))
requests cast bout told = filter_map (request_at cast bout) told

abbrev pub request_unless : Bool → Fight → ℕ → Option (List ℕ)
request_unless true fight side = None
request_unless false fight side = Some (request_line fight.bout fight.cast.dex fight.cast.names side)

-- the request that a player is given who joins: that of the open round, and none after the battle's end
abbrev pub open_request : Fight → Option ℕ → Option (List ℕ)
open_request fight None = None
open_request fight (Some side) = request_unless (is_over fight.bout.battle.phase) fight side
