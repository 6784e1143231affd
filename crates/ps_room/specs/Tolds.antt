-- What an entry gives, and what of it stays in the backlog.
use Rattle.std.specs.Prelude.{ℕ, List, Option}
use Rattle.ps_event.specs.declared.event.Event.{Event as BattleEvent}
use Rattle.ps_chat.specs.Lines.{Line}
use Rattle.ps_view.specs.declared.role.Role.{Role}

-- what stays in a room's backlog: a line of the chat, or an event of the battle, whose line each role is shown in its own form
pub data Logged : Type 0 where
  Text : List ℕ → Logged
  Event : BattleEvent → Logged

-- What who joins is sent in the place of the entry's lines: the lines of the room itself; how much was logged before, of which
-- a chat sends the last hundred and a battle all; what the joiner is to the room from then on, by which it is shown these; and
-- the request of the round that is open, for a player.
pub record Joined : Type 0 where
  pub head : List (List ℕ)
  pub logged : ℕ
  pub role : Role
  pub request : Option (List ℕ)

-- all that an entry gives: the events of the battle, its lines, and for an allowed Join what the joiner is sent
pub record Told : Type 0 where
  pub events : List BattleEvent
  pub lines : List Line
  pub joined : Option Joined
