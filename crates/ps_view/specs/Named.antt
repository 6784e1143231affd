-- What the lines of a battle name.
use Rattle.std.specs.Prelude.{ℕ, List, [], slice_get, slice_index_or, unwrap_or}
use Rattle.ps_event.specs.declared.side.Side.{Side}
use Rattle.ps_event.specs.declared.side.Side.TheVariants.{P1, P2}
use Rattle.ps_event.specs.declared.event.Who.{Who}
use Rattle.ps_view.specs.declared.names.Names.{Names}

abbrev pub player_of : Names → Side → List ℕ
player_of names P1 = slice_index_or names.players 0 []
player_of names P2 = slice_index_or names.players 1 []

-- the nicknames of a side's members
abbrev pub nicks_of : Names → Side → List (List ℕ)
nicks_of names P1 = slice_index_or names.nicks 0 []
nicks_of names P2 = slice_index_or names.nicks 1 []

-- the nickname of a member; the empty text past the team
abbrev pub nick_of : Names → Who → List ℕ
nick_of names who = unwrap_or (slice_get (nicks_of names who.side) who.member) []
