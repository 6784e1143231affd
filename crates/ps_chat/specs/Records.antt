-- What a room is opened with, and its record.
use Rattle.std.specs.Prelude.{ℕ, Bool, List, [], Option, None}
use Rattle.std.specs.FinMap.{empty}
use Rattle.ps_base.specs.declared.badge.Badge.{Badge}
use Rattle.ps_group.specs.declared.group.Group.{Group}
use Rattle.ps_base.specs.ById.{ById}

-- the title, whether it is a battle's room, the groups, and the lowest rank of staff
pub record Opening : Type 0 where
  pub title : List ℕ
  pub battle : Bool
  pub groups : List Group
  pub staff : ℕ

-- a member: its connection, and the badge of its Join
pub record Member : Type 0 where
  pub conn : ℕ
  pub badge : Badge

-- The members in join order; by id the room ranks, the moments in which mutes began, and the bans; and the lowest rank
-- that may talk, if one is set.
pub record Record : Type 0 where
  pub members : List Member
  pub ranks : ById ℕ
  pub mutes : ById ℕ
  pub bans : ById (Unit {0})
  pub modchat : Option ℕ

-- the record of a new room
abbrev pub nobody : Record
nobody = record { members = []; ranks = empty; mutes = empty; bans = empty; modchat = None }
