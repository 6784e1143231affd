-- A room as its rows read it: what it was opened with and its record, each member with its rank.
use Rattle.std.specs.Prelude.{ℕ, List, map, if◌then◌else◌}
use Rattle.ps_group.specs.Ranks.{higher}
use Rattle.ps_group.specs.declared.group.Group.{Group}
use Rattle.ps_base.specs.ById.{ById}
use Rattle.ps_chat.specs.Records.{Opening, Member, Record}
use Rattle.ps_chat.specs.Lookups.{rank_with, has_id}
use Rattle.ps_chat.specs.declared.present.Present.{Present}
use Rattle.ps_chat.specs.declared.room.Room.{Room}

-- a member with its rank
abbrev pub present : List Group → ById ℕ → Member → Present
present groups ranks member = record { conn = member.conn; badge = member.badge; rank = rank_with groups ranks member.badge }

-- a member without it
abbrev pub bare : Present → Member
bare who = record { conn = who.conn; badge = who.badge }

-- a member after its id was given a room rank
abbrev pub ranked : List ℕ → ℕ → Present → Present
ranked id rank who = if has_id id who then record who { rank = higher who.badge.rank rank } else who

-- the members of a record, each with its rank
abbrev pub presents : Opening → Record → List Present
presents opening chat = map (present opening.groups chat.ranks) chat.members

abbrev pub room_of : Opening → Record → Room
room_of opening chat = record {
  title = opening.title;
  battle = opening.battle;
  groups = opening.groups;
  staff = opening.staff;
  members = presents opening chat;
  ranks = chat.ranks;
  mutes = chat.mutes;
  bans = chat.bans;
  modchat = chat.modchat;
}

abbrev pub opening_of : Room → Opening
opening_of chat = record { title = chat.title; battle = chat.battle; groups = chat.groups; staff = chat.staff }

abbrev pub record_of : Room → Record
record_of chat = record {
  members = map bare chat.members;
  ranks = chat.ranks;
  mutes = chat.mutes;
  bans = chat.bans;
  modchat = chat.modchat;
}
