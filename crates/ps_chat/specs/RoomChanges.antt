-- The same rows over a room as its rows read it, each change of the record with the ranks of its members: for the code alone.
use Rattle.std.specs.Prelude.{◌≡◌, ℕ, not, List, [], ◌∷◌, ◌++◌, map, Option, Some, None, ◌==◌}
use Rattle.std.specs.List.{filter}
use Rattle.std.specs.FinMap.{insert, remove}
use Rattle.ps_group.specs.Ranks.{rank_of}
use Rattle.ps_lines.specs.declared.command.Command.{Command}
use Rattle.ps_lines.specs.declared.command.Command.TheVariants.{Join, Leave, Quit, Say, Announce, Modnote, Warn, Mute, Unmute, Ban}
use Rattle.ps_lines.specs.declared.command.Command.TheVariants.{Unban, Promote, Modchat, Choose, Undo, Forfeit}
use Rattle.ps_chat.specs.Lookups.{has_id, member}
use Rattle.ps_chat.specs.Rooms.{ranked, presents, opening_of, record_of}
use Rattle.ps_chat.specs.Changes.{level_of}
use Rattle.ps_chat.specs.declared.present.Present.{Present}
use Rattle.ps_chat.specs.declared.room.Room.{Room}

abbrev pub room_after_join : Room → Present → Room
room_after_join chat joiner = record chat { members = chat.members ++ joiner ∷ [] }

abbrev pub room_after_leave : Room → ℕ → Room
room_after_leave chat conn = record chat { members = filter (λ present. not (present.conn == conn)) chat.members }

abbrev pub room_after_quit : Room → ℕ → Room
room_after_quit chat conn = room_after_leave chat conn

abbrev pub room_after_mute : Room → ℕ → List ℕ → Room
room_after_mute chat moment id = record chat { mutes = insert chat.mutes id moment }

abbrev pub room_after_unmute : Room → List ℕ → Room
room_after_unmute chat id = record chat { mutes = remove chat.mutes id }

abbrev pub room_after_ban : Room → List ℕ → Room
room_after_ban chat id = record chat { members = filter (λ present. not (has_id id present)) chat.members; bans = insert chat.bans id tt }

abbrev pub room_after_unban : Room → List ℕ → Room
room_after_unban chat id = record chat { bans = remove chat.bans id }

abbrev pub room_with_rank : Room → List ℕ → Option ℕ → Room
room_with_rank chat id None = chat
room_with_rank chat id (Some rank) = record chat { members = map (ranked id rank) chat.members; ranks = insert chat.ranks id rank }

abbrev pub room_after_promote : Room → List ℕ → ℕ → Room
room_after_promote chat id symbol = room_with_rank chat id (rank_of symbol chat.groups)

abbrev pub room_after_modchat : Room → Option ℕ → Room
room_after_modchat chat symbol = record chat { modchat = level_of chat.groups symbol }

-- by who the sender becomes by a Join
abbrev pub room_after : Room → Present → ℕ → Command → Room
room_after chat new moment (Join room) = room_after_join chat new
room_after chat new moment Leave = room_after_leave chat new.conn
room_after chat new moment Quit = room_after_quit chat new.conn
room_after chat new moment (Say text) = chat
room_after chat new moment (Announce text) = chat
room_after chat new moment (Modnote text) = chat
room_after chat new moment (Warn id reason) = chat
room_after chat new moment (Mute id reason) = room_after_mute chat moment id
room_after chat new moment (Unmute id) = room_after_unmute chat id
room_after chat new moment (Ban id reason) = room_after_ban chat id
room_after chat new moment (Unban id) = room_after_unban chat id
room_after chat new moment (Promote id symbol) = room_after_promote chat id symbol
room_after chat new moment (Modchat symbol) = room_after_modchat chat symbol
room_after chat new moment (Choose choice rqid) = chat
room_after chat new moment Undo = chat
room_after chat new moment Forfeit = chat

-- who joins has no member yet
abbrev pub JoinsNew : Room → ℕ → Command → Type 0
JoinsNew chat conn (Join room) = member conn chat.members ≡ None
JoinsNew chat conn cmd = Unit {0}

-- each member has its rank
abbrev pub Settled : Room → Type 0
Settled chat = presents (opening_of chat) (record_of chat) ≡ chat.members
