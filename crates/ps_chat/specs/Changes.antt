-- The rows of the room table: the record after each command that is applied.
use Rattle.std.specs.Prelude.{ℕ, not, List, [], ◌∷◌, ◌++◌, Option, Some, None, ◌==◌}
use Rattle.std.specs.List.{filter}
use Rattle.std.specs.Str.{bytes_eq}
use Rattle.std.specs.FinMap.{insert, remove}
use Rattle.ps_base.specs.Ids.{id_of}
use Rattle.ps_base.specs.declared.badge.Badge.{Badge}
use Rattle.ps_group.specs.Ranks.{rank_of}
use Rattle.ps_group.specs.declared.group.Group.{Group}
use Rattle.ps_lines.specs.declared.command.Command.{Command}
use Rattle.ps_lines.specs.declared.command.Command.TheVariants.{Join, Leave, Quit, Say, Announce, Modnote, Warn, Mute, Unmute, Ban}
use Rattle.ps_lines.specs.declared.command.Command.TheVariants.{Unban, Promote, Modchat, Choose, Undo, Forfeit}
use Rattle.ps_chat.specs.Records.{Record}
use Rattle.ps_chat.specs.Lookups.{kept}

abbrev pub record_after_join : List Group → Record → ℕ → Badge → Record
record_after_join groups chat conn badge = record chat { members = chat.members ++ record { conn = conn; badge = kept groups badge } ∷ [] }

-- no member has the connection
abbrev pub record_after_leave : Record → ℕ → Record
record_after_leave chat conn = record chat { members = filter (λ member. not (member.conn == conn)) chat.members }

abbrev pub record_after_quit : Record → ℕ → Record
record_after_quit chat conn = record_after_leave chat conn

-- the mute begins at the moment
abbrev pub record_after_mute : Record → ℕ → List ℕ → Record
record_after_mute chat moment id = record chat { mutes = insert chat.mutes id moment }

abbrev pub record_after_unmute : Record → List ℕ → Record
record_after_unmute chat id = record chat { mutes = remove chat.mutes id }

-- no member has the id, and the ban stands
abbrev pub record_after_ban : Record → List ℕ → Record
record_after_ban chat id = record chat {
  members = filter (λ member. not (bytes_eq (id_of member.badge.name) id)) chat.members;
  bans = insert chat.bans id tt;
}

abbrev pub record_after_unban : Record → List ℕ → Record
record_after_unban chat id = record chat { bans = remove chat.bans id }

abbrev pub with_rank : Record → List ℕ → Option ℕ → Record
with_rank chat id None = chat
with_rank chat id (Some rank) = record chat { ranks = insert chat.ranks id rank }

abbrev pub record_after_promote : List Group → Record → List ℕ → ℕ → Record
record_after_promote groups chat id symbol = with_rank chat id (rank_of symbol groups)

-- the level of a symbol, and none for `off`
abbrev pub level_of : List Group → Option ℕ → Option ℕ
level_of groups None = None
level_of groups (Some symbol) = rank_of symbol groups

abbrev pub record_after_modchat : List Group → Record → Option ℕ → Record
record_after_modchat groups chat symbol = record chat { modchat = level_of groups symbol }

-- the record after an entry that is applied
abbrev pub record_after : List Group → Record → ℕ → Badge → ℕ → Command → Record
record_after groups chat conn badge moment (Join room) = record_after_join groups chat conn badge
record_after groups chat conn badge moment Leave = record_after_leave chat conn
record_after groups chat conn badge moment Quit = record_after_quit chat conn
record_after groups chat conn badge moment (Say text) = chat
record_after groups chat conn badge moment (Announce text) = chat
record_after groups chat conn badge moment (Modnote text) = chat
record_after groups chat conn badge moment (Warn id reason) = chat
record_after groups chat conn badge moment (Mute id reason) = record_after_mute chat moment id
record_after groups chat conn badge moment (Unmute id) = record_after_unmute chat id
record_after groups chat conn badge moment (Ban id reason) = record_after_ban chat id
record_after groups chat conn badge moment (Unban id) = record_after_unban chat id
record_after groups chat conn badge moment (Promote id symbol) = record_after_promote groups chat id symbol
record_after groups chat conn badge moment (Modchat symbol) = record_after_modchat groups chat symbol
record_after groups chat conn badge moment (Choose choice rqid) = chat
record_after groups chat conn badge moment Undo = chat
record_after groups chat conn badge moment Forfeit = chat
