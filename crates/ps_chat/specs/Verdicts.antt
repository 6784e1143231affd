-- Why an entry is refused.
use Rattle.std.specs.Prelude.{ℕ, List, Option}
use Rattle.ps_base.specs.Ids.{id_of}
use Rattle.ps_base.specs.declared.badge.Badge.{Badge}
use Rattle.ps_base.specs.declared.why.Why.{Why}
use Rattle.ps_lines.specs.declared.command.Command.{Command}
use Rattle.ps_lines.specs.declared.command.Command.TheVariants.{Join, Leave, Quit, Say, Announce, Modnote, Warn, Mute, Unmute, Ban}
use Rattle.ps_lines.specs.declared.command.Command.TheVariants.{Unban, Promote, Modchat, Choose, Undo, Forfeit}
use Rattle.ps_chat.specs.Records.{Opening, Record}
use Rattle.ps_chat.specs.Lookups.{member, user}
use Rattle.ps_chat.specs.Rooms.{room_of}
use Rattle.ps_chat.specs.Refusals.{refusal_of_join, refusal_of_leave, refusal_of_quit, refusal_of_say, refusal_of_announce}
use Rattle.ps_chat.specs.Refusals.{refusal_of_modnote, refusal_of_warn, refusal_of_mute, refusal_of_unmute, refusal_of_ban}
use Rattle.ps_chat.specs.Refusals.{refusal_of_unban, refusal_of_promote, refusal_of_modchat, refusal_of_battle}
use Rattle.ps_chat.specs.declared.present.Present.{Present}
use Rattle.ps_chat.specs.declared.room.Room.{Room}

-- by the sender's member, and the id that the sender's badge has
abbrev pub refusal : Room → Option Present → List ℕ → ℕ → Command → Option Why
refusal chat me own moment (Join room) = refusal_of_join chat me own
refusal chat me own moment Leave = refusal_of_leave me
refusal chat me own moment Quit = refusal_of_quit
refusal chat me own moment (Say text) = refusal_of_say chat moment me text
refusal chat me own moment (Announce text) = refusal_of_announce chat me text
refusal chat me own moment (Modnote text) = refusal_of_modnote chat me text
refusal chat me own moment (Warn id reason) = refusal_of_warn chat me (user id chat.members) id reason
refusal chat me own moment (Mute id reason) = refusal_of_mute chat moment me (user id chat.members) id reason
refusal chat me own moment (Unmute id) = refusal_of_unmute chat moment me (user id chat.members) id
refusal chat me own moment (Ban id reason) = refusal_of_ban chat me (user id chat.members) id reason
refusal chat me own moment (Unban id) = refusal_of_unban chat me (user id chat.members) id
refusal chat me own moment (Promote id symbol) = refusal_of_promote chat me (user id chat.members) id symbol
refusal chat me own moment (Modchat symbol) = refusal_of_modchat chat me symbol
refusal chat me own moment (Choose choice rqid) = refusal_of_battle chat me
refusal chat me own moment Undo = refusal_of_battle chat me
refusal chat me own moment Forfeit = refusal_of_battle chat me

-- a room's answer to an entry, by its connection and the badge that it brought
abbrev pub room_verdict : Room → ℕ → Badge → ℕ → Command → Option Why
room_verdict chat conn badge moment cmd = refusal chat (member conn chat.members) (id_of badge.name) moment cmd

-- the answer of what a room was opened with and its record
unfoldable pub verdict : Opening → Record → ℕ → Badge → ℕ → Command → Option Why
verdict opening chat conn badge moment cmd = room_verdict (room_of opening chat) conn badge moment cmd
