-- The lines of an entry that is applied.
use Rattle.std.specs.Prelude.{ℕ, List, [], Option}
use Rattle.ps_base.specs.declared.badge.Badge.{Badge}
use Rattle.ps_lines.specs.declared.command.Command.{Command}
use Rattle.ps_lines.specs.declared.command.Command.TheVariants.{Join, Leave, Quit, Say, Announce, Modnote, Warn, Mute, Unmute, Ban}
use Rattle.ps_lines.specs.declared.command.Command.TheVariants.{Unban, Promote, Modchat, Choose, Undo, Forfeit}
use Rattle.ps_chat.specs.Records.{Opening, Record}
use Rattle.ps_chat.specs.Lookups.{member, user, kept}
use Rattle.ps_chat.specs.Rooms.{present, room_of}
use Rattle.ps_chat.specs.Lines.{Line, line_of_join, line_of_leave, line_of_quit, line_of_say, line_of_announce, line_of_modnote}
use Rattle.ps_chat.specs.Lines.{line_of_warn, line_of_mute, line_of_unmute, line_of_ban, line_of_unban, line_of_promote}
use Rattle.ps_chat.specs.Lines.{line_of_modchat}
use Rattle.ps_chat.specs.declared.present.Present.{Present}
use Rattle.ps_chat.specs.declared.room.Room.{Room}

-- who joins, as the member that it becomes
abbrev pub joiner : Room → ℕ → Badge → Present
joiner chat conn badge = present chat.groups chat.ranks (record { conn = conn; badge = kept chat.groups badge })

-- by the sender's member, and who the sender becomes by a Join
abbrev pub told : Room → Option Present → Present → ℕ → Command → List Line
told chat me new moment (Join room) = line_of_join chat new
told chat me new moment Leave = line_of_leave chat me
told chat me new moment Quit = line_of_quit chat me
told chat me new moment (Say text) = line_of_say chat moment me text
told chat me new moment (Announce text) = line_of_announce chat me text
told chat me new moment (Modnote text) = line_of_modnote chat me text
told chat me new moment (Warn id reason) = line_of_warn chat me (user id chat.members) reason
told chat me new moment (Mute id reason) = line_of_mute chat me (user id chat.members) reason
told chat me new moment (Unmute id) = line_of_unmute chat me (user id chat.members)
told chat me new moment (Ban id reason) = line_of_ban chat me id reason
told chat me new moment (Unban id) = line_of_unban chat me id
told chat me new moment (Promote id symbol) = line_of_promote chat me (user id chat.members) symbol
told chat me new moment (Modchat symbol) = line_of_modchat chat me symbol
told chat me new moment (Choose choice rqid) = []
told chat me new moment Undo = []
told chat me new moment Forfeit = []

abbrev pub room_lines : Room → ℕ → Badge → ℕ → Command → List Line
room_lines chat conn badge moment cmd = told chat (member conn chat.members) (joiner chat conn badge) moment cmd

-- the lines of what a room was opened with and its record
unfoldable pub lines : Opening → Record → ℕ → Badge → ℕ → Command → List Line
lines opening chat conn badge moment cmd = room_lines (room_of opening chat) conn badge moment cmd
