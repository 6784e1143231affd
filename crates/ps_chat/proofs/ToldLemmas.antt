-- What holds of no line, and of a line of each kind, holds of what any command tells.
use Rattle.std.proofs.Common.{ℕ, List, [], codes, Option, Some, None}
use Rattle.ps_lines.specs.declared.command.Command.{Command}
use Rattle.ps_lines.specs.declared.command.Command.TheVariants.{Join, Leave, Quit, Say, Announce, Modnote, Warn, Mute, Unmute, Ban, Unban, Promote, Modchat, Choose, Undo, Forfeit}
use Rattle.ps_chat.specs.Lookups.{user}
use Rattle.ps_chat.specs.Lines.{Line, logged, passing, to_staff, shown_name_of, line_of_leave, line_of_say, line_of_announce, line_of_modnote, line_to_member, line_to_id, line_of_promote, line_of_modchat}
use Rattle.ps_chat.specs.Texts.{moved, said, noted, done_to, done_because, promoted, level}
use Rattle.ps_chat.specs.Told.{told}
use Rattle.ps_chat.specs.declared.present.Present.{Present}
use Rattle.ps_chat.specs.declared.room.Room.{Room}

module _ (P : List Line → Type 0) (of_none : P []) (of_logged : (text : List ℕ) → P (logged text)) (of_passing : (text : List ℕ) → P (passing text))
    (of_staff : (staff : ℕ) (text : List ℕ) → P (to_staff staff text)) (r : Room) where
  of_leave : (me : Option Present) → P (line_of_leave r me)
  of_leave None = of_none
  of_leave (Some me) = of_passing (moved (codes "|l|") (shown_name_of r me))

  of_say : (moment : ℕ) (me : Option Present) (text : List ℕ) → P (line_of_say r moment me text)
  of_say moment None text = of_none
  of_say moment (Some me) text = of_logged (said moment (shown_name_of r me) text)

  of_announce : (me : Option Present) (text : List ℕ) → P (line_of_announce r me text)
  of_announce None text = of_none
  of_announce (Some me) text = of_logged (noted (codes "Announcement") (shown_name_of r me) text)

  of_modnote : (me : Option Present) (text : List ℕ) → P (line_of_modnote r me text)
  of_modnote None text = of_none
  of_modnote (Some me) text = of_staff r.staff (noted (codes "Modnote") (shown_name_of r me) text)

  to_member : (word : List ℕ) (me target : Option Present) (reason : Option (List ℕ)) → P (line_to_member r word me target reason)
  to_member word None target reason = of_none
  to_member word (Some me) None reason = of_none
  to_member word (Some me) (Some target) reason = of_logged (done_because word target.badge.name (shown_name_of r me) reason)

  to_id : (word : List ℕ) (me : Option Present) (id : List ℕ) (reason : Option (List ℕ)) → P (line_to_id r word me id reason)
  to_id word None id reason = of_none
  to_id word (Some me) id reason = of_logged (done_because word id (shown_name_of r me) reason)

  of_promote : (me target : Option Present) (symbol : ℕ) → P (line_of_promote r me target symbol)
  of_promote None target symbol = of_none
  of_promote (Some me) None symbol = of_none
  of_promote (Some me) (Some target) symbol = of_logged (done_to (codes "Promoted") (promoted target.badge.name symbol) (shown_name_of r me))

  of_modchat : (me : Option Present) (symbol : Option ℕ) → P (line_of_modchat r me symbol)
  of_modchat None symbol = of_none
  of_modchat (Some me) symbol = of_logged (done_to (codes "Modchat") (level symbol) (shown_name_of r me))

  pub of_told : (me : Option Present) (joiner : Present) (moment : ℕ) (cmd : Command) → P (told r me joiner moment cmd)
  of_told me joiner moment (Join room) = of_passing (moved (codes "|j|") (shown_name_of r joiner))
  of_told me joiner moment Leave = of_leave me
  of_told me joiner moment Quit = of_leave me
  of_told me joiner moment (Say text) = of_say moment me text
  of_told me joiner moment (Announce text) = of_announce me text
  of_told me joiner moment (Modnote text) = of_modnote me text
  of_told me joiner moment (Warn id reason) = to_member (codes "Warned") me (user id r.members) reason
  of_told me joiner moment (Mute id reason) = to_member (codes "Muted") me (user id r.members) reason
  of_told me joiner moment (Unmute id) = to_member (codes "Unmuted") me (user id r.members) None
  of_told me joiner moment (Ban id reason) = to_id (codes "Banned") me id reason
  of_told me joiner moment (Unban id) = to_id (codes "Unbanned") me id None
  of_told me joiner moment (Promote id symbol) = of_promote me (user id r.members) symbol
  of_told me joiner moment (Modchat symbol) = of_modchat me symbol
  of_told me joiner moment (Choose choice rqid) = of_none
  of_told me joiner moment Undo = of_none
  of_told me joiner moment Forfeit = of_none
