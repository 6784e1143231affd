-- Who doesn't see a note or a choice of another is given nothing, and the record is as it was.
use Rattle.std.proofs.Common.{◌≡◌, ℕ, ◌==◌, false, List, [], ◌++◌, Option, Some, None, refl, ◌∙◌}
use Rattle.std.proofs.lemmas.List.{append-nil}
use Rattle.std.proofs.lemmas.Bool.{ne_eqb}
use Rattle.ps_lines.specs.declared.command.Command.TheVariants.{Modnote}
use Rattle.ps_event.specs.declared.audience.Audience.TheVariants.{Rank}
use Rattle.ps_chat.specs.Records.{Record as ChatRecord}
use Rattle.ps_chat.specs.Lookups.{member}
use Rattle.ps_chat.specs.Lines.{Line, line_of_modnote}
use Rattle.ps_chat.specs.Rooms.{room_of}
use Rattle.ps_chat.specs.Told.{lines}
use Rattle.ps_chat.specs.Changes.{record_after}
use Rattle.ps_chat.specs.declared.present.Present.{Present}
use Rattle.ps_chat.specs.declared.room.Room.{Room}
use Rattle.ps_room.specs.declared.entry.Entry.{Entry}
use Rattle.ps_view.specs.declared.role.Role.{Role}
use Rattle.battle_rounds.specs.Fights.{Fight, is_of_battle}
use Rattle.ps_room.specs.Tolds.{Logged}
use Rattle.ps_room.specs.Records.{Record, presents_of, cast_in}
use Rattle.ps_room.specs.Roles.{sees}
use Rattle.ps_room.specs.Rooms.{verdict, sender_of, told, message, role, shown_events, seen_texts, logged_lines, logged_of, battle_after, chat_lines, allowed_events, allowed_lines}
use Rattle.ps_room.specs.Unseen.{sees_notes, IsUnseen, NotesAreUnseen}
use Rattle.ps_room.proofs.AnswerLemmas.{after_allowed}
use Rattle.ps_room.proofs.QuietLemmas.{quiet_events, quiet_lines, quiet_battle, shown_nothing}

-- the lines of a command, of which a connection in a role sees none and none is logged
pub record AreUnseen (conn : ℕ) (role : Role) (ls : List Line) : Type 0 where
  pub unseen : seen_texts conn role ls ≡ []
  pub unlogged : logged_lines ls ≡ []

-- the record after such lines, where the chat and the battle are as they were
kept : (r : Record) (chat : ChatRecord) (more : List Logged) (battle : Option Fight) → chat ≡ r.chat → more ≡ [] → battle ≡ r.battle → record { opening = r.opening; chat = chat; logged = r.logged ++ more; battle = battle } ≡ r
kept r chat more battle same none still = rw (same, none, still, append-nil r.logged) refl

no_join : (conn : ℕ) (r : Record) (e : Entry) → verdict r e ≡ None → (conn == e.conn) ≡ false → message conn r e ≡ shown_events (cast_in r.battle) (role conn r) (allowed_events r e) ++ seen_texts conn (role conn r) (allowed_lines r e)
unfolding told
no_join conn r e v other = rw (v, other) refl

-- an allowed entry with such lines, of which the battle knows nothing
pub unseen : (conn : ℕ) (r : Record) (e : Entry) → (conn == e.conn) ≡ false → verdict r e ≡ None → is_of_battle e.cmd ≡ false → AreUnseen conn (role conn r) (chat_lines r e) → record_after r.opening.groups r.chat e.conn e.badge e.moment e.cmd ≡ r.chat → IsUnseen conn r e
unseen conn r e other v quiet ls same =
    let events : allowed_events r e ≡ [] = quiet_events r.battle (sender_of r e) e.cmd quiet in
    let lines : allowed_lines r e ≡ chat_lines r e = quiet_lines r.battle (sender_of r e) e.cmd (chat_lines r e) quiet in
    record {
      unchanged = after_allowed r e v ∙ kept r (record_after r.opening.groups r.chat e.conn e.badge e.moment e.cmd) (logged_of (allowed_events r e) (allowed_lines r e)) (battle_after r.battle (sender_of r e) e.cmd) same (rw (events, lines) ls.unlogged) (quiet_battle r.battle (sender_of r e) e.cmd quiet);
      silent = no_join conn r e v other ∙ rw (events, lines, shown_nothing (cast_in r.battle) (role conn r)) ls.unseen;
    }

-- ---- the rows

of_note : (conn : ℕ) (role : Role) (r : Room) (me : Option Present) (text : List ℕ) → sees conn role (Rank r.staff) ≡ false → AreUnseen conn role (line_of_modnote r me text)
of_note conn role r None text out = record { unseen = refl; unlogged = refl }
of_note conn role r (Some me) text out = record { unseen = rw out refl; unlogged = refl }

note_lines : (conn : ℕ) (r : Record) (e : Entry) (text : List ℕ) → e.cmd ≡ Modnote text → sees_notes conn r ≡ false → AreUnseen conn (role conn r) (chat_lines r e)
unfolding lines
note_lines conn r e text is out = rw is (of_note conn (role conn r) (room_of r.opening r.chat) (member e.conn (presents_of r)) text out)

note_keeps : (r : Record) (e : Entry) (text : List ℕ) → e.cmd ≡ Modnote text → record_after r.opening.groups r.chat e.conn e.badge e.moment e.cmd ≡ r.chat
note_keeps r e text is = rw is refl

pub note_unseen : (conn : ℕ) (r : Record) (e : Entry) (text : List ℕ) → (conn == e.conn) ≡ false → e.cmd ≡ Modnote text → verdict r e ≡ None → sees_notes conn r ≡ false → IsUnseen conn r e
note_unseen conn r e text other is v out = unseen conn r e other v (rw is refl) (note_lines conn r e text is out) (note_keeps r e text is)

pub notes_are_unseen : NotesAreUnseen
notes_are_unseen conn r e text apart is v out = note_unseen conn r e text (ne_eqb conn e.conn apart) is v out
