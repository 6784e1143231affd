-- Chat rooms: they have no battle, and refuse a battle's commands.
use Rattle.std.proofs.Common.{◌≡◌, ℕ, List, false, Option, Some, None, refl, sym, subst}
use Rattle.ps_base.specs.declared.why.Why.{Why}
use Rattle.ps_base.specs.declared.why.Why.TheVariants.{NotMember, NotBattle}
use Rattle.ps_lines.specs.declared.command.Command.{Command}
use Rattle.ps_lines.specs.declared.command.Command.TheVariants.{Choose, Undo}
use Rattle.ps_chat.specs.Lookups.{member}
use Rattle.ps_chat.specs.Records.{Opening as ChatOpening, Record as ChatRecord}
use Rattle.ps_chat.specs.Refusals.{refusal_of_battle}
use Rattle.ps_chat.specs.Rooms.{room_of, presents}
use Rattle.ps_chat.specs.Verdicts.{verdict as chat_verdict}
use Rattle.ps_chat.specs.declared.present.Present.{Present}
use Rattle.battle_rounds.specs.Fights.{Fight}
use Rattle.ps_room.specs.declared.entry.Entry.{Entry}
use Rattle.ps_room.specs.Openings.{Opening}
use Rattle.ps_room.specs.Records.{Record, opened}
use Rattle.ps_room.specs.Rooms.{verdict, sender_of, after, battle_after}
use Rattle.ps_room.proofs.AnswerLemmas.{after_allowed, after_refused}

pub record IsChat (r : Record) : Type 0 where
  pub battle : r.battle ≡ None
  pub kind : r.opening.battle ≡ false

pub chat_opened : (o : Opening) → o.battle ≡ None → IsChat (opened o)
chat_opened o e = record { battle = rw e refl; kind = rw e refl }

none_after : (battle : Option Fight) (me : Option Present) (cmd : Command) → battle ≡ None → battle_after battle me cmd ≡ None
none_after battle me cmd e = rw e refl

chat_by : (r : Record) (e : Entry) (v : Option Why) → verdict r e ≡ v → IsChat r → IsChat (after r e)
chat_by r e (Some why) v is = subst IsChat (sym (after_refused r e why v)) is
chat_by r e None v is = subst IsChat (sym (after_allowed r e v)) (record { battle = none_after r.battle (sender_of r e) e.cmd is.battle; kind = is.kind })

pub chat_after : (r : Record) (e : Entry) → IsChat r → IsChat (after r e)
chat_after r e is = chat_by r e (verdict r e) refl is

-- ---- a battle's commands

refused_by : (o : ChatOpening) (chat : ChatRecord) (me : Option Present) → o.battle ≡ false → (why : Why) × (refusal_of_battle (room_of o chat) me ≡ Some why)
refused_by o chat None kind = (NotMember, refl)
refused_by o chat (Some me) kind = (NotBattle, rw kind refl)

pub choice_refused : (r : Record) (e : Entry) (choice : List ℕ) (rqid : Option ℕ) → IsChat r → e.cmd ≡ Choose choice rqid → (why : Why) × (verdict r e ≡ Some why)
unfolding verdict chat_verdict
choice_refused r e choice rqid is cmd =
    let why = refused_by r.opening r.chat (member e.conn (presents r.opening r.chat)) is.kind in
    (why.0, rw (cmd, why.1) refl)

pub undo_refused : (r : Record) (e : Entry) → IsChat r → e.cmd ≡ Undo → (why : Why) × (verdict r e ≡ Some why)
unfolding verdict chat_verdict
undo_refused r e is cmd =
    let why = refused_by r.opening r.chat (member e.conn (presents r.opening r.chat)) is.kind in
    (why.0, rw (cmd, why.1) refl)
