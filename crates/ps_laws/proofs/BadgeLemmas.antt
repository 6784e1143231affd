-- A badge that nothing looks at: without it an entry is judged, told and applied as with it.
use Rattle.std.proofs.Common.{◌≡◌, ◌⊎◌, ℕ, Bool, true, false, List, ◌++◌, Option, Some, None, refl, ap, ◌∙◌, inl, inr}
use Rattle.ps_base.specs.Ids.{id_of}
use Rattle.ps_base.specs.declared.badge.Badge.{Badge}
use Rattle.ps_base.specs.declared.why.Why.{Why}
use Rattle.ps_lines.specs.declared.command.Command.{Command}
use Rattle.ps_lines.specs.declared.command.Command.TheVariants.{Join}
use Rattle.ps_group.specs.declared.group.Group.{Group}
use Rattle.ps_chat.specs.declared.present.Present.{Present}
use Rattle.ps_chat.specs.declared.room.Room.{Room}
use Rattle.ps_chat.specs.Lines.{Line}
use Rattle.ps_chat.specs.Records.{Opening as ChatOpening, Record as ChatRecord}
use Rattle.ps_chat.specs.Rooms.{room_of}
use Rattle.ps_chat.specs.Told.{lines}
use Rattle.ps_chat.specs.Changes.{record_after}
use Rattle.ps_chat.specs.Verdicts.{refusal, verdict as chat_verdict}
use Rattle.ps_room.specs.declared.entry.Entry.{Entry}
use Rattle.ps_room.specs.Tolds.{Joined, Told}
use Rattle.ps_room.specs.Records.{Record, cast_in}
use Rattle.ps_room.specs.Rooms.{sender_of, verdict, or_else, refusal_by_battle, is_join, joined_if, lines_by, logged_of, allowed_events, battle_after, told, told_by, after, after_by, message, message_of, role}
use Rattle.ps_laws.specs.Users.{badge_of, user_of}
use Rattle.ps_laws.specs.Rounds.{round_of}
use Rattle.ps_laws.proofs.RoundParts.{round_if_allowed}
use Rattle.ps_laws.specs.Low.{looked_at, entry_kept}
use Rattle.ps_laws.proofs.HomeLemmas.{join_is_new}

-- ---- the verdict

refusal_kept : (r : Room) (me : Option Present) (badge : Badge) (moment : ℕ) (cmd : Command) → refusal r me (id_of (looked_at cmd me badge).name) moment cmd ≡ refusal r me (id_of badge.name) moment cmd
refusal_kept r None badge moment (Join room) = refl
refusal_kept r (Some me) badge moment (Join room) = refl
refusal_kept r me badge moment other = refl

pub verdict_kept : (r : Record) (e : Entry) → verdict r (entry_kept r e) ≡ verdict r e
unfolding verdict chat_verdict
verdict_kept r e = ap (λ (v : Option Why). or_else v (refusal_by_battle r.battle (sender_of r e) e.cmd)) (refusal_kept (room_of r.opening r.chat) (sender_of r e) e.badge e.moment e.cmd)

-- ---- an allowed entry

-- An allowed Join is of who is no member, so it has its badge.
pub join_kept : (r : Record) (e : Entry) (cmd : Command) → e.cmd ≡ cmd → verdict r e ≡ None → (is_join e.cmd ≡ false) ⊎ (entry_kept r e ≡ e)
join_kept r e (Join room) is v =
    let badge : looked_at e.cmd (sender_of r e) e.badge ≡ e.badge =
    ap (λ (cmd : Command). looked_at cmd (sender_of r e) e.badge) is ∙ ap (λ (me : Option Present). looked_at (Join room) me e.badge) (join_is_new r e room is v) in
    inr (ap (λ (b : Badge). record e { badge = b }) badge)
join_kept r e other is v = inl (ap is_join is)

-- what any other one makes and tells, it does with any badge
lines_free : (o : ChatOpening) (chat : ChatRecord) (conn : ℕ) (one two : Badge) (moment : ℕ) (cmd : Command) → is_join cmd ≡ false → lines o chat conn one moment cmd ≡ lines o chat conn two moment cmd
unfolding lines
lines_free o chat conn one two moment (Join room) free = absurd cc
lines_free o chat conn one two moment other free = refl

record_free : (groups : List Group) (chat : ChatRecord) (conn : ℕ) (one two : Badge) (moment : ℕ) (cmd : Command) → is_join cmd ≡ false → record_after groups chat conn one moment cmd ≡ record_after groups chat conn two moment cmd
record_free groups chat conn one two moment (Join room) free = absurd cc
record_free groups chat conn one two moment other free = refl

joined_free : (join : Bool) (r : Record) (e f : Entry) → join ≡ false → joined_if join r e ≡ joined_if join r f
joined_free true r e f free = absurd cc
joined_free false r e f free = refl

told_free : (r : Record) (e : Entry) → is_join e.cmd ≡ false → told_by None r (entry_kept r e) ≡ told_by None r e
told_free r e free =
    let make : List Line → Option Joined → Told = λ ls joined. record { events = allowed_events r e; lines = lines_by r.battle (sender_of r e) e.cmd ls; joined = joined } in
    ap (λ (ls : List Line). make ls (joined_if (is_join e.cmd) r (entry_kept r e))) (lines_free r.opening r.chat e.conn (entry_kept r e).badge e.badge e.moment e.cmd free)
    ∙ ap (make (lines r.opening r.chat e.conn e.badge e.moment e.cmd)) (joined_free (is_join e.cmd) r (entry_kept r e) e free)

after_free : (r : Record) (e : Entry) → is_join e.cmd ≡ false → after_by None r (entry_kept r e) ≡ after_by None r e
after_free r e free =
    let events = allowed_events r e in
    let make : ChatRecord → List Line → Record = λ chat ls. record {
      opening = r.opening;
      chat = chat;
      logged = r.logged ++ logged_of events (lines_by r.battle (sender_of r e) e.cmd ls);
      battle = battle_after r.battle (sender_of r e) e.cmd;
    } in
    ap (λ (ls : List Line). make (record_after r.opening.groups r.chat e.conn (entry_kept r e).badge e.moment e.cmd) ls)
    (lines_free r.opening r.chat e.conn (entry_kept r e).badge e.badge e.moment e.cmd free)
    ∙ ap (λ (chat : ChatRecord). make chat (lines r.opening r.chat e.conn e.badge e.moment e.cmd))
    (record_free r.opening.groups r.chat e.conn (entry_kept r e).badge e.badge e.moment e.cmd free)

-- ---- any entry

told_judged : (r : Record) (e : Entry) (v : Option Why) → verdict r e ≡ v → told_by v r (entry_kept r e) ≡ told_by v r e
told_judged r e (Some why) v = refl
told_judged r e None v = elim (join_kept r e e.cmd refl v) [
  | inl free ↦ told_free r e free
  | inr same ↦ ap (told_by None r) same
]

told_kept : (r : Record) (e : Entry) → told r (entry_kept r e) ≡ told r e
unfolding told
told_kept r e = ap (λ (v : Option Why). told_by v r (entry_kept r e)) (verdict_kept r e) ∙ told_judged r e (verdict r e) refl

pub message_kept : (conn : ℕ) (r : Record) (e : Entry) → message conn r (entry_kept r e) ≡ message conn r e
message_kept conn r e = ap (λ (t : Told). message_of conn (role conn r) e.conn t (cast_in r.battle) r.logged) (told_kept r e)

after_judged : (r : Record) (e : Entry) (v : Option Why) → verdict r e ≡ v → after_by v r (entry_kept r e) ≡ after_by v r e
after_judged r e (Some why) v = refl
after_judged r e None v = elim (join_kept r e e.cmd refl v) [
  | inl free ↦ after_free r e free
  | inr same ↦ ap (after_by None r) same
]

pub after_kept : (r : Record) (e : Entry) → after r (entry_kept r e) ≡ after r e
unfolding after
after_kept r e = ap (λ (v : Option Why). after_by v r (entry_kept r e)) (verdict_kept r e) ∙ after_judged r e (verdict r e) refl

round_judged : (r : Record) (e : Entry) (v : Option Why) → round_if_allowed v r (entry_kept r e) ≡ round_if_allowed v r e
round_judged r e (Some why) = refl
round_judged r e None = refl

pub round_kept : (r : Record) (e : Entry) → round_of r (entry_kept r e) ≡ round_of r e
round_kept r e = ap (λ (v : Option Why). round_if_allowed v r (entry_kept r e)) (verdict_kept r e) ∙ round_judged r e (verdict r e)

-- ---- who joins

badge_kept : (cmd : Command) (me : Option Present) (badge : Badge) → is_join cmd ≡ true → badge_of me (looked_at cmd me badge) ≡ badge_of me badge
badge_kept (Join room) None badge joins = refl
badge_kept cmd (Some me) badge joins = refl
badge_kept other None badge joins = absurd cc

-- is the same user, also if it is refused
pub join_user_kept : (r : Record) (e : Entry) → is_join e.cmd ≡ true → user_of r (entry_kept r e) ≡ user_of r e
join_user_kept r e joins = ap (λ (b : Badge). id_of b.name) (badge_kept e.cmd (sender_of r e) e.badge joins)
