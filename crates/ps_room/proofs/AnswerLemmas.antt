-- Every entry gets the answer of its verdict.
use Rattle.std.proofs.Common.{◌≡◌, ℕ, ◌==◌, false, [], ◌∷◌, Option, Some, None, refl, sym, ap, ◌∙◌}
use Rattle.std.proofs.lemmas.Bool.{ne_eqb, eq-eqb}
use Rattle.ps_base.specs.declared.why.Why.{Why}
use Rattle.ps_base.specs.Whys.{error_line}
use Rattle.ps_room.specs.declared.entry.Entry.{Entry}
use Rattle.ps_room.specs.Records.{Record, cast_in}
use Rattle.ps_chat.specs.Verdicts.{verdict as chat_verdict}
use Rattle.ps_room.specs.Rooms.{verdict, sender_of, refusal_by_battle, or_else, told, after, applied, role, message}
use Rattle.ps_room.specs.Answers.{IsAnswered}
use Rattle.ps_room.specs.Logs.{ending_by, out_by, out_of}
use Rattle.ps_room.specs.declared.outcome.RoomOut.{RoomOut}
use Rattle.ps_room.specs.declared.outcome.Verdict.TheVariants.{Applied, Refused}
use Rattle.ps_room.proofs.QuietLemmas.{shown_nothing}

pub told_line : (r : Record) (e : Entry) (why : Why) → verdict r e ≡ Some why → message e.conn r e ≡ error_line why ∷ []
unfolding told
told_line r e why v = rw (v, eq-eqb e.conn e.conn refl, shown_nothing (cast_in r.battle) (role e.conn r)) refl

pub silent_line : (r : Record) (e : Entry) (why : Why) (conn : ℕ) → verdict r e ≡ Some why → (conn == e.conn) ≡ false → message conn r e ≡ []
unfolding told
silent_line r e why conn v other = rw (v, other, shown_nothing (cast_in r.battle) (role conn r)) refl

pub after_allowed : (r : Record) (e : Entry) → verdict r e ≡ None → after r e ≡ applied r e
unfolding after
after_allowed r e v = rw v refl

pub after_refused : (r : Record) (e : Entry) (why : Why) → verdict r e ≡ Some why → after r e ≡ r
unfolding after
after_refused r e why v = rw v refl

pub answered : (r : Record) (e : Entry) → IsAnswered r e
answered r e = record {
  allowed = after_allowed r e;
  unchanged = after_refused r e;
  told = told_line r e;
  silent = λ why conn v apart. silent_line r e why conn v (ne_eqb conn e.conn apart);
}

-- ---- what is allowed, the chat and the battle allow

none_both : (a b : Option Why) → or_else a b ≡ None → (a ≡ None) × (b ≡ None)
none_both None b e = (refl, e)
none_both (Some why) b e = absurd (let wrong : Some why ≡ None = e in cc)

pub chat_allows : (r : Record) (e : Entry) → verdict r e ≡ None → chat_verdict r.opening r.chat e.conn e.badge e.moment e.cmd ≡ None
unfolding verdict
chat_allows r e v = (none_both (chat_verdict r.opening r.chat e.conn e.badge e.moment e.cmd) (refusal_by_battle r.battle (sender_of r e) e.cmd) v).0

pub battle_allows : (r : Record) (e : Entry) → verdict r e ≡ None → refusal_by_battle r.battle (sender_of r e) e.cmd ≡ None
unfolding verdict
battle_allows r e v = (none_both (chat_verdict r.opening r.chat e.conn e.badge e.moment e.cmd) (refusal_by_battle r.battle (sender_of r e) e.cmd) v).1

-- ---- an answer tells the verdict

verdict_applied : (v : Option Why) (r : Record) (e : Entry) (out : RoomOut) → out ≡ out_by v r e → out.verdict ≡ Applied → v ≡ None
verdict_applied None r e out is said = refl
verdict_applied (Some why) r e out is said = absurd (let wrong : Refused why ≡ Applied = sym (ap (λ (o : RoomOut). o.verdict) is) ∙ said in cc)

verdict_refused : (v : Option Why) (r : Record) (e : Entry) (out : RoomOut) (why : Why) → out ≡ out_by v r e → out.verdict ≡ Refused why → v ≡ Some why
verdict_refused None r e out why is said = absurd (let wrong : Applied ≡ Refused why = sym (ap (λ (o : RoomOut). o.verdict) is) ∙ said in cc)
verdict_refused (Some other) r e out why is said = let same : Refused other ≡ Refused why = sym (ap (λ (o : RoomOut). o.verdict) is) ∙ said in cc

pub was_allowed : (r : Record) (e : Entry) (out : RoomOut) → out ≡ out_of r e → out.verdict ≡ Applied → verdict r e ≡ None
unfolding out_of
was_allowed r e out is said = verdict_applied (verdict r e) r e out is said

pub was_refused : (r : Record) (e : Entry) (out : RoomOut) (why : Why) → out ≡ out_of r e → out.verdict ≡ Refused why → verdict r e ≡ Some why
unfolding out_of
was_refused r e out why is said = verdict_refused (verdict r e) r e out why is said

-- and a verdict the answer
pub out_refused : (r : Record) (e : Entry) (why : Why) → verdict r e ≡ Some why → record { verdict = Refused why; ended = None } ≡ out_of r e
unfolding out_of
out_refused r e why v = rw v refl

pub out_allowed : (r : Record) (e : Entry) → verdict r e ≡ None → record { verdict = Applied; ended = ending_by r.battle (sender_of r e) e.cmd } ≡ out_of r e
unfolding out_of
out_allowed r e v = rw v refl
