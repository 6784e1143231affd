-- What the lines of a battle name stays.
use Rattle.std.proofs.Common.{◌≡◌, Option, Some, None, refl, ap, ◌∙◌}
use Rattle.ps_base.specs.declared.why.Why.{Why}
use Rattle.ps_lines.specs.declared.command.Command.{Command}
use Rattle.ps_chat.specs.declared.present.Present.{Present}
use Rattle.battle_rounds.specs.Fights.{Fight}
use Rattle.ps_room.specs.declared.entry.Entry.{Entry}
use Rattle.ps_room.specs.Records.{Record, cast_in}
use Rattle.ps_room.specs.Rooms.{verdict, sender_of, after, battle_after}
use Rattle.ps_room.proofs.AnswerLemmas.{after_allowed, after_refused}

pub cast_after : (battle : Option Fight) (me : Option Present) (cmd : Command) → cast_in (battle_after battle me cmd) ≡ cast_in battle
cast_after None me cmd = refl
cast_after (Some f) me cmd = refl

pub cast_by : (r : Record) (e : Entry) (v : Option Why) → verdict r e ≡ v → cast_in (after r e).battle ≡ cast_in r.battle
cast_by r e (Some why) v = ap (λ (x : Record). cast_in x.battle) (after_refused r e why v)
cast_by r e None v = ap (λ (x : Record). cast_in x.battle) (after_allowed r e v) ∙ cast_after r.battle (sender_of r e) e.cmd
