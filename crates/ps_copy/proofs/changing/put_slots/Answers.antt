use Rattle.ps_copy.specs.Changing.{with_slots}
use Rattle.ps_copy.proofs.ChangeLemmas.{slots-sound, slots-known, slots-whole}
use Rattle.ps_copy.proofs.changing.put_slots.Goals as goal

pub returns-clause-sound : goal.returns-clause-sound
unfolding with_slots
returns-clause-sound c = slots-sound c.args.battle.now c.args.user c.args.slots.now c.requires.user c.requires.slots c.requires.sound

pub returns-clause-whole : goal.returns-clause-whole
unfolding with_slots
returns-clause-whole c = slots-whole c.args.battle.now c.args.user c.args.slots.now c.requires.user c.requires.slots

pub returns-clause-known : goal.returns-clause-known
unfolding with_slots
returns-clause-known c = λ moves named known.
    slots-known moves c.args.battle.now c.args.user c.args.slots.now c.requires.user c.requires.sound named known
