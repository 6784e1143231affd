use Rattle.ps_mon.specs.Duels.{with_duel}
use Rattle.ps_mon.proofs.PutLemmas.{put-sound, put-known, put-whole, put-kept}
use Rattle.ps_mon.proofs.record.Battle.put.Goals as goal

pub returns-clause-sound : goal.returns-clause-sound
unfolding with_duel
returns-clause-sound c =
    rw (c.put_fighter.ensures.value, c.put_fighter-2.ensures.value)
    (put-sound c.args.self.now c.args.user c.args.duel.now c.requires.user c.requires.fit c.requires.sound)

pub returns-clause-known : goal.returns-clause-known
unfolding with_duel
returns-clause-known c = λ moves named known.
    rw (c.put_fighter.ensures.value, c.put_fighter-2.ensures.value)
    (put-known moves c.args.self.now c.args.user c.args.duel.now c.requires.user c.requires.sound named known)

pub returns-clause-whole : goal.returns-clause-whole
unfolding with_duel
returns-clause-whole c =
    rw (c.put_fighter.ensures.value, c.put_fighter-2.ensures.value)
    (λ valid still. put-whole c.args.self.now c.args.user c.args.duel.now c.requires.user valid still
    (put-sound c.args.self.now c.args.user c.args.duel.now c.requires.user c.requires.fit c.requires.sound))

pub returns-clause-kept : goal.returns-clause-kept
unfolding with_duel
returns-clause-kept c =
    rw (c.put_fighter.ensures.value, c.put_fighter-2.ensures.value)
    (put-kept c.args.self.now c.args.user c.args.duel.now c.requires.user c.requires.sound)
