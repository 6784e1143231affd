use Rattle.ps_mon.specs.Spending.{after_use}
use Rattle.ps_mon.proofs.SpendLemmas.{use-sound, use-known, use-kept}
use Rattle.ps_mon.proofs.record.Battle.spend.Goals as goal

pub returns-clause-sound : goal.returns-clause-sound
unfolding after_use
returns-clause-sound c = rw c.use_slot.ensures (use-sound c.args.self.now c.args.user c.args.slot c.requires.user c.requires.slot c.requires.sound)

pub returns-clause-known : goal.returns-clause-known
unfolding after_use
returns-clause-known c = λ moves known.
    rw c.use_slot.ensures (use-known moves c.args.self.now c.args.user c.args.slot c.requires.user c.requires.slot c.requires.sound known)

pub returns-clause-kept : goal.returns-clause-kept
unfolding after_use
returns-clause-kept c = rw c.use_slot.ensures (use-kept c.args.self.now c.args.user c.args.slot c.requires.user c.requires.slot c.requires.sound)
