use Rattle.ps_mon.specs.Switching.{with_switch}
use Rattle.ps_mon.proofs.SwitchLemmas.{switch-sound, switch-known, switch-some, switch-came, switch-foe, switch-kept, switch-count}
use Rattle.ps_mon.proofs.record.Battle.switch.Goals as goal

pub returns-clause-sound : goal.returns-clause-sound
unfolding with_switch
returns-clause-sound c =
    rw (c.come_in.ensures, c.release.ensures)
    (switch-sound c.args.self.now c.args.side c.args.position c.requires.side c.requires.low c.requires.high c.requires.sound)

pub returns-clause-known : goal.returns-clause-known
unfolding with_switch
returns-clause-known c = λ moves known.
    rw (c.come_in.ensures, c.release.ensures)
    (switch-known moves c.args.self.now c.args.side c.args.position c.requires.side c.requires.sound known)

pub returns-clause-some : goal.returns-clause-some
unfolding with_switch
returns-clause-some c =
    rw (c.come_in.ensures, c.release.ensures)
    (switch-some c.args.self.now c.args.side c.args.position c.requires.side c.requires.sound)

pub returns-clause-came : goal.returns-clause-came
unfolding with_switch
returns-clause-came c =
    rw (c.come_in.ensures, c.release.ensures)
    (switch-came c.args.self.now c.args.side c.args.position c.requires.side c.requires.low c.requires.high c.requires.sound)

pub returns-clause-foe : goal.returns-clause-foe
unfolding with_switch
returns-clause-foe c =
    rw (c.come_in.ensures, c.release.ensures)
    (switch-foe c.args.self.now c.args.side c.args.position c.requires.side c.requires.sound)

pub returns-clause-kept : goal.returns-clause-kept
unfolding with_switch
returns-clause-kept c =
    rw (c.come_in.ensures, c.release.ensures)
    (switch-kept c.args.self.now c.args.side c.args.position c.requires.side c.requires.sound)

pub returns-clause-count : goal.returns-clause-count
unfolding with_switch
returns-clause-count c =
    rw (c.come_in.ensures, c.release.ensures)
    (switch-count c.args.self.now c.args.side c.args.position c.requires.side c.requires.sound)
