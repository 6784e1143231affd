use Rattle.ps_valid.proofs.ReadyLemmas.{legal_ready}
use Rattle.ps_valid.proofs.check.legal.Goals as goal

pub returns-clause-ready : goal.returns-clause-ready
returns-clause-ready c =
    let made = c.in_ok-members in
    rw (c.team_of-team.ensures, c.deref.ensures.value, c.from_vec.ensures, c.in_ok-nicks.ensures)
    (legal_ready c.args.dex.now c.args.sets.now made.members.items (rw made.ensures.count c.requires.some) (rw made.ensures.count c.requires.few) made.ensures.count made.ensures.ready)
