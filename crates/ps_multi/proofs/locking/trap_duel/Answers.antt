use Rattle.ps_multi.proofs.locking.trap_duel.Goals as goal

pub returns-in-Some-clause-known : goal.returns-in-Some-clause-known
returns-in-Some-clause-known c moves lt known =
    c.go_on_trapping.ensures.known moves lt (c.in-Some.ensures.known moves known) known
