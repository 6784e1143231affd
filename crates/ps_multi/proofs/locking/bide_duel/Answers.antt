use Rattle.ps_multi.proofs.locking.bide_duel.Goals as goal

pub returns-else-lock-eq0-clause-known : goal.returns-else-lock-eq0-clause-known
returns-else-lock-eq0-clause-known c moves lt known =
    let lock = c.lock_to_go_on-lock in
    c.go_on_biding.ensures.known moves (lock.ensures.mv moves lt (c.bide_lock-own.ensures.known moves known)) (lock.ensures.known moves known)
