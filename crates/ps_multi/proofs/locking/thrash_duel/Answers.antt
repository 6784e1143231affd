use Rattle.std.proofs.Common.{inl}
use Rattle.ps_multi.proofs.locking.thrash_duel.Goals as goal

pub returns-clause-known : goal.returns-clause-known
returns-clause-known c moves lt known =
    let lock = c.lock_to_go_on-lock in
    let struck = c.strike_foe_with.ensures.known moves (inl lt) (lock.ensures.known moves known) in
    c.count_thrash.ensures.known moves (c.shorter.ensures.known moves (lock.ensures.mv moves lt (c.thrash_lock-own.ensures.known moves known))) struck
