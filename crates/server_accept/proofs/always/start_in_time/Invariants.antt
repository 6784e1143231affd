use Rattle.server_accept.proofs.always.start_in_time.Given as goal

-- the job may still be called
abbrev pub invariant-loop : goal.invariant-loop
invariant-loop g l = g.J.FnOnce.pre l.job tt
