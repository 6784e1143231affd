use Rattle.std.proofs.Common.{◌≡◌, ◌-◌, length, arith}
use Rattle.ps_splitlog.proofs.IndexLemmas.{set_last}
use Rattle.ps_splitlog.proofs.log.set_roles.Goals as goal

pub returns-then-count-gt0-clause-last : goal.returns-then-count-gt0-clause-last
returns-then-count-gt0-clause-last c =
    let end : c.len-count.result - 1 ≡ length c.args.entries.now.items - 1 = omega (arith, c.len-count.ensures, c.args.entries.now.ok.0) in
    λ log h is. set_last c.args.entries.now.items log h c.index_mut.result.now c.args.roles (c.len-count.result - 1) is end c.index_mut.ensures.value
