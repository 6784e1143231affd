use Rattle.ps_splitlog.proofs.IndexLemmas.{kept_index}
use Rattle.ps_splitlog.proofs.FirstLemmas.{kept_firsts}
use Rattle.ps_splitlog.proofs.log.SplitLog.give_roles.Goals as goal

pub invariant_of-self : goal.invariant_of-self
invariant_of-self c = (
  kept_index c.self.inside.entries.items c.set_roles.new.entries.items c.args.roles c.self.inside.index.starts.items
      c.self.inside.index.line_indices.items c.self.invariant.0 c.set_roles.ensures.last c.set_roles.ensures.none,
  kept_firsts c.self.inside.entries.items c.set_roles.new.entries.items c.args.roles c.self.inside.firsts c.self.invariant.1
      c.set_roles.ensures.last c.set_roles.ensures.none,
)
