use Rattle.rules_config.proofs.FileLemmas.{of_fresh}
use Rattle.rules_config.proofs.config.Config.with_fresh.Goals as goal

pub invariant_of-result : goal.invariant_of-result
invariant_of-result c = rw c.in_ok-settings.ensures (of_fresh c.args.fresh.now c.self.inside.settings c.self.invariant)
