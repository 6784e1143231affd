use Rattle.rules_config.proofs.FitLemmas.{file_fit}
use Rattle.rules_config.proofs.config.Config.staff.Goals as goal

pub returns-clause-within : goal.returns-clause-within
returns-clause-within c = rw (← c.self.view_is) (file_fit c.self.inside.settings c.self.invariant).staff
