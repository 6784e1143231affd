use Rattle.rules_config.proofs.FitLemmas.{file_fit}
use Rattle.rules_config.proofs.config.Config.users.Goals as goal

pub returns-clause-ranks : goal.returns-clause-ranks
returns-clause-ranks c = rw (c.as_slice.ensures, ← c.self.view_is) (file_fit c.self.inside.settings c.self.invariant).users
