use Rattle.rules_config.proofs.FitLemmas.{file_fit}
use Rattle.rules_config.proofs.config.Config.rooms.Goals as goal

pub returns-clause-some : goal.returns-clause-some
returns-clause-some c = rw c.as_slice.ensures (file_fit c.self.inside.settings c.self.invariant).some_rooms

pub returns-clause-few : goal.returns-clause-few
returns-clause-few c = rw c.as_slice.ensures (file_fit c.self.inside.settings c.self.invariant).few_rooms
