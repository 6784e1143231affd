use Rattle.ps_packed.proofs.CanonTeams.{canon_is}
use Rattle.ps_packed.proofs.team.canonical_is.Goals as goal

pub returns : goal.returns
returns c = canon_is
