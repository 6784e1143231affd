use Rattle.ps_packed.proofs.Unique.{one_team}
use Rattle.ps_packed.proofs.team.one_team.Goals as goal

pub returns : goal.returns
returns c = one_team
