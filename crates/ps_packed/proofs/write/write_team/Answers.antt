use Rattle.ps_packed.proofs.CanonTeams.{canon_again}
use Rattle.ps_packed.proofs.write.write_team.Goals as goal

pub returns-clause-again : goal.returns-clause-again
returns-clause-again c = canon_again c.team_text.result c.sets-sets.result.now c.args.team.now c.team_text.ensures c.sets-sets.ensures.value c.sets-sets.ensures.has_text
