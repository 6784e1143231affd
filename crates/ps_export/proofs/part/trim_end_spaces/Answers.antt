use Rattle.ps_base.proofs.NameLemmas.{trimmed_end}
use Rattle.ps_export.proofs.part.trim_end_spaces.Goals as goal

pub returns : goal.returns
returns c = trimmed_end c.args.text.now c.trim_end_matches.result.now c.trim_end_matches.ensures.matches
