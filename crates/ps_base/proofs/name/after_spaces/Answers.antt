use Rattle.ps_base.proofs.NameLemmas.{trimmed_front}
use Rattle.ps_base.proofs.name.after_spaces.Goals as goal

pub returns : goal.returns
returns c = trimmed_front c.args.text.now c.trim_start_matches.result.now c.trim_start_matches.ensures.matches
