use Rattle.program_show.proofs.SecretLemmas.{is_whole}
use Rattle.program_show.proofs.summary.summary.Goals as goal

pub returns : goal.returns
returns c =
    is_whole c.args.dex.now c.args.config.now c.in_ok-drill.drill.items c.in_ok-sections.sections.items
    c.in_ok-drill.ensures c.in_ok-sections.ensures
