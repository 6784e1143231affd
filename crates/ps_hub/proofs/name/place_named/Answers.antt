use Rattle.ps_hub.proofs.NameLemmas.{if_none}
use Rattle.ps_hub.proofs.name.place_named.Goals as goal

pub returns-in_err-number-in-None-clause-none : goal.returns-in_err-number-in-None-clause-none
returns-in_err-number-in-None-clause-none c = if_none _ c.from_residual.result (c.in-None.ensures.none, c.in_err-number-in-None.ensures.none)
