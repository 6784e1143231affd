use Rattle.std.proofs.Common.{sym, ◌∙◌}
use Rattle.ps_histlock.proofs.HomeLemmas.{names_unsigned}
use Rattle.ps_histlock.proofs.home.Home.apply.Goals as goal

pub returns-in_ok-out-in-None-clause-entry : goal.returns-in_ok-out-in-None-clause-entry
returns-in_ok-out-in-None-clause-entry g c = λ log s. (c.in_ok-out-in-None.ensures.entry log s.0, names_unsigned g.K.Kept.signer log c.args.cmd c.args.self.now.names (sym c.signed_by.ensures ∙ c.in-None.is) s.1)
