use Rattle.std.proofs.Common.{sym, ◌∙◌}
use Rattle.ps_histlock.proofs.HomeLemmas.{names_known, names_added}
use Rattle.ps_histlock.proofs.home.Home.apply_signed.Goals as goal

pub returns-then-contains-clause-entry : goal.returns-then-contains-clause-entry
returns-then-contains-clause-entry g c = λ log s. (c.in_ok-out.ensures.entry log s.0, names_known g.K.Kept.signer c.args.name log c.args.cmd c.args.self.now.names c.requires (sym c.contains.ensures ∙ c.if-contains.true) s.1)

pub returns-in-Ok-clause-entry : goal.returns-in-Ok-clause-entry
returns-in-Ok-clause-entry g c = λ log s. (c.in-Ok.ensures.entry log s.0, names_added g.K.Kept.signer c.args.name log c.args.cmd c.args.self.now.names c.add.new.names c.requires c.in_ok-add.ensures.ok s.1)
