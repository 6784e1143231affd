use Rattle.std.proofs.Common.{◌∙◌}
use Rattle.ps_hub.proofs.PassLemmas.{hall_new}
use Rattle.ps_hub.proofs.pass.hall_pass.Goals as goal

pub returns-clause-of : goal.returns-clause-of
returns-clause-of c = λ hub name origin. hall_new hub c.args.conn c.new-2.result c.args.lock.now c.new-2.ensures.pass.0 name origin
    c.new-2.ensures.pass.1 (c.new-2.ensures.cursor ∙ c.new.ensures) c.new-2.ensures.kept c.new-2.ensures.at
