use Rattle.replay_script.proofs.OneScript.{one_script, no_script}
use Rattle.replay_script.proofs.script.read_script.Goals as goal

pub returns-in-Err-Bad-clause-none : goal.returns-in-Err-Bad-clause-none
returns-in-Err-Bad-clause-none c = λ items h. no_script c.args.symbols.now c.args.bytes.now items c.in-Err-Bad.line c.in-Err-Bad.kind (rw c.in-Err-Bad.field-0-is at c.in-Err-Bad.ensures.bad) h

pub returns-in-Ok-clause-one : goal.returns-in-Ok-clause-one
returns-in-Ok-clause-one c = λ items h. one_script c.args.symbols.now c.args.bytes.now items c.in-Ok.items.items h c.in-Ok.ensures.found
