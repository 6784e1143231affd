use Rattle.replay_script.proofs.ItemLemmas.{no_number}
use Rattle.replay_script.proofs.item.number_after.Goals as goal

pub returns-in-None-read_u32-clause-none : goal.returns-in-None-read_u32-clause-none
returns-in-None-read_u32-clause-none c = no_number c.args.front.now c.args.line.now c.in-Some.rest.now c.in-Some.ensures.found (rw c.as_bytes.ensures.value at c.in-None-read_u32.ensures.none)
