use Rattle.replay_script.proofs.ItemLemmas.{no_space, no_send}
use Rattle.replay_script.proofs.item.send.Goals as goal

pub returns-in-None-at_space-clause-none : goal.returns-in-None-at_space-clause-none
returns-in-None-at_space-clause-none c = no_space c.args.line.now c.in-Some.rest.now c.in-Some.ensures.found c.in-None-at_space.ensures.none

pub returns-in-None-read_u32-clause-none : goal.returns-in-None-read_u32-clause-none
returns-in-None-read_u32-clause-none c = no_send c.args.line.now c.in-Some.rest.now c.in-Some-at_space.digits.now c.in-Some-at_space.text.now c.in-Some.ensures.found c.in-Some-at_space.ensures.found c.in-Some-at_space.ensures.first (rw c.as_bytes.ensures.value at c.in-None-read_u32.ensures.none)
