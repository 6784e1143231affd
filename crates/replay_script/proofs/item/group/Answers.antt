use Rattle.replay_script.proofs.ItemLemmas.{no_group_space, no_group_id}
use Rattle.replay_script.proofs.item.group.Goals as goal

pub returns-in-None-after-clause-none : goal.returns-in-None-after-clause-none
returns-in-None-after-clause-none c = no_group_space c.args.line.now c.in-Some.rest.now c.in-Some-first_char.rest.now c.in-Some-first_char.symbol c.in-Some.ensures.found c.in-Some-first_char.ensures.found c.in-None-after.ensures.none

pub returns-else-is_name-clause-none : goal.returns-else-is_name-clause-none
returns-else-is_name-clause-none c = no_group_id c.args.line.now c.in-Some.rest.now c.in-Some-first_char.rest.now c.in-Some-after.id.now c.in-Some-first_char.symbol c.in-Some.ensures.found c.in-Some-first_char.ensures.found c.in-Some-after.ensures.found (c.is_name.ensures.none c.if-is_name.false)
