use Rattle.std.proofs.Common.{◌∙◌}
use Rattle.ps_mon.specs.declared.choice.Choice.TheVariants as choices
use Rattle.ps_battle.proofs.KeepLemmas.{there-kept}
use Rattle.ps_battle.proofs.turns.switch_both.Goals as goal

pub do_switch-requires-2-clause-there : goal.do_switch-requires-2-clause-there
do_switch-requires-2-clause-there c = there-kept _ _ c.args.c2 c.do_switch.ensures.kept.foe c.requires.second

pub returns-clause-there_first : goal.returns-clause-there_first
returns-clause-there_first c = there-kept _ _ c.args.c1 c.do_switch-2.ensures.kept.foe c.do_switch.ensures.there

pub returns-clause-active_first : goal.returns-clause-active_first
returns-clause-active_first c = c.do_switch-2.ensures.foe choices.Pass ∙ c.do_switch.ensures.own
