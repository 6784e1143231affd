use Rattle.ps_battle.proofs.KeepLemmas.{there-kept}
use Rattle.ps_battle.proofs.acts.do_two_acts.Goals as goal

pub do_act-requires-2-clause-there : goal.do_act-requires-2-clause-there
do_act-requires-2-clause-there c = there-kept _ _ c.args.second c.do_act.ensures.kept.foe c.requires.second
