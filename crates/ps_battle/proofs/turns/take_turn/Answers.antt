use Rattle.std.proofs.Common.{arith}
use Rattle.ps_battle.proofs.KeepLemmas.{there-kept}
use Rattle.ps_battle.proofs.turns.take_turn.Goals as goal

pub switch_both-requires-clause-first : goal.switch_both-requires-clause-first
switch_both-requires-clause-first c = there-kept _ _ c.args.c1 (c.begin.ensures.kept 1 (omega arith)).foe c.requires.first

pub switch_both-requires-clause-second : goal.switch_both-requires-clause-second
switch_both-requires-clause-second c = there-kept _ _ c.args.c2 (c.begin.ensures.kept 0 (omega arith)).foe c.requires.second
