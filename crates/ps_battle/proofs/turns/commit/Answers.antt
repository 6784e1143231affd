use Rattle.std.proofs.Common.{arith}
use Rattle.ps_battle.proofs.ChoiceLemmas.{there-in-turn, there-is-choice, stands-replaced, all-stand}
use Rattle.ps_battle.proofs.turns.commit.Goals as goal

pub take_turn-requires-clause-first : goal.take_turn-requires-clause-first
take_turn-requires-clause-first c = there-in-turn c.args.battle.now 0 c.args.c1 c.in-Turn.is c.requires.first

pub take_turn-requires-clause-second : goal.take_turn-requires-clause-second
take_turn-requires-clause-second c = there-in-turn c.args.battle.now 1 c.args.c2 c.in-Turn.is c.requires.second

pub replace-requires-clause-first : goal.replace-requires-clause-first
replace-requires-clause-first c = there-is-choice c.args.battle.now 0 c.args.c1 c.requires.first

pub replace-requires-clause-second : goal.replace-requires-clause-second
replace-requires-clause-second c = there-is-choice c.args.battle.now 1 c.args.c2 c.requires.second

pub replace-requires-clause-active_first : goal.replace-requires-clause-active_first
replace-requires-clause-active_first c =
    stands-replaced _ _ c.args.battle.now 0 c.args.c1 c.in-Replace.is (omega arith) (c.requires.valid.standing c.requires.going) c.requires.first

pub replace-requires-clause-active_second : goal.replace-requires-clause-active_second
replace-requires-clause-active_second c =
    stands-replaced _ _ c.args.battle.now 1 c.args.c2 c.in-Replace.is (omega arith) (c.requires.valid.standing c.requires.going) c.requires.second

pub send_out-requires-clause-first : goal.send_out-requires-clause-first
send_out-requires-clause-first c = there-is-choice c.args.battle.now 0 c.args.c1 c.requires.first

pub send_out-requires-clause-second : goal.send_out-requires-clause-second
send_out-requires-clause-second c = there-is-choice c.args.battle.now 1 c.args.c2 c.requires.second

pub send_out-requires-clause-stand : goal.send_out-requires-clause-stand
send_out-requires-clause-stand c = all-stand c.args.battle.now c.in-Preview.is (c.requires.valid.standing c.requires.going)
