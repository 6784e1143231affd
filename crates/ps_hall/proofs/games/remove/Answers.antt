use Rattle.std.proofs.Common.{sym}
use Rattle.ps_hall.proofs.GameLemmas.{kept_none, kept_gone, left_is}
use Rattle.ps_hall.proofs.games.remove.Goals as goal

pub returns-in-None-clause-kept : goal.returns-in-None-clause-kept
returns-in-None-clause-kept c = kept_none c.args.table.now c.requires c.args.number c.take.new.self c.take.ensures.after

pub returns-in-None-clause-value : goal.returns-in-None-clause-value
returns-in-None-clause-value c = left_is c.args.table.now c.requires c.args.number c.take.new.self c.take.ensures.after

pub returns-in-Some-clause-kept : goal.returns-in-Some-clause-kept
returns-in-Some-clause-kept c = kept_gone c.args.table.now c.requires c.args.number c.in-Some.game c.take.new.self c.remove_players.new.index c.take.ensures.after (sym c.in-Some.ensures.value) c.remove_players.ensures

pub returns-in-Some-clause-value : goal.returns-in-Some-clause-value
returns-in-Some-clause-value c = left_is c.args.table.now c.requires c.args.number c.take.new.self c.take.ensures.after
