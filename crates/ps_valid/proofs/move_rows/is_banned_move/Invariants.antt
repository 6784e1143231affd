use Rattle.std.proofs.Common.{◌≡◌, drop}
use Rattle.ps_valid.specs.MoveRows.{is_banned_move}
use Rattle.ps_valid.proofs.move_rows.is_banned_move.Given as goal

abbrev pub invariant-loop-ban : goal.invariant-loop-ban
invariant-loop-ban l = is_banned_move l.dex (drop l.ban-index l.bans) l.mv ≡ is_banned_move l.dex l.bans l.mv
