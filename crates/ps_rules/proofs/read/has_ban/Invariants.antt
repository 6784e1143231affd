use Rattle.std.proofs.Common.{◌≡◌, drop}
use Rattle.ps_rules.specs.Reading.{has_ban}
use Rattle.ps_rules.proofs.read.has_ban.Given as goal

abbrev pub invariant-loop-ban : goal.invariant-loop-ban
invariant-loop-ban l = has_ban l.id (drop l.ban-index l.bans) ≡ has_ban l.id l.bans
