use Rattle.std.proofs.Common.{◌≡◌, drop}
use Rattle.replay_tour.specs.Entrants.{registered}
use Rattle.replay_tour.proofs.entering.registered.Given as goal

abbrev pub invariant-loop-user : goal.invariant-loop-user
invariant-loop-user l = registered l.id (drop l.user-index l.users) ≡ registered l.id l.users
