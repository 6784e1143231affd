use Rattle.std.proofs.Common.{◌≡◌, take, string_bytes}
use Rattle.replay_drill.specs.Fights.{id_at}
use Rattle.replay_drill.proofs.TeamLemmas.{joined}
use Rattle.replay_drill.proofs.fight.ids_from.Given as goal

abbrev pub invariant-loop-number : goal.invariant-loop-number
invariant-loop-number l = string_bytes l.ids ≡ joined (id_at l.moves) l.first (take l.number-index l.rest)
