use Rattle.std.proofs.Common.{◌≡◌, take}
use Rattle.battle_rounds.specs.Fights.{requests}
use Rattle.battle_rounds.proofs.room_battle.requests.Given as goal

abbrev pub invariant-loop-event : goal.invariant-loop-event
invariant-loop-event l = l.lines.items ≡ requests l.cast l.bout (take l.event-index l.events)
