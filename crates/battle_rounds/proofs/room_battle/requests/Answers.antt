use Rattle.std.proofs.Common.{◌<◌, length, [], arith}
use Rattle.battle_rounds.specs.Fights.{request_at}
use Rattle.battle_rounds.proofs.ListLemmas.{next_read}
use Rattle.battle_rounds.proofs.room_battle.requests.Goals as goal

pub loop-event-preserved : goal.loop-event-preserved
loop-event-preserved c =
    let lt : c.loop-event.event-index < length c.args.events.now = omega arith in
    next_read (request_at c.args.cast.now c.args.bout.now) c.args.events.now c.loop-event.event-index _ [] c.loop-event.lines.items c.push_request.new.lines.items lt c.loop-event.invariant c.in_ok-push_request.ensures
