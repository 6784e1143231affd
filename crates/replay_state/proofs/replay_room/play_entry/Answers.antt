use Rattle.replay_state.proofs.HearerLemmas.{still}
use Rattle.replay_state.proofs.replay_room.play_entry.Goals as goal

pub invariant_of-room-2 : goal.invariant_of-room-2
invariant_of-room-2 c = still _ _ c.args.entry.now _ _ _ c.in_ok-keep.ensures.ok c.still_ready-room-inside.ensures c.push_entry.ensures.kept
