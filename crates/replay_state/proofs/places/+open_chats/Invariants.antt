use Rattle.std.proofs.Common.{length}
use Rattle.replay_state.proofs.places.+open_chats.Given as goal

abbrev pub decreases-open_chats : goal.decreases-open_chats
decreases-open_chats l = length l.rooms.now
