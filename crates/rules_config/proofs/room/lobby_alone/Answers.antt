use Rattle.std.proofs.Common.{refl}
use Rattle.ps_data.specs.OwnIds.{has_id}
use Rattle.rules_config.proofs.room.lobby_alone.Goals as goal

pub push-requires : goal.push-requires
unfolding has_id
push-requires c = rw c.new-rooms.ensures refl
