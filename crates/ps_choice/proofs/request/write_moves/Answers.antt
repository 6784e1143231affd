use Rattle.ps_choice.specs.Requests.{moves_data}
use Rattle.ps_choice.proofs.request.write_moves.Goals as goal

pub returns-then-side : goal.returns-then-side
unfolding moves_data
returns-then-side c = rw c.if-side.true c.write_only_move.ensures
