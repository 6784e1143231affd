use Rattle.server_places.specs.RoomLaws.{pulls_go_on}
use Rattle.server_places.specs.HallLaws.{hall_goes_on}
use Rattle.server_places.proofs.law.law_of_places.Goals as goal

pub returns-clause-hall : goal.returns-clause-hall
returns-clause-hall c = hall_goes_on

pub returns-clause-room : goal.returns-clause-room
returns-clause-room c = pulls_go_on
