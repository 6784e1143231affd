use Rattle.server_places.specs.declared.command.RoomCmd.TheVariants.{Begin}
use Rattle.ps_histlock.proofs.SignLemmas.{signs_on}
use Rattle.server_places.specs.Sites.{room_signer}
use Rattle.ps_hub.specs.Hubs.{site_of}
use Rattle.ps_hub.proofs.PassLemmas.{room_again}
use Rattle.ps_hub.proofs.OfLemmas.{of_begin}
use Rattle.ps_hub.proofs.hub.Hub.begin.Goals as goal

pub turn-requires-clause-sign : goal.turn-requires-clause-sign
turn-requires-clause-sign g c = signs_on room_signer c.requires.0 c.args.pass.now.pass.1.said (Begin c.args.start) (of_begin c.requires.0 c.args.start) c.requires.1.place.signs

pub returns-in-Done-clause-of : goal.returns-in-Done-clause-of
returns-in-Done-clause-of g c = λ conn p. room_again c.args.self.now conn c.args.pass.now _ c.turn.ensures.same.1 c.turn.ensures.same.2 c.turn.ensures.grows
    (c.turn.ensures.of conn (c.args.pass.now.pass.0, site_of c.args.self.now c.args.pass.now.number) (of_begin conn c.args.start)) p

pub returns-in-Done-clause-ok : goal.returns-in-Done-clause-ok
returns-in-Done-clause-ok g c = c.in-Done.ensures.does.0

pub returns-in-NoMemory-clause-of : goal.returns-in-NoMemory-clause-of
returns-in-NoMemory-clause-of g c = λ conn p. room_again c.args.self.now conn c.args.pass.now _ c.turn.ensures.same.1 c.turn.ensures.same.2 c.turn.ensures.grows
    (c.turn.ensures.of conn (c.args.pass.now.pass.0, site_of c.args.self.now c.args.pass.now.number) (of_begin conn c.args.start)) p

pub returns-in-NoMemory-clause-err : goal.returns-in-NoMemory-clause-err
returns-in-NoMemory-clause-err g c = c.in-NoMemory.ensures.does.0
