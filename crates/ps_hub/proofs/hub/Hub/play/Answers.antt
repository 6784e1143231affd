use Rattle.ps_histlock.proofs.SignLemmas.{signs_on}
use Rattle.server_places.specs.declared.command.RoomCmd.TheVariants.{Play}
use Rattle.server_places.specs.Sites.{room_signer}
use Rattle.ps_hub.specs.Hubs.{site_of}
use Rattle.ps_hub.proofs.PassLemmas.{room_again}
use Rattle.ps_hub.proofs.OfLemmas.{of_room}
use Rattle.ps_hub.proofs.hub.Hub.play.Goals as goal

pub try_turn-requires-clause-sign : goal.try_turn-requires-clause-sign
try_turn-requires-clause-sign c = signs_on room_signer c.args.entry.conn c.args.pass.now.pass.1.said (Play c.args.entry) (of_room c.args.entry.conn c.args.entry.badge c.args.entry.moment c.args.entry.cmd) c.requires.place.signs

pub returns-in-Done-clause-of : goal.returns-in-Done-clause-of
returns-in-Done-clause-of c = room_again c.args.self.now c.args.entry.conn c.args.pass.now _ c.try_turn.ensures.same.1 c.try_turn.ensures.same.2 c.try_turn.ensures.grows
    (c.try_turn.ensures.of c.args.entry.conn (c.args.pass.now.pass.0, site_of c.args.self.now c.args.pass.now.number)
    (of_room c.args.entry.conn c.args.entry.badge c.args.entry.moment c.args.entry.cmd)) c.requires

pub returns-in-Busy-clause-of : goal.returns-in-Busy-clause-of
returns-in-Busy-clause-of c = room_again c.args.self.now c.args.entry.conn c.args.pass.now _ c.try_turn.ensures.same.1 c.try_turn.ensures.same.2 c.try_turn.ensures.grows
    (c.try_turn.ensures.of c.args.entry.conn (c.args.pass.now.pass.0, site_of c.args.self.now c.args.pass.now.number)
    (of_room c.args.entry.conn c.args.entry.badge c.args.entry.moment c.args.entry.cmd)) c.requires

pub returns-in-NoMemory-clause-of : goal.returns-in-NoMemory-clause-of
returns-in-NoMemory-clause-of c = room_again c.args.self.now c.args.entry.conn c.args.pass.now _ c.try_turn.ensures.same.1 c.try_turn.ensures.same.2 c.try_turn.ensures.grows
    (c.try_turn.ensures.of c.args.entry.conn (c.args.pass.now.pass.0, site_of c.args.self.now c.args.pass.now.number)
    (of_room c.args.entry.conn c.args.entry.badge c.args.entry.moment c.args.entry.cmd)) c.requires

pub returns-in-NameTaken-clause-of : goal.returns-in-NameTaken-clause-of
returns-in-NameTaken-clause-of c = room_again c.args.self.now c.args.entry.conn c.args.pass.now _ c.try_turn.ensures.same.1 c.try_turn.ensures.same.2 c.try_turn.ensures.grows
    (c.try_turn.ensures.of c.args.entry.conn (c.args.pass.now.pass.0, site_of c.args.self.now c.args.pass.now.number)
    (of_room c.args.entry.conn c.args.entry.badge c.args.entry.moment c.args.entry.cmd)) c.requires

pub returns-in-OwnLimit-clause-of : goal.returns-in-OwnLimit-clause-of
returns-in-OwnLimit-clause-of c = room_again c.args.self.now c.args.entry.conn c.args.pass.now _ c.try_turn.ensures.same.1 c.try_turn.ensures.same.2 c.try_turn.ensures.grows
    (c.try_turn.ensures.of c.args.entry.conn (c.args.pass.now.pass.0, site_of c.args.self.now c.args.pass.now.number)
    (of_room c.args.entry.conn c.args.entry.badge c.args.entry.moment c.args.entry.cmd)) c.requires
