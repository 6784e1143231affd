use Rattle.ps_histlock.proofs.SignLemmas.{signs_on}
use Rattle.server_places.specs.declared.command.RoomCmd.TheVariants.{Play}
use Rattle.server_places.specs.Sites.{room_signer}
use Rattle.ps_hub.specs.Hubs.{site_of}
use Rattle.ps_hub.specs.Calls.{room_entry}
use Rattle.ps_lines.specs.declared.command.Command.TheVariants.{Quit}
use Rattle.ps_hub.proofs.OfLemmas.{of_room}
use Rattle.ps_hub.proofs.PassLemmas.{room_unbound, room_again}
use Rattle.ps_hub.proofs.quit.try_quit.Goals as goal

pub turn_unread-requires-clause-sign : goal.turn_unread-requires-clause-sign
turn_unread-requires-clause-sign g c = signs_on room_signer c.args.conn c.args.pass.now.pass.1.said (Play (room_entry c.args.conn c.in-Ok.badge c.args.moment Quit)) (of_room c.args.conn c.in-Ok.badge c.args.moment Quit) c.requires.of.1.place.signs

pub turn_unread-requires-clause-free : goal.turn_unread-requires-clause-free
turn_unread-requires-clause-free g c = room_unbound c.requires.of.0 c.args.conn c.args.pass.now c.requires.of.1

pub returns-clause-of : goal.returns-clause-of
returns-clause-of g c = λ hub p. room_again hub c.args.conn c.args.pass.now _ c.turn_unread.ensures.same.1 c.turn_unread.ensures.same.2 c.turn_unread.ensures.grows
    (c.turn_unread.ensures.of c.args.conn (c.args.pass.now.pass.0, site_of hub c.args.pass.now.number) (of_room c.args.conn c.in-Ok.badge c.args.moment Quit)) p
