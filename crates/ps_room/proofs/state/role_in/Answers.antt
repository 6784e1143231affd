use Rattle.std.proofs.Common.{ap, ◌∙◌}
use Rattle.std.specs.Option.{option_copied}
use Rattle.ps_room.specs.Roles.{role_of}
use Rattle.ps_room.specs.Rooms.{role_in}
use Rattle.ps_room.proofs.state.role_in.Goals as goal

pub returns-in-None : goal.returns-in-None
unfolding role_in
returns-in-None c = ap (role_of (option_copied c.args.cast)) c.in-None.ensures

pub returns-in-Some : goal.returns-in-Some
unfolding role_in
returns-in-Some c = c.role_of_member.ensures ∙ ap (role_of (option_copied c.args.cast)) c.in-Some.ensures
