use Rattle.std.proofs.Common.{◌∙◌, inr}
use Rattle.ps_histlock.proofs.SignLemmas.{signs_on}
use Rattle.server_places.specs.Halls.{hall_signer}
use Rattle.ps_lines.specs.declared.command.HallCmd.TheVariants.{Quit}
use Rattle.ps_hub.specs.Hubs.{root_of}
use Rattle.ps_hub.specs.Calls.{hall_entry}
use Rattle.server_pass.proofs.ToldLemmas.{adds_on, rereads_tried}
use Rattle.ps_hub.proofs.OfLemmas.{of_hall}
use Rattle.ps_hub.proofs.PassLemmas.{hall_unbound}
use Rattle.ps_hub.proofs.quit.quit_by_hall_pass.Goals as goal

pub turn_unread-requires-clause-sign : goal.turn_unread-requires-clause-sign
turn_unread-requires-clause-sign g c =
    let of = c.requires.of in
    signs_on hall_signer c.args.conn c.loop.pass.pass.1.said (hall_entry c.args.conn c.args.moment Quit) (of_hall c.args.conn c.args.moment Quit) (c.loop.invariant.3 of.0 of.1).signs

pub turn_unread-requires-clause-free : goal.turn_unread-requires-clause-free
turn_unread-requires-clause-free g c =
    let of = c.requires.of in hall_unbound of.0 c.args.conn c.loop.pass (c.loop.invariant.3 of.0 of.1)

pub returns-in-Done-clause-of : goal.returns-in-Done-clause-of
returns-in-Done-clause-of g c = λ hub p. c.turn_unread.ensures.of c.args.conn (hub.hall, root_of hub) (of_hall c.args.conn c.args.moment Quit) (c.loop.invariant.3 hub p)

pub returns-in-NameTaken-clause-of : goal.returns-in-NameTaken-clause-of
returns-in-NameTaken-clause-of g c = λ hub p. c.turn_unread.ensures.of c.args.conn (hub.hall, root_of hub) (of_hall c.args.conn c.args.moment Quit) (c.loop.invariant.3 hub p)

pub returns-in-NameTaken-clause-err : goal.returns-in-NameTaken-clause-err
returns-in-NameTaken-clause-err g c = (
  c.turn_unread.ensures.same.0 ∙ c.loop.invariant.5,
  c.in-NameTaken.ensures.does.1 ∙ c.loop.invariant.6,
  rereads_tried c.args.pass.now.pass.1 c.loop.pass.pass.1 c.turn_unread.new.self.pass.1 c.loop.invariant.4 (inr c.in-NameTaken.ensures.does.0),
)

pub returns-then-not-take-clause-of : goal.returns-then-not-take-clause-of
returns-then-not-take-clause-of g c = λ hub p. c.turn_unread.ensures.of c.args.conn (hub.hall, root_of hub) (of_hall c.args.conn c.args.moment Quit) (c.loop.invariant.3 hub p)

pub returns-then-not-take-clause-err : goal.returns-then-not-take-clause-err
returns-then-not-take-clause-err g c = (
  c.turn_unread.ensures.same.0 ∙ c.loop.invariant.5,
  c.in-NoMemory.ensures.does.0.0 ∙ c.loop.invariant.6,
  rereads_tried c.args.pass.now.pass.1 c.loop.pass.pass.1 c.turn_unread.new.self.pass.1 c.loop.invariant.4 c.in-NoMemory.ensures.does.0.1,
)

pub loop-preserved : goal.loop-preserved
loop-preserved g c = (
  tt,
  tt,
  c.turn_unread.ensures.lock ∙ c.loop.invariant.2,
  λ hub p. c.turn_unread.ensures.of c.args.conn (hub.hall, root_of hub) (of_hall c.args.conn c.args.moment Quit) (c.loop.invariant.3 hub p),
  rereads_tried c.args.pass.now.pass.1 c.loop.pass.pass.1 c.turn_unread.new.self.pass.1 c.loop.invariant.4 c.in-NoMemory.ensures.does.0.1,
  c.turn_unread.ensures.same.0 ∙ c.loop.invariant.5,
  c.in-NoMemory.ensures.does.0.0 ∙ c.loop.invariant.6,
  adds_on c.args.pass.now.pass.1 c.loop.pass.pass.1 c.turn_unread.new.self.pass.1 c.loop.invariant.7 c.turn_unread.ensures.grows.adds,
)
