use Rattle.std.proofs.Common.{◌∙◌, inr}
use Rattle.server_pass.proofs.ToldLemmas.{rereads_tried}
use Rattle.ps_hub.proofs.quit.quit_by_room_pass.Goals as goal

pub returns-in-NameTaken-clause-err : goal.returns-in-NameTaken-clause-err
returns-in-NameTaken-clause-err g c = (
  c.in-NameTaken.ensures.does.1 ∙ c.loop.invariant.6,
  rereads_tried c.args.pass.now.pass.1 c.loop.pass.pass.1 c.try_quit.new.pass.pass.1 c.loop.invariant.4 (inr c.in-NameTaken.ensures.does.0),
)

pub returns-then-not-take-clause-err : goal.returns-then-not-take-clause-err
returns-then-not-take-clause-err g c = (
  c.in-NoMemory.ensures.does.0.0 ∙ c.loop.invariant.6,
  rereads_tried c.args.pass.now.pass.1 c.loop.pass.pass.1 c.try_quit.new.pass.pass.1 c.loop.invariant.4 c.in-NoMemory.ensures.does.0.1,
)

pub loop-preserved : goal.loop-preserved
loop-preserved g c = (
  tt,
  tt,
  c.try_quit.ensures.lock ∙ c.loop.invariant.2,
  λ hub p. c.try_quit.ensures.of hub (c.loop.invariant.3 hub p),
  rereads_tried c.args.pass.now.pass.1 c.loop.pass.pass.1 c.try_quit.new.pass.pass.1 c.loop.invariant.4 c.in-NoMemory.ensures.does.0.1,
  c.try_quit.ensures.same.0 ∙ c.loop.invariant.5,
  c.in-NoMemory.ensures.does.0.0 ∙ c.loop.invariant.6,
  c.try_quit.ensures.same.1 ∙ c.loop.invariant.7,
  c.try_quit.ensures.same.2 ∙ c.loop.invariant.8,
)
