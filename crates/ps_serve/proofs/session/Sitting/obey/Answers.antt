use Rattle.std.proofs.Common.{inl, inr, ◌∙◌, ap, subst}
use Rattle.ps_session.specs.Sessions.{Record}
use Rattle.ps_session.specs.Routes.{after_no_room}
use Rattle.ps_serve.specs.Acts.{with_given}
use Rattle.ps_serve.specs.Obeys.{TellsNowhere}
use Rattle.ps_serve.proofs.session.Sitting.obey.Goals as goal

pub returns-in-Ok-clause-obeyed : goal.returns-in-Ok-clause-obeyed
returns-in-Ok-clause-obeyed g c = inl (
  c.in-Ok.out,
  c.order.new.self.passes,
  c.in-Ok.ensures.made,
  c.follow.ensures.session ∙ ap (λ (r : Record). with_given c.in-Ok.out.badge r) c.in-Ok.ensures.session,
  c.follow.ensures.follows,
)

pub returns-in-Err-NoSuchRoom-clause-obeyed : goal.returns-in-Err-NoSuchRoom-clause-obeyed
returns-in-Err-NoSuchRoom-clause-obeyed g c = inr (inl (
  c.order.new.self.passes,
  rw c.in-Err-NoSuchRoom.field-0-is at c.in-Err-NoSuchRoom.ensures.made,
  c.tell_nowhere.ensures.session ∙ ap (λ (r : Record). after_no_room r) c.in-Err-NoSuchRoom.ensures.session,
  subst (λ (r : Record). TellsNowhere c.args.hub.now c.args.moment r c.order.new.self.passes c.tell_nowhere.result c.tell_nowhere.new.self.passes) c.in-Err-NoSuchRoom.ensures.session c.tell_nowhere.ensures.told,
))
