use Rattle.std.proofs.Common.{subst}
use Rattle.ps_session.specs.Sessions.{Record}
use Rattle.ps_serve.specs.Obeys.{Obeys}
use Rattle.ps_serve.proofs.OrderLemmas.{taken_needs}
use Rattle.ps_serve.proofs.Hearing.{heard_by, stopped_by, refused_by}
use Rattle.ps_serve.proofs.session.Sitting.hear.Goals as goal

pub obey-requires-clause-badge : goal.obey-requires-clause-badge
obey-requires-clause-badge g c = taken_needs c.args.self.now.session c.args.bytes.now c.in-Ok.order c.args.self.now.passes c.in-Ok.ensures.order c.requires.badge

pub returns-in-Err-clause-stopped : goal.returns-in-Err-clause-stopped
returns-in-Err-clause-stopped g c = refused_by c.args.hub.now c.args.self.now.session c.args.self.now.passes c.args.bytes.now _ c.in-Err.fault c.in-Err.ensures.fault c.requires.of

pub returns-in-Ok-clause-heard : goal.returns-in-Ok-clause-heard
returns-in-Ok-clause-heard g c = heard_by c.args.hub.now c.args.self.now.session c.args.self.now.passes c.args.bytes.now _ _ c.now-moment.result c.in-Ok.order c.obey.new.self.session c.obey.new.self.passes c.obey.result
    c.in-Ok.ensures.order c.requires.badge c.now-moment.ensures.known c.now-moment.ensures.later c.obey.ensures.of
    (subst (λ (r : Record). Obeys c.args.hub.now c.in-Ok.order c.now-moment.result r c.args.self.now.passes c.obey.result c.obey.new.self.session c.obey.new.self.passes) c.in-Ok.ensures.after c.obey.ensures.obeyed)

pub returns-in-Ok-clause-stopped : goal.returns-in-Ok-clause-stopped
returns-in-Ok-clause-stopped g c = stopped_by c.args.hub.now c.args.self.now.session c.args.self.now.passes c.args.bytes.now _ _ c.now-moment.result c.in-Ok.order c.obey.new.self.session c.obey.new.self.passes c.obey.result
    c.in-Ok.ensures.order c.requires.badge c.now-moment.ensures.known c.now-moment.ensures.later c.obey.ensures.of
    (subst (λ (r : Record). Obeys c.args.hub.now c.in-Ok.order c.now-moment.result r c.args.self.now.passes c.obey.result c.obey.new.self.session c.obey.new.self.passes) c.in-Ok.ensures.after c.obey.ensures.obeyed)
