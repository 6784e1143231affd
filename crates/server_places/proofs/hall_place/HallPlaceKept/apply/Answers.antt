use Rattle.std.proofs.Common.{◌+◌, IfSome, ap, ◌∙◌, subst}
use Rattle.rules_start.specs.Fits.{IsFit}
use Rattle.ps_hall.specs.Halls.{seen_after, out_of}
use Rattle.server_places.specs.Halls.{HallHome}
use Rattle.server_places.proofs.HallLemmas.{hall_stands, hall_answers}
use Rattle.server_places.proofs.hall_place.HallPlaceKept.apply.Goals as goal

pub returns-clause-entry : goal.returns-clause-entry
returns-clause-entry c = λ log s.
    hall_stands log c.args.entry c.args.self.now c.apply.new.self _ s
    (c.in_ok-out.ensures.ok ∙ ap (λ (p : HallHome). seen_after p.hall c.args.entry) c.self.view_is)
    (ap (λ (p : HallHome). record { root = p.root; hall = c.apply.new.self; count = p.count + 1 }) c.self.view_is)

pub returns-clause-answer : goal.returns-clause-answer
returns-clause-answer c = λ log s.
    hall_answers log c.args.entry c.args.self.now c.in_ok-out.out s
    (c.in_ok-out.ensures.out ∙ ap (λ (p : HallHome). out_of p.hall.state c.args.entry) c.self.view_is)
    (subst (λ (p : HallHome). IfSome c.in_ok-out.out.start (λ s. IsFit s p.hall.state.config p.hall.state.dex)) c.self.view_is c.in_ok-out.ensures.fit)
