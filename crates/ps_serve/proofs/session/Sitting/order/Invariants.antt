use Rattle.std.proofs.Common.{◌≡◌, ℕ}
use Rattle.ps_hub.specs.Passes.{AreOf}
use Rattle.ps_hub.specs.Calls.{NeedsBadge}
use Rattle.ps_serve.specs.Obeys.{TriesInVain}
use Rattle.ps_serve.proofs.session.Sitting.order.Given as goal

abbrev pub invariant-loop : goal.invariant-loop
invariant-loop g l =
    (goal.iterator-loop g).can_next l.iterator' × (goal.iterator-loop g).is_finite l.iterator'
    × (l.left ≡ l.initial.left) × AreOf l.hub l.self.passes × NeedsBadge l.left l.self.passes × (l.self.session ≡ l.initial.self.session)
    × ((tries : ℕ) × TriesInVain l.hub l.initial.left l.moment tries l.initial.self.passes l.self.passes)
