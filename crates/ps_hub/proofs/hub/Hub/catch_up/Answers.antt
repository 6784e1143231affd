use Rattle.std.proofs.Common.{◌≡◌, List, ℕ, Option, Some, sym, ap, subst, Bor}
use Rattle.std.specs.Option.{option_copied}
use Rattle.ps_hub.specs.Calls.{Catches}
use Rattle.ps_hub.proofs.hub.Hub.catch_up.Goals as goal

pub returns-in-Some-position_of-clause-does : goal.returns-in-Some-position_of-clause-does
returns-in-Some-position_of-clause-does g c =
    let found = c.in-Some-position_of.ensures.found in
    let is : option_copied c.args.room ≡ Some c.in-Some.id.now = ap (λ (o : Option (Bor (List ℕ))). option_copied o) c.in-Some.is in
    subst (λ (o : Option (List ℕ)). Catches c.args.self.now o c.args.passes.now c.catch_up_at.result c.catch_up_at.new.passes) (sym is) (c.in-Some-position_of.pass_index, found.0, found.1, found.2, c.catch_up_at.ensures.does)
