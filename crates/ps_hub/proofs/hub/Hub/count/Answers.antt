use Rattle.std.proofs.Common.{◌≡◌, List, ℕ, Option, None, Some, sym, ap, subst, Bor}
use Rattle.std.specs.Option.{option_copied}
use Rattle.ps_hub.specs.Calls.{Counts}
use Rattle.ps_hub.proofs.hub.Hub.count.Goals as goal

pub returns-in-None-clause-does : goal.returns-in-None-clause-does
returns-in-None-clause-does c =
    let is : option_copied c.args.room ≡ None = ap (λ (o : Option (Bor (List ℕ))). option_copied o) c.in-None.is in
    subst (λ (o : Option (List ℕ)). Counts o c.args.passes.now c.look_hall.result c.look_hall.new.passes) (sym is) c.look_hall.ensures.does

pub returns-in-Some-position_of-clause-does : goal.returns-in-Some-position_of-clause-does
returns-in-Some-position_of-clause-does c =
    let found = c.in-Some-position_of.ensures.found in
    let is : option_copied c.args.room ≡ Some c.in-Some.id.now = ap (λ (o : Option (Bor (List ℕ))). option_copied o) c.in-Some.is in
    subst (λ (o : Option (List ℕ)). Counts o c.args.passes.now c.look_at.result c.look_at.new.passes) (sym is) (c.in-Some-position_of.pass_index, found.0, found.1, found.2, c.look_at.ensures.does)
