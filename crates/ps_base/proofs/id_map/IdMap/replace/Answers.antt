use Rattle.std.proofs.Common.{refl, sym, ap, subst, ◌∙◌, Some}
use Rattle.std.specs.Option.{IsSome}
use Rattle.std.specs.FinMap.{get, insert}
use Rattle.ps_base.proofs.ByIdLemmas.{get_by_id, inserted}
use Rattle.ps_base.proofs.id_map.IdMap.replace.Goals as goal

pub returns-in_default-clause-value : goal.returns-in_default-clause-value
returns-in_default-clause-value g c =
    let found = get_by_id c.self.inside.tree c.args.id.now in
    c.in_default.ensures.value ∙ sym found ∙ ap (λ m. get m c.args.id.now) c.self.view_is

pub returns-clause-value : goal.returns-clause-value
returns-clause-value g c =
    let found = get_by_id c.self.inside.tree c.args.id.now in
    ap (λ v. Some v) c.replace.ensures.value ∙ c.in-Some.ensures.value ∙ sym found ∙ ap (λ m. get m c.args.id.now) c.self.view_is

pub returns-clause-there : goal.returns-clause-there
returns-clause-there g c =
    let new = inserted c.args.id.now c.self.inside.tree (c.get_mut.follows.lender c.replace.new.dest) c.replace.new.dest ((c.get_mut.follows.holds c.replace.new.dest).3 (subst IsSome c.in-Some.ensures.value refl)) in
    new ∙ ap (λ m. insert m c.args.id.now c.replace.new.dest) c.self.view_is ∙ ap (insert c.args.self.now c.args.id.now) c.replace.ensures.after
