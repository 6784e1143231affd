use Rattle.std.proofs.Common.{◌≡◌, sym, ap, ◌∙◌, is_some, true, w32, rules, to_z, of_z}
use Rattle.std.specs.FinMap.{get, insert}
use Rattle.std.proofs.lemmas.Int.{to_z-of_z}
use Rattle.std.specs.BTreeMap.{get_by_text}
use Rattle.ps_base.proofs.ByIdLemmas.{get_by_id, inserted}
use Rattle.ps_ladder.proofs.scores.Scores.set.Goals as goal

pub unwrap-score-requires : goal.unwrap-score-requires
unwrap-score-requires c =
    let there : is_some (get_by_text c.self.inside.tree c.args.user.now) ≡ true = ap is_some (sym (get_by_id c.self.inside.tree c.args.user.now) ∙ ap (λ m. get m c.args.user.now) c.self.view_is) ∙ c.requires in
    search (rules, there)

pub returns : goal.returns
returns c =
    let value = to_z-of_z w32 c.args.value c.ranges.value in
    inserted c.args.user.now c.self.inside.tree (c.get_mut.follows.lender (to_z w32 (of_z w32 c.args.value))) (to_z w32 (of_z w32 c.args.value)) ((c.get_mut.follows.holds (to_z w32 (of_z w32 c.args.value))).3 (search rules))
    ∙ ap (λ m. insert m c.args.user.now (to_z w32 (of_z w32 c.args.value))) c.self.view_is ∙ ap (insert c.args.self.now c.args.user.now) value
