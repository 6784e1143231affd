use Rattle.std.proofs.Common.{sym, ap, ◌∙◌, unwrap_or, pos, w32, SFits, rules}
use Rattle.std.specs.FinMap.{get}
use Rattle.std.proofs.lemmas.Int.{to_z-of_z}
use Rattle.ps_base.proofs.ByIdLemmas.{get_by_id}
use Rattle.ps_ladder.proofs.scores.Scores.rating.Goals as goal

pub returns : goal.returns
returns c =
    let fits : SFits w32 c.unwrap_or.result = search rules in
    to_z-of_z w32 c.unwrap_or.result fits ∙ c.unwrap_or.ensures
    ∙ ap (λ o. unwrap_or o (pos 1000)) (c.copied.ensures ∙ c.get.ensures.value ∙ sym (get_by_id c.self.inside.tree c.args.user.now) ∙ ap (λ m. get m c.args.user.now) c.self.view_is)
