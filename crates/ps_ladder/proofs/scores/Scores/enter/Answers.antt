use Rattle.std.proofs.Common.{◌≡◌, sym, ap, ◌∙◌, is_some, true, false, not, ℕ, List, string_bytes, pos}
use Rattle.std.specs.FinMap.{get, insert, contains_key}
use Rattle.ps_base.proofs.ByIdLemmas.{get_by_id, inserted}
use Rattle.ps_ladder.proofs.MapLemmas.{kept, unrated}
use Rattle.ps_ladder.proofs.scores.Scores.enter.Goals as goal

pub returns-then-contains_key-clause-ok : goal.returns-then-contains_key-clause-ok
returns-then-contains_key-clause-ok c =
    let has : contains_key c.args.self.now c.args.user.now ≡ true = ap is_some (sym (ap (λ m. get m c.args.user.now) c.self.view_is) ∙ get_by_id c.self.inside.tree c.args.user.now) ∙ sym c.contains_key.ensures ∙ c.if-contains_key.true in
    sym (kept c.args.self.now c.args.user.now has)

pub returns-then-contains_key-clause-fresh : goal.returns-then-contains_key-clause-fresh
returns-then-contains_key-clause-fresh c =
    let has : contains_key c.args.self.now c.args.user.now ≡ true = ap is_some (sym (ap (λ m. get m c.args.user.now) c.self.view_is) ∙ get_by_id c.self.inside.tree c.args.user.now) ∙ sym c.contains_key.ensures ∙ c.if-contains_key.true in
    sym (ap not has)

pub returns-clause-ok : goal.returns-clause-ok
returns-clause-ok c =
    let has : contains_key c.args.self.now c.args.user.now ≡ false = ap is_some (sym (ap (λ m. get m c.args.user.now) c.self.view_is) ∙ get_by_id c.self.inside.tree c.args.user.now) ∙ sym c.contains_key.ensures ∙ c.if-contains_key.false in
    inserted (string_bytes c.in_ok-key.key) c.self.inside.tree c.insert.new.self (pos 1000) c.in_ok-insert.ensures.updates
    ∙ ap (λ m. insert m (string_bytes c.in_ok-key.key) (pos 1000)) c.self.view_is ∙ ap (λ (id : List ℕ). insert c.args.self.now id (pos 1000)) c.in_ok-key.ensures.ok
    ∙ ap (insert c.args.self.now c.args.user.now) (sym (unrated c.args.self.now c.args.user.now has))

pub returns-clause-fresh : goal.returns-clause-fresh
returns-clause-fresh c =
    let has : contains_key c.args.self.now c.args.user.now ≡ false = ap is_some (sym (ap (λ m. get m c.args.user.now) c.self.view_is) ∙ get_by_id c.self.inside.tree c.args.user.now) ∙ sym c.contains_key.ensures ∙ c.if-contains_key.false in
    sym (ap not has)
