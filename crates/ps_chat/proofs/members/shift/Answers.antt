use Rattle.std.proofs.Common.{◌∙◌, ap, rules}
use Rattle.std.specs.Ordering.{nat_cmp, is_eq}
use Rattle.std.specs.Map.{lookup}
use Rattle.std.proofs.lemmas.Map.Made.{map_same_pairs, lookup-map_values}
use Rattle.ps_chat.specs.Finding.{shifted}
use Rattle.ps_chat.proofs.members.shift.Goals as goal

pub returns : goal.returns
returns c = λ conn.
    ap (lookup (λ k. is_eq (nat_cmp conn k))) (map_same_pairs _ (shifted c.args.gone) _ (λ k v b w f t. search rules) _ _ c.retain.ensures.filtered)
    ∙ lookup-map_values (shifted c.args.gone) (λ k. is_eq (nat_cmp conn k)) c.args.indices.now.entries
