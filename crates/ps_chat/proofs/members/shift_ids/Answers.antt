use Rattle.std.proofs.Common.{◌∙◌, ap, rules, string_bytes}
use Rattle.std.specs.Ordering.{nat_cmp, is_eq}
use Rattle.std.specs.Cmp.Lexicographic.{slice_cmp}
use Rattle.std.specs.Map.{lookup}
use Rattle.std.proofs.lemmas.Map.Made.{map_same_pairs, lookup-map_values}
use Rattle.ps_chat.specs.Finding.{shifted}
use Rattle.ps_chat.proofs.members.shift_ids.Goals as goal

pub returns : goal.returns
returns c = λ id.
    ap (lookup (λ k. is_eq (slice_cmp nat_cmp id (string_bytes k)))) (map_same_pairs _ (shifted c.args.gone) _ (λ k v b w f t. search rules) _ _ c.retain.ensures.filtered)
    ∙ lookup-map_values (shifted c.args.gone) (λ k. is_eq (slice_cmp nat_cmp id (string_bytes k))) c.args.ids.now.entries
