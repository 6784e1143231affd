use Rattle.std.proofs.Common.{◌≡◌, ◌++◌, codes, drop}
use Rattle.std.specs.List.{flat_map}
use Rattle.file_help.proofs.page.push_others.Given as goal

abbrev pub invariant-loop-text : goal.invariant-loop-text
invariant-loop-text l =
    l.out ++ flat_map (λ t. codes ", " ++ t) (drop l.text-index l.texts) ≡ l.initial.out ++ flat_map (λ t. codes ", " ++ t) l.texts
