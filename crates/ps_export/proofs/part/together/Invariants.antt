use Rattle.std.proofs.Common.{◌≡◌, ◌++◌, map, drop, string_bytes}
use Rattle.std.specs.List.{concat}
use Rattle.ps_export.proofs.part.together.Given as goal

abbrev pub invariant-loop-part : goal.invariant-loop-part
invariant-loop-part l = string_bytes l.whole ++ concat (map (λ x. x.now) (drop l.part-index l.parts)) ≡ concat (map (λ x. x.now) l.parts)
