use Rattle.std.proofs.Common.{◌≡◌, ◌∷◌, take, string_bytes}
use Rattle.std.specs.List.{join_with_byte}
use Rattle.ps_export.proofs.join.joined_to.Given as goal

abbrev pub invariant-loop-text : goal.invariant-loop-text
invariant-loop-text l = string_bytes l.whole ≡ join_with_byte l.between (l.first ∷ take l.text-index l.rest)
