use Rattle.std.proofs.Common.{◌≡◌, ◌==◌, map, take}
use Rattle.std.specs.List.{slice_split}
use Rattle.ps_packed.specs.Packed.{set_of}
use Rattle.ps_packed.proofs.read.sets.Given as goal

abbrev pub invariant-loop-field_texts : goal.invariant-loop-field_texts
invariant-loop-field_texts l = l.sets.items ≡ map set_of (map (slice_split (λ c. c == 124)) (map (λ x. x.now) (take l.field_texts-index l.team_texts)))
