use Rattle.std.proofs.Common.{◌≡◌, map, take}
use Rattle.std.specs.List.{join_with_byte}
use Rattle.ps_packed.specs.Canon.{set_fields}
use Rattle.ps_packed.proofs.write.set_texts.Given as goal

abbrev pub invariant-loop-set : goal.invariant-loop-set
invariant-loop-set l = l.texts.items ≡ map (join_with_byte 124) (map set_fields (take l.set-index l.sets))
