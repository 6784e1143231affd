use Rattle.std.proofs.Common.{◌≡◌, take}
use Rattle.ps_packed.proofs.write.texts_of.Given as goal

abbrev pub invariant-loop-id : goal.invariant-loop-id
invariant-loop-id l = l.texts.items ≡ take l.id-index l.ids
