use Rattle.std.proofs.Common.{◌≡◌, take}
use Rattle.ps_rules.proofs.formats.copies.Given as goal

abbrev pub invariant-loop-id : goal.invariant-loop-id
invariant-loop-id l = l.copies.items ≡ take l.id-index l.ids
