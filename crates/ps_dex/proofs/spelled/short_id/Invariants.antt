use Rattle.std.proofs.Common.{◌≡◌, take}
use Rattle.ps_base.specs.Ids.{id_of}
use Rattle.ps_dex.proofs.spelled.short_id.Given as goal

abbrev pub invariant-loop-b : goal.invariant-loop-b
invariant-loop-b l = l.id.bytes ≡ id_of (take l.b-index l.b-items)
