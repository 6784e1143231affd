use Rattle.std.proofs.Common.{◌≡◌, drop}
use Rattle.std.specs.Str.{bytes_eq}
use Rattle.ps_base.specs.Ids.{id_of}
use Rattle.ps_dex.proofs.spelled.is_id_of.Given as goal

abbrev pub invariant-loop-b : goal.invariant-loop-b
invariant-loop-b l = bytes_eq l.left (id_of (drop l.b-index l.b-items)) ≡ bytes_eq l.id (id_of l.b-items)
