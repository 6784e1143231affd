use Rattle.std.proofs.Common.{take}
use Rattle.ps_base.proofs.IdLemmas.{is_id-id_of}
use Rattle.ps_base.proofs.id.to_id.Goals as goal

pub invariant_of-result : goal.invariant_of-result
invariant_of-result c = rw (c.from_string.ensures, c.loop-b.invariant) (is_id-id_of (take c.loop-b.b-index c.as_bytes-b-items.result.now))
