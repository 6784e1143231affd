use Rattle.ps_dex.proofs.FitLemmas.{bytes_fit}
use Rattle.ps_dex.proofs.dex.Dex.read.Goals as goal

pub from_tables-requires : goal.from_tables-requires
from_tables-requires c = rw c.in-Ok.ensures at (bytes_fit c.args.bytes.now)
