use Rattle.ps_hall.proofs.PackLemmas.{packs_law}
use Rattle.ps_hall.proofs.pack.law_of_packs.Goals as goal

pub returns : goal.returns
returns c = packs_law
