-- How many moves a dex has.
use Rattle.std.proofs.Common.{◌≡◌, length}
use Rattle.std.proofs.lemmas.List.{length-map}
use Rattle.ps_mon.specs.Moves.{move_count}
use Rattle.ps_dex.specs.declared.item.Tables.{Tables}
use Rattle.ps_dex.specs.Figures.{figures_of}

pub known_figures : (t : Tables) → move_count (figures_of t) ≡ length t.moves
unfolding figures_of
known_figures t = length-map t.moves _
