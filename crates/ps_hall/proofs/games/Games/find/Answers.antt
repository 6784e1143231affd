use Rattle.std.proofs.Common.{find, ap, ◌∙◌}
use Rattle.ps_hall.specs.Lookups.{has_number}
use Rattle.ps_hall.specs.Games.{Played}
use Rattle.ps_hall.proofs.GameLemmas.{found_number}
use Rattle.ps_hall.proofs.games.Games.find.Goals as goal

pub returns : goal.returns
returns c = c.get.ensures ∙ found_number c.args.number c.self.inside.table.games c.self.invariant.numbered ∙ ap (λ (p : Played). find (has_number c.args.number) p.list) c.self.view_is
