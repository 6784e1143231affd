use Rattle.std.proofs.Common.{ap}
use Rattle.std.proofs.lemmas.List.Filters.{dedup_is}
use Rattle.ps_ladder.specs.Ratings.{Standing}
use Rattle.ps_keep.proofs.StandingLemmas.{are_standings}
use Rattle.ps_keep.proofs.standings.standings.Goals as goal

pub returns : goal.returns
returns c =
    are_standings c.args.format.now c.args.notes.now c.in_ok-ladder.ladder.ratings _ _ _ (ap (λ (s : Standing). s.ratings) c.in_ok-ladder.ensures) c.in_ok-places.ensures c.sort_unstable.ensures.permutation c.sort_unstable.ensures.sorted
    (dedup_is _ _ _ c.dedup.ensures.filtered)
