use Rattle.std.proofs.Common.{◌≡◌, drop}
use Rattle.hall_index.specs.Finds.{first_at}
use Rattle.ps_hall.specs.Lookups.{is_kept}
use Rattle.ps_hall.proofs.search_teams.first_kept.Given as goal

abbrev pub invariant-loop-number : goal.invariant-loop-number
invariant-loop-number l = first_at (is_kept l.user l.with_id) l.teams (drop l.number-index l.numbers) ≡ first_at (is_kept l.user l.with_id) l.teams l.numbers
