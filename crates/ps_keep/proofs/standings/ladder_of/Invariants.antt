use Rattle.std.proofs.Common.{◌≡◌, ◌≤◌, [], drop}
use Rattle.ps_ladder.specs.Ratings.{standing_of}
use Rattle.ps_keep.specs.Standings.{standing_from}
use Rattle.ps_keep.proofs.standings.ladder_of.Given as goal

abbrev pub invariant-loop-note : goal.invariant-loop-note
invariant-loop-note l = (l.ladder.count ≤ l.note-index) × (standing_from l.ladder l.format (drop l.note-index l.notes) ≡ standing_from (standing_of []) l.format l.notes)
