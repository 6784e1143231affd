use Rattle.std.proofs.Common.{◌≡◌, ◌++◌, drop}
use Rattle.ps_keep.specs.Standings.{places_in}
use Rattle.ps_keep.proofs.standings.all_places.Given as goal

abbrev pub invariant-loop-note : goal.invariant-loop-note
invariant-loop-note l = l.places.items ++ places_in l.ladder.ratings l.format (drop l.note-index l.notes) ≡ places_in l.ladder.ratings l.format l.notes
