-- The results of one format among notes.
use Rattle.std.specs.Prelude.{ℕ, List, Option, Some, None, not, ◌&&◌, if◌then◌else◌}
use Rattle.std.specs.List.{filter_map}
use Rattle.std.specs.Str.{bytes_eq}
use Rattle.ps_ladder.specs.Ratings.{Won}
use Rattle.ps_keep.specs.declared.note.Note.{Note}
use Rattle.ps_keep.specs.declared.note.Note.TheVariants.{Won as WonNote, Act}

-- a rated battle of the format that was won, by another user than who lost it
abbrev pub result_in : List ℕ → Note → Option Won
result_in format (WonNote other winner loser) = if bytes_eq other format
    && not (bytes_eq winner loser) then Some (record { winner = winner; loser = loser }) else None
result_in format (Act room actor kind target rank moment) = None

abbrev pub results_in : List ℕ → List Note → List Won
results_in format notes = filter_map (result_in format) notes
