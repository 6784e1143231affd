-- What is kept of entries beside what they print: for the code alone.
use Rattle.std.specs.Prelude.{◌+◌, Bool, List, [], Option, Some, None, option_to_list}
use Rattle.ps_keep.specs.declared.note.Note.{Note}
use Rattle.ps_keep.specs.Keepers.{after_notes}
use Rattle.replay_state.specs.declared.transcript.Counts.{Counts}
use Rattle.replay_state.specs.Counts.{one_if}
use Rattle.replay_state.specs.Notes.{unless}

-- the counts of the entries so far, and their notes, if somebody asked for them
pub record Sheet : Type 0 where
  pub counts : Counts
  pub notes : Option (List Note)

abbrev pub no_counts : Counts
no_counts = record { entries = 0; refused = 0 }

-- before the first entry: of who asks for no notes, and of who does
abbrev pub blank : Sheet
blank = record { counts = no_counts; notes = None }

abbrev pub blank_noting : Sheet
blank_noting = record { counts = no_counts; notes = Some [] }

-- with an entry more
abbrev pub one_more : Bool → Counts → Counts
one_more refused counts = record { entries = counts.entries + 1; refused = counts.refused + one_if refused }

-- with an entry more, which does this unless it is refused
abbrev pub entered : Bool → Option Note → Sheet → Sheet
entered refused does sheet = record {
  counts = one_more refused sheet.counts;
  notes = after_notes (option_to_list (unless refused does)) sheet.notes;
}

-- this where notes are asked for, and else nothing
abbrev pub asked : Option (List Note) → Option Note → Option Note
asked None does = None
asked (Some notes) does = does
