-- What a run of notes leaves where one of them isn't noted.
use Rattle.std.proofs.Common.{◌≡◌, ℕ, List, ◌++◌, take, drop, Option, Some, Err, sym, subst}
use Rattle.std.proofs.lemmas.List.{take-append-drop}
use Rattle.ps_keep.specs.declared.note.Note.{Note}
use Rattle.ps_keep.specs.declared.keeper.KeepEnd.{KeepEnd}
use Rattle.ps_keep.specs.Keepers.{KeepCounts, AppendsSome, HasNoteCause}

pub stopped : (old : List Note) (new : Option (List Note)) (more : List Note) (i : ℕ) → new ≡ Some (old ++ take i more) → AppendsSome (Some old) new more
stopped old new more i is = record { front = take i more; rest = drop i more; parts = sym (take-append-drop i more); grew = is }

pub stopped_cause : (old mid new : KeepCounts) (end : KeepEnd) → mid ≡ old → HasNoteCause {T = Unit {0}} mid new (Err end) → HasNoteCause {T = Unit {0}} old new (Err end)
stopped_cause old mid new end same cause = subst (λ (c : KeepCounts). HasNoteCause {T = Unit {0}} c new (Err end)) same cause
