-- What a keeper's calls make of its notes, and when they may answer what.
use Rattle.std.specs.Prelude.{◌≡◌, ℕ, ◌<◌, ◌≤◌, List, [], ◌∷◌, ◌++◌, length, Option, Some, None, Result, Ok, Err, IfSome, Bool, true, false}
use Rattle.ps_base.specs.Numbers.{counted}
use Rattle.ps_outside.specs.Causes.{Rose}
use Rattle.ps_keep.specs.declared.note.Note.{Note}
use Rattle.ps_keep.specs.declared.keeper.KeepEnd.{KeepEnd}
use Rattle.ps_keep.specs.declared.keeper.KeepEnd.TheVariants.{Failed, TooMany, NoMemory}

-- ---- notes

-- these behind those that were kept, where they are known
abbrev pub after_notes : List Note → Option (List Note) → Option (List Note)
after_notes notes None = None
after_notes notes (Some kept) = Some (kept ++ notes)

-- one that failed noted nothing
abbrev pub after_note : {T : Type 0} → Result T KeepEnd → Note → Option (List Note) → Option (List Note)
after_note (Ok done) note kept = after_notes (note ∷ []) kept
after_note (Err end) note kept = kept

-- some first ones of these were noted, or none
pub record AppendsSome (old new : Option (List Note)) (notes : List Note) : Type 0 where
  pub front : List Note
  pub rest : List Note
  pub parts : notes ≡ front ++ rest
  pub grew : new ≡ after_notes front old

-- TooMany only where there are more than were asked for; where the notes are known, exactly so many
abbrev pub IsLoadEnd : {T : Type 0} → Option (List Note) → ℕ → Result T KeepEnd → Type 0
IsLoadEnd kept most (Ok notes) = Unit {0}
IsLoadEnd kept most (Err Failed) = Unit {0}
IsLoadEnd kept most (Err (TooMany count)) = (most < count) × IfSome kept (λ notes. count ≡ counted (length notes))
IsLoadEnd kept most (Err NoMemory) = Unit {0}

-- ---- counts

-- how often a call failed, and how often there were too many notes
pub record KeepCounts : Type 0 where
  pub faults : ℕ
  pub full : ℕ

abbrev pub no_counts : KeepCounts
no_counts = record { faults = 0; full = 0 }

-- a count rose, and the other one stayed
pub record RoseAlone (old new other_old other_new : ℕ) : Type 0 where
  pub later : old ≤ new
  pub rose : Rose old new
  pub other : other_new ≡ other_old

-- Failed and TooMany raise each its own count alone, and no other answer raises any
abbrev pub HasLoadCause : {T : Type 0} → KeepCounts → KeepCounts → Result T KeepEnd → Type 0
HasLoadCause old new (Ok notes) = new ≡ old
HasLoadCause old new (Err Failed) = RoseAlone old.faults new.faults old.full new.full
HasLoadCause old new (Err (TooMany count)) = RoseAlone old.full new.full old.faults new.faults
HasLoadCause old new (Err NoMemory) = new ≡ old

-- the same of a call that notes, which never answers TooMany
abbrev pub HasNoteCause : {T : Type 0} → KeepCounts → KeepCounts → Result T KeepEnd → Type 0
HasNoteCause old new (Ok done) = new ≡ old
HasNoteCause old new (Err Failed) = RoseAlone old.faults new.faults old.full new.full
HasNoteCause old new (Err (TooMany count)) = ⊥
HasNoteCause old new (Err NoMemory) = new ≡ old

-- whether an answer is Failed
abbrev pub has_failed : {T : Type 0} → Result T KeepEnd → Bool
has_failed (Ok done) = false
has_failed (Err Failed) = true
has_failed (Err (TooMany count)) = false
has_failed (Err NoMemory) = false

-- an answer of a call that can only be out of memory: for the code alone
abbrev pub IsNoMemory : {T : Type 0} → Result T KeepEnd → Type 0
IsNoMemory (Ok done) = Unit {0}
IsNoMemory (Err Failed) = ⊥
IsNoMemory (Err (TooMany count)) = ⊥
IsNoMemory (Err NoMemory) = Unit {0}

-- ---- the versions in memory

-- the notes that a keeper in memory has, how often it was called, its counts, and the calls that fail
pub record Desk : Type 0 where
  pub notes : List Note
  pub calls : ℕ
  pub counts : KeepCounts
  pub failing : List ℕ

-- the notes that a keeper in memory has that never fails, and its counts
pub record SureDesk : Type 0 where
  pub notes : List Note
  pub counts : KeepCounts
