-- What a command that keeps notes, or reads them, met.
use Rattle.std.specs.Prelude.{◌≡◌, ℕ, ◌<◌, List, length, Option, IfSome}
use Rattle.std.specs.Io.KnownBytes.{Keeps}
use Rattle.ps_base.specs.Numbers.{counted}
use Rattle.ps_outside.specs.Causes.{Rose}
use Rattle.ps_outside.specs.Files.{FileCounts}
use Rattle.ps_keep.specs.declared.note.Note.{Note}
use Rattle.ps_keep.specs.declared.keeper.KeepEnd.{KeepEnd}
use Rattle.ps_keep.specs.declared.keeper.KeepEnd.TheVariants.{Failed, TooMany, NoMemory}
use Rattle.ps_keep.specs.Keepers.{KeepCounts}
use Rattle.program_commands.specs.declared.status.Status.{Status}
use Rattle.program_commands.specs.declared.status.Status.TheVariants as statuses
use Rattle.program_commands.specs.declared.status.Status.TheVariants.{KeepFault, KeepFull}

-- What was written and how often the output failed; the notes that are kept, and how often the keeper failed or had too many of
-- them. Each is as it was before the command, and after it.
pub record Dealings : Type 0 where
  pub written : Option (List ℕ)
  pub written_after : Option (List ℕ)
  pub writes : ℕ
  pub writes_after : ℕ
  pub kept : Option (List Note)
  pub kept_after : Option (List Note)
  pub keeps : KeepCounts
  pub keeps_after : KeepCounts

-- these, the files by their names and their counts, what was left of the input, and how often that failed
pub record MetWithKeeper : Type 0 where
  pub contents : Option (List ℕ → Option (List ℕ))
  pub counts : FileCounts
  pub counts_after : FileCounts
  pub left : Option (List ℕ)
  pub left_after : Option (List ℕ)
  pub reads : ℕ
  pub reads_after : ℕ
  pub dealings : Dealings

abbrev pub FileFailed : MetWithKeeper → Type 0
FileFailed run = Rose run.counts.faults run.counts_after.faults

abbrev pub ReadFailed : MetWithKeeper → Type 0
ReadFailed run = Rose run.reads run.reads_after

abbrev pub WriteFailed : Dealings → Type 0
WriteFailed dealings = Rose dealings.writes dealings.writes_after

abbrev pub KeeperFailed : Dealings → Type 0
KeeperFailed dealings = Rose dealings.keeps.faults dealings.keeps_after.faults

abbrev pub KeeperWasFull : Dealings → Type 0
KeeperWasFull dealings = Rose dealings.keeps.full dealings.keeps_after.full

-- nothing was written or noted
pub record IsQuiet (dealings : Dealings) : Type 0 where
  pub output : Keeps dealings.written dealings.written_after
  pub notes : dealings.kept_after ≡ dealings.kept

-- nor read
pub record IsUntouched (run : MetWithKeeper) : Type 0 where
  pub input : run.left_after ≡ run.left
  pub quiet : IsQuiet run.dealings

-- as many notes as there are at the most; a ladder has as many results
abbrev pub most_notes : ℕ
most_notes = 65536

-- More are kept already, and this is their number, or the greatest that a count has. Nothing came of it.
pub record IsFullAlone (run : MetWithKeeper) (count : ℕ) : Type 0 where
  pub untouched : IsUntouched run
  pub rose : KeeperWasFull run.dealings
  pub over : most_notes < count
  pub count_is : IfSome run.dealings.kept (λ notes. count ≡ counted (length notes))

-- ---- for the code: how a command ends whose keeper ended a call so

abbrev pub keeper_status : KeepEnd → Status
keeper_status Failed = KeepFault
keeper_status (TooMany count) = KeepFull count
keeper_status NoMemory = statuses.NoMemory
