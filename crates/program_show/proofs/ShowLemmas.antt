-- What was written, where a step ends and where others go on.
use Rattle.std.proofs.Common.{◌≡◌, ◌⊎◌, inl, inr, ℕ, Bool, List, [], Option, Some, None, Result, Ok, Err, refl, sym, subst, ◌∙◌, append-nil}
use Rattle.std.specs.Io.KnownBytes.{Appends, Keeps}
use Rattle.ps_outside.specs.Causes.{Rose}
use Rattle.ps_outside.specs.Files.{FileCounts}
use Rattle.program_commands.specs.declared.status.Status.{Status}
use Rattle.program_commands.specs.declared.status.Status.TheVariants.{Done, FileMissing, FileFault, FileLong}
use Rattle.program_commands.specs.declared.status.Status.TheVariants.{BadDex, BadConfig, WriteFault, NoMemory, UnknownFormat}
use Rattle.program_commands.specs.Ends.{FormatCause}
use Rattle.program_commands.specs.Setups.{StepCause, Then}
use Rattle.file_help.specs.declared.page.Section.{Section}
use Rattle.file_help.specs.Pages.{page_of}
use Rattle.ps_dex.specs.declared.item.Tables.{Tables}
use Rattle.ps_rules.specs.declared.table.Format.{Format}
use Rattle.rules_config.specs.declared.settings.Settings.{Settings}
use Rattle.program_show.specs.Summary.{IsWhole, of_format, without_secrets}
use Rattle.program_show.specs.Shows.{chosen, Tells, IsWritten, ToldEnds, ShowCause, IsPageFront, WritesShown}
use Rattle.program_show.specs.Shows.{CountsAfter, WritesPage, WritesMore}

keeps_self : (old : Option (List ℕ)) → Keeps old old
keeps_self None = tt
keeps_self (Some bytes) = refl

none_appended : (old new : Option (List ℕ)) → Keeps old new → Appends old new []
none_appended None new keeps = tt
none_appended (Some bytes) None keeps = absurd keeps
none_appended (Some bytes) (Some other) keeps = keeps ∙ sym (append-nil bytes)

nothing_front : (as_json : Bool) (old new : Option (List ℕ)) → Keeps old new → IsPageFront as_json old new
nothing_front as_json old new keeps =
    record { sections = []; front = record { front = []; rest = page_of as_json []; parts = refl; grew = none_appended old new keeps } }

-- whatever became of a page, a front of it was written
pub front_of : (as_json : Bool) (sections : List Section) (old new : Option (List ℕ)) (status : Status)
    → WritesPage as_json sections old new status → IsPageFront as_json old new
front_of as_json sections old new Done wrote =
    let page : List ℕ = page_of as_json sections in
    record { sections = sections; front = record { front = page; rest = []; parts = sym (append-nil page); grew = wrote } }
front_of as_json sections old new WriteFault front = record { sections = sections; front = front }
front_of as_json sections old new NoMemory keeps = nothing_front as_json old new keeps
front_of as_json sections old new other wrote = absurd wrote

-- a file stopped `show`: what the status says of it stands, since no other file was read
pub file_cause : (named : List ℕ → Type 0) (name : Option (List ℕ)) (old mid new : FileCounts) (status : Status)
    → ((n : List ℕ) → name ≡ Some n → named n) → StepCause name old mid status → CountsAfter mid new status
    → ShowCause named old new status
file_cause named name old mid new (FileMissing n) so cause same =
    (so n cause.0, subst (λ (c : FileCounts). Rose old.missing c.missing) (sym same) cause.1)
file_cause named name old mid new (FileFault n) so cause same =
    (so n cause.0, subst (λ (c : FileCounts). Rose old.faults c.faults) (sym same) cause.1)
file_cause named name old mid new (FileLong n) so cause same =
    (so n cause.0, subst (λ (c : FileCounts). Rose old.long c.long) (sym same) cause.1)
file_cause named name old mid new (BadDex path kind) so cause same = tt
file_cause named name old mid new (BadConfig path kind) so cause same = tt
file_cause named name old mid new NoMemory so cause same = tt
file_cause named name old mid new other so cause same = absurd cause

-- ---- what is told

pub tells_whole : (dex : Tables) (settings : Settings) (sections : List Section)
    → IsWhole dex (without_secrets settings) sections → Tells dex settings None sections
tells_whole dex settings sections told = (None, refl, told)

pub tells_format : (dex : Tables) (settings : Settings) (name : List ℕ) (format : Format) (sections : List Section)
    → chosen settings (Some name) ≡ Ok (Some format) → sections ≡ of_format dex format → Tells dex settings (Some name) sections
tells_format dex settings name format sections is told = (Some format, is, told)

-- ---- how it ends, where the sections are told

pub written_ends : (settings : Settings) (name : Option (List ℕ)) (format : Option Format) (status : Status)
    → chosen settings name ≡ Ok format → (status ≡ NoMemory) ⊎ IsWritten status → (status ≡ NoMemory) ⊎ ToldEnds name settings status
written_ends settings name format status is (inl none) = inl none
written_ends settings name format status is (inr written) =
    inr (subst (λ (r : Result (Option Format) Status). Then r (λ f st. IsWritten st) status) (sym is) written)

pub written_cause : (named : List ℕ → Type 0) (old new : FileCounts) (status : Status)
    → (status ≡ NoMemory) ⊎ IsWritten status → ShowCause named old new status
written_cause named old new status (inl none) = subst (ShowCause named old new) (sym none) tt
written_cause named old new status (inr (inl done)) = subst (ShowCause named old new) (sym done) tt
written_cause named old new status (inr (inr fault)) = subst (ShowCause named old new) (sym fault) tt

pub written_shown : (is_told : List Section → Type 0) (sections : List Section) (as_json : Bool) (old new : Option (List ℕ))
    (status : Status) → is_told sections → WritesMore as_json sections old new status → WritesShown is_told as_json old new status
written_shown is_told sections as_json old new Done told page = (sections, told, page)
written_shown is_told sections as_json old new WriteFault told front = front
written_shown is_told sections as_json old new NoMemory told keeps = keeps
written_shown is_told sections as_json old new other told wrote = absurd wrote

-- ---- how it ends, where no format has the name

pub unknown_ends : (settings : Settings) (name : Option (List ℕ)) (status : Status)
    → (status ≡ NoMemory) ⊎ (chosen settings name ≡ Err status) → (status ≡ NoMemory) ⊎ ToldEnds name settings status
unknown_ends settings name status (inl none) = inl none
unknown_ends settings name status (inr is) =
    inr (subst (λ (r : Result (Option Format) Status). Then r (λ f st. IsWritten st) status) (sym is) refl)

pub unknown_cause : (named : List ℕ → Type 0) (old new : FileCounts) (status : Status) → FormatCause status → ShowCause named old new status
unknown_cause named old new (UnknownFormat id) cause = tt
unknown_cause named old new NoMemory cause = tt
unknown_cause named old new other cause = absurd cause

pub unknown_shown : (is_told : List Section → Type 0) (as_json : Bool) (old : Option (List ℕ)) (status : Status)
    → FormatCause status → WritesShown is_told as_json old old status
unknown_shown is_told as_json old (UnknownFormat id) cause = keeps_self old
unknown_shown is_told as_json old NoMemory cause = keeps_self old
unknown_shown is_told as_json old other cause = absurd cause

pub unknown_fault : (old new : ℕ) (status : Status) → FormatCause status → status ≡ WriteFault → Rose old new
unknown_fault old new status cause is = absurd (subst FormatCause is cause)

pub no_memory_shown : (is_told : List Section → Type 0) (as_json : Bool) (old : Option (List ℕ))
    → WritesShown is_told as_json old old NoMemory
no_memory_shown is_told as_json old = keeps_self old
