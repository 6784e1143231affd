-- What a replay has shown: where the reading of its dex or its configuration ended it, and from its input on.
use Rattle.std.proofs.Common.{◌≡◌, ℕ, List, Option, Some, None, IfSome, Result, Ok, subst, inl, inr}
use Rattle.std.specs.Io.KnownBytes.{Keeps, IsAtEnd}
use Rattle.ps_outside.specs.Files.{FileCounts}
use Rattle.ps_dex.specs.declared.item.Tables.{Tables}
use Rattle.rules_config.specs.declared.settings.Settings.{Settings}
use Rattle.replay_script.specs.Limits.{ReadsFew}
use Rattle.program_commands.specs.declared.status.Status.{Status}
use Rattle.program_commands.specs.declared.status.Status.TheVariants.{Done, Usage, FileMissing, FileFault, FileLong, BadDex, BadConfig, BadScript, ScriptLong, ReadFault, WriteFault, BadTeam, NoMemory, DoorFault, UnknownFormat, BadPack, NoTour, KeepFault, KeepFull, BadExport, NoExport}
use Rattle.program_commands.specs.Words.{Options}
use Rattle.program_commands.specs.Steps.{dex_in, config_in}
use Rattle.program_commands.specs.Setups.{Stands, IsSetUp, IsStopOf, Stops, IsOption, StepCause, Ended}
use Rattle.program_commands.proofs.SetupLemmas.{step_settles}
use Rattle.ps_replay.specs.Outcomes.{IsReplayed, HasOneEntryEachText, HasHistories, HallLosesNothing, HasEqualWorlds, IsTranscript, KeepsInput, WritesPrefix, WritesOfInput, ReplayCause, Settles, IsOfInput, InputCause, SettlesInput}
use Rattle.ps_replay.specs.Commands.{Met, IsReplay, FilesFailed, InputFailed, OutputFailed}
use Rattle.ps_replay.proofs.InputLemmas.{config_settles, input_settles, input_cause}
use Rattle.ps_replay.proofs.CommandLemmas.{keeps_input, few_read, no_usage}

-- ---- a step of the files ended it

stop_of : {A : Type 0} (contents : Option (List ℕ → Option (List ℕ))) (named : Option (List ℕ)) (step : (List ℕ → Option (List ℕ)) → Result A Status) (status : Status) → Ended contents named step status → (status ≡ NoMemory → ⊥) → IfSome contents (λ lookup. IsStopOf named (step lookup) status)
stop_of contents named step status (inl memory) other = absurd (other memory)
stop_of contents named step status (inr ended) other = ended

dex_stops : (contents : Option (List ℕ → Option (List ℕ))) (o : Options) (status : Status) → IfSome contents (λ lookup. IsStopOf o.dex (dex_in lookup o.dex) status) → Stops contents o status
dex_stops None o status stop = tt
dex_stops (Some lookup) o status stop = inl stop

stands_at : {A : Type 0} (lookup : List ℕ → Option (List ℕ)) (named : Option (List ℕ)) (step : (List ℕ → Option (List ℕ)) → Result A Status) (x : A) → Stands (Some lookup) named step x → step lookup ≡ Ok x
stands_at lookup None step x stands = stands lookup
stands_at lookup (Some name) step x stands = stands

config_stops : (contents : Option (List ℕ → Option (List ℕ))) (o : Options) (dex : Tables) (status : Status) → Stands contents o.dex (λ lookup. dex_in lookup o.dex) dex → IfSome contents (λ lookup. IsStopOf o.config (config_in lookup dex o.config) status) → Stops contents o status
config_stops None o dex status stands stop = tt
config_stops (Some lookup) o dex status stands stop = inr (record { dex = dex; dex_is = stands_at lookup o.dex (λ (l : List ℕ → Option (List ℕ)). dex_in l o.dex) dex stands; stop = stop })

step_cause : (contents : Option (List ℕ → Option (List ℕ))) (o : Options) (left : Option (List ℕ)) (named : Option (List ℕ)) (old new : FileCounts) (status : Status) → ((name : List ℕ) → named ≡ Some name → IsOption o name) → ((status ≡ NoMemory → ⊥) → Stops contents o status) → StepCause named old new status → ReplayCause contents o left old new status
step_cause contents o left named old new (FileMissing name) option stops stepped = (stops (λ wrong. cc), option name stepped.0, stepped.1)
step_cause contents o left named old new (FileFault name) option stops stepped = (stops (λ wrong. cc), option name stepped.0, stepped.1)
step_cause contents o left named old new (FileLong name) option stops stepped = (stops (λ wrong. cc), option name stepped.0, stepped.1)
step_cause contents o left named old new (BadDex path kind) option stops stepped = stops (λ wrong. cc)
step_cause contents o left named old new (BadConfig path kind) option stops stepped = stops (λ wrong. cc)
step_cause contents o left named old new NoMemory option stops stepped = tt
step_cause contents o left named old new Done option stops stepped = absurd stepped
step_cause contents o left named old new (Usage word) option stops stepped = absurd stepped
step_cause contents o left named old new (BadScript line kind) option stops stepped = absurd stepped
step_cause contents o left named old new (ScriptLong count) option stops stepped = absurd stepped
step_cause contents o left named old new ReadFault option stops stepped = absurd stepped
step_cause contents o left named old new WriteFault option stops stepped = absurd stepped
step_cause contents o left named old new (BadTeam set rule subject) option stops stepped = absurd stepped
step_cause contents o left named old new DoorFault option stops stepped = absurd stepped
step_cause contents o left named old new (UnknownFormat id) option stops stepped = absurd stepped
step_cause contents o left named old new (BadPack at kind) option stops stepped = absurd stepped
step_cause contents o left named old new NoTour option stops stepped = absurd stepped
step_cause contents o left named old new KeepFault option stops stepped = absurd stepped
step_cause contents o left named old new (KeepFull count) option stops stepped = absurd stepped
step_cause contents o left named old new (BadExport line) option stops stepped = absurd stepped
step_cause contents o left named old new (NoExport set) option stops stepped = absurd stepped

step_prefix : (contents : Option (List ℕ → Option (List ℕ))) (o : Options) (left written written_after named : Option (List ℕ)) (old new : FileCounts) (status : Status) → Keeps written written_after → StepCause named old new status → WritesPrefix contents o left written written_after status
step_prefix contents o left written written_after named old new (FileMissing name) kept stepped = kept
step_prefix contents o left written written_after named old new (FileFault name) kept stepped = kept
step_prefix contents o left written written_after named old new (FileLong name) kept stepped = kept
step_prefix contents o left written written_after named old new (BadDex path kind) kept stepped = kept
step_prefix contents o left written written_after named old new (BadConfig path kind) kept stepped = kept
step_prefix contents o left written written_after named old new NoMemory kept stepped = inl kept
step_prefix contents o left written written_after named old new Done kept stepped = tt
step_prefix contents o left written written_after named old new (Usage word) kept stepped = kept
step_prefix contents o left written written_after named old new (BadScript line kind) kept stepped = kept
step_prefix contents o left written written_after named old new (ScriptLong count) kept stepped = kept
step_prefix contents o left written written_after named old new ReadFault kept stepped = kept
step_prefix contents o left written written_after named old new WriteFault kept stepped = absurd stepped
step_prefix contents o left written written_after named old new (BadTeam set rule subject) kept stepped = kept
step_prefix contents o left written written_after named old new DoorFault kept stepped = kept
step_prefix contents o left written written_after named old new (UnknownFormat id) kept stepped = kept
step_prefix contents o left written written_after named old new (BadPack at kind) kept stepped = kept
step_prefix contents o left written written_after named old new NoTour kept stepped = kept
step_prefix contents o left written written_after named old new KeepFault kept stepped = kept
step_prefix contents o left written written_after named old new (KeepFull count) kept stepped = kept
step_prefix contents o left written written_after named old new (BadExport line) kept stepped = kept
step_prefix contents o left written written_after named old new (NoExport set) kept stepped = kept

step_ends : (o : Options) (m : Met) (named : Option (List ℕ)) (status : Status) → m.left_after ≡ m.left → Keeps m.written m.written_after → ((name : List ℕ) → named ≡ Some name → IsOption o name) → ((status ≡ NoMemory → ⊥) → Stops m.contents o status) → StepCause named m.counts m.counts_after status → Settles m.contents o m.left (FilesFailed m) (InputFailed m) (OutputFailed m) status → IsReplay o m status
step_ends o m named status same kept option stops stepped settled =
    let apart : (other : Status) → (StepCause named m.counts m.counts_after other → ⊥) → status ≡ other → ⊥ = λ other none is. none (subst (StepCause named m.counts m.counts_after) is stepped) in
    record {
      usage = no_usage (StepCause named m.counts m.counts_after) status (λ word wrong. wrong) stepped;
      cause = step_cause m.contents o m.left named m.counts m.counts_after status option stops stepped;
      input = keeps_input m.left m.left_after status same;
      whole = λ done. absurd (apart Done (λ wrong. wrong) done);
      replayed = λ done. absurd (apart Done (λ wrong. wrong) done);
      transcript = λ done. absurd (apart Done (λ wrong. wrong) done);
      one_entry = λ done. absurd (apart Done (λ wrong. wrong) done);
      histories = λ done. absurd (apart Done (λ wrong. wrong) done);
      hall = λ done. absurd (apart Done (λ wrong. wrong) done);
      two_worlds = λ done. absurd (apart Done (λ wrong. wrong) done);
      prefix = step_prefix m.contents o m.left m.written m.written_after named m.counts m.counts_after status kept stepped;
      bounded = few_read m.left m.left_after same;
      read_fault = λ read. absurd (apart ReadFault (λ wrong. wrong) read);
      write_fault = λ write. absurd (apart WriteFault (λ wrong. wrong) write);
      complete = settled;
    }

-- the reading of the dex did
pub dex_ends : (o : Options) (m : Met) (status : Status) → m.left_after ≡ m.left → Keeps m.written m.written_after → Ended m.contents o.dex (λ lookup. dex_in lookup o.dex) status → (o.dex ≡ None → status ≡ NoMemory) → StepCause o.dex m.counts m.counts_after status → IsReplay o m status
dex_ends o m status same kept ended alone stepped =
    let step = λ (lookup : List ℕ → Option (List ℕ)). dex_in lookup o.dex in
    step_ends o m o.dex status same kept (λ name is. inl is) (λ other. dex_stops m.contents o status (stop_of m.contents o.dex step status ended other)) stepped
    (λ readied files _ _. step_settles m.contents o.dex step readied.files.dex m.counts m.counts_after status readied.files.dex_is alone ended stepped files)

-- or that of the configuration
pub config_ends : (o : Options) (m : Met) (dex : Tables) (status : Status) → m.left_after ≡ m.left → Keeps m.written m.written_after → Stands m.contents o.dex (λ lookup. dex_in lookup o.dex) dex → Ended m.contents o.config (λ lookup. config_in lookup dex o.config) status → (o.config ≡ None → status ≡ NoMemory) → StepCause o.config m.counts m.counts_after status → IsReplay o m status
config_ends o m dex status same kept stands ended alone stepped =
    let step = λ (lookup : List ℕ → Option (List ℕ)). config_in lookup dex o.config in
    step_ends o m o.config status same kept (λ name is. inr is) (λ other. config_stops m.contents o dex status stands (stop_of m.contents o.config step status ended other)) stepped
    (config_settles m.contents o m.left dex m.counts m.counts_after (InputFailed m) (OutputFailed m) status stands alone ended stepped)

-- ---- the input was read

input_keeps : (left left_after : Option (List ℕ)) (status : Status) → IsOfInput status → KeepsInput left left_after status
input_keeps left left_after Done of = tt
input_keeps left left_after (BadScript line kind) of = tt
input_keeps left left_after (ScriptLong count) of = tt
input_keeps left left_after ReadFault of = tt
input_keeps left left_after WriteFault of = tt
input_keeps left left_after NoMemory of = tt
input_keeps left left_after (Usage word) of = absurd of
input_keeps left left_after (FileMissing name) of = absurd of
input_keeps left left_after (FileFault name) of = absurd of
input_keeps left left_after (FileLong name) of = absurd of
input_keeps left left_after (BadDex path kind) of = absurd of
input_keeps left left_after (BadConfig path kind) of = absurd of
input_keeps left left_after (BadTeam set rule subject) of = absurd of
input_keeps left left_after DoorFault of = absurd of
input_keeps left left_after (UnknownFormat id) of = absurd of
input_keeps left left_after (BadPack at kind) of = absurd of
input_keeps left left_after NoTour of = absurd of
input_keeps left left_after KeepFault of = absurd of
input_keeps left left_after (KeepFull count) of = absurd of
input_keeps left left_after (BadExport line) of = absurd of
input_keeps left left_after (NoExport set) of = absurd of

input_prefix : (contents : Option (List ℕ → Option (List ℕ))) (o : Options) (left written written_after : Option (List ℕ)) (config : Settings) (dex : Tables) (status : Status) → IsSetUp contents o config dex → IsOfInput status → WritesOfInput config dex left written written_after status → WritesPrefix contents o left written written_after status
input_prefix contents o left written written_after config dex Done s of wrote = tt
input_prefix contents o left written written_after config dex (BadScript line kind) s of wrote = wrote
input_prefix contents o left written written_after config dex (ScriptLong count) s of wrote = wrote
input_prefix contents o left written written_after config dex ReadFault s of wrote = wrote
input_prefix contents o left written written_after config dex WriteFault s of wrote = (config, dex, s, wrote)
input_prefix contents o left written written_after config dex NoMemory s of (inl kept) = inl kept
input_prefix contents o left written written_after config dex NoMemory s of (inr front) = inr (config, dex, s, front)
input_prefix contents o left written written_after config dex (Usage word) s of wrote = absurd of
input_prefix contents o left written written_after config dex (FileMissing name) s of wrote = absurd of
input_prefix contents o left written written_after config dex (FileFault name) s of wrote = absurd of
input_prefix contents o left written written_after config dex (FileLong name) s of wrote = absurd of
input_prefix contents o left written written_after config dex (BadDex path kind) s of wrote = absurd of
input_prefix contents o left written written_after config dex (BadConfig path kind) s of wrote = absurd of
input_prefix contents o left written written_after config dex (BadTeam set rule subject) s of wrote = absurd of
input_prefix contents o left written written_after config dex DoorFault s of wrote = absurd of
input_prefix contents o left written written_after config dex (UnknownFormat id) s of wrote = absurd of
input_prefix contents o left written written_after config dex (BadPack at kind) s of wrote = absurd of
input_prefix contents o left written written_after config dex NoTour s of wrote = absurd of
input_prefix contents o left written written_after config dex KeepFault s of wrote = absurd of
input_prefix contents o left written written_after config dex (KeepFull count) s of wrote = absurd of
input_prefix contents o left written written_after config dex (BadExport line) s of wrote = absurd of
input_prefix contents o left written written_after config dex (NoExport set) s of wrote = absurd of

part_of : (P Q : List ℕ → Type 0) (left : Option (List ℕ)) → ((bytes : List ℕ) → P bytes → Q bytes) → IfSome left P → IfSome left Q
part_of P Q None part p = tt
part_of P Q (Some bytes) part p = part bytes p

pub input_ends : (o : Options) (m : Met) (config : Settings) (dex : Tables) (status : Status) → IsSetUp m.contents o config dex → IsOfInput status → (status ≡ Done → IsAtEnd m.left_after) → (status ≡ Done → IfSome m.left (IsReplayed config dex m.written m.written_after)) → WritesOfInput config dex m.left m.written m.written_after status → ReadsFew m.left m.left_after → InputCause config.groups m.left status → (status ≡ ReadFault → InputFailed m) → (status ≡ WriteFault → OutputFailed m) → SettlesInput config.groups m.left (InputFailed m) (OutputFailed m) status → IsReplay o m status
input_ends o m config dex status s of ended played wrote few caused read_failed write_failed settled =
    let R = IsReplayed config dex m.written m.written_after in
    let whole_of = λ (Q : List ℕ → Type 0) (part : (bytes : List ℕ) → R bytes → Q bytes) (done : status ≡ Done). part_of R Q m.left part (played done) in
    record {
      usage = no_usage IsOfInput status (λ word wrong. wrong) of;
      cause = input_cause m.contents o m.left config dex m.counts m.counts_after status s of caused;
      input = input_keeps m.left m.left_after status of;
      whole = ended;
      replayed = λ done. (config, dex, s, played done);
      transcript = λ done. (config, dex, s, whole_of (IsTranscript config dex m.written m.written_after) (λ bytes r. r.transcript) done);
      one_entry = λ done. (config, dex, s, whole_of (HasOneEntryEachText config dex) (λ bytes r. r.one_entry) done);
      histories = λ done. (config, dex, s, whole_of (HasHistories config dex) (λ bytes r. r.histories) done);
      hall = λ done. (config, dex, s, whole_of (HallLosesNothing config dex) (λ bytes r. r.hall) done);
      two_worlds = λ done. (config, dex, s, whole_of (HasEqualWorlds config dex) (λ bytes r. r.two_worlds) done);
      prefix = input_prefix m.contents o m.left m.written m.written_after config dex status s of wrote;
      bounded = few;
      read_fault = read_failed;
      write_fault = write_failed;
      complete = input_settles m.contents o m.left config dex (FilesFailed m) (InputFailed m) (OutputFailed m) status s settled;
    }
