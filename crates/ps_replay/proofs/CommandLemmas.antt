-- What each command has shown is what a run has, where the words ask for it.
use Rattle.std.proofs.Common.{◌≡◌, ℕ, List, [], Option, Some, None, Result, Ok, Err, refl, sym, subst, arith}
use Rattle.std.specs.Io.KnownBytes.{Keeps}
use Rattle.replay_script.specs.Limits.{ReadsFew}
use Rattle.program_commands.specs.declared.status.Status.{Status}
use Rattle.program_commands.specs.declared.status.Status.TheVariants.{Done, Usage, FileMissing, FileFault, FileLong, BadDex, BadConfig, BadScript, ScriptLong, ReadFault, WriteFault, BadTeam, NoMemory, DoorFault, UnknownFormat, BadPack, NoTour, KeepFault, KeepFull, BadExport, NoExport}
use Rattle.program_commands.specs.Words.{Asked, Replays, Drills, Checks, Exports, Imports, Tours, Options, Drilled, Checked, Toured}
use Rattle.program_commands.specs.Setups.{usage_reported, HasSetup, EndsIfKnown}
use Rattle.program_commands.specs.Checks.{CheckEnds, IsNamed, CheckCause, WritesLegal, SettlesCheck}
use Rattle.program_commands.specs.Conversions.{HasExport, MakesExport, MakesPacked, ExportCause, ImportCause, WritesConversion, SettlesConversion}
use Rattle.ps_replay.specs.Outcomes.{KeepsInput}
use Rattle.ps_replay.specs.Drills.{DrillEnds, DrillCause, WritesSummary, WritesDrill, SettlesDrill}
use Rattle.ps_replay.specs.Tours.{IsTour, TourEnds, TourCause, WritesTour, SettlesTour}
use Rattle.ps_replay.specs.Commands.{Met, IsReplay, IsRun, FilesFailed, OutputFailed}

-- ---- an input that wasn't touched

pub keeps_input : (left left_after : Option (List ℕ)) (status : Status) → left_after ≡ left → KeepsInput left left_after status
keeps_input left left_after Done same = tt
keeps_input left left_after (Usage word) same = same
keeps_input left left_after (FileMissing name) same = same
keeps_input left left_after (FileFault name) same = same
keeps_input left left_after (FileLong name) same = same
keeps_input left left_after (BadDex path kind) same = same
keeps_input left left_after (BadConfig path kind) same = same
keeps_input left left_after (BadScript line kind) same = tt
keeps_input left left_after (ScriptLong count) same = tt
keeps_input left left_after ReadFault same = tt
keeps_input left left_after WriteFault same = tt
keeps_input left left_after (BadTeam set rule subject) same = same
keeps_input left left_after NoMemory same = tt
keeps_input left left_after DoorFault same = same
keeps_input left left_after (UnknownFormat id) same = same
keeps_input left left_after (BadPack at kind) same = same
keeps_input left left_after NoTour same = same
keeps_input left left_after KeepFault same = tt
keeps_input left left_after (KeepFull count) same = tt
keeps_input left left_after (BadExport line) same = same
keeps_input left left_after (NoExport set) same = same

reads_none : (left : Option (List ℕ)) → ReadsFew left left
reads_none None = record { front = []; taken = tt; few = omega arith }
reads_none (Some bytes) = record { front = []; taken = refl; few = omega arith }

pub few_read : (left left_after : Option (List ℕ)) → left_after ≡ left → ReadsFew left left_after
few_read left left_after same = subst (λ (o : Option (List ℕ)). ReadsFew left o) (sym same) (reads_none left)

pub keeps : (known : Option (List ℕ)) → Keeps known known
keeps None = tt
keeps (Some bytes) = refl

-- ---- a status that isn't of the words

pub no_usage : (P : Status → Type 0) (status : Status) → ((word : ℕ) → P (Usage word) → ⊥) → P status → usage_reported status ≡ None
no_usage P (Usage word) none p = absurd (none word p)
no_usage P Done none p = refl
no_usage P (FileMissing name) none p = refl
no_usage P (FileFault name) none p = refl
no_usage P (FileLong name) none p = refl
no_usage P (BadDex path kind) none p = refl
no_usage P (BadConfig path kind) none p = refl
no_usage P (BadScript line kind) none p = refl
no_usage P (ScriptLong count) none p = refl
no_usage P ReadFault none p = refl
no_usage P WriteFault none p = refl
no_usage P (BadTeam set rule subject) none p = refl
no_usage P NoMemory none p = refl
no_usage P DoorFault none p = refl
no_usage P (UnknownFormat id) none p = refl
no_usage P (BadPack at kind) none p = refl
no_usage P NoTour none p = refl
no_usage P KeepFault none p = refl
no_usage P (KeepFull count) none p = refl
no_usage P (BadExport line) none p = refl
no_usage P (NoExport set) none p = refl

-- ---- command by command

pub of_drill : (asked : Result Asked ℕ) (words : Drilled) (m : Met) (status : Status) → asked ≡ Ok (Drills words) → m.left_after ≡ m.left → EndsIfKnown m.contents (λ lookup. DrillEnds lookup words.options) status → DrillCause words.options m.counts m.counts_after status → (status ≡ Done → HasSetup m.contents words.options (λ config dex. WritesSummary config dex words.steps m.written m.written_after)) → WritesDrill m.contents words m.written m.written_after status → (status ≡ WriteFault → OutputFailed m) → SettlesDrill m.contents (FilesFailed m) (OutputFailed m) words.options status → IsRun asked m status
of_drill asked words m status is same ended caused told wrote failed settled = rw is (record {
  usage = no_usage (DrillCause words.options m.counts m.counts_after) status (λ word wrong. wrong) caused;
  cause = tt;
  input = keeps_input m.left m.left_after status same;
  whole = tt;
  replayed = tt;
  transcript = tt;
  one_entry = tt;
  histories = tt;
  hall = tt;
  two_worlds = tt;
  check_ends = tt;
  check_cause = tt;
  check_untouched = tt;
  check_summary = tt;
  export_cause = tt;
  export_untouched = tt;
  export_written = tt;
  import_cause = tt;
  import_untouched = tt;
  import_written = tt;
  drill_ends = ended;
  drill_cause = caused;
  drill_untouched = same;
  drill_summary = told;
  tour_ends = tt;
  tour_cause = tt;
  tour_untouched = tt;
  tour_played = tt;
  prefix = wrote;
  bounded = few_read m.left m.left_after same;
  read_fault = λ read. absurd (subst (DrillCause words.options m.counts m.counts_after) read caused);
  write_fault = failed;
  complete = tt;
  complete_check = tt;
  complete_export = tt;
  complete_import = tt;
  complete_drill = settled;
  complete_tour = tt;
})

pub of_check : (asked : Result Asked ℕ) (words : Checked) (m : Met) (status : Status) → asked ≡ Ok (Checks words) → m.left_after ≡ m.left → EndsIfKnown m.contents (λ lookup. CheckEnds lookup words) status → CheckCause (IsNamed words) m.counts m.counts_after status → WritesLegal m.written m.written_after status → (status ≡ WriteFault → OutputFailed m) → SettlesCheck m.contents (FilesFailed m) (OutputFailed m) words status → IsRun asked m status
of_check asked words m status is same ended caused wrote failed settled = rw is (record {
  usage = no_usage (CheckCause (IsNamed words) m.counts m.counts_after) status (λ word wrong. wrong) caused;
  cause = tt;
  input = keeps_input m.left m.left_after status same;
  whole = tt;
  replayed = tt;
  transcript = tt;
  one_entry = tt;
  histories = tt;
  hall = tt;
  two_worlds = tt;
  check_ends = ended;
  check_cause = caused;
  check_untouched = same;
  check_summary = λ done. subst (WritesLegal m.written m.written_after) done wrote;
  export_cause = tt;
  export_untouched = tt;
  export_written = tt;
  import_cause = tt;
  import_untouched = tt;
  import_written = tt;
  drill_ends = tt;
  drill_cause = tt;
  drill_untouched = tt;
  drill_summary = tt;
  tour_ends = tt;
  tour_cause = tt;
  tour_untouched = tt;
  tour_played = tt;
  prefix = wrote;
  bounded = few_read m.left m.left_after same;
  read_fault = λ read. absurd (subst (CheckCause (IsNamed words) m.counts m.counts_after) read caused);
  write_fault = failed;
  complete = tt;
  complete_check = settled;
  complete_export = tt;
  complete_import = tt;
  complete_drill = tt;
  complete_tour = tt;
})

pub of_export : (asked : Result Asked ℕ) (name : List ℕ) (m : Met) (status : Status) → asked ≡ Ok (Exports name) → m.left_after ≡ m.left → ExportCause m.contents name m.counts m.counts_after status → WritesConversion m.contents name MakesExport m.written m.written_after status → (status ≡ WriteFault → OutputFailed m) → SettlesConversion m.contents HasExport (FilesFailed m) (OutputFailed m) name status → IsRun asked m status
of_export asked name m status is same caused wrote failed settled = rw is (record {
  usage = no_usage (ExportCause m.contents name m.counts m.counts_after) status (λ word wrong. wrong) caused;
  cause = tt;
  input = keeps_input m.left m.left_after status same;
  whole = tt;
  replayed = tt;
  transcript = tt;
  one_entry = tt;
  histories = tt;
  hall = tt;
  two_worlds = tt;
  check_ends = tt;
  check_cause = tt;
  check_untouched = tt;
  check_summary = tt;
  export_cause = caused;
  export_untouched = same;
  export_written = λ done. subst (WritesConversion m.contents name MakesExport m.written m.written_after) done wrote;
  import_cause = tt;
  import_untouched = tt;
  import_written = tt;
  drill_ends = tt;
  drill_cause = tt;
  drill_untouched = tt;
  drill_summary = tt;
  tour_ends = tt;
  tour_cause = tt;
  tour_untouched = tt;
  tour_played = tt;
  prefix = wrote;
  bounded = few_read m.left m.left_after same;
  read_fault = λ read. absurd (subst (ExportCause m.contents name m.counts m.counts_after) read caused);
  write_fault = failed;
  complete = tt;
  complete_check = tt;
  complete_export = settled;
  complete_import = tt;
  complete_drill = tt;
  complete_tour = tt;
})

pub of_import : (asked : Result Asked ℕ) (name : List ℕ) (m : Met) (status : Status) → asked ≡ Ok (Imports name) → m.left_after ≡ m.left → ImportCause m.contents name m.counts m.counts_after status → WritesConversion m.contents name MakesPacked m.written m.written_after status → (status ≡ WriteFault → OutputFailed m) → SettlesConversion m.contents MakesPacked (FilesFailed m) (OutputFailed m) name status → IsRun asked m status
of_import asked name m status is same caused wrote failed settled = rw is (record {
  usage = no_usage (ImportCause m.contents name m.counts m.counts_after) status (λ word wrong. wrong) caused;
  cause = tt;
  input = keeps_input m.left m.left_after status same;
  whole = tt;
  replayed = tt;
  transcript = tt;
  one_entry = tt;
  histories = tt;
  hall = tt;
  two_worlds = tt;
  check_ends = tt;
  check_cause = tt;
  check_untouched = tt;
  check_summary = tt;
  export_cause = tt;
  export_untouched = tt;
  export_written = tt;
  import_cause = caused;
  import_untouched = same;
  import_written = λ done. subst (WritesConversion m.contents name MakesPacked m.written m.written_after) done wrote;
  drill_ends = tt;
  drill_cause = tt;
  drill_untouched = tt;
  drill_summary = tt;
  tour_ends = tt;
  tour_cause = tt;
  tour_untouched = tt;
  tour_played = tt;
  prefix = wrote;
  bounded = few_read m.left m.left_after same;
  read_fault = λ read. absurd (subst (ImportCause m.contents name m.counts m.counts_after) read caused);
  write_fault = failed;
  complete = tt;
  complete_check = tt;
  complete_export = tt;
  complete_import = settled;
  complete_drill = tt;
  complete_tour = tt;
})

pub of_tour : (asked : Result Asked ℕ) (words : Toured) (m : Met) (status : Status) → asked ≡ Ok (Tours words) → m.left_after ≡ m.left → EndsIfKnown m.contents (λ lookup. TourEnds lookup words.options) status → TourCause words.options m.counts m.counts_after status → (status ≡ Done → HasSetup m.contents words.options (IsTour words m.written m.written_after)) → WritesTour m.contents words m.written m.written_after status → (status ≡ WriteFault → OutputFailed m) → SettlesTour m.contents (FilesFailed m) (OutputFailed m) words.options status → IsRun asked m status
of_tour asked words m status is same ended caused told wrote failed settled = rw is (record {
  usage = no_usage (TourCause words.options m.counts m.counts_after) status (λ word wrong. wrong) caused;
  cause = tt;
  input = keeps_input m.left m.left_after status same;
  whole = tt;
  replayed = tt;
  transcript = tt;
  one_entry = tt;
  histories = tt;
  hall = tt;
  two_worlds = tt;
  check_ends = tt;
  check_cause = tt;
  check_untouched = tt;
  check_summary = tt;
  export_cause = tt;
  export_untouched = tt;
  export_written = tt;
  import_cause = tt;
  import_untouched = tt;
  import_written = tt;
  drill_ends = tt;
  drill_cause = tt;
  drill_untouched = tt;
  drill_summary = tt;
  tour_ends = ended;
  tour_cause = caused;
  tour_untouched = same;
  tour_played = told;
  prefix = wrote;
  bounded = few_read m.left m.left_after same;
  read_fault = λ read. absurd (subst (TourCause words.options m.counts m.counts_after) read caused);
  write_fault = failed;
  complete = tt;
  complete_check = tt;
  complete_export = tt;
  complete_import = tt;
  complete_drill = tt;
  complete_tour = settled;
})

pub of_replay : (asked : Result Asked ℕ) (options : Options) (m : Met) (status : Status) → asked ≡ Ok (Replays options) → IsReplay options m status → IsRun asked m status
of_replay asked options m status is run = rw is (record {
  usage = run.usage;
  cause = run.cause;
  input = run.input;
  whole = run.whole;
  replayed = run.replayed;
  transcript = run.transcript;
  one_entry = run.one_entry;
  histories = run.histories;
  hall = run.hall;
  two_worlds = run.two_worlds;
  check_ends = tt;
  check_cause = tt;
  check_untouched = tt;
  check_summary = tt;
  export_cause = tt;
  export_untouched = tt;
  export_written = tt;
  import_cause = tt;
  import_untouched = tt;
  import_written = tt;
  drill_ends = tt;
  drill_cause = tt;
  drill_untouched = tt;
  drill_summary = tt;
  tour_ends = tt;
  tour_cause = tt;
  tour_untouched = tt;
  tour_played = tt;
  prefix = run.prefix;
  bounded = run.bounded;
  read_fault = run.read_fault;
  write_fault = run.write_fault;
  complete = run.complete;
  complete_check = tt;
  complete_export = tt;
  complete_import = tt;
  complete_drill = tt;
  complete_tour = tt;
})

pub of_usage : (asked : Result Asked ℕ) (m : Met) (word : ℕ) → asked ≡ Err word → m.left_after ≡ m.left → m.written_after ≡ m.written → IsRun asked m (Usage word)
of_usage asked m word is same unwritten = rw is (record {
  usage = refl;
  cause = tt;
  input = same;
  whole = tt;
  replayed = tt;
  transcript = tt;
  one_entry = tt;
  histories = tt;
  hall = tt;
  two_worlds = tt;
  check_ends = tt;
  check_cause = tt;
  check_untouched = tt;
  check_summary = tt;
  export_cause = tt;
  export_untouched = tt;
  export_written = tt;
  import_cause = tt;
  import_untouched = tt;
  import_written = tt;
  drill_ends = tt;
  drill_cause = tt;
  drill_untouched = tt;
  drill_summary = tt;
  tour_ends = tt;
  tour_cause = tt;
  tour_untouched = tt;
  tour_played = tt;
  prefix = subst (λ (o : Option (List ℕ)). Keeps m.written o) (sym unwritten) (keeps m.written);
  bounded = few_read m.left m.left_after same;
  read_fault = λ wrong. cc;
  write_fault = λ wrong. cc;
  complete = tt;
  complete_check = tt;
  complete_export = tt;
  complete_import = tt;
  complete_drill = tt;
  complete_tour = tt;
})
