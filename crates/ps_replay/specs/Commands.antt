-- All that a run has shown, over what was asked: for the code alone. `run` states each fact in its own words; here they are one goal
-- for each command.
use Rattle.std.specs.Prelude.{◌≡◌, ℕ, List, Option, None, Result}
use Rattle.std.specs.Io.KnownBytes.{Appends, IsAtEnd}
use Rattle.ps_outside.specs.Causes.{Rose}
use Rattle.ps_outside.specs.Files.{FileCounts}
use Rattle.replay_script.specs.Limits.{ReadsFew}
use Rattle.program_commands.specs.declared.status.Status.{Status}
use Rattle.program_commands.specs.declared.status.Status.TheVariants.{Done, ReadFault, WriteFault}
use Rattle.program_commands.specs.Words.{Asked, Options, IfReplay, IfDrill, IfCheck, IfExport, IfImport, IfTour}
use Rattle.program_commands.specs.Setups.{usage_in, usage_reported, HasSetup, EndsIfKnown}
use Rattle.program_commands.specs.Checks.{legal_line, CheckEnds, IsNamed, CheckCause, SettlesCheck}
use Rattle.program_commands.specs.Conversions.{HasExport, MakesPacked, ExportCause, ImportCause, WritesExport, WritesPacked}
use Rattle.program_commands.specs.Conversions.{SettlesConversion}
use Rattle.ps_replay.specs.Outcomes.{KeepsInput, IsTranscript, HasOneEntryEachText, HasHistories, HallLosesNothing, HasEqualWorlds}
use Rattle.ps_replay.specs.Outcomes.{IsReplayed, AtDone, WritesPrefix, ReplayCause, Settles}
use Rattle.ps_replay.specs.Drills.{DrillEnds, DrillCause, WritesSummary, SettlesDrill}
use Rattle.ps_replay.specs.Tours.{IsTour, TourEnds, TourCause, SettlesTour}
use Rattle.ps_replay.specs.Writes.{Writes}

-- What a run met: the files by their names, their counts before and after it, what was left of the input and written to the output,
-- and how often both had failed.
pub record Met : Type 0 where
  pub contents : Option (List ℕ → Option (List ℕ))
  pub counts : FileCounts
  pub counts_after : FileCounts
  pub left : Option (List ℕ)
  pub left_after : Option (List ℕ)
  pub reads : ℕ
  pub reads_after : ℕ
  pub written : Option (List ℕ)
  pub written_after : Option (List ℕ)
  pub writes : ℕ
  pub writes_after : ℕ

abbrev pub FilesFailed : Met → Type 0
FilesFailed run = Rose run.counts.faults run.counts_after.faults

abbrev pub InputFailed : Met → Type 0
InputFailed run = Rose run.reads run.reads_after

abbrev pub OutputFailed : Met → Type 0
OutputFailed run = Rose run.writes run.writes_after

-- all that a replay with these options has shown
pub record IsReplay (options : Options) (run : Met) (status : Status) : Type 0 where
  pub usage : usage_reported status ≡ None
  pub cause : ReplayCause run.contents options run.left run.counts run.counts_after status
  pub input : KeepsInput run.left run.left_after status
  pub whole : status ≡ Done → IsAtEnd run.left_after
  pub replayed : AtDone run.contents run.left status options (λ config dex. IsReplayed config dex run.written run.written_after)
  pub transcript : AtDone run.contents run.left status options (λ config dex. IsTranscript config dex run.written run.written_after)
  pub one_entry : AtDone run.contents run.left status options (λ config dex. HasOneEntryEachText config dex)
  pub histories : AtDone run.contents run.left status options (λ config dex. HasHistories config dex)
  pub hall : AtDone run.contents run.left status options (λ config dex. HallLosesNothing config dex)
  pub two_worlds : AtDone run.contents run.left status options (λ config dex. HasEqualWorlds config dex)
  pub prefix : WritesPrefix run.contents options run.left run.written run.written_after status
  pub bounded : ReadsFew run.left run.left_after
  pub read_fault : status ≡ ReadFault → InputFailed run
  pub write_fault : status ≡ WriteFault → OutputFailed run
  pub complete : Settles run.contents options run.left (FilesFailed run) (InputFailed run) (OutputFailed run) status

-- all that a run has, over what was asked
pub record IsRun (asked : Result Asked ℕ) (run : Met) (status : Status) : Type 0 where
  pub usage : usage_reported status ≡ usage_in asked
  pub cause : IfReplay asked (λ options. ReplayCause run.contents options run.left run.counts run.counts_after status)
  pub input : KeepsInput run.left run.left_after status
  pub whole : IfReplay asked (λ _. status ≡ Done → IsAtEnd run.left_after)
  pub replayed : IfReplay asked (λ options.
      AtDone run.contents run.left status options (λ config dex. IsReplayed config dex run.written run.written_after))
  pub transcript : IfReplay asked (λ options.
      AtDone run.contents run.left status options (λ config dex. IsTranscript config dex run.written run.written_after))
  pub one_entry : IfReplay asked (λ options. AtDone run.contents run.left status options (λ config dex. HasOneEntryEachText config dex))
  pub histories : IfReplay asked (λ options. AtDone run.contents run.left status options (λ config dex. HasHistories config dex))
  pub hall : IfReplay asked (λ options. AtDone run.contents run.left status options (λ config dex. HallLosesNothing config dex))
  pub two_worlds : IfReplay asked (λ options. AtDone run.contents run.left status options (λ config dex. HasEqualWorlds config dex))
  pub check_ends : IfCheck asked (λ words. EndsIfKnown run.contents (λ lookup. CheckEnds lookup words) status)
  pub check_cause : IfCheck asked (λ words. CheckCause (IsNamed words) run.counts run.counts_after status)
  pub check_untouched : IfCheck asked (λ _. run.left_after ≡ run.left)
  pub check_summary : IfCheck asked (λ _. status ≡ Done → Appends run.written run.written_after legal_line)
  pub export_cause : IfExport asked (λ name. ExportCause run.contents name run.counts run.counts_after status)
  pub export_untouched : IfExport asked (λ _. run.left_after ≡ run.left)
  pub export_written : IfExport asked (λ name. status ≡ Done → WritesExport run.contents name run.written run.written_after)
  pub import_cause : IfImport asked (λ name. ImportCause run.contents name run.counts run.counts_after status)
  pub import_untouched : IfImport asked (λ _. run.left_after ≡ run.left)
  pub import_written : IfImport asked (λ name. status ≡ Done → WritesPacked run.contents name run.written run.written_after)
  pub drill_ends : IfDrill asked (λ words. EndsIfKnown run.contents (λ lookup. DrillEnds lookup words.options) status)
  pub drill_cause : IfDrill asked (λ words. DrillCause words.options run.counts run.counts_after status)
  pub drill_untouched : IfDrill asked (λ _. run.left_after ≡ run.left)
  pub drill_summary : IfDrill asked (λ words.
      status ≡ Done → HasSetup run.contents words.options
      (λ config dex. WritesSummary config dex words.steps run.written run.written_after))
  pub tour_ends : IfTour asked (λ words. EndsIfKnown run.contents (λ lookup. TourEnds lookup words.options) status)
  pub tour_cause : IfTour asked (λ words. TourCause words.options run.counts run.counts_after status)
  pub tour_untouched : IfTour asked (λ _. run.left_after ≡ run.left)
  pub tour_played : IfTour asked (λ words. status ≡ Done → HasSetup run.contents words.options (IsTour words run.written run.written_after))
  pub prefix : Writes asked run.contents run.left run.written run.written_after status
  pub bounded : ReadsFew run.left run.left_after
  pub read_fault : status ≡ ReadFault → InputFailed run
  pub write_fault : status ≡ WriteFault → OutputFailed run
  pub complete : IfReplay asked (λ options.
      Settles run.contents options run.left (FilesFailed run) (InputFailed run) (OutputFailed run) status)
  pub complete_check : IfCheck asked (λ words. SettlesCheck run.contents (FilesFailed run) (OutputFailed run) words status)
  pub complete_export : IfExport asked (λ name. SettlesConversion run.contents HasExport (FilesFailed run) (OutputFailed run) name status)
  pub complete_import : IfImport asked (λ name. SettlesConversion run.contents MakesPacked (FilesFailed run) (OutputFailed run) name status)
  pub complete_drill : IfDrill asked (λ words. SettlesDrill run.contents (FilesFailed run) (OutputFailed run) words.options status)
  pub complete_tour : IfTour asked (λ words. SettlesTour run.contents (FilesFailed run) (OutputFailed run) words.options status)
