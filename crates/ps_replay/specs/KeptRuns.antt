-- All that a run of a command that keeps notes, or reads them, has shown, over what was asked: for the code alone. `run_kept` states
-- each fact in its own words; here they are one goal for each command.
use Rattle.std.specs.Prelude.{◌≡◌, ℕ, None, Result, Ok, Err}
use Rattle.std.specs.Io.KnownBytes.{IsAtEnd}
use Rattle.replay_script.specs.Limits.{ReadsFew}
use Rattle.program_commands.specs.declared.status.Status.{Status}
use Rattle.program_commands.specs.declared.status.Status.TheVariants.{Done}
use Rattle.program_commands.specs.Words.{Options}
use Rattle.program_commands.specs.KeptWords.{AskedKept, IfArchive, IfStandings}
use Rattle.program_commands.specs.Setups.{usage_in, usage_reported}
use Rattle.ps_replay.specs.Dealings.{MetWithKeeper, IsUntouched}
use Rattle.ps_replay.specs.Archives.{ArchiveEnds, SettlesArchive}
use Rattle.ps_replay.specs.StandingsEnds.{StandingsEnd, SettlesStandings}

-- all that an archive with these options has shown
pub record IsArchive (options : Options) (run : MetWithKeeper) (status : Status) : Type 0 where
  pub usage : usage_reported status ≡ None
  pub ends : ArchiveEnds options run status
  pub whole : status ≡ Done → IsAtEnd run.left_after
  pub bounded : ReadsFew run.left run.left_after
  pub complete : SettlesArchive options run status

-- where the words ask for nothing
abbrev pub IfNothing : Result AskedKept ℕ → Type 0 → Type 0
IfNothing (Ok asked) holds = Unit {0}
IfNothing (Err at) holds = holds

-- all that a run has, over what was asked
pub record IsRunKept (asked : Result AskedKept ℕ) (run : MetWithKeeper) (status : Status) : Type 0 where
  pub usage : usage_reported status ≡ usage_in asked
  pub untouched : IfNothing asked (IsUntouched run)
  pub archived : IfArchive asked (λ words. ArchiveEnds words.options run status)
  pub whole : IfArchive asked (λ _. status ≡ Done → IsAtEnd run.left_after)
  pub stand : IfStandings asked (λ words. StandingsEnd words.format run status)
  pub bounded : ReadsFew run.left run.left_after
  pub complete_archive : IfArchive asked (λ words. SettlesArchive words.options run status)
  pub complete_standings : IfStandings asked (λ _. SettlesStandings run.dealings status)
