-- What each command with a keeper has shown is what a run has, where the words ask for it.
use Rattle.std.proofs.Common.{◌≡◌, ℕ, Result, Ok, sym, subst}
use Rattle.program_commands.specs.declared.status.Status.{Status}
use Rattle.program_commands.specs.KeptWords.{AskedKept, Archives, Stands, Archived, Stood}
use Rattle.ps_replay.specs.Dealings.{MetWithKeeper}
use Rattle.ps_replay.specs.StandingsEnds.{StandingsEnd}
use Rattle.ps_replay.specs.KeptRuns.{IsArchive, IsRunKept}
use Rattle.ps_replay.proofs.CommandLemmas.{few_read, no_usage}
use Rattle.ps_replay.proofs.StandingsLemmas.{standings_settle}

pub of_archive : (asked : Result AskedKept ℕ) (words : Archived) (m : MetWithKeeper) (status : Status) → asked ≡ Ok (Archives words)
    → IsArchive words.options m status → IsRunKept asked m status
of_archive asked words m status is has = subst (λ (x : Result AskedKept ℕ). IsRunKept x m status) (sym is) (record {
  usage = has.usage;
  untouched = tt;
  archived = has.ends;
  whole = has.whole;
  stand = tt;
  bounded = has.bounded;
  complete_archive = has.complete;
  complete_standings = tt;
})

pub of_standings : (asked : Result AskedKept ℕ) (words : Stood) (m : MetWithKeeper) (status : Status) → asked ≡ Ok (Stands words)
    → m.left_after ≡ m.left → StandingsEnd words.format m status → IsRunKept asked m status
of_standings asked words m status is same ends = subst (λ (x : Result AskedKept ℕ). IsRunKept x m status) (sym is) (record {
  usage = no_usage (StandingsEnd words.format m) status (λ word wrong. wrong) ends;
  untouched = tt;
  archived = tt;
  whole = tt;
  stand = ends;
  bounded = few_read m.left m.left_after same;
  complete_archive = tt;
  complete_standings = standings_settle words.format m status ends;
})
