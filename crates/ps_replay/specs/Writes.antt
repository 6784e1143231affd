-- What was written, by what the words ask for.
use Rattle.std.specs.Prelude.{ℕ, List, Option, Result, Ok, Err}
use Rattle.std.specs.Io.KnownBytes.{Keeps}
use Rattle.program_commands.specs.declared.status.Status.{Status}
use Rattle.program_commands.specs.Words.{Asked, Replays, Drills, Checks, Exports, Imports, Tours}
use Rattle.program_commands.specs.Checks.{WritesLegal}
use Rattle.program_commands.specs.Conversions.{MakesExport, MakesPacked, WritesConversion}
use Rattle.ps_replay.specs.Outcomes.{WritesPrefix}
use Rattle.ps_replay.specs.Drills.{WritesDrill}
use Rattle.ps_replay.specs.Tours.{WritesTour}

-- at a status other than Done; of a check, an export or an import, at Done too
abbrev pub Writes : Result Asked ℕ → Option (List ℕ → Option (List ℕ)) → Option (List ℕ) → Option (List ℕ) → Option (List ℕ) → Status
    → Type 0
Writes (Ok (Replays options)) contents left old new status = WritesPrefix contents options left old new status
Writes (Ok (Drills words)) contents left old new status = WritesDrill contents words old new status
Writes (Ok (Checks words)) contents left old new status = WritesLegal old new status
Writes (Ok (Exports name)) contents left old new status = WritesConversion contents name MakesExport old new status
Writes (Ok (Imports name)) contents left old new status = WritesConversion contents name MakesPacked old new status
Writes (Ok (Tours words)) contents left old new status = WritesTour contents words old new status
Writes (Err at) contents left old new status = Keeps old new
