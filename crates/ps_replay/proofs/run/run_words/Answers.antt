use Rattle.std.proofs.Common.{◌≡◌, map, string_bytes, Ok, refl}
use Rattle.program_commands.specs.Words.{Replays, Drills, Checks, Exports, Imports, Tours, words_in, options_of, drilled_of, checked_of, toured_of}
use Rattle.ps_replay.proofs.CommandLemmas.{of_usage, of_replay, of_drill, of_check, of_export, of_import, of_tour}
use Rattle.ps_replay.proofs.run.run_words.Goals as goal

pub returns-in-Err : goal.returns-in-Err
returns-in-Err g c = of_usage _ _ c.in-Err.word c.in-Err.ensures.read refl refl

pub returns-in-Ok-Replay : goal.returns-in-Ok-Replay
returns-in-Ok-Replay g c =
    let is : words_in (map string_bytes c.args.words.now) ≡ Ok (Replays (options_of c.in-Ok-Replay.options)) = rw c.in-Ok-Replay.field-0-is at c.in-Ok-Replay.ensures.read in
    of_replay _ (options_of c.in-Ok-Replay.options) _ c.run_replay.result is c.run_replay.ensures

pub returns-in-Ok-Drill : goal.returns-in-Ok-Drill
returns-in-Ok-Drill g c =
    let is : words_in (map string_bytes c.args.words.now) ≡ Ok (Drills (drilled_of c.in-Ok-Drill.words)) = rw c.in-Ok-Drill.field-0-is at c.in-Ok-Drill.ensures.read in
    of_drill _ (drilled_of c.in-Ok-Drill.words) _ c.drill.result is refl c.drill.ensures.ends c.drill.ensures.cause c.drill.ensures.summary c.drill.ensures.wrote c.drill.ensures.write_fault c.drill.ensures.settles

pub returns-in-Ok-Check : goal.returns-in-Ok-Check
returns-in-Ok-Check g c =
    let is : words_in (map string_bytes c.args.words.now) ≡ Ok (Checks (checked_of c.in-Ok-Check.words)) = rw c.in-Ok-Check.field-0-is at c.in-Ok-Check.ensures.read in
    of_check _ (checked_of c.in-Ok-Check.words) _ c.check.result is refl c.check.ensures.ends c.check.ensures.cause c.check.ensures.wrote c.check.ensures.write_fault c.check.ensures.settles

pub returns-in-Ok-Export : goal.returns-in-Ok-Export
returns-in-Ok-Export g c =
    let is : words_in (map string_bytes c.args.words.now) ≡ Ok (Exports c.in-Ok-Export.name.now) = rw c.in-Ok-Export.field-0-is at c.in-Ok-Export.ensures.read in
    of_export _ c.in-Ok-Export.name.now _ c.export.result is refl c.export.ensures.cause c.export.ensures.wrote c.export.ensures.write_fault c.export.ensures.settles

pub returns-in-Ok-Import : goal.returns-in-Ok-Import
returns-in-Ok-Import g c =
    let is : words_in (map string_bytes c.args.words.now) ≡ Ok (Imports c.in-Ok-Import.name.now) = rw c.in-Ok-Import.field-0-is at c.in-Ok-Import.ensures.read in
    of_import _ c.in-Ok-Import.name.now _ c.import.result is refl c.import.ensures.cause c.import.ensures.wrote c.import.ensures.write_fault c.import.ensures.settles

pub returns-in-Ok-Tour : goal.returns-in-Ok-Tour
returns-in-Ok-Tour g c =
    let is : words_in (map string_bytes c.args.words.now) ≡ Ok (Tours (toured_of c.in-Ok-Tour.words)) = rw c.in-Ok-Tour.field-0-is at c.in-Ok-Tour.ensures.read in
    of_tour _ (toured_of c.in-Ok-Tour.words) _ c.tour.result is refl c.tour.ensures.ends c.tour.ensures.cause c.tour.ensures.played c.tour.ensures.wrote c.tour.ensures.write_fault c.tour.ensures.settles
