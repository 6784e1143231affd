use Rattle.std.proofs.Common.{◌≡◌, map, string_bytes, Ok}
use Rattle.program_commands.specs.KeptWords.{Archives, Stands, kept_words_in, archived_of, stood_of}
use Rattle.ps_replay.proofs.KeptLemmas.{of_archive, of_standings}
use Rattle.ps_replay.proofs.run_kept.run_words.Goals as goal

pub returns-in-Ok-Archive : goal.returns-in-Ok-Archive
returns-in-Ok-Archive g c =
    let is : kept_words_in (map string_bytes c.args.words.now) ≡ Ok (Archives (archived_of c.in-Ok-Archive.words)) =
    rw c.in-Ok-Archive.field-0-is at c.in-Ok-Archive.ensures in
    of_archive _ (archived_of c.in-Ok-Archive.words) _ c.archive.result is c.archive.ensures

pub returns-in-Ok-Standings : goal.returns-in-Ok-Standings
returns-in-Ok-Standings g c =
    let is : kept_words_in (map string_bytes c.args.words.now) ≡ Ok (Stands (stood_of c.in-Ok-Standings.words)) =
    rw c.in-Ok-Standings.field-0-is at c.in-Ok-Standings.ensures in
    of_standings _ (stood_of c.in-Ok-Standings.words) _ c.print_standings.result is c.print_standings.ensures.untouched c.print_standings.ensures.ends
