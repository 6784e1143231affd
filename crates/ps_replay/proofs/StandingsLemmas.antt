-- What a command that prints standings has shown.
use Rattle.std.proofs.Common.{◌≡◌, ℕ, List, [], ◌++◌, ap, ◌∙◌, subst}
use Rattle.std.specs.List.{flat_map}
use Rattle.ps_base.specs.Ids.{id_of}
use Rattle.ps_keep.specs.declared.note.Note.{Note}
use Rattle.ps_keep.specs.declared.standings.Place.{Place}
use Rattle.ps_keep.specs.Results.{results_in}
use Rattle.ps_keep.specs.Standings.{AreStandings}
use Rattle.program_commands.specs.declared.status.Status.{Status}
use Rattle.program_commands.specs.declared.status.Status.TheVariants.{Done, Usage, FileMissing, FileFault, FileLong, BadDex, BadConfig, BadScript, ScriptLong, ReadFault, WriteFault, BadTeam, NoMemory, DoorFault, UnknownFormat, BadPack, NoTour, KeepFault, KeepFull, BadExport, NoExport}
use Rattle.ps_replay.specs.Dealings.{MetWithKeeper}
use Rattle.ps_replay.specs.StandingsEnds.{place_line, AreLines, StandingsEnd, SettlesStandings}

-- the lines of the standings of a format's id
pub lines_made : (format id : List ℕ) (notes : List Note) (places : List Place) (text start : List ℕ) → id ≡ id_of format
    → AreStandings (results_in id notes) places → start ≡ [] → text ≡ start ++ flat_map place_line places → AreLines format notes text
lines_made format id notes places text start id_is stand none made = record {
  places = places;
  stand = subst (λ (x : List ℕ). AreStandings (results_in x notes) places) id_is stand;
  text_is = made ∙ ap (λ (x : List ℕ). x ++ flat_map place_line places) none;
}

pub standings_settle : (format : List ℕ) (m : MetWithKeeper) (status : Status) → StandingsEnd format m status
    → SettlesStandings m.dealings status
standings_settle format m Done ends = λ _ _ _. tt
standings_settle format m (Usage word) ends = λ _ _ _. ends
standings_settle format m (FileMissing name) ends = λ _ _ _. ends
standings_settle format m (FileFault name) ends = λ _ _ _. ends
standings_settle format m (FileLong name) ends = λ _ _ _. ends
standings_settle format m (BadDex path kind) ends = λ _ _ _. ends
standings_settle format m (BadConfig path kind) ends = λ _ _ _. ends
standings_settle format m (BadScript line kind) ends = λ _ _ _. ends
standings_settle format m (ScriptLong count) ends = λ _ _ _. ends
standings_settle format m ReadFault ends = λ _ _ _. ends
standings_settle format m WriteFault ends = λ write _ _. write ends.2
standings_settle format m (BadTeam set rule subject) ends = λ _ _ _. ends
standings_settle format m NoMemory ends = λ _ _ _. tt
standings_settle format m DoorFault ends = λ _ _ _. ends
standings_settle format m (UnknownFormat id) ends = λ _ _ _. ends
standings_settle format m (BadPack at kind) ends = λ _ _ _. ends
standings_settle format m NoTour ends = λ _ _ _. ends
standings_settle format m KeepFault ends = λ _ keeper _. keeper ends.1
standings_settle format m (KeepFull count) ends = λ _ _ full. full ends.rose
standings_settle format m (BadExport line) ends = λ _ _ _. ends
standings_settle format m (NoExport set) ends = λ _ _ _. ends
