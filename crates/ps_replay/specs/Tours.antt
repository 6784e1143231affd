-- The script of a tournament, what is written of it, and how it ends.
use Rattle.std.specs.Prelude.{◌≡◌, ◌⊎◌, ℕ, zero, suc, ◌==◌, List, [], ◌∷◌, ◌++◌, Option, Some, None, if◌then◌else◌}
use Rattle.std.specs.Option.{option_map}
use Rattle.std.specs.Io.KnownBytes.{Appends, Keeps}
use Rattle.ps_outside.specs.Causes.{Rose}
use Rattle.ps_outside.specs.Files.{FileCounts}
use Rattle.ps_outside.specs.Sinks.{AppendsFront}
use Rattle.ps_dex.specs.declared.item.Tables.{Tables}
use Rattle.rules_config.specs.declared.settings.Settings.{Settings}
use Rattle.ps_room.specs.declared.outcome.Ending.{Ending}
use Rattle.ps_tour.specs.Brackets.{open_match}
use Rattle.replay_script.specs.declared.item.Item.{Item}
use Rattle.replay_state.specs.Setup.{Setup, setup_of}
use Rattle.replay_state.specs.Entries.{Run, run_opening, state_of, end_at, run_after, run_past}
use Rattle.replay_state.specs.Transcript.{output}
use Rattle.replay_state.specs.Tables.{Desk, desk_of, text_from}
use Rattle.replay_state.specs.TwoWorlds.{HasEqualBlocks}
use Rattle.replay_drill.specs.declared.fight.Fight.{Fight}
use Rattle.replay_tour.specs.declared.battle_end.BattleEnd.{BattleEnd}
use Rattle.replay_tour.specs.declared.battle_end.BattleEnd.TheVariants.{FirstWon, SecondWon, Tied}
use Rattle.replay_tour.specs.Entrants.{entering}
use Rattle.replay_tour.specs.Tours.{Tour, begun, next_line, past}
use Rattle.replay_tour.specs.Results.{result_text, IsDecidedTour}
use Rattle.program_commands.specs.declared.status.Status.{Status}
use Rattle.program_commands.specs.declared.status.Status.TheVariants.{Done, Usage, FileMissing, FileFault, FileLong, BadDex}
use Rattle.program_commands.specs.declared.status.Status.TheVariants.{BadConfig, BadScript, ScriptLong, ReadFault, WriteFault}
use Rattle.program_commands.specs.declared.status.Status.TheVariants.{BadTeam, NoMemory, DoorFault, UnknownFormat, BadPack, NoTour}
use Rattle.program_commands.specs.declared.status.Status.TheVariants.{KeepFault, KeepFull, BadExport, NoExport}
use Rattle.program_commands.specs.Words.{Options, Toured}
use Rattle.program_commands.specs.Steps.{IsFaultOf, dex_in, config_in}
use Rattle.program_commands.specs.Setups.{HasSetup, IsOption, AreGood, IsSettled, Then}
use Rattle.program_commands.specs.Fields.{HasField, HasNoField}

-- ---- the script: each line is the tournament's next one, as the lines before it left the world

-- by the side that won: the first of the two who meet is side 0
abbrev pub end_with : Option ℕ → BattleEnd
end_with None = Tied
end_with (Some side) = if side == 0 then FirstWon else SecondWon

-- how a battle ended, by the two who meet in it
abbrev pub battle_end : Ending → BattleEnd
battle_end ending = end_with ending.winner

-- how a battle ends at a line, if one does
abbrev pub end_of : Run → Item → Option BattleEnd
end_of run item = option_map battle_end (end_at (state_of run) item)

-- a line, and what follows it, which `later` says
abbrev pub line_with : (Tour → Run → List Item) → Tour → Run → Option Item → List Item
line_with later tour run None = []
line_with later tour run (Some item) = item ∷ later (past (end_of run item) tour) (run_after run item)

-- at most so many lines, whose battles are of this format
abbrev pub lines_from : ℕ → List ℕ → Tour → Run → List Item
lines_from zero format tour run = []
lines_from (suc most) format tour run = line_with (lines_from most format) tour run (next_line format tour)

-- Far more than there are: a battle has a thousand turns at the most.
unfoldable pub most_lines : ℕ
most_lines = 100000

-- no line of a tournament gives a rank, so what it stands on is what no line stands on
abbrev pub tour_start : Settings → Tables → Run
tour_start config dex = run_opening (setup_of config dex [])

-- what the users' entering leaves
abbrev pub entered : Settings → Tables → Fight → Toured → Run
entered config dex fight words = run_past (tour_start config dex) (entering config fight.team words.users)

-- the lines of all matches
abbrev pub match_lines : Settings → Tables → Fight → Toured → List Item
match_lines config dex fight words = lines_from most_lines fight.format (begun words.users words.seed) (entered config dex fight words)

-- The users enter, and then the matches are played, one after the other.
abbrev pub tour_script : Settings → Tables → Fight → Toured → List Item
tour_script config dex fight words = entering config fight.team words.users ++ match_lines config dex fight words

-- ---- what comes of it

-- a tournament after these lines
abbrev pub played : Tour → Run → List Item → Tour
played tour run [] = tour
played tour run (item ∷ items) = played (past (end_of run item) tour) (run_after run item) items

-- after all of them
abbrev pub tour_end : Settings → Tables → Fight → Toured → Tour
tour_end config dex fight words =
    played (begun words.users words.seed) (entered config dex fight words) (match_lines config dex fight words)

-- the transcript of the script, and behind it who beat whom, match by match, and the champion
abbrev pub tour_output : Settings → Tables → Fight → Toured → List ℕ
tour_output config dex fight words =
    output (setup_of config dex (tour_script config dex fight words)) (tour_script config dex fight words)
    ++ result_text (tour_end config dex fight words)

-- ---- what was written

-- at Done: all of it, and nothing else
pub record IsTour (words : Toured) (old new : Option (List ℕ)) (config : Settings) (dex : Tables) : Type 0 where
  pub fight : Fight
  pub field : HasField config dex fight
  pub wrote : Appends old new (tour_output config dex fight words)
  pub decided : IsDecidedTour words.users (tour_end config dex fight words)
  -- a connection's block from a place is its view under each script whose world there is the same to it
  pub two_worlds : HasEqualBlocks config dex (tour_script config dex fight words)

-- a front of it
pub record WritesFrontOfTour (words : Toured) (old new : Option (List ℕ)) (config : Settings) (dex : Tables) : Type 0 where
  pub fight : Fight
  pub field : HasField config dex fight
  pub front : AppendsFront old new (tour_output config dex fight words)

-- at a status other than Done
abbrev pub WritesTour : Option (List ℕ → Option (List ℕ)) → Toured → Option (List ℕ) → Option (List ℕ) → Status → Type 0
WritesTour contents words old new Done = Unit {0}
WritesTour contents words old new WriteFault = HasSetup contents words.options (WritesFrontOfTour words old new)
WritesTour contents words old new NoMemory = Keeps old new ⊎ HasSetup contents words.options (WritesFrontOfTour words old new)
WritesTour contents words old new (Usage word) = Keeps old new
WritesTour contents words old new (FileMissing name) = Keeps old new
WritesTour contents words old new (FileFault name) = Keeps old new
WritesTour contents words old new (FileLong name) = Keeps old new
WritesTour contents words old new (BadDex path kind) = Keeps old new
WritesTour contents words old new (BadConfig path kind) = Keeps old new
WritesTour contents words old new (BadScript line kind) = Keeps old new
WritesTour contents words old new (ScriptLong count) = Keeps old new
WritesTour contents words old new ReadFault = Keeps old new
WritesTour contents words old new (BadTeam set rule subject) = Keeps old new
WritesTour contents words old new DoorFault = Keeps old new
WritesTour contents words old new (UnknownFormat id) = Keeps old new
WritesTour contents words old new (BadPack at kind) = Keeps old new
WritesTour contents words old new NoTour = Keeps old new
WritesTour contents words old new KeepFault = Keeps old new
WritesTour contents words old new (KeepFull count) = Keeps old new
WritesTour contents words old new (BadExport line) = Keeps old new
WritesTour contents words old new (NoExport set) = Keeps old new

-- ---- How a tournament may end, where the files are known. A file that is there may still fail.

-- under a configuration and a dex
abbrev pub FieldEnds : Tables → Settings → Status → Type 0
FieldEnds dex config Done = (fight : Fight) × HasField config dex fight
FieldEnds dex config WriteFault = (fight : Fight) × HasField config dex fight
FieldEnds dex config NoTour = HasNoField config dex
FieldEnds dex config (Usage word) = ⊥
FieldEnds dex config (FileMissing name) = ⊥
FieldEnds dex config (FileFault name) = ⊥
FieldEnds dex config (FileLong name) = ⊥
FieldEnds dex config (BadDex path kind) = ⊥
FieldEnds dex config (BadConfig path kind) = ⊥
FieldEnds dex config (BadScript line kind) = ⊥
FieldEnds dex config (ScriptLong count) = ⊥
FieldEnds dex config ReadFault = ⊥
FieldEnds dex config (BadTeam set rule subject) = ⊥
FieldEnds dex config NoMemory = ⊥
FieldEnds dex config DoorFault = ⊥
FieldEnds dex config (UnknownFormat id) = ⊥
FieldEnds dex config (BadPack at kind) = ⊥
FieldEnds dex config KeepFault = ⊥
FieldEnds dex config (KeepFull count) = ⊥
FieldEnds dex config (BadExport line) = ⊥
FieldEnds dex config (NoExport set) = ⊥

-- from the configuration on
abbrev pub SettingsEnd : (List ℕ → Option (List ℕ)) → Options → Tables → Status → Type 0
SettingsEnd lookup options dex status = IsFaultOf options.config status ⊎ Then (config_in lookup dex options.config) (FieldEnds dex) status

-- from the dex on, which is all
abbrev pub TourEnds : (List ℕ → Option (List ℕ)) → Options → Status → Type 0
TourEnds lookup options status = IsFaultOf options.dex status ⊎ Then (dex_in lookup options.dex) (SettingsEnd lookup options) status

-- The statuses of a tournament, and what has shown each. A status of a file names one of the words' files, and its count rose.
abbrev pub TourCause : Options → FileCounts → FileCounts → Status → Type 0
TourCause options old new Done = Unit {0}
TourCause options old new (Usage word) = ⊥
TourCause options old new (FileMissing name) = IsOption options name × Rose old.missing new.missing
TourCause options old new (FileFault name) = IsOption options name × Rose old.faults new.faults
TourCause options old new (FileLong name) = IsOption options name × Rose old.long new.long
TourCause options old new (BadDex path kind) = Unit {0}
TourCause options old new (BadConfig path kind) = Unit {0}
TourCause options old new (BadScript line kind) = ⊥
TourCause options old new (ScriptLong count) = ⊥
TourCause options old new ReadFault = ⊥
TourCause options old new WriteFault = Unit {0}
TourCause options old new (BadTeam set rule subject) = ⊥
TourCause options old new NoMemory = Unit {0}
TourCause options old new DoorFault = ⊥
TourCause options old new (UnknownFormat id) = ⊥
TourCause options old new (BadPack at kind) = ⊥
TourCause options old new NoTour = Unit {0}
TourCause options old new KeepFault = ⊥
TourCause options old new (KeepFull count) = ⊥
TourCause options old new (BadExport line) = ⊥
TourCause options old new (NoExport set) = ⊥

-- the words' files are known and good, and there is somebody to play
pub record HasGoodField (contents : Option (List ℕ → Option (List ℕ))) (options : Options) : Type 0 where
  pub files : AreGood contents options
  pub fight : Fight
  pub field : HasField files.config files.dex fight

-- that, with no fault of the files or the sink, settles a tournament
pub record SettlesTour (contents : Option (List ℕ → Option (List ℕ))) (file_fault write_fault : Type 0) (options : Options)
    (status : Status) : Type 0 where
  pub settled : HasGoodField contents options → (file_fault → ⊥) → (write_fault → ⊥) → IsSettled status

-- ---- for the code alone

-- From a state on these lines were played, and then those of the tournament, which is over.
pub record PlaysLines (items : List Item) (most : ℕ) (format : List ℕ) (before after : Tour) (desk : Desk)
    (old new : Option (List ℕ)) : Type 0 where
  pub wrote : (run : Run) → desk ≡ desk_of run
      → Appends old new (text_from desk (items ++ lines_from most format before (run_past run items)))
  pub after_is : (run : Run) → desk ≡ desk_of run
      → after ≡ played before (run_past run items) (lines_from most format before (run_past run items))
  pub over : open_match after.round ≡ None

-- a front of their transcript was written
pub record PlaysFront (items : List Item) (most : ℕ) (format : List ℕ) (before : Tour) (desk : Desk)
    (old new : Option (List ℕ)) : Type 0 where
  pub front : (run : Run) → desk ≡ desk_of run
      → AppendsFront old new (text_from desk (items ++ lines_from most format before (run_past run items)))

-- a status that the files have no part in: what it says of the configuration and the dex, and what was written at it
abbrev pub PlaysTour : Toured → Option (List ℕ) → Option (List ℕ) → Settings → Tables → Status → Type 0
PlaysTour words old new config dex Done = IsTour words old new config dex
PlaysTour words old new config dex WriteFault = WritesFrontOfTour words old new config dex
PlaysTour words old new config dex NoMemory = Keeps old new ⊎ WritesFrontOfTour words old new config dex
PlaysTour words old new config dex NoTour = Keeps old new × HasNoField config dex
PlaysTour words old new config dex (Usage word) = ⊥
PlaysTour words old new config dex (FileMissing name) = ⊥
PlaysTour words old new config dex (FileFault name) = ⊥
PlaysTour words old new config dex (FileLong name) = ⊥
PlaysTour words old new config dex (BadDex path kind) = ⊥
PlaysTour words old new config dex (BadConfig path kind) = ⊥
PlaysTour words old new config dex (BadScript line kind) = ⊥
PlaysTour words old new config dex (ScriptLong count) = ⊥
PlaysTour words old new config dex ReadFault = ⊥
PlaysTour words old new config dex (BadTeam set rule subject) = ⊥
PlaysTour words old new config dex DoorFault = ⊥
PlaysTour words old new config dex (UnknownFormat id) = ⊥
PlaysTour words old new config dex (BadPack at kind) = ⊥
PlaysTour words old new config dex KeepFault = ⊥
PlaysTour words old new config dex (KeepFull count) = ⊥
PlaysTour words old new config dex (BadExport line) = ⊥
PlaysTour words old new config dex (NoExport set) = ⊥
