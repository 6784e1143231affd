-- The words of a command.
use Rattle.std.specs.Prelude.{ℕ, ◌+◌, ◌^◌, Bool, false, not, ◌&&◌, nat_le, nat_lt, ◌≤◌, List, [], ◌∷◌, codes, Option, Some, None}
use Rattle.std.specs.Prelude.{Result, Ok, Err, ◌==◌, if◌then◌else◌}
use Rattle.std.specs.Option.{option_copied}
use Rattle.std.specs.Str.{bytes_eq}
use Rattle.std.specs.Str.Parse.{digits_value}
use Rattle.std.specs.Fmt.{decimal}
use Rattle.ps_base.specs.Numbers.{number_in}
use Rattle.program_commands.specs.declared.words.CheckWords.{CheckWords}
use Rattle.program_commands.specs.declared.words.DrillWords.{DrillWords}
use Rattle.program_commands.specs.declared.words.OptionWords.{OptionWords}
use Rattle.program_commands.specs.declared.words.ServeWords.{ServeWords}
use Rattle.program_commands.specs.declared.words.TourWords.{TourWords}
use Rattle.program_commands.specs.declared.words.Command.{Command}
use Rattle.program_commands.specs.declared.words.Command.TheVariants as commands
use Rattle.ps_base.specs.Characters as characters

-- the files that options name
pub record Options : Type 0 where
  pub dex : Option (List ℕ)
  pub config : Option (List ℕ)

-- what a check is asked for
pub record Checked : Type 0 where
  pub format : List ℕ
  pub team : List ℕ
  pub dex : Option (List ℕ)
  pub config : Option (List ℕ)

-- what a drill is asked for: so many steps, with these files
pub record Drilled : Type 0 where
  pub steps : ℕ
  pub options : Options

-- what a tournament is asked for: so many users, whose order this seed draws, with these files
pub record Toured : Type 0 where
  pub users : ℕ
  pub seed : ℕ
  pub options : Options

-- what a server is asked for: so many connections at an address, with these files
pub record Serves : Type 0 where
  pub address : List ℕ
  pub count : ℕ
  pub options : Options

-- what the words of `run` ask for
pub data Asked : Type 0 where
  Replays : Options → Asked
  Drills : Drilled → Asked
  Checks : Checked → Asked
  Exports : List ℕ → Asked
  Imports : List ℕ → Asked
  Tours : Toured → Asked

-- a word that names something: it isn't empty and doesn't begin with `-`
abbrev pub is_name : List ℕ → Bool
is_name [] = false
is_name (byte ∷ bytes) = not (byte == characters.hyphen)

-- Everywhere here the answer `Err` is the index of the first word that can't stand, counted from 0, or how many words there are
-- where one is missing. The words are those from the index `at` on.

-- the last of the words: one name, and nothing more
abbrev pub last_name : ℕ → List (List ℕ) → Result (List ℕ) ℕ
last_name at [] = Err at
last_name at (name ∷ []) = if is_name name then Ok name else Err at
last_name at (name ∷ more ∷ words) = if is_name name then Err (at + 1) else Err at

-- behind the last option: its name
abbrev pub named : Result (List ℕ) ℕ → Result (Option (List ℕ)) ℕ
named (Ok name) = Ok (Some name)
named (Err at) = Err at

-- one option with its name, or nothing
abbrev pub last_option : List ℕ → ℕ → List (List ℕ) → Result (Option (List ℕ)) ℕ
last_option option at [] = Ok None
last_option option at (word ∷ words) = if bytes_eq word option then named (last_name (at + 1) words) else Err at

-- ---- the options, each at most once, in either order

abbrev pub with_config : Option (List ℕ) → Result (Option (List ℕ)) ℕ → Result Options ℕ
with_config dex (Ok config) = Ok (record { dex = dex; config = config })
with_config dex (Err at) = Err at

abbrev pub with_dex : Option (List ℕ) → Result (Option (List ℕ)) ℕ → Result Options ℕ
with_dex config (Ok dex) = Ok (record { dex = dex; config = config })
with_dex config (Err at) = Err at

-- behind `--dex`: its name, and then `--config` with its own, or nothing
abbrev pub dex_first : ℕ → List (List ℕ) → Result Options ℕ
dex_first at [] = Err at
dex_first at (name ∷ words) = if is_name name then with_config (Some name) (last_option (codes "--config") (at + 1) words) else Err at

-- behind `--config`: its name, and then `--dex` with its own, or nothing
abbrev pub config_first : ℕ → List (List ℕ) → Result Options ℕ
config_first at [] = Err at
config_first at (name ∷ words) = if is_name name then with_dex (Some name) (last_option (codes "--dex") (at + 1) words) else Err at

abbrev pub options_in : ℕ → List (List ℕ) → Result Options ℕ
options_in at [] = Ok (record { dex = None; config = None })
options_in at (word ∷ words) = if bytes_eq word (codes "--dex") then dex_first (at + 1) words else
    (if bytes_eq word (codes "--config") then config_first (at + 1) words else Err at)

-- ---- replay

abbrev pub replays : Result Options ℕ → Result Asked ℕ
replays (Ok options) = Ok (Replays options)
replays (Err at) = Err at

-- behind `replay`: the options
abbrev pub replay_in : List (List ℕ) → Result Asked ℕ
replay_in words = replays (options_in 1 words)

-- ---- drill

abbrev pub most_steps : ℕ
most_steps = 4000

abbrev pub within_steps : Option ℕ → Option ℕ
within_steps None = None
within_steps (Some steps) = if nat_le 1 steps && nat_le steps most_steps then Some steps else None

-- the number of steps, 1 to 4,000, as its one decimal text
abbrev pub steps_in : List ℕ → Option ℕ
steps_in word = within_steps (number_in word)

abbrev pub drills : ℕ → Result Options ℕ → Result Asked ℕ
drills steps (Ok options) = Ok (Drills (record { steps = steps; options = options }))
drills steps (Err at) = Err at

abbrev pub drill_of : Option ℕ → List (List ℕ) → Result Asked ℕ
drill_of None words = Err 1
drill_of (Some steps) words = drills steps (options_in 2 words)

-- behind `drill`: the number of steps
abbrev pub drill_in : List (List ℕ) → Result Asked ℕ
drill_in [] = Err 1
drill_in (number ∷ words) = drill_of (steps_in number) words

-- ---- check

abbrev pub checks : List ℕ → List ℕ → Result Options ℕ → Result Asked ℕ
checks format team (Ok options) = Ok (Checks (record { format = format; team = team; dex = options.dex; config = options.config }))
checks format team (Err at) = Err at

-- behind the format: the team's file
abbrev pub team_in : List ℕ → List (List ℕ) → Result Asked ℕ
team_in format [] = Err 2
team_in format (team ∷ words) = if is_name team then checks format team (options_in 3 words) else Err 2

-- behind `check`: the format
abbrev pub check_in : List (List ℕ) → Result Asked ℕ
check_in [] = Err 1
check_in (format ∷ words) = if is_name format then team_in format words else Err 1

-- ---- export and import: the name of a file

abbrev pub exports : Result (List ℕ) ℕ → Result Asked ℕ
exports (Ok name) = Ok (Exports name)
exports (Err at) = Err at

-- behind `export`: the packed team's file
abbrev pub export_in : List (List ℕ) → Result Asked ℕ
export_in words = exports (last_name 1 words)

abbrev pub imports : Result (List ℕ) ℕ → Result Asked ℕ
imports (Ok name) = Ok (Imports name)
imports (Err at) = Err at

-- behind `import`: the export text's file
abbrev pub import_in : List (List ℕ) → Result Asked ℕ
import_in words = imports (last_name 1 words)

-- ---- tour

abbrev pub most_users : ℕ
most_users = 16

abbrev pub within_users : Option ℕ → Option ℕ
within_users None = None
within_users (Some users) = if nat_le 2 users && nat_le users most_users then Some users else None

-- the number of users, 2 to 16, as its one decimal text
abbrev pub users_in : List ℕ → Option ℕ
users_in word = within_users (number_in word)

-- the seed, a number of 64 bits, as its one decimal text
unfoldable pub seed_in : List ℕ → Option ℕ
seed_in word = if bytes_eq word (decimal (digits_value 10 word))
    && nat_lt (digits_value 10 word) (2 ^ 64) then Some (digits_value 10 word) else None

abbrev pub tours : ℕ → ℕ → Result Options ℕ → Result Asked ℕ
tours users seed (Ok options) = Ok (Tours (record { users = users; seed = seed; options = options }))
tours users seed (Err at) = Err at

abbrev pub tours_with : ℕ → Option ℕ → List (List ℕ) → Result Asked ℕ
tours_with users None words = Err 2
tours_with users (Some seed) words = tours users seed (options_in 3 words)

abbrev pub seeded_in : ℕ → List (List ℕ) → Result Asked ℕ
seeded_in users [] = Err 2
seeded_in users (number ∷ words) = tours_with users (seed_in number) words

abbrev pub tours_of : Option ℕ → List (List ℕ) → Result Asked ℕ
tours_of None words = Err 1
tours_of (Some users) words = seeded_in users words

-- behind `tour`: the number of users, and then the seed
abbrev pub tour_in : List (List ℕ) → Result Asked ℕ
tour_in [] = Err 1
tour_in (number ∷ words) = tours_of (users_in number) words

-- ---- serve

abbrev pub most_count : ℕ
most_count = 1024

abbrev pub within_count : Option ℕ → Option ℕ
within_count None = None
within_count (Some count) = if nat_le 1 count && nat_le count most_count then Some count else None

-- the number of connections, 1 to 1,024, as its one decimal text
abbrev pub count_in : List ℕ → Option ℕ
count_in word = within_count (number_in word)

abbrev pub serves : List ℕ → ℕ → Result Options ℕ → Result Serves ℕ
serves address count (Ok options) = Ok (record { address = address; count = count; options = options })
serves address count (Err at) = Err at

abbrev pub serves_so_many : List ℕ → Option ℕ → List (List ℕ) → Result Serves ℕ
serves_so_many address None words = Err 2
serves_so_many address (Some count) words = serves address count (options_in 3 words)

-- behind the address: the number of connections
abbrev pub counted_in : List ℕ → List (List ℕ) → Result Serves ℕ
counted_in address [] = Err 2
counted_in address (number ∷ words) = serves_so_many address (count_in number) words

-- behind `serve`: the address
abbrev pub serve_in : List (List ℕ) → Result Serves ℕ
serve_in [] = Err 1
serve_in (address ∷ words) = if is_name address then counted_in address words else Err 1

-- ---- all of it

-- the words of `serve`
abbrev pub serve_words_in : List (List ℕ) → Result Serves ℕ
serve_words_in [] = Err 0
serve_words_in (word ∷ words) = if bytes_eq word (codes "serve") then serve_in words else Err 0

-- the words of `run`, which doesn't take `serve`
abbrev pub words_in : List (List ℕ) → Result Asked ℕ
words_in [] = Err 0
words_in (word ∷ words) =
    if bytes_eq word (codes "replay") then replay_in words
    else (if bytes_eq word (codes "drill") then drill_in words
    else (if bytes_eq word (codes "check") then check_in words
    else (if bytes_eq word (codes "export") then export_in words
    else (if bytes_eq word (codes "import") then import_in words
    else (if bytes_eq word (codes "tour") then tour_in words
    else Err 0)))))

-- ---- what holds where the words ask for one of these

abbrev pub IfReplay : Result Asked ℕ → (Options → Type 0) → Type 0
IfReplay (Ok (Replays options)) holds = holds options
IfReplay (Ok (Drills words)) holds = Unit {0}
IfReplay (Ok (Checks words)) holds = Unit {0}
IfReplay (Ok (Exports name)) holds = Unit {0}
IfReplay (Ok (Imports name)) holds = Unit {0}
IfReplay (Ok (Tours words)) holds = Unit {0}
IfReplay (Err at) holds = Unit {0}

abbrev pub IfDrill : Result Asked ℕ → (Drilled → Type 0) → Type 0
IfDrill (Ok (Replays options)) holds = Unit {0}
IfDrill (Ok (Drills words)) holds = holds words
IfDrill (Ok (Checks words)) holds = Unit {0}
IfDrill (Ok (Exports name)) holds = Unit {0}
IfDrill (Ok (Imports name)) holds = Unit {0}
IfDrill (Ok (Tours words)) holds = Unit {0}
IfDrill (Err at) holds = Unit {0}

abbrev pub IfCheck : Result Asked ℕ → (Checked → Type 0) → Type 0
IfCheck (Ok (Replays options)) holds = Unit {0}
IfCheck (Ok (Drills words)) holds = Unit {0}
IfCheck (Ok (Checks words)) holds = holds words
IfCheck (Ok (Exports name)) holds = Unit {0}
IfCheck (Ok (Imports name)) holds = Unit {0}
IfCheck (Ok (Tours words)) holds = Unit {0}
IfCheck (Err at) holds = Unit {0}

abbrev pub IfExport : Result Asked ℕ → (List ℕ → Type 0) → Type 0
IfExport (Ok (Replays options)) holds = Unit {0}
IfExport (Ok (Drills words)) holds = Unit {0}
IfExport (Ok (Checks words)) holds = Unit {0}
IfExport (Ok (Exports name)) holds = holds name
IfExport (Ok (Imports name)) holds = Unit {0}
IfExport (Ok (Tours words)) holds = Unit {0}
IfExport (Err at) holds = Unit {0}

abbrev pub IfImport : Result Asked ℕ → (List ℕ → Type 0) → Type 0
IfImport (Ok (Replays options)) holds = Unit {0}
IfImport (Ok (Drills words)) holds = Unit {0}
IfImport (Ok (Checks words)) holds = Unit {0}
IfImport (Ok (Exports name)) holds = Unit {0}
IfImport (Ok (Imports name)) holds = holds name
IfImport (Ok (Tours words)) holds = Unit {0}
IfImport (Err at) holds = Unit {0}

abbrev pub IfTour : Result Asked ℕ → (Toured → Type 0) → Type 0
IfTour (Ok (Replays options)) holds = Unit {0}
IfTour (Ok (Drills words)) holds = Unit {0}
IfTour (Ok (Checks words)) holds = Unit {0}
IfTour (Ok (Exports name)) holds = Unit {0}
IfTour (Ok (Imports name)) holds = Unit {0}
IfTour (Ok (Tours words)) holds = holds words
IfTour (Err at) holds = Unit {0}

-- ---- for the code: what was read, as contracts see it

abbrev pub options_of : OptionWords → Options
options_of words = record { dex = option_copied words.dex; config = option_copied words.config }

abbrev pub drilled_of : DrillWords → Drilled
drilled_of words = record { steps = words.steps; options = options_of words.options }

abbrev pub toured_of : TourWords → Toured
toured_of words = record { users = words.users; seed = words.seed; options = options_of words.options }

abbrev pub checked_of : CheckWords → Checked
checked_of words = record {
  format = words.format.now;
  team = words.team.now;
  dex = option_copied words.dex;
  config = option_copied words.config;
}

abbrev pub serves_of : ServeWords → Serves
serves_of words = record { address = words.address.now; count = words.count; options = options_of words.options }

abbrev pub asked_of : Command → Asked
asked_of (commands.Replay options) = Replays (options_of options)
asked_of (commands.Drill words) = Drills (drilled_of words)
asked_of (commands.Check words) = Checks (checked_of words)
asked_of (commands.Export name) = Exports name.now
asked_of (commands.Import name) = Imports name.now
asked_of (commands.Tour words) = Tours (toured_of words)

abbrev pub AreUsers : ℕ → Type 0
AreUsers users = (2 ≤ users) × (users ≤ most_users)

-- a drill has at most 4,000 steps, and a tournament 2 to 16 users
abbrev pub HasFewSteps : Command → Type 0
HasFewSteps (commands.Replay options) = Unit {0}
HasFewSteps (commands.Drill words) = words.steps ≤ most_steps
HasFewSteps (commands.Check words) = Unit {0}
HasFewSteps (commands.Export name) = Unit {0}
HasFewSteps (commands.Import name) = Unit {0}
HasFewSteps (commands.Tour words) = AreUsers words.users

-- a server takes 1 to 1,024 connections
abbrev pub IsCount : ℕ → Type 0
IsCount count = (1 ≤ count) × (count ≤ most_count)
