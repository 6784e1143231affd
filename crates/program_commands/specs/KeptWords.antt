-- The words of a command that keeps notes, or reads them.
use Rattle.std.specs.Prelude.{ℕ, ◌+◌, Bool, false, is_none, List, [], ◌∷◌, map, string_bytes, codes, Option, Some, None, Result, Ok}
use Rattle.std.specs.Prelude.{Err, if◌then◌else◌}
use Rattle.std.specs.Option.{option_copied}
use Rattle.std.specs.Str.{bytes_eq}
use Rattle.program_commands.specs.declared.kept_words.ArchiveWords.{ArchiveWords}
use Rattle.program_commands.specs.declared.kept_words.StandingsWords.{StandingsWords}
use Rattle.program_commands.specs.declared.kept_words.KeptCommand.{KeptCommand}
use Rattle.program_commands.specs.declared.kept_words.KeptCommand.TheVariants as commands
use Rattle.program_commands.specs.declared.kept_words.Names.{Names}
use Rattle.program_commands.specs.declared.kept_words.Reading.{Reading}
use Rattle.program_commands.specs.Words.{Options, is_name, last_name, options_of}

-- what an archive is asked for: these files, and the name of what keeps the notes
pub record Archived : Type 0 where
  pub options : Options
  pub keep : List ℕ

-- what standings are asked for: the format, and the name of what keeps the notes
pub record Stood : Type 0 where
  pub format : List ℕ
  pub keep : List ℕ

-- what the words of `run_kept` ask for
pub data AskedKept : Type 0 where
  Archives : Archived → AskedKept
  Stands : Stood → AskedKept

abbrev pub keep_of : AskedKept → List ℕ
keep_of (Archives words) = words.keep
keep_of (Stands words) = words.keep

-- As in the words of `run`, the answer `Err` is the index of the first word that can't stand, counted from 0, or how many words
-- there are where one is missing.

-- ---- the options of an archive, each at most once, in any order

-- what options have named
pub record Named : Type 0 where
  pub dex : Option (List ℕ)
  pub config : Option (List ℕ)
  pub keep : Option (List ℕ)

-- an option that isn't there yet
abbrev pub may_stand : Named → List ℕ → Bool
may_stand named option =
    if bytes_eq option (codes "--dex") then is_none named.dex
    else (if bytes_eq option (codes "--config") then is_none named.config
    else (if bytes_eq option (codes "--keep") then is_none named.keep
    else false))

abbrev pub with_name : Named → List ℕ → List ℕ → Named
with_name named option name =
    if bytes_eq option (codes "--dex") then record named { dex = Some name }
    else (if bytes_eq option (codes "--config") then record named { config = Some name }
    else record named { keep = Some name })

-- how far they were read: the index of the next word, what they have named, and the words from there on
pub record Place : Type 0 where
  pub at : ℕ
  pub named : Named
  pub words : List (List ℕ)

-- behind an option: its name
abbrev pub name_at : ℕ → Named → List ℕ → List (List ℕ) → Result Place ℕ
name_at at named option [] = Err at
name_at at named option (name ∷ words) = if is_name name then Ok
    (record { at = at + 1; named = with_name named option name; words = words }) else
    Err at

-- the next option, if there are more words
abbrev pub option_at : ℕ → Named → List (List ℕ) → Result Place ℕ
option_at at named [] = Ok (record { at = at; named = named; words = [] })
option_at at named (option ∷ words) = if may_stand named option then name_at (at + 1) named option words else Err at

abbrev pub next_option : Result Place ℕ → Result Place ℕ
next_option (Ok place) = option_at place.at place.named place.words
next_option (Err at) = Err at

-- all three were read, and the one that has to be there is
abbrev pub archive_by : ℕ → Named → Option (List ℕ) → Result AskedKept ℕ
archive_by at named None = Err at
archive_by at named (Some keep) = Ok (Archives (record { options = record { dex = named.dex; config = named.config }; keep = keep }))

abbrev pub archive_if : ℕ → Named → List (List ℕ) → Result AskedKept ℕ
archive_if at named [] = archive_by at named named.keep
archive_if at named (word ∷ words) = Err at

abbrev pub archive_of : Result Place ℕ → Result AskedKept ℕ
archive_of (Ok place) = archive_if place.at place.named place.words
archive_of (Err at) = Err at

abbrev pub no_names : Named
no_names = record { dex = None; config = None; keep = None }

-- behind `archive`: three options at the most
abbrev pub archive_in : List (List ℕ) → Result AskedKept ℕ
archive_in words = archive_of (next_option (next_option (option_at 1 no_names words)))

-- ---- standings

abbrev pub stands : List ℕ → Result (List ℕ) ℕ → Result AskedKept ℕ
stands format (Ok keep) = Ok (Stands (record { format = format; keep = keep }))
stands format (Err at) = Err at

-- behind the format: `--keep` and its name, and nothing more
abbrev pub keep_in : List ℕ → List (List ℕ) → Result AskedKept ℕ
keep_in format [] = Err 2
keep_in format (option ∷ words) = if bytes_eq option (codes "--keep") then stands format (last_name 3 words) else Err 2

-- behind `standings`: the format
abbrev pub standings_in : List (List ℕ) → Result AskedKept ℕ
standings_in [] = Err 1
standings_in (format ∷ words) = if is_name format then keep_in format words else Err 1

-- ---- both

-- the words of `run_kept`
abbrev pub kept_words_in : List (List ℕ) → Result AskedKept ℕ
kept_words_in [] = Err 0
kept_words_in (word ∷ words) =
    if bytes_eq word (codes "archive") then archive_in words
    else (if bytes_eq word (codes "standings") then standings_in words
    else Err 0)

-- ---- what holds where the words ask for one of these

abbrev pub IfArchive : Result AskedKept ℕ → (Archived → Type 0) → Type 0
IfArchive (Ok (Archives words)) holds = holds words
IfArchive (Ok (Stands words)) holds = Unit {0}
IfArchive (Err at) holds = Unit {0}

abbrev pub IfStandings : Result AskedKept ℕ → (Stood → Type 0) → Type 0
IfStandings (Ok (Archives words)) holds = Unit {0}
IfStandings (Ok (Stands words)) holds = holds words
IfStandings (Err at) holds = Unit {0}

-- ---- for the code: what was read, as contracts see it

abbrev pub archived_of : ArchiveWords → Archived
archived_of words = record { options = options_of words.options; keep = words.keep.now }

abbrev pub stood_of : StandingsWords → Stood
stood_of words = record { format = words.format.now; keep = words.keep.now }

abbrev pub asked_kept_of : KeptCommand → AskedKept
asked_kept_of (commands.Archive words) = Archives (archived_of words)
asked_kept_of (commands.Standings words) = Stands (stood_of words)

abbrev pub named_of : Names → Named
named_of names = record { dex = option_copied names.dex; config = option_copied names.config; keep = option_copied names.keep }

abbrev pub place_of : Reading → Place
place_of reading = record { at = reading.at; named = named_of reading.names; words = map string_bytes reading.words.now }
