-- What `show` tells, and how it ends.
use Rattle.std.specs.Prelude.{◌≡◌, ◌⊎◌, ℕ, Bool, List, ◌++◌, Option, Some, None, Result, Ok, Err}
use Rattle.std.specs.Io.KnownBytes.{Appends, Keeps}
use Rattle.ps_base.specs.Ids.{id_of}
use Rattle.ps_outside.specs.Causes.{Rose}
use Rattle.ps_outside.specs.Files.{FileCounts}
use Rattle.ps_outside.specs.Sinks.{AppendsFront}
use Rattle.ps_dex.specs.declared.item.Tables.{Tables}
use Rattle.ps_rules.specs.declared.table.Format.{Format}
use Rattle.ps_rules.specs.Resolve.{format_of}
use Rattle.rules_config.specs.declared.settings.Settings.{Settings}
use Rattle.program_commands.specs.declared.status.Status.{Status}
use Rattle.program_commands.specs.declared.status.Status.TheVariants.{Done, Usage, FileMissing, FileFault, FileLong, BadDex, BadConfig}
use Rattle.program_commands.specs.declared.status.Status.TheVariants.{BadScript, ScriptLong, ReadFault, WriteFault, BadTeam, NoMemory}
use Rattle.program_commands.specs.declared.status.Status.TheVariants.{DoorFault, UnknownFormat, BadPack, NoTour}
use Rattle.program_commands.specs.declared.status.Status.TheVariants.{KeepFault, KeepFull, BadExport, NoExport}
use Rattle.program_commands.specs.Steps.{IsFaultOf, dex_in, config_in}
use Rattle.program_commands.specs.Setups.{Then, Stands, HasSetup}
use Rattle.file_help.specs.declared.page.Section.{Section}
use Rattle.file_help.specs.Pages.{page_of}
use Rattle.program_show.specs.Summary.{IsWhole, of_format, without_secrets}
use Rattle.program_show.specs.Asked.{Asked}

-- ---- what is told

abbrev pub format_or : List ℕ → Option Format → Result (Option Format) Status
format_or id None = Err (UnknownFormat id)
format_or id (Some format) = Ok (Some format)

-- the format of this name or id, if the words name one
abbrev pub chosen : Settings → Option (List ℕ) → Result (Option Format) Status
chosen settings None = Ok None
chosen settings (Some name) = format_or (id_of name) (format_of (id_of name) settings.formats.formats)

-- These sections are told of a format, or of all that both files say but for secrets.
abbrev pub IsToldOf : Tables → Settings → Option Format → List Section → Type 0
IsToldOf dex settings None sections = IsWhole dex (without_secrets settings) sections
IsToldOf dex settings (Some format) sections = sections ≡ of_format dex format

-- these sections are told of what the words ask for
abbrev pub Tells : Tables → Settings → Option (List ℕ) → List Section → Type 0
Tells dex settings name sections = (format : Option Format) × (chosen settings name ≡ Ok format) × IsToldOf dex settings format sections

-- ---- how `show` may end, where the files are known. A file that is there may still fail.

abbrev pub IsWritten : Status → Type 0
IsWritten status = (status ≡ Done) ⊎ (status ≡ WriteFault)

-- from the format on
abbrev pub ToldEnds : Option (List ℕ) → Settings → Status → Type 0
ToldEnds name settings status = Then (chosen settings name) (λ format st. IsWritten st) status

-- from the configuration on
abbrev pub OverDexEnds : (List ℕ → Option (List ℕ)) → Asked → Tables → Status → Type 0
OverDexEnds lookup asked dex status =
    IsFaultOf asked.options.config status ⊎ Then (config_in lookup dex asked.options.config) (ToldEnds asked.format) status

-- from the dex on, which is all
abbrev pub ShowEnds : (List ℕ → Option (List ℕ)) → Asked → Status → Type 0
ShowEnds lookup asked status =
    IsFaultOf asked.options.dex status ⊎ Then (dex_in lookup asked.options.dex) (OverDexEnds lookup asked) status

-- The statuses, and what has shown each. A status of a file names one that the words name, and its count rose.
abbrev pub ShowCause : (List ℕ → Type 0) → FileCounts → FileCounts → Status → Type 0
ShowCause named old new Done = Unit {0}
ShowCause named old new (FileMissing name) = named name × Rose old.missing new.missing
ShowCause named old new (FileFault name) = named name × Rose old.faults new.faults
ShowCause named old new (FileLong name) = named name × Rose old.long new.long
ShowCause named old new (BadDex path kind) = Unit {0}
ShowCause named old new (BadConfig path kind) = Unit {0}
ShowCause named old new WriteFault = Unit {0}
ShowCause named old new NoMemory = Unit {0}
ShowCause named old new (UnknownFormat id) = Unit {0}
ShowCause named old new (Usage word) = ⊥
ShowCause named old new (BadScript line kind) = ⊥
ShowCause named old new (ScriptLong count) = ⊥
ShowCause named old new ReadFault = ⊥
ShowCause named old new (BadTeam set rule subject) = ⊥
ShowCause named old new DoorFault = ⊥
ShowCause named old new (BadPack at kind) = ⊥
ShowCause named old new NoTour = ⊥
ShowCause named old new KeepFault = ⊥
ShowCause named old new (KeepFull count) = ⊥
ShowCause named old new (BadExport line) = ⊥
ShowCause named old new (NoExport set) = ⊥

-- ---- what was written

-- a page that begins with these sections, and has others behind them, which help and of which nothing is said
pub record IsPage (as_json : Bool) (sections : List Section) (old new : Option (List ℕ)) : Type 0 where
  pub help : List Section
  pub wrote : Appends old new (page_of as_json (sections ++ help))

-- a front of some page
pub record IsPageFront (as_json : Bool) (old new : Option (List ℕ)) : Type 0 where
  pub sections : List Section
  pub front : AppendsFront old new (page_of as_json sections)

-- at a fault of a file a page that helps, or a front of it, and nothing at another status
abbrev pub TellsFault : Bool → Option (List ℕ) → Option (List ℕ) → Status → Type 0
TellsFault as_json old new (BadDex path kind) = IsPageFront as_json old new
TellsFault as_json old new (BadConfig path kind) = IsPageFront as_json old new
TellsFault as_json old new other = Keeps old new

-- At Done it is a page of what is told.
abbrev pub WritesShown : (List Section → Type 0) → Bool → Option (List ℕ) → Option (List ℕ) → Status → Type 0
WritesShown is_told as_json old new Done = (sections : List Section) × is_told sections × IsPage as_json sections old new
WritesShown is_told as_json old new WriteFault = IsPageFront as_json old new
WritesShown is_told as_json old new other = TellsFault as_json old new other

-- these sections are told over a dex, of a configuration that the words and the files give
abbrev pub IsToldOver : Option (List ℕ → Option (List ℕ)) → Asked → Tables → List Section → Type 0
IsToldOver contents asked dex sections =
    (settings : Settings)
    × Stands contents asked.options.config (λ lookup. config_in lookup dex asked.options.config) settings
    × Tells dex settings asked.format sections

-- these sections are told of the dex and the configuration that the words and the files give
abbrev pub IsTold : Option (List ℕ → Option (List ℕ)) → Asked → List Section → Type 0
IsTold contents asked sections = HasSetup contents asked.options (λ settings dex. Tells dex settings asked.format sections)

-- ---- for the code alone

-- at a fault of a file it is read again, and else no file is
abbrev pub CountsAfter : FileCounts → FileCounts → Status → Type 0
CountsAfter old new (BadDex path kind) = Unit {0}
CountsAfter old new (BadConfig path kind) = Unit {0}
CountsAfter old new other = new ≡ old

-- how the sections were written
abbrev pub WritesPage : Bool → List Section → Option (List ℕ) → Option (List ℕ) → Status → Type 0
WritesPage as_json sections old new Done = Appends old new (page_of as_json sections)
WritesPage as_json sections old new WriteFault = AppendsFront old new (page_of as_json sections)
WritesPage as_json sections old new NoMemory = Keeps old new
WritesPage as_json sections old new other = ⊥

-- how they were written with others behind them
abbrev pub WritesMore : Bool → List Section → Option (List ℕ) → Option (List ℕ) → Status → Type 0
WritesMore as_json sections old new Done = IsPage as_json sections old new
WritesMore as_json sections old new WriteFault = IsPageFront as_json old new
WritesMore as_json sections old new NoMemory = Keeps old new
WritesMore as_json sections old new other = ⊥
