-- What the files of a command give, and what is reported of them.
use Rattle.std.specs.Prelude.{◌≡◌, ◌⊎◌, ℕ, ◌<◌, List, length, Option, Some, None, IfSome, Result, Ok, Err}
use Rattle.std.specs.Option.{IsSomeAnd}
use Rattle.ps_outside.specs.Causes.{Rose}
use Rattle.ps_outside.specs.Files.{FileCounts}
use Rattle.ps_outside.specs.declared.files.FileEnd.{FileEnd}
use Rattle.ps_outside.specs.declared.files.FileEnd.TheVariants as file_ends
use Rattle.ps_dex.specs.declared.item.Tables.{Tables}
use Rattle.rules_config.specs.declared.settings.Settings.{Settings}
use Rattle.program_commands.specs.declared.status.Status.{Status}
use Rattle.program_commands.specs.declared.status.Status.TheVariants.{Done, Usage, FileMissing, FileFault, FileLong, BadDex}
use Rattle.program_commands.specs.declared.status.Status.TheVariants.{BadConfig, BadScript, ScriptLong, ReadFault, WriteFault}
use Rattle.program_commands.specs.declared.status.Status.TheVariants.{BadTeam, NoMemory, DoorFault, UnknownFormat, BadPack, NoTour}
use Rattle.program_commands.specs.declared.status.Status.TheVariants.{KeepFault, KeepFull, BadExport, NoExport}
use Rattle.program_commands.specs.Words.{Options, words_in, serve_words_in}
use Rattle.program_commands.specs.Steps.{IsFaultOf, dex_in, config_in}

-- ---- the words

-- the index of the first word that can't stand, where what was asked isn't read
abbrev pub usage_in : {A : Type 0} → Result A ℕ → Option ℕ
usage_in (Ok asked) = None
usage_in (Err word) = Some word

-- the index that is reported of a faulty word of `run`
abbrev pub usage_of : List (List ℕ) → Option ℕ
usage_of words = usage_in (words_in words)

-- and of `serve`
abbrev pub serve_usage_of : List (List ℕ) → Option ℕ
serve_usage_of words = usage_in (serve_words_in words)

abbrev pub usage_reported : Status → Option ℕ
usage_reported (Usage word) = Some word
usage_reported Done = None
usage_reported (FileMissing name) = None
usage_reported (FileFault name) = None
usage_reported (FileLong name) = None
usage_reported (BadDex path kind) = None
usage_reported (BadConfig path kind) = None
usage_reported (BadScript line kind) = None
usage_reported (ScriptLong count) = None
usage_reported ReadFault = None
usage_reported WriteFault = None
usage_reported (BadTeam set rule subject) = None
usage_reported NoMemory = None
usage_reported DoorFault = None
usage_reported (UnknownFormat id) = None
usage_reported (BadPack at kind) = None
usage_reported NoTour = None
usage_reported KeepFault = None
usage_reported (KeepFull count) = None
usage_reported (BadExport line) = None
usage_reported (NoExport set) = None

-- ---- what a command stands on

-- A step has this value: where it names no file, whatever files there are, and else where they are told.
abbrev pub Stands : {A : Type 0} → Option (List ℕ → Option (List ℕ)) → Option (List ℕ)
    → ((List ℕ → Option (List ℕ)) → Result A Status) → A → Type 0
Stands contents None step value = (lookup : List ℕ → Option (List ℕ)) → step lookup ≡ Ok value
Stands contents (Some name) step value = IfSome contents (λ lookup. step lookup ≡ Ok value)

-- this dex, and this configuration over it
pub record IsSetUp (contents : Option (List ℕ → Option (List ℕ))) (options : Options) (config : Settings) (dex : Tables) : Type 0 where
  pub dex_is : Stands contents options.dex (λ lookup. dex_in lookup options.dex) dex
  pub config_is : Stands contents options.config (λ lookup. config_in lookup dex options.config) config

-- of a configuration and a dex that the words and the files give
abbrev pub HasSetup : Option (List ℕ → Option (List ℕ)) → Options → (Settings → Tables → Type 0) → Type 0
HasSetup contents options says = (config : Settings) × (dex : Tables) × IsSetUp contents options config dex × says config dex

abbrev pub IsGood : Settings → Tables → Type 0
IsGood config dex = Unit {0}

-- a file stopped the command: where the files are known, this is the status of the dex, or of the configuration over it
abbrev pub IsStopOf : {A : Type 0} → Option (List ℕ) → Result A Status → Status → Type 0
IsStopOf named step status = IsFaultOf named status ⊎ (step ≡ Err status)

pub record StopsAtConfig (options : Options) (lookup : List ℕ → Option (List ℕ)) (status : Status) : Type 0 where
  pub dex : Tables
  pub dex_is : dex_in lookup options.dex ≡ Ok dex
  pub stop : IsStopOf options.config (config_in lookup dex options.config) status

abbrev pub Stops : Option (List ℕ → Option (List ℕ)) → Options → Status → Type 0
Stops contents options status = IfSome contents
    (λ lookup. IsStopOf options.dex (dex_in lookup options.dex) status ⊎ StopsAtConfig options lookup status)

-- the words name the file
abbrev pub IsOption : Options → List ℕ → Type 0
IsOption options name = (options.dex ≡ Some name) ⊎ (options.config ≡ Some name)

-- ---- how a command ends, step by step

-- a step that ends in a status ends the command, and else what follows on its value does
abbrev pub Then : {A : Type 0} → Result A Status → (A → Status → Type 0) → Status → Type 0
Then (Ok value) next status = next value status
Then (Err ended) next status = status ≡ ended

-- it ends so, if the files are known; out of memory may end it anywhere
abbrev pub EndsIfKnown : Option (List ℕ → Option (List ℕ)) → ((List ℕ → Option (List ℕ)) → Status → Type 0) → Status → Type 0
EndsIfKnown contents ends status = (status ≡ NoMemory) ⊎ IfSome contents (λ lookup. ends lookup status)

-- ---- completeness

-- Done or NoMemory
abbrev pub IsSettled : Status → Type 0
IsSettled Done = Unit {0}
IsSettled (Usage word) = ⊥
IsSettled (FileMissing name) = ⊥
IsSettled (FileFault name) = ⊥
IsSettled (FileLong name) = ⊥
IsSettled (BadDex path kind) = ⊥
IsSettled (BadConfig path kind) = ⊥
IsSettled (BadScript line kind) = ⊥
IsSettled (ScriptLong count) = ⊥
IsSettled ReadFault = ⊥
IsSettled WriteFault = ⊥
IsSettled (BadTeam set rule subject) = ⊥
IsSettled NoMemory = Unit {0}
IsSettled DoorFault = ⊥
IsSettled (UnknownFormat id) = ⊥
IsSettled (BadPack at kind) = ⊥
IsSettled NoTour = ⊥
IsSettled KeepFault = ⊥
IsSettled (KeepFull count) = ⊥
IsSettled (BadExport line) = ⊥
IsSettled (NoExport set) = ⊥

-- a step has this value, where it names no file, or the files are known
abbrev pub IsKnown : {A : Type 0} → Option (List ℕ → Option (List ℕ)) → Option (List ℕ)
    → ((List ℕ → Option (List ℕ)) → Result A Status) → A → Type 0
IsKnown contents None step value = (lookup : List ℕ → Option (List ℕ)) → step lookup ≡ Ok value
IsKnown contents (Some name) step value = IsSomeAnd contents (λ lookup. step lookup ≡ Ok value)

-- the words' files are known and good
pub record AreGood (contents : Option (List ℕ → Option (List ℕ))) (options : Options) : Type 0 where
  pub dex : Tables
  pub dex_is : IsKnown contents options.dex (λ lookup. dex_in lookup options.dex) dex
  pub config : Settings
  pub config_is : IsKnown contents options.config (λ lookup. config_in lookup dex options.config) config

-- ---- what the steps of a command answer: for the code alone

-- a step gave this value, where the files are known
abbrev pub Gave : {A : Type 0} → Option (List ℕ → Option (List ℕ)) → ((List ℕ → Option (List ℕ)) → Result A Status) → A → Type 0
Gave contents step value = IfSome contents (λ lookup. step lookup ≡ Ok value)

-- a step ended a command: it ran out of memory, its file failed, or it gives the status
abbrev pub Ended : {A : Type 0} → Option (List ℕ → Option (List ℕ)) → Option (List ℕ) → ((List ℕ → Option (List ℕ)) → Result A Status)
    → Status → Type 0
Ended contents named step status = (status ≡ NoMemory) ⊎ IfSome contents (λ lookup. IsFaultOf named status ⊎ (step lookup ≡ Err status))

-- why a file of a name wasn't read
abbrev pub NoFile : List ℕ → ℕ → Option (List ℕ → Option (List ℕ)) → FileCounts → FileCounts → Status → Type 0
NoFile name limit contents old new (FileMissing reported) = (reported ≡ name) × IfSome contents (λ lookup. lookup name ≡ None)
    × Rose old.missing new.missing
NoFile name limit contents old new (FileFault reported) = (reported ≡ name) × Rose old.faults new.faults
NoFile name limit contents old new (FileLong reported) = (reported ≡ name)
    × IfSome contents (λ lookup. IsSomeAnd (lookup name) (λ bytes. limit < length bytes)) × Rose old.long new.long
NoFile name limit contents old new NoMemory = Unit {0}
NoFile name limit contents old new Done = ⊥
NoFile name limit contents old new (Usage word) = ⊥
NoFile name limit contents old new (BadDex path kind) = ⊥
NoFile name limit contents old new (BadConfig path kind) = ⊥
NoFile name limit contents old new (BadScript line kind) = ⊥
NoFile name limit contents old new (ScriptLong count) = ⊥
NoFile name limit contents old new ReadFault = ⊥
NoFile name limit contents old new WriteFault = ⊥
NoFile name limit contents old new (BadTeam set rule subject) = ⊥
NoFile name limit contents old new DoorFault = ⊥
NoFile name limit contents old new (UnknownFormat id) = ⊥
NoFile name limit contents old new (BadPack at kind) = ⊥
NoFile name limit contents old new NoTour = ⊥
NoFile name limit contents old new KeepFault = ⊥
NoFile name limit contents old new (KeepFull count) = ⊥
NoFile name limit contents old new (BadExport line) = ⊥
NoFile name limit contents old new (NoExport set) = ⊥

-- the statuses by which a step ends a command; that of a file names the step's file, and its count rose
abbrev pub StepCause : Option (List ℕ) → FileCounts → FileCounts → Status → Type 0
StepCause named old new (FileMissing name) = (named ≡ Some name) × Rose old.missing new.missing
StepCause named old new (FileFault name) = (named ≡ Some name) × Rose old.faults new.faults
StepCause named old new (FileLong name) = (named ≡ Some name) × Rose old.long new.long
StepCause named old new (BadDex path kind) = Unit {0}
StepCause named old new (BadConfig path kind) = Unit {0}
StepCause named old new NoMemory = Unit {0}
StepCause named old new Done = ⊥
StepCause named old new (Usage word) = ⊥
StepCause named old new (BadScript line kind) = ⊥
StepCause named old new (ScriptLong count) = ⊥
StepCause named old new ReadFault = ⊥
StepCause named old new WriteFault = ⊥
StepCause named old new (BadTeam set rule subject) = ⊥
StepCause named old new DoorFault = ⊥
StepCause named old new (UnknownFormat id) = ⊥
StepCause named old new (BadPack at kind) = ⊥
StepCause named old new NoTour = ⊥
StepCause named old new KeepFault = ⊥
StepCause named old new (KeepFull count) = ⊥
StepCause named old new (BadExport line) = ⊥
StepCause named old new (NoExport set) = ⊥

-- the status of a file that was not read, or out of memory
abbrev pub IsFileStatus : List ℕ → FileEnd → Status → Type 0
IsFileStatus name end NoMemory = Unit {0}
IsFileStatus name file_ends.Missing status = status ≡ FileMissing name
IsFileStatus name file_ends.TooLong status = status ≡ FileLong name
IsFileStatus name file_ends.Failed status = status ≡ FileFault name
IsFileStatus name file_ends.NoMemory status = ⊥
