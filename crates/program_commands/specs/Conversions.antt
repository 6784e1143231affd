-- The packed text and the export text of a team: what is made of either, and how the two commands end that do so.
use Rattle.std.specs.Prelude.{◌≡◌, ◌⊎◌, ◌<◌, ◌≤◌, ℕ, List, [], ◌∷◌, ◌++◌, length, Option, Some, None, IfSome}
use Rattle.std.specs.Option.{IsSomeAnd}
use Rattle.std.specs.Str.{IsUtf8, chars}
use Rattle.std.specs.Io.BufRead.{strip_last}
use Rattle.std.specs.Io.KnownBytes.{Appends, Keeps}
use Rattle.ps_outside.specs.Causes.{Rose}
use Rattle.ps_outside.specs.Files.{FileCounts, IsFile}
use Rattle.ps_outside.specs.Sinks.{AppendsFront}
use Rattle.ps_packed.specs.declared.set.Set.{Set}
use Rattle.ps_packed.specs.Packed.{IsTeam}
use Rattle.ps_packed.specs.Canon.{canon}
use Rattle.ps_export.specs.Export.{IsExport, IsRefused}
use Rattle.ps_export.specs.Written.{export_text, first_unwritable}
use Rattle.program_commands.specs.declared.status.Status.{Status}
use Rattle.program_commands.specs.declared.status.Status.TheVariants.{Done, Usage, FileMissing, FileFault, FileLong, BadDex}
use Rattle.program_commands.specs.declared.status.Status.TheVariants.{BadConfig, BadScript, ScriptLong, ReadFault, WriteFault}
use Rattle.program_commands.specs.declared.status.Status.TheVariants.{BadTeam, NoMemory, DoorFault, UnknownFormat, BadPack, NoTour}
use Rattle.program_commands.specs.declared.status.Status.TheVariants.{KeepFault, KeepFull, BadExport, NoExport}
use Rattle.program_commands.specs.Setups.{IsSettled}
use Rattle.program_commands.specs.Checks.{most_team, IsUnpacked}
use Rattle.ps_base.specs.Characters as characters

-- ---- what `export` makes of the bytes of a packed team's file, of which one newline at the end is dropped

-- they are a packed team, all of whose sets can be written, and this is its export text, within the limit
pub record HasExport (bytes made : List ℕ) : Type 0 where
  pub utf8 : IsUtf8 (strip_last characters.newline bytes)
  pub team : List Set
  pub packed : IsTeam (chars (strip_last characters.newline bytes)) team
  pub writable : first_unwritable 1 team ≡ None
  pub made_is : made ≡ export_text team
  pub short : length made ≤ 8192

-- and it is read as that team again
pub record MakesExport (bytes made : List ℕ) : Type 0 where
  pub has : HasExport bytes made
  pub again : IsExport made has.team

-- why a team has no export text: this is its first set that can't be written, or, for 0, its text would be over the limit
abbrev pub IsWhyNone : List Set → ℕ → Type 0
IsWhyNone team set = (first_unwritable 1 team ≡ Some set)
    ⊎ ((set ≡ 0) × (first_unwritable 1 team ≡ None) × (8192 < length (export_text team)))

-- they are a packed team, which has no export text
pub record HasNoExport (bytes : List ℕ) (set : ℕ) : Type 0 where
  pub utf8 : IsUtf8 (strip_last characters.newline bytes)
  pub team : List Set
  pub packed : IsTeam (chars (strip_last characters.newline bytes)) team
  pub why : IsWhyNone team set

-- the faults of such bytes
abbrev pub StopsExport : List ℕ → Status → Type 0
StopsExport bytes (BadPack at kind) = IsUnpacked (strip_last characters.newline bytes) at kind
StopsExport bytes (NoExport set) = HasNoExport bytes set
StopsExport bytes other = ⊥

-- ---- what `import` makes of the bytes of an export text's file

-- they are the export text of a team, and this is its canonical packed text and a newline
pub record MakesPacked (bytes made : List ℕ) : Type 0 where
  pub utf8 : IsUtf8 bytes
  pub team : List Set
  pub read : IsExport bytes team
  pub made_is : made ≡ canon team ++ characters.newline ∷ []

-- the bytes are no text, which is reported at 0, or no export text, and this is the first line that can't stand
abbrev pub IsNoExportText : List ℕ → ℕ → Type 0
IsNoExportText bytes line = ((IsUtf8 bytes → ⊥) × (line ≡ 0)) ⊎ (IsUtf8 bytes × IsRefused bytes line)

-- the faults of such bytes
abbrev pub StopsImport : List ℕ → Status → Type 0
StopsImport bytes (BadExport line) = IsNoExportText bytes line
StopsImport bytes other = ⊥

-- ---- how either ends, by what it makes of which bytes, and by the faults that bytes may have

-- the file has such bytes: where the files are known, it is these that are under its name
abbrev pub OfFile : Option (List ℕ → Option (List ℕ)) → List ℕ → (List ℕ → Type 0) → Type 0
OfFile contents name says = (bytes : List ℕ) × IfSome contents (IsFile name most_team bytes) × says bytes

-- The statuses, and what has shown each. That of a file names the file, and its count rose.
abbrev pub ConversionCause : Option (List ℕ → Option (List ℕ)) → List ℕ → (List ℕ → Status → Type 0) → FileCounts → FileCounts
    → Status → Type 0
ConversionCause contents name stops old new Done = Unit {0}
ConversionCause contents name stops old new (Usage word) = ⊥
ConversionCause contents name stops old new (FileMissing reported) = (reported ≡ name) × IfSome contents (λ lookup. lookup name ≡ None)
    × Rose old.missing new.missing
ConversionCause contents name stops old new (FileFault reported) = (reported ≡ name) × Rose old.faults new.faults
ConversionCause contents name stops old new (FileLong reported) = (reported ≡ name)
    × IfSome contents (λ lookup. IsSomeAnd (lookup name) (λ bytes. most_team < length bytes)) × Rose old.long new.long
ConversionCause contents name stops old new (BadDex path kind) = ⊥
ConversionCause contents name stops old new (BadConfig path kind) = ⊥
ConversionCause contents name stops old new (BadScript line kind) = ⊥
ConversionCause contents name stops old new (ScriptLong count) = ⊥
ConversionCause contents name stops old new ReadFault = ⊥
ConversionCause contents name stops old new WriteFault = Unit {0}
ConversionCause contents name stops old new (BadTeam set rule subject) = ⊥
ConversionCause contents name stops old new NoMemory = Unit {0}
ConversionCause contents name stops old new DoorFault = ⊥
ConversionCause contents name stops old new (UnknownFormat id) = ⊥
ConversionCause contents name stops old new (BadPack at kind) = OfFile contents name (λ bytes. stops bytes (BadPack at kind))
ConversionCause contents name stops old new NoTour = ⊥
ConversionCause contents name stops old new KeepFault = ⊥
ConversionCause contents name stops old new (KeepFull count) = ⊥
ConversionCause contents name stops old new (BadExport line) = OfFile contents name (λ bytes. stops bytes (BadExport line))
ConversionCause contents name stops old new (NoExport set) = OfFile contents name (λ bytes. stops bytes (NoExport set))

abbrev pub ExportCause : Option (List ℕ → Option (List ℕ)) → List ℕ → FileCounts → FileCounts → Status → Type 0
ExportCause contents name old new status = ConversionCause contents name StopsExport old new status

abbrev pub ImportCause : Option (List ℕ → Option (List ℕ)) → List ℕ → FileCounts → FileCounts → Status → Type 0
ImportCause contents name old new status = ConversionCause contents name StopsImport old new status

-- ---- what was written

-- what is made, and nothing else
pub record WritesMade (makes : List ℕ → Type 0) (old new : Option (List ℕ)) : Type 0 where
  pub made : List ℕ
  pub made_is : makes made
  pub wrote : Appends old new made

-- a front of it
pub record WritesFrontOfMade (makes : List ℕ → Type 0) (old new : Option (List ℕ)) : Type 0 where
  pub made : List ℕ
  pub made_is : makes made
  pub front : AppendsFront old new made

-- all of what is made of the file at Done, a front of it at WriteFault, and else nothing
abbrev pub WritesConversion : Option (List ℕ → Option (List ℕ)) → List ℕ → (List ℕ → List ℕ → Type 0) → Option (List ℕ)
    → Option (List ℕ) → Status → Type 0
WritesConversion contents name makes old new Done = OfFile contents name (λ bytes. WritesMade (makes bytes) old new)
WritesConversion contents name makes old new WriteFault = OfFile contents name (λ bytes. WritesFrontOfMade (makes bytes) old new)
WritesConversion contents name makes old new (Usage word) = Keeps old new
WritesConversion contents name makes old new (FileMissing reported) = Keeps old new
WritesConversion contents name makes old new (FileFault reported) = Keeps old new
WritesConversion contents name makes old new (FileLong reported) = Keeps old new
WritesConversion contents name makes old new (BadDex path kind) = Keeps old new
WritesConversion contents name makes old new (BadConfig path kind) = Keeps old new
WritesConversion contents name makes old new (BadScript line kind) = Keeps old new
WritesConversion contents name makes old new (ScriptLong count) = Keeps old new
WritesConversion contents name makes old new ReadFault = Keeps old new
WritesConversion contents name makes old new (BadTeam set rule subject) = Keeps old new
WritesConversion contents name makes old new NoMemory = Keeps old new
WritesConversion contents name makes old new DoorFault = Keeps old new
WritesConversion contents name makes old new (UnknownFormat id) = Keeps old new
WritesConversion contents name makes old new (BadPack at kind) = Keeps old new
WritesConversion contents name makes old new NoTour = Keeps old new
WritesConversion contents name makes old new KeepFault = Keeps old new
WritesConversion contents name makes old new (KeepFull count) = Keeps old new
WritesConversion contents name makes old new (BadExport line) = Keeps old new
WritesConversion contents name makes old new (NoExport set) = Keeps old new

-- the export text of the file's team, which is read as that team again
abbrev pub WritesExport : Option (List ℕ → Option (List ℕ)) → List ℕ → Option (List ℕ) → Option (List ℕ) → Type 0
WritesExport contents name old new = OfFile contents name (λ bytes. WritesMade (MakesExport bytes) old new)

-- the packed text of the file's team and a newline
abbrev pub WritesPacked : Option (List ℕ → Option (List ℕ)) → List ℕ → Option (List ℕ) → Option (List ℕ) → Type 0
WritesPacked contents name old new = OfFile contents name (λ bytes. WritesMade (MakesPacked bytes) old new)

-- ---- completeness

-- the files are known, and something is made of the one of this name
abbrev pub IsMakable : Option (List ℕ → Option (List ℕ)) → List ℕ → (List ℕ → List ℕ → Type 0) → Type 0
IsMakable contents name makes = IsSomeAnd contents
    (λ lookup. (bytes : List ℕ) × (made : List ℕ) × IsFile name most_team bytes lookup × makes bytes made)

-- that, with no fault of the files or the sink, settles a conversion
pub record SettlesConversion (contents : Option (List ℕ → Option (List ℕ))) (makes : List ℕ → List ℕ → Type 0)
    (file_fault write_fault : Type 0) (name : List ℕ) (status : Status) : Type 0 where
  pub settled : IsMakable contents name makes → (file_fault → ⊥) → (write_fault → ⊥) → IsSettled status

-- ---- for the code alone

-- the export text of a team
pub record IsExportOf (team : List Set) (made : List ℕ) : Type 0 where
  pub writable : first_unwritable 1 team ≡ None
  pub made_is : made ≡ export_text team
  pub again : IsExport made team

-- out of memory, or a team has no export text
abbrev pub StopsTeam : List Set → Status → Type 0
StopsTeam team NoMemory = Unit {0}
StopsTeam team (NoExport set) = IsWhyNone team set
StopsTeam team other = ⊥

-- out of memory, or what was read has a fault
abbrev pub Stops : (Status → Type 0) → Status → Type 0
Stops stops status = (status ≡ NoMemory) ⊎ stops status

-- the statuses of bytes of which something is made
abbrev pub BytesCause : (Status → Type 0) → Status → Type 0
BytesCause stops Done = Unit {0}
BytesCause stops WriteFault = Unit {0}
BytesCause stops NoMemory = Unit {0}
BytesCause stops (BadPack at kind) = stops (BadPack at kind)
BytesCause stops (BadExport line) = stops (BadExport line)
BytesCause stops (NoExport set) = stops (NoExport set)
BytesCause stops other = ⊥

-- what was written of what is made of them
abbrev pub WritesOfBytes : (List ℕ → Type 0) → Option (List ℕ) → Option (List ℕ) → Status → Type 0
WritesOfBytes makes old new Done = WritesMade makes old new
WritesOfBytes makes old new WriteFault = WritesFrontOfMade makes old new
WritesOfBytes makes old new other = Keeps old new

-- a whole text, a front of it, or nothing
abbrev pub WritesText : List ℕ → Option (List ℕ) → Option (List ℕ) → Status → Type 0
WritesText text old new Done = Appends old new text
WritesText text old new WriteFault = AppendsFront old new text
WritesText text old new other = ⊥
