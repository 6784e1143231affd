-- Files by their names, and when a call on them may answer what.
use Rattle.std.specs.Prelude.{◌≡◌, ℕ, ◌<◌, ◌≤◌, List, [], ◌∷◌, length, Option, Some, None, Result, Ok, Err, IfSome, Bool, true, false}
use Rattle.std.specs.Prelude.{if◌then◌else◌}
use Rattle.std.specs.Option.{IsSomeAnd}
use Rattle.std.specs.Str.{bytes_eq}
use Rattle.ps_outside.specs.Causes.{Rose}
use Rattle.ps_outside.specs.declared.files.FileEnd.{FileEnd}
use Rattle.ps_outside.specs.declared.files.FileEnd.TheVariants.{Missing, TooLong, Failed, NoMemory}
use Rattle.ps_outside.specs.declared.files.NamedFile.{NamedFile}

-- how often a file was missing, was too long, and a call failed
pub record FileCounts : Type 0 where
  pub missing : ℕ
  pub long : ℕ
  pub faults : ℕ

abbrev pub no_counts : FileCounts
no_counts = record { missing = 0; long = 0; faults = 0 }

-- the bytes of the first file of this name
abbrev pub lookup : List NamedFile → List ℕ → Option (List ℕ)
lookup [] name = None
lookup (file ∷ files) name = if bytes_eq file.name name then Some file.bytes else lookup files name

-- the file of this name has these bytes, within the limit
pub record IsFile (name : List ℕ) (limit : ℕ) (bytes : List ℕ) (lookup : List ℕ → Option (List ℕ)) : Type 0 where
  pub there : lookup name ≡ Some bytes
  pub within : length bytes ≤ limit

-- where the contents are known: Missing only where there is no such file, TooLong only where it has too many bytes
abbrev pub IsFileEnd : {T : Type 0} → Option (List ℕ → Option (List ℕ)) → List ℕ → ℕ → Result T FileEnd → Type 0
IsFileEnd contents name limit (Ok bytes) = Unit {0}
IsFileEnd contents name limit (Err Missing) = IfSome contents (λ lookup. lookup name ≡ None)
IsFileEnd contents name limit (Err TooLong) = IfSome contents (λ lookup. IsSomeAnd (lookup name) (λ bytes. limit < length bytes))
IsFileEnd contents name limit (Err Failed) = Unit {0}
IsFileEnd contents name limit (Err NoMemory) = Unit {0}

-- a count rose, and the other two stayed
pub record OnlyRose (old new other_old other_new third_old third_new : ℕ) : Type 0 where
  pub later : old ≤ new
  pub rose : Rose old new
  pub other : other_new ≡ other_old
  pub third : third_new ≡ third_old

-- each of the three answers raises its own count alone, and no other answer raises any
abbrev pub HasFileCause : {T : Type 0} → FileCounts → FileCounts → Result T FileEnd → Type 0
HasFileCause old new (Ok bytes) = new ≡ old
HasFileCause old new (Err Missing) = OnlyRose old.missing new.missing old.long new.long old.faults new.faults
HasFileCause old new (Err TooLong) = OnlyRose old.long new.long old.missing new.missing old.faults new.faults
HasFileCause old new (Err Failed) = OnlyRose old.faults new.faults old.missing new.missing old.long new.long
HasFileCause old new (Err NoMemory) = new ≡ old

-- whether an answer is Failed
abbrev pub has_file_failed : {T : Type 0} → Result T FileEnd → Bool
has_file_failed (Ok bytes) = false
has_file_failed (Err Missing) = false
has_file_failed (Err TooLong) = false
has_file_failed (Err Failed) = true
has_file_failed (Err NoMemory) = false

-- what files in memory hold, how often they were called, and the calls that fail
pub record Shelf : Type 0 where
  pub files : List NamedFile
  pub calls : ℕ
  pub counts : FileCounts
  pub failing : List ℕ

-- what files in memory that never fail hold
pub record SureShelf : Type 0 where
  pub files : List NamedFile
  pub counts : FileCounts
