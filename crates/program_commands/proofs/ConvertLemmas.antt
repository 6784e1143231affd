-- What an export and an import come to.
use Rattle.std.proofs.Common.{◌≡◌, ℕ, ◌<◌, ◌≤◌, List, length, Option, Some, None, Result, Ok, Err, IfOk, refl, sym, ap, subst, ◌∙◌, arith, inl, inr}
use Rattle.std.specs.Option.{IsSomeAnd}
use Rattle.std.specs.Str.{IsUtf8, chars}
use Rattle.std.specs.Io.BufRead.{strip_last}
use Rattle.std.proofs.lemmas.Option.{same_Some}
use Rattle.ps_outside.specs.Causes.{Rose}
use Rattle.ps_outside.specs.Files.{FileCounts, IsFile}
use Rattle.ps_packed.specs.declared.set.Set.{Set}
use Rattle.ps_packed.specs.Packed.{IsTeam}
use Rattle.ps_packed.proofs.Unique.{one_team}
use Rattle.ps_export.specs.Written.{export_text, first_unwritable}
use Rattle.program_commands.specs.declared.status.Status.{Status}
use Rattle.program_commands.specs.declared.status.Status.TheVariants.{Done, Usage, FileMissing, FileFault, FileLong, BadDex, BadConfig, BadScript, ScriptLong, ReadFault, WriteFault, BadTeam, NoMemory, DoorFault, UnknownFormat, BadPack, NoTour, KeepFault, KeepFull, BadExport, NoExport}
use Rattle.program_commands.specs.Setups.{IsSettled}
use Rattle.program_commands.specs.Checks.{most_team}
use Rattle.program_commands.specs.Conversions.{HasExport, MakesExport, IsWhyNone, HasNoExport, StopsExport, MakesPacked, StopsImport, OfFile, ConversionCause, SettlesConversion, IsExportOf}
use Rattle.program_commands.proofs.CheckLemmas.{no_pack_fault}

-- ---- from a team to the bytes that it was read from

pub makes_export : (bytes : List ℕ) (team : List Set) (made : Result (List ℕ) Status) → IsUtf8 (strip_last 10 bytes) → IsTeam (chars (strip_last 10 bytes)) team → IfOk made (IsExportOf team) → IfOk made (MakesExport bytes)
makes_export bytes team (Ok made) utf8 packed is = record {
  has = record { utf8 = utf8; team = team; packed = packed; writable = is.writable; made_is = is.made_is; short = is.again.short };
  again = is.again;
}
makes_export bytes team (Err status) utf8 packed is = tt

-- ---- bytes of which something is made have no fault

abbrev Apart : (List ℕ → List ℕ → Type 0) → (List ℕ → Status → Type 0) → Type 0
Apart makes stops = (bytes made : List ℕ) (status : Status) → makes bytes made → stops bytes status → ⊥

no_why : (team : List Set) (made : List ℕ) (set : ℕ) → first_unwritable 1 team ≡ None → made ≡ export_text team → length made ≤ 8192 → IsWhyNone team set → ⊥
no_why team made set writable is short (inl why) = let wrong : None ≡ Some set = sym writable ∙ why in cc
no_why team made set writable is short (inr why) = let same : length made ≡ length (export_text team) = ap (λ (x : List ℕ). length x) is in omega (arith, same, short, why.2)

has_export : (bytes made : List ℕ) (set : ℕ) → HasExport bytes made → HasNoExport bytes set → ⊥
has_export bytes made set has none =
    let same : none.team ≡ has.team = one_team (chars (strip_last 10 bytes)) none.team has.team none.packed has.packed in
    no_why has.team made set has.writable has.made_is has.short (subst (λ (t : List Set). IsWhyNone t set) same none.why)

export_apart : Apart HasExport StopsExport
export_apart bytes made Done has stops = stops
export_apart bytes made (Usage word) has stops = stops
export_apart bytes made (FileMissing n) has stops = stops
export_apart bytes made (FileFault n) has stops = stops
export_apart bytes made (FileLong n) has stops = stops
export_apart bytes made (BadDex path kind) has stops = stops
export_apart bytes made (BadConfig path kind) has stops = stops
export_apart bytes made (BadScript line kind) has stops = stops
export_apart bytes made (ScriptLong count) has stops = stops
export_apart bytes made ReadFault has stops = stops
export_apart bytes made WriteFault has stops = stops
export_apart bytes made (BadTeam set rule subject) has stops = stops
export_apart bytes made NoMemory has stops = stops
export_apart bytes made DoorFault has stops = stops
export_apart bytes made (UnknownFormat id) has stops = stops
export_apart bytes made (BadPack at kind) has stops = no_pack_fault (strip_last 10 bytes) at kind has.team has.utf8 has.packed stops
export_apart bytes made NoTour has stops = stops
export_apart bytes made KeepFault has stops = stops
export_apart bytes made (KeepFull count) has stops = stops
export_apart bytes made (BadExport line) has stops = stops
export_apart bytes made (NoExport set) has stops = has_export bytes made set has stops

import_apart : Apart MakesPacked StopsImport
import_apart bytes made (BadExport line) has (inl none) = none.0 has.utf8
import_apart bytes made (BadExport line) has (inr none) = none.1.none has.team has.read
import_apart bytes made Done has stops = stops
import_apart bytes made (Usage word) has stops = stops
import_apart bytes made (FileMissing n) has stops = stops
import_apart bytes made (FileFault n) has stops = stops
import_apart bytes made (FileLong n) has stops = stops
import_apart bytes made (BadDex path kind) has stops = stops
import_apart bytes made (BadConfig path kind) has stops = stops
import_apart bytes made (BadScript line kind) has stops = stops
import_apart bytes made (ScriptLong count) has stops = stops
import_apart bytes made ReadFault has stops = stops
import_apart bytes made WriteFault has stops = stops
import_apart bytes made (BadTeam set rule subject) has stops = stops
import_apart bytes made NoMemory has stops = stops
import_apart bytes made DoorFault has stops = stops
import_apart bytes made (UnknownFormat id) has stops = stops
import_apart bytes made (BadPack at kind) has stops = stops
import_apart bytes made NoTour has stops = stops
import_apart bytes made KeepFault has stops = stops
import_apart bytes made (KeepFull count) has stops = stops
import_apart bytes made (NoExport set) has stops = stops

-- ---- completeness

no_stop : (lookup : List ℕ → Option (List ℕ)) (name bytes made : List ℕ) (makes : List ℕ → List ℕ → Type 0) (stops : List ℕ → Status → Type 0) (status : Status) → Apart makes stops → IsFile name most_team bytes lookup → makes bytes made → OfFile (Some lookup) name (λ b. stops b status) → ⊥
no_stop lookup name bytes made makes stops status apart file is stop =
    let same : stop.0 ≡ bytes = same_Some stop.0 bytes (sym stop.1.there ∙ file.there) in
    apart bytes made status is (subst (λ (b : List ℕ). stops b status) same stop.2)

not_missing : (lookup : List ℕ → Option (List ℕ)) (name bytes : List ℕ) → IsFile name most_team bytes lookup → lookup name ≡ None → ⊥
not_missing lookup name bytes file none = let wrong : None ≡ Some bytes = sym none ∙ file.there in cc

not_long : (lookup : List ℕ → Option (List ℕ)) (name bytes : List ℕ) → IsFile name most_team bytes lookup → IsSomeAnd (lookup name) (λ b. most_team < length b) → ⊥
not_long lookup name bytes file long =
    let over : 8192 < length bytes = subst (λ (o : Option (List ℕ)). IsSomeAnd o (λ b. most_team < length b)) file.there long in
    let within : length bytes ≤ 8192 = file.within in
    omega (arith, over, within)

made_settles : (lookup : List ℕ → Option (List ℕ)) (name bytes made : List ℕ) (makes : List ℕ → List ℕ → Type 0) (stops : List ℕ → Status → Type 0) (old new : FileCounts) (write_fault : Type 0) (status : Status) → Apart makes stops → IsFile name most_team bytes lookup → makes bytes made → ConversionCause (Some lookup) name stops old new status → (status ≡ WriteFault → write_fault) → (Rose old.faults new.faults → ⊥) → (write_fault → ⊥) → IsSettled status
made_settles lookup name bytes made makes stops old new write_fault Done apart file is cause wrote files sink = tt
made_settles lookup name bytes made makes stops old new write_fault (Usage word) apart file is cause wrote files sink = absurd cause
made_settles lookup name bytes made makes stops old new write_fault (FileMissing n) apart file is cause wrote files sink = absurd (not_missing lookup name bytes file cause.1)
made_settles lookup name bytes made makes stops old new write_fault (FileFault n) apart file is cause wrote files sink = absurd (files cause.1)
made_settles lookup name bytes made makes stops old new write_fault (FileLong n) apart file is cause wrote files sink = absurd (not_long lookup name bytes file cause.1)
made_settles lookup name bytes made makes stops old new write_fault (BadDex path kind) apart file is cause wrote files sink = absurd cause
made_settles lookup name bytes made makes stops old new write_fault (BadConfig path kind) apart file is cause wrote files sink = absurd cause
made_settles lookup name bytes made makes stops old new write_fault (BadScript line kind) apart file is cause wrote files sink = absurd cause
made_settles lookup name bytes made makes stops old new write_fault (ScriptLong count) apart file is cause wrote files sink = absurd cause
made_settles lookup name bytes made makes stops old new write_fault ReadFault apart file is cause wrote files sink = absurd cause
made_settles lookup name bytes made makes stops old new write_fault WriteFault apart file is cause wrote files sink = absurd (sink (wrote refl))
made_settles lookup name bytes made makes stops old new write_fault (BadTeam set rule subject) apart file is cause wrote files sink = absurd cause
made_settles lookup name bytes made makes stops old new write_fault NoMemory apart file is cause wrote files sink = tt
made_settles lookup name bytes made makes stops old new write_fault DoorFault apart file is cause wrote files sink = absurd cause
made_settles lookup name bytes made makes stops old new write_fault (UnknownFormat id) apart file is cause wrote files sink = absurd cause
made_settles lookup name bytes made makes stops old new write_fault (BadPack at kind) apart file is cause wrote files sink = absurd (no_stop lookup name bytes made makes stops (BadPack at kind) apart file is cause)
made_settles lookup name bytes made makes stops old new write_fault NoTour apart file is cause wrote files sink = absurd cause
made_settles lookup name bytes made makes stops old new write_fault KeepFault apart file is cause wrote files sink = absurd cause
made_settles lookup name bytes made makes stops old new write_fault (KeepFull count) apart file is cause wrote files sink = absurd cause
made_settles lookup name bytes made makes stops old new write_fault (BadExport line) apart file is cause wrote files sink = absurd (no_stop lookup name bytes made makes stops (BadExport line) apart file is cause)
made_settles lookup name bytes made makes stops old new write_fault (NoExport set) apart file is cause wrote files sink = absurd (no_stop lookup name bytes made makes stops (NoExport set) apart file is cause)

conversion_settles : (contents : Option (List ℕ → Option (List ℕ))) (name : List ℕ) (makes : List ℕ → List ℕ → Type 0) (stops : List ℕ → Status → Type 0) (old new : FileCounts) (write_fault : Type 0) (status : Status) → Apart makes stops → ConversionCause contents name stops old new status → (status ≡ WriteFault → write_fault) → SettlesConversion contents makes (Rose old.faults new.faults) write_fault name status
conversion_settles None name makes stops old new write_fault status apart cause wrote = record { settled = λ makable _ _. absurd makable }
conversion_settles (Some lookup) name makes stops old new write_fault status apart cause wrote =
    record { settled = λ makable files sink. made_settles lookup name makable.0 makable.1 makes stops old new write_fault status apart makable.2 makable.3 cause wrote files sink }

pub export_settles : (contents : Option (List ℕ → Option (List ℕ))) (name : List ℕ) (old new : FileCounts) (write_fault : Type 0) (status : Status) → ConversionCause contents name StopsExport old new status → (status ≡ WriteFault → write_fault) → SettlesConversion contents HasExport (Rose old.faults new.faults) write_fault name status
export_settles contents name old new write_fault status cause wrote = conversion_settles contents name HasExport StopsExport old new write_fault status export_apart cause wrote

pub import_settles : (contents : Option (List ℕ → Option (List ℕ))) (name : List ℕ) (old new : FileCounts) (write_fault : Type 0) (status : Status) → ConversionCause contents name StopsImport old new status → (status ≡ WriteFault → write_fault) → SettlesConversion contents MakesPacked (Rose old.faults new.faults) write_fault name status
import_settles contents name old new write_fault status cause wrote = conversion_settles contents name MakesPacked StopsImport old new write_fault status import_apart cause wrote
