-- A legal team has no other end than Done.
use Rattle.std.proofs.Common.{◌≡◌, ◌⊎◌, ℕ, List, Option, Some, None, Result, Ok, Err, refl, sym, ◌∙◌, subst, inl, inr}
use Rattle.std.specs.Str.{IsUtf8, chars}
use Rattle.ps_base.specs.declared.team_rule.TeamRule.{TeamRule}
use Rattle.ps_base.specs.declared.pack_kind.PackKind.{PackKind}
use Rattle.ps_outside.specs.Causes.{Rose}
use Rattle.ps_outside.specs.Files.{FileCounts}
use Rattle.ps_packed.specs.declared.set.Set.{Set}
use Rattle.ps_packed.specs.Packed.{IsTeam}
use Rattle.ps_packed.proofs.Unique.{one_team}
use Rattle.ps_dex.specs.declared.item.Tables.{Tables}
use Rattle.ps_rules.specs.declared.table.RuleTable.{RuleTable}
use Rattle.ps_valid.specs.TeamRows.{legal_in}
use Rattle.program_commands.specs.declared.status.Status.{Status}
use Rattle.program_commands.specs.declared.status.Status.TheVariants.{Done, Usage, FileMissing, FileFault, FileLong, BadDex, BadConfig, BadScript, ScriptLong, ReadFault, WriteFault, BadTeam, NoMemory, DoorFault, UnknownFormat, BadPack, NoTour, KeepFault, KeepFull, BadExport, NoExport}
use Rattle.program_commands.specs.Words.{Checked}
use Rattle.program_commands.specs.Steps.{IsFaultOf, dex_in, config_in}
use Rattle.program_commands.specs.Setups.{IsSettled, Then, EndsIfKnown}
use Rattle.program_commands.specs.Checks.{text_in, rules_in, IsLegal, IsBroken, IsUnpacked, TextEnds, TeamEnds, FormatEnds, ConfigEnds, CheckEnds, IsNamed, CheckCause, SettlesCheck}

-- ---- a legal team has no other end

-- where no outside fails there is only Done
abbrev Harmless : Status → Type 0
Harmless Done = Unit {0}
Harmless WriteFault = Unit {0}
Harmless (FileFault name) = Unit {0}
Harmless NoMemory = ⊥
Harmless (Usage word) = ⊥
Harmless (FileMissing name) = ⊥
Harmless (FileLong name) = ⊥
Harmless (BadDex path kind) = ⊥
Harmless (BadConfig path kind) = ⊥
Harmless (BadScript line kind) = ⊥
Harmless (ScriptLong count) = ⊥
Harmless ReadFault = ⊥
Harmless (BadTeam set rule subject) = ⊥
Harmless DoorFault = ⊥
Harmless (UnknownFormat id) = ⊥
Harmless (BadPack at kind) = ⊥
Harmless NoTour = ⊥
Harmless KeepFault = ⊥
Harmless (KeepFull count) = ⊥
Harmless (BadExport line) = ⊥
Harmless (NoExport set) = ⊥

no_fault : (named : Option (List ℕ)) → IsFaultOf named Done → ⊥
no_fault None fault = fault
no_fault (Some name) fault = cc

fault_harmless : (named : Option (List ℕ)) (status : Status) → IsFaultOf named status → Harmless status
fault_harmless None status fault = absurd fault
fault_harmless (Some name) status fault = subst Harmless (sym fault) tt

only_then : {A : Type 0} (r : Result A Status) (next : A → Status → Type 0) (status : Status) → ((x : A) → next x Done → next x status → Harmless status) → Then r next Done → Then r next status → Harmless status
only_then (Ok x) next status f done h = f x done h
only_then (Err ended) next status f done h = let same : Done ≡ status = done ∙ sym h in subst Harmless same tt

only_step : {A : Type 0} (named : Option (List ℕ)) (r : Result A Status) (next : A → Status → Type 0) (status : Status) → ((x : A) → next x Done → next x status → Harmless status) → IsFaultOf named Done ⊎ Then r next Done → IsFaultOf named status ⊎ Then r next status → Harmless status
only_step named r next status f (inl fault) h = absurd (no_fault named fault)
only_step named r next status f (inr done) (inl fault) = fault_harmless named status fault
only_step named r next status f (inr done) (inr h) = only_then r next status f done h

pub not_broken : (dex : Tables) (rules : RuleTable) (text : List ℕ) (set : ℕ) (rule : TeamRule) (subject : List ℕ) → IsLegal dex rules text → IsBroken dex rules text set rule subject → ⊥
not_broken dex rules text set rule subject legal broken =
    let same : legal.team ≡ broken.team = one_team (chars text) legal.team broken.team legal.packed broken.packed in
    let kept : legal_in dex rules broken.team ≡ Ok legal.legal = subst (λ (t : List Set). legal_in dex rules t ≡ Ok legal.legal) same legal.keeps in
    let e = broken.breaks in
    cc

-- a text with a team has no fault
pub no_pack_fault : (text : List ℕ) (at : ℕ) (kind : PackKind) (team : List Set) → IsUtf8 text → IsTeam (chars text) team → IsUnpacked text at kind → ⊥
no_pack_fault text at kind team utf8 packed (inl none) = none.0 utf8
no_pack_fault text at kind team utf8 packed (inr none) = none.1.1 team packed

pub not_unpacked : (dex : Tables) (rules : RuleTable) (text : List ℕ) (at : ℕ) (kind : PackKind) → IsLegal dex rules text → IsUnpacked text at kind → ⊥
not_unpacked dex rules text at kind legal unpacked = no_pack_fault text at kind legal.team legal.utf8 legal.packed unpacked

only_text : (dex : Tables) (rules : RuleTable) (text : List ℕ) (status : Status) → IsLegal dex rules text → TextEnds dex rules text status → Harmless status
only_text dex rules text Done legal h = tt
only_text dex rules text WriteFault legal h = tt
only_text dex rules text (BadTeam set rule subject) legal h = absurd (not_broken dex rules text set rule subject legal h)
only_text dex rules text (BadPack at kind) legal h = absurd (not_unpacked dex rules text at kind legal h)
only_text dex rules text NoTour legal h = absurd h
only_text dex rules text KeepFault legal h = absurd h
only_text dex rules text (KeepFull count) legal h = absurd h
only_text dex rules text (BadExport line) legal h = absurd h
only_text dex rules text (NoExport set) legal h = absurd h
only_text dex rules text (FileFault name) legal h = tt
only_text dex rules text NoMemory legal h = absurd h
only_text dex rules text (Usage word) legal h = absurd h
only_text dex rules text (FileMissing name) legal h = absurd h
only_text dex rules text (FileLong name) legal h = absurd h
only_text dex rules text (BadDex path kind) legal h = absurd h
only_text dex rules text (BadConfig path kind) legal h = absurd h
only_text dex rules text (BadScript line kind) legal h = absurd h
only_text dex rules text (ScriptLong count) legal h = absurd h
only_text dex rules text ReadFault legal h = absurd h
only_text dex rules text DoorFault legal h = absurd h
only_text dex rules text (UnknownFormat id) legal h = absurd h

only_end : (lookup : List ℕ → Option (List ℕ)) (words : Checked) (status : Status) → CheckEnds lookup words Done → CheckEnds lookup words status → Harmless status
only_end lookup words status =
    only_step words.dex (dex_in lookup words.dex) (ConfigEnds lookup words) status (λ dex.
    only_step words.config (config_in lookup dex words.config) (FormatEnds lookup words dex) status (λ settings.
    only_then (rules_in settings words.format) (TeamEnds lookup dex words.team) status (λ rules.
    only_step (Some words.team) (text_in lookup words.team) (TextEnds dex rules) status (λ text.
    only_text dex rules text status))))

harmless_settles : (one : List ℕ → Type 0) (old new : FileCounts) (write_fault : Type 0) (status : Status) → CheckCause one old new status → (status ≡ WriteFault → write_fault) → (Rose old.faults new.faults → ⊥) → (write_fault → ⊥) → Harmless status → IsSettled status
harmless_settles one old new write_fault Done cause wrote files sink h = tt
harmless_settles one old new write_fault WriteFault cause wrote files sink h = absurd (sink (wrote refl))
harmless_settles one old new write_fault (FileFault name) cause wrote files sink h = absurd (files cause.1)
harmless_settles one old new write_fault NoMemory cause wrote files sink h = absurd h
harmless_settles one old new write_fault (Usage word) cause wrote files sink h = absurd h
harmless_settles one old new write_fault (FileMissing name) cause wrote files sink h = absurd h
harmless_settles one old new write_fault (FileLong name) cause wrote files sink h = absurd h
harmless_settles one old new write_fault (BadDex path kind) cause wrote files sink h = absurd h
harmless_settles one old new write_fault (BadConfig path kind) cause wrote files sink h = absurd h
harmless_settles one old new write_fault (BadScript line kind) cause wrote files sink h = absurd h
harmless_settles one old new write_fault (ScriptLong count) cause wrote files sink h = absurd h
harmless_settles one old new write_fault ReadFault cause wrote files sink h = absurd h
harmless_settles one old new write_fault (BadTeam set rule subject) cause wrote files sink h = absurd h
harmless_settles one old new write_fault DoorFault cause wrote files sink h = absurd h
harmless_settles one old new write_fault (UnknownFormat id) cause wrote files sink h = absurd h
harmless_settles one old new write_fault (BadPack at kind) cause wrote files sink h = absurd h
harmless_settles one old new write_fault NoTour cause wrote files sink h = absurd h
harmless_settles one old new write_fault KeepFault cause wrote files sink h = absurd h
harmless_settles one old new write_fault (KeepFull count) cause wrote files sink h = absurd h
harmless_settles one old new write_fault (BadExport line) cause wrote files sink h = absurd h
harmless_settles one old new write_fault (NoExport set) cause wrote files sink h = absurd h

-- completeness of a check
pub check_settles : (contents : Option (List ℕ → Option (List ℕ))) (words : Checked) (old new : FileCounts) (write_fault : Type 0) (status : Status) → EndsIfKnown contents (λ lookup. CheckEnds lookup words) status → CheckCause (IsNamed words) old new status → (status ≡ WriteFault → write_fault) → SettlesCheck contents (Rose old.faults new.faults) write_fault words status
check_settles None words old new write_fault status ended cause wrote = record { settled = λ legal _ _. absurd legal }
check_settles (Some lookup) words old new write_fault status (inl e) cause wrote = record { settled = λ _ _ _. subst IsSettled (sym e) tt }
check_settles (Some lookup) words old new write_fault status (inr h) cause wrote = record { settled = λ legal files sink. harmless_settles (IsNamed words) old new write_fault status cause wrote files sink (only_end lookup words status legal h) }
