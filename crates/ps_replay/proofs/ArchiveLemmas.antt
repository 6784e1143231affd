-- What an archive has shown: where a file or the keeper ended it, and once its notes were loaded.
use Rattle.std.proofs.Common.{◌≡◌, ◌⊎◌, ℕ, List, Option, Some, None, IfSome, refl, sym, ap, ◌∙◌, subst, inl, inr}
use Rattle.std.specs.Prelude.{option_map}
use Rattle.std.specs.Option.{IsSomeAnd}
use Rattle.std.specs.Io.KnownBytes.{Appends, IsAtEnd}
use Rattle.ps_group.specs.declared.group.Group.{Group}
use Rattle.ps_dex.specs.declared.item.Tables.{Tables}
use Rattle.rules_config.specs.declared.settings.Settings.{Settings}
use Rattle.replay_script.specs.declared.item.Item.{Item}
use Rattle.replay_script.specs.declared.script.ScriptKind.{ScriptKind}
use Rattle.replay_script.specs.Scripts.{IsScript}
use Rattle.replay_script.specs.Limits.{long_of, ReadsFew}
use Rattle.ps_keep.specs.declared.note.Note.{Note}
use Rattle.ps_keep.specs.Keepers.{after_notes}
use Rattle.replay_state.specs.Setup.{Setup, setup_of}
use Rattle.replay_state.specs.Notes.{notes}
use Rattle.replay_state.specs.Ledgers.{blank_noting}
use Rattle.replay_state.specs.Tables.{Desk, fresh, ledger_from}
use Rattle.replay_state.specs.Transcript.{output}
use Rattle.replay_state.proofs.BlockLemmas.{blocks_of}
use Rattle.replay_read.proofs.ReadLemmas.{read_back}
use Rattle.replay_state.proofs.LedgerLemmas.{notes_is}
use Rattle.program_commands.specs.declared.status.Status.{Status}
use Rattle.program_commands.specs.declared.status.Status.TheVariants.{Done, Usage, FileMissing, FileFault, FileLong, BadDex, BadConfig, BadScript, ScriptLong, ReadFault, WriteFault, BadTeam, NoMemory, DoorFault, UnknownFormat, BadPack, NoTour, KeepFault, KeepFull, BadExport, NoExport}
use Rattle.program_commands.specs.Words.{Options}
use Rattle.program_commands.specs.Steps.{dex_in, config_in}
use Rattle.program_commands.specs.Setups.{Stands, IsSetUp, IsSettled, StepCause, Ended}
use Rattle.program_commands.proofs.SetupLemmas.{one_config}
use Rattle.ps_replay.specs.Outcomes.{symbols_of, IsReadable, IsBadScript, ReplayCause, IsReadConfig}
use Rattle.ps_replay.specs.Commands.{Met, IsReplay}
use Rattle.ps_replay.specs.Dealings.{Dealings, MetWithKeeper, ReadFailed, WriteFailed, KeeperFailed, IsUntouched}
use Rattle.ps_replay.specs.Archives.{IsRoomFor, IsArchived, InputEnds, IsLoaded, ArchiveEnds, IsOverFull}
use Rattle.ps_replay.specs.KeptRuns.{IsArchive}
use Rattle.ps_replay.proofs.OutcomeLemmas.{not_long}
use Rattle.ps_replay.proofs.CommandLemmas.{few_read, no_usage}
use Rattle.ps_replay.proofs.ReplayLemmas.{dex_ends, config_ends}

-- ---- a step of the files ended it, as it would end a replay

abbrev plain : MetWithKeeper → Met
plain m = record {
  contents = m.contents;
  counts = m.counts;
  counts_after = m.counts_after;
  left = m.left;
  left_after = m.left_after;
  reads = m.reads;
  reads_after = m.reads_after;
  written = m.dealings.written;
  written_after = m.dealings.written_after;
  writes = m.dealings.writes;
  writes_after = m.dealings.writes_after;
}

stopped_ends : (o : Options) (m : MetWithKeeper) (named : Option (List ℕ)) (status : Status) → IsUntouched m
    → StepCause named m.counts m.counts_after status
    → ReplayCause m.contents o m.left m.counts m.counts_after status → ArchiveEnds o m status
stopped_ends o m named Done untouched stepped cause = absurd stepped
stopped_ends o m named (Usage word) untouched stepped cause = absurd stepped
stopped_ends o m named (FileMissing name) untouched stepped cause = (untouched, cause)
stopped_ends o m named (FileFault name) untouched stepped cause = (untouched, cause)
stopped_ends o m named (FileLong name) untouched stepped cause = (untouched, cause)
stopped_ends o m named (BadDex path kind) untouched stepped cause = (untouched, cause)
stopped_ends o m named (BadConfig path kind) untouched stepped cause = (untouched, cause)
stopped_ends o m named (BadScript line kind) untouched stepped cause = absurd stepped
stopped_ends o m named (ScriptLong count) untouched stepped cause = absurd stepped
stopped_ends o m named ReadFault untouched stepped cause = absurd stepped
stopped_ends o m named WriteFault untouched stepped cause = absurd stepped
stopped_ends o m named (BadTeam set rule subject) untouched stepped cause = absurd stepped
stopped_ends o m named NoMemory untouched stepped cause = inl untouched
stopped_ends o m named DoorFault untouched stepped cause = absurd stepped
stopped_ends o m named (UnknownFormat id) untouched stepped cause = absurd stepped
stopped_ends o m named (BadPack at kind) untouched stepped cause = absurd stepped
stopped_ends o m named NoTour untouched stepped cause = absurd stepped
stopped_ends o m named KeepFault untouched stepped cause = absurd stepped
stopped_ends o m named (KeepFull count) untouched stepped cause = absurd stepped
stopped_ends o m named (BadExport line) untouched stepped cause = absurd stepped
stopped_ends o m named (NoExport set) untouched stepped cause = absurd stepped

stopped : (o : Options) (m : MetWithKeeper) (named : Option (List ℕ)) (status : Status) → IsUntouched m
    → StepCause named m.counts m.counts_after status
    → IsReplay o (plain m) status → IsArchive o m status
stopped o m named status untouched stepped replay = record {
  usage = replay.usage;
  ends = stopped_ends o m named status untouched stepped replay.cause;
  whole = λ done. absurd (subst (StepCause named m.counts m.counts_after) done stepped);
  bounded = few_read m.left m.left_after untouched.input;
  complete = λ readied files read write _ _. inl (replay.complete readied files read write);
}

-- the reading of the dex did
pub archive_dex_ends : (o : Options) (m : MetWithKeeper) (status : Status) → IsUntouched m
    → Ended m.contents o.dex (λ lookup. dex_in lookup o.dex) status
    → (o.dex ≡ None → status ≡ NoMemory) → StepCause o.dex m.counts m.counts_after status → IsArchive o m status
archive_dex_ends o m status untouched ended alone stepped =
    stopped o m o.dex status untouched stepped (dex_ends o (plain m) status untouched.input untouched.quiet.output ended alone stepped)

-- or that of the configuration
pub archive_config_ends : (o : Options) (m : MetWithKeeper) (dex : Tables) (status : Status) → IsUntouched m
    → Stands m.contents o.dex (λ lookup. dex_in lookup o.dex) dex
    → Ended m.contents o.config (λ lookup. config_in lookup dex o.config) status → (o.config ≡ None → status ≡ NoMemory)
    → StepCause o.config m.counts m.counts_after status → IsArchive o m status
archive_config_ends o m dex status untouched stands ended alone stepped =
    stopped o m o.config status untouched stepped
    (config_ends o (plain m) dex status untouched.input untouched.quiet.output stands ended alone stepped)

-- ---- the notes were loaded

loaded_ends : (o : Options) (m : MetWithKeeper) (config : Settings) (dex : Tables) (loaded : List Note) (status : Status)
    → IsSetUp m.contents o config dex
    → IsLoaded m.dealings.kept loaded → InputEnds config dex loaded m.left (ReadFailed m) m.dealings status → ArchiveEnds o m status
loaded_ends o m config dex loaded Done s are ends = (loaded, are, (config, dex, s, ends))
loaded_ends o m config dex loaded (Usage word) s are ends = absurd ends
loaded_ends o m config dex loaded (FileMissing name) s are ends = absurd ends
loaded_ends o m config dex loaded (FileFault name) s are ends = absurd ends
loaded_ends o m config dex loaded (FileLong name) s are ends = absurd ends
loaded_ends o m config dex loaded (BadDex path kind) s are ends = absurd ends
loaded_ends o m config dex loaded (BadConfig path kind) s are ends = absurd ends
loaded_ends o m config dex loaded (BadScript line kind) s are ends = (loaded, are, (config, dex, s, ends))
loaded_ends o m config dex loaded (ScriptLong count) s are ends = (loaded, are, (config, dex, s, ends))
loaded_ends o m config dex loaded ReadFault s are ends = (loaded, are, (config, dex, s, ends))
loaded_ends o m config dex loaded WriteFault s are ends = (loaded, are, (config, dex, s, ends))
loaded_ends o m config dex loaded (BadTeam set rule subject) s are ends = absurd ends
loaded_ends o m config dex loaded NoMemory s are ends = inr (loaded, are, (config, dex, s, ends))
loaded_ends o m config dex loaded DoorFault s are ends = absurd ends
loaded_ends o m config dex loaded (UnknownFormat id) s are ends = absurd ends
loaded_ends o m config dex loaded (BadPack at kind) s are ends = absurd ends
loaded_ends o m config dex loaded NoTour s are ends = absurd ends
loaded_ends o m config dex loaded KeepFault s are ends = inr (loaded, are, (config, dex, s, ends))
loaded_ends o m config dex loaded (KeepFull count) s are ends = inr (loaded, are, (config, dex, s, ends))
loaded_ends o m config dex loaded (BadExport line) s are ends = absurd ends
loaded_ends o m config dex loaded (NoExport set) s are ends = absurd ends

not_bad : (groups : List Group) (left : Option (List ℕ)) (line : ℕ) (kind : ScriptKind) → IfSome left (IsBadScript groups line kind)
    → IsSomeAnd left (IsReadable groups) → ⊥
not_bad groups None line kind bad readable = readable
not_bad groups (Some bytes) line kind bad readable = bad.none readable.items readable.script

-- with an input that has a script
known_settles : (o : Options) (m : MetWithKeeper) (config : Settings) (dex : Tables) (loaded : List Note) (status : Status)
    → IsSetUp m.contents o config dex
    → IsLoaded m.dealings.kept loaded → InputEnds config dex loaded m.left (ReadFailed m) m.dealings status
    → IsSomeAnd m.left (IsReadable config.groups)
    → (ReadFailed m → ⊥) → (WriteFailed m.dealings → ⊥) → (KeeperFailed m.dealings → ⊥) → IsSettled status ⊎ IsOverFull o m status
known_settles o m config dex loaded Done s are ends readable read write keeper = inl tt
known_settles o m config dex loaded (Usage word) s are ends readable read write keeper = absurd ends
known_settles o m config dex loaded (FileMissing name) s are ends readable read write keeper = absurd ends
known_settles o m config dex loaded (FileFault name) s are ends readable read write keeper = absurd ends
known_settles o m config dex loaded (FileLong name) s are ends readable read write keeper = absurd ends
known_settles o m config dex loaded (BadDex path kind) s are ends readable read write keeper = absurd ends
known_settles o m config dex loaded (BadConfig path kind) s are ends readable read write keeper = absurd ends
known_settles o m config dex loaded (BadScript line kind) s are ends readable read write keeper = absurd
    (not_bad config.groups m.left line kind ends.1 readable)
known_settles o m config dex loaded (ScriptLong count) s are ends readable read write keeper = absurd
    (not_long config.groups m.left count ends.1 readable)
known_settles o m config dex loaded ReadFault s are ends readable read write keeper = absurd (read ends.1)
known_settles o m config dex loaded WriteFault s are ends readable read write keeper = absurd (write ends.1)
known_settles o m config dex loaded (BadTeam set rule subject) s are ends readable read write keeper = absurd ends
known_settles o m config dex loaded NoMemory s are ends readable read write keeper = inl tt
known_settles o m config dex loaded DoorFault s are ends readable read write keeper = absurd ends
known_settles o m config dex loaded (UnknownFormat id) s are ends readable read write keeper = absurd ends
known_settles o m config dex loaded (BadPack at kind) s are ends readable read write keeper = absurd ends
known_settles o m config dex loaded NoTour s are ends readable read write keeper = absurd ends
known_settles o m config dex loaded KeepFault s are ends readable read write keeper = absurd (keeper ends.1)
known_settles o m config dex loaded (KeepFull count) s are ends readable read write keeper = inr
    (count, refl, (loaded, are, (config, dex, s, ends)))
known_settles o m config dex loaded (BadExport line) s are ends readable read write keeper = absurd ends
known_settles o m config dex loaded (NoExport set) s are ends readable read write keeper = absurd ends

pub archive_ends : (o : Options) (m : MetWithKeeper) (config : Settings) (dex : Tables) (loaded : List Note) (status : Status)
    → IsSetUp m.contents o config dex
    → IsLoaded m.dealings.kept loaded → InputEnds config dex loaded m.left (ReadFailed m) m.dealings status
    → (status ≡ Done → IsAtEnd m.left_after)
    → ReadsFew m.left m.left_after → IsArchive o m status
archive_ends o m config dex loaded status s are ends whole few = record {
  usage = no_usage (InputEnds config dex loaded m.left (ReadFailed m) m.dealings) status (λ word wrong. wrong) ends;
  ends = loaded_ends o m config dex loaded status s are ends;
  whole = whole;
  bounded = few;
  complete = λ readied _ read write keeper _.
      known_settles o m config dex loaded status s are ends
      (subst (λ (c : Settings). IsSomeAnd m.left (IsReadable c.groups))
      (sym (one_config m.contents o config dex s readied.files)) readied.script)
      read write keeper;
}

-- ---- the script's notes were made

pub made_is : (start : Desk) (s : Setup) (items : List Item) (made : Option (List Note)) → start ≡ fresh s
    → made ≡ (ledger_from start items blank_noting).notes → made ≡ Some (notes s items)
made_is start s items made at is = is ∙ ap (λ (x : Desk). (ledger_from x items blank_noting).notes) at ∙ notes_is s items

pub not_none : {T : Type 0} (f : T → List Note) (made : Option T) (ns : List Note) → option_map f made ≡ Some ns → made ≡ None → ⊥
not_none f None ns is none = absurd cc
not_none f (Some v) ns is none = absurd cc

pub made_some : {T : Type 0} (f : T → List Note) (made : Option T) (v : T) (ns : List Note) → option_map f made ≡ Some ns → made ≡ Some v → f v ≡ ns
made_some f None v ns is some = absurd cc
made_some f (Some w) v ns is some = cc

pub all_archived : (config : Settings) (dex : Tables) (loaded more : List Note) (d : Dealings) (bytes : List ℕ) (items : List Item)
    → IsReadConfig config → long_of bytes ≡ None
    → IsScript (symbols_of config.groups) bytes items → more ≡ notes (setup_of config dex items) items → IsRoomFor loaded more
    → d.kept_after ≡ after_notes more d.kept → Appends d.written d.written_after (output (setup_of config dex items) items)
    → IsArchived config dex loaded d bytes
all_archived config dex loaded more d bytes items known within script is room noted wrote = record {
  transcript = record {
    within = within;
    items = items;
    script = script;
    wrote = wrote;
    blocks = blocks_of (setup_of config dex items) (symbols_of config.groups) bytes items script;
    read = read_back (setup_of config dex items) (symbols_of config.groups) bytes items script known.rooms known.formats known.few;
  };
  items = items;
  script = script;
  room = subst (IsRoomFor loaded) is room;
  noted = noted ∙ ap (λ (ns : List Note). after_notes ns d.kept) is;
}
