-- How a tournament ends.
use Rattle.std.proofs.Common.{◌≡◌, ◌≤◌, ℕ, List, [], ◌++◌, Option, refl, sym, ap, ◌∙◌, subst, inl, inr}
use Rattle.std.specs.Io.KnownBytes.{Appends, Keeps}
use Rattle.std.proofs.KnownBytes.{Appends-trans}
use Rattle.ps_outside.specs.Sinks.{AppendsFront}
use Rattle.ps_dex.specs.declared.item.Tables.{Tables}
use Rattle.rules_config.specs.declared.settings.Settings.{Settings}
use Rattle.ps_tour.specs.Brackets.{open_match}
use Rattle.replay_script.specs.declared.item.Item.{Item}
use Rattle.replay_state.specs.Setup.{Setup, setup_of}
use Rattle.replay_state.specs.Transcript.{output}
use Rattle.replay_state.specs.Tables.{fresh, text_from}
use Rattle.replay_state.proofs.TextLemmas.{fresh_is, output_is}
use Rattle.replay_drill.specs.declared.fight.Fight.{Fight}
use Rattle.replay_tour.specs.Entrants.{entering}
use Rattle.replay_tour.specs.Tours.{Tour, begun}
use Rattle.replay_tour.specs.Results.{result_text}
use Rattle.program_commands.specs.declared.status.Status.{Status}
use Rattle.program_commands.specs.declared.status.Status.TheVariants.{Done, Usage, FileMissing, FileFault, FileLong, BadDex, BadConfig, BadScript, ScriptLong, ReadFault, WriteFault, BadTeam, NoMemory, DoorFault, UnknownFormat, BadPack, NoTour, KeepFault, KeepFull, BadExport, NoExport}
use Rattle.program_commands.specs.Words.{Options, Toured}
use Rattle.program_commands.specs.Setups.{IsSetUp, IsSettled}
use Rattle.program_commands.specs.Fields.{HasField, HasNoField, LacksField}
use Rattle.program_commands.proofs.SetupLemmas.{one_dex, one_config}
use Rattle.ps_replay.specs.Tours.{lines_from, most_lines, entered, match_lines, tour_start, tour_script, played, tour_end, tour_output, IsTour, WritesFrontOfTour, HasGoodField, SettlesTour, PlaysLines, PlaysFront, PlaysTour}
use Rattle.ps_replay.proofs.CommandLemmas.{keeps}
use Rattle.ps_replay.proofs.MatchLemmas.{longer, front_behind}
use Rattle.ps_replay.proofs.TourLemmas.{setup_same, two_worlds, decided}

-- ---- nobody plays

pub lacks_plays : (words : Toured) (old : Option (List ℕ)) (config : Settings) (dex : Tables) (status : Status) → LacksField config dex status → PlaysTour words old old config dex status
lacks_plays words old config dex status (inl e) = subst (PlaysTour words old old config dex) (sym e) (inl (keeps old))
lacks_plays words old config dex status (inr none) = subst (PlaysTour words old old config dex) (sym none.0) (keeps old, none.1)

-- ---- the transcript is that of the script

script_text : (config : Settings) (dex : Tables) (fight : Fight) (words : Toured)
    → text_from (fresh (setup_of config dex [])) (entering config fight.team words.users ++ lines_from most_lines fight.format (begun words.users words.seed) (entered config dex fight words))
    ≡ output (setup_of config dex (tour_script config dex fight words)) (tour_script config dex fight words)
script_text config dex fight words =
    let script : List Item = tour_script config dex fight words in
    ap (λ (s : Setup). text_from (fresh s) script) (sym (setup_same config dex fight.team words.users most_lines fight.format (begun words.users words.seed) (entered config dex fight words)))
    ∙ output_is (setup_of config dex script) script

pub front_of_tour : (config : Settings) (dex : Tables) (fight : Fight) (words : Toured) (old new : Option (List ℕ)) → HasField config dex fight
    → PlaysFront (entering config fight.team words.users) most_lines fight.format (begun words.users words.seed) (fresh (setup_of config dex [])) old new → WritesFrontOfTour words old new config dex
front_of_tour config dex fight words old new field front =
    let script : List Item = tour_script config dex fight words in
    let there = front.front (tour_start config dex) (fresh_is (setup_of config dex [])) in
    record {
      fight = fight;
      field = field;
      front = longer old new (output (setup_of config dex script) script) (result_text (tour_end config dex fight words)) (subst (AppendsFront old new) (script_text config dex fight words) there);
    }

wrote_script : (config : Settings) (dex : Tables) (fight : Fight) (words : Toured) (after : Tour) (old new : Option (List ℕ))
    → PlaysLines (entering config fight.team words.users) most_lines fight.format (begun words.users words.seed) after (fresh (setup_of config dex [])) old new
    → Appends old new (output (setup_of config dex (tour_script config dex fight words)) (tour_script config dex fight words))
wrote_script config dex fight words after old new a =
    subst (Appends old new) (script_text config dex fight words) (a.wrote (tour_start config dex) (fresh_is (setup_of config dex [])))

end_is_after : (config : Settings) (dex : Tables) (fight : Fight) (words : Toured) (after : Tour) (old new : Option (List ℕ))
    → PlaysLines (entering config fight.team words.users) most_lines fight.format (begun words.users words.seed) after (fresh (setup_of config dex [])) old new → after ≡ tour_end config dex fight words
end_is_after config dex fight words after old new a =
    a.after_is (tour_start config dex) (fresh_is (setup_of config dex []))

pub front_of_results : (config : Settings) (dex : Tables) (fight : Fight) (words : Toured) (after : Tour) (old mid new : Option (List ℕ)) → HasField config dex fight
    → PlaysLines (entering config fight.team words.users) most_lines fight.format (begun words.users words.seed) after (fresh (setup_of config dex [])) old mid
    → AppendsFront mid new (result_text after) → WritesFrontOfTour words old new config dex
front_of_results config dex fight words after old mid new field a front =
    let script : List Item = tour_script config dex fight words in
    record {
      fight = fight;
      field = field;
      front = front_behind old mid new (output (setup_of config dex script) script) (result_text (tour_end config dex fight words)) (wrote_script config dex fight words after old mid a)
          (subst (λ (t : Tour). AppendsFront mid new (result_text t)) (end_is_after config dex fight words after old mid a) front);
    }

pub whole_tour : (config : Settings) (dex : Tables) (fight : Fight) (words : Toured) (after : Tour) (old mid new : Option (List ℕ)) → 2 ≤ words.users → words.users ≤ 16 → HasField config dex fight
    → PlaysLines (entering config fight.team words.users) most_lines fight.format (begun words.users words.seed) after (fresh (setup_of config dex [])) old mid
    → Appends mid new (result_text after) → IsTour words old new config dex
whole_tour config dex fight words after old mid new some few field a told =
    let script : List Item = tour_script config dex fight words in
    let end : after ≡ tour_end config dex fight words = end_is_after config dex fight words after old mid a in
    record {
      fight = fight;
      field = field;
      wrote = Appends-trans old mid new (output (setup_of config dex script) script) (result_text (tour_end config dex fight words)) (wrote_script config dex fight words after old mid a)
          (subst (λ (t : Tour). Appends mid new (result_text t)) end told);
      decided = decided words.users words.seed (entered config dex fight words) (match_lines config dex fight words) some few (ap (λ (t : Tour). open_match t.round) (sym end) ∙ a.over);
      two_worlds = two_worlds config dex fight.team words.users words.seed most_lines fight.format some few;
    }

-- ---- completeness

pub run_settles : (contents : Option (List ℕ → Option (List ℕ))) (options : Options) (words : Toured) (config : Settings) (dex : Tables) (old new : Option (List ℕ)) (file_fault write_fault : Type 0) (status : Status) → IsSetUp contents options config dex
    → PlaysTour words old new config dex status → (status ≡ WriteFault → write_fault) → SettlesTour contents file_fault write_fault options status
run_settles contents options words config dex old new file_fault write_fault Done set plays wrote = record { settled = λ _ _ _. tt }
run_settles contents options words config dex old new file_fault write_fault NoMemory set plays wrote = record { settled = λ _ _ _. tt }
run_settles contents options words config dex old new file_fault write_fault WriteFault set plays wrote = record { settled = λ _ _ sink. absurd (sink (wrote refl)) }
run_settles contents options words config dex old new file_fault write_fault NoTour set plays wrote = record {
  settled = λ good _ _.
      absurd (plays.1 good.fight (subst (λ (c : Settings). HasField c dex good.fight) (sym (one_config contents options config dex set good.files))
      (subst (λ (d : Tables). HasField good.files.config d good.fight) (sym (one_dex contents options dex set.dex_is good.files)) good.field)));
}
run_settles contents options words config dex old new file_fault write_fault (Usage word) set plays wrote = absurd plays
run_settles contents options words config dex old new file_fault write_fault (FileMissing name) set plays wrote = absurd plays
run_settles contents options words config dex old new file_fault write_fault (FileFault name) set plays wrote = absurd plays
run_settles contents options words config dex old new file_fault write_fault (FileLong name) set plays wrote = absurd plays
run_settles contents options words config dex old new file_fault write_fault (BadDex path kind) set plays wrote = absurd plays
run_settles contents options words config dex old new file_fault write_fault (BadConfig path kind) set plays wrote = absurd plays
run_settles contents options words config dex old new file_fault write_fault (BadScript line kind) set plays wrote = absurd plays
run_settles contents options words config dex old new file_fault write_fault (ScriptLong count) set plays wrote = absurd plays
run_settles contents options words config dex old new file_fault write_fault ReadFault set plays wrote = absurd plays
run_settles contents options words config dex old new file_fault write_fault (BadTeam set_no rule subject) set plays wrote = absurd plays
run_settles contents options words config dex old new file_fault write_fault DoorFault set plays wrote = absurd plays
run_settles contents options words config dex old new file_fault write_fault (UnknownFormat id) set plays wrote = absurd plays
run_settles contents options words config dex old new file_fault write_fault (BadPack at kind) set plays wrote = absurd plays
run_settles contents options words config dex old new file_fault write_fault KeepFault set plays wrote = absurd plays
run_settles contents options words config dex old new file_fault write_fault (KeepFull count) set plays wrote = absurd plays
run_settles contents options words config dex old new file_fault write_fault (BadExport line) set plays wrote = absurd plays
run_settles contents options words config dex old new file_fault write_fault (NoExport set_no) set plays wrote = absurd plays
