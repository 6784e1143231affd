-- What a command or a round makes of two battles that are alike: they stay alike, and the same is told of both, which names no hidden member.
use Rattle.std.proofs.Common.{◌≡◌, ℕ, zero, suc, ◌<◌, Bool, true, false, List, [], Option, Some, None, Result, Ok, Err, refl, ap, subst}
use Rattle.std.proofs.lemmas.List.Elements.{All-nil, All-cons}
use Rattle.std.specs.List.{All}
use Rattle.ps_base.specs.declared.why.Why.{Why}
use Rattle.ps_lines.specs.declared.command.Command.{Command}
use Rattle.ps_lines.specs.declared.command.Command.TheVariants.{Choose, Undo, Forfeit}
use Rattle.ps_event.specs.declared.event.Event.TheVariants as events
use Rattle.ps_mon.specs.declared.choice.Choice.{Choice}
use Rattle.ps_mon.specs.Choices.{IsChoiceOf}
use Rattle.ps_mon.specs.Facts.{Figures}
use Rattle.ps_mon.specs.Reading.{side_of}
use Rattle.ps_dex.specs.declared.item.Tables.{Tables}
use Rattle.ps_dex.specs.Figures.{figures_of}
use Rattle.ps_hits.specs.Courses.{Course, untold}
use Rattle.ps_hits.specs.Told.{side_name}
use Rattle.ps_battle.specs.Turns.{turn}
use Rattle.battle_rounds.specs.declared.bout.Bout.{Bout}
use Rattle.battle_rounds.specs.Bouts.{with_waiting}
use Rattle.battle_rounds.specs.Refusals.{chosen}
use Rattle.battle_rounds.specs.Rounds.{Outcome, in_round, next_round, undone, gave_up}
use Rattle.battle_rounds.specs.Fights.{Fight, still, outcome_in}
use Rattle.ps_chat.specs.declared.present.Present.{Present}
use Rattle.battle_secrecy.specs.Places.{Hidden}
use Rattle.battle_secrecy.specs.Laws.{forms, IsChoiceUnhidden, fronts, AreToldAlike}
use Rattle.battle_secrecy.specs.Showing.{NamesNoHidden, ShowsNoHidden, whos}
use Rattle.battle_secrecy.proofs.OpeningLemmas.{give_up_alike}
use Rattle.battle_secrecy.proofs.TellTurnLemmas.{IsShown}
use Rattle.battle_secrecy.proofs.TurnLemmas.{turn_alike}
use Rattle.ps_room.specs.Roles.{side_of_member}
use Rattle.ps_room.specs.Rooms.{outcome_by}
use Rattle.ps_laws.specs.Alike.{AreBoutsAlike, AreFightsAlike, AreMaybeAlike}
use Rattle.ps_laws.proofs.PartLemmas.{PlaysOwn, is_choose, side_below}
use Rattle.ps_laws.proofs.ItemLemmas.{put_choice, waiting_in, waiting_fight, outcome_of_choices}
use Rattle.ps_laws.proofs.TwinSideLemmas.{IsOpen, side_same, own_chosen_same}

-- alike battles after the same events, none of which names a hidden member
pub record AreOutcomesAlike (places : Hidden) (o p : Outcome) : Type 0 where
  pub bout : AreBoutsAlike places o.bout p.bout
  pub told : o.told ≡ p.told
  pub names : NamesNoHidden places o.told

-- the battles of two rooms after such outcomes
pub with_outcome : (places : Hidden) (f g : Fight) (o p : Outcome) → AreFightsAlike places f g → AreOutcomesAlike places o p →
    AreFightsAlike places (record f { bout = o.bout }) (record g { bout = p.bout })
with_outcome places f g o p w outcomes = record { number = w.number; names = w.names; dex = w.dex; bout = outcomes.bout }

-- ---- what waits

pub waits_alike : (places : Hidden) (a b : Bout) (s : ℕ) (choice : Option Choice) → AreBoutsAlike places a b → AreBoutsAlike places (with_waiting s choice a) (with_waiting s choice b)
waits_alike places a b zero choice w = record { battle = w.battle; round = w.round; first = refl; second = w.second }
waits_alike places a b (suc s) choice w = record { battle = w.battle; round = w.round; first = w.first; second = refl }

put_alike : (places : Hidden) (a b : Bout) (s : ℕ) (x : Result Choice Why) → AreBoutsAlike places a b → AreBoutsAlike places (put_choice s x a) (put_choice s x b)
put_alike places a b s (Ok choice) w = waits_alike places a b s (Some choice) w
put_alike places a b s (Err why) w = w

-- the choice of an own side waits
waiting_alike : (own : ℕ → Bool) (places : Hidden) (f g : Fight) (side : Option ℕ) (choice : List ℕ) (rqid : Option ℕ) → IsOpen own places → ((s : ℕ) → side ≡ Some s → s < 2) →
    ((s : ℕ) → side ≡ Some s → own s ≡ true) → AreFightsAlike places f g →
    AreBoutsAlike places (waiting_in f.cast.dex f.bout side choice rqid) (waiting_in g.cast.dex g.bout side choice rqid)
waiting_alike own places f g None choice rqid plain below mine w = w.bout
waiting_alike own places f g (Some s) choice rqid plain below mine w =
    subst (λ (x : Result Choice Why). AreBoutsAlike places (waiting_in f.cast.dex f.bout (Some s) choice rqid) (put_choice s x g.bout))
    (own_chosen_same own places f g s choice rqid plain (below s refl) (mine s refl) w)
    (put_alike places f.bout g.bout s (chosen f.bout s f.cast.dex choice rqid) w.bout)

pub waiting_fight_alike : (own : ℕ → Bool) (places : Hidden) (fo go : Option Fight) (me : Option Present) (choice : List ℕ) (rqid : Option ℕ) → IsOpen own places →
    PlaysOwn own fo me → AreMaybeAlike places fo go → AreMaybeAlike places (waiting_fight fo me choice rqid) (waiting_fight go me choice rqid)
waiting_fight_alike own places None None me choice rqid plain plays w = tt
waiting_fight_alike own places None (Some g) me choice rqid plain plays w = absurd w
waiting_fight_alike own places (Some f) None me choice rqid plain plays w = absurd w
waiting_fight_alike own places (Some f) (Some g) me choice rqid plain plays w =
    let bouts : AreBoutsAlike places (waiting_in f.cast.dex f.bout (side_of_member f.cast me) choice rqid) (waiting_in g.cast.dex g.bout (side_of_member g.cast me) choice rqid) =
    subst (λ (side : Option ℕ). AreBoutsAlike places (waiting_in f.cast.dex f.bout (side_of_member f.cast me) choice rqid) (waiting_in g.cast.dex g.bout side choice rqid)) (side_same places f g me w)
    (waiting_alike own places f g (side_of_member f.cast me) choice rqid plain (side_below f.cast me) plays w) in
    record { number = w.number; names = w.names; dex = w.dex; bout = bouts }

-- ---- commands that aren't choices

pub names_none : (places : Hidden) → NamesNoHidden places []
names_none places = All-nil (λ e. All (IsShown places) (whos e))

still_alike : (places : Hidden) (a b : Bout) → AreBoutsAlike places a b → AreOutcomesAlike places (still a) (still b)
still_alike places a b w = record { bout = w; told = refl; names = names_none places }

-- a request names nobody
undone_alike : (places : Hidden) (a b : Bout) (s : ℕ) → AreBoutsAlike places a b → AreOutcomesAlike places (undone s a) (undone s b)
undone_alike places a b s w = record {
  bout = waits_alike places a b s None w;
  told = refl;
  names = All-cons (λ e. All (IsShown places) (whos e)) (events.Request (side_name s)) [] (All-nil (IsShown places)) (names_none places);
}

-- what a step makes of a battle, where the same round is open and nothing waits
in_round_alike : (places : Hidden) (one two : ℕ) (c d : Course) → one ≡ two → AreToldAlike places c d → AreOutcomesAlike places (in_round one c) (in_round two d)
in_round_alike places one two c d same w = record { bout = record { battle = w.battle; round = same; first = refl; second = refl }; told = w.told; names = w.names }

gave_up_alike : (places : Hidden) (a b : Bout) (s : ℕ) → AreBoutsAlike places a b → AreOutcomesAlike places (gave_up s a) (gave_up s b)
unfolding gave_up
gave_up_alike places a b s w = in_round_alike places a.round b.round _ _ w.round (give_up_alike s places a.battle b.battle w.battle)

side_outcome_alike : (places : Hidden) (f g : Fight) (side : Option ℕ) (cmd : Command) → is_choose cmd ≡ false → AreFightsAlike places f g →
    AreOutcomesAlike places (outcome_in f.cast.dex f.bout side cmd) (outcome_in g.cast.dex g.bout side cmd)
side_outcome_alike places f g None cmd free w = still_alike places f.bout g.bout w.bout
side_outcome_alike places f g (Some s) (Choose choice rqid) free w = absurd cc
side_outcome_alike places f g (Some s) Undo free w = undone_alike places f.bout g.bout s w.bout
side_outcome_alike places f g (Some s) Forfeit free w = gave_up_alike places f.bout g.bout s w.bout
side_outcome_alike places f g (Some s) other free w = still_alike places f.bout g.bout w.bout

pub outcome_alike : (places : Hidden) (f g : Fight) (me : Option Present) (cmd : Command) → is_choose cmd ≡ false → AreFightsAlike places f g →
    AreOutcomesAlike places (outcome_by f me cmd) (outcome_by g me cmd)
outcome_alike places f g me cmd free w =
    subst (λ (side : Option ℕ). AreOutcomesAlike places (outcome_by f me cmd) (outcome_in g.cast.dex g.bout side cmd)) (side_same places f g me w)
    (side_outcome_alike places f g (side_of_member f.cast me) cmd free w)

-- ---- a round

-- two choices that both sides may be committed with, where neither they nor what is told of the round show a hidden place
pub record AreChoicesGood (places : Hidden) (f : Fight) (first second : Choice) : Type 0 where
  pub one : IsChoiceOf f.bout.battle 0 first
  pub two : IsChoiceOf f.bout.battle 1 second
  pub unhidden : IsChoiceUnhidden places 0 (side_of f.bout.battle 0) first
  pub unhidden_too : IsChoiceUnhidden places 1 (side_of f.bout.battle 1) second
  pub shown : ShowsNoHidden places (fronts (turn (figures_of f.cast.dex) first second (untold f.bout.battle)).battle) (forms f.bout.battle first second) (turn (figures_of f.cast.dex) first second (untold f.bout.battle)).told

pub choices_alike : (places : Hidden) (f g : Fight) (first second : Choice) → AreChoicesGood places f first second → AreFightsAlike places f g →
    AreOutcomesAlike places (outcome_of_choices f first second) (outcome_of_choices g first second)
choices_alike places f g first second good w =
    let figures : Figures = figures_of f.cast.dex in
    let turns : AreToldAlike places (turn figures first second (untold f.bout.battle)) (turn figures first second (untold g.bout.battle)) =
    turn_alike figures first second places f.bout.battle g.bout.battle w.bout.battle good.one good.two good.unhidden good.unhidden_too good.shown in
    let round : next_round f.bout.round ≡ next_round g.bout.round = ap next_round w.bout.round in
    subst (λ (dex : Tables). AreOutcomesAlike places (outcome_of_choices f first second) (in_round (next_round g.bout.round) (turn (figures_of dex) first second (untold g.bout.battle)))) w.dex
    (in_round_alike places (next_round f.bout.round) (next_round g.bout.round) (turn figures first second (untold f.bout.battle)) (turn figures first second (untold g.bout.battle)) round turns)
