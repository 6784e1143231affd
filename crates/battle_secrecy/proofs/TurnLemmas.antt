-- A turn keeps battles alike, and tells the same in both.
use Rattle.std.proofs.Common.{◌≡◌, ◌⊎◌, inl, inr, [], All, ℕ, ◌<◌, ◌-◌, Bool, true, false, cond, length, get_or, refl, ap, ◌∙◌, sym, subst, arith}
use Rattle.std.specs.List.{list_any}
use Rattle.std.proofs.lemmas.List.Elements.{All-nil}
use Rattle.ps_mon.specs.declared.record.Battle.{Battle}
use Rattle.ps_mon.specs.declared.record.SideState.{SideState}
use Rattle.ps_mon.specs.declared.record.Phase.{Phase}
use Rattle.ps_mon.specs.declared.record.Phase.TheVariants as phases
use Rattle.ps_mon.specs.declared.choice.Choice.{Choice}
use Rattle.ps_mon.specs.declared.choice.Choice.TheVariants as choices
use Rattle.ps_mon.specs.Facts.{Figures}
use Rattle.ps_mon.specs.Choices.{IsThere, IsChoiceOf}
use Rattle.ps_mon.specs.Reading.{side_of, active_index, no_side}
use Rattle.ps_hits.specs.Courses.{Course, untold}
use Rattle.ps_battle.specs.Acts.{two_acts}
use Rattle.ps_battle.specs.Closings.{closed, next_turn}
use Rattle.ps_battle.specs.Switches.{begun, switched}
use Rattle.ps_battle.specs.Turns.{first_of, acted, both_switched, placed, sent_out, turn_in, turn}
use Rattle.ps_battle.proofs.ChoiceLemmas.{there-is-choice}
use Rattle.battle_secrecy.specs.Places.{Hidden}
use Rattle.battle_secrecy.specs.Alike.{AreAlike, AreBattlesAlike, AreActiveShown, IsUnsent}
use Rattle.battle_secrecy.specs.Showing.{takes_form, whos, ShowsNoHidden}
use Rattle.battle_secrecy.specs.Courses.{AreCoursesAlike, HasForms}
use Rattle.battle_secrecy.specs.Laws.{fronts, forms, AreToldAlike, IsChoiceUnhidden, TurnKeepsAlike}
use Rattle.battle_secrecy.proofs.FormLemmas.{acts_begin}
use Rattle.battle_secrecy.proofs.SlotLemmas.{IsActUnhidden, priority_alike}
use Rattle.battle_secrecy.proofs.ShowLemmas.{unshown_before}
use Rattle.battle_secrecy.proofs.KindLemmas.{begun_course, begin_alike, begun_order, begun_count, first_alike, rng_alike}
use Rattle.battle_secrecy.proofs.CloseLemmas.{close_alike, next_alike, next_sides, closed_sides}
use Rattle.battle_secrecy.proofs.SwitchLemmas.{SendsShown, sends_shown, sends_kept, switched_foe, both_switched_alike}
use Rattle.battle_secrecy.proofs.TellActLemmas.{acted_step}
use Rattle.battle_secrecy.proofs.TellTurnLemmas.{IsOut, IsShown, closed_step, started_such, turn_names}
use Rattle.battle_secrecy.proofs.FrontLemmas.{IsInsideIn, inside_there}
use Rattle.battle_secrecy.proofs.OpeningLemmas.{started_alike}
use Rattle.battle_secrecy.proofs.OrderLemmas.{both_ordered, orders_alike, battles_alike, sent_alike}
use Rattle.battle_secrecy.proofs.ActLemmas.{two_acts_alike}

-- ---- the acts

-- the acts in either order
in-order : (facts : Figures) (one two : Choice) (first : Bool) (hidden : Hidden) (front : ℕ → ℕ) (formed : ℕ → ℕ → Bool) (a b : Course) → IsActUnhidden hidden 0 (front 0) one → IsActUnhidden hidden 1 (front 1) two →
    ShowsNoHidden hidden front formed (cond first (two_acts facts 0 one 1 two a) (two_acts facts 1 two 0 one a)).told → HasForms formed front a → AreCoursesAlike hidden front a b →
    AreCoursesAlike hidden front (cond first (two_acts facts 0 one 1 two a) (two_acts facts 1 two 0 one a)) (cond first (two_acts facts 0 one 1 two b) (two_acts facts 1 two 0 one b))
in-order facts one two true hidden front formed a b p q unshown has w = two_acts_alike facts 0 one 1 two hidden front formed a b (omega arith) (omega arith) p q unshown has w
in-order facts one two false hidden front formed a b p q unshown has w = two_acts_alike facts 1 two 0 one hidden front formed a b (omega arith) (omega arith) q p unshown has w

-- a course from a state of the random source
from : ℕ → Course → Course
from x c = record c { battle = record c.battle { rng = x } }

acted-by : Bool × ℕ → Figures → Choice → Choice → Course → Course
acted-by first facts one two c = cond first.0 (two_acts facts 0 one 1 two (from first.1 c)) (two_acts facts 1 two 0 one (from first.1 c))

acted-is : (facts : Figures) (one two : Choice) (c : Course) → acted facts one two c ≡ acted-by (first_of facts one two c.battle) facts one two c
unfolding acted acted-by from
acted-is facts one two c = refl

acted-by-alike : (first : Bool × ℕ) (facts : Figures) (one two : Choice) (hidden : Hidden) (front : ℕ → ℕ) (formed : ℕ → ℕ → Bool) (a b : Course) → IsActUnhidden hidden 0 (front 0) one → IsActUnhidden hidden 1 (front 1) two →
    ShowsNoHidden hidden front formed (acted-by first facts one two a).told → HasForms formed front a → AreCoursesAlike hidden front a b → AreCoursesAlike hidden front (acted-by first facts one two a) (acted-by first facts one two b)
unfolding acted-by from
acted-by-alike first facts one two hidden front formed a b p q unshown has w =
    in-order facts one two first.0 hidden front formed _ _ p q unshown (record { two = has.two; copied = has.copied }) (rng_alike first.1 first.1 hidden front a b refl w)

-- a choice that isn't hidden at the place of an active member
act-at : (hidden : Hidden) (s here there : ℕ) (choice : Choice) → here ≡ there → IsActUnhidden hidden s there choice → IsActUnhidden hidden s here choice
act-at hidden s here there choice e h = subst (λ k. IsActUnhidden hidden s k choice) (sym e) h

pub acted_alike : (facts : Figures) (one two : Choice) (hidden : Hidden) (front : ℕ → ℕ) (formed : ℕ → ℕ → Bool) (a b : Course) → IsActUnhidden hidden 0 (front 0) one → IsActUnhidden hidden 1 (front 1) two →
    ShowsNoHidden hidden front formed (acted facts one two a).told → HasForms formed front a → AreCoursesAlike hidden front a b → AreCoursesAlike hidden front (acted facts one two a) (acted facts one two b)
acted_alike facts one two hidden front formed a b p q unshown has w =
    let first : first_of facts one two a.battle ≡ first_of facts one two b.battle = first_alike hidden a.battle b.battle facts one two
    (priority_alike facts hidden 0 _ _ one (act-at hidden 0 _ _ one (w.indices 0 (omega arith)) p) (w.battle.sides 0 (omega arith)))
    (priority_alike facts hidden 1 _ _ two (act-at hidden 1 _ _ two (w.indices 1 (omega arith)) q) (w.battle.sides 1 (omega arith))) w.battle in
    let P : Bool × ℕ → Type 0 = λ r. AreCoursesAlike hidden front (acted-by (first_of facts one two a.battle) facts one two a) (acted-by r facts one two b) in
    let same = subst P first (acted-by-alike (first_of facts one two a.battle) facts one two hidden front formed a b p q (rw acted-is at unshown) has w) in
    rw (acted-is facts one two a) (rw (acted-is facts one two b) same)

-- ---- choices after the switches

-- who acts hasn't been switched
first-acts : (hidden : Hidden) (one two : Choice) (c : Course) → length c.battle.sides ≡ 2 → IsActUnhidden hidden 0 (active_index (side_of c.battle 0)) one → IsActUnhidden hidden 0 (active_index (side_of (both_switched one two c).battle 0)) one
unfolding both_switched switched
first-acts hidden (choices.Move n) two c long shown = ap (λ l. hidden.slot 0 (get_or l 0 0) (n - 1)) (switched_foe 1 two c (omega arith) long).0 ∙ shown
first-acts hidden choices.Struggle two c long shown = tt
first-acts hidden choices.Continue two c long shown = tt
first-acts hidden (choices.Switch position) two c long shown = tt
first-acts hidden choices.Pass two c long shown = tt
first-acts hidden (choices.Team numbers) two c long shown = tt

second-acts : (hidden : Hidden) (one two : Choice) (c : Course) → length c.battle.sides ≡ 2 → IsActUnhidden hidden 1 (active_index (side_of c.battle 1)) two → IsActUnhidden hidden 1 (active_index (side_of (both_switched one two c).battle 1)) two
unfolding both_switched switched
second-acts hidden one (choices.Move n) c long shown = ap (λ l. hidden.slot 1 (get_or l 0 0) (n - 1)) (switched_foe 0 one c (omega arith) long).0 ∙ shown
second-acts hidden one choices.Struggle c long shown = tt
second-acts hidden one choices.Continue c long shown = tt
second-acts hidden one (choices.Switch position) c long shown = tt
second-acts hidden one choices.Pass c long shown = tt
second-acts hidden one (choices.Team numbers) c long shown = tt

act-of : (hidden : Hidden) (s : ℕ) (side : SideState) (choice : Choice) → IsChoiceUnhidden hidden s side choice → IsActUnhidden hidden s (active_index side) choice
act-of hidden s side (choices.Move n) h = h
act-of hidden s side choices.Struggle h = tt
act-of hidden s side choices.Continue h = tt
act-of hidden s side (choices.Switch position) h = tt
act-of hidden s side choices.Pass h = tt
act-of hidden s side (choices.Team numbers) h = tt

-- ---- a turn by its phase

-- the same courses, where the active members are named by other places that are the same
refronted : (hidden : Hidden) (front new : ℕ → ℕ) (a b : Course) → ((s : ℕ) → s < 2 → front s ≡ new s) → AreCoursesAlike hidden front a b → AreCoursesAlike hidden new a b
refronted hidden front new a b same w = record { battle = w.battle; indices = λ s h. w.indices s h ∙ same s h; told = w.told }

in-turn : (facts : Figures) (one two : Choice) (hidden : Hidden) (front : ℕ → ℕ) (formed : ℕ → ℕ → Bool) (a b : Course) → SendsShown (hidden.member 0) (side_of a.battle 0) one → SendsShown (hidden.member 1) (side_of a.battle 1) two →
    IsActUnhidden hidden 0 (active_index (side_of a.battle 0)) one → IsActUnhidden hidden 1 (active_index (side_of a.battle 1)) two →
    ShowsNoHidden hidden (fronts (closed (acted facts one two (both_switched one two a))).battle) formed (closed (acted facts one two (both_switched one two a))).told → ((new : ℕ → ℕ) → HasForms formed new (both_switched one two a)) → AreCoursesAlike hidden front a b →
    AreCoursesAlike hidden (fronts (closed (acted facts one two (both_switched one two a))).battle) (closed (acted facts one two (both_switched one two a))) (closed (acted facts one two (both_switched one two b)))
in-turn facts one two hidden front formed a b sends sends_too acts acts_too unshown has w =
    let begin : Course = both_switched one two a in
    let done : Course = acted facts one two begin in
    let last : ℕ → ℕ = fronts (closed done).battle in
    let stays : (s : ℕ) → s < 2 → active_index (side_of begin.battle s) ≡ last s = λ s h. sym (ap (λ xs. active_index (get_or xs s no_side)) (closed_sides done) ∙ (acted_step facts one two begin).index s h) in
    let switched = refronted hidden _ last _ _ stays (both_switched_alike one two hidden front a b sends sends_too w) in
    let before : ShowsNoHidden hidden last formed done.told = unshown_before hidden last formed done.told (closed done).told (closed_step done).grows unshown in
    let p : IsActUnhidden hidden 0 (last 0) one = act-at hidden 0 _ _ one (sym (stays 0 (omega arith))) (first-acts hidden one two a w.battle.first_two acts) in
    let q : IsActUnhidden hidden 1 (last 1) two = act-at hidden 1 _ _ two (sym (stays 1 (omega arith))) (second-acts hidden one two a w.battle.first_two acts_too) in
    close_alike hidden last _ _ (acted_alike facts one two hidden last formed _ _ p q before (has last) switched)

-- what a choice names is there, and isn't hidden, at the begin of a turn
sends-begun : (hidden : Hidden) (s : ℕ) (b : Battle) (choice : Choice) → s < 2 → length b.sides ≡ 2 → IsThere (side_of b s) choice → IsChoiceUnhidden hidden s (side_of b s) choice → SendsShown (hidden.member s) (side_of (begun b) s) choice
sends-begun hidden s b choice lt two there shown =
    sends_kept (hidden.member s) (side_of b s) (side_of (begun b) s) choice (begun_order b two s lt) (begun_count b two s lt) (sends_shown hidden s (side_of b s) choice there shown)

acts-begun : (hidden : Hidden) (s : ℕ) (b : Battle) (choice : Choice) → s < 2 → length b.sides ≡ 2 → IsChoiceUnhidden hidden s (side_of b s) choice → IsActUnhidden hidden s (active_index (side_of (begun b) s)) choice
acts-begun hidden s b choice lt two shown =
    act-at hidden s _ _ choice (ap (λ l. get_or l 0 0) (begun_order b two s lt)) (act-of hidden s (side_of b s) choice shown)

replaced : (one two : Choice) (hidden : Hidden) (front : ℕ → ℕ) (a b : Course) → SendsShown (hidden.member 0) (side_of a.battle 0) one → SendsShown (hidden.member 1) (side_of a.battle 1) two → AreCoursesAlike hidden front a b →
    AreCoursesAlike hidden (fronts (next_turn (both_switched one two a)).battle) (next_turn (both_switched one two a)) (next_turn (both_switched one two b))
replaced one two hidden front a b sends sends_too w =
    let begin : Course = both_switched one two a in
    let stays : (s : ℕ) → s < 2 → active_index (side_of begin.battle s) ≡ fronts (next_turn begin).battle s = λ s h. sym (ap (λ xs. active_index (get_or xs s no_side)) (next_sides begin)) in
    refronted hidden _ _ _ _ stays (next_alike hidden _ _ _ (both_switched_alike one two hidden front a b sends sends_too w))

turn_in_alike : (phase : Phase) (facts : Figures) (one two : Choice) (hidden : Hidden) (a b : Course) → IsOut phase → IsThere (side_of a.battle 0) one → IsThere (side_of a.battle 1) two →
    IsChoiceUnhidden hidden 0 (side_of a.battle 0) one → IsChoiceUnhidden hidden 1 (side_of a.battle 1) two →
    ((s k : ℕ) → list_any (takes_form s k) a.told ≡ false) → ShowsNoHidden hidden (fronts (turn_in phase facts one two a).battle) (forms a.battle one two) (turn_in phase facts one two a).told → AreCoursesAlike hidden (fronts a.battle) a b →
    AreCoursesAlike hidden (fronts (turn_in phase facts one two a).battle) (turn_in phase facts one two a) (turn_in phase facts one two b)
unfolding turn_in
turn_in_alike phases.Preview facts one two hidden a b out there there_too shown shown_too none unshown w = absurd out
turn_in_alike phases.Turn facts one two hidden a b out there there_too shown shown_too none unshown w =
    let long : length a.battle.sides ≡ 2 = w.battle.first_two in
    in-turn facts one two hidden (fronts a.battle) (forms a.battle one two) (begun_course a) (begun_course b)
    (sends-begun hidden 0 a.battle one (omega arith) long there shown) (sends-begun hidden 1 a.battle two (omega arith) long there_too shown_too)
    (acts-begun hidden 0 a.battle one (omega arith) long shown) (acts-begun hidden 1 a.battle two (omega arith) long shown_too)
    unshown (λ new. acts_begin one two a new long none) (begin_alike hidden (fronts a.battle) a b w)
turn_in_alike (phases.Replace p1 p2) facts one two hidden a b out there there_too shown shown_too none unshown w =
    replaced one two hidden (fronts a.battle) a b (sends_shown hidden 0 (side_of a.battle 0) one there shown) (sends_shown hidden 1 (side_of a.battle 1) two there_too shown_too) w
turn_in_alike (phases.Won side) facts one two hidden a b out there there_too shown shown_too none unshown w = w
turn_in_alike phases.Tied facts one two hidden a b out there there_too shown shown_too none unshown w = w

-- from a course by whose events nobody took another's form
pub turn_course_alike : (facts : Figures) (one two : Choice) (hidden : Hidden) (a b : Course) → IsOut a.battle.phase → IsThere (side_of a.battle 0) one → IsThere (side_of a.battle 1) two →
    IsChoiceUnhidden hidden 0 (side_of a.battle 0) one → IsChoiceUnhidden hidden 1 (side_of a.battle 1) two →
    ((s k : ℕ) → list_any (takes_form s k) a.told ≡ false) → ShowsNoHidden hidden (fronts (turn facts one two a).battle) (forms a.battle one two) (turn facts one two a).told → AreCoursesAlike hidden (fronts a.battle) a b →
    AreCoursesAlike hidden (fronts (turn facts one two a).battle) (turn facts one two a) (turn facts one two b)
turn_course_alike facts one two hidden a b out there there_too shown shown_too none unshown w =
    let P : Phase → Type 0 = λ phase. AreCoursesAlike hidden (fronts (turn facts one two a).battle) (turn facts one two a) (turn_in phase facts one two b) in
    subst P w.battle.phase (turn_in_alike a.battle.phase facts one two hidden a b out there there_too shown shown_too none unshown w)

-- ---- by what is said of position 1

-- what a law of a turn is told of its choices
record AreUnhidden (facts : Figures) (one two : Choice) (hidden : Hidden) (a : Battle) : Type 0 where
  first : IsChoiceOf a 0 one
  second : IsChoiceOf a 1 two
  shown : IsChoiceUnhidden hidden 0 (side_of a 0) one
  shown_too : IsChoiceUnhidden hidden 1 (side_of a 1) two
  unshown : ShowsNoHidden hidden (fronts (turn facts one two (untold a)).battle) (forms a one two) (turn facts one two (untold a)).told

-- members are sent out
sent-turn : (facts : Figures) (one two : Choice) (hidden : Hidden) (a b : Battle) → IsOut a.phase → AreAlike hidden a b → AreUnhidden facts one two hidden a → AreToldAlike hidden (turn facts one two (untold a)) (turn facts one two (untold b))
sent-turn facts one two hidden a b out alike good =
    let there : IsThere (side_of a 0) one = there-is-choice a 0 one good.first in
    let there_too : IsThere (side_of a 1) two = there-is-choice a 1 two good.second in
    let w : AreCoursesAlike hidden (fronts a) (untold a) (untold b) = record { battle = alike; indices = λ s h. refl; told = refl } in
    let later = turn_course_alike facts one two hidden (untold a) (untold b) out there there_too good.shown good.shown_too (λ s k. refl) good.unshown w in
    record {
      battle = battles_alike hidden _ _ later.battle;
      told = later.told;
      names = turn_names facts one two hidden a out (alike.sides 0 (omega arith)).active (alike.sides 1 (omega arith)).active good.shown good.shown_too;
    }

-- both are in one phase
phase-alike : (facts : Figures) (one two : Choice) (hidden : Hidden) (a b : Battle) (phase : Phase) → a.phase ≡ phase → AreBattlesAlike hidden a b → AreToldAlike hidden (turn_in phase facts one two (untold a)) (turn_in phase facts one two (untold b)) → AreToldAlike hidden (turn facts one two (untold a)) (turn facts one two (untold b))
phase-alike facts one two hidden a b phase is alike told =
    let P : Phase → Phase → Type 0 = λ p q. AreToldAlike hidden (turn_in p facts one two (untold a)) (turn_in q facts one two (untold b)) in
    subst (λ p. P p b.phase) (sym is) (subst (λ q. P phase q) (sym is ∙ alike.phase) told)

turned : (hidden : Hidden) (a b : Battle) → AreAlike hidden a b → AreAlike hidden (record a { phase = phases.Turn }) (record b { phase = phases.Turn })
turned hidden a b w = record { first_two = w.first_two; second_two = w.second_two; turn = w.turn; phase = refl; clauses = w.clauses; rng = w.rng; sides = w.sides }

-- both teams are ordered, and their first members sent out
sent-out : (one two : Choice) (hidden : Hidden) (a b : Battle) → IsInsideIn phases.Preview (side_of a 0) one → IsInsideIn phases.Preview (side_of a 1) two → IsThere (side_of a 0) one → IsThere (side_of a 1) two →
    IsChoiceUnhidden hidden 0 (side_of a 0) one → IsChoiceUnhidden hidden 1 (side_of a 1) two → AreBattlesAlike hidden a b → AreToldAlike hidden (sent_out one two (untold a)) (sent_out one two (untold b))
unfolding sent_out placed
sent-out (choices.Team ones) (choices.Team twos) hidden a b in_first in_second first second shown shown_too w =
    let alike : AreAlike hidden (both_ordered a ones twos) (both_ordered b ones twos) = orders_alike hidden a b ones twos (record { first = first; second = second; shown = shown; shown_too = shown_too }) w in
    record {
      battle = battles_alike hidden _ _ (turned hidden _ _ alike);
      told = started_alike hidden _ _ [] alike;
      names = started_such (IsShown hidden) (both_ordered a ones twos) [] (alike.sides 0 (omega arith)).active (alike.sides 1 (omega arith)).active (All-nil (λ e. All (IsShown hidden) (whos e)));
    }
sent-out (choices.Team ones) (choices.Switch p) hidden a b in_first in_second first second shown shown_too w = absurd in_second
sent-out (choices.Team ones) (choices.Move n) hidden a b in_first in_second first second shown shown_too w = absurd in_second
sent-out (choices.Team ones) choices.Struggle hidden a b in_first in_second first second shown shown_too w = absurd in_second
sent-out (choices.Team ones) choices.Continue hidden a b in_first in_second first second shown shown_too w = absurd in_second
sent-out (choices.Team ones) choices.Pass hidden a b in_first in_second first second shown shown_too w = absurd in_second
sent-out (choices.Switch p) two hidden a b in_first in_second first second shown shown_too w = absurd in_first
sent-out (choices.Move n) two hidden a b in_first in_second first second shown shown_too w = absurd in_first
sent-out choices.Struggle two hidden a b in_first in_second first second shown shown_too w = absurd in_first
sent-out choices.Continue two hidden a b in_first in_second first second shown shown_too w = absurd in_first
sent-out choices.Pass two hidden a b in_first in_second first second shown shown_too w = absurd in_first

preview-turn : (facts : Figures) (one two : Choice) (hidden : Hidden) (a b : Battle) → a.phase ≡ phases.Preview → AreBattlesAlike hidden a b → AreUnhidden facts one two hidden a → AreToldAlike hidden (turn facts one two (untold a)) (turn facts one two (untold b))
unfolding turn_in
preview-turn facts one two hidden a b is w good =
    let one_in : IsInsideIn phases.Preview (side_of a 0) one = subst (λ p. IsInsideIn p (side_of a 0) one) is (inside_there a 0 one (w.sides 0 (omega arith)).first good.first) in
    let two_in : IsInsideIn phases.Preview (side_of a 1) two = subst (λ p. IsInsideIn p (side_of a 1) two) is (inside_there a 1 two (w.sides 1 (omega arith)).first good.second) in
    phase-alike facts one two hidden a b phases.Preview is w
    (sent-out one two hidden a b one_in two_in (there-is-choice a 0 one good.first) (there-is-choice a 1 two good.second) good.shown good.shown_too w)

-- a battle that is over stays as it is
won-turn : (facts : Figures) (one two : Choice) (hidden : Hidden) (a b : Battle) (side : ℕ) → a.phase ≡ phases.Won side → AreBattlesAlike hidden a b → AreToldAlike hidden (turn facts one two (untold a)) (turn facts one two (untold b))
unfolding turn_in
won-turn facts one two hidden a b side is w =
    phase-alike facts one two hidden a b (phases.Won side) is w (record { battle = w; told = refl; names = All-nil (λ e. All (IsShown hidden) (whos e)) })

shown-turn : (facts : Figures) (one two : Choice) (hidden : Hidden) (a b : Battle) (phase : Phase) → a.phase ≡ phase → IsOut phase → AreActiveShown hidden a → AreBattlesAlike hidden a b → AreUnhidden facts one two hidden a → AreToldAlike hidden (turn facts one two (untold a)) (turn facts one two (untold b))
shown-turn facts one two hidden a b phase is out shown w good = sent-turn facts one two hidden a b (subst IsOut (sym is) out) (sent_alike hidden a b shown w) good

turn-by : (facts : Figures) (one two : Choice) (hidden : Hidden) (a b : Battle) (phase : Phase) → a.phase ≡ phase → IsUnsent phase ⊎ AreActiveShown hidden a → AreBattlesAlike hidden a b → AreUnhidden facts one two hidden a → AreToldAlike hidden (turn facts one two (untold a)) (turn facts one two (untold b))
turn-by facts one two hidden a b phases.Preview is active w good = preview-turn facts one two hidden a b is w good
turn-by facts one two hidden a b phases.Turn is (inl unsent) w good = absurd unsent
turn-by facts one two hidden a b phases.Turn is (inr shown) w good = shown-turn facts one two hidden a b phases.Turn is tt shown w good
turn-by facts one two hidden a b (phases.Replace p1 p2) is (inl unsent) w good = absurd unsent
turn-by facts one two hidden a b (phases.Replace p1 p2) is (inr shown) w good = shown-turn facts one two hidden a b (phases.Replace p1 p2) is tt shown w good
turn-by facts one two hidden a b (phases.Won side) is active w good = won-turn facts one two hidden a b side is w
turn-by facts one two hidden a b phases.Tied is (inl unsent) w good = absurd unsent
turn-by facts one two hidden a b phases.Tied is (inr shown) w good = shown-turn facts one two hidden a b phases.Tied is tt shown w good

pub turn_alike : TurnKeepsAlike
turn_alike facts one two hidden a b alike first second shown shown_too unshown =
    turn-by facts one two hidden a b a.phase refl alike.active alike (record { first = first; second = second; shown = shown; shown_too = shown_too; unshown = unshown })
