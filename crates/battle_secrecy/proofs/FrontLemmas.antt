-- Who is active after a turn: the member that a switch sent in, else who was.
use Rattle.std.proofs.Common.{◌≡◌, ℕ, zero, suc, ◌<◌, ◌-◌, Bool, true, false, List, length, get_or, length-set, arith, refl, ap, ◌∙◌, sym, subst}
use Rattle.ps_mon.specs.declared.record.Battle.{Battle}
use Rattle.ps_mon.specs.declared.record.Phase.{Phase}
use Rattle.ps_mon.specs.declared.record.Phase.TheVariants as phases
use Rattle.ps_mon.specs.declared.record.SideState.{SideState}
use Rattle.ps_mon.specs.declared.choice.Choice.{Choice}
use Rattle.ps_mon.specs.declared.choice.Choice.TheVariants as choices
use Rattle.std.proofs.lemmas.Bool.{true≢false}
use Rattle.ps_mon.specs.Choices.{is_asked, wrong_for_order, IsChoice, IsChoiceOf}
use Rattle.ps_mon.specs.Orders.{index_at}
use Rattle.ps_mon.specs.Facts.{Figures}
use Rattle.ps_mon.specs.Reading.{side_of, active_index}
use Rattle.ps_mon.specs.Switching.{came_in, with_switch}
use Rattle.ps_mon.specs.Duels.{with_duel}
use Rattle.ps_mon.proofs.Lists.{swap-first}
use Rattle.ps_mon.proofs.ChoiceLemmas.{IsLegal, legal-is, there-is}
use Rattle.ps_hits.specs.Courses.{Course, untold}
use Rattle.ps_battle.specs.Switches.{begun, switched, sent_in}
use Rattle.ps_battle.specs.Turns.{acted, both_switched, placed, sent_out, turn_in, turn}
use Rattle.battle_secrecy.specs.Alike.{IsPlaced}
use Rattle.battle_secrecy.proofs.KindLemmas.{begun_order}
use Rattle.battle_secrecy.proofs.OrderLemmas.{ordered_first, ordered_second, reordered_first}
use Rattle.battle_secrecy.proofs.SwitchLemmas.{switch_own, switched_foe}
use Rattle.battle_secrecy.proofs.TellActLemmas.{acted_step}
use Rattle.battle_secrecy.proofs.TellTurnLemmas.{closed_step, next_step}

-- the place of who is active after a choice
abbrev pub front_after : SideState → Choice → ℕ
front_after side (choices.Switch position) = get_or side.order (position - 1) 0
front_after side (choices.Team numbers) = index_at side.order (get_or numbers 0 0)
front_after side choice = active_index side

-- it depends on the order alone
after_same : (a b : SideState) (choice : Choice) → a.order ≡ b.order → front_after a choice ≡ front_after b choice
after_same a b (choices.Switch p) e = ap (λ xs. get_or xs (p - 1) 0) e
after_same a b (choices.Move n) e = ap (λ xs. get_or xs 0 0) e
after_same a b choices.Struggle e = ap (λ xs. get_or xs 0 0) e
after_same a b choices.Continue e = ap (λ xs. get_or xs 0 0) e
after_same a b choices.Pass e = ap (λ xs. get_or xs 0 0) e
after_same a b (choices.Team numbers) e = ap (λ xs. index_at xs (get_or numbers 0 0)) e

-- a switch is to a position that there is; an order is chosen before members are sent out alone
abbrev pub IsInside : SideState → Choice → Type 0
IsInside side (choices.Switch position) = position - 1 < length side.order
IsInside side (choices.Team numbers) = ⊥
IsInside side choice = Unit {0}

inside_same : (a b : SideState) (choice : Choice) → a.order ≡ b.order → IsInside a choice → IsInside b choice
inside_same a b (choices.Switch p) e h = subst (λ (xs : List ℕ). p - 1 < length xs) e h
inside_same a b (choices.Move n) e h = tt
inside_same a b choices.Struggle e h = tt
inside_same a b choices.Continue e h = tt
inside_same a b choices.Pass e h = tt
inside_same a b (choices.Team numbers) e h = absurd h

-- by the phase: as long as nobody is sent out an order alone is chosen
abbrev pub IsInsideIn : Phase → SideState → Choice → Type 0
IsInsideIn phases.Preview side (choices.Team numbers) = Unit {0}
IsInsideIn phases.Preview side other = ⊥
IsInsideIn phase side choice = IsInside side choice

-- an order is chosen in no other phase
inside-legal : (phase : Phase) (s : ℕ) (side : SideState) (choice : Choice) → IsPlaced side → IsLegal phase s side choice → wrong_for_order phase ≡ true → IsInside side choice
inside-legal phase s side (choices.Switch p) placed legal other = (let there = there-is phase s side (choices.Switch p) legal in omega (arith, placed.six_order, placed.count_high, there.0, there.1))
inside-legal phase s side (choices.Move n) placed legal other = tt
inside-legal phase s side choices.Struggle placed legal other = tt
inside-legal phase s side choices.Continue placed legal other = tt
inside-legal phase s side choices.Pass placed legal other = tt
inside-legal phase s side (choices.Team numbers) placed legal other = absurd (true≢false (sym other ∙ legal.phase_fits))

preview-legal : (s : ℕ) (side : SideState) (choice : Choice) → IsLegal phases.Preview s side choice → IsInsideIn phases.Preview side choice
preview-legal s side (choices.Team numbers) legal = tt
preview-legal s side (choices.Switch p) legal = absurd (true≢false legal.phase_fits)
preview-legal s side (choices.Move n) legal = absurd (true≢false legal.phase_fits)
preview-legal s side choices.Struggle legal = absurd (true≢false legal.phase_fits)
preview-legal s side choices.Continue legal = absurd (true≢false legal.phase_fits)
preview-legal s side choices.Pass legal = absurd (true≢false legal.phase_fits)

by-phase : (phase : Phase) (s : ℕ) (side : SideState) (choice : Choice) → IsPlaced side → IsLegal phase s side choice → IsInsideIn phase side choice
by-phase phases.Preview s side choice placed legal = preview-legal s side choice legal
by-phase phases.Turn s side choice placed legal = inside-legal phases.Turn s side choice placed legal refl
by-phase (phases.Replace p1 p2) s side choice placed legal = inside-legal (phases.Replace p1 p2) s side choice placed legal refl
by-phase (phases.Won side') s side choice placed legal = inside-legal (phases.Won side') s side choice placed legal refl
by-phase phases.Tied s side choice placed legal = inside-legal phases.Tied s side choice placed legal refl

passes-inside : (phase : Phase) (s : ℕ) (side : SideState) → is_asked phase s ≡ false → IsInsideIn phase side choices.Pass
passes-inside phases.Preview s side e = absurd (true≢false e)
passes-inside phases.Turn s side e = tt
passes-inside (phases.Replace p1 p2) s side e = tt
passes-inside (phases.Won side') s side e = tt
passes-inside phases.Tied s side e = tt

inside-asked : (asked : Bool) (b : Battle) (s : ℕ) (choice : Choice) → is_asked b.phase s ≡ asked → IsPlaced (side_of b s) → IsChoice asked b s choice → IsInsideIn b.phase (side_of b s) choice
inside-asked true b s choice e placed h = by-phase b.phase s (side_of b s) choice placed (legal-is b.phase s (side_of b s) choice h)
inside-asked false b s choice e placed h = subst (IsInsideIn b.phase (side_of b s)) (sym h) (passes-inside b.phase s (side_of b s) e)

-- a choice that a side may be committed with is
pub inside_there : (b : Battle) (s : ℕ) (choice : Choice) → IsPlaced (side_of b s) → IsChoiceOf b s choice → IsInsideIn b.phase (side_of b s) choice
inside_there b s choice placed h = inside-asked (is_asked b.phase s) b s choice refl placed h

-- the choice of a side
abbrev pub choice_of_side : Choice → Choice → ℕ → Choice
choice_of_side one two zero = one
choice_of_side one two (suc s) = two

-- ---- a battle that is over

-- both sides pass
abbrev pub IsPassOver : Phase → Choice → Choice → Type 0
IsPassOver (phases.Won side) one two = (one ≡ choices.Pass) × (two ≡ choices.Pass)
IsPassOver phases.Tied one two = (one ≡ choices.Pass) × (two ≡ choices.Pass)
IsPassOver other one two = Unit {0}

passes_over : (phase : Phase) (b : Battle) (one two : Choice) → b.phase ≡ phase → IsChoiceOf b 0 one → IsChoiceOf b 1 two → IsPassOver phase one two
passes_over phases.Preview b one two is first second = tt
passes_over phases.Turn b one two is first second = tt
passes_over (phases.Replace p1 p2) b one two is first second = tt
passes_over (phases.Won side) b one two is first second = (rw is at first, rw is at second)
passes_over phases.Tied b one two is first second = (rw is at first, rw is at second)

passed_front : (one two : Choice) (c : Course) (s : ℕ) → s < 2 → (one ≡ choices.Pass) × (two ≡ choices.Pass) → active_index (side_of c.battle s) ≡ front_after (side_of c.battle s) (choice_of_side one two s)
passed_front one two c zero lt over = rw over.0 refl
passed_front one two c (suc zero) lt over = rw over.1 refl
passed_front one two c (suc (suc s)) lt over = absurd (omega arith)

pub begun_two : (b : Battle) → length b.sides ≡ 2 → length (begun b).sides ≡ 2
unfolding begun with_duel
begun_two b two = simp length-set two

-- ---- the switches

came_front : (a : SideState) (p : ℕ) → p - 1 < length a.order → active_index (came_in a p) ≡ get_or a.order (p - 1) 0
unfolding came_in
came_front a p lt = swap-first a.order (p - 1) lt

switched_front : (s : ℕ) (choice : Choice) (c : Course) → s < 2 → length c.battle.sides ≡ 2 → IsInside (side_of c.battle s) choice → active_index (side_of (switched s choice c).battle s) ≡ front_after (side_of c.battle s) choice
unfolding switched sent_in
switched_front s (choices.Switch p) c lt two inside = ap active_index (switch_own c.battle s p lt two) ∙ came_front (side_of c.battle s) p inside
switched_front s (choices.Move n) c lt two inside = refl
switched_front s choices.Struggle c lt two inside = refl
switched_front s choices.Continue c lt two inside = refl
switched_front s choices.Pass c lt two inside = refl
switched_front s (choices.Team numbers) c lt two inside = absurd inside

pub two_kept : (s : ℕ) (choice : Choice) (c : Course) → length c.battle.sides ≡ 2 → length (switched s choice c).battle.sides ≡ 2
unfolding switched sent_in with_switch
two_kept s (choices.Switch p) c two = simp length-set two
two_kept s (choices.Move n) c two = two
two_kept s choices.Struggle c two = two
two_kept s choices.Continue c two = two
two_kept s choices.Pass c two = two
two_kept s (choices.Team numbers) c two = two

both_front : (one two : Choice) (c : Course) (s : ℕ) → s < 2 → length c.battle.sides ≡ 2 → IsInside (side_of c.battle 0) one → IsInside (side_of c.battle 1) two → active_index (side_of (both_switched one two c).battle s) ≡ front_after (side_of c.battle s) (choice_of_side one two s)
unfolding both_switched
both_front one two c zero lt sides first second =
    ap (λ (xs : List ℕ). get_or xs 0 0) (switched_foe 1 two (switched 0 one c) (omega arith) (two_kept 0 one c sides)).0
    ∙ switched_front 0 one c (omega arith) sides first
both_front one two c (suc zero) lt sides first second =
    let kept = (switched_foe 0 one c (omega arith) sides).0 in
    switched_front 1 two (switched 0 one c) (omega arith) (two_kept 0 one c sides) (inside_same (side_of c.battle 1) (side_of (switched 0 one c).battle 1) two (sym kept) second)
    ∙ after_same (side_of (switched 0 one c).battle 1) (side_of c.battle 1) two kept
both_front one two c (suc (suc s)) lt sides first second = absurd (omega arith)

-- ---- the turn

-- both orders put those first that they name first
sent-front : (one two : Choice) (c : Course) (s : ℕ) → s < 2 → length c.battle.sides ≡ 2 → IsInsideIn phases.Preview (side_of c.battle 0) one → IsInsideIn phases.Preview (side_of c.battle 1) two → active_index (side_of (sent_out one two c).battle s) ≡ front_after (side_of c.battle s) (choice_of_side one two s)
unfolding sent_out placed
sent-front (choices.Team ones) (choices.Team twos) c zero lt sides first second = ap active_index (ordered_first c.battle ones twos sides) ∙ reordered_first (side_of c.battle 0) ones
sent-front (choices.Team ones) (choices.Team twos) c (suc zero) lt sides first second = ap active_index (ordered_second c.battle ones twos sides) ∙ reordered_first (side_of c.battle 1) twos
sent-front (choices.Team ones) (choices.Team twos) c (suc (suc s)) lt sides first second = absurd (omega arith)
sent-front (choices.Team ones) (choices.Switch p) c s lt sides first second = absurd second
sent-front (choices.Team ones) (choices.Move n) c s lt sides first second = absurd second
sent-front (choices.Team ones) choices.Struggle c s lt sides first second = absurd second
sent-front (choices.Team ones) choices.Continue c s lt sides first second = absurd second
sent-front (choices.Team ones) choices.Pass c s lt sides first second = absurd second
sent-front (choices.Switch p) two c s lt sides first second = absurd first
sent-front (choices.Move n) two c s lt sides first second = absurd first
sent-front choices.Struggle two c s lt sides first second = absurd first
sent-front choices.Continue two c s lt sides first second = absurd first
sent-front choices.Pass two c s lt sides first second = absurd first

turn_front_in : (phase : Phase) (facts : Figures) (one two : Choice) (c : Course) (s : ℕ) → s < 2 → length c.battle.sides ≡ 2 → IsInsideIn phase (side_of c.battle 0) one → IsInsideIn phase (side_of c.battle 1) two → IsPassOver phase one two → active_index (side_of (turn_in phase facts one two c).battle s) ≡ front_after (side_of c.battle s) (choice_of_side one two s)
unfolding turn_in
turn_front_in phases.Preview facts one two c s lt sides first second over = sent-front one two c s lt sides first second
turn_front_in phases.Turn facts one two c s lt sides first second over =
    let start : Course = record c { battle = begun c.battle } in
    let order : (i : ℕ) → i < 2 → (side_of (begun c.battle) i).order ≡ (side_of c.battle i).order = begun_order c.battle sides in
    let acts = acted_step facts one two (both_switched one two start) in
    (closed_step (acted facts one two (both_switched one two start))).index s lt
    ∙ acts.index s lt
    ∙ both_front one two start s lt (begun_two c.battle sides) (inside_same (side_of c.battle 0) (side_of (begun c.battle) 0) one (sym (order 0 (omega arith))) first) (inside_same (side_of c.battle 1) (side_of (begun c.battle) 1) two (sym (order 1 (omega arith))) second)
    ∙ after_same (side_of (begun c.battle) s) (side_of c.battle s) (choice_of_side one two s) (order s lt)
turn_front_in (phases.Replace p1 p2) facts one two c s lt sides first second over =
    (next_step (both_switched one two c)).index s lt ∙ both_front one two c s lt sides first second
turn_front_in (phases.Won side) facts one two c s lt sides first second over = passed_front one two c s lt over
turn_front_in phases.Tied facts one two c s lt sides first second over = passed_front one two c s lt over

-- who is active after a turn
pub turn_front : (facts : Figures) (one two : Choice) (b : Battle) (s : ℕ) → s < 2 → length b.sides ≡ 2 → IsPlaced (side_of b 0) → IsPlaced (side_of b 1) → IsChoiceOf b 0 one → IsChoiceOf b 1 two → active_index (side_of (turn facts one two (untold b)).battle s) ≡ front_after (side_of b s) (choice_of_side one two s)
turn_front facts one two b s lt sides p1 p2 first second =
    turn_front_in b.phase facts one two (untold b) s lt sides (inside_there b 0 one p1 first) (inside_there b 1 two p2 second) (passes_over b.phase b one two refl first second)
