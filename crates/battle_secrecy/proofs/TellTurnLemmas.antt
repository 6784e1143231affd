-- What a turn, an opening and a forfeit tell: no event names a member but those that are active before and those that come in.
use Rattle.std.proofs.Common.{◌≡◌, ◌≢◌, ◌∙◌, ℕ, zero, suc, ◌<◌, ◌-◌, ◌+◌, ◌&&◌, ◌||◌, ◌==◌, not, Bool, true, false, List, [], ◌∷◌, ◌++◌, All, map, is_some, length, get_or, set, arith, refl, ap, if◌then◌else◌}
use Rattle.std.specs.Prelude.{bit_and}
use Rattle.std.specs.List.{swap}
use Rattle.std.proofs.lemmas.List.Elements.{All-nil}
use Rattle.ps_event.specs.declared.event.Event.{Event}
use Rattle.ps_event.specs.declared.event.Event.TheVariants as events
use Rattle.ps_event.specs.declared.event.Who.{Who}
use Rattle.ps_event.specs.declared.side.Side.{Side}
use Rattle.ps_event.specs.declared.side.Side.TheVariants.{P1, P2}
use Rattle.ps_event.specs.Sides.{side_number}
use Rattle.ps_mon.specs.declared.record.Battle.{Battle}
use Rattle.ps_mon.specs.declared.record.Phase.{Phase}
use Rattle.ps_mon.specs.declared.record.Phase.TheVariants as phases
use Rattle.ps_mon.specs.declared.record.SideState.{SideState}
use Rattle.ps_mon.specs.declared.team.BattleTeam.{BattleTeam}
use Rattle.ps_mon.specs.declared.team.Member.{Member}
use Rattle.ps_mon.specs.declared.choice.Choice.{Choice}
use Rattle.ps_mon.specs.declared.choice.Choice.TheVariants as choices
use Rattle.ps_mon.specs.Facts.{Figures}
use Rattle.ps_mon.specs.Reading.{side_of, active_index, no_side}
use Rattle.ps_mon.specs.Duels.{fighter_of, duel_of}
use Rattle.ps_mon.specs.Switching.{came_in, released, with_switch}
use Rattle.ps_mon.specs.Valid.{has_standing}
use Rattle.ps_mon.proofs.SideLemmas.{each_side}
use Rattle.ps_hits.specs.Courses.{Course, untold}
use Rattle.ps_hits.specs.Told.{side_name}
use Rattle.ps_battle.specs.Acts.{is_down}
use Rattle.ps_battle.specs.Switches.{switch_event, sent_in, switched, refreshed_duel, begun}
use Rattle.ps_battle.specs.Closings.{enter, asks, next_turn, closed}
use Rattle.ps_battle.specs.Turns.{acted, both_switched, turn_in, turn}
use Rattle.ps_battle.specs.Openings.{rule, rules, heads, first_phase, fresh_battle, poke, pokes, previewed, started, shown_in, opening, open_course, give_up}
use Rattle.battle_secrecy.specs.Places.{Hidden}
use Rattle.battle_secrecy.specs.Showing.{whos, NamesNoHidden}
use Rattle.battle_secrecy.specs.Courses.{TellsOfActive, active_who}
use Rattle.battle_secrecy.specs.Laws.{IsChoiceUnhidden}
use Rattle.battle_secrecy.proofs.SlotLemmas.{at_each_one}
use Rattle.battle_secrecy.proofs.TellLemmas.{AreSo, IsPlain, All-more}
use Rattle.battle_secrecy.proofs.TellStepLemmas.{KeepsForms, duel_forms, order_stays, step_trans, quiet_step, events_step, either_step}
use Rattle.battle_secrecy.proofs.TellActLemmas.{acted_step}

-- ---- what follows the acts

-- the same sides
same_sides : (a b : Battle) → b.sides ≡ a.sides → KeepsForms a b
same_sides a b same = record { sides = ap (λ (xs : List SideState). length xs) same; copied = λ s h. ap (λ (xs : List SideState). is_some (get_or xs s no_side).vol.slots.copied) same ∙ h }

-- a phase, and events that name nobody
pub enter_step : (phase : Phase) (more : List Event) → AreSo IsPlain more → ((P : Who → Type 0) → AreSo (λ e. AreSo P (whos e)) more) → (c : Course) → TellsOfActive c (enter phase more c)
unfolding enter
enter_step phase more plain named c = events_step c (record c.battle { phase = phase }) more (λ s lt. refl) (same_sides c.battle (record c.battle { phase = phase }) refl) plain (λ P first second. named P)

pub next_step : (c : Course) → TellsOfActive c (next_turn c)
unfolding next_turn
next_step c =
    let turn : ℕ = c.battle.turn + 1 in
    let later : Course = record { battle = record c.battle { turn = turn }; told = c.told ++ events.Upkeep ∷ [] } in
    step_trans c later _ (events_step c later.battle (events.Upkeep ∷ []) (λ s lt. refl) (same_sides c.battle later.battle refl) (tt, tt) (λ P first second. (tt, tt)))
    (either_step (turn == 1000) later _ _ (enter_step phases.Tied (events.Tie ∷ []) (tt, tt) (λ P. (tt, tt)) later) (enter_step phases.Turn (events.Turn turn ∷ asks) (tt, (tt, (tt, tt))) (λ P. (tt, (tt, (tt, tt)))) later))

pub closed_step : (c : Course) → TellsOfActive c (closed c)
unfolding closed
closed_step c =
    let one : Bool = has_standing (side_of c.battle 0) in
    let two : Bool = has_standing (side_of c.battle 1) in
    either_step (not one && not two) c _ _ (enter_step phases.Tied (events.Tie ∷ []) (tt, tt) (λ P. (tt, tt)) c)
    (either_step (not one) c _ _ (enter_step (phases.Won 1) (events.Win P2 ∷ []) (tt, tt) (λ P. (tt, tt)) c)
    (either_step (not two) c _ _ (enter_step (phases.Won 0) (events.Win P1 ∷ []) (tt, tt) (λ P. (tt, tt)) c)
    (either_step (is_down c.battle 0 || is_down c.battle 1) c _ _ (enter_step (phases.Replace (is_down c.battle 0) (is_down c.battle 1)) asks (tt, (tt, tt)) (λ P. (tt, (tt, tt))) c)
    (next_step c))))

pub give_up_step : (s : ℕ) (c : Course) → TellsOfActive c (give_up s c)
unfolding give_up
give_up_step s c = enter_step (phases.Won (1 - s)) _ (tt, (tt, tt)) (λ P. (tt, (tt, tt))) c

-- ---- the begin of a turn

begun-order : (b : Battle) (s : ℕ) → (side_of (begun b) s).order ≡ (side_of b s).order
unfolding begun
begun-order b s = order_stays b 0 (refreshed_duel (duel_of b 0)) s

-- it keeps who has another's form
pub begun_forms : (b : Battle) → KeepsForms b (begun b)
unfolding begun
begun_forms b = duel_forms b 0 (refreshed_duel (duel_of b 0))

pub begun_step : (c : Course) → TellsOfActive c (record c { battle = begun c.battle })
begun_step c = quiet_step c (begun c.battle) (λ s lt. ap (λ l. get_or l 0 0) (begun-order c.battle s)) (begun_forms c.battle)

-- ---- switches

-- P holds of both active members, and of all that the events name
pub record NamesSuch (P : Who → Type 0) (c : Course) : Type 0 where
  pub first : P (active_who c.battle 0)
  pub second : P (active_who c.battle 1)
  pub told : All (λ e. All P (whos e)) c.told

pub step_such : (P : Who → Type 0) (a b : Course) → TellsOfActive a b → NamesSuch P a → NamesSuch P b
step_such P a b step such =
    let still : (s : ℕ) → s < 2 → P (active_who a.battle s) → P (active_who b.battle s) = λ s lt p. rw (step.index s lt) p in
    record { first = still 0 (omega arith) such.first; second = still 1 (omega arith) such.second; told = step.names P such.first such.second such.told }

-- a choice that sends in a member sends in one of whom P holds
abbrev pub SendsSuch : (Who → Type 0) → ℕ → SideState → Choice → Type 0
SendsSuch P s side (choices.Switch position) = P (record { side = side_name s; member = get_or side.order (position - 1) 0 })
SendsSuch P s side choice = Unit {0}

sends-kept : (P : Who → Type 0) (s : ℕ) (a b : SideState) (choice : Choice) → b.order ≡ a.order → SendsSuch P s a choice → SendsSuch P s b choice
sends-kept P s a b (choices.Move n) e sends = tt
sends-kept P s a b choices.Struggle e sends = tt
sends-kept P s a b choices.Continue e sends = tt
sends-kept P s a b (choices.Switch position) e sends = rw e sends
sends-kept P s a b choices.Pass e sends = tt
sends-kept P s a b (choices.Team numbers) e sends = tt

-- a read past the end gives what it is told to
past-end : (Q : ℕ → Type 0) (xs : List ℕ) (k d : ℕ) → Q d → Q (get_or xs k 0) → Q (get_or xs k d)
past-end Q [] k d default inside = default
past-end Q (x ∷ xs) zero d default inside = inside
past-end Q (x ∷ xs) (suc k) d default inside = past-end Q xs k d default inside

-- who stands first after a swap stood there before, or at the other place
swap-head : (Q : ℕ → Type 0) (xs : List ℕ) (k : ℕ) → Q (get_or xs 0 0) → Q (get_or xs k 0) → Q (get_or (swap xs 0 k) 0 0)
swap-head Q [] k first other = first
swap-head Q (x ∷ xs) zero first other = first
swap-head Q (x ∷ xs) (suc k) first other = past-end Q xs k x first other

came-first : (Q : ℕ → Type 0) (a : SideState) (position : ℕ) → Q (active_index a) → Q (get_or a.order (position - 1) 0) → Q (active_index (came_in a position))
unfolding came_in
came-first Q a position first other = swap-head Q a.order (position - 1) first other

released-order : (a : SideState) → (released a).order ≡ a.order
unfolding released
released-order a = refl

-- who is active after a switch was so before, or has come in
switch-such : (P : Who → Type 0) (b : Battle) (s position : ℕ) → s < 2 → P (record { side = side_name s; member = get_or (side_of b s).order (position - 1) 0 }) → ((i : ℕ) → i < 2 → P (active_who b i)) → (i : ℕ) → i < 2 → P (active_who (with_switch b s position) i)
unfolding with_switch
switch-such P b s position lt comes old =
    let Such : ℕ → SideState → Type 0 = λ i a. i < 2 → P (record { side = side_name i; member = active_index a }) in
    let own : SideState = came_in (side_of b s) position in
    at_each_one Such (set b.sides s own) (1 - s) (released (side_of b (1 - s))) no_side (λ h. rw (released-order (side_of b (1 - s))) (old (1 - s) h))
    (at_each_one Such b.sides s own no_side (λ h. came-first (λ k. P (record { side = side_name s; member = k })) (side_of b s) position (old s h) comes) old)

-- the other side's order stays
switch-other : (b : Battle) (s position i : ℕ) → i ≢ s → (side_of (with_switch b s position) i).order ≡ (side_of b i).order
unfolding with_switch
switch-other b s position =
    let Stays : ℕ → SideState → Type 0 = λ i a. i ≢ s → a.order ≡ (side_of b i).order in
    let own : SideState = came_in (side_of b s) position in
    at_each_one Stays (set b.sides s own) (1 - s) (released (side_of b (1 - s))) no_side (λ ne. released-order (side_of b (1 - s)))
    (at_each_one Stays b.sides s own no_side (λ ne. absurd (ne refl)) (λ i ne. refl))

event-so : (P : Who → Type 0) (s : ℕ) (a : SideState) → P (record { side = side_name s; member = active_index a }) → AreSo P (whos (switch_event s a))
unfolding switch_event fighter_of
event-so P s a so = (so, tt)

sent_in-such : (P : Who → Type 0) (s : ℕ) → s < 2 → (position : ℕ) (c : Course) → P (record { side = side_name s; member = get_or (side_of c.battle s).order (position - 1) 0 }) → NamesSuch P c → NamesSuch P (sent_in s position c)
unfolding sent_in
sent_in-such P s lt position c comes such =
    let new = switch-such P c.battle s position lt comes (each_side (λ i. P (active_who c.battle i)) such.first such.second) in
    record {
      first = new 0 (omega arith);
      second = new 1 (omega arith);
      told = All-more P c.told _ such.told (event-so P s (side_of (with_switch c.battle s position) s) (new s lt), tt);
    }

pub switched_such : (P : Who → Type 0) (s : ℕ) → s < 2 → (choice : Choice) (c : Course) → SendsSuch P s (side_of c.battle s) choice → NamesSuch P c → NamesSuch P (switched s choice c)
unfolding switched
switched_such P s lt (choices.Move n) c sends such = such
switched_such P s lt choices.Struggle c sends such = such
switched_such P s lt choices.Continue c sends such = such
switched_such P s lt (choices.Switch position) c sends such = sent_in-such P s lt position c sends such
switched_such P s lt choices.Pass c sends such = such
switched_such P s lt (choices.Team numbers) c sends such = such

switched-other : (s i : ℕ) → i ≢ s → (choice : Choice) (c : Course) → (side_of (switched s choice c).battle i).order ≡ (side_of c.battle i).order
unfolding switched sent_in
switched-other s i ne (choices.Move n) c = refl
switched-other s i ne choices.Struggle c = refl
switched-other s i ne choices.Continue c = refl
switched-other s i ne (choices.Switch position) c = switch-other c.battle s position i ne
switched-other s i ne choices.Pass c = refl
switched-other s i ne (choices.Team numbers) c = refl

pub both_switched_such : (P : Who → Type 0) (one two : Choice) (c : Course) → SendsSuch P 0 (side_of c.battle 0) one → SendsSuch P 1 (side_of c.battle 1) two → NamesSuch P c → NamesSuch P (both_switched one two c)
unfolding both_switched
both_switched_such P one two c first second such =
    let came : Course = switched 0 one c in
    switched_such P 1 (omega arith) two came (sends-kept P 1 (side_of c.battle 1) (side_of came.battle 1) two (switched-other 0 1 (omega arith) one c) second) (switched_such P 0 (omega arith) one c first such)

-- ---- the turn

-- members are sent out
abbrev pub IsOut : Phase → Type 0
IsOut phases.Preview = ⊥
IsOut other = Unit {0}

pub turn_such : (P : Who → Type 0) (phase : Phase) (facts : Figures) (one two : Choice) (c : Course) → IsOut phase → SendsSuch P 0 (side_of c.battle 0) one → SendsSuch P 1 (side_of c.battle 1) two → NamesSuch P c → NamesSuch P (turn_in phase facts one two c)
unfolding turn_in
turn_such P phases.Preview facts one two c out first second such = absurd out
turn_such P phases.Turn facts one two c out first second such =
    let from : Course = record c { battle = begun c.battle } in
    let came : Course = both_switched one two from in
    step_such P came _ (step_trans came (acted facts one two came) _ (acted_step facts one two came) (closed_step (acted facts one two came)))
    (both_switched_such P one two from (sends-kept P 0 (side_of c.battle 0) (side_of from.battle 0) one (begun-order c.battle 0) first) (sends-kept P 1 (side_of c.battle 1) (side_of from.battle 1) two (begun-order c.battle 1) second)
    (step_such P c from (begun_step c) such))
turn_such P (phases.Replace p1 p2) facts one two c out first second such =
    step_such P (both_switched one two c) _ (next_step (both_switched one two c)) (both_switched_such P one two c first second such)
turn_such P (phases.Won side) facts one two c out first second such = such
turn_such P phases.Tied facts one two c out first second such = such

-- ---- hidden members

-- a member that isn't hidden
abbrev pub IsShown : Hidden → Who → Type 0
IsShown hidden w = hidden.member (side_number w.side) w.member ≡ false

sends-shown : (hidden : Hidden) (s : ℕ) (side : SideState) (choice : Choice) → side_number (side_name s) ≡ s → IsChoiceUnhidden hidden s side choice → SendsSuch (IsShown hidden) s side choice
sends-shown hidden s side (choices.Move n) named shown = tt
sends-shown hidden s side choices.Struggle named shown = tt
sends-shown hidden s side choices.Continue named shown = tt
sends-shown hidden s side (choices.Switch position) named shown = rw named shown
sends-shown hidden s side choices.Pass named shown = tt
sends-shown hidden s side (choices.Team numbers) named shown = tt

-- no event of a turn names a hidden member, and none is active after it, where the active members aren't hidden before it and the choices show none
pub turn_shown : (facts : Figures) (one two : Choice) (hidden : Hidden) (c : Course) → IsOut c.battle.phase → IsChoiceUnhidden hidden 0 (side_of c.battle 0) one → IsChoiceUnhidden hidden 1 (side_of c.battle 1) two → NamesSuch (IsShown hidden) c → NamesSuch (IsShown hidden) (turn facts one two c)
turn_shown facts one two hidden c out first second such =
    turn_such (IsShown hidden) c.battle.phase facts one two c out (sends-shown hidden 0 (side_of c.battle 0) one refl first) (sends-shown hidden 1 (side_of c.battle 1) two refl second) such

pub turn_names : (facts : Figures) (one two : Choice) (hidden : Hidden) (b : Battle) → IsOut b.phase → hidden.member 0 (active_index (side_of b 0)) ≡ false → hidden.member 1 (active_index (side_of b 1)) ≡ false → IsChoiceUnhidden hidden 0 (side_of b 0) one → IsChoiceUnhidden hidden 1 (side_of b 1) two → NamesNoHidden hidden (turn facts one two (untold b)).told
turn_names facts one two hidden b out active active_too first second =
    (turn_shown facts one two hidden (untold b) out first second (record { first = active; second = active_too; told = All-nil (λ e. All (IsShown hidden) (whos e)) })).told

-- nor does a forfeit
pub give_up_names : (s : ℕ) (hidden : Hidden) (c : Course) → NamesNoHidden hidden c.told → NamesNoHidden hidden (give_up s c).told
unfolding give_up enter
give_up_names s hidden c names = All-more (IsShown hidden) c.told _ names (tt, (tt, tt))

-- ---- the opening

rule-such : (P : Who → Type 0) (clauses bit clause : ℕ) (told : List Event) → All (λ e. All P (whos e)) told → All (λ e. All P (whos e)) (rule clauses bit clause told)
unfolding rule
rule-such P clauses bit clause told all = either-such P (bit_and clauses bit == 0) told (told ++ events.Rule clause ∷ []) all (All-more P told (events.Rule clause ∷ []) all (tt, tt))
  where
    either-such : (P : Who → Type 0) (b : Bool) (xs ys : List Event) → All (λ e. All P (whos e)) xs → All (λ e. All P (whos e)) ys → All (λ e. All P (whos e)) (if b then xs else ys)
    either-such P true xs ys one two = one
    either-such P false xs ys one two = two

rules-such : (P : Who → Type 0) (clauses : ℕ) (told : List Event) → All (λ e. All P (whos e)) told → All (λ e. All P (whos e)) (rules clauses told)
unfolding rules
rules-such P clauses told all =
    let on : (bit clause : ℕ) (told : List Event) → All (λ e. All P (whos e)) told → All (λ e. All P (whos e)) (rule clauses bit clause told) = rule-such P clauses in
    on 128 7 _ (on 64 6 _ (on 32 5 _ (on 16 4 _ (on 8 3 _ (on 4 2 _ (on 2 1 _ (on 1 0 told all)))))))

heads-such : (P : Who → Type 0) (one two : ℕ) (told : List Event) → All (λ e. All P (whos e)) told → All (λ e. All P (whos e)) (heads one two told)
unfolding heads
heads-such P one two told all = All-more P told _ all (tt, (tt, (tt, (tt, (tt, (tt, (tt, tt)))))))

pub started_such : (P : Who → Type 0) (b : Battle) (told : List Event) → P (active_who b 0) → P (active_who b 1) → All (λ e. All P (whos e)) told → All (λ e. All P (whos e)) (started b told)
unfolding started
started_such P b told first second all =
    All-more P told _ all (tt, (event-so P 0 (side_of b 0) first, (event-so P 1 (side_of b 1) second, (tt, (tt, (tt, tt))))))

-- what is shown of members before they are sent out names none of them
pokes-so : (P : Who → Type 0) (name : Side) (ms : List Member) → AreSo (λ e. AreSo P (whos e)) (map (poke name) ms)
pokes-so P name [] = tt
pokes-so P name (m ∷ ms) = (tt, pokes-so P name ms)

previewed-such : (P : Who → Type 0) (b : Battle) (told : List Event) → All (λ e. All P (whos e)) told → All (λ e. All P (whos e)) (previewed b told)
unfolding previewed
previewed-such P b told all =
    All-more P _ (events.TeamPreview ∷ asks) (All-more P _ (pokes P2 (side_of b 1)) (All-more P _ (pokes P1 (side_of b 0)) (All-more P told (events.ClearPoke ∷ []) all (tt, tt)) (pokes-so P P1 _)) (pokes-so P P2 _)) (tt, (tt, (tt, tt)))

shown-such : (P : Who → Type 0) (phase : Phase) (b : Battle) (told : List Event) → (IsOut phase → P (active_who b 0)) → (IsOut phase → P (active_who b 1)) → All (λ e. All P (whos e)) told → All (λ e. All P (whos e)) (shown_in phase b told)
shown-such P phases.Preview b told first second all = previewed-such P b told all
shown-such P phases.Turn b told first second all = started_such P b told (first tt) (second tt) all
shown-such P (phases.Replace p1 p2) b told first second all = started_such P b told (first tt) (second tt) all
shown-such P (phases.Won side) b told first second all = started_such P b told (first tt) (second tt) all
shown-such P phases.Tied b told first second all = started_such P b told (first tt) (second tt) all

opening-such : (P : Who → Type 0) (b : Battle) (told : List Event) → (IsOut b.phase → P (active_who b 0)) → (IsOut b.phase → P (active_who b 1)) → All (λ e. All P (whos e)) told → All (λ e. All P (whos e)) (opening b told)
unfolding opening
opening-such P b told first second all = shown-such P b.phase b _ first second (rules-such P b.clauses _ (heads-such P _ _ told all))

-- no event of the opening names a hidden member, where the first member of each side isn't hidden if it is sent out
pub open_names : (hidden : Hidden) (teams : List BattleTeam) (clauses seed : ℕ) → (IsOut (first_phase clauses) → hidden.member 0 0 ≡ false) → (IsOut (first_phase clauses) → hidden.member 1 0 ≡ false) → NamesNoHidden hidden (open_course teams clauses seed).told
unfolding fresh_battle
open_names hidden teams clauses seed first second =
    opening-such (IsShown hidden) (fresh_battle teams clauses seed) [] first second (All-nil (λ e. All (IsShown hidden) (whos e)))
