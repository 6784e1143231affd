-- A switch keeps battles alike where the member that comes in isn't hidden.
use Rattle.std.proofs.Common.{◌≡◌, ℕ, ◌<◌, ◌≤◌, ◌-◌, ◌++◌, [], ◌∷◌, Bool, false, length, get_or, arith, refl, ap, ◌∙◌}
use Rattle.std.proofs.lemmas.List.Edits.{length-swap}
use Rattle.std.specs.List.{swap}
use Rattle.ps_event.specs.declared.event.Event.{Event}
use Rattle.ps_event.specs.declared.event.Event.TheVariants as events
use Rattle.ps_mon.specs.declared.record.Battle.{Battle}
use Rattle.ps_mon.specs.declared.record.SideState.{SideState}
use Rattle.ps_mon.specs.declared.record.Volatiles.{Volatiles}
use Rattle.ps_mon.specs.declared.team.Member.{Member}
use Rattle.ps_mon.specs.declared.choice.Choice.{Choice}
use Rattle.ps_mon.specs.declared.choice.Choice.TheVariants as choices
use Rattle.ps_mon.specs.declared.duel.Fighter.{Fighter}
use Rattle.ps_mon.specs.Choices.{IsThere}
use Rattle.ps_mon.specs.Reading.{side_of, active_index, active_of, no_side}
use Rattle.ps_mon.specs.Duels.{fighter_of}
use Rattle.ps_mon.specs.Switching.{left, came_in, released, with_switch, without_trap}
use Rattle.ps_mon.proofs.Lists.{at_user, at_foe, swap-below, swap-first}
use Rattle.ps_hits.specs.Courses.{Course}
use Rattle.ps_hits.specs.Told.{who_of, health_of}
use Rattle.ps_battle.specs.Switches.{switch_event, sent_in, switched}
use Rattle.ps_battle.specs.Turns.{both_switched}
use Rattle.battle_secrecy.specs.Places.{Hidden}
use Rattle.battle_secrecy.specs.Alike.{AreAlike, AreSidesAlike, AreShownAlike, IsPlaced}
use Rattle.battle_secrecy.specs.Courses.{AreCoursesAlike}
use Rattle.battle_secrecy.specs.Laws.{IsChoiceUnhidden, fronts}
use Rattle.battle_secrecy.proofs.SideLemmas.{active_alike, active_put_alike, active_placed, vol_put_alike, fighter_alike}
use Rattle.battle_secrecy.proofs.AlikeLemmas.{sides_put_alike}

-- ---- the side that sends in a member

left-alike : (slot : ℕ → Bool) (move : ℕ → ℕ) (m n : Member) → AreShownAlike slot move m n → AreShownAlike slot move (left m) (left n)
left-alike slot move m n alike = record { four = alike.four; four_too = alike.four_too; front = ap left alike.front; slots = alike.slots }

came-placed : (a : SideState) (p : ℕ) → 1 ≤ p → p ≤ a.count → IsPlaced a → IsPlaced (came_in a p)
unfolding came_in
came-placed a p low high placed =
    let written = active_placed a (left (active_of a)) placed in
    record {
      count = placed.count;
      count_high = placed.count_high;
      long = written.long;
      six_order = length-swap a.order 0 (p - 1) ∙ placed.six_order;
      order = swap-below a.order (p - 1) a.count (omega arith) (omega (arith, placed.six_order, placed.count_high)) placed.order;
    }

-- who came in stands first
pub came_index : (a : SideState) (p : ℕ) → 1 ≤ p → p ≤ a.count → IsPlaced a → active_index (came_in a p) ≡ get_or a.order (p - 1) 0
unfolding came_in
came_index a p low high placed = swap-first a.order (p - 1) (omega (arith, placed.six_order, placed.count_high))

came-order : (a b : SideState) (p : ℕ) → a.order ≡ b.order → (came_in a p).order ≡ (came_in b p).order
unfolding came_in
came-order a b p e = ap (λ xs. swap xs 0 (p - 1)) e

pub came_alike : (member : ℕ → Bool) (slot : ℕ → ℕ → Bool) (move : ℕ → ℕ → ℕ) (a b : SideState) (p : ℕ) → 1 ≤ p → p ≤ a.count → member (get_or a.order (p - 1) 0) ≡ false →
    AreSidesAlike member slot move a b → AreSidesAlike member slot move (came_in a p) (came_in b p)
unfolding came_in
came_alike member slot move a b p low high shown alike =
    let gone = left-alike _ _ _ _ (active_alike member slot move a b alike) in
    let written = active_put_alike member slot move a b _ _ alike gone in
    record {
      first = came-placed a p low high alike.first;
      second = came-placed b p low (omega (arith, alike.count)) alike.second;
      count = alike.count;
      order = came-order a b p alike.order;
      vol = refl;
      active = ap member (came_index a p low high alike.first) ∙ shown;
      members = written.members;
      long = written.long;
      rest = written.rest;
    }

-- ---- the other side

pub released_alike : (member : ℕ → Bool) (slot : ℕ → ℕ → Bool) (move : ℕ → ℕ → ℕ) (a b : SideState) → AreSidesAlike member slot move a b → AreSidesAlike member slot move (released a) (released b)
unfolding released
released_alike member slot move a b alike =
    vol_put_alike member slot move a b _ _ alike (ap (λ (v : Volatiles). record v { lock = without_trap v.lock }) alike.vol)

released-keeps : (a : SideState) → ((released a).order ≡ a.order) × ((released a).count ≡ a.count)
unfolding released
released-keeps a = (refl, refl)

-- ---- the battle

-- the member at position p of side s comes in, and isn't hidden
pub switch_alike : (hidden : Hidden) (a b : Battle) (s p : ℕ) → s < 2 → 1 ≤ p → p ≤ (side_of a s).count → hidden.member s (get_or (side_of a s).order (p - 1) 0) ≡ false →
    AreAlike hidden a b → AreAlike hidden (with_switch a s p) (with_switch b s p)
unfolding with_switch
switch_alike hidden a b s p lt low high shown alike =
    sides_put_alike hidden a b s _ _ _ _ _ _ lt alike.rng alike
    (came_alike _ _ _ _ _ p low high shown (alike.sides s lt)) (released_alike _ _ _ _ _ (alike.sides (1 - s) (omega arith)))

pub switch_own : (b : Battle) (s p : ℕ) → s < 2 → length b.sides ≡ 2 → side_of (with_switch b s p) s ≡ came_in (side_of b s) p
unfolding with_switch
switch_own b s p lt two = at_user b.sides s _ _ no_side lt two

pub switch_foe : (b : Battle) (s p : ℕ) → s < 2 → length b.sides ≡ 2 → side_of (with_switch b s p) (1 - s) ≡ released (side_of b (1 - s))
unfolding with_switch
switch_foe b s p lt two = at_foe b.sides s _ _ no_side lt two

-- ---- what is told

event-of : Fighter → ℕ → Event
event-of f species = events.Switch (who_of f) species f.level (health_of f)

event-is : (s : ℕ) (a : SideState) → switch_event s a ≡ event-of (fighter_of s a) (active_of a).species
unfolding switch_event event-of
event-is s a = refl

-- both tell the same of the active member
pub switch_event_alike : (member : ℕ → Bool) (slot : ℕ → ℕ → Bool) (move : ℕ → ℕ → ℕ) (s : ℕ) (a b : SideState) → AreSidesAlike member slot move a b → switch_event s a ≡ switch_event s b
switch_event_alike member slot move s a b alike =
    let fighter = fighter_alike member slot move s a b alike in
    let species : (active_of a).species ≡ (active_of b).species = ap (λ (m : Member). m.species) (active_alike member slot move a b alike).front in
    cc (event-is s a, event-is s b, fighter, species)

pub sent_in_alike : (s p : ℕ) (hidden : Hidden) (front : ℕ → ℕ) (a b : Course) → s < 2 → 1 ≤ p → p ≤ (side_of a.battle s).count →
    hidden.member s (get_or (side_of a.battle s).order (p - 1) 0) ≡ false → AreCoursesAlike hidden front a b →
    AreCoursesAlike hidden (fronts (sent_in s p a).battle) (sent_in s p a) (sent_in s p b)
unfolding sent_in
sent_in_alike s p hidden front a b lt low high shown w =
    let battle : AreAlike hidden (with_switch a.battle s p) (with_switch b.battle s p) = switch_alike hidden a.battle b.battle s p lt low high shown w.battle in
    let event : switch_event s (side_of (with_switch a.battle s p) s) ≡ switch_event s (side_of (with_switch b.battle s p) s) = switch_event_alike _ _ _ s _ _ (battle.sides s lt) in
    record {
      battle = battle;
      indices = λ i h. refl;
      told = ap (λ told. told ++ switch_event s (side_of (with_switch a.battle s p) s) ∷ []) w.told ∙ ap (λ e. b.told ++ e ∷ []) event;
    }

-- ---- choices

-- a choice that sends in a member sends in one that is there and isn't hidden
abbrev pub SendsShown : (ℕ → Bool) → SideState → Choice → Type 0
SendsShown member side (choices.Switch p) = (1 ≤ p) × (p ≤ side.count) × (member (get_or side.order (p - 1) 0) ≡ false)
SendsShown member side choice = Unit {0}

pub sends_shown : (hidden : Hidden) (s : ℕ) (side : SideState) (choice : Choice) → IsThere side choice → IsChoiceUnhidden hidden s side choice → SendsShown (hidden.member s) side choice
sends_shown hidden s side (choices.Move n) there shown = tt
sends_shown hidden s side choices.Struggle there shown = tt
sends_shown hidden s side choices.Continue there shown = tt
sends_shown hidden s side (choices.Switch p) there shown = (there.0, there.1, shown)
sends_shown hidden s side choices.Pass there shown = tt
sends_shown hidden s side (choices.Team numbers) there shown = tt

-- a side's own order and count say which
pub sends_kept : (member : ℕ → Bool) (old new : SideState) (choice : Choice) → new.order ≡ old.order → new.count ≡ old.count → SendsShown member old choice → SendsShown member new choice
sends_kept member old new (choices.Move n) order count shown = tt
sends_kept member old new choices.Struggle order count shown = tt
sends_kept member old new choices.Continue order count shown = tt
sends_kept member old new (choices.Switch p) order count shown =
    (shown.0, omega (arith, shown.1, count), ap (λ l. member (get_or l (p - 1) 0)) order ∙ shown.2)
sends_kept member old new choices.Pass order count shown = tt
sends_kept member old new (choices.Team numbers) order count shown = tt

-- the same courses, seen from where their active members are
pub seated : (hidden : Hidden) (front : ℕ → ℕ) (a b : Course) → AreCoursesAlike hidden front a b → AreCoursesAlike hidden (fronts a.battle) a b
seated hidden front a b w = record { battle = w.battle; indices = λ s h. refl; told = w.told }

pub switched_alike : (s : ℕ) (choice : Choice) (hidden : Hidden) (front : ℕ → ℕ) (a b : Course) → s < 2 → SendsShown (hidden.member s) (side_of a.battle s) choice →
    AreCoursesAlike hidden front a b → AreCoursesAlike hidden (fronts (switched s choice a).battle) (switched s choice a) (switched s choice b)
unfolding switched
switched_alike s (choices.Move n) hidden front a b lt shown w = seated hidden front a b w
switched_alike s choices.Struggle hidden front a b lt shown w = seated hidden front a b w
switched_alike s choices.Continue hidden front a b lt shown w = seated hidden front a b w
switched_alike s (choices.Switch p) hidden front a b lt shown w = sent_in_alike s p hidden front a b lt shown.0 shown.1 shown.2 w
switched_alike s choices.Pass hidden front a b lt shown w = seated hidden front a b w
switched_alike s (choices.Team numbers) hidden front a b lt shown w = seated hidden front a b w

-- the other side's order and count stay
pub switched_foe : (s : ℕ) (choice : Choice) (c : Course) → s < 2 → length c.battle.sides ≡ 2 →
    ((side_of (switched s choice c).battle (1 - s)).order ≡ (side_of c.battle (1 - s)).order) × ((side_of (switched s choice c).battle (1 - s)).count ≡ (side_of c.battle (1 - s)).count)
unfolding switched sent_in
switched_foe s (choices.Move n) c lt two = (refl, refl)
switched_foe s choices.Struggle c lt two = (refl, refl)
switched_foe s choices.Continue c lt two = (refl, refl)
switched_foe s (choices.Switch p) c lt two =
    let kept = released-keeps (side_of c.battle (1 - s)) in
    let is = switch_foe c.battle s p lt two in
    (ap (λ (a : SideState). a.order) is ∙ kept.0, ap (λ (a : SideState). a.count) is ∙ kept.1)
switched_foe s choices.Pass c lt two = (refl, refl)
switched_foe s (choices.Team numbers) c lt two = (refl, refl)

-- both sides send in members that are there and aren't hidden
pub both_switched_alike : (one two : Choice) (hidden : Hidden) (front : ℕ → ℕ) (a b : Course) → SendsShown (hidden.member 0) (side_of a.battle 0) one →
    SendsShown (hidden.member 1) (side_of a.battle 1) two → AreCoursesAlike hidden front a b →
    AreCoursesAlike hidden (fronts (both_switched one two a).battle) (both_switched one two a) (both_switched one two b)
unfolding both_switched
both_switched_alike one two hidden front a b first second w =
    let kept = switched_foe 0 one a (omega arith) w.battle.first_two in
    switched_alike 1 two hidden _ _ _ (omega arith) (sends_kept (hidden.member 1) (side_of a.battle 1) (side_of (switched 0 one a).battle 1) two kept.0 kept.1 second)
    (switched_alike 0 one hidden front a b (omega arith) first w)
