-- What follows the acts keeps battles alike: hidden members stand in both.
use Rattle.std.proofs.Common.{◌≡◌, ℕ, ◌+◌, ◌++◌, [], ◌∷◌, Bool, true, false, cond, not, ◌&&◌, ◌||◌, ◌==◌, List, refl, ap, subst, arith}
use Rattle.ps_event.specs.declared.event.Event.{Event}
use Rattle.ps_event.specs.declared.event.Event.TheVariants.{Upkeep, Turn, Tie}
use Rattle.ps_mon.specs.declared.record.SideState.{SideState}
use Rattle.ps_mon.specs.declared.record.Phase.{Phase}
use Rattle.ps_mon.specs.declared.record.Phase.TheVariants as phases
use Rattle.ps_mon.specs.Reading.{side_of}
use Rattle.ps_mon.specs.Valid.{has_standing}
use Rattle.ps_hits.specs.Courses.{Course}
use Rattle.ps_battle.specs.Acts.{is_down}
use Rattle.ps_battle.specs.Closings.{enter, asks, next_turn, closed}
use Rattle.battle_secrecy.specs.Places.{Hidden}
use Rattle.battle_secrecy.specs.Courses.{AreCoursesAlike, KeepsAlike}
use Rattle.battle_secrecy.proofs.SideLemmas.{standing_alike}
use Rattle.battle_secrecy.proofs.KindLemmas.{down_alike}

-- a phase, and what is told of it
pub enter_alike : (phase : Phase) (events : List Event) → KeepsAlike (enter phase events)
unfolding enter
enter_alike phase events hidden front a b w =
    let v = w.battle in
    record {
      battle = record { first_two = v.first_two; second_two = v.second_two; turn = v.turn; phase = refl; clauses = v.clauses; rng = v.rng; sides = v.sides };
      indices = w.indices;
      told = ap (λ told. told ++ events) w.told;
    }

-- a test that is the same in both leads both the same way
pub either_alike : (hidden : Hidden) (front : ℕ → ℕ) (x y : Bool) (a a' b b' : Course) → x ≡ y → AreCoursesAlike hidden front a b → AreCoursesAlike hidden front a' b' → AreCoursesAlike hidden front (cond x a a') (cond y b b')
either_alike hidden front true y a a' b b' e w v = subst (λ z. AreCoursesAlike hidden front a (cond z b b')) e w
either_alike hidden front false y a a' b b' e w v = subst (λ z. AreCoursesAlike hidden front a' (cond z b b')) e v

later : Course → Course
later c = record { battle = record c.battle { turn = c.battle.turn + 1 }; told = c.told ++ Upkeep ∷ [] }

later-alike : KeepsAlike later
unfolding later
later-alike hidden front a b w =
    let v = w.battle in
    record {
      battle = record { first_two = v.first_two; second_two = v.second_two; turn = ap (λ n. n + 1) v.turn; phase = v.phase; clauses = v.clauses; rng = v.rng; sides = v.sides };
      indices = w.indices;
      told = ap (λ told. told ++ Upkeep ∷ []) w.told;
    }

-- the next turn
pub next_alike : KeepsAlike next_turn
unfolding next_turn later
next_alike hidden front a b w =
    let v = later-alike hidden front a b w in
    let P : ℕ → Type 0 = λ n. AreCoursesAlike hidden front (enter phases.Turn (Turn (a.battle.turn + 1) ∷ asks) (later a)) (enter phases.Turn (Turn n ∷ asks) (later b)) in
    either_alike hidden front _ _ _ _ _ _ (ap (λ n. n == 1000) v.battle.turn) (enter_alike phases.Tied (Tie ∷ []) hidden front _ _ v) (subst P v.battle.turn (enter_alike phases.Turn _ hidden front _ _ v))

-- what follows the acts
pub close_alike : KeepsAlike closed
unfolding closed
close_alike hidden front a b w =
    let one : has_standing (side_of a.battle 0) ≡ has_standing (side_of b.battle 0) = standing_alike _ _ _ _ _ (w.battle.sides 0 (omega arith)) in
    let two : has_standing (side_of a.battle 1) ≡ has_standing (side_of b.battle 1) = standing_alike _ _ _ _ _ (w.battle.sides 1 (omega arith)) in
    let p = down_alike hidden a.battle b.battle 0 (omega arith) w.battle in
    let q = down_alike hidden a.battle b.battle 1 (omega arith) w.battle in
    let both : (not (has_standing (side_of a.battle 0)) && not (has_standing (side_of a.battle 1))) ≡ (not (has_standing (side_of b.battle 0)) && not (has_standing (side_of b.battle 1))) = cc (one, two) in
    let fallen : (is_down a.battle 0 || is_down a.battle 1) ≡ (is_down b.battle 0 || is_down b.battle 1) = cc (p, q) in
    let phase : phases.Replace (is_down a.battle 0) (is_down a.battle 1) ≡ phases.Replace (is_down b.battle 0) (is_down b.battle 1) = cc (p, q) in
    let P : Phase → Type 0 = λ f. AreCoursesAlike hidden front (enter (phases.Replace (is_down a.battle 0) (is_down a.battle 1)) asks a) (enter f asks b) in
    either_alike hidden front _ _ _ _ _ _ both (enter_alike _ _ hidden front _ _ w)
    (either_alike hidden front _ _ _ _ _ _ (ap not one) (enter_alike _ _ hidden front _ _ w)
    (either_alike hidden front _ _ _ _ _ _ (ap not two) (enter_alike _ _ hidden front _ _ w)
    (either_alike hidden front _ _ _ _ _ _ fallen (subst P phase (enter_alike _ _ hidden front _ _ w)) (next_alike hidden front a b w))))

-- ---- the sides themselves stay

record HasSides (sides : List SideState) (c : Course) : Type 0 where
  same : c.battle.sides ≡ sides

enter-sides : (phase : Phase) (events : List Event) (sides : List SideState) (c : Course) → HasSides sides c → HasSides sides (enter phase events c)
unfolding enter
enter-sides phase events sides c h = record { same = h.same }

either-sides : (sides : List SideState) (x : Bool) (a b : Course) → HasSides sides a → HasSides sides b → HasSides sides (cond x a b)
either-sides sides true a b h k = h
either-sides sides false a b h k = k

next-sides : (sides : List SideState) (c : Course) → HasSides sides c → HasSides sides (next_turn c)
unfolding next_turn later
next-sides sides c h =
    let v : HasSides sides (later c) = record { same = h.same } in
    either-sides sides (c.battle.turn + 1 == 1000) _ _ (enter-sides phases.Tied _ sides (later c) v) (enter-sides phases.Turn _ sides (later c) v)

closed-sides : (sides : List SideState) (c : Course) → HasSides sides c → HasSides sides (closed c)
unfolding closed
closed-sides sides c h =
    let one = has_standing (side_of c.battle 0) in
    let two = has_standing (side_of c.battle 1) in
    let fallen = is_down c.battle 0 || is_down c.battle 1 in
    let ended : (phase : Phase) (events : List Event) → HasSides sides (enter phase events c) = λ phase events. enter-sides phase events sides c h in
    either-sides sides (not one && not two) _ _ (ended _ _)
    (either-sides sides (not one) _ _ (ended _ _)
    (either-sides sides (not two) _ _ (ended _ _)
    (either-sides sides fallen _ _ (ended _ _) (next-sides sides c h))))

pub next_sides : (c : Course) → (next_turn c).battle.sides ≡ c.battle.sides
next_sides c = (next-sides c.battle.sides c (record { same = refl })).same

pub closed_sides : (c : Course) → (closed c).battle.sides ≡ c.battle.sides
closed_sides c = (closed-sides c.battle.sides c (record { same = refl })).same
