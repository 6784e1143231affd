-- Alike battles have the same duels, and stay alike where one duel is put back into both.
use Rattle.std.proofs.Common.{◌≡◌, ℕ, ◌<◌, ◌-◌, length, set, get_or, arith, refl, ap, ◌∙◌, subst, inl, inr, length-set, false}
use Rattle.ps_mon.specs.declared.record.Battle.{Battle}
use Rattle.ps_mon.specs.declared.record.SideState.{SideState}
use Rattle.ps_mon.specs.declared.duel.Duel.{Duel}
use Rattle.ps_mon.specs.declared.duel.Fighter.{Fighter}
use Rattle.ps_mon.specs.Reading.{side_of, no_side}
use Rattle.ps_mon.specs.Duels.{sleeps, freezes, with_fighter, duel_of, with_duel}
use Rattle.ps_mon.proofs.Lists.{at_user, at_foe, at_both, which_of}
use Rattle.ps_hits.specs.Scenes.{Play, Scene}
use Rattle.ps_hits.specs.Courses.{Course, played}
use Rattle.ps_copy.specs.Answers.{answer_of}
use Rattle.battle_secrecy.specs.Places.{Hidden}
use Rattle.battle_secrecy.specs.Alike.{AreAlike, AreSidesAlike}
use Rattle.battle_secrecy.specs.Courses.{AreCoursesAlike, KeepsAlike}
use Rattle.battle_secrecy.proofs.SideLemmas.{fighter_alike, bench_alike, sleeps_spares, freezes_spares, ready_alike, count_alike, fighter_put_alike}

-- the duel of both is the same
pub duel_alike : (hidden : Hidden) (a b : Battle) (user : ℕ) → user < 2 → AreAlike hidden a b → duel_of a user ≡ duel_of b user
unfolding duel_of
duel_alike hidden a b user lt alike =
    let foe : AreSidesAlike (hidden.member (1 - user)) (hidden.slot (1 - user)) (hidden.move (1 - user)) (side_of a (1 - user)) (side_of b (1 - user)) = alike.sides (1 - user) (omega arith) in
    let mine = fighter_alike _ _ _ user _ _ (alike.sides user lt) in
    let theirs = fighter_alike _ _ _ (1 - user) _ _ foe in
    let asleep = bench_alike sleeps sleeps_spares _ _ _ _ _ foe in
    let frozen = bench_alike freezes freezes_spares _ _ _ _ _ foe in
    let ready = ready_alike _ _ _ _ _ foe in
    let count = count_alike _ _ _ _ _ foe in
    cc (mine, theirs, alike.clauses, asleep, frozen, ready, count, alike.rng)

-- battles with sides that are written alike, and with the same random source
pub sides_put_alike : (hidden : Hidden) (a b : Battle) (user rng rng' : ℕ) (m n o p : SideState) → user < 2 → rng ≡ rng' → AreAlike hidden a b →
    AreSidesAlike (hidden.member user) (hidden.slot user) (hidden.move user) m n → AreSidesAlike (hidden.member (1 - user)) (hidden.slot (1 - user)) (hidden.move (1 - user)) o p →
    AreAlike hidden (record a { sides = set (set a.sides user m) (1 - user) o; rng = rng }) (record b { sides = set (set b.sides user n) (1 - user) p; rng = rng' })
sides_put_alike hidden a b user rng rng' m n o p lt same alike mine theirs = record {
  first_two = simp length-set alike.first_two;
  second_two = simp length-set alike.second_two;
  turn = alike.turn;
  phase = alike.phase;
  clauses = alike.clauses;
  rng = same;
  sides = λ s k. elim (which_of user s lt k) [
    | inl e ↦ rw e (rw (at_user a.sides user _ _ no_side lt alike.first_two) (rw (at_user b.sides user _ _ no_side lt alike.second_two) mine))
    | inr e ↦ rw e (rw (at_foe a.sides user _ _ no_side lt alike.first_two) (rw (at_foe b.sides user _ _ no_side lt alike.second_two) theirs))
  ];
}

-- one duel, put back into both
pub put_alike : (hidden : Hidden) (a b : Battle) (user : ℕ) (d : Duel) → user < 2 → AreAlike hidden a b → AreAlike hidden (with_duel a user d) (with_duel b user d)
unfolding with_duel
put_alike hidden a b user d lt alike =
    sides_put_alike hidden a b user _ _ _ _ _ _ lt refl alike
    (fighter_put_alike _ _ _ _ _ d.user (alike.sides user lt)) (fighter_put_alike _ _ _ _ _ d.foe (alike.sides (1 - user) (omega arith)))

fighter-order : (a : SideState) (f : Fighter) → (with_fighter a f).order ≡ a.order
unfolding with_fighter
fighter-order a f = refl

-- a duel that is put back changes no order
pub put_order : (b : Battle) (user : ℕ) (d : Duel) → user < 2 → length b.sides ≡ 2 → (s : ℕ) → s < 2 → (side_of (with_duel b user d) s).order ≡ (side_of b s).order
unfolding with_duel
put_order b user d lt two =
    at_both (λ s (a : SideState). a.order ≡ (side_of b s).order) b.sides user _ _ no_side lt two (fighter-order _ d.user) (fighter-order _ d.foe)

fighter-count : (a : SideState) (f : Fighter) → (with_fighter a f).count ≡ a.count
unfolding with_fighter
fighter-count a f = refl

-- and no count
pub put_count : (b : Battle) (user : ℕ) (d : Duel) → user < 2 → length b.sides ≡ 2 → (s : ℕ) → s < 2 → (side_of (with_duel b user d) s).count ≡ (side_of b s).count
unfolding with_duel
put_count b user d lt two =
    at_both (λ s (a : SideState). a.count ≡ (side_of b s).count) b.sides user _ _ no_side lt two (fighter-count _ d.user) (fighter-count _ d.foe)

-- whatever the two active members play
pub row_alike : {A : Type 0} (row : Play A) (user : ℕ) → user < 2 → KeepsAlike (played row user)
row_alike row user lt hidden front a b w =
    let e : duel_of a.battle user ≡ duel_of b.battle user = duel_alike hidden a.battle b.battle user lt w.battle in
    let told : a.told ≡ b.told = w.told in
    let from : Course → Scene = λ c. record { duel = duel_of c.battle user; told = c.told } in
    let same : from a ≡ from b = cc (e, told) in
    let end : (row (from a)).1 ≡ (row (from b)).1 = ap (λ s. (row s).1) same in
    let P : Duel → Type 0 = λ d. AreAlike hidden (with_duel a.battle user (row (from a)).1.duel) (with_duel b.battle user d) in
    record {
      battle = subst P (ap (λ s. s.duel) end) (put_alike hidden a.battle b.battle user (row (from a)).1.duel lt w.battle);
      indices = λ s h. ap (λ l. get_or l 0 0) (put_order a.battle user (row (from a)).1.duel lt w.battle.first_two s h) ∙ w.indices s h;
      told = ap (λ s. s.told) end;
    }

-- and it answers the same in both
pub answer_alike : {A : Type 0} (row : Play A) (user : ℕ) → user < 2 → (hidden : Hidden) (front : ℕ → ℕ) (a b : Course) → AreCoursesAlike hidden front a b → answer_of row user a ≡ answer_of row user b
answer_alike row user lt hidden front a b w =
    let e : duel_of a.battle user ≡ duel_of b.battle user = duel_alike hidden a.battle b.battle user lt w.battle in
    let told : a.told ≡ b.told = w.told in
    let from : Course → Scene = λ c. record { duel = duel_of c.battle user; told = c.told } in
    let same : from a ≡ from b = cc (e, told) in
    ap (λ s. (row s).0) same
