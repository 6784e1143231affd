-- Alike sides: what is the same of both, and what they are after a fighter is put back.
use Rattle.std.proofs.Common.{◌≡◌, ◌≢◌, ◌+◌, ℕ, zero, suc, ◌<◌, ◌≤◌, ◌&&◌, Bool, true, false, Option, Some, None, List, [], ◌∷◌, nat_lt, length, take, drop, set, get_or, arith, refl, ap, ◌∙◌, sym, subst, inl, inr, get_or-set_same, get_or-set_other, length-set, get_or-take, length-take}
use Rattle.std.proofs.lemmas.Bool.Decides.{eqb_tells, nat_tests}
use Rattle.std.proofs.lemmas.Grind.{get_or_after_one}
use Rattle.std.specs.List.{list_any}
use Rattle.ps_mon.specs.declared.record.SideState.{SideState}
use Rattle.ps_mon.specs.declared.record.CopiedSlots.{CopiedSlots}
use Rattle.ps_mon.specs.declared.record.Volatiles.{Volatiles}
use Rattle.ps_mon.specs.declared.team.Member.{Member}
use Rattle.ps_mon.specs.declared.team.MoveSlot.{MoveSlot}
use Rattle.ps_mon.specs.declared.duel.Fighter.{Fighter}
use Rattle.ps_mon.specs.Reading.{active_index, member_of, active_of, slot_of, no_member}
use Rattle.ps_mon.specs.Slots.{slot_count_now, count_in_force, slot_now, slot_in_force, is_ready}
use Rattle.ps_mon.specs.Duels.{sleeps, freezes, bench_has, ready_of, fighter_of, with_fighter, worn}
use Rattle.ps_mon.specs.Valid.{has_standing}
use Rattle.battle_secrecy.specs.Alike.{IsUnhurt, IsPlaced, AreSidesAlike, AreMembersAlike, AreShownAlike, AreSlotsAlike, front_of}

-- ---- members

-- what isn't hidden is equal but for its hidden slots
pub shown_of : (hides : Bool) (slot : ℕ → Bool) (move : ℕ → ℕ) (m n : Member) → hides ≡ false → AreMembersAlike hides slot move m n → AreShownAlike slot move m n
shown_of true slot move m n e alike = cc
shown_of false slot move m n e alike = alike

-- and the other way round
pub alike_at : (hides : Bool) (slot : ℕ → Bool) (move : ℕ → ℕ) (m n : Member) → hides ≡ false → AreShownAlike slot move m n → AreMembersAlike hides slot move m n
alike_at true slot move m n e alike = cc
alike_at false slot move m n e alike = alike

-- both sides have the same member active
pub index_alike : (member : ℕ → Bool) (slot : ℕ → ℕ → Bool) (move : ℕ → ℕ → ℕ) (a b : SideState) → AreSidesAlike member slot move a b → active_index a ≡ active_index b
index_alike member slot move a b alike = ap (λ l. get_or l 0 0) alike.order

-- the active members are equal but for their hidden slots
pub active_alike : (member : ℕ → Bool) (slot : ℕ → ℕ → Bool) (move : ℕ → ℕ → ℕ) (a b : SideState) → AreSidesAlike member slot move a b → AreShownAlike (slot (active_index a)) (move (active_index a)) (active_of a) (active_of b)
active_alike member slot move a b alike =
    let inside : active_index a < a.count = alike.first.order 0 alike.first.count in
    let P : ℕ → Type 0 = λ k. AreShownAlike (slot (active_index a)) (move (active_index a)) (active_of a) (member_of b k) in
    subst P (index_alike member slot move a b alike) (shown_of (member (active_index a)) (slot (active_index a)) (move (active_index a)) _ _ alike.active (alike.members (active_index a) inside))

-- ---- fighters

-- a fighter is made of the active member's front, its place and the volatiles
fighter_from : ℕ → ℕ → Member → Volatiles → Fighter
fighter_from s index m vol = record { side = s; member = index; level = m.level; types = m.types; stats = m.stats; base_speed = m.base_speed; hp = m.hp; max = m.max; status = m.status; counter = m.counter; rested = m.rested; vol = vol }

fighter-is : (s : ℕ) (a : SideState) → fighter_of s a ≡ fighter_from s (active_index a) (front_of (active_of a)) a.vol
unfolding fighter_of fighter_from
fighter-is s a = refl

pub fighter_alike : (member : ℕ → Bool) (slot : ℕ → ℕ → Bool) (move : ℕ → ℕ → ℕ) (s : ℕ) (a b : SideState) → AreSidesAlike member slot move a b → fighter_of s a ≡ fighter_of s b
fighter_alike member slot move s a b alike =
    let front : front_of (active_of a) ≡ front_of (active_of b) = (active_alike member slot move a b alike).front in
    let index : active_index a ≡ active_index b = index_alike member slot move a b alike in
    let vol : a.vol ≡ b.vol = alike.vol in
    cc (fighter-is s a, fighter-is s b, front, index, vol)

-- ---- tests of members

-- a test that has one answer at all unhurt members, and doesn't look at slots
pub record Spares (test : Member → Bool) : Type 0 where
  pub answer : Bool
  pub unhurt : (m : Member) → IsUnhurt m → test m ≡ answer
  pub front : (m : Member) → test m ≡ test (front_of m)

pub sleeps_spares : Spares sleeps
sleeps_spares = record { answer = false; unhurt = λ m u. rw u.healthy; front = λ m. refl }

pub freezes_spares : Spares freezes
freezes_spares = record { answer = false; unhurt = λ m u. rw u.healthy; front = λ m. refl }

abbrev pub stands : Member → Bool
stands m = nat_lt 0 m.hp

above : (hp max : ℕ) → hp ≡ max → 1 ≤ max → nat_lt 0 hp ≡ true
above hp max e low = grind (arith, nat_tests)

pub stands_spares : Spares stands
stands_spares = record { answer = true; unhurt = λ m u. above m.hp m.max u.full u.stands; front = λ m. refl }

-- such a test has the same answer at alike members
pub member_agrees : (test : Member → Bool) → Spares test → (hides : Bool) (slot : ℕ → Bool) (move : ℕ → ℕ) (m n : Member) → AreMembersAlike hides slot move m n → test m ≡ test n
member_agrees test spares true slot move m n alike = spares.unhurt m alike.0 ∙ sym (spares.unhurt n alike.1)
member_agrees test spares false slot move m n alike = spares.front m ∙ ap test alike.front ∙ sym (spares.front n)

-- two tests that agree on each number of a list
any-agrees : (f g : ℕ → Bool) (xs : List ℕ) → ((i : ℕ) → i < length xs → f (get_or xs i 0) ≡ g (get_or xs i 0)) → list_any f xs ≡ list_any g xs
any-agrees f g [] agree = refl
any-agrees f g (x ∷ xs) agree =
    let first : f x ≡ g x = agree 0 (omega arith) in
    let others : list_any f xs ≡ list_any g xs = any-agrees f g xs (λ i lt. agree (suc i) (omega arith)) in
    cc

inside-tail : (xs : List ℕ) (i : ℕ) → i < length (drop 1 xs) → 1 + i < length xs
inside-tail [] i lt = absurd (omega arith)
inside-tail (x ∷ xs) i lt = omega arith

-- the members beside the active one
pub bench_alike : (test : Member → Bool) → Spares test → (member : ℕ → Bool) (slot : ℕ → ℕ → Bool) (move : ℕ → ℕ → ℕ) (a b : SideState) → AreSidesAlike member slot move a b → bench_has test a ≡ bench_has test b
bench_alike test spares member slot move a b alike =
    let bench : List ℕ = drop 1 (take a.count a.order) in
    let same : drop 1 (take b.count b.order) ≡ bench = cc (alike.count, alike.order) in
    rw same (any-agrees (λ k. test (member_of a k)) (λ k. test (member_of b k)) bench (λ i lt.
    let inside : 1 + i < a.count = omega (arith, inside-tail (take a.count a.order) i lt, length-take a.count a.order) in
    let at : get_or bench i 0 ≡ get_or a.order (1 + i) 0 = rw get_or_after_one (rw get_or-take) in
    let there : get_or bench i 0 < a.count = rw at (alike.first.order (1 + i) inside) in
    member_agrees test spares _ _ _ _ _ (alike.members (get_or bench i 0) there)))

-- a test that agrees at each of the first n members
all-agrees : (test : Member → Bool) (n : ℕ) (xs ys : List Member) → n ≤ length xs → n ≤ length ys → ((k : ℕ) → k < n → test (get_or xs k no_member) ≡ test (get_or ys k no_member)) →
    list_any test (take n xs) ≡ list_any test (take n ys)
all-agrees test zero xs ys long long' agree = refl
all-agrees test (suc n) [] ys long long' agree = absurd (omega arith)
all-agrees test (suc n) (x ∷ xs) [] long long' agree = absurd (omega arith)
all-agrees test (suc n) (x ∷ xs) (y ∷ ys) long long' agree =
    let first : test x ≡ test y = agree 0 (omega arith) in
    let others : list_any test (take n xs) ≡ list_any test (take n ys) = all-agrees test n xs ys (omega arith) (omega arith) (λ k lt. agree (suc k) (omega arith)) in
    cc

-- hidden members stand in both
pub standing_alike : (member : ℕ → Bool) (slot : ℕ → ℕ → Bool) (move : ℕ → ℕ → ℕ) (a b : SideState) → AreSidesAlike member slot move a b → has_standing a ≡ has_standing b
unfolding has_standing
standing_alike member slot move a b alike =
    let long' : a.count ≤ length b.members = omega (arith, alike.first.long, alike.long) in
    all-agrees stands a.count a.members b.members alike.first.long long' (λ k h. member_agrees stands stands_spares _ _ _ _ _ (alike.members k h))
    ∙ ap (λ n. list_any stands (take n b.members)) alike.count

-- ---- slots in force

-- a slot has PP left in both or in none
ready-slot : (hides : Bool) (mv : ℕ) (x y : MoveSlot) → AreSlotsAlike hides mv x y → nat_lt 0 x.pp ≡ nat_lt 0 y.pp
ready-slot true mv x y alike = let p = alike.1 in let q = alike.2 in grind (arith, nat_tests)
ready-slot false mv x y alike = ap (λ (z : MoveSlot). nat_lt 0 z.pp) alike

ready-in-force : (copied : Option CopiedSlots) (mimic : Option ℕ) (m n : Member) (j : ℕ) → nat_lt 0 (slot_of m j).pp ≡ nat_lt 0 (slot_of n j).pp →
    nat_lt 0 (slot_in_force copied mimic m j).pp ≡ nat_lt 0 (slot_in_force copied mimic n j).pp
ready-in-force None None m n j e = e
ready-in-force None (Some mv) m n j e = e
ready-in-force (Some copied) mimic m n j e = refl

count-in-force : (copied : Option CopiedSlots) (m n : Member) → m.slot_count ≡ n.slot_count → count_in_force copied m ≡ count_in_force copied n
count-in-force None m n e = e
count-in-force (Some copied) m n e = refl

-- both sides have as many slots in force
pub count_alike : (member : ℕ → Bool) (slot : ℕ → ℕ → Bool) (move : ℕ → ℕ → ℕ) (a b : SideState) → AreSidesAlike member slot move a b → slot_count_now a ≡ slot_count_now b
unfolding slot_count_now
count_alike member slot move a b alike =
    let active = active_alike member slot move a b alike in
    count-in-force a.vol.slots.copied _ _ (ap (λ (m : Member). m.slot_count) active.front)
    ∙ ap (λ (v : Volatiles). count_in_force v.slots.copied (active_of b)) alike.vol

-- and the same of them have PP left
pub pp_alike : (member : ℕ → Bool) (slot : ℕ → ℕ → Bool) (move : ℕ → ℕ → ℕ) (a b : SideState) (j : ℕ) → AreSidesAlike member slot move a b → nat_lt 0 (slot_now a j).pp ≡ nat_lt 0 (slot_now b j).pp
unfolding slot_now
pp_alike member slot move a b j alike =
    let active = active_alike member slot move a b alike in
    ready-in-force a.vol.slots.copied (get_or a.vol.slots.mimic j None) (active_of a) (active_of b) j (ready-slot _ _ _ _ (active.slots j))
    ∙ ap (λ (v : Volatiles). nat_lt 0 (slot_in_force v.slots.copied (get_or v.slots.mimic j None) (active_of b) j).pp) alike.vol

pub ready_at_alike : (member : ℕ → Bool) (slot : ℕ → ℕ → Bool) (move : ℕ → ℕ → ℕ) (a b : SideState) (j : ℕ) → AreSidesAlike member slot move a b → is_ready a j ≡ is_ready b j
unfolding is_ready
ready_at_alike member slot move a b j alike =
    ap (λ n. nat_lt j n && nat_lt 0 (slot_now a j).pp) (count_alike member slot move a b alike)
    ∙ ap (λ p. nat_lt j (slot_count_now b) && p) (pp_alike member slot move a b j alike)

pub ready_alike : (member : ℕ → Bool) (slot : ℕ → ℕ → Bool) (move : ℕ → ℕ → ℕ) (a b : SideState) → AreSidesAlike member slot move a b → ready_of a ≡ ready_of b
ready_alike member slot move a b alike =
    cc (ready_at_alike member slot move a b 0 alike, ready_at_alike member slot move a b 1 alike, ready_at_alike member slot move a b 2 alike, ready_at_alike member slot move a b 3 alike)

-- ---- after a write

-- what holds of the two new elements and of the old ones, where both lists are written at one place
pub at_one_both : {A : Type 0} (R : ℕ → A → A → Type 0) (xs ys : List A) (p : ℕ) (x y d : A) → p < length xs → p < length ys → R p x y → (k : ℕ) →
    (k ≢ p → R k (get_or xs k d) (get_or ys k d)) → R k (get_or (set xs p x) k d) (get_or (set ys p y) k d)
at_one_both R xs ys p x y d lt lt' new k old = elim (eqb_tells k p) [
  | inl e ↦ rw e.1 (rw get_or-set_same (rw get_or-set_same new))
  | inr e ↦ (let ne = e.1 in rw get_or-set_other (rw get_or-set_other (old ne)))
]

rest-kept : (xs ys : List Member) (p k : ℕ) (m n : Member) → k ≢ p → get_or xs k no_member ≡ get_or ys k no_member → get_or (set xs p m) k no_member ≡ get_or (set ys p n) k no_member
rest-kept xs ys p k m n ne e = rw get_or-set_other (rw get_or-set_other e)

vol-placed : (a : SideState) (v : Volatiles) → IsPlaced a → IsPlaced (record a { vol = v })
vol-placed a v placed = record { count = placed.count; count_high = placed.count_high; long = placed.long; six_order = placed.six_order; order = placed.order }

-- the active member is there
pub index_inside : (a : SideState) → IsPlaced a → active_index a < length a.members
index_inside a placed = omega (arith, placed.order 0 placed.count, placed.long)

-- a side whose active member is another
abbrev pub with_active : SideState → Member → SideState
with_active a m = record a { members = set a.members (active_index a) m }

pub active_placed : (a : SideState) (m : Member) → IsPlaced a → IsPlaced (with_active a m)
active_placed a m placed = record { count = placed.count; count_high = placed.count_high; long = omega (arith, placed.long, length-set {A = Member}); six_order = placed.six_order; order = placed.order }

-- sides stay alike where the active members are written so
pub active_put_alike : (member : ℕ → Bool) (slot : ℕ → ℕ → Bool) (move : ℕ → ℕ → ℕ) (a b : SideState) (m n : Member) → AreSidesAlike member slot move a b →
    AreShownAlike (slot (active_index a)) (move (active_index a)) m n → AreSidesAlike member slot move (with_active a m) (with_active b n)
active_put_alike member slot move a b m n alike shown =
    let index : active_index a ≡ active_index b = index_alike member slot move a b alike in
    let inside : active_index a < a.count = alike.first.order 0 alike.first.count in
    let there = index_inside a alike.first in
    let there' : active_index a < length b.members = omega (arith, there, alike.long) in
    let R : ℕ → Member → Member → Type 0 = λ k x y. k < a.count → AreMembersAlike (member k) (slot k) (move k) x y in
    let Q : ℕ → Type 0 = λ q. (k : ℕ) → k < a.count → AreMembersAlike (member k) (slot k) (move k) (get_or (set a.members (active_index a) m) k no_member) (get_or (set b.members q n) k no_member) in
    let S : ℕ → Type 0 = λ q. (k : ℕ) → a.count ≤ k → get_or (set a.members (active_index a) m) k no_member ≡ get_or (set b.members q n) k no_member in
    record {
      first = active_placed a m alike.first;
      second = active_placed b n alike.second;
      count = alike.count;
      order = alike.order;
      vol = alike.vol;
      active = alike.active;
      members = subst Q index (λ k. at_one_both R a.members b.members (active_index a) m n no_member there there'
          (λ _. alike_at (member (active_index a)) _ _ _ _ alike.active shown) k (λ _. alike.members k));
      long = length-set a.members (active_index a) m ∙ alike.long ∙ sym (length-set b.members (active_index b) n);
      rest = subst S index (λ k past. rest-kept a.members b.members (active_index a) k m n (omega arith) (alike.rest k past));
    }

-- and where their volatiles are written alike
pub vol_put_alike : (member : ℕ → Bool) (slot : ℕ → ℕ → Bool) (move : ℕ → ℕ → ℕ) (a b : SideState) (v w : Volatiles) → AreSidesAlike member slot move a b → v ≡ w →
    AreSidesAlike member slot move (record a { vol = v }) (record b { vol = w })
vol_put_alike member slot move a b v w alike e = record { first = vol-placed a v alike.first; second = vol-placed b w alike.second; count = alike.count; order = alike.order; vol = e; active = alike.active; members = alike.members; long = alike.long; rest = alike.rest }

pub worn_alike : (slot : ℕ → Bool) (move : ℕ → ℕ) (m n : Member) (f : Fighter) → AreShownAlike slot move m n → AreShownAlike slot move (worn m f) (worn n f)
worn_alike slot move m n f alike = record { four = alike.four; four_too = alike.four_too; front = ap (λ x. worn x f) alike.front; slots = alike.slots }

-- one fighter put into both sides
pub fighter_put_alike : (member : ℕ → Bool) (slot : ℕ → ℕ → Bool) (move : ℕ → ℕ → ℕ) (a b : SideState) (f : Fighter) → AreSidesAlike member slot move a b → AreSidesAlike member slot move (with_fighter a f) (with_fighter b f)
unfolding with_fighter
fighter_put_alike member slot move a b f alike =
    let written = active_put_alike member slot move a b _ _ alike (worn_alike _ _ _ _ f (active_alike member slot move a b alike)) in
    vol_put_alike member slot move _ _ _ _ written (ap (λ (v : Volatiles). record f.vol { slots = v.slots }) alike.vol)

-- ---- nothing is hidden
