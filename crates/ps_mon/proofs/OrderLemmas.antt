-- A team in another order: what stays.
use Rattle.std.proofs.Common.{◌≡◌, ◌≢◌, ℕ, zero, suc, ◌<◌, ◌≤◌, ◌-◌, Bool, true, false, not, ◌&&◌, nat_lt, nat_le, ◌==◌, List, [], ◌∷◌, length, take, get_or, arith, refl, ap, sym, ◌∙◌, length-set, length-take, get_or-take, get_or-set_other}
use Rattle.std.proofs.lemmas.Bool.{true≢false, and_parts, lt-ltb}
use Rattle.std.proofs.lemmas.Bool.Decides.{nat_tests}
use Rattle.std.proofs.lemmas.List.Folds.{list_any_at}
use Rattle.ps_mon.specs.declared.record.Battle.{Battle}
use Rattle.ps_mon.specs.declared.record.SideState.{SideState}
use Rattle.ps_mon.specs.Reading.{side_of, no_side}
use Rattle.ps_mon.specs.Valid.{IsSound, IsSide, IsShaped, AllStand, has_standing}
use Rattle.ps_mon.specs.Known.{AreKnown, IsSideKnown}
use Rattle.ps_mon.specs.Orders.{has_number, is_place, are_positions, is_order, index_at, reordered, with_order}
use Rattle.ps_mon.proofs.Lists.{at_one}

-- ---- positions

-- each place is one of the first six
pub each_place : (count named : ℕ) (numbers : List ℕ) → are_positions count named numbers ≡ true → (k : ℕ) → k < 6 → is_place count named numbers k ≡ true
unfolding are_positions
each_place count named numbers e k lt =
    let five = and_parts _ (is_place count named numbers 5) e in
    let four = and_parts _ (is_place count named numbers 4) five.0 in
    let three = and_parts _ (is_place count named numbers 3) four.0 in
    let two = and_parts _ (is_place count named numbers 2) three.0 in
    let one = and_parts (is_place count named numbers 0) (is_place count named numbers 1) two.0 in
    by_number one.0 one.1 two.1 three.1 four.1 five.1 k lt
  where
    P : ℕ → Type 0
    P k = is_place count named numbers k ≡ true

    by_number : P 0 → P 1 → P 2 → P 3 → P 4 → P 5 → (k : ℕ) → k < 6 → P k
    by_number a b c d f g zero h = a
    by_number a b c d f g (suc zero) h = b
    by_number a b c d f g (suc (suc zero)) h = c
    by_number a b c d f g (suc (suc (suc zero))) h = d
    by_number a b c d f g (suc (suc (suc (suc zero)))) h = f
    by_number a b c d f g (suc (suc (suc (suc (suc zero))))) h = g
    by_number a b c d f g (suc (suc (suc (suc (suc (suc k)))))) h = absurd (omega arith)

-- a position that is named
pub record IsPosition (count : ℕ) (numbers : List ℕ) (k : ℕ) : Type 0 where
  pub low : 1 ≤ get_or numbers k 0
  pub high : get_or numbers k 0 ≤ count
  pub new : has_number (get_or numbers k 0) (take k numbers) ≡ false

not-is : (b : Bool) → not b ≡ true → b ≡ false
not-is false e = refl
not-is true e = absurd (true≢false (sym e))

pub position_is : (count named : ℕ) (numbers : List ℕ) (k : ℕ) → k < named → is_place count named numbers k ≡ true → IsPosition count numbers k
unfolding is_place
position_is count named numbers k lt e =
    let h : (nat_lt 0 (get_or numbers k 0) && nat_le (get_or numbers k 0) count && not (has_number (get_or numbers k 0) (take k numbers))) ≡ true = rw (lt-ltb k named lt) at e in
    let a = and_parts (nat_lt 0 (get_or numbers k 0) && nat_le (get_or numbers k 0) count) _ h in
    let b = and_parts (nat_lt 0 (get_or numbers k 0)) _ a.0 in
    record { low = grind (arith, nat_tests, b.0); high = grind (arith, nat_tests, b.1); new = not-is _ a.1 }

-- a position isn't that of a place before it
earlier-differs : (count : ℕ) (numbers : List ℕ) (j k : ℕ) → j < k → k < length numbers → IsPosition count numbers k → get_or numbers j 0 ≢ get_or numbers k 0
earlier-differs count numbers j k lt inside is e =
    let within : j < length (take k numbers) = simp length-take (omega (arith, lt, inside)) in
    let read : get_or (take k numbers) j 0 ≡ get_or numbers k 0 = rw get_or-take e in
    let found : has_number (get_or numbers k 0) (take k numbers) ≡ true = list_any_at (λ m. m == get_or numbers k 0) (take k numbers) j 0 within (rw read (grind (arith, nat_tests))) in
    true≢false (sym found ∙ is.new)

-- ---- a side in another order

seat-is : (a : SideState) (numbers : List ℕ) (k : ℕ) → k < 6 → get_or (reordered a numbers).order k 0 ≡ index_at a.order (get_or numbers k 0)
unfolding reordered
seat-is a numbers zero h = refl
seat-is a numbers (suc zero) h = refl
seat-is a numbers (suc (suc zero)) h = refl
seat-is a numbers (suc (suc (suc zero))) h = refl
seat-is a numbers (suc (suc (suc (suc zero)))) h = refl
seat-is a numbers (suc (suc (suc (suc (suc zero))))) h = refl
seat-is a numbers (suc (suc (suc (suc (suc (suc k)))))) h = absurd (omega arith)

order-long : (a : SideState) (numbers : List ℕ) → length (reordered a numbers).order ≡ 6
unfolding reordered
order-long a numbers = refl

pub order_below : (a : SideState) (numbers : List ℕ) → a.count ≤ 6 → ((k : ℕ) → k < a.count → get_or a.order k 0 < a.count) → is_order a.count numbers ≡ true → (k : ℕ) → k < a.count → get_or (reordered a numbers).order k 0 < a.count
order_below a numbers few below e k lt =
    let six : k < 6 = omega (arith, few, lt) in
    let is = position_is a.count a.count numbers k lt (each_place a.count a.count numbers e k six) in
    rw (seat-is a numbers k six) (below (get_or numbers k 0 - 1) (omega (arith, is.low, is.high)))

order-once : (a : SideState) (numbers : List ℕ) → length numbers ≡ 6 → IsShaped a → is_order a.count numbers ≡ true → (j k : ℕ) → j < a.count → k < a.count → get_or (reordered a numbers).order j 0 ≡ get_or (reordered a numbers).order k 0 → j ≡ k
order-once a numbers long shape e j k hj hk same =
    let few = shape.count_high in
    let six-j : j < 6 = omega (arith, few, hj) in
    let six-k : k < 6 = omega (arith, few, hk) in
    let one = position_is a.count a.count numbers j hj (each_place a.count a.count numbers e j six-j) in
    let two = position_is a.count a.count numbers k hk (each_place a.count a.count numbers e k six-k) in
    let seats : index_at a.order (get_or numbers j 0) ≡ index_at a.order (get_or numbers k 0) = sym (seat-is a numbers j six-j) ∙ same ∙ seat-is a numbers k six-k in
    let less : get_or numbers j 0 - 1 ≡ get_or numbers k 0 - 1 = shape.once (get_or numbers j 0 - 1) (get_or numbers k 0 - 1) (omega (arith, one.low, one.high)) (omega (arith, two.low, two.high)) seats in
    let alike : get_or numbers j 0 ≡ get_or numbers k 0 = omega (arith, less, one.low, two.low) in
    by_order (λ lt. earlier-differs a.count numbers j k lt (omega (arith, long, six-k)) two alike) (λ lt. earlier-differs a.count numbers k j lt (omega (arith, long, six-j)) one (sym alike))
  where
    by_order : (j < k → ⊥) → (k < j → ⊥) → j ≡ k
    by_order p q = omega (arith, p, q)

reordered-side : (a : SideState) (numbers : List ℕ) → length numbers ≡ 6 → is_order a.count numbers ≡ true → IsSide a → IsSide (reordered a numbers)
unfolding reordered
reordered-side a numbers long e v =
    let shape = v.shape in
    record {
      shape = record {
        six = shape.six;
        six_order = order-long a numbers;
        count = shape.count;
        count_high = shape.count_high;
        order = order_below a numbers shape.count_high shape.order e;
        once = order-once a numbers long shape e;
      };
      members = v.members;
      vol = v.vol;
    }

reordered-known : (moves : ℕ) (a : SideState) (numbers : List ℕ) → IsSideKnown moves a → IsSideKnown moves (reordered a numbers)
unfolding reordered
reordered-known moves a numbers known = record { members = known.members; vol = known.vol }

reordered-standing : (a : SideState) (numbers : List ℕ) → has_standing (reordered a numbers) ≡ has_standing a
unfolding reordered has_standing
reordered-standing a numbers = refl

reordered-all : (a : SideState) (numbers : List ℕ) → AllStand a → AllStand (reordered a numbers)
unfolding reordered
reordered-all a numbers h = h

-- ---- a battle with a side in another order

pub order-sound : (b : Battle) (s : ℕ) (numbers : List ℕ) → s < 2 → length numbers ≡ 6 → is_order (side_of b s).count numbers ≡ true → IsSound b → IsSound (with_order b s numbers)
unfolding with_order
order-sound b s numbers lt long e v = record {
  two = simp length-set v.two;
  sides = λ i h. at_one (λ i (a : SideState). i < 2 → IsSide a) b.sides s (reordered (side_of b s) numbers) no_side (omega (arith, v.two)) (λ i. reordered-side (side_of b s) numbers long e (v.sides s i)) i (λ _. v.sides i) h;
  turn = v.turn;
  clauses = v.clauses;
}

pub order-known : (moves : ℕ) (b : Battle) (s : ℕ) (numbers : List ℕ) → s < 2 → IsSound b → AreKnown moves b → AreKnown moves (with_order b s numbers)
unfolding with_order
order-known moves b s numbers lt v known = record {
  sides = λ i h. at_one (λ i (a : SideState). i < 2 → IsSideKnown moves a) b.sides s (reordered (side_of b s) numbers) no_side (omega (arith, v.two)) (λ i. reordered-known moves (side_of b s) numbers (known.sides s i)) i (λ _. known.sides i) h;
}

pub order-some : (b : Battle) (s : ℕ) (numbers : List ℕ) → s < 2 → IsSound b → (i : ℕ) → i < 2 → has_standing (side_of b i) ≡ true → has_standing (side_of (with_order b s numbers) i) ≡ true
unfolding with_order
order-some b s numbers lt v i h =
    at_one (λ i (a : SideState). has_standing (side_of b i) ≡ true → has_standing a ≡ true) b.sides s (reordered (side_of b s) numbers) no_side (omega (arith, v.two)) (λ e. reordered-standing _ numbers ∙ e) i (λ _ e. e)

pub order-stand : (b : Battle) (s : ℕ) (numbers : List ℕ) → s < 2 → IsSound b → (i : ℕ) → i < 2 → AllStand (side_of b i) → AllStand (side_of (with_order b s numbers) i)
unfolding with_order
order-stand b s numbers lt v i h =
    at_one (λ i (a : SideState). AllStand (side_of b i) → AllStand a) b.sides s (reordered (side_of b s) numbers) no_side (omega (arith, v.two)) (reordered-all _ numbers) i (λ _ all. all)

pub order-foe : (b : Battle) (s : ℕ) (numbers : List ℕ) → s < 2 → side_of (with_order b s numbers) (1 - s) ≡ side_of b (1 - s)
unfolding with_order
order-foe b s numbers lt = let other : 1 - s ≢ s = omega (arith, lt) in rw get_or-set_other refl
