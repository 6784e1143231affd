-- Orders of both teams keep battles alike, whoever stands at position 1.
use Rattle.std.proofs.Common.{◌≡◌, ◌≢◌, ℕ, ◌<◌, Bool, true, false, List, length, get_or, arith, refl, ap, ◌∙◌, sym, subst, inr, get_or-set_same, get_or-set_other, length-set}
use Rattle.ps_mon.specs.declared.record.Battle.{Battle}
use Rattle.ps_mon.specs.declared.record.SideState.{SideState}
use Rattle.ps_mon.specs.Reading.{side_of, active_index}
use Rattle.ps_mon.specs.Orders.{is_order, index_at, reordered, with_order}
use Rattle.ps_mon.proofs.OrderLemmas.{order_below}
use Rattle.ps_mon.proofs.SideLemmas.{each_side}
use Rattle.battle_secrecy.specs.Places.{Hidden}
use Rattle.battle_secrecy.specs.Alike.{AreAlike, AreSidesAlike, AreSidesAlikeUnsent, AreBattlesAlike, AreActiveShown, IsPlaced}

-- ---- sides

-- what is said of alike sides but for position 1
pub sides_unsent : (member : ℕ → Bool) (slot : ℕ → ℕ → Bool) (move : ℕ → ℕ → ℕ) (a b : SideState) → AreSidesAlike member slot move a b → AreSidesAlikeUnsent member slot move a b
sides_unsent member slot move a b w = record { first = w.first; second = w.second; count = w.count; order = w.order; vol = w.vol; members = w.members; long = w.long; rest = w.rest }

pub sides_sent : (member : ℕ → Bool) (slot : ℕ → ℕ → Bool) (move : ℕ → ℕ → ℕ) (a b : SideState) → member (active_index a) ≡ false → AreSidesAlikeUnsent member slot move a b → AreSidesAlike member slot move a b
sides_sent member slot move a b shown w = record { first = w.first; second = w.second; count = w.count; order = w.order; vol = w.vol; active = shown; members = w.members; long = w.long; rest = w.rest }

ordered-placed : (a : SideState) (numbers : List ℕ) → is_order a.count numbers ≡ true → IsPlaced a → IsPlaced (reordered a numbers)
unfolding reordered
ordered-placed a numbers e placed = record {
  count = placed.count;
  count_high = placed.count_high;
  long = placed.long;
  six_order = refl;
  order = order_below a numbers placed.count_high placed.order e;
}

same-order : (a b : SideState) (numbers : List ℕ) → a.order ≡ b.order → (reordered a numbers).order ≡ (reordered b numbers).order
unfolding reordered
same-order a b numbers e = ap (λ (xs : List ℕ). (reordered (record a { order = xs }) numbers).order) e

reordered-alike : (member : ℕ → Bool) (slot : ℕ → ℕ → Bool) (move : ℕ → ℕ → ℕ) (a b : SideState) (numbers : List ℕ) → is_order a.count numbers ≡ true → AreSidesAlikeUnsent member slot move a b → AreSidesAlikeUnsent member slot move (reordered a numbers) (reordered b numbers)
unfolding reordered
reordered-alike member slot move a b numbers e w = record {
  first = ordered-placed a numbers e w.first;
  second = ordered-placed b numbers (subst (λ n. is_order n numbers ≡ true) w.count e) w.second;
  count = w.count;
  order = same-order a b numbers w.order;
  vol = w.vol;
  members = w.members;
  long = w.long;
  rest = w.rest;
}

-- who is named first stands first
pub reordered_first : (a : SideState) (numbers : List ℕ) → active_index (reordered a numbers) ≡ index_at a.order (get_or numbers 0 0)
unfolding reordered
reordered_first a numbers = refl

reordered-sent : (member : ℕ → Bool) (slot : ℕ → ℕ → Bool) (move : ℕ → ℕ → ℕ) (a b : SideState) (numbers : List ℕ) → is_order a.count numbers ≡ true → member (index_at a.order (get_or numbers 0 0)) ≡ false →
    AreSidesAlikeUnsent member slot move a b → AreSidesAlike member slot move (reordered a numbers) (reordered b numbers)
reordered-sent member slot move a b numbers e shown w =
    sides_sent member slot move (reordered a numbers) (reordered b numbers) (ap member (reordered_first a numbers) ∙ shown) (reordered-alike member slot move a b numbers e w)

-- ---- battles

order-own : (b : Battle) (s : ℕ) (numbers : List ℕ) → s < 2 → length b.sides ≡ 2 → side_of (with_order b s numbers) s ≡ reordered (side_of b s) numbers
unfolding with_order
order-own b s numbers lt two = let inside : s < length b.sides = omega (arith, lt, two) in rw get_or-set_same refl

order-other : (b : Battle) (s i : ℕ) (numbers : List ℕ) → i ≢ s → side_of (with_order b s numbers) i ≡ side_of b i
unfolding with_order
order-other b s i numbers ne = rw get_or-set_other refl

order-two : (b : Battle) (s : ℕ) (numbers : List ℕ) → length b.sides ≡ 2 → length (with_order b s numbers).sides ≡ 2
unfolding with_order
order-two b s numbers two = simp length-set two

-- both sides in these orders
abbrev pub both_ordered : Battle → List ℕ → List ℕ → Battle
both_ordered b one two = with_order (with_order b 0 one) 1 two

pub ordered_first : (b : Battle) (one two : List ℕ) → length b.sides ≡ 2 → side_of (both_ordered b one two) 0 ≡ reordered (side_of b 0) one
ordered_first b one two long = order-other (with_order b 0 one) 1 0 two (omega arith) ∙ order-own b 0 one (omega arith) long

pub ordered_second : (b : Battle) (one two : List ℕ) → length b.sides ≡ 2 → side_of (both_ordered b one two) 1 ≡ reordered (side_of b 1) two
ordered_second b one two long =
    order-own (with_order b 0 one) 1 two (omega arith) (order-two b 0 one long) ∙ ap (λ (a : SideState). reordered a two) (order-other b 0 1 one (omega arith))

-- two orders that put members first that aren't hidden
pub record AreOrdersShown (hidden : Hidden) (b : Battle) (one two : List ℕ) : Type 0 where
  pub first : is_order (side_of b 0).count one ≡ true
  pub second : is_order (side_of b 1).count two ≡ true
  pub shown : hidden.member 0 (index_at (side_of b 0).order (get_or one 0 0)) ≡ false
  pub shown_too : hidden.member 1 (index_at (side_of b 1).order (get_or two 0 0)) ≡ false

pub orders_alike : (hidden : Hidden) (a b : Battle) (one two : List ℕ) → AreOrdersShown hidden a one two → AreBattlesAlike hidden a b → AreAlike hidden (both_ordered a one two) (both_ordered b one two)
unfolding with_order
orders_alike hidden a b one two orders w = record {
  first_two = order-two (with_order a 0 one) 1 two (order-two a 0 one w.first_two);
  second_two = order-two (with_order b 0 one) 1 two (order-two b 0 one w.second_two);
  turn = w.turn;
  phase = w.phase;
  clauses = w.clauses;
  rng = w.rng;
  sides = each_side (λ s. AreSidesAlike (hidden.member s) (hidden.slot s) (hidden.move s) (side_of (both_ordered a one two) s) (side_of (both_ordered b one two) s))
      (rw (ordered_first a one two w.first_two) (rw (ordered_first b one two w.second_two) (reordered-sent _ _ _ _ _ one orders.first orders.shown (w.sides 0 (omega arith)))))
      (rw (ordered_second a one two w.first_two) (rw (ordered_second b one two w.second_two) (reordered-sent _ _ _ _ _ two orders.second orders.shown_too (w.sides 1 (omega arith)))));
}

-- ---- alike battles between two rounds

pub battles_alike : (hidden : Hidden) (a b : Battle) → AreAlike hidden a b → AreBattlesAlike hidden a b
battles_alike hidden a b w = record {
  first_two = w.first_two;
  second_two = w.second_two;
  turn = w.turn;
  phase = w.phase;
  clauses = w.clauses;
  rng = w.rng;
  sides = λ s lt. sides_unsent _ _ _ _ _ (w.sides s lt);
  active = inr (λ s lt. (w.sides s lt).active);
}

pub sent_alike : (hidden : Hidden) (a b : Battle) → AreActiveShown hidden a → AreBattlesAlike hidden a b → AreAlike hidden a b
sent_alike hidden a b shown w = record {
  first_two = w.first_two;
  second_two = w.second_two;
  turn = w.turn;
  phase = w.phase;
  clauses = w.clauses;
  rng = w.rng;
  sides = λ s lt. sides_sent _ _ _ _ _ (shown s lt) (w.sides s lt);
}
