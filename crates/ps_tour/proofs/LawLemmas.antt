-- Each entrant but the champion is beaten exactly once.
use Rattle.std.proofs.Common.{◌≡◌, ◌⊎◌, ℕ, zero, suc, ◌+◌, ◌-◌, ◌*◌, ◌/◌, ◌^◌, ◌<◌, ◌≤◌, ◌==◌, cond, List, [], ◌∷◌, ◌++◌, length, Option, None, Some, refl, sym, ap, ◌∙◌, arith, inl, inr, subst, append_assoc}
use Rattle.std.specs.Prelude.{IsPermutation}
use Rattle.std.specs.List.{swap}
use Rattle.std.proofs.Math.Nat.{mul-lt-mul_of_pos_right}
use Rattle.std.proofs.lemmas.Bool.Decides.{eqb_tells}
use Rattle.std.proofs.lemmas.Nat.{div_below}
use Rattle.std.proofs.lemmas.Option.{none-some, same_Some}
use Rattle.std.proofs.lemmas.List.{append-nil, length-append, take-append-drop}
use Rattle.std.proofs.lemmas.List.Edits.{length-swap}
use Rattle.std.proofs.lemmas.List.Sorted.{IsPermutation-refl, IsPermutation-trans, IsPermutation-append_right, IsPermutation-middle, IsPermutation-swap, length_permutation}
use Rattle.ps_calc.specs.Draws.{after, drawn}
use Rattle.ps_tour.specs.Brackets.{Round, size, entrants, shuffled, order, first_round, next_round, going_on, after_win, after_wins, open_match, first_pair, champion_with, IsOneOf, IsRound}
use Rattle.ps_tour.specs.Laws.{AreWinners, loser_of, beaten, LawOfBrackets}
use Rattle.ps_tour.proofs.RoundLemmas.{still_round, first_is_round, length-entrants}

-- ---- the order has each entrant once

upper_small : (x : ℕ) → after x / 2 ^ 32 < 2 ^ 32
unfolding after
upper_small x = omega arith

drawn_below : (x n : ℕ) → 0 < n → drawn (after x) n < n
unfolding drawn
drawn_below x n some = div_below (after x / 2 ^ 32 * n) (2 ^ 32) n (omega arith) (let below : after x / 2 ^ 32 * n < 2 ^ 32 * n = mul-lt-mul_of_pos_right (upper_small x) some in omega (arith, below))

shuffled_all : (x place : ℕ) (entered : List ℕ) → place < length entered → IsPermutation entered (shuffled x place entered)
shuffled_all x zero entered within = IsPermutation-refl entered
shuffled_all x (suc place) entered within =
    let other : ℕ = drawn (after x) (suc place + 1) in
    let there : other < length entered = omega (arith, drawn_below x (suc place + 1) (omega arith), within) in
    let next : List ℕ = swap entered (suc place) other in
    IsPermutation-trans entered next (shuffled (after x) place next)
    (IsPermutation-swap entered next (suc place) other within there refl)
    (shuffled_all (after x) place next (omega (arith, within, length-swap entered (suc place) other)))

-- ---- who is still in

abbrev pub still_in : Round → List ℕ
still_in r = r.through ++ r.playing

pub first_in : (n seed : ℕ) → 2 ≤ n → IsPermutation (entrants n) (still_in (first_round n seed))
first_in n seed some =
    rw (take-append-drop (size n - n) (order n seed)) (shuffled_all seed (n - 1) (entrants n) (omega (arith, length-entrants n, some)))

turned_in : (through : List ℕ) → still_in (next_round through) ≡ through
turned_in [] = refl
turned_in (c ∷ []) = refl
turned_in (p ∷ q ∷ rest) = refl

going_in : (through rest : List ℕ) → still_in (going_on through rest) ≡ through ++ rest
going_in through [] = turned_in through ∙ sym (append-nil through)
going_in through (p ∷ rest) = refl

-- p and q meet: the loser leaves
one_leaves : (through rest : List ℕ) (p q winner : ℕ) → (winner ≡ p) ⊎ (winner ≡ q) → IsPermutation (through ++ p ∷ q ∷ rest) (cond (winner == p) q p ∷ ((through ++ winner ∷ []) ++ rest))
one_leaves through rest p q winner one =
    elim (eqb_tells winner p) [
      | inl t ↦
          rw t.0 (rw t.1 (subst (λ (x : List ℕ). IsPermutation x (q ∷ ((through ++ p ∷ []) ++ rest))) (append_assoc through (p ∷ []) (q ∷ rest)) (IsPermutation-middle (through ++ p ∷ []) q rest)))
      | inr t ↦ elim one [
        | inl e ↦ absurd (t.1 e)
        | inr e ↦
            rw t.0 (rw e (subst (λ (x : List ℕ). IsPermutation (through ++ p ∷ q ∷ rest) (p ∷ x)) (sym (append_assoc through (q ∷ []) rest)) (IsPermutation-middle through p (q ∷ rest))))
      ]
    ]

pub win_in : (winner : ℕ) (through playing : List ℕ) → IsOneOf winner (first_pair playing) → IsPermutation (through ++ playing) (loser_of winner (first_pair playing) ++ still_in (after_win winner (record { through = through; playing = playing })))
win_in winner through [] one = absurd one
win_in winner through (p ∷ []) one = absurd one
win_in winner through (p ∷ q ∷ rest) one = rw (going_in (through ++ winner ∷ []) rest) (one_leaves through rest p q winner one)

one_loser : (winner : ℕ) (met : Option (ℕ × ℕ)) → IsOneOf winner met → length (loser_of winner met) ≡ 1
one_loser winner None one = absurd one
one_loser winner (Some pair) one = refl

-- after wins
record Left (r : Round) (winners : List ℕ) : Type 0 where
  pub all : IsPermutation (still_in r) (beaten r winners ++ still_in (after_wins r winners))
  pub count : length (beaten r winners) ≡ length winners
  pub round : IsRound (after_wins r winners)

left : (r : Round) (winners : List ℕ) → IsRound r → AreWinners r winners → Left r winners
left r [] is won = record { all = IsPermutation-refl (still_in r); count = refl; round = is }
left r (winner ∷ winners) is won =
    let next : Round = after_win winner r in
    let later : Left next winners = left next winners (still_round winner r is won.0) won.1 in
    let lost : List ℕ = loser_of winner (open_match r) in
    let rest : List ℕ = beaten next winners in
    let end : List ℕ = still_in (after_wins next winners) in
    record {
      all = subst (λ (x : List ℕ). IsPermutation (still_in r) x) (sym (append_assoc lost rest end))
          (IsPermutation-trans (still_in r) (lost ++ still_in next) (lost ++ (rest ++ end)) (win_in winner r.through r.playing won.0) (IsPermutation-append_right lost (still_in next) (rest ++ end) later.all));
      count = length-append lost rest ∙ rw (one_loser winner (open_match r) won.0, later.count) (omega arith);
      round = later.round;
    }

-- ---- the champion is alone

pub alone_with : (through playing : List ℕ) (c : ℕ) → IsRound (record { through = through; playing = playing }) → champion_with through playing ≡ Some c → through ++ playing ≡ c ∷ []
alone_with [] [] c is e = absurd (none-some c e)
alone_with (d ∷ []) [] c is e = ap (λ (x : ℕ). x ∷ []) (same_Some d c e)
alone_with (d ∷ f ∷ rest) [] c is e = absurd (omega (arith, is.alone refl))
alone_with [] (p ∷ ps) c is e = absurd (none-some c e)
alone_with (d ∷ rest) (p ∷ ps) c is e = absurd (none-some c e)

pub decided : LawOfBrackets
decided n seed c winners some few w =
    let first : Round = first_round n seed in
    let l : Left first winners = left first winners (first_is_round n seed some few) w.won in
    let last : Round = after_wins first winners in
    let alone : still_in last ≡ c ∷ [] = alone_with last.through last.playing c l.round w.over in
    let all : IsPermutation (entrants n) (beaten first winners ++ c ∷ []) =
    subst (λ (x : List ℕ). IsPermutation (entrants n) (beaten first winners ++ x)) alone (IsPermutation-trans (entrants n) (still_in first) (beaten first winners ++ still_in last) (first_in n seed some) l.all) in
    record {
      once = all;
      matches = omega (arith, length_permutation (entrants n) (beaten first winners ++ c ∷ []) all, length-append (beaten first winners) (c ∷ []), l.count, length-entrants n);
    }
