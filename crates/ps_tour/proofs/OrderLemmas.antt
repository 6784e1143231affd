-- How the order is drawn, place by place.
use Rattle.std.proofs.Common.{◌≡◌, ℕ, zero, suc, ◌+◌, ◌-◌, ◌<◌, List, refl, arith}
use Rattle.std.specs.List.{swap}
use Rattle.ps_calc.specs.Draws.{after, drawn}
use Rattle.ps_tour.specs.Brackets.{shuffled}

pub none_left : (x place : ℕ) (order : List ℕ) → place ≡ 0 → shuffled x place order ≡ order
none_left x place order none = rw none refl

less_one : (n : ℕ) → suc n - 1 ≡ n
less_one n = omega arith

pub one_more : (x place : ℕ) (order : List ℕ) → 0 < place → shuffled x place order ≡ shuffled (after x) (place - 1) (swap order place (drawn (after x) (place + 1)))
one_more x zero order some = absurd (omega (arith, some))
one_more x (suc place) order some = rw (less_one place) refl
