-- What tests tell.
use Rattle.std.proofs.Common.{◌≡◌, ◌≢◌, ◌≤◌, ℕ, Bool, true, false, cond, not, eqb, List, ◌++◌, sym, ◌∙◌, arith}
use Rattle.std.specs.List.{list_all}
use Rattle.std.proofs.lemmas.List.Folds.{list_all-append}
use Rattle.std.proofs.lemmas.Bool.{and_parts, eqb-false, not-true}

pub is_not : (a b : ℕ) → not (eqb a b) ≡ true → a ≢ b
is_not a b e = eqb-false a b (not-true (eqb a b) e)

-- what holds of a whole holds of its front
pub all_front : (p : ℕ → Bool) (w r : List ℕ) → list_all p (w ++ r) ≡ true → (list_all p w ≡ true) × (list_all p r ≡ true)
all_front p w r e = and_parts (list_all p w) (list_all p r) (sym (list_all-append p w r) ∙ e)

pub at_most_one : (b : Bool) → cond b 1 0 ≤ 1
at_most_one true = omega arith
at_most_one false = omega arith
