-- What comes new into a list: the id of a move, and the number of a move that a species learns.
use Rattle.std.proofs.Common.{◌≡◌, ℕ, ◌==◌, Bool, true, false, not, cond, ◌||◌, List, [], ◌∷◌, ◌++◌, refl, sym, ap, ◌∙◌, nat_eq, bytes_eq}
use Rattle.std.specs.List.{list_any}
use Rattle.std.specs.Cmp.{nat_eq_equiv}
use Rattle.indexmap.specs.IndexSet.{insert_key}
use Rattle.ps_data.specs.OwnIds.{IsNew}
use Rattle.ps_dex.specs.declared.item.MoveItem.{MoveItem}
use Rattle.ps_dex.specs.Moves.{has_move, is_move_taken}
use Rattle.ps_dex.specs.Species.{has_number}

first_of_three : (a b c : Bool) → not (a || b || c) ≡ true → not a ≡ true
first_of_three true b c e = e
first_of_three false b c e = refl

-- an id that no move may have yet is no move's
pub new_move : (id : List ℕ) (moves : List MoveItem) → not (is_move_taken id moves) ≡ true → IsNew (λ m. m.id) id moves
unfolding is_move_taken has_move
new_move id moves e = first_of_three _ _ _ e

-- a set looks a number up as a list does
pub among : (mv : ℕ) (numbers : List ℕ) → list_any (λ n. nat_eq mv n) numbers ≡ has_number mv numbers
unfolding has_number
among mv [] = refl
among mv (n ∷ numbers) = ap (λ (b : Bool). b || list_any (λ k. nat_eq mv k) numbers) (nat_eq_equiv.symm mv n) ∙ ap (λ (b : Bool). nat_eq n mv || b) (among mv numbers)

put_last : (b : Bool) (mv : ℕ) (numbers : List ℕ) → not b ≡ true → cond b numbers (numbers ++ mv ∷ []) ≡ numbers ++ mv ∷ []
put_last true mv numbers e = absurd cc
put_last false mv numbers e = refl

-- a number that isn't in a set comes last
pub new_number : (mv : ℕ) (numbers : List ℕ) → not (has_number mv numbers) ≡ true → insert_key nat_eq numbers mv ≡ numbers ++ mv ∷ []
new_number mv numbers e = put_last (list_any (nat_eq mv) numbers) mv numbers (ap not (among mv numbers) ∙ e)
