-- The order of a team that a text of digits stands for.
use Rattle.std.specs.Prelude.{ℕ, ◌-◌, ◌||◌, ◌&&◌, ◌==◌, nat_lt, nat_le, List, [], ◌∷◌, length, position, Option, Some, None}
use Rattle.std.specs.Prelude.{slice_index, slice_set, if◌then◌else◌}
use Rattle.ps_mon.specs.declared.choice.Choice.{Choice}
use Rattle.ps_mon.specs.declared.choice.Choice.TheVariants as choices
use Rattle.ps_mon.specs.Orders.{has_number, are_positions}
use Rattle.ps_base.specs.Characters as characters

-- the first place that nobody has yet
unfoldable pub first_zero : List ℕ → Option ℕ
first_zero numbers = position (λ number. number == 0) numbers

abbrev pub set_at : Option ℕ → ℕ → List ℕ → List ℕ
set_at None number numbers = numbers
set_at (Some place) number numbers = slice_set numbers place number

-- a position of the team that isn't named comes behind those that are
unfoldable pub placed_last : ℕ → ℕ → List ℕ → List ℕ
placed_last count number numbers = if nat_lt count number
    || has_number number numbers then numbers else set_at (first_zero numbers) number numbers

-- all that aren't named follow in ascending order
unfoldable pub whole : ℕ → List ℕ → List ℕ
whole count numbers =
    placed_last count 6 (placed_last count 5 (placed_last count 4
    (placed_last count 3 (placed_last count 2 (placed_last count 1 numbers)))))

abbrev pub nobody : List ℕ
nobody = 0 ∷ 0 ∷ 0 ∷ 0 ∷ 0 ∷ 0 ∷ []

-- the digit at a place of a text; 0 behind its end
unfoldable pub digit_at : List ℕ → ℕ → ℕ
digit_at digits place = slice_index digits place - characters.digit_zero

-- the digits of a text of at most six, and 0 behind them
unfoldable pub numbers_in : List ℕ → List ℕ
numbers_in digits =
    digit_at digits 0 ∷ digit_at digits 1 ∷ digit_at digits 2 ∷ digit_at digits 3 ∷ digit_at digits 4 ∷ digit_at digits 5 ∷ []

-- The order of so many members that begins with those that the digits name. Where a digit names nobody, or one whom an earlier one names,
-- it is no order.
unfoldable pub order_of : ℕ → List ℕ → List ℕ
order_of count digits =
    if nat_le (length digits) 6 && are_positions count (length digits) (numbers_in digits)
    then whole count (numbers_in digits)
    else nobody
