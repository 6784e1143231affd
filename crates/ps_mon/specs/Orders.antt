-- Orders of a team: the positions of its members, from 1, anew; and 0 behind the last.
use Rattle.std.specs.Prelude.{ℕ, Bool, not, ◌&&◌, ◌==◌, nat_lt, nat_le, List, [], ◌∷◌, ◌-◌, take, slice_index, slice_set, if◌then◌else◌}
use Rattle.std.specs.List.{list_any}
use Rattle.ps_mon.specs.declared.record.Battle.{Battle}
use Rattle.ps_mon.specs.declared.record.SideState.{SideState}
use Rattle.ps_mon.specs.Reading.{side_of}

abbrev pub has_number : ℕ → List ℕ → Bool
has_number number numbers = list_any (λ one. one == number) numbers

-- One place of so many that are named: it has the position of one of so many members, which no place before it has. A place behind
-- those has 0.
unfoldable pub is_place : ℕ → ℕ → List ℕ → ℕ → Bool
is_place count named numbers place =
    if nat_lt place named
    then nat_lt 0 (slice_index numbers place) && nat_le (slice_index numbers place) count
    && not (has_number (slice_index numbers place) (take place numbers))
    else slice_index numbers place == 0

-- so many different positions of so many members, and 0 behind them
unfoldable pub are_positions : ℕ → ℕ → List ℕ → Bool
are_positions count named numbers =
    is_place count named numbers 0 && is_place count named numbers 1 && is_place count named numbers 2 && is_place count named numbers 3
    && is_place count named numbers 4 && is_place count named numbers 5

-- all positions, each once
abbrev pub is_order : ℕ → List ℕ → Bool
is_order count numbers = are_positions count count numbers

-- ---- a team in another order

-- the index of the member at a position
abbrev pub index_at : List ℕ → ℕ → ℕ
index_at order position = slice_index order (position - 1)

-- the positions are those of the order before
unfoldable pub reordered : SideState → List ℕ → SideState
reordered side numbers = record side {
  order =
      index_at side.order (slice_index numbers 0) ∷ index_at side.order (slice_index numbers 1)
      ∷ index_at side.order (slice_index numbers 2) ∷ index_at side.order (slice_index numbers 3)
      ∷ index_at side.order (slice_index numbers 4) ∷ index_at side.order (slice_index numbers 5) ∷ [];
}

-- a side stands in this order
unfoldable pub with_order : Battle → ℕ → List ℕ → Battle
with_order battle side numbers = record battle { sides = slice_set battle.sides side (reordered (side_of battle side) numbers) }
