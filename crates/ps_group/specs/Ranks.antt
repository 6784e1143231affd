-- Ranks: indices in the list of groups, 0 the highest.
use Rattle.std.specs.Prelude.{ℕ, ◌-◌, ◌==◌, Bool, nat_lt, List, length, Option, option_map, slice_get, unwrap_or, position, if◌then◌else◌}
use Rattle.ps_group.specs.declared.group.Group.{Group}
use Rattle.ps_base.specs.Characters as characters

-- a rank is lower where its number is greater
abbrev pub is_below : ℕ → ℕ → Bool
is_below rank other = nat_lt other rank

-- the higher of two ranks is the lower number
abbrev pub higher : ℕ → ℕ → ℕ
higher rank other = if is_below other rank then rank else other

-- a rank past the list of groups counts as the last group's
abbrev pub in_force : ℕ → List Group → ℕ
in_force rank groups = if nat_lt rank (length groups) then rank else length groups - 1

-- the index of the group with a symbol
abbrev pub rank_of : ℕ → List Group → Option ℕ
rank_of symbol groups = position (λ group. group.symbol == symbol) groups

-- the symbol of a rank; no list is empty
abbrev pub symbol_of : ℕ → List Group → ℕ
symbol_of rank groups = unwrap_or (option_map (λ group. group.symbol) (slice_get groups (in_force rank groups))) characters.space
