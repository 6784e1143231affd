-- Lists that are made number by number.
use Rattle.std.specs.Prelude.{ℕ, zero, suc, List, [], ◌++◌}

-- the line of each number, from 1 to the last, in order
abbrev pub each_to : (ℕ → List ℕ) → ℕ → List ℕ
each_to line_of zero = []
each_to line_of (suc number) = each_to line_of number ++ line_of (suc number)
