-- The indices of what passes a test, in a list.
use Rattle.std.specs.Prelude.{ℕ, Bool, true, false, List, [], ◌∷◌, ◌++◌, ◌+◌}

-- one index, or none
abbrev pub index_if : Bool → ℕ → List ℕ
index_if true at = at ∷ []
index_if false at = []

-- the indices of the elements that pass, in their order, where the first element has the index `at`
abbrev pub indices : {A : Type 0} → (A → Bool) → ℕ → List A → List ℕ
indices test at [] = []
indices test at (first ∷ rest) = index_if (test first) at ++ indices test (1 + at) rest
