-- The way from a value to one inside it, and its text.
use Rattle.std.specs.Prelude.{ℕ, List, [], ◌∷◌, ◌++◌, Bool, true, false, if◌then◌else◌}
use Rattle.std.specs.Fmt.{decimal}
use Rattle.ps_base.specs.Characters as characters

-- to what an object has at a key, or to an item of an array
pub data Step : Type 0 where
  Key : List ℕ → Step
  Index : ℕ → Step

-- a key after a dot, but for the first step, and an index in brackets
abbrev pub step_text : Bool → Step → List ℕ
step_text first (Key key) = if first then key else characters.full_stop ∷ key
step_text first (Index index) = characters.open_bracket ∷ decimal index ++ characters.close_bracket ∷ []

abbrev pub steps_text : Bool → List Step → List ℕ
steps_text first [] = []
steps_text first (step ∷ steps) = step_text first step ++ steps_text false steps

-- a path as text, like `moves[3].effect.kind`
abbrev pub path_text : List Step → List ℕ
path_text steps = steps_text true steps

-- the index in an array that a path begins with, and 0 where it begins with none
abbrev pub first_index : List Step → ℕ
first_index [] = 0
first_index (Key key ∷ steps) = 0
first_index (Index index ∷ steps) = index
