-- The numbers of a move, and the factors of its type.
use Rattle.std.specs.Prelude.{◌≡◌, ◌⊎◌, ℕ, ◌<◌, ◌==◌, List, [], ◌∷◌, length, slice_index, slice_index_or, if◌then◌else◌}
use Rattle.ps_mon.specs.declared.facts.MoveData.{MoveData}
use Rattle.ps_mon.specs.Facts.{Figures, factor_at}

-- Struggle's number, past the index of every move of a dex
abbrev pub struggle_number : ℕ
struggle_number = 1024

-- the move of that number; past the indices of the dex stands Struggle
abbrev pub move_of : Figures → ℕ → MoveData
move_of facts mv = slice_index_or facts.moves mv facts.struggle

-- how many moves there are
abbrev pub move_count : Figures → ℕ
move_count facts = length facts.moves

-- it is the number of one of so many moves, or of Struggle
abbrev pub IsNamed : ℕ → ℕ → Type 0
IsNamed moves mv = (mv < moves) ⊎ (mv ≡ struggle_number)

-- the factors of a type on two types, in tenths; who has one type has it twice, and it counts once
abbrev pub factors_on : Figures → ℕ → List ℕ → List ℕ
factors_on facts kind types =
    let first = slice_index types 0 in
    let second = slice_index types 1 in
    factor_at facts.factors kind first ∷ (if first == second then 10 else factor_at facts.factors kind second) ∷ []

-- the factors of a move on two types: those of its type, and none for Struggle
unfoldable pub move_factors : Figures → ℕ → List ℕ → List ℕ
move_factors facts mv types =
    if mv == struggle_number then 10 ∷ 10 ∷ [] else factors_on facts (move_of facts mv).kind types
