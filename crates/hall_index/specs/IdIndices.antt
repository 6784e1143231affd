-- The numbers of items, by id.
use Rattle.std.specs.Prelude.{◌≡◌, ℕ, Bool, List, [], ◌∷◌, ◌++◌, Option, Some, None, option_map}
use Rattle.std.specs.List.{filter, filter_map}
use Rattle.std.specs.FinMap.{get, insert, remove}
use Rattle.ps_base.specs.ById.{ById}
use Rattle.hall_index.specs.Numbered.{item_at, but, AreLess}

abbrev pub numbers_or_none : Option (List ℕ) → List ℕ
numbers_or_none None = []
numbers_or_none (Some ns) = ns

-- the numbers at an id, in the order in which they were added
abbrev pub numbers_at : ById (List ℕ) → List ℕ → List ℕ
numbers_at index id = numbers_or_none (get index id)

-- a number more at an id
abbrev pub with_number : ById (List ℕ) → List ℕ → ℕ → ById (List ℕ)
with_number index id number = insert index id (numbers_at index id ++ number ∷ [])

-- an id has these numbers
abbrev pub put_numbers : ById (List ℕ) → List ℕ → List ℕ → ById (List ℕ)
put_numbers index id [] = remove index id
put_numbers index id (number ∷ numbers) = insert index id (number ∷ numbers)

-- a number less at an id
abbrev pub without_number : ById (List ℕ) → List ℕ → ℕ → ById (List ℕ)
without_number index id number = put_numbers index id (but number (numbers_at index id))

-- the item with a number, with it
abbrev pub entry_at : {T : Type 0} → List (ℕ × T) → ℕ → Option (ℕ × T)
entry_at es number = option_map (λ item. (number, item)) (item_at number es)

-- The index finds, at each id, the items that the test finds in all of them. It may have numbers whose items are gone; the
-- next number is in it nowhere.
pub record IsIndexed {T : Type 0} (test : List ℕ → T → Bool) (next : ℕ) (es : List (ℕ × T)) (index : ById (List ℕ))
    : Type 0 where
  pub found : (id : List ℕ) → filter_map (entry_at es) (numbers_at index id) ≡ filter (λ entry. test id entry.1) es
  pub below : (id : List ℕ) → AreLess next (numbers_at index id)
