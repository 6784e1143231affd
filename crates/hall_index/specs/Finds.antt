-- Items of which a test holds, among those with some numbers.
use Rattle.std.specs.Prelude.{◌≡◌, ℕ, Bool, false, not, List, [], ◌∷◌, Option, Some, None, filter, if◌then◌else◌}
use Rattle.std.specs.List.{list_any}
use Rattle.hall_index.specs.Numbered.{item_at}

abbrev pub first_number : List ℕ → Option ℕ
first_number [] = None
first_number (number ∷ numbers) = Some number

module _ {T : Type 0} where
  -- no two items stand at one number
  abbrev pub AreApart : List (ℕ × T) → Type 0
  AreApart [] = Unit {0}
  AreApart (entry ∷ entries) = (item_at entry.0 entries ≡ None) × AreApart entries

  -- whether an item is there, of which a test holds
  abbrev pub holds_if : (T → Bool) → Option T → Bool
  holds_if test None = false
  holds_if test (Some item) = test item

  -- whether a test holds of the item at one of these numbers
  abbrev pub any_at : (T → Bool) → List (ℕ × T) → List ℕ → Bool
  any_at test entries numbers = list_any (λ number. holds_if test (item_at number entries)) numbers

  -- of these numbers, the first at which a test holds of the item
  abbrev pub first_at : (T → Bool) → List (ℕ × T) → List ℕ → Option ℕ
  first_at test entries [] = None
  first_at test entries (number ∷ numbers) =
      if holds_if test (item_at number entries) then Some number else first_at test entries numbers

  -- the items without the first of which a test holds
  abbrev pub without_first : (T → Bool) → List T → List T
  without_first test [] = []
  without_first test (item ∷ items) = if test item then items else item ∷ without_first test items

  -- the items without those of which a test holds
  abbrev pub without_all : (T → Bool) → List T → List T
  without_all test items = filter (λ item. not (test item)) items
