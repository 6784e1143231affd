-- How the code keeps its counts: those that are settled, and the last that rose, which can still fall again.
use Rattle.std.specs.Prelude.{◌≡◌, ◌<◌, ℕ, zero, suc, ◌-◌, List, Option, None, Some}
use Rattle.std.specs.Option.{option_map}
use Rattle.std.specs.FinMap.{get, insert}
use Rattle.ps_base.specs.ById.{ById}
use Rattle.ps_session.specs.Counts.{Counts, joined_left}
use Rattle.ps_session.specs.declared.room_counts.Risen.{Risen}

-- the counts with the one that rose last
abbrev pub with_risen : Option Risen → ById ℕ → ById ℕ
with_risen None settled = settled
with_risen (Some risen) settled = insert settled risen.id risen.count

-- the room of the count that rose last
abbrev pub last_id : Option Risen → Option (List ℕ)
last_id last = option_map (λ risen. risen.id) last

-- with another count
abbrev pub risen_to : ℕ → Option Risen → Option Risen
risen_to count last = option_map (λ risen. record { id = risen.id; count = count }) last

abbrev pub counts_of : ById ℕ → ℕ → Option Risen → Counts
counts_of settled joined last = record { rooms = with_risen last settled; joined = joined; last = last_id last }

-- how many rooms have a text once the last is taken back
abbrev pub joined_without : Option Risen → ℕ → ℕ
joined_without None joined = joined
joined_without (Some risen) joined = joined_left (risen.count - 1) joined

-- a count, where there is a text
abbrev pub some_texts : ℕ → Option ℕ
some_texts zero = None
some_texts (suc count) = Some (suc count)

-- the settled count is one less than the risen one
pub record IsRisen (settled : ById ℕ) (risen : Risen) : Type 0 where
  pub before : get settled risen.id ≡ some_texts (risen.count - 1)
  pub some : 0 < risen.count

abbrev pub IsLast : ById ℕ → Option Risen → Type 0
IsLast settled None = Unit {0}
IsLast settled (Some risen) = IsRisen settled risen

-- no room is there without a text
abbrev pub HasNoZero : ById ℕ → Type 0
HasNoZero settled = (id : List ℕ) → get settled id ≡ Some 0 → ⊥
