-- What is wrong with a text that is to be a packed team, as a function: the text is gone through character by character, as
-- `law_of_packs` says, to where the longest part ends that some packed text begins with.
use Rattle.std.specs.Prelude.{◌≡◌, ℕ, ◌+◌, true, List, [], ◌∷◌, Option, Some, None, nat_le, nat_lt, if◌then◌else◌}
use Rattle.std.specs.Str.{all_scalars}
use Rattle.ps_base.specs.declared.pack_kind.PackKind.{PackKind}
use Rattle.ps_base.specs.declared.pack_kind.PackKind.TheVariants.{Long}
use Rattle.ps_packed.specs.declared.fault.PackFault.TheVariants.{Fault}
use Rattle.ps_packed.specs.Packed.{bytes_of, kind_of, IsTeam, Refuses}
use Rattle.ps_packed.specs.Scan.{State, start, step, accepts, need_of, nameless_at, team_of}

-- the byte of the fault, and its kind
pub record PackFaultAt : Type 0 where
  pub at : ℕ
  pub kind : PackKind

-- what is wrong where no step is made
abbrev pub kind_in : State → Option ℕ → PackKind
kind_in state next = kind_of (nameless_at state.bare state.field state.word) state.sets state.field state.word next

abbrev pub fault_at : ℕ → PackKind → Option PackFaultAt
fault_at at kind = Some (record { at = at; kind = kind })

-- what is wrong at a character, or behind it
abbrev pub next_fault : State → ℕ → ℕ → Option State → (State → Option PackFaultAt) → Option PackFaultAt
next_fault state at char None behind = fault_at at (kind_in state (Some char))
next_fault state at char (Some next) behind = if nat_lt 4096 (at + bytes_of (char ∷ []) + need_of next) then fault_at at Long else
    behind next

-- from a state, with so many bytes before these characters
abbrev pub fault_from : State → ℕ → List ℕ → Option PackFaultAt
fault_from state at [] = if accepts state then None else fault_at at (kind_in state None)
fault_from state at (char ∷ text) = if nat_le 4096 at then fault_at at Long else next_fault state at char (step state char)
    (λ next. fault_from next (at + bytes_of (char ∷ [])) text)

-- the fault of a text, if it is no packed team
abbrev pub pack_fault : List ℕ → Option PackFaultAt
pack_fault text = fault_from start 0 text

-- what a fault, or none, says of a text: that it has no team and why, or the team
abbrev pub Tells : List ℕ → Option PackFaultAt → Type 0
Tells text None = IsTeam text (team_of text)
Tells text (Some fault) = Refuses text (Fault fault.at fault.kind)

-- the function says what is true, of any text
abbrev pub PacksLaw : Type 0
PacksLaw = (text : List ℕ) → all_scalars text ≡ true → Tells text (pack_fault text)
