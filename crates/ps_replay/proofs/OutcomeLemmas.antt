-- What can't be at once.
use Rattle.std.proofs.Common.{◌≡◌, ℕ, List, Option, Some, None, IfSome, sym, subst, ◌∙◌}
use Rattle.std.specs.Option.{IsSomeAnd}
use Rattle.ps_group.specs.declared.group.Group.{Group}
use Rattle.replay_script.specs.Limits.{long_of}
use Rattle.ps_replay.specs.Outcomes.{IsReadable}

-- an input within its limits isn't too long
pub not_long : (groups : List Group) (left : Option (List ℕ)) (count : ℕ) → IfSome left (λ bytes. long_of bytes ≡ Some count) → IsSomeAnd left (IsReadable groups) → ⊥
not_long groups None count long readable = readable
not_long groups (Some bytes) count long readable = let both : Some count ≡ None = sym long ∙ readable.within in cc

-- what holds of the bytes that were read holds of the input
pub input_is : (P : List ℕ → Type 0) (left : Option (List ℕ)) (bytes : List ℕ) → IfSome left (λ input. bytes ≡ input) → P bytes → IfSome left P
input_is P None bytes same p = tt
input_is P (Some input) bytes same p = subst P same p
