-- Bytes that no line of a script has.
use Rattle.std.specs.Prelude.{ℕ, Bool, ◌||◌, ◌==◌, nat_lt, List}
use Rattle.std.specs.List.{list_any}
use Rattle.ps_base.specs.Characters as characters

-- below 0x20, or 0x7F
abbrev pub is_control : ℕ → Bool
is_control byte = nat_lt byte characters.space || byte == characters.delete

abbrev pub has_control : List ℕ → Bool
has_control line = list_any is_control line
