-- How people are shown to each other.
use Rattle.std.specs.Prelude.{ℕ, List, ◌++◌}
use Rattle.std.specs.Char.{encode_utf8}
use Rattle.ps_group.specs.Ranks.{symbol_of}
use Rattle.ps_group.specs.declared.group.Group.{Group}

-- the symbol of a rank, and the name
abbrev pub shown_name : List Group → ℕ → List ℕ → List ℕ
shown_name groups rank name = encode_utf8 (symbol_of rank groups) ++ name
