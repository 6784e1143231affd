-- The lines that a room itself is told by.
use Rattle.std.specs.Prelude.{ℕ, Bool, true, false, List, ◌∷◌, ◌++◌, length, codes}
use Rattle.std.specs.List.{flat_map}
use Rattle.std.specs.Fmt.{decimal}
use Rattle.ps_group.specs.declared.group.Group.{Group}
use Rattle.ps_group.specs.ShownNames.{shown_name}
use Rattle.ps_chat.specs.declared.present.Present.{Present}

abbrev pub kind_line : Bool → List ℕ
kind_line true = codes "|init|battle"
kind_line false = codes "|init|chat"

abbrev pub title_line : List ℕ → List ℕ
title_line title = codes "|title|" ++ title

-- a comma, and the symbol and name of one member
abbrev pub users_part : List Group → Present → List ℕ
users_part groups present = 44 ∷ shown_name groups present.rank present.badge.name

-- how many members there are, and each of them in join order
abbrev pub users_line : List Group → List Present → List ℕ
users_line groups ps = codes "|users|" ++ decimal (length ps) ++ flat_map (users_part groups) ps
