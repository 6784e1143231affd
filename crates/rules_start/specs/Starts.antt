-- The id and the title of a battle's room.
use Rattle.std.specs.Prelude.{ℕ, List, ◌++◌, codes}
use Rattle.std.specs.Fmt.{decimal}

-- `battle-FORMAT-n`
abbrev pub battle_id : List ℕ → ℕ → List ℕ
battle_id format number = codes "battle-" ++ format ++ codes "-" ++ decimal number

-- the names of both players
abbrev pub battle_title : List ℕ → List ℕ → List ℕ
battle_title one two = one ++ codes " vs. " ++ two
