-- The texts of a room's lines.
use Rattle.std.specs.Prelude.{ℕ, List, [], ◌++◌, codes, Option, Some, None}
use Rattle.std.specs.Char.{encode_utf8}
use Rattle.std.specs.Fmt.{decimal}

-- who came or went, behind the front of its line
abbrev pub moved : List ℕ → List ℕ → List ℕ
moved front by = front ++ by

abbrev pub said : ℕ → List ℕ → List ℕ → List ℕ
said moment by text = codes "|c:|" ++ decimal moment ++ codes "|" ++ by ++ codes "|" ++ text

-- WORD by SNAME: TEXT
abbrev pub noted : List ℕ → List ℕ → List ℕ → List ℕ
noted word by text = word ++ codes " by " ++ by ++ codes ": " ++ text

-- a colon, a space and the reason, where there is one
abbrev pub because : Option (List ℕ) → List ℕ
because None = []
because (Some reason) = codes ": " ++ reason

-- WORD: WHOM by SNAME, and the reason
abbrev pub done_to : List ℕ → List ℕ → List ℕ → List ℕ
done_to word whom by = word ++ codes ": " ++ whom ++ codes " by " ++ by

abbrev pub done_because : List ℕ → List ℕ → List ℕ → Option (List ℕ) → List ℕ
done_because word whom by reason = done_to word whom by ++ because reason

-- NAME to SYMBOL
abbrev pub promoted : List ℕ → ℕ → List ℕ
promoted name symbol = name ++ codes " to " ++ encode_utf8 symbol

-- SYMBOL, or `off`
abbrev pub level : Option ℕ → List ℕ
level None = codes "off"
level (Some symbol) = encode_utf8 symbol
