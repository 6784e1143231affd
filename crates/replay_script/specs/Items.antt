-- The lines of a script, by how each is spelled.
use Rattle.std.specs.Prelude.{◌≡◌, ◌⊎◌, ℕ, List, [], ◌∷◌, ◌++◌, codes, encode_utf8, Some}
use Rattle.ps_base.specs.Ids.{id_in}
use Rattle.ps_base.specs.Numbers.{IsNumeral}
use Rattle.replay_script.specs.declared.item.Item.{Item}
use Rattle.replay_script.specs.declared.item.Item.TheVariants.{Nothing, Moment, Group, Open, Send, Close}
use Rattle.ps_base.specs.Characters as characters

-- empty, or a comment
abbrev pub IsIdle : List ℕ → Type 0
IsIdle line = (line ≡ []) ⊎ ((rest : List ℕ) × (line ≡ codes ";" ++ rest))

-- this front, and then a number
pub record IsNumber (front line : List ℕ) (number : ℕ) : Type 0 where
  pub digits : List ℕ
  pub spelled : line ≡ front ++ digits
  pub numeral : IsNumeral digits number

-- `>`, a number, a space and then the text
pub record IsSend (line : List ℕ) (number : ℕ) (text : List ℕ) : Type 0 where
  pub digits : List ℕ
  pub spelled : line ≡ codes ">" ++ digits ++ characters.space ∷ text
  pub numeral : IsNumeral digits number

-- a character, and then the rest
abbrev pub IsCharFirst : List ℕ → ℕ → List ℕ → Type 0
IsCharFirst text char rest = text ≡ encode_utf8 char ++ rest

-- `G `, a character, a space and an id: one or more of a to z and 0 to 9
pub record IsGroup (line : List ℕ) (symbol : ℕ) (id : List ℕ) : Type 0 where
  pub spelled : line ≡ codes "G " ++ encode_utf8 symbol ++ characters.space ∷ id
  pub named : id_in id ≡ Some id

-- the line says this
abbrev pub IsItem : List ℕ → Item → Type 0
IsItem line Nothing = IsIdle line
IsItem line (Moment moment) = IsNumber (codes "T ") line moment
IsItem line (Group symbol id) = IsGroup line symbol id
IsItem line (Open conn) = IsNumber (codes "+") line conn
IsItem line (Send conn text) = IsSend line conn text
IsItem line (Close conn) = IsNumber (codes "-") line conn
