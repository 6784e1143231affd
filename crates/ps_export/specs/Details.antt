-- What a line below the first says.
use Rattle.std.specs.Prelude.{ℕ, ◌==◌, ◌&&◌, not, Bool, false, List, [], ◌∷◌, length, Option, Some, None, codes, nat_le, option_map}
use Rattle.std.specs.Prelude.{option_and_then, if◌then◌else◌}
use Rattle.std.specs.List.{list_all, list_any}
use Rattle.std.specs.Str.{chars, bytes_eq}
use Rattle.ps_base.specs.Cuts.{after_front, before_end}
use Rattle.ps_base.specs.Ids.{id_of}
use Rattle.ps_packed.specs.Canon.{evs_text, ivs_text, level_text}
use Rattle.ps_packed.specs.Forms.{is_field_char}
use Rattle.ps_packed.specs.Packed.{is_nil}
use Rattle.ps_export.specs.declared.detail.Key.{Key}
use Rattle.ps_export.specs.declared.detail.Key.TheVariants as keys
use Rattle.ps_export.specs.declared.detail.Detail.{Detail}
use Rattle.ps_export.specs.declared.detail.Detail.TheVariants.{Said, Move, Ignored}
use Rattle.ps_export.specs.Lines.{bare, after_space}
use Rattle.ps_export.specs.Spreads.{number_in, pairs_in, numbers_of}
use Rattle.ps_base.specs.Characters as characters

-- the field of a packed set is this text
abbrev pub said : Key → Option (List ℕ) → Option Detail
said key None = None
said key (Some text) = Some (Said key text)

-- what follows the colon of `Ability: X` and `Misc: X`
abbrev pub words_text : List ℕ → Option (List ℕ)
words_text rest = bare (after_space rest)

-- of `Level: N`
abbrev pub level_after : List ℕ → Option (List ℕ)
level_after rest = option_map level_text (option_and_then number_in (after_space rest))

-- of `Shiny: Yes`
abbrev pub shiny_after : List ℕ → Option (List ℕ)
shiny_after rest = if bytes_eq rest (codes " Yes") then Some (codes "S") else None

-- of `EVs: `: a stat that isn't named has 0
abbrev pub evs_after : List ℕ → Option (List ℕ)
evs_after rest = option_map (λ pairs. evs_text (numbers_of 0 pairs)) (pairs_in rest)

-- of `IVs: `: a stat that isn't named has 31
abbrev pub ivs_after : List ℕ → Option (List ℕ)
ivs_after rest = option_map (λ pairs. ivs_text (numbers_of 31 pairs)) (pairs_in rest)

-- what stands before ` Nature`
abbrev pub nature_in : List ℕ → Option (List ℕ)
nature_in line = bare (before_end (codes " Nature") line)

-- a text that a move may have, with an id
unfoldable pub is_move_name : List ℕ → Bool
is_move_name name = list_all is_field_char name && nat_le (length (chars name)) 32 && not (is_nil (id_of name))

abbrev pub move_named : Option (List ℕ) → Option Detail
move_named None = None
move_named (Some name) = if is_move_name name then Some (Move (id_of name)) else None

-- a line with none of the keys
unfoldable pub unkeyed : List ℕ → Option Detail
unkeyed line = if list_any (λ byte. byte == characters.colon) line then Some Ignored else said keys.Nature (nature_in line)

-- a line with this key says what follows it; else look further
abbrev pub if_keyed : Option (List ℕ) → Key → (List ℕ → Option (List ℕ)) → Option Detail → Option Detail
if_keyed (Some rest) key read other = said key (read rest)
if_keyed None key read other = other

unfoldable pub numbered : List ℕ → Option Detail
numbered line =
    if_keyed (after_front (codes "EVs:") line) keys.Evs evs_after
    (if_keyed (after_front (codes "IVs:") line) keys.Ivs ivs_after
    (if_keyed (after_front (codes "Level:") line) keys.Level level_after
    (unkeyed line)))

unfoldable pub keyed : List ℕ → Option Detail
keyed line =
    if_keyed (after_front (codes "Ability:") line) keys.Ability words_text
    (if_keyed (after_front (codes "Shiny:") line) keys.Shiny shiny_after
    (if_keyed (after_front (codes "Misc:") line) keys.Misc words_text
    (numbered line)))

abbrev pub begins_with_dash : List ℕ → Bool
begins_with_dash [] = false
begins_with_dash (byte ∷ bytes) = byte == characters.hyphen

unfoldable pub detail_of : List ℕ → Option Detail
detail_of line = if begins_with_dash line then move_named (after_front (codes "- ") line) else keyed line
