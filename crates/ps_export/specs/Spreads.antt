-- EVs and IVs: ` 252 HP / 4 Atk`.
use Rattle.std.specs.Prelude.{ℕ, ◌==◌, ◌&&◌, ◌||◌, Bool, true, false, List, [], ◌∷◌, ◌++◌, length, map, Option, Some, None, codes}
use Rattle.std.specs.Prelude.{nat_le, option_map, option_and_then, if◌then◌else◌}
use Rattle.std.specs.Str.{bytes_eq}
use Rattle.ps_packed.specs.Forms.{are_digits, number_of}
use Rattle.ps_packed.specs.Packed.{is_nil}
use Rattle.ps_export.specs.Lines.{parts}
use Rattle.ps_base.specs.Characters as characters

-- the number that one to three digits spell
unfoldable pub number_in : List ℕ → Option ℕ
number_in digits = if are_digits digits && nat_le 1 (length digits) && nat_le (length digits) 3 then Some (number_of digits) else None

-- the number of a stat by its name, from 0
unfoldable pub stat_named : List ℕ → Option ℕ
stat_named name =
    if bytes_eq name (codes "HP") then Some 0
    else (if bytes_eq name (codes "Atk") then Some 1
    else (if bytes_eq name (codes "Def") then Some 2
    else (if bytes_eq name (codes "SpA") then Some 3
    else (if bytes_eq name (codes "SpD") then Some 4
    else (if bytes_eq name (codes "Spe") then Some 5
    else None)))))

-- a stat and its number
abbrev pub pair_with : Option ℕ → Option ℕ → Option (ℕ × ℕ)
pair_with None number = None
pair_with (Some stat) None = None
pair_with (Some stat) (Some number) = Some (stat, number)

-- ` 252 HP `, of which these are the words
abbrev pub pair_of : List (List ℕ) → Option (ℕ × ℕ)
pair_of [] = None
pair_of (front ∷ []) = None
pair_of (front ∷ number ∷ []) = None
pair_of (front ∷ number ∷ stat ∷ []) = None
pair_of (front ∷ number ∷ stat ∷ back ∷ []) = if is_nil front && is_nil back then pair_with (stat_named stat) (number_in number) else None
pair_of (front ∷ number ∷ stat ∷ back ∷ more ∷ words) = None

-- the number that the stat has there, else this one
abbrev pub number_at : ℕ → ℕ → List (ℕ × ℕ) → ℕ
number_at stat silent [] = silent
number_at stat silent (pair ∷ pairs) = if pair.0 == stat then pair.1 else number_at stat silent pairs

abbrev pub is_named : ℕ → List (ℕ × ℕ) → Bool
is_named stat [] = false
is_named stat (pair ∷ pairs) = pair.0 == stat || is_named stat pairs

-- one more pair, of a stat that has none before
abbrev pub more_pairs : Option (ℕ × ℕ) → List (ℕ × ℕ) → Option (List (ℕ × ℕ))
more_pairs None before = None
more_pairs (Some pair) before = if is_named pair.0 before then None else Some (before ++ pair ∷ [])

-- those of the parts, behind others
abbrev pub pairs_after : List (ℕ × ℕ) → List (List ℕ) → Option (List (ℕ × ℕ))
pairs_after before [] = Some before
pairs_after before (part ∷ parts_left) = option_and_then (λ more. pairs_after more parts_left)
    (more_pairs (pair_of (parts characters.space part)) before)

-- what the text says that stands behind the colon
unfoldable pub pairs_in : List ℕ → Option (List (ℕ × ℕ))
pairs_in rest = pairs_after [] (parts characters.slash (rest ++ characters.space ∷ []))

-- HP, Attack, Defense, Special Attack, Special Defense and Speed; those that aren't named have the silent one
unfoldable pub numbers_of : ℕ → List (ℕ × ℕ) → List ℕ
numbers_of silent pairs = map (λ stat. number_at stat silent pairs) (0 ∷ 1 ∷ 2 ∷ 3 ∷ 4 ∷ 5 ∷ [])
