-- The export text that is written for a team.
use Rattle.std.specs.Prelude.{◌≡◌, ℕ, ◌+◌, ◌<◌, ◌==◌, ◌&&◌, ◌||◌, not, Bool, List, [], ◌∷◌, ◌++◌, length, map, Option, Some, None}
use Rattle.std.specs.Prelude.{codes, encode_utf8, decimal, is_some, if◌then◌else◌}
use Rattle.std.specs.List.{list_all, list_any, join_with_byte}
use Rattle.std.specs.Str.{bytes_eq}
use Rattle.ps_base.specs.Cuts.{after_front, before_end}
use Rattle.ps_base.specs.Numbers.{counted}
use Rattle.ps_packed.specs.Canon.{are_all}
use Rattle.ps_packed.specs.Packed.{is_nil}
use Rattle.ps_packed.specs.declared.set.Set.{Set}
use Rattle.ps_export.specs.declared.fault.WriteExportFault.{WriteExportFault}
use Rattle.ps_export.specs.declared.fault.WriteExportFault.TheVariants as faults
use Rattle.ps_export.specs.Lines.{is_sign}
use Rattle.ps_export.specs.Details.{begins_with_dash}
use Rattle.ps_export.specs.Sheets.{is_gender}
use Rattle.ps_base.specs.Characters as characters

-- ---- what can be written

-- none of the signs, and no space at an end
unfoldable pub is_plain : List ℕ → Bool
is_plain text = list_all (λ byte. not (is_sign byte)) text && not (is_some (after_front (codes " ") text))
    && not (is_some (before_end (codes " ") text))

-- a nature that no key and no move looks like
unfoldable pub is_nature : List ℕ → Bool
is_nature nature = not (list_any (λ byte. byte == characters.colon) nature) && not (begins_with_dash nature)

-- the species beside another nickname looks like no gender
unfoldable pub are_names : List ℕ → List ℕ → Bool
are_names nick species = bytes_eq nick species || not (is_gender species)

unfoldable pub are_plain : Set → Bool
are_plain set = is_plain set.nick && is_plain set.species && is_plain set.item && is_plain set.ability && is_plain set.nature
    && is_plain set.misc

unfoldable pub is_writable : Set → Bool
is_writable set = are_plain set && is_nature set.nature && are_names set.nick set.species

-- the first set that can't be written, the first of these having this number
abbrev pub first_unwritable : ℕ → List Set → Option ℕ
first_unwritable number [] = None
first_unwritable number (set ∷ sets) = if is_writable set then first_unwritable (number + 1) sets else Some number

-- ---- lines

-- a nickname that is the species isn't written
unfoldable pub names_text : List ℕ → List ℕ → List ℕ
names_text nick species = if bytes_eq nick species then species else nick ++ codes " (" ++ species ++ codes ")"

abbrev pub gender_part : Option ℕ → List ℕ
gender_part None = []
gender_part (Some letter) = codes " (" ++ encode_utf8 letter ++ codes ")"

unfoldable pub item_part : List ℕ → List ℕ
item_part item = if is_nil item then [] else codes " @ " ++ item

unfoldable pub first_line : Set → List ℕ
first_line set = names_text set.nick set.species ++ gender_part set.gender ++ item_part set.item

-- a line of a field that isn't empty
unfoldable pub words_line : List ℕ → List ℕ → List (List ℕ)
words_line key text = if is_nil text then [] else (key ++ text) ∷ []

unfoldable pub level_line : ℕ → List (List ℕ)
level_line level = if level == 100 then [] else (codes "Level: " ++ decimal level) ∷ []

unfoldable pub shiny_line : Bool → List (List ℕ)
shiny_line shiny = if shiny then codes "Shiny: Yes" ∷ [] else []

unfoldable pub nature_line : List ℕ → List (List ℕ)
nature_line nature = if is_nil nature then [] else (nature ++ codes " Nature") ∷ []

-- what parts a stat from one before it
abbrev pub slash : List ℕ → List ℕ
slash before = if is_nil before then [] else codes " /"

-- one stat more, where it has another number than the silent one
unfoldable pub with_stat : ℕ → ℕ → List ℕ → List ℕ → List ℕ
with_stat silent number name before = if number == silent then before else before ++ slash before ++ codes " " ++ decimal number
    ++ codes " " ++ name

abbrev pub stats_text : ℕ → List ℕ → List ℕ
stats_text silent (hp ∷ atk ∷ def ∷ spa ∷ spd ∷ spe ∷ []) =
    with_stat silent spe (codes "Spe") (with_stat silent spd (codes "SpD") (with_stat silent spa (codes "SpA")
    (with_stat silent def (codes "Def") (with_stat silent atk (codes "Atk") (with_stat silent hp (codes "HP") [])))))
stats_text silent numbers = []

-- `0 HP` where all are 0
abbrev pub or_zero : List ℕ → List ℕ
or_zero stats = if is_nil stats then codes " 0 HP" else stats

-- six EVs of 252 aren't written
unfoldable pub evs_line : List ℕ → List (List ℕ)
evs_line evs = if are_all 252 evs then [] else (codes "EVs:" ++ or_zero (stats_text 0 evs)) ∷ []

-- nor six IVs of 31
unfoldable pub ivs_line : List ℕ → List (List ℕ)
ivs_line ivs = if are_all 31 ivs then [] else (codes "IVs:" ++ stats_text 31 ivs) ∷ []

abbrev pub move_line : List ℕ → List ℕ
move_line id = codes "- " ++ id

-- details, then EVs, IVs and moves
abbrev pub set_lines : Set → List (List ℕ)
set_lines set =
    first_line set ∷ [] ++ words_line (codes "Ability: ") set.ability ++ level_line set.level ++ shiny_line set.shiny
    ++ words_line (codes "Misc: ") set.misc ++ nature_line set.nature ++ evs_line set.evs ++ ivs_line set.ivs ++ map move_line set.moves

-- each line ends with a newline
unfoldable pub block : Set → List ℕ
block set = join_with_byte characters.newline (set_lines set ++ [] ∷ [])

-- one empty line parts sets
unfoldable pub export_text : List Set → List ℕ
export_text team = join_with_byte characters.newline (map block team)

-- ---- faults

abbrev pub WriteFails : List Set → WriteExportFault → Type 0
WriteFails team (faults.Unwritable set) = first_unwritable 1 team ≡ Some set
WriteFails team (faults.Long bytes) = (first_unwritable 1 team ≡ None) × (8192 < length (export_text team))
    × (bytes ≡ counted (length (export_text team)))
WriteFails team faults.NoMemory = Unit {0}
