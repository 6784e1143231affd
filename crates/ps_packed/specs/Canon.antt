-- The canonical text of a team: its bytes.
use Rattle.std.specs.Prelude.{ℕ, ◌==◌, ◌&&◌, List, [], ◌∷◌, length, map, chars, encode_utf8, decimal, bytes_eq, Option, Some, None}
use Rattle.std.specs.Prelude.{Bool, true, false, nat_le, if◌then◌else◌}
use Rattle.std.specs.List.{list_all, join_with_byte}
use Rattle.ps_packed.specs.declared.set.Set.{Set}
use Rattle.ps_packed.specs.Packed.{team_text}
use Rattle.ps_base.specs.Characters as characters

-- empty where it has more than 18 characters
unfoldable pub nick_text : List ℕ → List ℕ
nick_text nick = if nat_le (length (chars nick)) 18 then nick else []

-- empty where it is the nickname and has up to 18 characters
unfoldable pub species_text : List ℕ → List ℕ → List ℕ
species_text nick species = if bytes_eq species nick && nat_le (length (chars species)) 18 then [] else species

abbrev pub moves_text : List (List ℕ) → List ℕ
moves_text ids = join_with_byte characters.comma ids

abbrev pub are_all : ℕ → List ℕ → Bool
are_all number ns = list_all (λ other. other == number) ns

-- empty for 0
unfoldable pub ev_text : ℕ → List ℕ
ev_text ev = if ev == 0 then [] else decimal ev

-- empty for six 252s, `0` for six zeros
unfoldable pub evs_text : List ℕ → List ℕ
evs_text ns = if are_all 252 ns then [] else
    (if are_all 0 ns then characters.digit_zero ∷ [] else join_with_byte characters.comma (map ev_text ns))

-- empty for 31
unfoldable pub iv_text : ℕ → List ℕ
iv_text iv = if iv == 31 then [] else decimal iv

-- empty for six 31s
unfoldable pub ivs_text : List ℕ → List ℕ
ivs_text ns = if are_all 31 ns then [] else join_with_byte characters.comma (map iv_text ns)

abbrev pub gender_text : Option ℕ → List ℕ
gender_text None = []
gender_text (Some letter) = encode_utf8 letter

abbrev pub shiny_text : Bool → List ℕ
shiny_text true = 83 ∷ []
shiny_text false = []

-- empty for 100
unfoldable pub level_text : ℕ → List ℕ
level_text level = if level == 100 then [] else decimal level

abbrev pub set_fields : Set → List (List ℕ)
set_fields set = nick_text set.nick ∷ species_text set.nick set.species ∷ set.item ∷ set.ability ∷ moves_text set.moves ∷ set.nature
    ∷ evs_text set.evs
    ∷ gender_text set.gender ∷ ivs_text set.ivs ∷ shiny_text set.shiny ∷ level_text set.level ∷ set.misc ∷ []

abbrev pub canon : List Set → List ℕ
canon team = team_text (map set_fields team)
