-- What is told of a dex.
use Rattle.std.specs.Prelude.{ℕ, ℤ, pos, zero, suc, ◌==◌, ◌||◌, int_lt, Bool, false, List, [], ◌∷◌, ◌++◌, codes, decimal, map, filter, take}
use Rattle.std.specs.Prelude.{slice_get, slice_index, Option, Some, None, if◌then◌else◌}
use Rattle.std.specs.Str.{bytes_eq}
use Rattle.ps_mon.specs.declared.facts.MoveData.{MoveData}
use Rattle.ps_mon.specs.declared.effect.Effect.{Effect}
use Rattle.ps_mon.specs.declared.effect.Effect.TheVariants as effects
use Rattle.ps_dex.specs.declared.item.TypeItem.{TypeItem}
use Rattle.ps_dex.specs.declared.item.FactorItem.{FactorItem}
use Rattle.ps_dex.specs.declared.item.MoveItem.{MoveItem}
use Rattle.ps_dex.specs.declared.item.SpeciesItem.{SpeciesItem}
use Rattle.ps_dex.specs.declared.item.AliasItem.{AliasItem}
use Rattle.ps_dex.specs.declared.item.Tables.{Tables}
use Rattle.ps_dex.specs.Lookups.{factor_of, name_of_move, species_of, move_of}
use Rattle.file_help.specs.declared.page.Row.{Row}
use Rattle.file_help.specs.Pages.{listed}

-- ---- types

abbrev pub category : Bool → List ℕ
category special = if special then codes "special" else codes "physical"

abbrev pub type_row : TypeItem → Row
type_row item = record { key = item.name; value = category item.special }

abbrev pub name_of_type : Option TypeItem → List ℕ
name_of_type None = []
name_of_type (Some item) = item.name

unfoldable pub type_name : List TypeItem → ℕ → List ℕ
type_name types number = name_of_type (slice_get types number)

-- ---- factors

-- the defending type and the factor in tenths, where it isn't 10
unfoldable pub factor_text : ℕ → TypeItem → List (List ℕ)
factor_text tenths defending = if tenths == 10 then [] else (defending.name ++ codes " " ++ decimal tenths) ∷ []

abbrev pub factor_on : ℕ → Option TypeItem → List (List ℕ)
factor_on tenths None = []
factor_on tenths (Some defending) = factor_text tenths defending

-- of the first so many defending types
abbrev pub factors_to : List TypeItem → List FactorItem → ℕ → ℕ → List (List ℕ)
factors_to types factors attack zero = []
factors_to types factors attack (suc defend) =
    factors_to types factors attack defend ++ factor_on (factor_of factors attack defend) (slice_get types defend)

abbrev pub factor_row : List TypeItem → List FactorItem → ℕ → Option TypeItem → List Row
factor_row types factors attack None = []
factor_row types factors attack (Some attacking) = record { key = attacking.name; value = listed (factors_to types factors attack 32) } ∷ []

-- a row for each of the first so many types: what it does to which others, but for 10 tenths
abbrev pub factor_rows : List TypeItem → List FactorItem → ℕ → List Row
factor_rows types factors zero = []
factor_rows types factors (suc attack) = factor_rows types factors attack ++ factor_row types factors attack (slice_get types attack)

-- of all types, which are at most 32
unfoldable pub all_factors : List TypeItem → List FactorItem → List Row
all_factors types factors = factor_rows types factors 32

-- ---- moves

-- the name of the kind of an effect
abbrev pub kind_word : Effect → List ℕ
kind_word effects.Plain = codes "plain"
kind_word (effects.Fixed amount) = codes "fixed"
kind_word effects.Level = codes "level"
kind_word effects.Half = codes "half"
kind_word effects.Psywave = codes "psywave"
kind_word effects.Ohko = codes "ohko"
kind_word (effects.Status status chance) = codes "status"
kind_word (effects.Confuse chance) = codes "confuse"
kind_word (effects.Flinch chance) = codes "flinch"
kind_word (effects.Boost who stat by chance) = codes "boost"
kind_word effects.Drain = codes "drain"
kind_word effects.DreamEater = codes "dreameater"
kind_word (effects.Recoil by) = codes "recoil"
kind_word effects.Crash = codes "crash"
kind_word effects.Multi = codes "multi"
kind_word (effects.Double status chance) = codes "double"
kind_word effects.Explode = codes "explode"
kind_word (effects.Charge away) = codes "charge"
kind_word effects.Recharge = codes "recharge"
kind_word effects.Trap = codes "trap"
kind_word effects.Thrash = codes "thrash"
kind_word effects.Bide = codes "bide"
kind_word effects.Rage = codes "rage"
kind_word effects.Counter = codes "counter"
kind_word effects.Substitute = codes "substitute"
kind_word effects.LeechSeed = codes "leechseed"
kind_word (effects.Screen which) = codes "screen"
kind_word effects.Mist = codes "mist"
kind_word effects.Focus = codes "focus"
kind_word effects.Haze = codes "haze"
kind_word effects.Heal = codes "heal"
kind_word effects.Rest = codes "rest"
kind_word (effects.Copy sub) = codes "copy"
kind_word effects.Nothing = codes "nothing"

-- the names of all kinds, in the order of their table
unfoldable pub kind_words : List (List ℕ)
kind_words =
    codes "plain" ∷ codes "fixed" ∷ codes "level" ∷ codes "half" ∷ codes "psywave" ∷ codes "ohko" ∷
    codes "status" ∷ codes "confuse" ∷ codes "flinch" ∷ codes "boost" ∷ codes "drain" ∷ codes "dreameater" ∷
    codes "recoil" ∷ codes "crash" ∷ codes "multi" ∷ codes "double" ∷ codes "explode" ∷ codes "charge" ∷
    codes "recharge" ∷ codes "trap" ∷ codes "thrash" ∷ codes "bide" ∷ codes "rage" ∷ codes "counter" ∷
    codes "substitute" ∷ codes "leechseed" ∷ codes "screen" ∷ codes "mist" ∷ codes "focus" ∷ codes "haze" ∷
    codes "heal" ∷ codes "rest" ∷ codes "copy" ∷ codes "nothing" ∷ []

-- a move that never misses has the accuracy 0
unfoldable pub accuracy_text : ℕ → List ℕ
accuracy_text accuracy = if accuracy == 0 then codes "never misses" else codes "accuracy " ++ decimal accuracy

-- who acts first, where it isn't the faster one
unfoldable pub priority_word : ℤ → List ℕ
priority_word priority =
    if int_lt (pos 0) priority then codes ", acts first" else (if int_lt priority (pos 0) then codes ", acts last" else [])

abbrev pub high_word : Bool → List ℕ
high_word high = if high then codes ", often critical" else []

unfoldable pub typed_text : List TypeItem → ℕ → Bool → List ℕ
typed_text types kind special = type_name types kind ++ codes ", " ++ category special

unfoldable pub strength_text : ℕ → ℕ → ℕ → List ℕ
strength_text power accuracy pp = codes "power " ++ decimal power ++ codes ", " ++ accuracy_text accuracy ++ codes ", PP " ++ decimal pp

unfoldable pub manner_text : ℤ → Bool → Effect → List ℕ
manner_text priority high effect = priority_word priority ++ high_word high ++ codes "; " ++ kind_word effect

-- the type, the numbers, and the kind of the effect
unfoldable pub numbers_text : List TypeItem → MoveData → List ℕ
numbers_text types numbers =
    typed_text types numbers.kind numbers.special ++ codes "; " ++ strength_text numbers.power numbers.accuracy numbers.pp
    ++ manner_text numbers.priority numbers.high numbers.effect

abbrev pub move_row : List TypeItem → MoveItem → Row
move_row types move = record { key = move.name; value = numbers_text types move.numbers }

-- ---- moves, by what they do

abbrev pub is_of_kind : List ℕ → MoveItem → Bool
is_of_kind word move = bytes_eq (kind_word move.numbers.effect) word

-- the names of the moves of a kind
abbrev pub moves_of_kind : List MoveItem → List ℕ → List (List ℕ)
moves_of_kind moves word = map (λ move. move.name) (filter (is_of_kind word) moves)

abbrev pub kind_row : List MoveItem → List ℕ → Row
kind_row moves word = record { key = word; value = listed (moves_of_kind moves word) }

-- ---- species

-- one type of a species of one, else both
abbrev pub own_types : List ℕ → List ℕ
own_types types = if slice_index types 0 == slice_index types 1 then take 1 types else types

-- the types, the base stats HP, Attack, Defense, Special and Speed, and the moves that it learns
unfoldable pub species_text : List TypeItem → List MoveItem → SpeciesItem → List ℕ
species_text types moves species =
    listed (map (type_name types) (own_types species.types)) ++ codes "; " ++ listed (map decimal species.stats)
    ++ codes "; learns " ++ listed (map (λ number. name_of_move number moves) species.learns)

abbrev pub species_row : List TypeItem → List MoveItem → SpeciesItem → Row
species_row types moves species = record { key = species.name; value = species_text types moves species }

-- ---- what an id stands for

abbrev pub name_of_species : Option SpeciesItem → List ℕ
name_of_species None = []
name_of_species (Some species) = species.name

abbrev pub species_part : List SpeciesItem → Option ℕ → List (List ℕ)
species_part species None = []
species_part species (Some number) = (codes "species " ++ name_of_species (slice_get species number)) ∷ []

abbrev pub move_part : List MoveItem → Option ℕ → List (List ℕ)
move_part moves None = []
move_part moves (Some number) = (codes "move " ++ name_of_move number moves) ∷ []

-- a species, a move, or both
abbrev pub parts_text : Tables → Option ℕ → Option ℕ → List ℕ
parts_text dex species mv = listed (species_part dex.species species ++ move_part dex.moves mv)

-- ---- aliases

abbrev pub is_species_id : List ℕ → Option SpeciesItem → Bool
is_species_id id None = false
is_species_id id (Some species) = bytes_eq species.id id

abbrev pub is_move_id : List ℕ → Option MoveItem → Bool
is_move_id id None = false
is_move_id id (Some move) = bytes_eq move.id id

abbrev pub has_species_id : List ℕ → List SpeciesItem → Option ℕ → Bool
has_species_id id species None = false
has_species_id id species (Some number) = is_species_id id (slice_get species number)

abbrev pub has_move_id : List ℕ → List MoveItem → Option ℕ → Bool
has_move_id id moves None = false
has_move_id id moves (Some number) = is_move_id id (slice_get moves number)

-- the species or the move that the id stands for has it itself
abbrev pub is_own : List ℕ → Tables → Bool
is_own id dex = has_species_id id dex.species (species_of id dex) || has_move_id id dex.moves (move_of id dex)

-- what an alias stands for; one with the id of a species or a move is never used
abbrev pub alias_text : Tables → AliasItem → List ℕ
alias_text dex alias = if is_own alias.id dex then codes "never used: a species or a move has this id" else parts_text dex
    alias.species alias.mv

abbrev pub alias_row : Tables → AliasItem → Row
alias_row dex alias = record { key = alias.id; value = alias_text dex alias }
