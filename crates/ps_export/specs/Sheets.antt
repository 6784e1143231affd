-- Lines make sheets: the packed text of the sets so far, line by line.
use Rattle.std.specs.Prelude.{ℕ, ◌+◌, ◌||◌, Bool, List, [], ◌∷◌, ◌++◌, Option, Some, None, codes, option_and_then, is_some, nat_lt}
use Rattle.std.specs.Prelude.{if◌then◌else◌}
use Rattle.std.specs.List.{join_with_byte}
use Rattle.std.specs.Str.{bytes_eq}
use Rattle.ps_base.specs.Cuts.{after_front, before_end}
use Rattle.ps_packed.specs.Canon.{nick_text, species_text}
use Rattle.ps_packed.specs.Packed.{is_nil}
use Rattle.ps_export.specs.declared.detail.Key.{Key}
use Rattle.ps_export.specs.declared.detail.Key.TheVariants as keys
use Rattle.ps_export.specs.declared.detail.Detail.{Detail}
use Rattle.ps_export.specs.declared.detail.Detail.TheVariants.{Said, Move, Ignored}
use Rattle.ps_export.specs.declared.draft.Draft.{Draft}
use Rattle.ps_export.specs.declared.first.Names.{Names}
use Rattle.ps_export.specs.declared.sheet.Sheet.{Sheet}
use Rattle.ps_export.specs.Lines.{parts, clean, bare}
use Rattle.ps_export.specs.Details.{detail_of}
use Rattle.ps_base.specs.Characters as characters

-- ---- the first line of a set

-- the set of the first line, whose fields NICK, SPECIES, GENDER and ITEM are these
abbrev pub drafted : List ℕ → List ℕ → List ℕ → List ℕ → Draft
drafted nick species gender item = record {
  nick = nick;
  species = species;
  item = item;
  gender = gender;
  moves = [];
  ability = None;
  nature = None;
  evs = None;
  ivs = None;
  shiny = None;
  level = None;
  misc = None;
}

unfoldable pub is_gender : List ℕ → Bool
is_gender group = bytes_eq group (codes "M") || bytes_eq group (codes "F") || bytes_eq group (codes "N")

-- SPECIES, which is the nickname too
abbrev pub species_alone : List ℕ → Option (List ℕ) → Option Names
species_alone gender None = None
species_alone gender (Some species) = Some (record { nick = nick_text species; species = species_text species species; gender = gender })

-- NICK (SPECIES)
abbrev pub both_names : List ℕ → Option (List ℕ) → Option (List ℕ) → Option Names
both_names gender None species = None
both_names gender (Some nick) None = None
both_names gender (Some nick) (Some species) = Some (record { nick = nick; species = species_text nick species; gender = gender })

-- what a parenthesis opens behind a name: M, F or N is the gender, and anything else the species
abbrev pub with_group : Option (List ℕ) → Option (List ℕ) → Option Names
with_group front None = None
with_group front (Some group) = if is_gender group then species_alone group (bare front) else both_names [] (bare front) (bare (Some group))

-- both, the gender behind the species
abbrev pub with_groups : Option (List ℕ) → Option (List ℕ) → Option (List ℕ) → Option Names
with_groups front group None = None
with_groups front group (Some gender) = if is_gender gender then both_names gender (bare front) (bare group) else None

-- what the parts round the opening parentheses say
abbrev pub names_of : List (List ℕ) → Option Names
names_of [] = None
names_of (species ∷ []) = species_alone [] (bare (Some species))
names_of (front ∷ group ∷ []) = with_group (before_end (codes " ") front) (before_end (codes ")") group)
names_of (front ∷ group ∷ gender ∷ []) = with_groups (before_end (codes " ") front) (before_end (codes ") ") group)
    (before_end (codes ")") gender)
names_of (front ∷ group ∷ gender ∷ more ∷ left) = None

abbrev pub draft_with : Option (List ℕ) → Option Names → Option Draft
draft_with None names = None
draft_with (Some item) None = None
draft_with (Some item) (Some names) = Some (drafted names.nick names.species names.gender item)

abbrev pub names_in : Option (List ℕ) → Option Names
names_in None = None
names_in (Some text) = names_of (parts characters.open_parenthesis text)

-- what the parts round the at sign say
abbrev pub first_of : List (List ℕ) → Option Draft
first_of [] = None
first_of (names ∷ []) = draft_with (Some []) (names_in (Some names))
first_of (front ∷ back ∷ []) = draft_with (bare (after_front (codes " ") back)) (names_in (before_end (codes " ") front))
first_of (front ∷ back ∷ more ∷ left) = None

unfoldable pub draft_of : List ℕ → Option Draft
draft_of line = first_of (parts characters.at_sign line)

-- ---- details

-- each at most once
unfoldable pub say : Draft → Key → List ℕ → Option Draft
say draft keys.Ability text = if is_some draft.ability then None else Some (record draft { ability = Some text })
say draft keys.Nature text = if is_some draft.nature then None else Some (record draft { nature = Some text })
say draft keys.Evs text = if is_some draft.evs then None else Some (record draft { evs = Some text })
say draft keys.Ivs text = if is_some draft.ivs then None else Some (record draft { ivs = Some text })
say draft keys.Shiny text = if is_some draft.shiny then None else Some (record draft { shiny = Some text })
say draft keys.Level text = if is_some draft.level then None else Some (record draft { level = Some text })
say draft keys.Misc text = if is_some draft.misc then None else Some (record draft { misc = Some text })

-- ids between commas
unfoldable pub with_move : List ℕ → List ℕ → List ℕ
with_move moves id = if is_nil moves then id else moves ++ characters.comma ∷ id

abbrev pub with_detail : Draft → Detail → Option Draft
with_detail draft (Said key text) = say draft key text
with_detail draft (Move id) = Some (record draft { moves = with_move draft.moves id })
with_detail draft Ignored = Some draft

-- ---- sheets

abbrev pub spoken : Option (List ℕ) → List ℕ
spoken None = []
spoken (Some text) = text

-- the fields of a packed set
abbrev pub fields_of : Draft → List (List ℕ)
fields_of draft = draft.nick ∷ draft.species ∷ draft.item ∷ spoken draft.ability ∷ draft.moves ∷ spoken draft.nature
    ∷ spoken draft.evs ∷ draft.gender ∷ spoken draft.ivs
    ∷ spoken draft.shiny ∷ spoken draft.level ∷ spoken draft.misc ∷ []

unfoldable pub set_text : Draft → List ℕ
set_text draft = join_with_byte characters.bar (fields_of draft)

-- one more set of a packed text
unfoldable pub joined_sets : List ℕ → List ℕ → List ℕ
joined_sets before set = if is_nil before then set else before ++ characters.close_bracket ∷ set

abbrev pub start : Sheet
start = record { before = []; sets = 0; draft = None }

-- the packed text of the sets so far
abbrev pub packed_with : List ℕ → Option Draft → List ℕ
packed_with before None = before
packed_with before (Some draft) = joined_sets before (set_text draft)

abbrev pub packed_of : Sheet → List ℕ
packed_of sheet = packed_with sheet.before sheet.draft

-- a set begins, unless there are six
abbrev pub opened : List ℕ → ℕ → Option Draft → Option Sheet
opened before sets None = None
opened before sets (Some draft) = if nat_lt sets 6 then Some (record { before = before; sets = sets + 1; draft = Some draft }) else None

-- it goes on
abbrev pub gone_on : List ℕ → ℕ → Option Draft → Option Sheet
gone_on before sets None = None
gone_on before sets (Some draft) = Some (record { before = before; sets = sets; draft = Some draft })

abbrev pub detailed : Draft → Option Detail → Option Draft
detailed draft None = None
detailed draft (Some detail) = with_detail draft detail

-- an empty line ends the set; any other begins one or says more of it
abbrev pub with_clean : List ℕ → ℕ → Option Draft → List ℕ → Option Sheet
with_clean before sets draft [] = Some (record { before = packed_with before draft; sets = sets; draft = None })
with_clean before sets None (byte ∷ bytes) = opened before sets (draft_of (byte ∷ bytes))
with_clean before sets (Some draft) (byte ∷ bytes) = gone_on before sets (detailed draft (detail_of (byte ∷ bytes)))

unfoldable pub with_line : Sheet → List ℕ → Option Sheet
with_line sheet line = with_clean sheet.before sheet.sets sheet.draft (clean line)

-- a line that can't stand there leaves none
abbrev pub with_lines : Sheet → List (List ℕ) → Option Sheet
with_lines sheet [] = Some sheet
with_lines sheet (line ∷ lines) = option_and_then (λ next. with_lines next lines) (with_line sheet line)
