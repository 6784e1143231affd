-- Packed teams: sets joined by `]`, of fields joined by `|`. A text here is the list of its characters.
use Rattle.std.specs.Prelude.{◌≡◌, ℕ, suc, ◌-◌, ◌<◌, ◌≤◌, ◌==◌, ◌&&◌, ◌||◌, ◌⊎◌, List, [], ◌∷◌, ◌++◌, length, map, take, get_or}
use Rattle.std.specs.Prelude.{slice_get, Option, Some, None, Bool, true, false, not, nat_lt, if◌then◌else◌}
use Rattle.std.specs.List.{AllByRecursion, slice_split, join_with_byte}
use Rattle.std.specs.Str.{all_scalars, encode_utf8_all}
use Rattle.ps_base.specs.declared.pack_kind.PackKind.{PackKind}
use Rattle.ps_base.specs.declared.pack_kind.PackKind.TheVariants.{Bars, Number, Count, EmptySet, Text, Long}
use Rattle.ps_packed.specs.declared.fault.PackFault.{PackFault}
use Rattle.ps_packed.specs.declared.fault.PackFault.TheVariants as faults
use Rattle.ps_packed.specs.declared.set.Set.{Set}
use Rattle.ps_packed.specs.Forms.{Form, words, moves, spread, letter, level, in_form, form_of, last, parts, number_of, ids_of}
use Rattle.ps_packed.specs.Forms.{id_count, is_zero}
use Rattle.ps_base.specs.Characters as characters

-- ---- what the fields stand for

abbrev pub is_nil : List ℕ → Bool
is_nil [] = true
is_nil (char ∷ rest) = false

-- an empty nickname is the species, and an empty species the nickname
abbrev pub or_other : List ℕ → List ℕ → List ℕ
or_other [] other = other
or_other (char ∷ rest) other = char ∷ rest

abbrev pub six : ℕ → List ℕ
six number = number ∷ number ∷ number ∷ number ∷ number ∷ number ∷ []

-- an empty part is 0, and so is `0` alone
abbrev pub evs_of : List ℕ → List ℕ
evs_of [] = six 252
evs_of (char ∷ rest) = if is_zero (char ∷ rest) then six 0 else map number_of (parts (char ∷ rest))

abbrev pub iv_of : List ℕ → ℕ
iv_of [] = 31
iv_of (char ∷ rest) = number_of (char ∷ rest)

abbrev pub ivs_of : List ℕ → List ℕ
ivs_of [] = six 31
ivs_of (char ∷ rest) = map iv_of (parts (char ∷ rest))

abbrev pub gender_of : List ℕ → Option ℕ
gender_of [] = None
gender_of (char ∷ rest) = Some char

abbrev pub level_of : List ℕ → ℕ
level_of [] = 100
level_of (char ∷ rest) = number_of (char ∷ rest)

-- the text of a field
abbrev pub field : List (List ℕ) → ℕ → List ℕ
field ws index = get_or ws index []

-- what the texts of a set's fields stand for
abbrev pub set_of : List (List ℕ) → Set
set_of ws = record {
  nick = encode_utf8_all (or_other (field ws 0) (field ws 1));
  species = encode_utf8_all (or_other (field ws 1) (field ws 0));
  item = encode_utf8_all (field ws 2);
  ability = encode_utf8_all (field ws 3);
  moves = ids_of (field ws 4);
  nature = encode_utf8_all (field ws 5);
  evs = evs_of (field ws 6);
  gender = gender_of (field ws 7);
  ivs = ivs_of (field ws 8);
  shiny = not (is_nil (field ws 9));
  level = level_of (field ws 10);
  misc = encode_utf8_all (field ws 11);
}

-- ---- teams

-- the texts are those of the fields from one on
abbrev pub AreFields : ℕ → List (List ℕ) → Type 0
AreFields index [] = ⊥
AreFields index (word ∷ []) = (in_form (form_of index) word ≡ true) × (index ≡ last)
AreFields index (word ∷ next ∷ rest) = (in_form (form_of index) word ≡ true) × (index < last) × AreFields (suc index) (next ∷ rest)

-- the first two of a set's fields, as far as they are there, are empty
abbrev pub is_nameless : List (List ℕ) → Bool
is_nameless [] = true
is_nameless (nick ∷ []) = is_nil nick
is_nameless (nick ∷ species ∷ species_left) = is_nil nick && is_nil species

-- the texts are the twelve fields of a set
abbrev pub AreFieldTexts : List (List ℕ) → Type 0
AreFieldTexts ws = AreFields 0 ws × (is_nameless ws ≡ false)

abbrev pub team_text : List (List (List ℕ)) → List ℕ
team_text team_texts = join_with_byte characters.close_bracket (map (join_with_byte characters.bar) team_texts)

-- how many bytes the characters have
abbrev pub bytes_of : List ℕ → ℕ
bytes_of text = length (encode_utf8_all text)

-- these are the fields of 1 to 6 sets, and the text is theirs
pub record IsFreeTeam (team_texts : List (List (List ℕ))) (text : List ℕ) : Type 0 where
  pub letters : all_scalars text ≡ true
  pub parts : text ≡ team_text team_texts
  pub fit : AllByRecursion AreFieldTexts team_texts
  pub some : 0 < length team_texts
  pub few : length team_texts ≤ 6

-- that, in at most 4,096 bytes, and the team is what the fields stand for
pub record IsTeamOf (team_texts : List (List (List ℕ))) (text : List ℕ) (team : List Set) : Type 0 where
  pub free : IsFreeTeam team_texts text
  pub short : bytes_of text ≤ 4096
  pub sets : team ≡ map set_of team_texts

abbrev pub IsTeam : List ℕ → List Set → Type 0
IsTeam text team = (team_texts : List (List (List ℕ))) × IsTeamOf team_texts text team

-- some packed text has the team
abbrev pub HasText : List Set → Type 0
HasText team = (text : List ℕ) × IsTeam text team

-- ---- faults

-- some packed text begins so
abbrev pub IsPrefix : List ℕ → Type 0
IsPrefix front = (rest : List ℕ) × (team : List Set) × IsTeam (front ++ rest) team

-- some packed text would begin so if the bytes weren't limited
abbrev pub IsFreePrefix : List ℕ → Type 0
IsFreePrefix front = (rest : List ℕ) × (team_texts : List (List (List ℕ))) × IsFreeTeam team_texts (front ++ rest)

-- the longest part of the text that some packed text begins with has so many characters
pub record IsLongest (text : List ℕ) (count : ℕ) : Type 0 where
  pub within : count ≤ length text
  pub begins : IsPrefix (take count text)
  pub most : (longer : ℕ) → count < longer → longer ≤ length text → ¬ (IsPrefix (take longer text))

-- the limit of bytes is at fault
abbrev pub IsLong : List ℕ → ℕ → Type 0
IsLong text count = (bytes_of (take count text) ≡ 4096)
    ⊎ ((longer : ℕ) × (count < longer) × (longer ≤ length text) × IsFreePrefix (take longer text))

-- the fields of each set of a front, the last as far as it goes
abbrev pub team_texts_of : List ℕ → List (List (List ℕ))
team_texts_of text = map (slice_split (λ char. char == characters.bar)) (slice_split (λ char. char == characters.close_bracket) text)

abbrev pub end_of : {A : Type 0} → A → List A → A
end_of default [] = default
end_of default (first ∷ rest) = end_of first rest

-- the sets before the one that a front ends in, that one's fields so far, the number of the last of these and its text so far
abbrev pub sets_done : List ℕ → ℕ
sets_done front = length (team_texts_of front) - 1

abbrev pub field_texts_at_end : List ℕ → List (List ℕ)
field_texts_at_end front = end_of [] (team_texts_of front)

abbrev pub field_at_end : List ℕ → ℕ
field_at_end front = length (field_texts_at_end front) - 1

abbrev pub word_at_end : List ℕ → List ℕ
word_at_end front = end_of [] (field_texts_at_end front)

-- the character or the end stands out of place
abbrev pub is_out : ℕ → Option ℕ → Bool
is_out index None = true
is_out index (Some char) = (char == characters.close_bracket && not (index == last)) || (char == characters.bar && index == last)

-- a seventh set, or a fifth move
abbrev pub is_too_many : ℕ → ℕ → List ℕ → Option ℕ → Bool
is_too_many sets index word None = false
is_too_many sets index word (Some char) = (char == characters.close_bracket && sets == 5)
    || (index == 4 && nat_lt 4 (id_count (word ++ char ∷ [])))

-- EVs, gender, IVs, the shiny mark or the level
abbrev pub is_numeric : Form → Bool
is_numeric (words most) = false
is_numeric moves = false
is_numeric (spread zero_alone most) = true
is_numeric (letter letters) = true
is_numeric level = true

-- where the limit of bytes isn't at fault
unfoldable pub kind_of : Bool → ℕ → ℕ → List ℕ → Option ℕ → PackKind
kind_of nameless sets index word next =
    if nameless then EmptySet
    else (if is_out index next then Bars
    else (if is_too_many sets index word next then Count
    else (if is_numeric (form_of index) then Number else Text)))

-- that of the front and of what stands after it
abbrev pub kind_at : List ℕ → ℕ → PackKind
kind_at text count =
    let front = take count text in
    kind_of (is_nameless (field_texts_at_end front)) (sets_done front) (field_at_end front) (word_at_end front) (slice_get text count)

abbrev pub IsKind : List ℕ → ℕ → PackKind → Type 0
IsKind text count kind = (IsLong text count × (kind ≡ Long)) ⊎ (¬ (IsLong text count) × (kind ≡ kind_at text count))

-- the fault of a text: its byte, where the longest part ends that some packed text begins with, and its kind
pub record IsFault (text : List ℕ) (at : ℕ) (kind : PackKind) : Type 0 where
  pub count : ℕ
  pub longest : IsLongest text count
  pub offset : at ≡ bytes_of (take count text)
  pub kind_is : IsKind text count kind

-- there is no team, and this is why
abbrev pub Refuses : List ℕ → PackFault → Type 0
Refuses text (faults.Fault at kind) = IsFault text at kind × ((team : List Set) → ¬ (IsTeam text team))
Refuses text faults.NoMemory = Unit {0}
