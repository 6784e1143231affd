-- Going through a text character by character.
use Rattle.std.specs.Prelude.{◌≡◌, ℕ, zero, suc, ◌+◌, ◌-◌, ◌==◌, ◌&&◌, ◌||◌, List, [], ◌∷◌, ◌++◌, ◌≤◌, length, map, drop, Bool, true}
use Rattle.std.specs.Prelude.{false, not, Option, Some, None, option_and_then, Result, Ok, Err, ⊤, nat_lt, nat_le, if◌then◌else◌}
use Rattle.ps_packed.specs.declared.set.Set.{Set}
use Rattle.ps_packed.specs.declared.fault.PackFault.{PackFault}
use Rattle.ps_packed.specs.Forms.{Form, words, moves, spread, letter, level, number_of, is_number, parts, is_id_letter, has_id}
use Rattle.ps_packed.specs.Forms.{id_count, are_numbers, is_zero, in_form, form_of, last}
use Rattle.ps_packed.specs.Packed.{is_nil, IsTeam, team_texts_of, end_of, set_of, Refuses}
use Rattle.ps_base.specs.Characters as characters

-- some text of the form begins so
unfoldable pub prefix_ok : Form → List ℕ → Bool
prefix_ok (words most) word = in_form (words most) word
prefix_ok moves word = in_form moves word
prefix_ok (spread zero_alone most) word = are_numbers most word && nat_le (length (parts word)) 6
prefix_ok (letter letters) word = in_form (letter letters) word
prefix_ok level word = is_number 100 word && (nat_lt (length word) 3 || nat_le 1 (number_of word))

abbrev pub spread_need : Bool → List ℕ → ℕ
spread_need zero_alone [] = 0
spread_need zero_alone (char ∷ rest) = if zero_alone && is_zero (char ∷ rest) then 0 else 6 - length (parts (char ∷ rest))

abbrev pub level_need : List ℕ → ℕ
level_need [] = 0
level_need (char ∷ rest) = if number_of (char ∷ rest) == 0 then 1 else 0

-- how many characters the shortest such text has more
unfoldable pub need : Form → List ℕ → ℕ
need (words most) word = 0
need moves word = 0
need (spread zero_alone most) word = spread_need zero_alone word
need (letter letters) word = 0
need level word = level_need word

-- the part after the last comma
abbrev pub last_part : List ℕ → List ℕ
last_part word = end_of [] (parts word)

-- where the last part of a text between commas begins, and how many parts have an id
pub record CountsOf (word : List ℕ) (part ids : ℕ) : Type 0 where
  pub within : part ≤ length word
  pub last_is : last_part word ≡ drop part word
  pub ids_are : ids ≡ id_count word

-- a character gives the part its id
abbrev pub gives_id : List ℕ → ℕ → Bool
gives_id part char = not (char == characters.comma) && is_id_letter char && not (has_id part)

-- what a character that was tried leaves
abbrev pub Grows : Bool → Bool → List ℕ → ℕ → List ℕ → Type 0
Grows true fits old char new = (fits ≡ true) × (new ≡ old ++ char ∷ [])
Grows false fits old char new = (fits ≡ false) × (new ≡ old)

-- the field's text so far, whether the set's first field was empty, which field it is, and how many sets are done
pub record State : Type 0 where
  pub word : List ℕ
  pub bare : Bool
  pub field : ℕ
  pub sets : ℕ

abbrev pub start : State
start = record { word = []; bare = true; field = 0; sets = 0 }

-- the set has no name so far
abbrev pub nameless_at : Bool → ℕ → List ℕ → Bool
nameless_at bare zero word = is_nil word
nameless_at bare (suc zero) word = bare && is_nil word
nameless_at bare (suc (suc more)) word = false

-- a bar may stand, as far as the names go
abbrev pub bar_named : Bool → ℕ → List ℕ → Bool
bar_named bare zero word = true
bar_named bare (suc zero) word = not (bare && is_nil word)
bar_named bare (suc (suc more)) word = true

unfoldable pub step : State → ℕ → Option State
step state char =
    if char == characters.bar then (if nat_lt state.field last && in_form (form_of state.field) state.word
    && bar_named state.bare state.field state.word then Some
    (record { word = []; bare = nameless_at state.bare state.field state.word; field = state.field + 1; sets = state.sets }) else None)
    else (if char == characters.close_bracket then (if state.field == last && in_form (form_of state.field) state.word
    && nat_lt state.sets 5 then Some (record { word = []; bare = true; field = 0; sets = state.sets + 1 }) else None)
    else (if prefix_ok (form_of state.field) (state.word ++ char ∷ []) then Some
    (record { word = state.word ++ char ∷ []; bare = state.bare; field = state.field; sets = state.sets }) else None))

abbrev pub run : State → List ℕ → Option State
run state [] = Some state
run state (char ∷ chars) = option_and_then (λ next. run next chars) (step state char)

unfoldable pub accepts : State → Bool
accepts state = state.field == last && in_form (form_of state.field) state.word

abbrev pub need_of : State → ℕ
need_of state = need (form_of state.field) state.word + (last - state.field)
    + (if nameless_at state.bare state.field state.word then 1 else 0)

-- what a step that was tried leaves
abbrev pub Steps : Bool → Option State → State → State → Type 0
Steps true tried old new = tried ≡ Some new
Steps false tried old new = (tried ≡ None) × (new ≡ old)

-- the scan's answer
abbrev pub Scans : List ℕ → Result ⊤ PackFault → Type 0
Scans text (Ok unit) = (team : List Set) × IsTeam text team
Scans text (Err fault) = Refuses text fault

-- what the sets of a text stand for
abbrev pub team_of : List ℕ → List Set
team_of text = map set_of (team_texts_of text)
