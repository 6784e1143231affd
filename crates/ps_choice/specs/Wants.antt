-- What a player asks for, and the texts that say it.
use Rattle.std.specs.Prelude.{◌≡◌, ◌≢◌, ℕ, ◌+◌, ◌-◌, ◌≤◌, true, ◌&&◌, nat_le, nat_lt, List, [], ◌∷◌, ◌++◌, codes, length, Bool}
use Rattle.std.specs.Prelude.{Option, Some, None, if◌then◌else◌}
use Rattle.std.specs.List.{list_all}
use Rattle.std.specs.Str.{bytes_eq}
use Rattle.ps_base.specs.Cuts.{after_front}
use Rattle.ps_choice.specs.declared.wanted.Wanted.{Wanted}
use Rattle.ps_choice.specs.declared.wanted.Wanted.TheVariants as wanted
use Rattle.ps_base.specs.Characters as characters

-- what a player asks for: the move in a slot, the move of a name, the member at a position, the members whose positions are these
-- digits to stand first, or what comes first
pub data Want : Type 0 where
  Slot : ℕ → Want
  Named : List ℕ → Want
  Position : ℕ → Want
  Team : List ℕ → Want
  Default : Want

-- ---- the texts

-- the digit that a text is
abbrev pub digit_in : List ℕ → Option ℕ
digit_in [] = None
digit_in (byte ∷ []) = if nat_le characters.digit_zero byte
    && nat_le byte characters.digit_nine then Some (byte - characters.digit_zero) else None
digit_in (byte ∷ next ∷ bytes) = None

abbrev pub are_few : ℕ → Bool
are_few count = nat_lt 0 count && nat_le count 6

abbrev pub is_digit : ℕ → Bool
is_digit byte = nat_le characters.digit_zero byte && nat_le byte characters.digit_nine

-- one to six digits
abbrev pub are_digits : List ℕ → Bool
are_digits bytes = are_few (length bytes) && list_all is_digit bytes

-- `move N`, `move NAME`, `switch N`, `team D..D`, `default`. N is one digit, D..D are one to six, and NAME is neither empty nor one digit
abbrev pub IsForm : Want → List ℕ → Type 0
IsForm (Slot digit) text = (digit ≤ 9) × (text ≡ codes "move " ++ (characters.digit_zero + digit) ∷ [])
IsForm (Named name) text = (text ≡ codes "move " ++ name) × (name ≢ []) × (digit_in name ≡ None)
IsForm (Position digit) text = (digit ≤ 9) × (text ≡ codes "switch " ++ (characters.digit_zero + digit) ∷ [])
IsForm (Team digits) text = (text ≡ codes "team " ++ digits) × (are_digits digits ≡ true)
IsForm Default text = text ≡ codes "default"

-- ---- the same by reading

abbrev pub slot_or_name : Option ℕ → List ℕ → Want
slot_or_name (Some digit) name = Slot digit
slot_or_name None name = Named name

-- what stands behind `move `
abbrev pub move_want : List ℕ → Option Want
move_want [] = None
move_want (byte ∷ bytes) = Some (slot_or_name (digit_in (byte ∷ bytes)) (byte ∷ bytes))

abbrev pub position_want : Option ℕ → Option Want
position_want (Some digit) = Some (Position digit)
position_want None = None

-- what stands behind `switch `
abbrev pub switch_want : List ℕ → Option Want
switch_want text = position_want (digit_in text)

-- what stands behind `team `
abbrev pub team_want : List ℕ → Option Want
team_want digits = if are_digits digits then Some (Team digits) else None

abbrev pub behind_team : Option (List ℕ) → Option Want
behind_team (Some rest) = team_want rest
behind_team None = None

abbrev pub behind_switch : Option (List ℕ) → List ℕ → Option Want
behind_switch (Some rest) text = switch_want rest
behind_switch None text = behind_team (after_front (codes "team ") text)

abbrev pub behind_move : Option (List ℕ) → List ℕ → Option Want
behind_move (Some rest) text = move_want rest
behind_move None text = behind_switch (after_front (codes "switch ") text) text

-- what a text asks for
unfoldable pub want_in : List ℕ → Option Want
want_in text = if bytes_eq text (codes "default") then Some Default else behind_move (after_front (codes "move ") text) text

-- ---- for the code: what was read, as contracts see it

abbrev pub want_of : Wanted → Want
want_of (wanted.Move number) = Slot number
want_of (wanted.Named name) = Named name.now
want_of (wanted.Switch position) = Position position
want_of (wanted.Team digits) = Team digits.now
want_of wanted.Default = Default
