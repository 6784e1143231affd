-- What the events of a battle show of its members and of their moves.
use Rattle.std.specs.Prelude.{◌≡◌, ℕ, Bool, true, false, ◌&&◌, ◌||◌, ◌==◌, ◌-◌, not, List, [], ◌∷◌, All, option_to_list}
use Rattle.std.specs.List.{list_any}
use Rattle.ps_event.specs.declared.event.Event.{Event}
use Rattle.ps_event.specs.declared.event.Event.TheVariants as events
use Rattle.ps_event.specs.declared.event.Who.{Who}
use Rattle.ps_event.specs.Numbers as numbers
use Rattle.ps_event.specs.Sides.{side_number}
use Rattle.battle_secrecy.specs.Places.{Hidden}

-- ---- the members that an event names

abbrev pub whos : Event → List Who
whos (events.Switch who species level health) = who ∷ []
whos (events.Move who mv target still from) = who ∷ target ∷ []
whos (events.Cant who reason) = who ∷ []
whos (events.Damage who health from) = who ∷ []
whos (events.Heal who health) = who ∷ []
whos (events.Status who status) = who ∷ []
whos (events.CureStatus who status) = who ∷ []
whos (events.Boost who stat by) = who ∷ []
whos (events.Unboost who stat by) = who ∷ []
whos (events.Crit who) = who ∷ []
whos (events.Super who) = who ∷ []
whos (events.Resisted who) = who ∷ []
whos (events.Immune who) = who ∷ []
whos (events.Miss who) = who ∷ []
whos (events.Fail who) = who ∷ []
whos (events.VolStart who effect mv) = who ∷ []
whos (events.VolEnd who effect) = who ∷ []
whos (events.Activate who effect mv) = who ∷ []
whos (events.MustRecharge who) = who ∷ []
whos (events.Prepare who mv) = who ∷ []
whos (events.Transform who target) = who ∷ target ∷ []
whos (events.HitCount who hits) = who ∷ []
whos (events.Faint who) = who ∷ []
whos other = []

-- no event names a hidden member
abbrev pub NamesNoHidden : Hidden → List Event → Type 0
NamesNoHidden hidden told = All (λ event. All (λ who. hidden.member (side_number who.side) who.member ≡ false) (whos event)) told

-- ---- the moves that an event shows

-- a member of a side
abbrev pub is_who : ℕ → ℕ → Who → Bool
is_who side member who = side_number who.side == side && who.member == member

-- one of the moves is that one
abbrev pub has_move : ℕ → List ℕ → Bool
has_move mv moves = list_any (λ move. move == mv) moves

-- an event of the member names the move: that it uses it, prepares it, called or went on with it, or that something of it begins or
-- does something
abbrev pub names : ℕ → ℕ → ℕ → Event → Bool
names side member mv (events.Move who used target still from) = is_who side member who && has_move mv (used ∷ option_to_list from)
names side member mv (events.VolStart who effect of) = is_who side member who && has_move mv (option_to_list of)
names side member mv (events.Activate who effect of) = is_who side member who && has_move mv (option_to_list of)
names side member mv (events.Prepare who prepared) = is_who side member who && has_move mv (prepared ∷ [])
names side member mv other = false

-- Mimic of the other side's member copied the move
abbrev pub is_mimicked : ℕ → ℕ → Event → Bool
is_mimicked side mv (events.VolStart who effect of) = side_number who.side == 1 - side && effect == numbers.effect_mimic
    && has_move mv (option_to_list of)
is_mimicked side mv other = false

-- Transform copied the moves of the member
abbrev pub is_form_taken : ℕ → ℕ → Event → Bool
is_form_taken side member (events.Transform who target) = is_who side member target
is_form_taken side member other = false

-- the member takes another's form
abbrev pub takes_form : ℕ → ℕ → Event → Bool
takes_form side member (events.Transform who target) = is_who side member who
takes_form side member other = false

-- Whether an event shows the slot of a member of a side that has this move. `active` says whether the member is active, and `formed`
-- whether it has another's form: then Mimic and Transform copy of the slots that it took with that form, and none of its own.
abbrev pub shows : ℕ → ℕ → Bool → ℕ → Bool → Event → Bool
shows side member active mv formed event = names side member mv event
    || (not formed && ((active && is_mimicked side mv event) || is_form_taken side member event))

-- Whether one of these events shows it, in their order. `formed` says whether the member had another's form before them; a form that it
-- takes among them counts for all that are behind.
abbrev pub shows_one : ℕ → ℕ → Bool → ℕ → Bool → List Event → Bool
shows_one side member active mv formed [] = false
shows_one side member active mv formed (event ∷ rest) = shows side member active mv formed event
    || shows_one side member active mv (formed || takes_form side member event) rest

-- no event shows a hidden slot, where `front` are the places of the active members, and `formed` says which members had another's
-- form before
abbrev pub ShowsNoHidden : Hidden → (ℕ → ℕ) → (ℕ → ℕ → Bool) → List Event → Type 0
ShowsNoHidden hidden front formed told = (side member slot : ℕ) → hidden.slot side member slot ≡ true
    → shows_one side member (front side == member) (hidden.move side member slot) (formed side member) told ≡ false
