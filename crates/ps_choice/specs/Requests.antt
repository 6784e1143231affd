-- The JSON of a request. It looks at the phase, the dex and the own side alone, with that side's names. The members of each
-- object stand in the order of their keys, as they are written.
use Rattle.std.specs.Prelude.{ℕ, zero, suc, ◌==◌, Bool, true, false, ◌&&◌, List, [], ◌∷◌, ◌++◌, map, take, codes, Option, Some, None}
use Rattle.std.specs.Prelude.{slice_index, if◌then◌else◌}
use Rattle.serde_json.specs.Data.{Data, Members, boolean, number, unsigned, string, array, object, no_items, item, no_members, member}
use Rattle.serde_json.specs.View.{items_of}
use Rattle.json.specs.Print.{quoted}
use Rattle.serde_json.specs.Written.{compact_text, members_text}
use Rattle.ps_mon.specs.declared.record.Lock.{Lock}
use Rattle.ps_mon.specs.declared.record.Phase.{Phase}
use Rattle.ps_mon.specs.declared.record.Phase.TheVariants as phases
use Rattle.ps_mon.specs.declared.record.SideState.{SideState}
use Rattle.ps_mon.specs.declared.team.Member.{Member}
use Rattle.ps_mon.specs.declared.team.MoveSlot.{MoveSlot}
use Rattle.ps_mon.specs.Reading.{active_index, member_of}
use Rattle.ps_mon.specs.Slots.{slot_count_now, slot_now, is_disabled, has_usable}
use Rattle.ps_mon.specs.Valid.{replaces}
use Rattle.ps_dex.specs.declared.item.MoveItem.{MoveItem}
use Rattle.ps_dex.specs.declared.item.Tables.{Tables}
use Rattle.ps_dex.specs.Lookups.{name_of_move}
use Rattle.ps_choice.specs.Shown.{id_of_move, details, condition, side_id, nick_of, ident}

abbrev pub text : List ℕ → Data
text bytes = string bytes

abbrev pub count : ℕ → Data
count amount = number (unsigned amount)

-- ---- the moves that can be chosen

-- a slot in force, from 0
unfoldable pub slot_data : List MoveItem → SideState → ℕ → Data
slot_data moves side slot = object
    (member (codes "disabled") (boolean (is_disabled side.vol.disabled slot))
    (member (codes "id") (text (id_of_move (slot_now side slot).mv moves))
    (member (codes "maxpp") (count (slot_now side slot).max_pp)
    (member (codes "move") (text (name_of_move (slot_now side slot).mv moves))
    (member (codes "pp") (count (slot_now side slot).pp)
    no_members)))))

-- so many slots, from this one on
abbrev pub slots_from : List MoveItem → SideState → ℕ → ℕ → List Data
slots_from moves side slot zero = []
slots_from moves side slot (suc left) = slot_data moves side slot ∷ slots_from moves side (suc slot) left

abbrev pub slots_data : List MoveItem → SideState → List Data
slots_data moves side = slots_from moves side 0 (slot_count_now side)

-- the one that there is
abbrev pub only_move : List ℕ → List ℕ → List Data
only_move id name = object (member (codes "id") (text id) (member (codes "move") (text name) no_members)) ∷ []

abbrev pub unheld_moves : List MoveItem → SideState → List Data
unheld_moves moves side = if has_usable side then slots_data moves side else only_move (codes "struggle") (codes "Struggle")

-- under a lock its move
abbrev pub moves_by : Option Lock → List MoveItem → SideState → List Data
moves_by (Some lock) moves side = only_move (id_of_move lock.mv moves) (name_of_move lock.mv moves)
moves_by None moves side = unheld_moves moves side

unfoldable pub moves_data : List MoveItem → SideState → List Data
moves_data moves side = if side.vol.recharge then only_move (codes "recharge") (codes "Recharge") else moves_by side.vol.lock moves side

-- ---- the members

-- attack, defense, the one Special twice, speed
unfoldable pub stats_data : List ℕ → Data
stats_data stats = object
    (member (codes "atk") (count (slice_index stats 0))
    (member (codes "def") (count (slice_index stats 1))
    (member (codes "spa") (count (slice_index stats 2))
    (member (codes "spd") (count (slice_index stats 2))
    (member (codes "spe") (count (slice_index stats 3))
    no_members)))))

abbrev pub move_id_data : List MoveItem → MoveSlot → Data
move_id_data moves slot = text (id_of_move slot.mv moves)

-- the ids of its own moves
abbrev pub own_moves : List MoveItem → Member → List Data
own_moves moves pokemon = map (move_id_data moves) (take pokemon.slot_count pokemon.slots)

-- a member under its nickname
unfoldable pub member_data : Tables → ℕ → Bool → List ℕ → Member → Data
member_data dex side_number active nick pokemon = object
    (member (codes "active") (boolean active)
    (member (codes "condition") (text (condition pokemon))
    (member (codes "details") (text (details dex.species pokemon))
    (member (codes "ident") (text (ident side_number nick))
    (member (codes "moves") (array (items_of (own_moves dex.moves pokemon)))
    (member (codes "stats") (stats_data pokemon.stats)
    no_members))))))

-- the member at an index of the team; once members are sent out the first in the order is active
unfoldable pub member_at_data : Tables → List (List ℕ) → ℕ → Bool → SideState → ℕ → Data
member_at_data dex nicks side_number out side index = member_data dex side_number (out && index == active_index side)
    (nick_of nicks index) (member_of side index)

-- all members, in their order now
abbrev pub members_data : Tables → List (List ℕ) → ℕ → Bool → SideState → List Data
members_data dex nicks side_number out side = map (member_at_data dex nicks side_number out side) (take side.count side.order)

unfoldable pub side_data : Tables → List ℕ → List (List ℕ) → ℕ → Bool → SideState → Data
side_data dex name nicks side_number out side = object
    (member (codes "id") (text (side_id side_number))
    (member (codes "name") (text name)
    (member (codes "pokemon") (array (items_of (members_data dex nicks side_number out side)))
    no_members)))

-- ---- all of it

-- a choice of a turn
abbrev pub turn_data : List Data → ℕ → Data → Data
turn_data moves round side = object
    (member (codes "active") (array (item (object (member (codes "moves") (array (items_of moves)) no_members)) no_items))
    (member (codes "rqid") (count round)
    (member (codes "side") side
    no_members)))

-- a new member
abbrev pub switch_data : ℕ → Data → Data
switch_data round side = object
    (member (codes "forceSwitch") (array (item (boolean true) no_items))
    (member (codes "rqid") (count round)
    (member (codes "side") side
    no_members)))

-- nothing
abbrev pub wait_data : ℕ → Data → Data
wait_data round side = object
    (member (codes "rqid") (count round)
    (member (codes "side") side
    (member (codes "wait") (boolean true)
    no_members)))

-- an order of the team
abbrev pub preview_data : ℕ → Data → Data
preview_data round side = object
    (member (codes "rqid") (count round)
    (member (codes "side") side
    (member (codes "teamPreview") (boolean true)
    no_members)))

abbrev pub switch_or_wait : Bool → ℕ → Data → Data
switch_or_wait replaced round side = if replaced then switch_data round side else wait_data round side

abbrev pub asked_data : Phase → ℕ → List Data → ℕ → Data → Data
asked_data phases.Preview side_number moves round side = preview_data round side
asked_data phases.Turn side_number moves round side = turn_data moves round side
asked_data phase side_number moves round side = switch_or_wait (replaces phase side_number) round side

-- whether members are sent out
abbrev pub is_out : Phase → Bool
is_out phases.Preview = false
is_out other = true

-- the request of a side, with the number of the round that is open
unfoldable pub request_data : Phase → Tables → List ℕ → List (List ℕ) → ℕ → SideState → ℕ → Data
request_data phase dex name nicks side_number side round =
    asked_data phase side_number (moves_data dex.moves side) round (side_data dex name nicks side_number (is_out phase) side)

-- as it is written, without spaces
abbrev pub request : Phase → Tables → List ℕ → List (List ℕ) → ℕ → SideState → ℕ → List ℕ
request phase dex name nicks side_number side round = compact_text (request_data phase dex name nicks side_number side round)

-- ---- for private clauses: parts of the text

-- a member behind another
abbrev pub later_member : List ℕ → Data → List ℕ
later_member key value = codes "," ++ (quoted key ++ (codes ":" ++ compact_text value))

-- what is shown of a slot behind whether it is disabled, and the brace that closes the slot
abbrev pub shown_move : List ℕ → ℕ → List ℕ → ℕ → List ℕ
shown_move id most name pp = members_text true
    (member (codes "id") (text id)
    (member (codes "maxpp") (count most)
    (member (codes "move") (text name)
    (member (codes "pp") (count pp)
    no_members))))

-- a slot in force, of which it is told whether it is disabled
abbrev pub shown_slot : List MoveItem → Bool → MoveSlot → Data
shown_slot moves disabled own = object
    (member (codes "disabled") (boolean disabled)
    (member (codes "id") (text (id_of_move own.mv moves))
    (member (codes "maxpp") (count own.max_pp)
    (member (codes "move") (text (name_of_move own.mv moves))
    (member (codes "pp") (count own.pp)
    no_members)))))

-- the last members of a member
abbrev pub moves_and_stats : List MoveItem → Member → Members
moves_and_stats moves pokemon =
    member (codes "moves") (array (items_of (own_moves moves pokemon)))
    (member (codes "stats") (stats_data pokemon.stats)
    no_members)
