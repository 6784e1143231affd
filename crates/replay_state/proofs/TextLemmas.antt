-- What is printed of lines is what their messages print.
use Rattle.std.proofs.Common.{◌≡◌, ◌-◌, ℕ, zero, suc, Bool, true, false, cond, List, [], ◌∷◌, ◌++◌, map, length, Option, Some, None, refl, sym, ap, ◌∙◌, append_assoc}
use Rattle.std.specs.Prelude.{slice_get, nat_lt}
use Rattle.std.specs.Option.{option_map_or, option_map}
use Rattle.std.specs.List.{flat_map}
use Rattle.std.proofs.lemmas.List.{append-nil}
use Rattle.std.proofs.lemmas.List.Concat.{flat_map-append}
use Rattle.std.proofs.lemmas.Option.{slice_get-map}
use Rattle.ps_room.specs.declared.entry.Entry.{Entry}
use Rattle.ps_room.specs.Openings.{Opening}
use Rattle.replay_state.specs.Kepts.{Kept, kept_opened}
use Rattle.replay_state.proofs.KeptLemmas.{message_kept}
use Rattle.ps_room.proofs.PullLemmas as rooms
use Rattle.ps_room.specs.Stories.{Story, seen_of}
use Rattle.replay_script.specs.declared.item.Item.{Item}
use Rattle.replay_state.specs.declared.place.Placed.{Placed}
use Rattle.replay_state.specs.declared.place.Placed.TheVariants.{Hall, Room}
use Rattle.replay_state.specs.declared.place.Happening.{Happening}
use Rattle.replay_state.specs.declared.place.Happening.TheVariants as happening
use Rattle.ps_room.specs.Openings.{first_battle}
use Rattle.replay_state.specs.Setup.{Setup, chat_openings}
use Rattle.replay_state.specs.Worlds.{Place, World, place_of, hall_in, record_of, story_at, world_after, world_message, room_message, room_id, no_story}
use Rattle.replay_state.specs.Nows.{Standing, Now, standing_of, now_of, room_at, record_at}
use Rattle.replay_state.specs.Houses.{House, standing, now_in, seen_at, house_after, id_of, house_id, next_message, seen_message, house_message, house_opening, kept_in, house_of}
use Rattle.replay_state.specs.Entries.{Run, Line, state_of, run_opening, run_after, run_past, line_in, line_at, end_at, entries_in, worlds_after, moment_after}
use Rattle.replay_state.specs.Transcript.{Message, told, over, message_if, messages_to, signs_from, signs_in, print, print_sign, printed, with_id, output}
use Rattle.replay_state.specs.Tables.{Desk, state_in, desk_of, fresh, printed_for, entry_text, happenings_text, happenings_after, item_text, line_text, line_after, item_after, text_from, desk_after}
use Rattle.replay_state.proofs.HistoryLemmas.{house_more}
use Rattle.replay_state.proofs.LoggedLemmas.{blank_standing, blank_now, line_same, end_same}
use Rattle.ps_base.specs.Lists.{each_to}

-- ---- a room as it is, in its story

found_by : (number : ℕ) (w : World) (b : Bool) → cond b (slice_get (map standing_of w.chats) number) (slice_get (map standing_of w.battles) (number - first_battle)) ≡ option_map standing_of (cond b (slice_get w.chats number) (slice_get w.battles (number - first_battle)))
found_by number w true = slice_get-map standing_of w.chats number
found_by number w false = slice_get-map standing_of w.battles (number - first_battle)

pub room_is : (number : ℕ) (w : World) → room_at number (now_of w) ≡ option_map standing_of (story_at number w)
room_is number w = found_by number w (nat_lt number first_battle)

state_found : (o : Option Story) → option_map (λ (s : Standing). s.state) (option_map standing_of o) ≡ option_map record_of o
state_found None = refl
state_found (Some s) = refl

pub record_is : (number : ℕ) (w : World) → record_at number (now_of w) ≡ option_map record_of (story_at number w)
record_is number w = ap (option_map (λ (s : Standing). s.state)) (room_is number w) ∙ state_found (story_at number w)

-- ---- a room as the code keeps it, in its story

seen_by : (number : ℕ) (w : World) (b : Bool) → cond b (slice_get (map kept_in w.chats) number) (slice_get (map kept_in w.battles) (number - first_battle)) ≡ option_map kept_in (cond b (slice_get w.chats number) (slice_get w.battles (number - first_battle)))
seen_by number w true = slice_get-map kept_in w.chats number
seen_by number w false = slice_get-map kept_in w.battles (number - first_battle)

seen_is : (number : ℕ) (w : World) → seen_at number (house_of w) ≡ option_map kept_in (story_at number w)
seen_is number w = seen_by number w (nat_lt number first_battle)

id_in : (o : Option Story) → id_of (option_map kept_in o) ≡ option_map_or (λ (s : Story). s.opening.id) o []
id_in None = refl
id_in (Some s) = rooms.id_is s.opening s.history

id_is : (w : World) (p : Placed) → house_id (house_of w) p ≡ room_id w p
id_is w (Hall e) = refl
id_is w (Room number e) = ap (λ (o : Option Kept). Some (id_of o)) (seen_is number w) ∙ ap (λ (x : List ℕ). Some x) (id_in (story_at number w))

message_in : (conn : ℕ) (e : Entry) (o : Option Story) → seen_message conn e (option_map kept_in o) ≡ room_message conn e (option_map record_of o)
unfolding next_message
message_in conn e None = refl
message_in conn e (Some s) = message_kept conn (seen_of s) e ∙ rooms.next_is conn s.opening s.history e

message_is : (conn : ℕ) (w : World) (p : Placed) → house_message conn (house_of w) p ≡ world_message conn w p
message_is conn w (Hall e) = refl
message_is conn w (Room number e) = ap (seen_message conn e) (seen_is number w) ∙ message_in conn e (story_at number w)

-- ---- what is printed at an entry is its messages

print_if : (conn : ℕ) (place : Place) (id : Option (List ℕ)) (lines : List (List ℕ)) → flat_map print (message_if conn place id lines) ≡ printed conn (with_id id lines)
print_if conn place id [] = refl
print_if conn place id (line ∷ lines) = append-nil (printed conn (with_id id (line ∷ lines)))

printed_is : (w : World) (p : Placed) (conn : ℕ) → printed_for (house_of w) p conn ≡ flat_map print (message_if conn (place_of p) (room_id w p) (world_message conn w p))
printed_is w p conn = rw (id_is w p, message_is conn w p) (sym (print_if conn (place_of p) (room_id w p) (world_message conn w p)))

print_to : (n : ℕ) (w : World) (p : Placed) → each_to (printed_for (house_of w) p) n ≡ flat_map print (messages_to n w p)
print_to zero w p = refl
print_to (suc n) w p =
    ap (λ (x : List ℕ). x ++ printed_for (house_of w) p (suc n)) (print_to n w p)
    ∙ ap (λ (x : List ℕ). flat_map print (messages_to n w p) ++ x) (printed_is w p (suc n))
    ∙ sym (flat_map-append print (messages_to n w p) (message_if (suc n) (place_of p) (room_id w p) (world_message (suc n) w p)))

told_signs : (ms : List Message) → flat_map print_sign (map told ms) ≡ flat_map print ms
told_signs [] = refl
told_signs (m ∷ ms) = ap (λ (x : List ℕ). print m ++ x) (told_signs ms)

entry_text_is : (n : ℕ) (w : World) (p : Placed) → entry_text n (house_of w) p ≡ flat_map print_sign (map told (messages_to n w p))
entry_text_is n w p = print_to n w p ∙ sym (told_signs (messages_to n w p))

-- ---- what is printed of happenings

pub signs_text : (n : ℕ) (w : World) (xs : List Happening) → happenings_text n (house_of w) xs ≡ flat_map print_sign (signs_from n w xs)
signs_text n w [] = refl
signs_text n w (happening.Entry p ∷ xs) =
    ap (λ (x : List ℕ). x ++ happenings_text n (house_after (house_of w) p) xs) (entry_text_is n w p)
    ∙ ap (λ (x : List ℕ). flat_map print_sign (map told (messages_to n w p)) ++ x) (ap (λ (k : House). happenings_text n k xs) (sym (house_more w p)) ∙ signs_text n (world_after w p) xs)
    ∙ sym (flat_map-append print_sign (map told (messages_to n w p)) (signs_from n (world_after w p) xs))
signs_text n w (happening.Ended conn ∷ xs) = ap (λ (x : List ℕ). print_sign (over conn) ++ x) (signs_text n w xs)

pub house_past : (w : World) (xs : List Happening) → happenings_after (house_of w) xs ≡ house_of (worlds_after w (entries_in xs))
house_past w [] = refl
house_past w (happening.Entry p ∷ xs) = ap (λ (k : House). happenings_after k xs) (sym (house_more w p)) ∙ house_past (world_after w p) xs
house_past w (happening.Ended conn ∷ xs) = house_past w xs

-- ---- what a line brings about

standing_in : (s : Story) → standing (kept_in s) ≡ blank_standing (standing_of s)
standing_in s i = record { id = rooms.id_is s.opening s.history i; state = rooms.record_is s.opening s.history i }

standings_in : (ss : List Story) → map standing (map kept_in ss) ≡ map blank_standing (map standing_of ss)
standings_in [] = refl
standings_in (s ∷ ss) = ap (λ (x : Standing). x ∷ map standing (map kept_in ss)) (standing_in s) ∙ ap (λ (xs : List Standing). blank_standing (standing_of s) ∷ xs) (standings_in ss)

pub now_is : (w : World) → now_in (house_of w) ≡ blank_now (now_of w)
now_is w i = record { hall = hall_in w; chats = standings_in w.chats i; battles = standings_in w.battles i; numbers = w.numbers }

pub line_is : (r : Run) (i : Item) → line_at (state_in (desk_of r)) i ≡ line_in r i
line_is r i =
    ap (λ (n : Now). line_at (record { moment = r.moment; now = n; sessions = r.sessions }) i) (now_is r.world)
    ∙ line_same (state_of r) i

pub end_is : (r : Run) (i : Item) → end_at (state_in (desk_of r)) i ≡ end_at (state_of r) i
end_is r i =
    ap (λ (n : Now). end_at (record { moment = r.moment; now = n; sessions = r.sessions }) i) (now_is r.world)
    ∙ end_same (state_of r) i

-- ---- what is printed at lines

pub desk_past : (r : Run) (i : Item) → item_after (desk_of r) i ≡ desk_of (run_after r i)
desk_past r i =
    ap (line_after (desk_of r) i) (line_is r i)
    ∙ ap (λ (k : House). record { moment = moment_after r.moment i; house = k; sessions = (line_in r i).sessions }) (house_past r.world (line_in r i).happenings)

text_is : (r : Run) (is : List Item) → text_from (desk_of r) is ≡ flat_map print_sign (signs_in r is)
text_is r [] = refl
text_is r (i ∷ is) =
    ap (λ (l : Line). line_text (desk_of r) l ++ text_from (item_after (desk_of r) i) is) (line_is r i)
    ∙ ap (λ (x : List ℕ). x ++ text_from (item_after (desk_of r) i) is) (signs_text (length (line_in r i).sessions) r.world (line_in r i).happenings)
    ∙ ap (λ (x : List ℕ). flat_map print_sign (signs_from (length (line_in r i).sessions) r.world (line_in r i).happenings) ++ x) (ap (λ (d : Desk). text_from d is) (desk_past r i) ∙ text_is (run_after r i) is)
    ∙ sym (flat_map-append print_sign (signs_from (length (line_in r i).sessions) r.world (line_in r i).happenings) (signs_in (run_after r i) is))

-- what lines leave
pub desk_past_all : (r : Run) (is : List Item) → desk_after (desk_of r) is ≡ desk_of (run_past r is)
desk_past_all r [] = refl
desk_past_all r (i ∷ is) = ap (λ (d : Desk). desk_after d is) (desk_past r i) ∙ desk_past_all (run_after r i) is

-- lines behind others
pub text_behind : (d : Desk) (is js : List Item) → text_from d (is ++ js) ≡ text_from d is ++ text_from (desk_after d is) js
text_behind d [] js = refl
text_behind d (i ∷ is) js =
    ap (λ (x : List ℕ). item_text d i ++ x) (text_behind (item_after d i) is js)
    ∙ sym (append_assoc (item_text d i) (text_from (item_after d i) is) (text_from (desk_after (item_after d i) is) js))

opened_stories : (os : List Opening) → map kept_in (map no_story os) ≡ map kept_opened os
opened_stories [] = refl
opened_stories (o ∷ os) = ap (λ (x : List Kept). kept_opened o ∷ x) (opened_stories os)

pub fresh_is : (s : Setup) → fresh s ≡ desk_of (run_opening s)
fresh_is s = ap (λ (chats : List Kept). record (fresh s) { house = record (house_opening s) { chats = chats } }) (sym (opened_stories (chat_openings s)))

pub output_is : (s : Setup) (items : List Item) → text_from (fresh s) items ≡ output s items
output_is s items = ap (λ (x : Desk). text_from x items) (fresh_is s) ∙ text_is (run_opening s) items
