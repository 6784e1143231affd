-- What one more entry adds to the views of a world.
use Rattle.std.proofs.Common.{◌≡◌, ◌≢◌, ℕ, zero, suc, ◌-◌, Bool, true, false, cond, List, [], ◌∷◌, ◌++◌, map, Option, Some, None, refl, sym, ap, ◌∙◌, subst, inl, inr, arith, append_assoc}
use Rattle.std.specs.Prelude.{slice_get, slice_set, nat_lt}
use Rattle.std.specs.Option.{option_map, option_map_or}
use Rattle.std.proofs.lemmas.Bool.Decides.{nat_tests, eqb_tells}
use Rattle.std.proofs.lemmas.List.{append-nil}
use Rattle.std.proofs.lemmas.Option.{none-some}
use Rattle.rules_start.specs.declared.start.Start.{Start}
use Rattle.ps_hall.specs.declared.entry.HallEntry.{HallEntry}
use Rattle.ps_hall.specs.Records.{Record as HallRecord}
use Rattle.ps_hall.specs.Halls as halls
use Rattle.ps_room.specs.declared.entry.Entry.{Entry}
use Rattle.ps_room.specs.Openings.{Opening}
use Rattle.ps_room.specs.Records.{Record, opened}
use Rattle.ps_room.specs.Rooms.{run_record, after, message, view}
use Rattle.ps_room.specs.Stories.{Story, view_of}
use Rattle.replay_state.specs.declared.place.Placed.{Placed}
use Rattle.replay_state.specs.declared.place.Placed.TheVariants.{Hall, Room}
use Rattle.ps_room.specs.Openings.{first_battle}
use Rattle.replay_state.specs.Setup.{Setup, opened_hall, chat_openings}
use Rattle.replay_state.specs.Worlds.{Place, in_hall, in_room, place_of, World, world_opening, no_story, hall_in, record_of, more, stories_after, with_battle, started_by, with_hall, world_after, room_message, world_message, world_view}
use Rattle.replay_state.specs.Transcript.{same_place}
use Rattle.ps_base.specs.Messages.{sent}

-- what a connection is sent from a place at an entry
abbrev pub at_entry : ℕ → Place → World → Placed → List (List (List ℕ))
at_entry conn place w p = cond (same_place place (place_of p)) (sent (world_message conn w p)) []

-- ---- one entry more

hall_view-append : (conn : ℕ) (h : HallRecord) (es : List HallEntry) (e : HallEntry) → halls.view conn h (es ++ e ∷ []) ≡ halls.view conn h es ++ sent (halls.message conn (halls.run_record h es) e)
hall_view-append conn h [] e = append-nil (sent (halls.message conn h e))
hall_view-append conn h (x ∷ es) e =
    ap (λ (ms : List (List (List ℕ))). sent (halls.message conn h x) ++ ms) (hall_view-append conn (halls.after h x) es e)
    ∙ sym (append_assoc (sent (halls.message conn h x)) (halls.view conn (halls.after h x) es) _)

room_view-append : (conn : ℕ) (r : Record) (es : List Entry) (e : Entry) → view conn r (es ++ e ∷ []) ≡ view conn r es ++ sent (message conn (run_record r es) e)
room_view-append conn r [] e = append-nil (sent (message conn r e))
room_view-append conn r (x ∷ es) e =
    ap (λ (ms : List (List (List ℕ))). sent (message conn r x) ++ ms) (room_view-append conn (after r x) es e)
    ∙ sym (append_assoc (sent (message conn r x)) (view conn (after r x) es) _)

-- ---- the rooms of a list

-- what a connection is sent from the room at a place
abbrev view_at : ℕ → ℕ → List Story → List (List (List ℕ))
view_at conn place ss = option_map_or (view_of conn) (slice_get ss place) []

pub get_set_same : (ss : List Story) (place : ℕ) (old new : Story) → slice_get ss place ≡ Some old → slice_get (slice_set ss place new) place ≡ Some new
get_set_same [] place old new e = absurd (none-some old e)
get_set_same (s ∷ ss) zero old new e = refl
get_set_same (s ∷ ss) (suc place) old new e = get_set_same ss place old new e

get_set_other : (ss : List Story) (place other : ℕ) (new : Story) → place ≢ other → slice_get (slice_set ss other new) place ≡ slice_get ss place
get_set_other [] place other new apart = refl
get_set_other (s ∷ ss) zero zero new apart = absurd (apart refl)
get_set_other (s ∷ ss) zero (suc other) new apart = refl
get_set_other (s ∷ ss) (suc place) zero new apart = refl
get_set_other (s ∷ ss) (suc place) (suc other) new apart = get_set_other ss place other new (λ e. apart (ap (λ (k : ℕ). suc k) e))

view_found : (conn : ℕ) (ss : List Story) (place : ℕ) (e : Entry) (o : Option Story) → slice_get ss place ≡ o → view_at conn place (option_map_or (λ s. slice_set ss place (more s e)) o ss) ≡ option_map_or (view_of conn) o [] ++ sent (room_message conn e (option_map record_of o))
view_found conn ss place e None is = ap (λ (o : Option Story). option_map_or (view_of conn) o []) is
view_found conn ss place e (Some s) is =
    ap (λ (o : Option Story). option_map_or (view_of conn) o []) (get_set_same ss place s (more s e) is)
    ∙ room_view-append conn (opened s.opening) s.history e

-- the room of the entry
view_here : (conn : ℕ) (ss : List Story) (place : ℕ) (e : Entry) → view_at conn place (stories_after ss place e) ≡ view_at conn place ss ++ sent (room_message conn e (option_map record_of (slice_get ss place)))
view_here conn ss place e = view_found conn ss place e (slice_get ss place) refl

pub get_found : (ss : List Story) (place other : ℕ) (e : Entry) (o : Option Story) → place ≢ other → slice_get (option_map_or (λ s. slice_set ss other (more s e)) o ss) place ≡ slice_get ss place
get_found ss place other e None apart = refl
get_found ss place other e (Some s) apart = get_set_other ss place other (more s e) apart

-- another room
view_elsewhere : (conn : ℕ) (ss : List Story) (place other : ℕ) (e : Entry) → place ≢ other → view_at conn place (stories_after ss other e) ≡ view_at conn place ss
view_elsewhere conn ss place other e apart = ap (λ (o : Option Story). option_map_or (view_of conn) o []) (get_found ss place other e (slice_get ss other) apart)

-- a room that is just there has told nothing
view_begun : (conn : ℕ) (ss : List Story) (place : ℕ) (o : Opening) → view_at conn place (ss ++ no_story o ∷ []) ≡ view_at conn place ss
view_begun conn [] zero o = refl
view_begun conn [] (suc place) o = refl
view_begun conn (s ∷ ss) zero o = refl
view_begun conn (s ∷ ss) (suc place) o = view_begun conn ss place o

view_opened : (conn : ℕ) (os : List Opening) (place : ℕ) → view_at conn place (map no_story os) ≡ []
view_opened conn [] place = refl
view_opened conn (o ∷ os) zero = refl
view_opened conn (o ∷ os) (suc place) = view_opened conn os place

-- ---- the rooms of a world

-- the view of the room with a number, by whether it is one of chat rooms
abbrev view_if : ℕ → ℕ → Bool → World → List (List (List ℕ))
view_if conn number chat w = option_map_or (view_of conn) (cond chat (slice_get w.chats number) (slice_get w.battles (number - first_battle))) []

-- the world after an entry of a room, by whether it is one of chat rooms
abbrev pub after_if : World → ℕ → Entry → Bool → World
after_if w number e chat = cond chat (record w { chats = stories_after w.chats number e }) (record w { battles = stories_after w.battles (number - first_battle) e })

same_room : (conn : ℕ) (w : World) (number : ℕ) (e : Entry) (chat : Bool) → view_if conn number chat (after_if w number e chat) ≡ view_if conn number chat w ++ sent (room_message conn e (option_map record_of (cond chat (slice_get w.chats number) (slice_get w.battles (number - first_battle)))))
same_room conn w number e true = view_here conn w.chats number e
same_room conn w number e false = view_here conn w.battles (number - first_battle) e

pub apart_battles : (number other : ℕ) → nat_lt number first_battle ≡ false → nat_lt other first_battle ≡ false → number ≢ other → (number - first_battle) ≢ (other - first_battle)
apart_battles number other one two apart e = apart (grind (arith, nat_tests))

other_room : (conn : ℕ) (w : World) (number other : ℕ) (e : Entry) (one two : Bool) → nat_lt number first_battle ≡ one → nat_lt other first_battle ≡ two → number ≢ other → view_if conn number one (after_if w other e two) ≡ view_if conn number one w
other_room conn w number other e true true is too apart = view_elsewhere conn w.chats number other e apart
other_room conn w number other e true false is too apart = refl
other_room conn w number other e false true is too apart = refl
other_room conn w number other e false false is too apart = view_elsewhere conn w.battles (number - first_battle) (other - first_battle) e (apart_battles number other is too apart)

begun_room : (conn : ℕ) (number : ℕ) (h : HallRecord) (o : Option Start) (w : World) (chat : Bool) → view_if conn number chat (with_battle h o w) ≡ view_if conn number chat w
begun_room conn number h None w chat = refl
begun_room conn number h (Some start) w true = refl
begun_room conn number h (Some start) w false = view_begun conn w.battles (number - first_battle) _

begun_hall : (conn : ℕ) (h : HallRecord) (o : Option Start) (w : World) → world_view conn in_hall (with_battle h o w) ≡ world_view conn in_hall w
begun_hall conn h None w = refl
begun_hall conn h (Some start) w = refl

room_hall : (conn : ℕ) (w : World) (number : ℕ) (e : Entry) (chat : Bool) → world_view conn in_hall (after_if w number e chat) ≡ world_view conn in_hall w
room_hall conn w number e true = refl
room_hall conn w number e false = refl

-- ---- the views of a world

rooms_more : (conn : ℕ) (w : World) (number other : ℕ) (e : Entry) → world_view conn (in_room number) (world_after w (Room other e)) ≡ world_view conn (in_room number) w ++ at_entry conn (in_room number) w (Room other e)
rooms_more conn w number other e =
    elim (eqb_tells number other) [
      | inl t ↦ rw t.0 (subst (λ (k : ℕ). world_view conn (in_room number) (world_after w (Room k e)) ≡ world_view conn (in_room number) w ++ sent (world_message conn w (Room k e))) t.1 (same_room conn w number e (nat_lt number first_battle)))
      | inr t ↦ rw t.0 (other_room conn w number other e (nat_lt number first_battle) (nat_lt other first_battle) refl refl t.1 ∙ sym (append-nil (world_view conn (in_room number) w)))
    ]

pub view_more : (conn : ℕ) (place : Place) (w : World) (p : Placed) → world_view conn place (world_after w p) ≡ world_view conn place w ++ at_entry conn place w p
view_more conn in_hall w (Hall e) = begun_hall conn (hall_in w) (started_by (hall_in w) e) (with_hall w e) ∙ hall_view-append conn (opened_hall w.setup) w.hall e
view_more conn in_hall w (Room number e) = room_hall conn w number e (nat_lt number first_battle) ∙ sym (append-nil (world_view conn in_hall w))
view_more conn (in_room number) w (Hall e) = begun_room conn number (hall_in w) (started_by (hall_in w) e) (with_hall w e) (nat_lt number first_battle) ∙ sym (append-nil (world_view conn (in_room number) w))
view_more conn (in_room number) w (Room other e) = rooms_more conn w number other e

opening_if : (conn number : ℕ) (s : Setup) (chat : Bool) → view_if conn number chat (world_opening s) ≡ []
opening_if conn number s true = view_opened conn (chat_openings s) number
opening_if conn number s false = refl

pub view_opening : (conn : ℕ) (place : Place) (s : Setup) → world_view conn place (world_opening s) ≡ []
view_opening conn in_hall s = refl
view_opening conn (in_room number) s = opening_if conn number s (nat_lt number first_battle)
