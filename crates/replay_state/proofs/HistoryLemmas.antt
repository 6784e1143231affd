-- What one more entry makes of a world.
use Rattle.std.proofs.Common.{◌≡◌, ℕ, ◌-◌, Bool, true, false, cond, List, [], ◌∷◌, ◌++◌, map, Option, Some, None, refl, sym, ap, ◌∙◌}
use Rattle.std.specs.Prelude.{slice_get, slice_set, nat_lt}
use Rattle.std.specs.Option.{option_map_or, option_map}
use Rattle.std.proofs.lemmas.List.{map-set, map-append}
use Rattle.std.proofs.lemmas.Option.{slice_get-map}
use Rattle.rules_start.specs.declared.start.Start.{Start}
use Rattle.ps_hall.specs.declared.entry.HallEntry.{HallEntry}
use Rattle.ps_hall.specs.Records.{Record as HallRecord}
use Rattle.ps_hall.specs.Halls as halls
use Rattle.ps_room.specs.declared.entry.Entry.{Entry}
use Rattle.ps_room.specs.Records.{opened}
use Rattle.ps_room.specs.Rooms.{after}
use Rattle.ps_room.specs.Logs.{seen_opened}
use Rattle.ps_room.proofs.PullLemmas.{run_more, seen_run-append}
use Rattle.ps_room.specs.Stories.{Story, seen_of}
use Rattle.replay_state.specs.declared.place.Placed.{Placed}
use Rattle.replay_state.specs.declared.place.Placed.TheVariants.{Hall, Room}
use Rattle.ps_room.specs.Openings.{first_battle}
use Rattle.replay_state.specs.Setup.{opened_hall}
use Rattle.replay_state.specs.Worlds.{World, hall_in, record_of, more, stories_after, with_battle, started_by, with_hall, world_after, opening_in, no_story}
use Rattle.replay_state.specs.Kepts.{Kept, kept, kept_after}
use Rattle.replay_state.proofs.KeptLemmas.{kept_more}
use Rattle.replay_state.specs.Houses.{House, kept_in, house_of, seen_rooms_after, begin, house_hall, house_after}

hall_run-append : (h : HallRecord) (es fs : List HallEntry) → halls.run_record h (es ++ fs) ≡ halls.run_record (halls.run_record h es) fs
hall_run-append h [] fs = refl
hall_run-append h (e ∷ es) fs = hall_run-append (halls.after h e) es fs

pub hall_more : (w : World) (e : HallEntry) → hall_in (with_hall w e) ≡ halls.after (hall_in w) e
hall_more w e = hall_run-append (opened_hall w.setup) w.hall (e ∷ [])

pub story_more : (s : Story) (e : Entry) → record_of (more s e) ≡ after (record_of s) e
story_more s e = run_more (opened s.opening) s.history (e ∷ [])

seen_more : (s : Story) (e : Entry) → kept_in (more s e) ≡ kept_after (kept_in s) e
seen_more s e = ap kept (seen_run-append (seen_opened s.opening) s.history (e ∷ [])) ∙ kept_more (seen_of s) e

found_more : (ss : List Story) (place : ℕ) (e : Entry) (o : Option Story) → map kept_in (option_map_or (λ s. slice_set ss place (more s e)) o ss) ≡ option_map_or (λ s. slice_set (map kept_in ss) place (kept_after s e)) (option_map kept_in o) (map kept_in ss)
found_more ss place e None = refl
found_more ss place e (Some s) = map-set kept_in ss place (more s e) ∙ ap (slice_set (map kept_in ss) place) (seen_more s e)

rooms_more : (ss : List Story) (place : ℕ) (e : Entry) → map kept_in (stories_after ss place e) ≡ seen_rooms_after (map kept_in ss) place e
rooms_more ss place e = found_more ss place e (slice_get ss place) ∙ ap (λ (o : Option Kept). option_map_or (λ s. slice_set (map kept_in ss) place (kept_after s e)) o (map kept_in ss)) (sym (slice_get-map kept_in ss place))

started_more : (w : World) (h : HallRecord) (o : Option Start) (k : House) → house_of w ≡ k → house_of (with_battle h o w) ≡ begin h o k
started_more w h None k e = e
started_more w h (Some start) k e = rw (← e) (ap (λ (rooms : List Kept). record (house_of w) { battles = rooms; numbers = (with_battle h (Some start) w).numbers }) (map-append kept_in w.battles (no_story (opening_in h start) ∷ [])))

hall_house : (w : World) (e : HallEntry) → house_of (with_hall w e) ≡ house_hall (house_of w) e
hall_house w e = ap (λ (h : HallRecord). record (house_of w) { hall = h }) (hall_more w e)

room_house_by : (w : World) (number : ℕ) (e : Entry) (b : Bool) → house_of (cond b (record w { chats = stories_after w.chats number e }) (record w { battles = stories_after w.battles (number - first_battle) e })) ≡ cond b (record (house_of w) { chats = seen_rooms_after (house_of w).chats number e }) (record (house_of w) { battles = seen_rooms_after (house_of w).battles (number - first_battle) e })
room_house_by w number e true = ap (λ (rooms : List Kept). record (house_of w) { chats = rooms }) (rooms_more w.chats number e)
room_house_by w number e false = ap (λ (rooms : List Kept). record (house_of w) { battles = rooms }) (rooms_more w.battles (number - first_battle) e)

pub house_more : (w : World) (p : Placed) → house_of (world_after w p) ≡ house_after (house_of w) p
house_more w (Hall e) = started_more (with_hall w e) (hall_in w) (started_by (hall_in w) e) (house_hall (house_of w) e) (hall_house w e)
house_more w (Room number e) = room_house_by w number e (nat_lt number first_battle)
