-- What an entry of a room prints and changes, where the room is looked up by its place.
use Rattle.std.proofs.Common.{◌≡◌, ℕ, zero, suc, ◌<◌, ◌≤◌, List, [], map, length, get_or, Option, Some, None, refl, sym, ap, ◌∙◌}
use Rattle.std.specs.Prelude.{slice_get, slice_set}
use Rattle.std.specs.Option.{option_map}
use Rattle.std.proofs.lemmas.Option.{slice_get-get_or, slice_get-map, slice_get_past}
use Rattle.ps_hall.specs.declared.notice.Notice.{Notice}
use Rattle.ps_hall.specs.declared.entry.HallEntry.{HallEntry}
use Rattle.ps_hall.specs.Records.{Record}
use Rattle.ps_hall.specs.Halls as halls
use Rattle.ps_room.specs.declared.entry.Entry.{Entry}
use Rattle.ps_room.specs.declared.outcome.RoomOut.{RoomOut}
use Rattle.ps_room.specs.Logs.{record_in, out_of}
use Rattle.replay_state.specs.Kepts.{Kept, kept_after}
use Rattle.replay_state.specs.Nows.{Standing}
use Rattle.replay_state.specs.Houses.{standing, id_of, seen_message, seen_rooms_after}
use Rattle.replay_state.specs.Entries.{out_at}
use Rattle.replay_state.specs.Transcript.{printed, with_id}
use Rattle.ps_base.specs.Lists.{each_to}

-- what an entry prints, where this room is found, or none
abbrev text_of : Entry → ℕ → Option Kept → List ℕ
text_of e count found = each_to (λ conn. printed conn (with_id (Some (id_of found)) (seen_message conn e found))) count

nothing : (e : Entry) (count : ℕ) → text_of e count None ≡ []
nothing e zero = refl
nothing e (suc count) = rw (nothing e count) refl

pub no_room_text : (rooms : List Kept) (place : ℕ) (e : Entry) (count : ℕ) → length rooms ≤ place → text_of e count (slice_get rooms place) ≡ []
no_room_text rooms place e count past = ap (text_of e count) (slice_get_past rooms place past) ∙ nothing e count

pub room_text : (rooms : List Kept) (place : ℕ) (d : Kept) (e : Entry) (count : ℕ) → place < length rooms → text_of e count (Some (get_or rooms place d)) ≡ text_of e count (slice_get rooms place)
room_text rooms place d e count within = sym (ap (text_of e count) (slice_get-get_or rooms place d within))

-- what comes of it
abbrev out_in : Entry → Option Standing → Option RoomOut
out_in e found = out_at (option_map (λ s. s.state) found) e

pub room_out : (rooms : List Kept) (place : ℕ) (d : Kept) (e : Entry) → place < length rooms → Some (out_of (record_in (get_or rooms place d).room) e) ≡ out_in e (slice_get (map standing rooms) place)
room_out rooms place d e within = sym (ap (out_in e) (slice_get-map standing rooms place ∙ ap (option_map standing) (slice_get-get_or rooms place d within)))

pub no_room_out : (rooms : List Kept) (place : ℕ) (e : Entry) → length rooms ≤ place → None ≡ out_in e (slice_get (map standing rooms) place)
no_room_out rooms place e past = sym (ap (out_in e) (slice_get-map standing rooms place ∙ ap (option_map standing) (slice_get_past rooms place past)))

pub room_set : (rooms : List Kept) (place : ℕ) (d new : Kept) (e : Entry) → place < length rooms → new ≡ kept_after (get_or rooms place d) e → slice_set rooms place new ≡ seen_rooms_after rooms place e
room_set rooms place d new e within is = ap (slice_set rooms place) is ∙ rw (slice_get-get_or rooms place d within) refl

-- where no room is, nothing changes
pub no_room_set : (rooms : List Kept) (place : ℕ) (e : Entry) → length rooms ≤ place → rooms ≡ seen_rooms_after rooms place e
no_room_set rooms place e past = rw (slice_get_past rooms place past) refl

-- what an entry of the hall prints is what it told
pub hall_text : (count : ℕ) (hall : Record) (e : HallEntry) (ns : List Notice) → ns ≡ halls.notices hall e → each_to (λ conn. printed conn (with_id None (halls.message_of conn ns))) count ≡ each_to (λ conn. printed conn (with_id None (halls.message conn hall e))) count
hall_text count hall e ns is = ap (λ (x : List Notice). each_to (λ conn. printed conn (with_id None (halls.message_of conn x))) count) is
