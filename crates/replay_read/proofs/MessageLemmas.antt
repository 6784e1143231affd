-- Where a message of a replay is from: one of the hall begins with a bar, and one of a room has the id of a room that is there.
use Rattle.std.proofs.Common.{◌≡◌, ℕ, zero, suc, ◌-◌, Bool, true, false, cond, List, [], ◌∷◌, ◌++◌, length, map, Option, Some, None, option_map, slice_get, slice_set, nat_lt, filter_map, refl, sym, ap, ◌∙◌, subst}
use Rattle.std.specs.Option.{option_map_or}
use Rattle.std.proofs.lemmas.List.Elements.{filter_map-append}
use Rattle.std.proofs.lemmas.Option.{none-some, same_Some}
use Rattle.ps_base.specs.Characters as characters
use Rattle.rules_start.specs.declared.start.Start.{Start}
use Rattle.ps_hall.specs.Records.{Record as HallRecord}
use Rattle.ps_room.specs.declared.entry.Entry.{Entry as RoomEntry}
use Rattle.ps_room.specs.Openings.{Opening, first_battle}
use Rattle.ps_room.specs.Stories.{Story}
use Rattle.replay_script.specs.declared.item.Item.{Item}
use Rattle.replay_state.specs.declared.place.Placed.{Placed}
use Rattle.replay_state.specs.declared.place.Placed.TheVariants.{Hall, Room}
use Rattle.replay_state.specs.declared.place.Happening.{Happening}
use Rattle.replay_state.specs.declared.place.Happening.TheVariants.{Entry, Ended}
use Rattle.replay_state.specs.Setup.{Setup}
use Rattle.replay_state.specs.Worlds.{Place, in_hall, in_room, place_of, World, no_story, record_of, story_at, more, opening_in, with_battle, started_by, with_hall, world_after, hall_in, room_message, world_message, room_id}
use Rattle.replay_state.specs.Entries.{entries_in, worlds_after, Run, run_opening, line_in, run_after, run_past, world_of}
use Rattle.replay_state.specs.Transcript.{Message, message_if, messages_to, Sign, told, signs_from, signs_in, message_in, messages}
use Rattle.replay_state.proofs.NumberLemmas.{story_of}
use Rattle.replay_state.proofs.ViewLemmas.{after_if}
use Rattle.replay_read.proofs.SoLemmas.{AreSo, so_append}
use Rattle.replay_read.proofs.BarLemmas.{IsBarred, behind_bar, message_barred}

-- ---- the place of a message

-- one of the hall has no id, and its first line begins with a bar
pub record IsOfHall (id : Option (List ℕ)) (lines : List (List ℕ)) : Type 0 where
  pub no_id : id ≡ None
  pub bytes : List ℕ
  pub rest : List (List ℕ)
  pub lines_are : lines ≡ (characters.bar ∷ bytes) ∷ rest

-- one of a room has that room's id
pub record IsOfRoom (w : World) (number : ℕ) (id : Option (List ℕ)) (lines : List (List ℕ)) : Type 0 where
  pub story : Story
  pub here : story_at number w ≡ Some story
  pub id_is : id ≡ Some story.opening.id
  pub line : List ℕ
  pub rest : List (List ℕ)
  pub lines_are : lines ≡ line ∷ rest

abbrev pub IsOfPlace : World → Place → Option (List ℕ) → List (List ℕ) → Type 0
IsOfPlace w in_hall id lines = IsOfHall id lines
IsOfPlace w (in_room number) id lines = IsOfRoom w number id lines

abbrev pub IsPlaced : World → Message → Type 0
IsPlaced w m = IsOfPlace w m.place m.id m.lines

abbrev pub AreOfPlaces : World → List Message → Type 0
AreOfPlaces w ms = AreSo (IsPlaced w) ms

-- ---- a room keeps its opening

abbrev opening_of : Story → Opening
opening_of s = s.opening

abbrev opening_at : List Story → ℕ → Option Opening
opening_at ss place = option_map opening_of (slice_get ss place)

same_opening : (ss : List Story) (place k : ℕ) (s t : Story) → slice_get ss place ≡ Some s → t.opening ≡ s.opening → opening_at (slice_set ss place t) k ≡ opening_at ss k
same_opening [] place k s t is same = refl
same_opening (x ∷ ss) zero zero s t is same = ap (λ (o : Opening). Some o) (same ∙ sym (ap opening_of (same_Some x s is)))
same_opening (x ∷ ss) zero (suc k) s t is same = refl
same_opening (x ∷ ss) (suc place) zero s t is same = refl
same_opening (x ∷ ss) (suc place) (suc k) s t is same = same_opening ss place k s t is same

opening_found : (ss : List Story) (place k : ℕ) (e : RoomEntry) (o : Option Story) → slice_get ss place ≡ o → opening_at (option_map_or (λ s. slice_set ss place (more s e)) o ss) k ≡ opening_at ss k
opening_found ss place k e None is = refl
opening_found ss place k e (Some s) is = same_opening ss place k s (more s e) is refl

opening_more : (ss : List Story) (k : ℕ) (s : Story) (o : Opening) → opening_at ss k ≡ Some o → opening_at (ss ++ s ∷ []) k ≡ Some o
opening_more [] k s o e = absurd (none-some o e)
opening_more (x ∷ ss) zero s o e = e
opening_more (x ∷ ss) (suc k) s o e = opening_more ss k s o e

-- the opening of the room with a number
abbrev room_opening : ℕ → World → Option Opening
room_opening number w = option_map opening_of (story_at number w)

room_by : (w : World) (number k : ℕ) (e : RoomEntry) (b c : Bool) → option_map opening_of (story_of c k (after_if w number e b)) ≡ option_map opening_of (story_of c k w)
room_by w number k e true true = opening_found w.chats number k e (slice_get w.chats number) refl
room_by w number k e true false = refl
room_by w number k e false true = refl
room_by w number k e false false = opening_found w.battles (number - first_battle) (k - first_battle) e (slice_get w.battles (number - first_battle)) refl

begun_by : (w : World) (k : ℕ) (s : Story) (o : Opening) (b : Bool) → option_map opening_of (story_of b k w) ≡ Some o → option_map opening_of (cond b (slice_get w.chats k) (slice_get (w.battles ++ s ∷ []) (k - first_battle))) ≡ Some o
begun_by w k s o true e = e
begun_by w k s o false e = opening_more w.battles (k - first_battle) s o e

begun_opening : (h : HallRecord) (start : Option Start) (w : World) (k : ℕ) (o : Opening) → room_opening k w ≡ Some o → room_opening k (with_battle h start w) ≡ Some o
begun_opening h None w k o e = e
begun_opening h (Some start) w k o e = begun_by w k (no_story (opening_in h start)) o (nat_lt k first_battle) e

opening_after : (w : World) (p : Placed) (k : ℕ) (o : Opening) → room_opening k w ≡ Some o → room_opening k (world_after w p) ≡ Some o
opening_after w (Hall e) k o is = begun_opening (hall_in w) (started_by (hall_in w) e) (with_hall w e) k o is
opening_after w (Room number e) k o is = room_by w number k e (nat_lt number first_battle) (nat_lt k first_battle) ∙ is

-- each room of the world `v` is in `w` with its opening
abbrev AreKept : World → World → Type 0
AreKept v w = (k : ℕ) (o : Opening) → room_opening k v ≡ Some o → room_opening k w ≡ Some o

kept_past : (w : World) (ps : List Placed) → AreKept w (worlds_after w ps)
kept_past w [] = λ k o is. is
kept_past w (p ∷ ps) = λ k o is. kept_past (world_after w p) ps k o (opening_after w p k o is)

kept_lines : (r : Run) (is : List Item) → AreKept r.world (run_past r is).world
kept_lines r [] = λ k o here. here
kept_lines r (i ∷ is) = λ k o here. kept_lines (run_after r i) is k o (kept_past r.world (entries_in (line_in r i).happenings) k o here)

-- ---- one message

of_hall : (w : World) (conn : ℕ) (lines : List (List ℕ)) → AreSo IsBarred lines → AreOfPlaces w (message_if conn in_hall None lines)
of_hall w conn [] a = tt
of_hall w conn (line ∷ lines) a =
    let cut = behind_bar line a.0 in
    (record { no_id = refl; bytes = cut.bytes; rest = lines; lines_are = ap (λ (x : List ℕ). x ∷ lines) cut.line_is }, tt)

story_of_opening : (w : World) (number : ℕ) (o : Opening) (found : Option Story) → story_at number w ≡ found → option_map opening_of found ≡ Some o → (line : List ℕ) (lines : List (List ℕ)) → IsOfRoom w number (Some o.id) (line ∷ lines)
story_of_opening w number o None here is line lines = absurd (none-some o is)
story_of_opening w number o (Some s) here is line lines = record {
  story = s;
  here = here;
  id_is = ap (λ (x : Opening). Some x.id) (sym (same_Some s.opening o is));
  line = line;
  rest = lines;
  lines_are = refl;
}

of_story : (w : World) (conn number : ℕ) (o : Opening) → room_opening number w ≡ Some o → (lines : List (List ℕ)) → AreOfPlaces w (message_if conn (in_room number) (Some o.id) lines)
of_story w conn number o is [] = tt
of_story w conn number o is (line ∷ lines) = (story_of_opening w number o (story_at number w) refl is line lines, tt)

-- who writes to a room that isn't there is sent nothing by it
of_room : (v w : World) (conn number : ℕ) (e : RoomEntry) → AreKept v w → (found : Option Story) → story_at number v ≡ found
    → AreOfPlaces w (message_if conn (in_room number) (Some (option_map_or (λ s. s.opening.id) found [])) (room_message conn e (option_map record_of found)))
of_room v w conn number e kept None here = tt
of_room v w conn number e kept (Some s) here = of_story w conn number s.opening (kept number s.opening (ap (λ (x : Option Story). option_map opening_of x) here)) (room_message conn e (Some (record_of s)))

-- sent in the world `v`, and placed in one that comes after it
one_placed : (v w : World) (conn : ℕ) (p : Placed) → AreKept v w → AreOfPlaces w (message_if conn (place_of p) (room_id v p) (world_message conn v p))
one_placed v w conn (Hall e) kept = of_hall w conn (world_message conn v (Hall e)) (message_barred conn (hall_in v) e)
one_placed v w conn (Room number e) kept = of_room v w conn number e kept (story_at number v) refl

to_placed : (v w : World) (n : ℕ) (p : Placed) → AreKept v w → AreOfPlaces w (messages_to n v p)
to_placed v w zero p kept = tt
to_placed v w (suc n) p kept = so_append (IsPlaced w) (messages_to n v p) (message_if (suc n) (place_of p) (room_id v p) (world_message (suc n) v p)) (to_placed v w n p kept) (one_placed v w (suc n) p kept)

-- ---- all messages

-- what is so of the messages among what is printed
abbrev AreAmong : (Message → Type 0) → List Sign → Type 0
AreAmong P xs = AreSo P (filter_map message_in xs)

among_append : (P : Message → Type 0) (xs ys : List Sign) → AreAmong P xs → AreAmong P ys → AreAmong P (xs ++ ys)
among_append P xs ys a b = subst (AreSo P) (sym (filter_map-append message_in xs ys)) (so_append P (filter_map message_in xs) (filter_map message_in ys) a b)

among_told : (P : Message → Type 0) (ms : List Message) → AreSo P ms → AreAmong P (map told ms)
among_told P [] a = tt
among_told P (m ∷ ms) a = (a.0, among_told P ms a.1)

happenings_placed : (n : ℕ) (v w : World) (xs : List Happening) → AreKept (worlds_after v (entries_in xs)) w → AreAmong (IsPlaced w) (signs_from n v xs)
happenings_placed n v w [] kept = tt
happenings_placed n v w (Entry p ∷ xs) kept =
    let here : AreKept v w = λ k o is. kept k o (kept_past v (p ∷ entries_in xs) k o is) in
    among_append (IsPlaced w) (map told (messages_to n v p)) (signs_from n (world_after v p) xs)
    (among_told (IsPlaced w) (messages_to n v p) (to_placed v w n p here))
    (happenings_placed n (world_after v p) w xs kept)
happenings_placed n v w (Ended conn ∷ xs) kept = happenings_placed n v w xs kept

lines_placed : (r : Run) (w : World) (is : List Item) → AreKept (run_past r is).world w → AreAmong (IsPlaced w) (signs_in r is)
lines_placed r w [] kept = tt
lines_placed r w (i ∷ is) kept =
    let next = run_after r i in
    let n = length (line_in r i).sessions in
    let here : AreKept next.world w = λ k o found. kept k o (kept_lines next is k o found) in
    among_append (IsPlaced w) (signs_from n r.world (line_in r i).happenings) (signs_in next is)
    (happenings_placed n r.world w (line_in r i).happenings here)
    (lines_placed next w is kept)

-- each message of a script is placed so in its world
pub messages_placed : (s : Setup) (items : List Item) → AreOfPlaces (world_of s items) (messages s items)
messages_placed s items = lines_placed (run_opening s) (world_of s items) items (λ k o is. is)
