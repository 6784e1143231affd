-- Each entry of a script is in a place that is there, and the history of each place is its entries.
use Rattle.std.proofs.Common.{◌≡◌, ◌≢◌, ℕ, zero, suc, ◌+◌, ◌-◌, ◌<◌, ◌≤◌, Bool, true, false, cond, List, [], ◌∷◌, ◌++◌, length, map, Option, Some, None, IfSome, is_some, inl, inr, refl, sym, ap, ◌∙◌, subst, arith, append_assoc}
use Rattle.std.specs.Prelude.{slice_get, slice_set, nat_lt}
use Rattle.std.specs.Option.{option_map_or}
use Rattle.std.specs.List.{filter_map, cons_option}
use Rattle.std.proofs.lemmas.Bool.Decides.{eqb_tells}
use Rattle.std.proofs.lemmas.List.{append-nil, length-map}
use Rattle.std.proofs.lemmas.List.Elements.{filter_map-append}
use Rattle.rules_start.specs.declared.start.Start.{Start}
use Rattle.ps_session.specs.Sessions.{Record as Session}
use Rattle.ps_hall.specs.declared.entry.HallEntry.{HallEntry}
use Rattle.ps_hall.specs.Records.{Record as HallRecord}
use Rattle.ps_room.specs.declared.entry.Entry.{Entry}
use Rattle.ps_room.specs.Openings.{Opening}
use Rattle.ps_room.specs.Stories.{Story}
use Rattle.replay_script.specs.declared.item.Item.{Item}
use Rattle.replay_script.specs.declared.item.Item.TheVariants.{Nothing, Moment, Group, Open, Send, Close}
use Rattle.replay_state.specs.declared.place.Placed.{Placed}
use Rattle.replay_state.specs.declared.place.Placed.TheVariants.{Hall, Room}
use Rattle.ps_room.specs.Openings.{first_battle}
use Rattle.replay_state.specs.Setup.{Setup, chat_openings}
use Rattle.replay_state.specs.Worlds.{World, no_story, world_opening, hall_in, story_at, more, stories_after, opening_in, with_battle, started_by, with_hall, with_room, world_after}
use Rattle.replay_state.specs.Nows.{now_of, standing_of}
use Rattle.replay_state.specs.Entries.{quits, text_entry, Run, state_of, run_opening, entry_in, entries_in, worlds_after, line_in, run_after, run_past, happenings_from, entries}
use Rattle.replay_state.specs.OneEntry.{hall_entry_of, room_entry_of, AreHistories}
use Rattle.replay_state.proofs.LineLemmas.{AllOf, quits_all, text_some, sent_all, closed_all}
use Rattle.replay_state.proofs.NumberLemmas.{IsThere, story_of, IsNumbered, chat_there, battle_there, there_after, numbered_opening, numbered_after}
use Rattle.replay_state.proofs.ViewLemmas.{get_set_same, get_found, after_if, apart_battles}

-- ---- entries in places that are there

abbrev pub IsHere : World → Placed → Type 0
IsHere w (Hall e) = Unit {0}
IsHere w (Room number e) = IsThere number w

here_after : (w : World) (p q : Placed) → IsHere w q → IsHere (world_after w p) q
here_after w p (Hall e) here = tt
here_after w p (Room number e) here = there_after w p number here

all_after : (w : World) (p : Placed) (qs : List Placed) → AllOf (IsHere w) qs → AllOf (IsHere (world_after w p)) qs
all_after w p [] all = tt
all_after w p (q ∷ qs) all = (here_after w p q all.0, all_after w p qs all.1)

-- ---- a history after one more entry

abbrev history_in : Option Story → List Entry
history_in o = option_map_or (λ s. s.history) o []

abbrev history_at : ℕ → World → List Entry
history_at number w = history_in (story_at number w)

grown_by : (ss : List Story) (k : ℕ) (e : Entry) (o : Option Story) → slice_get ss k ≡ o → is_some o ≡ true → history_in (slice_get (option_map_or (λ s. slice_set ss k (more s e)) o ss) k) ≡ history_in o ++ e ∷ []
grown_by ss k e None is some = absurd cc
grown_by ss k e (Some s) is some = ap history_in (get_set_same ss k s (more s e) is)

grown : (ss : List Story) (k : ℕ) (e : Entry) → is_some (slice_get ss k) ≡ true → history_in (slice_get (stories_after ss k e) k) ≡ history_in (slice_get ss k) ++ e ∷ []
grown ss k e some = grown_by ss k e (slice_get ss k) refl some

-- the room of the entry,
same_by : (w : World) (number : ℕ) (e : Entry) (b : Bool) → is_some (story_of b number w) ≡ true → history_in (story_of b number (after_if w number e b)) ≡ history_in (story_of b number w) ++ e ∷ []
same_by w number e true there = grown w.chats number e there
same_by w number e false there = grown w.battles (number - first_battle) e there

-- another room,
other_by : (w : World) (number k : ℕ) (e : Entry) (b c : Bool) → nat_lt number first_battle ≡ b → nat_lt k first_battle ≡ c → k ≢ number → story_of c k (after_if w number e b) ≡ story_of c k w
other_by w number k e true true s t apart = get_found w.chats k number e (slice_get w.chats number) apart
other_by w number k e true false s t apart = refl
other_by w number k e false true s t apart = refl
other_by w number k e false false s t apart = get_found w.battles (k - first_battle) (number - first_battle) e (slice_get w.battles (number - first_battle)) (apart_battles k number t s apart)

-- a room that a battle has from now on,
pushed : (ss : List Story) (s : Story) (k : ℕ) → s.history ≡ [] → history_in (slice_get (ss ++ s ∷ []) k) ≡ history_in (slice_get ss k)
pushed [] s zero none = none
pushed [] s (suc k) none = refl
pushed (x ∷ ss) s zero none = refl
pushed (x ∷ ss) s (suc k) none = pushed ss s k none

begun_by : (w : World) (number : ℕ) (s : Story) (b : Bool) → s.history ≡ [] → history_in (cond b (slice_get w.chats number) (slice_get (w.battles ++ s ∷ []) (number - first_battle))) ≡ history_in (story_of b number w)
begun_by w number s true none = refl
begun_by w number s false none = pushed w.battles s (number - first_battle) none

begun_history : (h : HallRecord) (o : Option Start) (w : World) (number : ℕ) → history_at number (with_battle h o w) ≡ history_at number w
begun_history h None w number = refl
begun_history h (Some start) w number = begun_by w number (no_story (opening_in h start)) (nat_lt number first_battle) refl

room_history : (w : World) (other number : ℕ) (e : Entry) → IsThere other w → history_at number (with_room w other e) ≡ history_at number w ++ filter_map (room_entry_of number) (Room other e ∷ [])
room_history w other number e there = elim (eqb_tells other number) [
  | inl same ↦
      subst (λ (k : ℕ). history_at k (with_room w other e) ≡ history_at k w ++ e ∷ []) same.1 (same_by w other e (nat_lt other first_battle) there)
      ∙ ap (λ (b : Bool). history_at number w ++ cons_option (cond b (Some e) None) []) (sym same.0)
  | inr apart ↦
      ap history_in (other_by w other number e (nat_lt other first_battle) (nat_lt number first_battle) refl refl (λ e. apart.1 (sym e)))
      ∙ sym (append-nil (history_at number w))
      ∙ ap (λ (b : Bool). history_at number w ++ cons_option (cond b (Some e) None) []) (sym apart.0)
]

-- and of all entries that are in places that are there
history_after : (w : World) (p : Placed) (number : ℕ) → IsHere w p → history_at number (world_after w p) ≡ history_at number w ++ filter_map (room_entry_of number) (p ∷ [])
history_after w (Hall e) number here = begun_history (hall_in w) (started_by (hall_in w) e) (with_hall w e) number ∙ sym (append-nil (history_at number w))
history_after w (Room other e) number here = room_history w other number e here

histories_after : (w : World) (ps : List Placed) (number : ℕ) → AllOf (IsHere w) ps → history_at number (worlds_after w ps) ≡ history_at number w ++ filter_map (room_entry_of number) ps
histories_after w [] number all = sym (append-nil (history_at number w))
histories_after w (p ∷ ps) number all =
    histories_after (world_after w p) ps number (all_after w p ps all.1)
    ∙ ap (λ (x : List Entry). x ++ filter_map (room_entry_of number) ps) (history_after w p number all.0)
    ∙ append_assoc (history_at number w) (filter_map (room_entry_of number) (p ∷ [])) (filter_map (room_entry_of number) ps)
    ∙ ap (λ (x : List Entry). history_at number w ++ x) (sym (filter_map-append (room_entry_of number) (p ∷ []) ps))

-- ---- the history of the hall

begun_hall : (h : HallRecord) (o : Option Start) (w : World) → (with_battle h o w).hall ≡ w.hall
begun_hall h None w = refl
begun_hall h (Some start) w = refl

house_hall : (w : World) (number : ℕ) (e : Entry) (b : Bool) → (after_if w number e b).hall ≡ w.hall
house_hall w number e true = refl
house_hall w number e false = refl

hall_after : (w : World) (p : Placed) → (world_after w p).hall ≡ w.hall ++ filter_map hall_entry_of (p ∷ [])
hall_after w (Hall e) = begun_hall (hall_in w) (started_by (hall_in w) e) (with_hall w e)
hall_after w (Room number e) = house_hall w number e (nat_lt number first_battle) ∙ sym (append-nil w.hall)

halls_after : (w : World) (ps : List Placed) → (worlds_after w ps).hall ≡ w.hall ++ filter_map hall_entry_of ps
halls_after w [] = sym (append-nil w.hall)
halls_after w (p ∷ ps) =
    halls_after (world_after w p) ps
    ∙ ap (λ (x : List HallEntry). x ++ filter_map hall_entry_of ps) (hall_after w p)
    ∙ append_assoc w.hall (filter_map hall_entry_of (p ∷ [])) (filter_map hall_entry_of ps)
    ∙ ap (λ (x : List HallEntry). w.hall ++ x) (sym (filter_map-append hall_entry_of (p ∷ []) ps))

-- ---- the entries of a line

-- a text's entry is in a place that is there
pub text_here : (w : World) (moment conn : ℕ) (text : List ℕ) (s : Session) → IsNumbered w → IfSome (text_entry moment (now_of w) conn text s) (IsHere w)
text_here w moment conn text s n = text_some (IsHere w) moment (now_of w) conn (λ cmd a. tt) (λ id number badge cmd is. n.found id number is) text s

quits_here : (w : World) (moment conn : ℕ) → IsNumbered w → AllOf (IsHere w) (quits moment (now_of w) conn)
quits_here w moment conn n = quits_all (IsHere w) moment (now_of w) conn
    (λ badge k lt. let below : k < length w.chats = omega (arith, lt, length-map w.chats standing_of) in chat_there (0 + k) w (omega (arith, below, n.few)) (omega (arith, below)))
    (λ badge k lt. battle_there (16 + k) k w refl (omega (arith, lt, length-map w.battles standing_of)))
    tt

line_here : (r : Run) (i : Item) → IsNumbered r.world → AllOf (IsHere r.world) (entries_in (line_in r i).happenings)
line_here r Nothing n = tt
line_here r (Moment moment) n = tt
line_here r (Group symbol id) n = tt
line_here r (Open conn) n = (tt, tt)
line_here r (Send conn text) n = sent_all (IsHere r.world) (state_of r) conn text (λ s. text_here r.world r.moment conn text s n) (λ number winner. tt) (quits_here r.world r.moment conn n)
line_here r (Close conn) n = closed_all (IsHere r.world) (state_of r) conn (quits_here r.world r.moment conn n)

-- ---- the lines of a script

numbered_worlds : (w : World) (ps : List Placed) → IsNumbered w → IsNumbered (worlds_after w ps)
numbered_worlds w [] n = n
numbered_worlds w (p ∷ ps) n = numbered_worlds (world_after w p) ps (numbered_after w p n)

pub numbered_past : (r : Run) (is : List Item) → IsNumbered r.world → IsNumbered (run_past r is).world
numbered_past r [] n = n
numbered_past r (i ∷ is) n = numbered_past (run_after r i) is (numbered_worlds r.world (entries_in (line_in r i).happenings) n)

worlds-append : (w : World) (ps qs : List Placed) → worlds_after w (ps ++ qs) ≡ worlds_after (worlds_after w ps) qs
worlds-append w [] qs = refl
worlds-append w (p ∷ ps) qs = worlds-append (world_after w p) ps qs

-- the world of lines is that of their entries
pub world_past : (r : Run) (is : List Item) → (run_past r is).world ≡ worlds_after r.world (entries_in (happenings_from r is))
world_past r [] = refl
world_past r (i ∷ is) =
    world_past (run_after r i) is
    ∙ sym (worlds-append r.world (entries_in (line_in r i).happenings) (entries_in (happenings_from (run_after r i) is)))
    ∙ ap (worlds_after r.world) (sym (filter_map-append entry_in (line_in r i).happenings (happenings_from (run_after r i) is)))

histories_past : (r : Run) (is : List Item) (number : ℕ) → IsNumbered r.world → history_at number (run_past r is).world ≡ history_at number r.world ++ filter_map (room_entry_of number) (entries_in (happenings_from r is))
histories_past r [] number n = sym (append-nil (history_at number r.world))
histories_past r (i ∷ is) number n =
    let ps = entries_in (line_in r i).happenings in
    let qs = entries_in (happenings_from (run_after r i) is) in
    histories_past (run_after r i) is number (numbered_worlds r.world ps n)
    ∙ ap (λ (x : List Entry). x ++ filter_map (room_entry_of number) qs) (histories_after r.world ps number (line_here r i n))
    ∙ append_assoc (history_at number r.world) (filter_map (room_entry_of number) ps) (filter_map (room_entry_of number) qs)
    ∙ ap (λ (x : List Entry). history_at number r.world ++ x) (sym (filter_map-append (room_entry_of number) ps qs) ∙ ap (filter_map (room_entry_of number)) (sym (filter_map-append entry_in (line_in r i).happenings (happenings_from (run_after r i) is))))

no_histories : (os : List Opening) (k : ℕ) → history_in (slice_get (map no_story os) k) ≡ []
no_histories [] k = refl
no_histories (o ∷ os) zero = refl
no_histories (o ∷ os) (suc k) = no_histories os k

opened_by : (s : Setup) (number : ℕ) (b : Bool) → history_in (story_of b number (world_opening s)) ≡ []
opened_by s number true = no_histories (chat_openings s) number
opened_by s number false = refl

pub are_histories : (s : Setup) (items : List Item) → length s.config.rooms ≤ 16 → AreHistories s items
are_histories s items le = record {
  hall = ap (λ (w : World). w.hall) (world_past (run_opening s) items) ∙ halls_after (world_opening s) (entries s items);
  room = λ number told is.
      sym (ap history_in is)
      ∙ histories_past (run_opening s) items number (numbered_opening s le)
      ∙ ap (λ (x : List Entry). x ++ filter_map (room_entry_of number) (entries s items)) (opened_by s number (nat_lt number first_battle));
}
