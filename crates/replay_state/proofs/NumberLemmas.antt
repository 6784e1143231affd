-- Every room that a text can be for is there.
use Rattle.std.proofs.Common.{◌≡◌, ℕ, zero, suc, ◌+◌, ◌-◌, ◌<◌, ◌≤◌, Bool, true, false, cond, List, [], ◌∷◌, ◌++◌, length, Option, Some, None, is_some, ◌⊎◌, inl, inr, refl, sym, ap, ◌∙◌, subst, arith}
use Rattle.std.specs.Prelude.{slice_get, slice_set, nat_lt}
use Rattle.std.specs.Option.{option_map_or}
use Rattle.std.specs.Ordering.{nat_cmp, eq_by_cmp}
use Rattle.std.specs.Cmp.Lexicographic.{slice_cmp, nat_list_cmp_total}
use Rattle.std.specs.FinMap.{get, insert, empty, get-insert, get-empty}
use Rattle.std.proofs.lemmas.Bool.{lt-ltb, le-ltb}
use Rattle.std.proofs.lemmas.List.{length-append, length-set, length-map}
use Rattle.std.proofs.lemmas.Option.{none-some}
use Rattle.ps_base.specs.ById.{ById}
use Rattle.ps_dex.specs.declared.item.Tables.{Tables}
use Rattle.rules_config.specs.declared.settings.Settings.{Settings}
use Rattle.rules_config.specs.declared.settings.ChatRoom.{ChatRoom}
use Rattle.rules_start.specs.declared.start.Start.{Start}
use Rattle.ps_hall.specs.Records.{Record as HallRecord}
use Rattle.ps_hall.proofs.StepLemmas.{StartsAt, entry_counts}
use Rattle.ps_room.specs.declared.entry.Entry.{Entry}
use Rattle.ps_room.specs.Stories.{Story}
use Rattle.replay_state.specs.declared.place.Placed.{Placed}
use Rattle.replay_state.specs.declared.place.Placed.TheVariants.{Hall, Room}
use Rattle.ps_room.specs.Openings.{chats_from, chat_opening, first_battle, room_of_battle}
use Rattle.replay_state.specs.Setup.{Setup, chat_openings}
use Rattle.replay_state.specs.Worlds.{World, with_number, numbers_from, no_story, world_opening, hall_in, story_at, more, opening_in, with_battle, started_by, with_hall, with_room, world_after}
use Rattle.replay_state.proofs.HistoryLemmas.{hall_more}
use Rattle.replay_state.proofs.ViewLemmas.{after_if}

-- ---- lists

module _ {A : Type 0} where
  some_within : (xs : List A) (k : ℕ) → k < length xs → is_some (slice_get xs k) ≡ true
  some_within [] k lt = absurd (omega (arith, lt))
  some_within (x ∷ xs) zero lt = refl
  some_within (x ∷ xs) (suc k) lt = some_within xs k (omega (arith, lt))

  some_more : (xs ys : List A) (k : ℕ) → is_some (slice_get xs k) ≡ true → is_some (slice_get (xs ++ ys) k) ≡ true
  some_more [] ys k e = absurd cc
  some_more (x ∷ xs) ys zero e = refl
  some_more (x ∷ xs) ys (suc k) e = some_more xs ys k e

  some_set : (xs : List A) (i k : ℕ) (y : A) → is_some (slice_get (slice_set xs i y) k) ≡ is_some (slice_get xs k)
  some_set [] i k y = refl
  some_set (x ∷ xs) zero zero y = refl
  some_set (x ∷ xs) zero (suc k) y = refl
  some_set (x ∷ xs) (suc i) zero y = refl
  some_set (x ∷ xs) (suc i) (suc k) y = some_set xs i k y

-- ---- rooms that are there

abbrev pub IsThere : ℕ → World → Type 0
IsThere number w = is_some (story_at number w) ≡ true

-- a room with a number for chat, or for a battle
abbrev pub story_of : Bool → ℕ → World → Option Story
story_of chat number w = cond chat (slice_get w.chats number) (slice_get w.battles (number - first_battle))

pub in_chats : (number : ℕ) (w : World) → number < 16 → story_at number w ≡ slice_get w.chats number
in_chats number w lt = ap (λ (b : Bool). story_of b number w) (lt-ltb number 16 lt)

pub in_battles : (number : ℕ) (w : World) → 16 ≤ number → story_at number w ≡ slice_get w.battles (number - first_battle)
in_battles number w le = ap (λ (b : Bool). story_of b number w) (le-ltb number 16 le)

pub chat_there : (number : ℕ) (w : World) → number < 16 → number < length w.chats → IsThere number w
chat_there number w small lt = ap is_some (in_chats number w small) ∙ some_within w.chats number lt

pub battle_there : (number place : ℕ) (w : World) → number ≡ 16 + place → place < length w.battles → IsThere number w
battle_there number place w is lt =
    let same : number - 16 ≡ place = omega (arith, is) in
    ap is_some (in_battles number w (omega (arith, is)) ∙ ap (slice_get w.battles) same) ∙ some_within w.battles place lt

set_there : (ss : List Story) (place k : ℕ) (e : Entry) (o : Option Story) → is_some (slice_get (option_map_or (λ s. slice_set ss place (more s e)) o ss) k) ≡ is_some (slice_get ss k)
set_there ss place k e None = refl
set_there ss place k e (Some s) = some_set ss place k (more s e)

room_by : (w : World) (number k : ℕ) (e : Entry) (b c : Bool) → is_some (story_of c k (after_if w number e b)) ≡ is_some (story_of c k w)
room_by w number k e true true = set_there w.chats number k e (slice_get w.chats number)
room_by w number k e true false = refl
room_by w number k e false true = refl
room_by w number k e false false = set_there w.battles (number - first_battle) (k - first_battle) e (slice_get w.battles (number - first_battle))

room_there : (w : World) (number k : ℕ) (e : Entry) → is_some (story_at k (with_room w number e)) ≡ is_some (story_at k w)
room_there w number k e = room_by w number k e (nat_lt number first_battle) (nat_lt k first_battle)

begun_by : (w : World) (k : ℕ) (s : Story) (b : Bool) → is_some (story_of b k w) ≡ true → is_some (cond b (slice_get w.chats k) (slice_get (w.battles ++ s ∷ []) (k - first_battle))) ≡ true
begun_by w k s true e = e
begun_by w k s false e = some_more w.battles (s ∷ []) (k - first_battle) e

begun_there : (h : HallRecord) (o : Option Start) (w : World) (k : ℕ) → IsThere k w → IsThere k (with_battle h o w)
begun_there h None w k there = there
begun_there h (Some start) w k there = begun_by w k (no_story (opening_in h start)) (nat_lt k first_battle) there

-- a room that is there stays there
pub there_after : (w : World) (p : Placed) (number : ℕ) → IsThere number w → IsThere number (world_after w p)
there_after w (Hall e) number there = begun_there (hall_in w) (started_by (hall_in w) e) (with_hall w e) number there
there_after w (Room other e) number there = room_there w other number e ∙ there

-- ---- the numbers of rooms

-- each is that of a room that is there; the rooms of battles are as many as battles have started, and those for chat have
-- numbers below these
pub record IsNumbered (w : World) : Type 0 where
  pub found : (id : List ℕ) (number : ℕ) → get w.numbers id ≡ Some number → IsThere number w
  pub started : length w.battles ≡ (hall_in w).started
  pub few : length w.chats ≤ 16

number_if : (b : Bool) (n number : ℕ) (o : Option ℕ) → cond b (Some n) o ≡ Some number → (n ≡ number) ⊎ (o ≡ Some number)
number_if true n number o e = inl cc
number_if false n number o e = inr e

-- a number after one more is this one, or was there before
put_number : (m : ById ℕ) (k id : List ℕ) (n number : ℕ) → get (insert m k n) id ≡ Some number → (n ≡ number) ⊎ (get m id ≡ Some number)
put_number m k id n number e = number_if (eq_by_cmp (slice_cmp nat_cmp) id k) n number (get m id) (sym (get-insert nat_list_cmp_total m k n id) ∙ e)

-- ---- before the first entry

module _ (config : Settings) (dex : Tables) (top : ℕ) where
  abbrev AreBelow : ById ℕ → Type 0
  AreBelow m = (id : List ℕ) (number : ℕ) → get m id ≡ Some number → number < top

  none_below : AreBelow empty
  none_below id number e = absurd (none-some number (sym (get-empty (slice_cmp nat_cmp) id) ∙ e))

  below_put : (m : ById ℕ) (k : List ℕ) (n : ℕ) → n < top → AreBelow m → AreBelow (insert m k n)
  below_put m k n lt below = λ id number e. elim (put_number m k id n number e) [
    | inl same ↦ subst (λ (x : ℕ). x < top) same lt
    | inr old ↦ below id number old
  ]

  chat_numbers : (m : ById ℕ) (n : ℕ) (rooms : List ChatRoom) → n + length rooms ≤ top → AreBelow m → AreBelow (numbers_from m (chats_from config dex n rooms))
  chat_numbers m n [] le below = below
  chat_numbers m n (room ∷ rooms) le below =
      let lt : n < top = omega (arith, le) in
      let rest : suc n + length rooms ≤ top = omega (arith, le) in
      chat_numbers (with_number m (chat_opening config dex n room)) (suc n) rooms rest (below_put m room.id n lt below)

  chat_count : (n : ℕ) (rooms : List ChatRoom) → length (chats_from config dex n rooms) ≡ length rooms
  chat_count n [] = refl
  chat_count n (room ∷ rooms) = ap suc (chat_count (suc n) rooms)

opened_count : (s : Setup) → length (world_opening s).chats ≡ length s.config.rooms
opened_count s = length-map (chat_openings s) no_story ∙ chat_count s.config s.dex 0 0 s.config.rooms

pub numbered_opening : (s : Setup) → length s.config.rooms ≤ 16 → IsNumbered (world_opening s)
numbered_opening s le = record {
  found = λ id number e.
      let below : number < length s.config.rooms = chat_numbers s.config s.dex (length s.config.rooms) empty 0 s.config.rooms (omega arith) (none_below s.config s.dex (length s.config.rooms)) id number e in
      chat_there number (world_opening s) (omega (arith, below, le)) (omega (arith, below, opened_count s));
  started = refl;
  few = omega (arith, le, opened_count s);
}

-- ---- one more entry

room_count : (ss : List Story) (place : ℕ) (e : Entry) (o : Option Story) → length (option_map_or (λ s. slice_set ss place (more s e)) o ss) ≡ length ss
room_count ss place e None = refl
room_count ss place e (Some s) = length-set ss place (more s e)

room_numbered : (w : World) (number : ℕ) (e : Entry) (b : Bool) → ((k : ℕ) → IsThere k w → IsThere k (after_if w number e b)) → IsNumbered w → IsNumbered (after_if w number e b)
room_numbered w number e true keep n = record {
  found = λ id k is. keep k (n.found id k is);
  started = n.started;
  few = subst (λ (x : ℕ). x ≤ 16) (sym (room_count w.chats number e (slice_get w.chats number))) n.few;
}
room_numbered w number e false keep n = record {
  found = λ id k is. keep k (n.found id k is);
  started = room_count w.battles (number - first_battle) e (slice_get w.battles (number - first_battle)) ∙ n.started;
  few = n.few;
}

-- the world `v` has one more entry of the hall, but no room of the battle that it may have started
begun_numbered : (w v : World) (h : HallRecord) (o : Option Start) → v.battles ≡ w.battles → v.chats ≡ w.chats → v.numbers ≡ w.numbers → StartsAt o (hall_in w).started (hall_in v).started
    → ((k : ℕ) → IsThere k w → IsThere k (with_battle h o v)) → IsNumbered w → IsNumbered (with_battle h o v)
begun_numbered w v h None battles chats numbers next keep n = record {
  found = λ id k is. keep k (n.found id k (ap (λ (m : ById ℕ). get m id) (sym numbers) ∙ is));
  started = ap length battles ∙ n.started ∙ sym next;
  few = subst (λ (ss : List Story). length ss ≤ 16) (sym chats) n.few;
}
begun_numbered w v h (Some start) battles chats numbers next keep n =
    let opening = no_story (opening_in h start) in
    let count : length (v.battles ++ opening ∷ []) ≡ (hall_in w).started + 1 = length-append v.battles (opening ∷ []) ∙ ap (λ (x : ℕ). x + 1) (ap length battles ∙ n.started) in record {
      found = λ id k is. elim (put_number v.numbers (opening_in h start).id id (room_of_battle start.number) k is) [
        | inl same ↦ battle_there k (hall_in w).started (with_battle h (Some start) v) (omega (arith, same, next.0)) (omega (arith, count))
        | inr old ↦ keep k (n.found id k (ap (λ (m : ById ℕ). get m id) (sym numbers) ∙ old))
      ];
      started = count ∙ sym next.1;
      few = subst (λ (ss : List Story). length ss ≤ 16) (sym chats) n.few;
    }

pub numbered_after : (w : World) (p : Placed) → IsNumbered w → IsNumbered (world_after w p)
numbered_after w (Hall e) n =
    let next : StartsAt (started_by (hall_in w) e) (hall_in w).started (hall_in (with_hall w e)).started = subst (λ (h : HallRecord). StartsAt (started_by (hall_in w) e) (hall_in w).started h.started) (sym (hall_more w e)) (entry_counts (hall_in w) e) in
    begun_numbered w (with_hall w e) (hall_in w) (started_by (hall_in w) e) refl refl refl next (λ k there. there_after w (Hall e) k there) n
numbered_after w (Room number e) n = room_numbered w number e (nat_lt number first_battle) (λ k there. there_after w (Room number e) k there) n
