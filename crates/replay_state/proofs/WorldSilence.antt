-- A world sends messages to connections that have opened alone.
use Rattle.std.proofs.Common.{◌≡◌, ℕ, zero, suc, ◌-◌, ◌≤◌, Bool, true, false, cond, List, [], ◌∷◌, ◌++◌, map, Option, Some, None, refl, sym, ◌∙◌, subst}
use Rattle.std.specs.Prelude.{slice_get, slice_set, nat_lt}
use Rattle.std.specs.Option.{option_map, option_map_or}
use Rattle.std.specs.Ordering.{nat_cmp}
use Rattle.std.specs.Cmp.Lexicographic.{slice_cmp}
use Rattle.std.specs.FinMap.{get-empty}
use Rattle.std.proofs.lemmas.Option.{none-some, same_Some}
use Rattle.std.proofs.lemmas.Cmp.{nat_eq_equiv}
use Rattle.rules_start.specs.declared.start.Start.{Start}
use Rattle.ps_hall.specs.declared.entry.HallEntry.{HallEntry}
use Rattle.ps_hall.specs.Records.{Record as HallRecord}
use Rattle.ps_room.specs.declared.entry.Entry.{Entry}
use Rattle.ps_room.specs.Openings.{Opening}
use Rattle.ps_room.proofs.SilenceLemmas.{IsUpTo, Housed, housed_more, housed_after, outside_silent, not_housed}
use Rattle.ps_room.specs.Stories.{Story}
use Rattle.replay_state.specs.declared.place.Placed.{Placed}
use Rattle.replay_state.specs.declared.place.Placed.TheVariants.{Hall, Room}
use Rattle.ps_room.specs.Openings.{first_battle}
use Rattle.replay_state.specs.Setup.{Setup, chat_openings}
use Rattle.replay_state.specs.Worlds.{World, world_opening, no_story, hall_in, record_of, story_at, more, stories_after, with_battle, started_by, with_hall, world_after, room_message, world_message}
use Rattle.replay_state.proofs.HallSilence.{AreKnown, known_more, known_after, IsUnopened, unopened_silent}
use Rattle.replay_state.proofs.HistoryLemmas.{hall_more, story_more}

-- who makes an entry
abbrev pub sender : Placed → ℕ
sender (Hall e) = e.conn
sender (Room number e) = e.conn

-- ---- members

-- the members of these rooms are of the first n connections
abbrev pub AreHoused : ℕ → List Story → Type 0
AreHoused n [] = Unit {0}
AreHoused n (s ∷ ss) = Housed n (record_of s) × AreHoused n ss

all_housed_more : (n k : ℕ) (ss : List Story) → n ≤ k → AreHoused n ss → AreHoused k ss
all_housed_more n k [] le h = tt
all_housed_more n k (s ∷ ss) le h = (housed_more n k (record_of s) le h.0, all_housed_more n k ss le h.1)

housed_at : (n : ℕ) (ss : List Story) (place : ℕ) (s : Story) → AreHoused n ss → slice_get ss place ≡ Some s → Housed n (record_of s)
housed_at n [] place s h e = absurd (none-some s e)
housed_at n (x ∷ ss) zero s h e = subst (λ (y : Story). Housed n (record_of y)) (same_Some x s e) h.0
housed_at n (x ∷ ss) (suc place) s h e = housed_at n ss place s h.1 e

housed_set : (n : ℕ) (ss : List Story) (place : ℕ) (s : Story) → AreHoused n ss → Housed n (record_of s) → AreHoused n (slice_set ss place s)
housed_set n [] place s h new = tt
housed_set n (x ∷ ss) zero s h new = (new, h.1)
housed_set n (x ∷ ss) (suc place) s h new = (h.0, housed_set n ss place s h.1 new)

-- in a room that is just there nobody is
housed_push : (n : ℕ) (ss : List Story) (o : Opening) → AreHoused n ss → AreHoused n (ss ++ no_story o ∷ [])
housed_push n [] o h = (tt, tt)
housed_push n (s ∷ ss) o h = (h.0, housed_push n ss o h.1)

housed_opened : (n : ℕ) (os : List Opening) → AreHoused n (map no_story os)
housed_opened n [] = tt
housed_opened n (o ∷ os) = (tt, housed_opened n os)

housed_story : (n : ℕ) (s : Story) (e : Entry) → Housed n (record_of s) → IsUpTo n e.conn → Housed n (record_of (more s e))
housed_story n s e h by = subst (Housed n) (sym (story_more s e)) (housed_after n (record_of s) e h by)

housed_found : (n : ℕ) (ss : List Story) (place : ℕ) (e : Entry) (o : Option Story) → slice_get ss place ≡ o → AreHoused n ss → IsUpTo n e.conn → AreHoused n (option_map_or (λ s. slice_set ss place (more s e)) o ss)
housed_found n ss place e None is h by = h
housed_found n ss place e (Some s) is h by = housed_set n ss place (more s e) h (housed_story n s e (housed_at n ss place s h is) by)

-- ---- worlds

-- who is online, and the members of the rooms, are of the first n connections
pub record IsTame (n : ℕ) (w : World) : Type 0 where
  pub users : AreKnown n (hall_in w).users.online
  pub chats : AreHoused n w.chats
  pub battles : AreHoused n w.battles

pub tame_opening : (s : Setup) → IsTame 0 (world_opening s)
tame_opening s = record {
  users = λ id conn e. absurd (none-some conn (sym (get-empty (slice_cmp nat_cmp) id) ∙ e));
  chats = housed_opened 0 (chat_openings s);
  battles = tt;
}

pub tame_more : (n k : ℕ) (w : World) → n ≤ k → IsTame n w → IsTame k w
tame_more n k w le t = record {
  users = known_more n k (hall_in w).users.online le t.users;
  chats = all_housed_more n k w.chats le t.chats;
  battles = all_housed_more n k w.battles le t.battles;
}

tame_begun : (n : ℕ) (h : HallRecord) (o : Option Start) (w : World) → IsTame n w → IsTame n (with_battle h o w)
tame_begun n h None w t = t
tame_begun n h (Some start) w t = record { users = t.users; chats = t.chats; battles = housed_push n w.battles _ t.battles }

tame_hall : (n : ℕ) (w : World) (e : HallEntry) → IsTame n w → IsUpTo n e.conn → IsTame n (with_hall w e)
tame_hall n w e t by = record {
  users = subst (λ (h : HallRecord). AreKnown n h.users.online) (sym (hall_more w e)) (known_after n (hall_in w) e t.users by);
  chats = t.chats;
  battles = t.battles;
}

tame_room : (n : ℕ) (w : World) (number : ℕ) (e : Entry) (b : Bool) → IsTame n w → IsUpTo n e.conn → IsTame n (cond b (record w { chats = stories_after w.chats number e }) (record w { battles = stories_after w.battles (number - first_battle) e }))
tame_room n w number e true t by = record { users = t.users; chats = housed_found n w.chats number e (slice_get w.chats number) refl t.chats by; battles = t.battles }
tame_room n w number e false t by = record { users = t.users; chats = t.chats; battles = housed_found n w.battles (number - first_battle) e (slice_get w.battles (number - first_battle)) refl t.battles by }

pub tame_after : (n : ℕ) (w : World) (p : Placed) → IsTame n w → IsUpTo n (sender p) → IsTame n (world_after w p)
tame_after n w (Hall e) t by = tame_begun n (hall_in w) (started_by (hall_in w) e) (with_hall w e) (tame_hall n w e t by)
tame_after n w (Room number e) t by = tame_room n w number e (nat_lt number first_battle) t by

-- ---- who hasn't opened is sent nothing

silent_room : (conn n : ℕ) (e : Entry) (o : Option Story) → IsUpTo n e.conn → IsUnopened n conn → ((s : Story) → o ≡ Some s → Housed n (record_of s)) → room_message conn e (option_map record_of o) ≡ []
silent_room conn n e None by out house = refl
silent_room conn n e (Some s) by out house = outside_silent conn (record_of s) e (nat_eq_equiv.symm conn e.conn ∙ (out e.conn by)) (not_housed n conn (record_of s) (house s refl) out)

housed_in : (n : ℕ) (w : World) (number : ℕ) (s : Story) (b : Bool) → IsTame n w → cond b (slice_get w.chats number) (slice_get w.battles (number - first_battle)) ≡ Some s → Housed n (record_of s)
housed_in n w number s true t is = housed_at n w.chats number s t.chats is
housed_in n w number s false t is = housed_at n w.battles (number - first_battle) s t.battles is

pub silent : (conn n : ℕ) (w : World) (p : Placed) → IsTame n w → IsUpTo n (sender p) → IsUnopened n conn → world_message conn w p ≡ []
silent conn n w (Hall e) t by out = unopened_silent n conn (hall_in w) e t.users by out
silent conn n w (Room number e) t by out = silent_room conn n e (story_at number w) by out (λ s is. housed_in n w number s (nat_lt number first_battle) t is)
