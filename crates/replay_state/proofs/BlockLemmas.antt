-- A connection's messages from a place are its view there.
use Rattle.std.proofs.Common.{◌≡◌, ℕ, zero, suc, ◌<◌, ◌≤◌, ◌==◌, Bool, true, false, cond, ◌&&◌, List, [], ◌∷◌, ◌++◌, length, map, Option, refl, sym, ap, ◌∙◌, inl, inr, arith, append_assoc}
use Rattle.std.specs.List.{filter_map}
use Rattle.std.specs.Str.Lines.{lines as lines_in}
use Rattle.std.proofs.Math.Dec.{eqb-suc-zero}
use Rattle.std.proofs.lemmas.Bool.{cases_lt}
use Rattle.std.proofs.lemmas.Bool.Decides.{nat_tests, eqb_tells}
use Rattle.std.proofs.lemmas.List.{append-nil}
use Rattle.std.proofs.lemmas.List.Concat.{flat_map-append}
use Rattle.std.proofs.lemmas.List.Elements.{filter_map-append}
use Rattle.ps_room.proofs.SilenceLemmas.{IsUpTo}
use Rattle.replay_script.specs.declared.item.Item.{Item}
use Rattle.replay_script.specs.declared.item.Item.TheVariants.{Nothing, Moment, Group, Open, Send, Close}
use Rattle.replay_script.specs.Scripts.{Seen, start, next, AreItems, IsScript}
use Rattle.replay_state.specs.declared.place.Placed.{Placed}
use Rattle.replay_state.specs.declared.place.Happening.{Happening}
use Rattle.replay_state.specs.declared.place.Happening.TheVariants.{Entry, Ended}
use Rattle.replay_state.specs.Setup.{Setup}
use Rattle.replay_state.specs.Worlds.{Place, place_of, World, world_after, world_message, world_view, room_id}
use Rattle.replay_state.specs.Entries.{entries_in, worlds_after, Run, state_of, run_opening, line_in, run_after, run_past, world_of}
use Rattle.replay_state.specs.Transcript.{Message, told, message_if, messages_to, signs_from, signs_in, message_in, messages, same_place, picked, block}
use Rattle.replay_state.proofs.CountLemmas.{sent_sessions, closed_sessions, open_sessions, count_next}
use Rattle.replay_state.proofs.HallSilence.{IsUnopened}
use Rattle.replay_state.proofs.WorldSilence.{sender, IsTame, tame_opening, tame_more, tame_after, silent}
use Rattle.replay_state.proofs.ViewLemmas.{at_entry, view_more, view_opening}
use Rattle.replay_state.proofs.SenderLemmas.{AreUpTo, line_up_to}
use Rattle.ps_base.specs.Messages.{sent}

-- ---- one connection's messages at an entry

picked_if : (conn other : ℕ) (place from : Place) (id : Option (List ℕ)) (lines : List (List ℕ)) → block conn place (message_if other from id lines) ≡ cond (other == conn) (cond (same_place place from) (sent lines) []) []
picked_if conn other place from id [] = by_tests (other == conn) (same_place place from)
  where
    by_tests : (a b : Bool) → [] ≡ cond {A = List (List (List ℕ))} a (cond b [] []) []
    by_tests true true = refl
    by_tests true false = refl
    by_tests false b = refl
picked_if conn other place from id (line ∷ lines) = by_tests (other == conn) (same_place place from)
  where
    by_tests : (a b : Bool) → cond (a && b) ((line ∷ lines) ∷ []) [] ++ [] ≡ cond a (cond b ((line ∷ lines) ∷ []) []) []
    by_tests true true = refl
    by_tests true false = refl
    by_tests false b = refl

last_picked : (conn n : ℕ) (place : Place) (w : World) (p : Placed) → block conn place (messages_to (suc n) w p) ≡ block conn place (messages_to n w p) ++ cond (suc n == conn) (at_entry (suc n) place w p) []
last_picked conn n place w p =
    flat_map-append (picked conn place) (messages_to n w p) (message_if (suc n) (place_of p) (room_id w p) (world_message (suc n) w p))
    ∙ ap (λ (x : List (List (List ℕ))). block conn place (messages_to n w p) ++ x) (picked_if conn (suc n) place (place_of p) (room_id w p) (world_message (suc n) w p))

none_above : (conn n : ℕ) (place : Place) (w : World) (p : Placed) → n < conn → block conn place (messages_to n w p) ≡ []
none_above conn zero place w p past = refl
none_above conn (suc n) place w p past =
    let test : (suc n == conn) ≡ false = grind (arith, nat_tests) in
    last_picked conn n place w p ∙ rw (test, none_above conn n place w p (omega arith)) refl

none_zero : (n : ℕ) (place : Place) (w : World) (p : Placed) → block 0 place (messages_to n w p) ≡ []
none_zero zero place w p = refl
none_zero (suc n) place w p = last_picked 0 n place w p ∙ rw (eqb-suc-zero n, none_zero n place w p) refl

one_picked : (conn n : ℕ) (place : Place) (w : World) (p : Placed) → IsUpTo n conn → block conn place (messages_to n w p) ≡ at_entry conn place w p
one_picked conn zero place w p o = absurd (omega (arith, o.0, o.1))
one_picked conn (suc n) place w p o =
    elim (eqb_tells (suc n) conn) [
      | inl t ↦ last_picked conn n place w p ∙ rw (t.0, none_above conn n place w p (omega (arith, t.1))) (ap (λ (k : ℕ). at_entry k place w p) t.1)
      | inr t ↦
          let below : IsUpTo n conn = (o.0, omega (arith, t.1, o.1)) in
          last_picked conn n place w p ∙ rw t.0 (append-nil (block conn place (messages_to n w p)) ∙ one_picked conn n place w p below)
    ]

past_is_unopened : (n conn : ℕ) → n < conn → IsUnopened n conn
past_is_unopened n conn past k o = let small : k < conn = omega (arith, o.1) in grind (arith, nat_tests)

zero_is_unopened : (n : ℕ) → IsUnopened n 0
zero_is_unopened n k o = let large : 0 < k = omega (arith, o.0) in grind (arith, nat_tests)

nothing_sent : (conn : ℕ) (place : Place) (w : World) (p : Placed) → world_message conn w p ≡ [] → at_entry conn place w p ≡ []
nothing_sent conn place w p none = ap (λ (x : List (List ℕ)). cond (same_place place (place_of p)) (sent x) []) none ∙ either (same_place place (place_of p))
  where
    either : (b : Bool) → cond {A = List (List (List ℕ))} b [] [] ≡ []
    either true = refl
    either false = refl

at_count : (conn n : ℕ) (place : Place) (w : World) (p : Placed) → IsTame n w → IsUpTo n (sender p) → block conn place (messages_to n w p) ≡ at_entry conn place w p
at_count zero n place w p t by = none_zero n place w p ∙ sym (nothing_sent zero place w p (silent zero n w p t by (zero_is_unopened n)))
at_count (suc k) n place w p t by =
    elim (cases_lt n (suc k)) [
      | inl past ↦ none_above (suc k) n place w p past ∙ sym (nothing_sent (suc k) place w p (silent (suc k) n w p t by (past_is_unopened n (suc k) past)))
      | inr within ↦ one_picked (suc k) n place w p (omega arith, within)
    ]

-- ---- happenings

told_messages : (ms : List Message) → filter_map message_in (map told ms) ≡ ms
told_messages [] = refl
told_messages (m ∷ ms) = ap (λ (x : List Message). m ∷ x) (told_messages ms)

-- the messages of happenings in a world, where n connections have opened
abbrev messages_from : ℕ → World → List Happening → List Message
messages_from n w xs = filter_map message_in (signs_from n w xs)

block_entry : (conn n : ℕ) (place : Place) (w : World) (p : Placed) (xs : List Happening) → block conn place (messages_from n w (Entry p ∷ xs)) ≡ block conn place (messages_to n w p) ++ block conn place (messages_from n (world_after w p) xs)
block_entry conn n place w p xs =
    ap (block conn place) (filter_map-append message_in (map told (messages_to n w p)) (signs_from n (world_after w p) xs))
    ∙ ap (λ (ms : List Message). block conn place (ms ++ messages_from n (world_after w p) xs)) (told_messages (messages_to n w p))
    ∙ flat_map-append (picked conn place) (messages_to n w p) (messages_from n (world_after w p) xs)

-- what happenings add to a view is what they send
block_past : (conn n : ℕ) (place : Place) (w : World) (xs : List Happening) → IsTame n w → AreUpTo n (entries_in xs) → world_view conn place (worlds_after w (entries_in xs)) ≡ world_view conn place w ++ block conn place (messages_from n w xs)
block_past conn n place w [] t by = sym (append-nil (world_view conn place w))
block_past conn n place w (Entry p ∷ xs) t by =
    block_past conn n place (world_after w p) xs (tame_after n w p t by.0) by.1
    ∙ ap (λ (ms : List (List (List ℕ))). ms ++ block conn place (messages_from n (world_after w p) xs)) (view_more conn place w p ∙ ap (λ (ms : List (List (List ℕ))). world_view conn place w ++ ms) (sym (at_count conn n place w p t by.0)))
    ∙ append_assoc (world_view conn place w) (block conn place (messages_to n w p)) (block conn place (messages_from n (world_after w p) xs))
    ∙ ap (λ (ms : List (List (List ℕ))). world_view conn place w ++ ms) (sym (block_entry conn n place w p xs))
block_past conn n place w (Ended other ∷ xs) t by = block_past conn n place w xs t by

tame_past : (n : ℕ) (w : World) (ps : List Placed) → IsTame n w → AreUpTo n ps → IsTame n (worlds_after w ps)
tame_past n w [] t by = t
tame_past n w (p ∷ ps) t by = tame_past n (world_after w p) ps (tame_after n w p t by.0) by.1

-- ---- lines

grows : (r : Run) (i : Item) → length r.sessions ≤ length (line_in r i).sessions
grows r Nothing = omega arith
grows r (Moment n) = omega arith
grows r (Group symbol id) = omega arith
grows r (Open conn) = omega (arith, open_sessions (state_of r) conn)
grows r (Send conn text) = omega (arith, sent_sessions (state_of r) conn text)
grows r (Close conn) = omega (arith, closed_sessions (state_of r) conn)

-- the entries of each of these lines are of connections that have opened with it
abbrev pub AreOwn : Run → List Item → Type 0
AreOwn r [] = Unit {0}
AreOwn r (i ∷ is) = AreUpTo (length (line_in r i).sessions) (entries_in (line_in r i).happenings) × AreOwn (run_after r i) is

block_lines : (conn : ℕ) (place : Place) (r : Run) (is : List Item) → AreOwn r is → IsTame (length r.sessions) r.world
    → world_view conn place (run_past r is).world ≡ world_view conn place r.world ++ block conn place (filter_map message_in (signs_in r is))
block_lines conn place r [] own t = sym (append-nil (world_view conn place r.world))
block_lines conn place r (i ∷ is) own t =
    let n = length (line_in r i).sessions in
    let xs = (line_in r i).happenings in
    let begun : IsTame n r.world = tame_more (length r.sessions) n r.world (grows r i) t in
    let later = filter_map message_in (signs_in (run_after r i) is) in
    block_lines conn place (run_after r i) is own.1 (tame_past n r.world (entries_in xs) begun own.0)
    ∙ ap (λ (ms : List (List (List ℕ))). ms ++ block conn place later) (block_past conn n place r.world xs begun own.0)
    ∙ append_assoc (world_view conn place r.world) (block conn place (messages_from n r.world xs)) (block conn place later)
    ∙ ap (λ (ms : List (List (List ℕ))). world_view conn place r.world ++ ms) (sym (ap (block conn place) (filter_map-append message_in (signs_from n r.world xs) (signs_in (run_after r i) is)) ∙ flat_map-append (picked conn place) (messages_from n r.world xs) later))

-- a connection's messages from a place are its view there
pub blocks_of_own : (s : Setup) (items : List Item) → AreOwn (run_opening s) items → (conn : ℕ) (place : Place) → block conn place (messages s items) ≡ world_view conn place (world_of s items)
blocks_of_own s items own conn place =
    sym (block_lines conn place (run_opening s) items own (tame_opening s) ∙ ap (λ (ms : List (List (List ℕ))). ms ++ block conn place (messages s items)) (view_opening conn place s))

-- ---- scripts

own_lines : (s : Seen) (r : Run) (ls : List (List ℕ)) (is : List Item) → AreItems s ls is → length s.opened ≡ length r.sessions → AreOwn r is
own_lines s r [] [] a e = tt
own_lines s r [] (i ∷ is) a e = absurd a
own_lines s r (line ∷ ls) [] a e = absurd a
own_lines s r (line ∷ ls) (i ∷ is) a e = (line_up_to s r i a.1 e, own_lines (next s i) (run_after r i) ls is a.2 (count_next s r i e))

pub blocks_of : (s : Setup) (symbols bytes : List ℕ) (items : List Item) → IsScript symbols bytes items → (conn : ℕ) (place : Place) → block conn place (messages s items) ≡ world_view conn place (world_of s items)
blocks_of s symbols bytes items script = blocks_of_own s items (own_lines (start symbols) (run_opening s) (lines_in bytes) items script refl)
