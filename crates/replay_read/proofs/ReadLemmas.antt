-- What is read of a transcript for a connection, from the hall and from each room, is its view there.
use Rattle.std.proofs.Common.{◌≡◌, ◌≢◌, ◌⊎◌, ℕ, suc, ◌<◌, ◌^◌, Bool, true, false, cond, ◌&&◌, List, [], ◌∷◌, ◌++◌, map, Option, Some, None, append_assoc, refl, sym, ap, ◌∙◌, inl, inr, arith}
use Rattle.std.specs.Prelude.{◌==◌}
use Rattle.std.specs.List.{flat_map}
use Rattle.std.specs.Option.{option_map_or}
use Rattle.std.proofs.lemmas.Bool.Decides.{nat_tests, eqb_tells}
use Rattle.std.proofs.lemmas.List.{map-append}
use Rattle.std.proofs.lemmas.List.Elements.{filter_map-append}
use Rattle.std.proofs.lemmas.Option.{same_Some}
use Rattle.ps_base.proofs.CutLemmas.{after_front-append}
use Rattle.ps_base.specs.Cuts.{after_front}
use Rattle.ps_base.specs.Messages.{sent, joined}
use Rattle.ps_room.specs.Stories.{Story, view_of}
use Rattle.replay_state.specs.Worlds.{Place, in_hall, in_room, World, story_at}
use Rattle.replay_state.specs.Entries.{world_of}
use Rattle.replay_state.specs.Transcript.{HasNoNewline, Message, Sign, told, over, with_id, messages, signs, same_place, picked, block}
use Rattle.replay_state.proofs.BlockLemmas.{blocks_of}
use Rattle.replay_read.specs.Readings.{text_of_room, text_of_hall, texts_of_room, texts_of_hall, text_to, AreNumbered, PrintsToBeRead, IsNoRoom, ReadsBack}
use Rattle.replay_read.proofs.ByteLemmas.{LacksNewline}
use Rattle.replay_read.proofs.TextLemmas.{AreConns, all_read}
use Rattle.replay_read.proofs.MessageLemmas.{IsOfPlace, IsOfRoom, AreOfPlaces, messages_placed}
use Rattle.replay_read.proofs.FewLemmas.{AreUnder, signs_few}
use Rattle.replay_read.proofs.NameLemmas.{ids_plain, ids_apart}

-- ---- heads

turned : (b : ℕ) → (b == 10) ≡ false → (10 == b) ≡ false
turned b is = grind (arith, nat_tests)

-- the line of another id, where neither has a newline
other_head : (id other s y : List ℕ) → LacksNewline id → LacksNewline other → id ≢ other → after_front (id ++ 10 ∷ s) (other ++ 10 ∷ y) ≡ None
other_head [] [] s y p q apart = absurd (apart refl)
other_head [] (b ∷ other) s y p q apart = rw (turned b q.0) refl
other_head (a ∷ id) [] s y p q apart = rw p.0 refl
other_head (a ∷ id) (b ∷ other) s y p q apart = elim (eqb_tells a b) [
  | inl same ↦ rw same.0 (other_head id other s y p.1 q.1 (λ rest. apart (ap (λ (x : ℕ). x ∷ id) same.1 ∙ ap (λ (x : List ℕ). b ∷ x) rest)))
  | inr differ ↦ rw differ.0 refl
]

-- ---- one message

-- the text of lines, and lines, where they are to the connection
abbrev text_if : Bool → Option (List ℕ) → List (List ℕ) → List (List ℕ)
text_if own id lines = cond own (map joined (sent (with_id id lines))) []

abbrev lines_if : Bool → Bool → List (List ℕ) → List (List (List ℕ))
lines_if own here lines = cond (own && here) (lines ∷ []) []

hall_from_hall : (own : Bool) (bytes : List ℕ) (rest : List (List ℕ)) → texts_of_hall (text_if own None ((124 ∷ bytes) ∷ rest)) ≡ map joined (lines_if own true ((124 ∷ bytes) ∷ rest))
hall_from_hall true bytes rest = refl
hall_from_hall false bytes rest = refl

hall_from_room : (own : Bool) (id line : List ℕ) (rest : List (List ℕ)) → texts_of_hall (text_if own (Some id) (line ∷ rest)) ≡ map joined (lines_if own false (line ∷ rest))
hall_from_room true id line rest = refl
hall_from_room false id line rest = refl

room_from_hall : (own : Bool) (id bytes : List ℕ) (rest : List (List ℕ)) → texts_of_room id (text_if own None ((124 ∷ bytes) ∷ rest)) ≡ map joined (lines_if own false ((124 ∷ bytes) ∷ rest))
room_from_hall true id bytes rest = refl
room_from_hall false id bytes rest = refl

abbrev as_list : Option (List ℕ) → List (List ℕ)
as_list None = []
as_list (Some text) = text ∷ []

room_from_same : (own : Bool) (id line : List ℕ) (rest : List (List ℕ)) → texts_of_room id (text_if own (Some id) (line ∷ rest)) ≡ map joined (lines_if own true (line ∷ rest))
room_from_same true id line rest =
    let text = ap (after_front (id ++ 10 ∷ [])) (sym (append_assoc id (10 ∷ []) (joined (line ∷ rest)))) ∙ after_front-append (id ++ 10 ∷ []) (joined (line ∷ rest)) in
    rw text refl
room_from_same false id line rest = refl

no_lines : (own : Bool) (lines : List (List ℕ)) → map joined (lines_if own false lines) ≡ []
no_lines true lines = refl
no_lines false lines = refl

without_newline : (id : List ℕ) → HasNoNewline id → LacksNewline id
without_newline [] none = tt
without_newline (b ∷ id) none =
    let other : b ≢ 10 = none 0 (omega arith) in
    let test : (b == 10) ≡ false = grind (arith, nat_tests) in
    (test, without_newline id (λ i lt. none (suc i) (omega (arith, lt))))

room_from_other : (own : Bool) (id other line : List ℕ) (rest : List (List ℕ)) → LacksNewline id → LacksNewline other → id ≢ other
    → texts_of_room id (text_if own (Some other) (line ∷ rest)) ≡ map joined (lines_if own false (line ∷ rest))
room_from_other true id other line rest p q apart = rw (other_head id other [] (joined (line ∷ rest)) p q apart) refl
room_from_other false id other line rest p q apart = refl

-- ---- all messages

module _ (conn : ℕ) where
  hall_one : (w : World) (m : Message) (place : Place) → m.place ≡ place → IsOfPlace w place m.id m.lines
      → texts_of_hall (text_if (m.conn == conn) m.id m.lines) ≡ map joined (lines_if (m.conn == conn) (same_place in_hall place) m.lines)
  hall_one w m in_hall is of =
      ap (λ (id : Option (List ℕ)). texts_of_hall (text_if (m.conn == conn) id m.lines)) of.no_id
      ∙ ap (λ (lines : List (List ℕ)). texts_of_hall (text_if (m.conn == conn) None lines)) of.lines_are
      ∙ hall_from_hall (m.conn == conn) of.bytes of.rest
      ∙ ap (λ (lines : List (List ℕ)). map joined (lines_if (m.conn == conn) true lines)) (sym of.lines_are)
  hall_one w m (in_room number) is of =
      ap (λ (id : Option (List ℕ)). texts_of_hall (text_if (m.conn == conn) id m.lines)) of.id_is
      ∙ ap (λ (lines : List (List ℕ)). texts_of_hall (text_if (m.conn == conn) (Some of.story.opening.id) lines)) of.lines_are
      ∙ hall_from_room (m.conn == conn) of.story.opening.id of.line of.rest
      ∙ ap (λ (lines : List (List ℕ)). map joined (lines_if (m.conn == conn) false lines)) (sym of.lines_are)

  from_hall : (w : World) (ms : List Message) → AreOfPlaces w ms → texts_of_hall (flat_map (text_to conn) ms) ≡ map joined (block conn in_hall ms)
  from_hall w [] of = refl
  from_hall w (m ∷ ms) of =
      filter_map-append text_of_hall (text_to conn m) (flat_map (text_to conn) ms)
      ∙ ap (λ (texts : List (List ℕ)). texts ++ texts_of_hall (flat_map (text_to conn) ms)) (hall_one w m m.place refl of.0)
      ∙ ap (λ (texts : List (List ℕ)). map joined (picked conn in_hall m) ++ texts) (from_hall w ms of.1)
      ∙ sym (map-append joined (picked conn in_hall m) (block conn in_hall ms))

  module _ (w : World) (number : ℕ) (story : Story) (here : story_at number w ≡ Some story)
      (plain : (n : ℕ) (t : Story) → story_at n w ≡ Some t → LacksNewline t.opening.id)
      (apart : (n k : ℕ) (t u : Story) → story_at n w ≡ Some t → story_at k w ≡ Some u → t.opening.id ≡ u.opening.id → n ≡ k) where
    abbrev head : List ℕ
    head = story.opening.id

    room_of_room : (m : Message) (other : ℕ) → IsOfRoom w other m.id m.lines
        → texts_of_room head (text_if (m.conn == conn) m.id m.lines) ≡ map joined (lines_if (m.conn == conn) (number == other) m.lines)
    room_of_room m other of =
        ap (λ (id : Option (List ℕ)). texts_of_room head (text_if (m.conn == conn) id m.lines)) of.id_is
        ∙ ap (λ (lines : List (List ℕ)). texts_of_room head (text_if (m.conn == conn) (Some of.story.opening.id) lines)) of.lines_are
        ∙ by_number (eqb_tells number other)
        ∙ ap (λ (lines : List (List ℕ)). map joined (lines_if (m.conn == conn) (number == other) lines)) (sym of.lines_are)
      where
        by_number : (((number == other) ≡ true) × (number ≡ other)) ⊎ (((number == other) ≡ false) × (number ≢ other))
            → texts_of_room head (text_if (m.conn == conn) (Some of.story.opening.id) (of.line ∷ of.rest)) ≡ map joined (lines_if (m.conn == conn) (number == other) (of.line ∷ of.rest))
        by_number (inl same) =
            let one : Some of.story ≡ Some story = sym of.here ∙ ap (λ (n : ℕ). story_at n w) (sym same.1) ∙ here in
            rw same.0 (ap (λ (s : Story). texts_of_room head (text_if (m.conn == conn) (Some s.opening.id) (of.line ∷ of.rest))) (same_Some of.story story one)
            ∙ room_from_same (m.conn == conn) head of.line of.rest)
        by_number (inr differ) =
            rw differ.0 (room_from_other (m.conn == conn) head of.story.opening.id of.line of.rest (plain number story here) (plain other of.story of.here)
            (λ is. differ.1 (apart number other story of.story here of.here is)))

    room_one : (m : Message) (place : Place) → IsOfPlace w place m.id m.lines
        → texts_of_room head (text_if (m.conn == conn) m.id m.lines) ≡ map joined (lines_if (m.conn == conn) (same_place (in_room number) place) m.lines)
    room_one m in_hall of =
        ap (λ (id : Option (List ℕ)). texts_of_room head (text_if (m.conn == conn) id m.lines)) of.no_id
        ∙ ap (λ (lines : List (List ℕ)). texts_of_room head (text_if (m.conn == conn) None lines)) of.lines_are
        ∙ room_from_hall (m.conn == conn) head of.bytes of.rest
        ∙ ap (λ (lines : List (List ℕ)). map joined (lines_if (m.conn == conn) false lines)) (sym of.lines_are)
    room_one m (in_room other) of = room_of_room m other of

    from_room : (ms : List Message) → AreOfPlaces w ms → texts_of_room head (flat_map (text_to conn) ms) ≡ map joined (block conn (in_room number) ms)
    from_room [] of = refl
    from_room (m ∷ ms) of =
        filter_map-append (text_of_room head) (text_to conn m) (flat_map (text_to conn) ms)
        ∙ ap (λ (texts : List (List ℕ)). texts ++ texts_of_room head (flat_map (text_to conn) ms)) (room_one m m.place of.0)
        ∙ ap (λ (texts : List (List ℕ)). map joined (picked conn (in_room number) m) ++ texts) (from_room ms of.1)
        ∙ sym (map-append joined (picked conn (in_room number) m) (block conn (in_room number) ms))

  -- no room has this id
  module _ (w : World) (id : List ℕ) (no_newline : LacksNewline id) (none : IsNoRoom w id)
      (plain : (n : ℕ) (t : Story) → story_at n w ≡ Some t → LacksNewline t.opening.id) where
    nowhere_one : (m : Message) (place : Place) → IsOfPlace w place m.id m.lines → texts_of_room id (text_if (m.conn == conn) m.id m.lines) ≡ []
    nowhere_one m in_hall of =
        ap (λ (head : Option (List ℕ)). texts_of_room id (text_if (m.conn == conn) head m.lines)) of.no_id
        ∙ ap (λ (lines : List (List ℕ)). texts_of_room id (text_if (m.conn == conn) None lines)) of.lines_are
        ∙ room_from_hall (m.conn == conn) id of.bytes of.rest
        ∙ no_lines (m.conn == conn) ((124 ∷ of.bytes) ∷ of.rest)
    nowhere_one m (in_room other) of =
        ap (λ (head : Option (List ℕ)). texts_of_room id (text_if (m.conn == conn) head m.lines)) of.id_is
        ∙ ap (λ (lines : List (List ℕ)). texts_of_room id (text_if (m.conn == conn) (Some of.story.opening.id) lines)) of.lines_are
        ∙ room_from_other (m.conn == conn) id of.story.opening.id of.line of.rest no_newline (plain other of.story of.here) (λ is. none other of.story of.here (sym is))
        ∙ no_lines (m.conn == conn) (of.line ∷ of.rest)

    from_nowhere : (ms : List Message) → AreOfPlaces w ms → texts_of_room id (flat_map (text_to conn) ms) ≡ []
    from_nowhere [] of = refl
    from_nowhere (m ∷ ms) of =
        filter_map-append (text_of_room id) (text_to conn m) (flat_map (text_to conn) ms)
        ∙ ap (λ (texts : List (List ℕ)). texts ++ texts_of_room id (flat_map (text_to conn) ms)) (nowhere_one m m.place of.0)
        ∙ from_nowhere ms of.1

-- ---- what is printed

numbered : (ss : List Sign) → AreNumbered ss → AreConns ss
numbered [] few = tt
numbered (told m ∷ ss) few = (omega (arith, few.0), numbered ss few.1)
numbered (over conn ∷ ss) few = (omega (arith, few.0), numbered ss few.1)

pub to_be_read : PrintsToBeRead
to_be_read conn signs small few = all_read conn (omega (arith, small)) signs (numbered signs few)

-- ---- a script

conns : (ss : List Sign) → AreUnder 1024 ss → AreConns ss
conns [] few = tt
conns (told m ∷ ss) few = (omega (arith, few.0), conns ss few.1)
conns (over conn ∷ ss) few = (omega (arith, few.0), conns ss few.1)

-- what is printed of a script is read back
pub read_back : ReadsBack
read_back s symbols bytes items script own plain few =
    let w = world_of s items in
    let placed = messages_placed s items in
    let all = λ (conn : ℕ) (small : conn < 2 ^ 32). all_read conn (omega (arith, small)) (signs s items) (conns (signs s items) (signs_few s symbols bytes items script)) in
    record {
      all = all;
      hall = λ conn small. ap texts_of_hall (all conn small) ∙ from_hall conn w (messages s items) placed ∙ ap (map joined) (blocks_of s symbols bytes items script conn in_hall);
      room = λ conn number story small here.
          ap (texts_of_room story.opening.id) (all conn small)
          ∙ from_room conn w number story here (ids_plain s items own plain few) (ids_apart s items own plain few) (messages s items) placed
          ∙ ap (map joined) (blocks_of s symbols bytes items script conn (in_room number) ∙ ap (λ (found : Option Story). option_map_or (view_of conn) found []) here);
      nowhere = λ conn id small clean none.
          ap (texts_of_room id) (all conn small)
          ∙ from_nowhere conn w id (without_newline id clean) none (ids_plain s items own plain few) (messages s items) placed;
    }
