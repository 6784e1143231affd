-- The rooms of a world have ids of their own, without newlines.
use Rattle.std.proofs.Common.{◌≡◌, ℕ, zero, suc, ◌+◌, ◌-◌, ◌^◌, ◌<◌, ◌≤◌, Bool, true, false, true≢false, List, [], ◌∷◌, ◌++◌, length, map, drop, codes, decimal, bytes_eq, cond, Option, Some, None, All, IfSome, IsSome, refl, sym, ap, ◌∙◌, subst, arith, append_assoc}
use Rattle.std.specs.Prelude.{slice_get, slice_set, nat_lt}
use Rattle.std.specs.List.{list_all, position_or_len}
use Rattle.std.specs.Option.{option_map_or, option_map}
use Rattle.std.specs.Str.Parse.{AllDigits}
use Rattle.std.proofs.lemmas.Bool.{and_parts, eq-eqb, ne_eqb, ltb-true, ltb-false}
use Rattle.std.proofs.lemmas.Fmt.{decimal_is_IsNumeral, decimal_injective}
use Rattle.std.proofs.lemmas.List.{map-append, length-append, length-map}
use Rattle.std.proofs.lemmas.List.Elements.{All-head, All-tail, All-map}
use Rattle.std.proofs.lemmas.List.Sums.{passes_at_first}
use Rattle.std.proofs.lemmas.Option.{same_Some, slice_get-map, slice_get_within, get_or_from_slice_get}
use Rattle.std.proofs.lemmas.Slice.Eq.{bytes_eq-Decides}
use Rattle.std.proofs.lemmas.Str.Parse.{digit_from_value}
use Rattle.ps_base.specs.Characters as characters
use Rattle.ps_base.specs.Ids.{id_of, is_id, is_id_byte}
use Rattle.ps_base.specs.Limits.{most_battles}
use Rattle.ps_base.specs.declared.badge.Badge.{Badge}
use Rattle.ps_base.specs.declared.hall_why.HallWhy.{HallWhy}
use Rattle.ps_lines.specs.declared.command.HallCmd.{HallCmd}
use Rattle.ps_lines.specs.declared.command.HallCmd.TheVariants.{Open, Quit, Bad, Name, Team, Search, Accept, Report}
use Rattle.ps_rules.specs.declared.table.Format.{Format}
use Rattle.ps_rules.specs.Resolve.{format_index, at_its_index, format_of}
use Rattle.rules_config.specs.declared.settings.ChatRoom.{ChatRoom}
use Rattle.rules_config.specs.declared.settings.Settings.{Settings}
use Rattle.rules_start.specs.Starts.{battle_id}
use Rattle.rules_start.specs.declared.start.Start.{Start}
use Rattle.ps_pms.specs.declared.asked.Asked.{Asked}
use Rattle.ps_ladder.specs.declared.searches.Search.{Search as Waiting}
use Rattle.ps_hall.specs.declared.entry.HallEntry.{HallEntry}
use Rattle.ps_hall.specs.declared.game.Game.{Game}
use Rattle.ps_hall.specs.declared.kept.KeptTeam.{KeptTeam}
use Rattle.ps_hall.specs.Halls as halls
use Rattle.ps_hall.specs.Records.{Record as HallRecord}
use Rattle.ps_hall.specs.Lookups.{badge_of, format_in, legal_team, kept_team, challenge_from, opponent, game_in}
use Rattle.ps_hall.specs.Refusals.{of_search, of_accepted, of_accept, refusal_of_search, refusal_of_accept, refusal_of_named, refusal_by, refusal}
use Rattle.ps_hall.specs.Starts.{start_if, start_of_match, start_of_search, start_of_challenge, start_of_accept, with_start}
use Rattle.ps_hall.specs.Steps.{forgotten_if, with_search, with_accept, after_team, reported, after_named, after_by, applied, start_of_named, start_by, start_of}
use Rattle.ps_hall.proofs.ApplyLemmas.{few_search, few_asked}
use Rattle.ps_hall.proofs.StepLemmas.{StartsAt, entry_counts}
use Rattle.ps_room.specs.declared.entry.Entry.{Entry}
use Rattle.ps_room.specs.Openings.{chats_from, first_battle}
use Rattle.ps_room.specs.Stories.{Story}
use Rattle.replay_script.specs.declared.item.Item.{Item}
use Rattle.replay_state.specs.declared.place.Placed.{Placed}
use Rattle.replay_state.specs.declared.place.Placed.TheVariants.{Hall, Room}
use Rattle.replay_state.specs.Setup.{Setup}
use Rattle.replay_state.specs.Worlds.{World, no_story, world_opening, hall_in, story_at, more, opening_in, with_battle, started_by, with_hall, world_after}
use Rattle.replay_state.specs.Entries.{worlds_after, run_opening, entries_in, happenings_from, world_of}
use Rattle.replay_state.proofs.HistoryLemmas.{hall_more}
use Rattle.replay_state.proofs.NumberLemmas.{IsNumbered, numbered_opening, numbered_after, story_of}
use Rattle.replay_state.proofs.PlaceLemmas.{world_past}
use Rattle.replay_state.proofs.ViewLemmas.{after_if}
use Rattle.replay_drill.specs.Plain.{IsPlain, HasPlainFormats}
use Rattle.replay_read.proofs.ByteLemmas.{Lacks, LacksNewline, lacks_append}
use Rattle.program_commands.specs.Rooms.{HasOwnRooms}

-- ---- bytes that a text lacks

not_behind : (c : ℕ) (front back : List ℕ) → Lacks c (front ++ c ∷ back) → ⊥
not_behind c [] back lacks = true≢false (sym (eq-eqb c c refl) ∙ lacks.0)
not_behind c (b ∷ front) back lacks = not_behind c front back lacks.1

-- what is behind the last of a byte
same_behind : (c : ℕ) (fs gs one two : List ℕ) → Lacks c one → Lacks c two → fs ++ c ∷ one ≡ gs ++ c ∷ two → one ≡ two
same_behind c [] [] one two a b e = ap (drop 1) e
same_behind c [] (g ∷ gs) one two a b e = absurd (not_behind c gs two (subst (Lacks c) (ap (drop 1) e) a))
same_behind c (f ∷ fs) [] one two a b e = absurd (not_behind c fs one (subst (Lacks c) (sym (ap (drop 1) e)) b))
same_behind c (f ∷ fs) (g ∷ gs) one two a b e = same_behind c fs gs one two a b (ap (drop 1) e)

id_lacks : (c : ℕ) (id : List ℕ) → is_id_byte c ≡ false → is_id id ≡ true → Lacks c id
id_lacks c [] out e = tt
id_lacks c (b ∷ bs) out e =
    let parts = and_parts (is_id_byte b) (list_all is_id_byte bs) e in
    (ne_eqb b c (λ same. true≢false (sym parts.0 ∙ ap is_id_byte same ∙ out)), id_lacks c bs out parts.1)

digits_lack : (c : ℕ) (ds : List ℕ) → c < 48 → AllDigits 10 ds → Lacks c ds
digits_lack c [] low all = tt
digits_lack c (d ∷ ds) low all = (ne_eqb d c (λ same. omega (arith, low, same, (digit_from_value d all.0).0)), digits_lack c ds low all.1)

decimal_lacks : (c n : ℕ) → c < 48 → n < 2 ^ 64 → Lacks c (decimal n)
decimal_lacks c n low small = digits_lack c (decimal n) low (decimal_is_IsNumeral n small).0.1

abbrev IsPlainByte : ℕ → Type 0
IsPlainByte b = (characters.space ≤ b) × (b ≤ characters.tilde)

plain_lacks : (text : List ℕ) → All IsPlainByte text → LacksNewline text
plain_lacks [] all = tt
plain_lacks (b ∷ bs) all = (ne_eqb b 10 (λ same. omega (arith, same, (All-head IsPlainByte b bs all).0)), plain_lacks bs (All-tail IsPlainByte b bs all))

-- ---- the ids of battles

abbrev IsBattleId : ℕ → List ℕ → Type 0
IsBattleId n id = (format : List ℕ) × LacksNewline format × (id ≡ battle_id format n)

battle_lacks : (format : List ℕ) (n : ℕ) → n < 2 ^ 64 → LacksNewline format → LacksNewline (battle_id format n)
battle_lacks format n small lacks =
    let rest = lacks_append 10 (format ++ codes "-") (decimal n) (lacks_append 10 format (codes "-") lacks (refl, tt)) (decimal_lacks 10 n (omega arith) small) in
    (refl, (refl, (refl, (refl, (refl, (refl, (refl, rest)))))))

-- which no id of a chat room is
has_hyphen : (format : List ℕ) (n : ℕ) → Lacks characters.hyphen (battle_id format n) → ⊥
has_hyphen format n lacks = true≢false lacks.1.1.1.1.1.1.0

same_number : (f g : List ℕ) (m n : ℕ) → m < 2 ^ 64 → n < 2 ^ 64 → battle_id f m ≡ battle_id g n → m ≡ n
same_number f g m n low small e =
    let behind : f ++ 45 ∷ decimal m ≡ g ++ 45 ∷ decimal n = sym (append_assoc f (codes "-") (decimal m)) ∙ ap (drop 7) e ∙ append_assoc g (codes "-") (decimal n) in
    decimal_injective m n low small
    (same_behind 45 f g (decimal m) (decimal n) (decimal_lacks 45 m (omega arith) low) (decimal_lacks 45 n (omega arith) small) behind)

-- ---- formats

format_by : (id : List ℕ) (f : Format) (fs : List Format) (t : Bool) → nat_lt (position_or_len (λ x. bytes_eq x.id id) (f ∷ fs)) (length (f ∷ fs)) ≡ t → All (λ x. IsPlain 128 x.id) (f ∷ fs)
    → IsSome (at_its_index (cond t (Some (position_or_len (λ x. bytes_eq x.id id) (f ∷ fs))) None) (f ∷ fs)) → LacksNewline id
format_by id f fs true within plain found =
    let place = position_or_len (λ x. bytes_eq x.id id) (f ∷ fs) in
    let lt : place < length (f ∷ fs) = ltb-true place (length (f ∷ fs)) within in
    subst LacksNewline ((bytes_eq-Decides _ id).0 (passes_at_first (λ x. bytes_eq x.id id) (f ∷ fs) f lt)) (plain_lacks _ (plain place f lt).plain)
format_by id f fs false within plain found = absurd cc

-- an id of a format
format_lacks : (id : List ℕ) (fs : List Format) → All (λ x. IsPlain 128 x.id) fs → IsSome (format_of id fs) → LacksNewline id
unfolding format_index
format_lacks id [] plain found = absurd cc
format_lacks id (f ∷ fs) plain found = format_by id f fs (nat_lt (position_or_len (λ x. bytes_eq x.id id) (f ∷ fs)) (length (f ∷ fs))) refl plain found

-- ---- the hall keeps its configuration

forgotten_config : (h : HallRecord) (me : Option (List ℕ)) → (forgotten_if h me).config ≡ h.config
forgotten_config h None = refl
forgotten_config h (Some me) = refl

started_config : (h : HallRecord) (rated : Bool) (start : Option Start) → (with_start h rated start).config ≡ h.config
started_config h rated None = refl
started_config h rated (Some start) = refl

team_config : (h : HallRecord) (me : List ℕ) (pack : Option (List ℕ)) → (after_team h me pack).config ≡ h.config
team_config h me None = refl
team_config h me (Some text) = refl

named_config : (h : HallRecord) (name : List ℕ) (cmd : HallCmd) → (after_named h name cmd).config ≡ h.config
named_config h name (Team pack) = team_config h (id_of name) pack
named_config h name (Search format) = started_config (with_search h name format) true (start_of_search h name format)
named_config h name (Accept user) = started_config (with_accept h (id_of name) user) false (start_of_accept h name user)
named_config h name other = refl

badge_config : (h : HallRecord) (badge : Option Badge) (cmd : HallCmd) → (after_by h badge cmd).config ≡ h.config
badge_config h None cmd = refl
badge_config h (Some badge) cmd = named_config h badge.name cmd

reported_config : (h : HallRecord) (number : ℕ) (winner : Option ℕ) (g : Option Game) → (reported h number winner g).config ≡ h.config
reported_config h number winner None = refl
reported_config h number winner (Some g) = refl

applied_config : (h : HallRecord) (conn : ℕ) (cmd : HallCmd) → (applied h conn cmd).config ≡ h.config
unfolding applied
applied_config h conn Open = refl
applied_config h conn Quit = forgotten_config h (option_map (λ b. id_of b.name) (badge_of h conn))
applied_config h conn (Bad why) = refl
applied_config h conn (Name name assertion) = refl
applied_config h conn (Report number winner) = reported_config h number winner (game_in h number)
applied_config h conn other = badge_config h (badge_of h conn) other

config_by : (v : Option HallWhy) (h : HallRecord) (conn : ℕ) (cmd : HallCmd) → (halls.after_by v h conn cmd).config ≡ h.config
config_by (Some why) h conn cmd = refl
config_by None h conn cmd = applied_config h conn cmd

entry_config : (h : HallRecord) (e : HallEntry) → (halls.after h e).config ≡ h.config
entry_config h e = config_by (halls.verdict h e) h e.conn e.cmd

-- ---- the battles that the hall starts

-- a format that there is, while one battle more may start
record IsPlayed (h : HallRecord) (format : List ℕ) : Type 0 where
  known : IsSome (format_in h format)
  few : h.started < most_battles

abbrev IsOfPlayed : HallRecord → Start → Type 0
IsOfPlayed h s = IsPlayed h s.format

if_played : (h : HallRecord) (format name me : List ℕ) (k : Option KeptTeam) → IsPlayed h format → IfSome (start_if h format k name (legal_team h me format)) (IsOfPlayed h)
if_played h format name me None p = tt
if_played h format name me (Some k) p = elim (legal_team h me format) as (λ l. IfSome (start_if h format (Some k) name l) (IsOfPlayed h)) [ None ↦ tt | Some l ↦ p ]

search_known : (h : HallRecord) (me format : List ℕ) (f : Option Format) → of_search h me format f ≡ None → IsSome f
search_known h me format None e = absurd cc
search_known h me format (Some f) e = refl

match_played : (h : HallRecord) (name format : List ℕ) (s : Option Waiting) → IsPlayed h format → IfSome (start_of_match h name format s) (IsOfPlayed h)
match_played h name format None p = tt
match_played h name format (Some s) p = if_played h format name (id_of name) (kept_team s.user format h.search_teams) p

search_played : (h : HallRecord) (name format : List ℕ) → refusal_of_search h (id_of name) format ≡ None → IfSome (start_of_search h name format) (IsOfPlayed h)
unfolding start_of_search refusal_of_search
search_played h name format e =
    let known : IsSome (format_in h format) = search_known h (id_of name) format (format_in h format) e in
    match_played h name format (opponent h (id_of name) format) (record { known = known; few = few_search h (id_of name) format e })

accepted_known : (h : HallRecord) (me : List ℕ) (f : Option Format) → of_accepted h me f ≡ None → IsSome f
accepted_known h me None e = absurd cc
accepted_known h me (Some f) e = refl

challenge_played : (h : HallRecord) (name : List ℕ) (a : Option Asked) → of_accept h (id_of name) a ≡ None → IfSome (start_of_challenge h name a) (IsOfPlayed h)
challenge_played h name None e = tt
challenge_played h name (Some a) e =
    let known : IsSome (format_in h a.format) = accepted_known h (id_of name) (format_in h a.format) e in
    if_played h a.format name (id_of name) (kept_team a.by (id_of name) h.challenge_teams) (record { known = known; few = few_asked h (id_of name) a e })

accept_played : (h : HallRecord) (name user : List ℕ) → refusal_of_accept h (id_of name) user ≡ None → IfSome (start_of_accept h name user) (IsOfPlayed h)
unfolding start_of_accept refusal_of_accept
accept_played h name user e = challenge_played h name (challenge_from h (id_of name) user) e

named_played : (h : HallRecord) (name : List ℕ) (cmd : HallCmd) → refusal_of_named h (id_of name) cmd ≡ None → IfSome (start_of_named h name cmd) (IsOfPlayed h)
named_played h name (Search format) e = search_played h name format e
named_played h name (Accept user) e = accept_played h name user e
named_played h name other e = tt

badge_played : (h : HallRecord) (badge : Option Badge) (cmd : HallCmd) → refusal_by h badge cmd ≡ None → IfSome (start_by h badge cmd) (IsOfPlayed h)
badge_played h None cmd e = tt
badge_played h (Some badge) cmd e = named_played h badge.name cmd e

applied_played : (h : HallRecord) (conn : ℕ) (cmd : HallCmd) → refusal h conn cmd ≡ None → IfSome (start_of h conn cmd) (IsOfPlayed h)
unfolding refusal start_of
applied_played h conn (Search format) e = badge_played h (badge_of h conn) (Search format) e
applied_played h conn (Accept user) e = badge_played h (badge_of h conn) (Accept user) e
applied_played h conn other e = tt

played_by : (v : Option HallWhy) (h : HallRecord) (conn : ℕ) (cmd : HallCmd) → refusal h conn cmd ≡ v → IfSome (halls.out_by v h conn cmd).start (IsOfPlayed h)
played_by (Some why) h conn cmd e = tt
played_by None h conn cmd e = applied_played h conn cmd e

entry_played : (h : HallRecord) (e : HallEntry) → IfSome (started_by h e) (IsOfPlayed h)
entry_played h e = played_by (halls.verdict h e) h e.conn e.cmd refl

-- ---- the ids of rooms

abbrev id_at : Story → List ℕ
id_at s = s.opening.id

abbrev ids_of : List Story → List (List ℕ)
ids_of ss = map id_at ss

abbrev room_ids : Settings → List (List ℕ)
room_ids config = map (λ room. room.id) config.rooms

-- those of battles with these numbers, in order
abbrev AreBattles : ℕ → List (List ℕ) → Type 0
AreBattles n [] = Unit {0}
AreBattles n (id ∷ ids) = IsBattleId n id × AreBattles (suc n) ids

-- The rooms for chat have their ids of the configuration, and each battle's has the battle's number in it.
record IsNamed (settings : Settings) (w : World) : Type 0 where
  numbered : IsNumbered w
  config : (hall_in w).config ≡ settings
  chats : ids_of w.chats ≡ room_ids settings
  battles : AreBattles 1 (ids_of w.battles)
  few : length (ids_of w.battles) ≤ most_battles

-- before the first entry
opened_ids : (s : Setup) (n : ℕ) (rooms : List ChatRoom) → ids_of (map no_story (chats_from s.config s.dex n rooms)) ≡ map (λ room. room.id) rooms
opened_ids s n [] = refl
opened_ids s n (room ∷ rooms) = ap (λ (ids : List (List ℕ)). room.id ∷ ids) (opened_ids s (suc n) rooms)

named_opening : (s : Setup) → length s.config.rooms ≤ 16 → IsNamed s.config (world_opening s)
named_opening s le = record {
  numbered = numbered_opening s le;
  config = refl;
  chats = opened_ids s 0 s.config.rooms;
  battles = tt;
  few = omega arith;
}

-- an entry of a room leaves the ids
set_ids : (ss : List Story) (place : ℕ) (s : Story) (e : Entry) → slice_get ss place ≡ Some s → ids_of (slice_set ss place (more s e)) ≡ ids_of ss
set_ids [] place s e is = refl
set_ids (x ∷ ss) zero s e is = ap (λ (y : Story). id_at y ∷ ids_of ss) (sym (same_Some x s is))
set_ids (x ∷ ss) (suc place) s e is = ap (λ (ids : List (List ℕ)). id_at x ∷ ids) (set_ids ss place s e is)

more_ids : (ss : List Story) (place : ℕ) (e : Entry) (o : Option Story) → slice_get ss place ≡ o → ids_of (option_map_or (λ s. slice_set ss place (more s e)) o ss) ≡ ids_of ss
more_ids ss place e None is = refl
more_ids ss place e (Some s) is = set_ids ss place s e is

room_named : (config : Settings) (w : World) (number : ℕ) (e : Entry) (b : Bool) → IsNumbered (after_if w number e b) → IsNamed config w → IsNamed config (after_if w number e b)
room_named config w number e true numbered n = record {
  numbered = numbered;
  config = n.config;
  chats = more_ids w.chats number e (slice_get w.chats number) refl ∙ n.chats;
  battles = n.battles;
  few = n.few;
}
room_named config w number e false numbered n =
    let same = sym (more_ids w.battles (number - first_battle) e (slice_get w.battles (number - first_battle)) refl) in
    record {
      numbered = numbered;
      config = n.config;
      chats = n.chats;
      battles = subst (AreBattles 1) same n.battles;
      few = subst (λ (ids : List (List ℕ)). length ids ≤ most_battles) same n.few;
    }

-- a battle that starts has the next number
one_more : (n number : ℕ) (ids : List (List ℕ)) (id : List ℕ) → number ≡ n + length ids → AreBattles n ids → IsBattleId number id → AreBattles n (ids ++ id ∷ [])
one_more n number [] id is all last = (subst (λ (k : ℕ). IsBattleId k id) (omega (arith, is)) last, tt)
one_more n number (x ∷ ids) id is all last = (all.0, one_more (suc n) number ids id (omega (arith, is)) all.1 last)

module _ (config : Settings) (plain : HasPlainFormats config) where
  begun_named : (w : World) (e : HallEntry) (o : Option Start) → IfSome o (IsOfPlayed (hall_in w)) → StartsAt o (hall_in w).started (halls.after (hall_in w) e).started
      → IsNumbered (with_battle (hall_in w) o (with_hall w e)) → IsNamed config w → IsNamed config (with_battle (hall_in w) o (with_hall w e))
  begun_named w e None played next numbered n = record {
    numbered = numbered;
    config = ap (λ (h : HallRecord). h.config) (hall_more w e) ∙ entry_config (hall_in w) e ∙ n.config;
    chats = n.chats;
    battles = n.battles;
    few = n.few;
  }
  begun_named w e (Some start) played next numbered n =
      let opening = opening_in (hall_in w) start in
      let lacks : LacksNewline start.format = format_lacks start.format (hall_in w).config.formats.formats (subst HasPlainFormats (sym n.config) plain) played.known in
      let ids : ids_of (w.battles ++ no_story opening ∷ []) ≡ ids_of w.battles ++ opening.id ∷ [] = map-append id_at w.battles (no_story opening ∷ []) in
      let count : length (ids_of w.battles) ≡ (hall_in w).started = length-map w.battles id_at ∙ n.numbered.started in
      let number : start.number ≡ 1 + length (ids_of w.battles) = omega (arith, count, next.0) in
      let few : length (ids_of w.battles ++ opening.id ∷ []) ≤ most_battles = omega (arith, length-append (ids_of w.battles) (opening.id ∷ []), count, played.few) in
      record {
        numbered = numbered;
        config = ap (λ (h : HallRecord). h.config) (hall_more w e) ∙ entry_config (hall_in w) e ∙ n.config;
        chats = n.chats;
        battles = subst (AreBattles 1) (sym ids) (one_more 1 start.number (ids_of w.battles) opening.id number n.battles (start.format, lacks, refl));
        few = subst (λ (x : List (List ℕ)). length x ≤ most_battles) (sym ids) few;
      }

  named_after : (w : World) (p : Placed) → IsNamed config w → IsNamed config (world_after w p)
  named_after w (Hall e) n = begun_named w e (started_by (hall_in w) e) (entry_played (hall_in w) e) (entry_counts (hall_in w) e) (numbered_after w (Hall e) n.numbered) n
  named_after w (Room number e) n = room_named config w number e (nat_lt number first_battle) (numbered_after w (Room number e) n.numbered) n

  named_worlds : (w : World) (ps : List Placed) → IsNamed config w → IsNamed config (worlds_after w ps)
  named_worlds w [] n = n
  named_worlds w (p ∷ ps) n = named_worlds (world_after w p) ps (named_after w p n)

-- ---- rooms by their ids

found_id : (ss : List Story) (k : ℕ) (s : Story) → slice_get ss k ≡ Some s → slice_get (ids_of ss) k ≡ Some s.opening.id
found_id ss k s is = slice_get-map id_at ss k ∙ ap (option_map id_at) is

battle_at : (n number k : ℕ) (ids : List (List ℕ)) (id : List ℕ) → number ≡ n + k → AreBattles n ids → slice_get ids k ≡ Some id → IsBattleId number id
battle_at n number k [] id is all e = absurd cc
battle_at n number zero (x ∷ ids) id is all e =
    let same : n ≡ number = omega (arith, is) in
    subst (λ (y : List ℕ). IsBattleId number y) (same_Some x id e) (subst (λ (m : ℕ). IsBattleId m x) same all.0)
battle_at n number (suc k) (x ∷ ids) id is all e = battle_at (suc n) number k ids id (omega (arith, is)) all.1 e

module _ (s : Setup) (items : List Item) (own : HasOwnRooms s.config) (plain : HasPlainFormats s.config) (few : length s.config.rooms ≤ 16) where
  abbrev w : World
  w = world_of s items

  named : IsNamed s.config w
  named = subst (IsNamed s.config) (sym (world_past (run_opening s) items)) (named_worlds s.config plain (world_opening s) (entries_in (happenings_from (run_opening s) items)) (named_opening s few))

  chat_at : (n : ℕ) (t : Story) → slice_get w.chats n ≡ Some t → slice_get (room_ids s.config) n ≡ Some t.opening.id
  chat_at n t is = sym (ap (λ (ids : List (List ℕ)). slice_get ids n) named.chats) ∙ found_id w.chats n t is

  chat_is_id : (n : ℕ) (t : Story) → slice_get w.chats n ≡ Some t → is_id t.opening.id ≡ true
  chat_is_id n t is =
      let there = chat_at n t is in
      subst (λ (id : List ℕ). is_id id ≡ true) (get_or_from_slice_get (room_ids s.config) n t.opening.id t.opening.id there)
      (All-map (λ id. is_id id ≡ true) (λ room. room.id) s.config.rooms own.ids n t.opening.id (slice_get_within (room_ids s.config) n t.opening.id there))

  battle_is : (n : ℕ) (t : Story) → slice_get w.battles n ≡ Some t → IsBattleId (1 + n) t.opening.id
  battle_is n t is = battle_at 1 (1 + n) n (ids_of w.battles) t.opening.id refl named.battles (found_id w.battles n t is)

  battle_small : (n : ℕ) (t : Story) → slice_get w.battles n ≡ Some t → 1 + n < 2 ^ 64
  battle_small n t is = omega (arith, slice_get_within (ids_of w.battles) n t.opening.id (found_id w.battles n t is), named.few)

  plain_by : (n : ℕ) (t : Story) (b : Bool) → story_of b n w ≡ Some t → LacksNewline t.opening.id
  plain_by n t true is = id_lacks 10 t.opening.id refl (chat_is_id n t is)
  plain_by n t false is =
      let battle = battle_is (n - first_battle) t is in
      subst LacksNewline (sym battle.2) (battle_lacks battle.0 (1 + (n - first_battle)) (battle_small (n - first_battle) t is) battle.1)

  -- the id of a room has no newline,
  pub ids_plain : (n : ℕ) (t : Story) → story_at n w ≡ Some t → LacksNewline t.opening.id
  ids_plain n t is = plain_by n t (nat_lt n first_battle) is

  chat_no_battle : (n k : ℕ) (t u : Story) → slice_get w.chats n ≡ Some t → slice_get w.battles k ≡ Some u → t.opening.id ≡ u.opening.id → ⊥
  chat_no_battle n k t u chat battle same =
      let of = battle_is k u battle in
      has_hyphen of.0 (1 + k) (subst (Lacks 45) (same ∙ of.2) (id_lacks 45 t.opening.id refl (chat_is_id n t chat)))

  same_battle : (n k : ℕ) (t u : Story) → slice_get w.battles n ≡ Some t → slice_get w.battles k ≡ Some u → t.opening.id ≡ u.opening.id → 1 + n ≡ 1 + k
  same_battle n k t u one two same =
      let first = battle_is n t one in
      let second = battle_is k u two in
      same_number first.0 second.0 (1 + n) (1 + k) (battle_small n t one) (battle_small k u two) (sym first.2 ∙ same ∙ second.2)

  apart_by : (n k : ℕ) (t u : Story) (b c : Bool) → nat_lt n first_battle ≡ b → nat_lt k first_battle ≡ c → story_of b n w ≡ Some t → story_of c k w ≡ Some u → t.opening.id ≡ u.opening.id → n ≡ k
  apart_by n k t u true true below small one two same = own.apart n k t.opening.id (chat_at n t one) (chat_at k u two ∙ ap Some (sym same))
  apart_by n k t u true false below small one two same = absurd (chat_no_battle n (k - first_battle) t u one two same)
  apart_by n k t u false true below small one two same = absurd (chat_no_battle k (n - first_battle) u t two one (sym same))
  apart_by n k t u false false below small one two same =
      omega (arith, ltb-false n 16 below, ltb-false k 16 small, same_battle (n - first_battle) (k - first_battle) t u one two same)

  -- and no two rooms have one
  pub ids_apart : (n k : ℕ) (t u : Story) → story_at n w ≡ Some t → story_at k w ≡ Some u → t.opening.id ≡ u.opening.id → n ≡ k
  ids_apart n k t u one two same = apart_by n k t u (nat_lt n first_battle) (nat_lt k first_battle) refl refl one two same
