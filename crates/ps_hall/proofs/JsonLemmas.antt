-- Objects with free keys, and that the JSON of the lines has no float, so its text is named.
use Rattle.std.proofs.Common.{◌≡◌, ℕ, Bool, true, false, ◌||◌, ◌<◌, ◌∙◌, List, [], ◌∷◌, ◌++◌, codes, length, map, Bor, arith, append_assoc, sym, ap, Option, Some, None, String, Global, Ordering, Less, Equal, Greater, nat_cmp, refl}
use Rattle.std.specs.Cmp.Lexicographic.{slice_cmp}
use Rattle.std.specs.Ordering.{match_ordering}
use Rattle.std.proofs.lemmas.Bool.{or_parts}
use Rattle.serde_json.specs.declared.value.Value.{Value}
use Rattle.serde_json.specs.Data.{Data, string, object, Members, no_members, member, put}
use Rattle.serde_json.specs.View.{items_of, members_view}
use Rattle.serde_json.specs.Written.{has_float, items_have_float, members_have_float}
use Rattle.std.specs.Prelude.{find}
use Rattle.std.specs.List.{filter}
use Rattle.ps_pms.specs.Lookups.{is_by, is_to}
use Rattle.ps_pms.specs.declared.asked.Asked.{Asked}
use Rattle.ps_ladder.specs.declared.searches.Search.{Search}
use Rattle.ps_hall.specs.Lookups.{searched, games_of}
use Rattle.ps_hall.specs.declared.game.Game.{Game}
use Rattle.serde_json.specs.Written.{items_text}
use Rattle.json.specs.Print.{quoted, escape_byte}
use Rattle.std.specs.Prelude.{slice_index_or}
use Rattle.rules_start.specs.Starts.{battle_id, battle_title}
use Rattle.ps_hall.specs.Lines.{search_line, challenge_line, games_data, games_text, game_member, made_text, got_text, with_game, with_games, object_or_null, search_data, asked_data, with_asked, challenge_data}

-- ---- null where there is no member

pub some_members : (es : List (String Global × Value)) → (length es ≡ 0 → ⊥) → object_or_null (members_view es) ≡ object (members_view es)
some_members [] h = absurd (h refl)
some_members (e ∷ es) h = refl

-- ---- no floats

abbrev pub ArePlain : Members → Type 0
ArePlain ms = members_have_float ms ≡ false

put_plain_at : (o : Ordering) (k l s : List ℕ) (e : Data) (ms : Members) → ArePlain (member l e ms) → ArePlain (put k (string s) ms)
    → ArePlain (match_ordering o (member k (string s) (member l e ms)) (member l (string s) ms) (member l e (put k (string s) ms)))
put_plain_at Less k l s e ms plain later = plain
put_plain_at Equal k l s e ms plain later = (or_parts (has_float e) (members_have_float ms) plain).1
put_plain_at Greater k l s e ms plain later = rw later (first_plain (has_float e) (members_have_float ms) plain)
  where
    first_plain : (a b : Bool) → (a || b) ≡ false → (a || false) ≡ false
    first_plain true b e = e
    first_plain false b e = refl

-- a text at a key adds no float
put_plain : (k s : List ℕ) (ms : Members) → ArePlain ms → ArePlain (put k (string s) ms)
put_plain k s no_members plain = refl
put_plain k s (member l e ms) plain = put_plain_at (slice_cmp nat_cmp k l) k l s e ms plain (put_plain k s ms (or_parts (has_float e) (members_have_float ms) plain).1)

games_plain : (gs : List Game) (ms : Members) → ArePlain ms → ArePlain (with_games ms gs)
games_plain [] ms plain = plain
games_plain (g ∷ gs) ms plain = games_plain gs (with_game ms g) (put_plain _ _ ms plain)

or_null_plain : (ms : Members) → ArePlain ms → has_float (object_or_null ms) ≡ false
or_null_plain no_members plain = refl
or_null_plain (member k d ms) plain = plain

texts_plain : (texts : List (List ℕ)) → items_have_float (items_of (map string texts)) ≡ false
texts_plain [] = refl
texts_plain (text ∷ texts) = texts_plain texts

pub search_plain : (gs : List Game) (formats : List (List ℕ)) → has_float (search_data gs formats) ≡ false
search_plain gs formats = rw (or_null_plain (with_games no_members gs) (games_plain gs no_members refl), texts_plain formats) refl

asked_plain : (made : Option Asked) → has_float (asked_data made) ≡ false
asked_plain None = refl
asked_plain (Some a) = refl

got_plain : (got : List Asked) (ms : Members) → ArePlain ms → ArePlain (with_asked ms got)
got_plain [] ms plain = plain
got_plain (a ∷ got) ms plain = got_plain got (put a.by (string a.format) ms) (put_plain a.by a.format ms plain)

pub challenge_plain : (made : Option Asked) (got : List Asked) → has_float (challenge_data made got) ≡ false
challenge_plain made got = rw (asked_plain made, got_plain got no_members refl) refl

pub some_games_plain : (gs : List Game) → has_float (games_data gs) ≡ false
some_games_plain gs = or_null_plain (with_games no_members gs) (games_plain gs no_members refl)

-- ---- as they are written

-- pieces that are pushed behind one another
pub three : (old a b c whole s1 s2 s3 : List ℕ) → s1 ≡ old ++ a → s2 ≡ s1 ++ b → s3 ≡ s2 ++ c → whole ≡ a ++ (b ++ c) → s3 ≡ old ++ whole
three old a b c whole s1 s2 s3 one two last is =
    last
    ∙ ap (λ (s : List ℕ). s ++ c) two
    ∙ append_assoc s1 b c
    ∙ ap (λ (s : List ℕ). s ++ (b ++ c)) one
    ∙ append_assoc old a (b ++ c)
    ∙ ap (λ (s : List ℕ). old ++ s) (sym is)

pub five : (old a b c d e whole s1 s2 s3 s4 s5 : List ℕ) → s1 ≡ old ++ a → s2 ≡ s1 ++ b → s3 ≡ s2 ++ c → s4 ≡ s3 ++ d → s5 ≡ s4 ++ e
    → whole ≡ a ++ (b ++ (c ++ (d ++ e))) → s5 ≡ old ++ whole
five old a b c d e whole s1 s2 s3 s4 s5 one two then_c then_d last is =
    three old a b (c ++ (d ++ e)) whole s1 s2 s5 one two (three s2 c d e (c ++ (d ++ e)) s3 s4 s5 then_c then_d last refl) is

pub no_games : (games : List (Bor Game)) → length games < 1 → games_text (map (λ x. x.now) games) ≡ codes "null"
unfolding games_text
no_games [] few = refl
no_games (g ∷ games) few = absurd (omega (arith, few))

-- one battle is the one member of its object
pub one_game : (g : Game) → games_text (g ∷ []) ≡ codes "{" ++ (game_member g ++ codes "}")
unfolding games_text game_member
one_game g = ap (λ (x : List ℕ). 123 ∷ x) (sym (
    append_assoc (quoted (battle_id g.format g.number)) (58 ∷ title) (codes "}")))
  where
    title : List ℕ
    title = quoted (battle_title (slice_index_or g.players 0 []) (slice_index_or g.players 1 []))

pub search_text : (gs : List Game) (ss : List Search) (id : List ℕ) → search_line gs ss id
    ≡ codes "|updatesearch|{\"games\":" ++ (games_text (games_of gs id) ++ (codes ",\"searching\":[" ++ (items_text false (items_of (map string (searched ss id))) ++ codes "}")))
unfolding escape_byte games_text search_line
search_text gs ss id = refl

pub made_none : made_text None ≡ codes "null"
unfolding made_text
made_none = refl

pub made_some : (a : Asked) → made_text (Some a) ≡ codes "{\"format\":" ++ (quoted a.format ++ (codes ",\"to\":" ++ (quoted a.to ++ codes "}")))
unfolding escape_byte made_text
made_some a = refl

pub some_got_plain : (got : List Asked) → has_float (object (with_asked no_members got)) ≡ false
some_got_plain got = got_plain got no_members refl

pub none_got : (got : List (Bor Asked)) → length got < 1 → got_text (map (λ x. x.now) got) ≡ codes "{}"
unfolding got_text
none_got [] few = refl
none_got (a ∷ got) few = absurd (omega (arith, few))

-- one challenge is the one member of its object
pub one_got : (a : Asked) → got_text (a ∷ []) ≡ codes "{" ++ (quoted a.by ++ (codes ":" ++ (quoted a.format ++ codes "}")))
unfolding got_text
one_got a = refl

pub challenge_text : (asked : List Asked) (id : List ℕ) → challenge_line asked id
    ≡ codes "|updatechallenges|{\"challengeTo\":" ++ (made_text (find (is_by id) asked) ++ (codes ",\"challengesFrom\":" ++ (got_text (filter (is_to id) asked) ++ codes "}")))
unfolding escape_byte made_text got_text challenge_line
challenge_text asked id = refl
