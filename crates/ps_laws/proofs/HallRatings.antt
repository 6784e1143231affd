-- The ladder of each format is the fold over the won reports of its rated battles: none is dropped, since both players differ, and there are
-- never more results than battles that started.
use Rattle.std.proofs.Common.{◌≡◌, ℕ, zero, suc, ◌+◌, ◌<◌, ◌≤◌, Bool, true, false, cond, not, ◌&&◌, List, [], ◌∷◌, ◌++◌, length, Option, Some, None, option_map, find, All, append_assoc, append-nil, unwrap_or, IfSome, refl, sym, ap, ap₂, subst, ◌∙◌, arith, ℤ}
use Rattle.std.proofs.lemmas.Bool.{and_parts, not-true, lt-ltb, ltb-true}
use Rattle.std.proofs.lemmas.List.{length_push}
use Rattle.std.proofs.lemmas.List.Elements.{All-nil, All-append, All-cons}
use Rattle.std.proofs.lemmas.Slice.Eq.{bytes_eq-Decides}
use Rattle.std.proofs.lemmas.Map.Text.{is_eq-slice_cmp}
use Rattle.std.specs.Cmp.Lexicographic.{slice_cmp, nat_list_cmp_total}
use Rattle.std.specs.Ordering.{nat_cmp}
use Rattle.std.specs.FinMap.{get, insert, get-insert, get-empty}
use Rattle.std.specs.List.{filter}
use Rattle.std.specs.Str.{bytes_eq}
use Rattle.ps_base.specs.ById.{ById}
use Rattle.ps_base.specs.Ids.{id_of}
use Rattle.ps_base.specs.Limits.{most_battles}
use Rattle.ps_base.specs.declared.badge.Badge.{Badge}
use Rattle.ps_base.specs.declared.hall_why.HallWhy.{HallWhy}
use Rattle.ps_lines.specs.declared.command.HallCmd.{HallCmd}
use Rattle.ps_lines.specs.declared.command.HallCmd.TheVariants.{Open, Quit, Bad, Name, Team, Search, CancelSearch, Challenge, CancelChallenge, Reject, Accept, Block, Unblock, Report}
use Rattle.ps_valid.specs.declared.legal.Legal.{Legal}
use Rattle.rules_start.specs.declared.start.Start.{Start}
use Rattle.ps_pms.specs.Lookups.{asked_of}
use Rattle.ps_pms.specs.declared.asked.Asked.{Asked}
use Rattle.ps_ladder.specs.Ratings.{Won, Standing, standing_of, standing_after, IsOfTwo}
use Rattle.ps_ladder.specs.Waiting.{suits, found}
use Rattle.ps_ladder.specs.declared.searches.Search.{Search as Waiting}
use Rattle.ps_ladder.proofs.SumLemmas.{standing_more, balanced_of}
use Rattle.ps_hall.specs.declared.entry.HallEntry.{HallEntry}
use Rattle.ps_hall.specs.declared.game.Game.{Game}
use Rattle.ps_hall.specs.declared.kept.KeptTeam.{KeptTeam}
use Rattle.ps_hall.specs.Records.{Record}
use Rattle.ps_hall.specs.Lookups.{badge_of, ladder_in, player_id, has_number, game_in, is_kept, kept_team, challenge_from, opponent, legal_team, rating_in}
use Rattle.ps_hall.specs.Refusals.{is_winner, refusal_by, refusal, refusal_of_named}
use Rattle.ps_hall.specs.Starts.{start_if, start_of_match, start_of_search, start_of_challenge, start_of_accept, with_game, game_of}
use Rattle.ps_hall.specs.Steps.{winner_of, loser_of, standing_with, with_settled, settled_by, without_game, reported, forgotten, with_search, with_accept, after_team, after_named, after_by, applied}
use Rattle.ps_hall.specs.Halls.{verdict, after, run_record}
use Rattle.ps_hall.proofs.ApplyLemmas.{few_search, few_accept, winner_is}
use Rattle.ps_laws.specs.HallStories.{HallOpening, HallStory, hall_opened}
use Rattle.ps_laws.specs.HallRatings.{won_by, won_in, won_at, results_from, HallRatingsAreResults, IsHallWhole}
use Rattle.ps_laws.proofs.HallListLemmas.{find_passes}
use Rattle.ps_laws.proofs.HallEffects.{challenger}
use Rattle.ps_laws.proofs.HallMatches.{hall_matches_start}

-- ---- the books of the hall

-- the two players of a battle have other ids
abbrev AreApart : Game → Type 0
AreApart g = bytes_eq (player_id g 0) (player_id g 1) ≡ false

abbrev AllApart : List Game → Type 0
AllApart [] = Unit {0}
AllApart (g ∷ gs) = AreApart g × AllApart gs

-- Ladders after the results of each format, beside battles that go on, of so many that started.
record IsBook (ladders : ById Standing) (games : List Game) (started : ℕ) (results : List ℕ → List Won) : Type 0 where
  ladder : (format : List ℕ) → ladder_in ladders format ≡ standing_of (results format)
  few : (format : List ℕ) → length (results format) + length games ≤ started
  most : started ≤ most_battles
  apart : AllApart games
  two : (format : List ℕ) → All IsOfTwo (results format)

abbrev IsKept : Record → (List ℕ → List Won) → Type 0
IsKept h results = IsBook h.ladders h.games h.started results

-- ---- a battle starts

apart_put : (gs : List Game) (g : Game) → AllApart gs → AreApart g → AllApart (gs ++ g ∷ [])
apart_put [] g all new = (new, tt)
apart_put (x ∷ gs) g all new = (all.0, apart_put gs g all.1 new)

kept_start : (h : Record) (g : Game) (results : List ℕ → List Won) → h.started < most_battles → AreApart g → IsKept h results → IsKept (with_game h (Some g)) results
kept_start h g results room new b = record {
  ladder = b.ladder;
  few = λ format. (let few = b.few format in let one = length_push h.games g in omega (arith, few, one));
  most = omega (arith, room);
  apart = apart_put h.games g b.apart new;
  two = b.two;
}

other_id : (one two me : List ℕ) → bytes_eq one two ≡ true → bytes_eq two me ≡ false → bytes_eq one me ≡ false
other_id one two me same other = ap (λ (x : List ℕ). bytes_eq x me) ((bytes_eq-Decides one two).0 same) ∙ other

-- the players of a battle that starts
StartsApart : Option Start → Type 0
StartsApart o = IfSome o (λ (s : Start). bytes_eq (player_id (game_of true s) 0) (player_id (game_of true s) 1) ≡ false)

none_apart : StartsApart None
unfolding StartsApart
none_apart = tt

kept_maybe : (h : Record) (rated : Bool) (o : Option Start) (results : List ℕ → List Won) → h.started < most_battles → StartsApart o → IsKept h results → IsKept (with_game h (option_map (game_of rated) o)) results
unfolding StartsApart
kept_maybe h rated None results room new b = b
kept_maybe h rated (Some s) results room new b = kept_start h (game_of rated s) results room new b

start_apart : (h : Record) (format : List ℕ) (by to : List ℕ) (k : Option KeptTeam) (name : List ℕ) (legal : Option Legal) → IfSome k (λ (x : KeptTeam). is_kept by to x ≡ true) → bytes_eq by (id_of name) ≡ false → StartsApart (start_if h format k name legal)
unfolding StartsApart
start_apart h format by to None name legal is other = tt
start_apart h format by to (Some k) name None is other = tt
start_apart h format by to (Some k) name (Some legal) is other = other_id (id_of k.name) by (id_of name) (and_parts (bytes_eq (id_of k.name) by) (bytes_eq k.with_id to) is).0 other

found_by : (x : Waiting) (ss : List Waiting) (me format : List ℕ) (rating : ℤ) (s : Waiting) (b : Bool) → suits me format rating x ≡ b → cond b (Some x) (found ss me format rating) ≡ Some s → (found ss me format rating ≡ Some s → bytes_eq s.user me ≡ false) → bytes_eq s.user me ≡ false
found_by x ss me format rating s true is same more =
    let it : x ≡ s = cc in
    subst (λ (y : Waiting). bytes_eq y.user me ≡ false) it (not-true (bytes_eq x.user me) (and_parts (not (bytes_eq x.user me)) _ is).0)
found_by x ss me format rating s false is same more = more same

-- who is found is somebody else
found_other : (ss : List Waiting) (me format : List ℕ) (rating : ℤ) (s : Waiting) → found ss me format rating ≡ Some s → bytes_eq s.user me ≡ false
found_other [] me format rating s same = absurd cc
found_other (x ∷ ss) me format rating s same = found_by x ss me format rating s (suits me format rating x) refl same (found_other ss me format rating s)

match_apart : (h : Record) (name format : List ℕ) (o : Option Waiting) → opponent h (id_of name) format ≡ o → StartsApart (start_of_match h name format o)
match_apart h name format None is = none_apart
match_apart h name format (Some s) is =
    start_apart h format s.user format (kept_team s.user format h.search_teams) name (legal_team h (id_of name) format) (find_passes (is_kept s.user format) h.search_teams)
    (found_other h.searches (id_of name) format (rating_in h format (id_of name)) s is)

search_apart : (h : Record) (name format : List ℕ) → StartsApart (start_of_search h name format)
unfolding start_of_search
search_apart h name format = match_apart h name format (opponent h (id_of name) format) refl

not_oneself : (h : Record) (me user : List ℕ) (b : Bool) (a : Asked) → bytes_eq user me ≡ b → cond b None (asked_of h.pms user me) ≡ Some a → b ≡ false
not_oneself h me user true a is same = absurd cc
not_oneself h me user false a is same = refl

challenge_apart : (h : Record) (name user : List ℕ) (o : Option Asked) → challenge_from h (id_of name) user ≡ o → StartsApart (start_of_challenge h name o)
challenge_apart h name user None is = none_apart
challenge_apart h name user (Some a) is =
    let by : a.by ≡ user = subst (λ (o : Option Asked). IfSome o (λ x. x.by ≡ user)) is (challenger h (id_of name) user) in
    let other : bytes_eq user (id_of name) ≡ false = not_oneself h (id_of name) user (bytes_eq user (id_of name)) a refl is in
    start_apart h a.format a.by (id_of name) (kept_team a.by (id_of name) h.challenge_teams) name (legal_team h (id_of name) a.format) (find_passes (is_kept a.by (id_of name)) h.challenge_teams)
    (ap (λ (x : List ℕ). bytes_eq x (id_of name)) by ∙ other)

accept_apart : (h : Record) (name user : List ℕ) → StartsApart (start_of_accept h name user)
unfolding start_of_accept
accept_apart h name user = challenge_apart h name user (challenge_from h (id_of name) user) refl

-- ---- a battle is reported

ladder_put : (ladders : ById Standing) (at : List ℕ) (s : Standing) (format : List ℕ) → ladder_in (insert ladders at s) format ≡ cond (bytes_eq format at) s (ladder_in ladders format)
ladder_put ladders at s format =
    ap (λ (o : Option Standing). unwrap_or o (standing_of [])) (get-insert nat_list_cmp_total ladders at s format ∙ ap (λ (b : Bool). cond b (Some s) (get ladders format)) (is_eq-slice_cmp format at))
    ∙ either (bytes_eq format at) where
      either : (b : Bool) → unwrap_or (cond b (Some s) (get ladders format)) (standing_of []) ≡ cond b s (ladder_in ladders format)
      either true = refl
      either false = refl

all_filter : (test : Game → Bool) (g : Game) (gs : List Game) (b : Bool) → AllApart (g ∷ gs) → AllApart (filter test gs) → AllApart (cond b (g ∷ filter test gs) (filter test gs))
all_filter test g gs true all more = (all.0, more)
all_filter test g gs false all more = more

apart_filter : (test : Game → Bool) (gs : List Game) → AllApart gs → AllApart (filter test gs)
apart_filter test [] all = tt
apart_filter test (g ∷ gs) all = all_filter test g gs (test g) all (apart_filter test gs all.1)

shorter_by : (test : Game → Bool) (g : Game) (gs : List Game) (b : Bool) → length (filter test gs) ≤ length gs → length (cond b (g ∷ filter test gs) (filter test gs)) ≤ length (g ∷ gs)
shorter_by test g gs true le = omega (arith, le)
shorter_by test g gs false le = omega (arith, le)

shorter : (test : Game → Bool) (gs : List Game) → length (filter test gs) ≤ length gs
shorter test [] = omega arith
shorter test (g ∷ gs) = shorter_by test g gs (test g) (shorter test gs)

fewer_by : (number : ℕ) (x : Game) (gs : List Game) (g : Game) (b : Bool) → has_number number x ≡ b → cond b (Some x) (find (has_number number) gs) ≡ Some g
    → (find (has_number number) gs ≡ Some g → length (without_game gs number) < length gs) → length (cond (not b) (x ∷ without_game gs number) (without_game gs number)) < length (x ∷ gs)
fewer_by number x gs g true is same more = (let le = shorter (λ y. not (has_number number y)) gs in omega (arith, le))
fewer_by number x gs g false is same more = (let lt = more same in omega (arith, lt))

-- a battle that is found is one less
fewer : (number : ℕ) (gs : List Game) (g : Game) → find (has_number number) gs ≡ Some g → length (without_game gs number) < length gs
fewer number [] g same = absurd cc
fewer number (x ∷ gs) g same = fewer_by number x gs g (has_number number x) refl same (fewer number gs g)

apart_by : (number : ℕ) (x : Game) (gs : List Game) (g : Game) (b : Bool) → cond b (Some x) (find (has_number number) gs) ≡ Some g → AllApart (x ∷ gs) → (find (has_number number) gs ≡ Some g → AreApart g) → AreApart g
apart_by number x gs g true same all more = let it : x ≡ g = cc in subst AreApart it all.0
apart_by number x gs g false same all more = more same

apart_found : (number : ℕ) (gs : List Game) (g : Game) → find (has_number number) gs ≡ Some g → AllApart gs → AreApart g
apart_found number [] g same all = absurd cc
apart_found number (x ∷ gs) g same all = apart_by number x gs g (has_number number x) same all (λ more. apart_found number gs g more all.1)

turned_apart : (a b : List ℕ) (x : Bool) → bytes_eq a b ≡ false → bytes_eq b a ≡ x → x ≡ false
turned_apart a b false other is = refl
turned_apart a b true other is = absurd (let wrong : true ≡ false = sym ((bytes_eq-Decides a b).1 (sym ((bytes_eq-Decides b a).0 is))) ∙ other in cc)

-- a winner and a loser
two_of : (g : Game) (s : ℕ) → s < 2 → AreApart g → bytes_eq (winner_of g s) (loser_of g s) ≡ false
two_of g zero lt apart = apart
two_of g (suc zero) lt apart = turned_apart (player_id g 0) (player_id g 1) (bytes_eq (player_id g 1) (player_id g 0)) apart refl
two_of g (suc (suc s)) lt apart = absurd (omega (arith, lt))

-- the ladder takes it
taken : (ladder : Standing) (one two : List ℕ) → ladder.count < most_battles → bytes_eq one two ≡ false → standing_with ladder one two ≡ standing_after ladder one two
taken ladder one two room other = ap₂ (λ (x y : Bool). cond (x && not y) (standing_after ladder one two) ladder) (lt-ltb ladder.count most_battles room) other

-- the books after a result, and without its battle
settled_book : (h : Record) (g : Game) (number s : ℕ) (results : List ℕ → List Won) → game_in h number ≡ Some g → s < 2 → IsKept h results
    → IsBook (with_settled h.ladders g.format (winner_of g s) (loser_of g s)) (without_game h.games number) h.started (λ format. results format ++ won_by format g true (Some s))
settled_book h g number s results found lt b =
    let apart = two_of g s lt (apart_found number h.games g found b.apart) in
    let one_less = fewer number h.games g found in
    let r : Won = record { winner = winner_of g s; loser = loser_of g s } in
    let room : (ladder_in h.ladders g.format).count < most_battles = subst (λ (x : Standing). x.count < most_battles) (sym (b.ladder g.format)) (let few = b.few g.format in let most = b.most in omega (arith, few, most, one_less)) in
    let here : standing_with (ladder_in h.ladders g.format) (winner_of g s) (loser_of g s) ≡ standing_of (results g.format ++ r ∷ []) =
    taken (ladder_in h.ladders g.format) (winner_of g s) (loser_of g s) room apart ∙ standing_more (ladder_in h.ladders g.format) (results g.format) r (b.ladder g.format) in
    record {
      ladder = λ format. ladder_put h.ladders g.format (standing_with (ladder_in h.ladders g.format) (winner_of g s) (loser_of g s)) format ∙ by_format format (bytes_eq format g.format) (bytes_eq g.format format) refl refl here;
      few = λ format. count_by format (bytes_eq g.format format) one_less (b.few format);
      most = b.most;
      apart = apart_filter (λ x. not (has_number number x)) h.games b.apart;
      two = λ format. All-append IsOfTwo (results format) (won_by format g true (Some s)) (b.two format) (two_by format (bytes_eq g.format format) apart);
    } where
      by_format : (format : List ℕ) (x y : Bool) → bytes_eq format g.format ≡ x → bytes_eq g.format format ≡ y → standing_with (ladder_in h.ladders g.format) (winner_of g s) (loser_of g s) ≡ standing_of (results g.format ++ record { winner = winner_of g s; loser = loser_of g s } ∷ [])
          → cond x (standing_with (ladder_in h.ladders g.format) (winner_of g s) (loser_of g s)) (ladder_in h.ladders format) ≡ standing_of (results format ++ cond y (record { winner = winner_of g s; loser = loser_of g s } ∷ []) [])
      by_format format true true is is_too here = here ∙ ap (λ (f : List ℕ). standing_of (results f ++ record { winner = winner_of g s; loser = loser_of g s } ∷ [])) ((bytes_eq-Decides g.format format).0 is_too)
      by_format format true false is is_too here = absurd (let wrong : true ≡ false = sym is ∙ turned_apart g.format format (bytes_eq format g.format) is_too refl in cc)
      by_format format false true is is_too here = absurd (let wrong : true ≡ false = sym is_too ∙ turned_apart format g.format (bytes_eq g.format format) is refl in cc)
      by_format format false false is is_too here = b.ladder format ∙ ap standing_of (sym (append-nil (results format)))

      count_by : (format : List ℕ) (y : Bool) → length (without_game h.games number) < length h.games → length (results format) + length h.games ≤ h.started → length (results format ++ cond y (record { winner = winner_of g s; loser = loser_of g s } ∷ []) []) + length (without_game h.games number) ≤ h.started
      count_by format true less few = let one = length_push (results format) (record { winner = winner_of g s; loser = loser_of g s }) in omega (arith, less, few, one)
      count_by format false less few = subst (λ (rs : List Won). length rs + length (without_game h.games number) ≤ h.started) (sym (append-nil (results format))) (omega (arith, less, few))

      two_by : (format : List ℕ) (y : Bool) → bytes_eq (winner_of g s) (loser_of g s) ≡ false → All IsOfTwo (cond y (record { winner = winner_of g s; loser = loser_of g s } ∷ []) [])
      two_by format true apart = All-cons IsOfTwo (record { winner = winner_of g s; loser = loser_of g s }) [] apart (All-nil IsOfTwo)
      two_by format false apart = All-nil IsOfTwo

-- no result
unsettled_book : (h : Record) (number : ℕ) (results : List ℕ → List Won) → IsKept h results → IsBook h.ladders (without_game h.games number) h.started (λ format. results format ++ [])
unsettled_book h number results b = record {
  ladder = λ format. b.ladder format ∙ ap standing_of (sym (append-nil (results format)));
  few = λ format. subst (λ (rs : List Won). length rs + length (without_game h.games number) ≤ h.started) (sym (append-nil (results format)))
      (let few = b.few format in let le = shorter (λ x. not (has_number number x)) h.games in omega (arith, few, le));
  most = b.most;
  apart = apart_filter (λ x. not (has_number number x)) h.games b.apart;
  two = λ format. subst (All IsOfTwo) (sym (append-nil (results format))) (b.two format);
}

kept_nothing : (h : Record) (results : List ℕ → List Won) → IsKept h results → IsKept h (λ format. results format ++ [])
kept_nothing h results b = record {
  ladder = λ format. b.ladder format ∙ ap standing_of (sym (append-nil (results format)));
  few = λ format. subst (λ (rs : List Won). length rs + length h.games ≤ h.started) (sym (append-nil (results format))) (b.few format);
  most = b.most;
  apart = b.apart;
  two = λ format. subst (All IsOfTwo) (sym (append-nil (results format))) (b.two format);
}

game_book : (h : Record) (g : Game) (number : ℕ) (rated : Bool) (winner : Option ℕ) (results : List ℕ → List Won) → game_in h number ≡ Some g → is_winner winner ≡ true → IsKept h results
    → IsBook (settled_by h.ladders g rated winner) (without_game h.games number) h.started (λ format. results format ++ won_by format g rated winner)
game_book h g number true (Some s) results found ok b = settled_book h g number s results found (ltb-true s 2 ok) b
game_book h g number true None results found ok b = unsettled_book h number results b
game_book h g number false (Some s) results found ok b = unsettled_book h number results b
game_book h g number false None results found ok b = unsettled_book h number results b

report_book : (h : Record) (number : ℕ) (winner : Option ℕ) (o : Option Game) (results : List ℕ → List Won) → game_in h number ≡ o → is_winner winner ≡ true → IsKept h results → IsKept (reported h number winner o) (λ format. results format ++ won_in format winner o)
report_book h number winner None results found ok b = kept_nothing h results b
report_book h number winner (Some g) results found ok b = game_book h g number g.rated winner results found ok b

-- ---- all commands

book_quit : (h : Record) (badge : Option Badge) (results : List ℕ → List Won) → IsKept h results → IsKept (forgotten h badge) results
book_quit h None results b = b
book_quit h (Some x) results b = b

book_team : (h : Record) (me : List ℕ) (pack : Option (List ℕ)) (results : List ℕ → List Won) → IsKept h results → IsKept (after_team h me pack) results
book_team h me None results b = b
book_team h me (Some text) results b = b

book_named : (h : Record) (name : List ℕ) (cmd : HallCmd) (results : List ℕ → List Won) → refusal_of_named h (id_of name) cmd ≡ None → IsKept h results → IsKept (after_named h name cmd) results
book_named h name (Team pack) results none b = book_team h (id_of name) pack results b
book_named h name (Search format) results none b = kept_maybe (with_search h name format) true (start_of_search h name format) results (few_search h (id_of name) format none) (search_apart h name format) b
book_named h name CancelSearch results none b = b
book_named h name (Challenge user format) results none b = b
book_named h name CancelChallenge results none b = b
book_named h name (Reject user) results none b = b
book_named h name (Accept user) results none b = kept_maybe (with_accept h (id_of name) user) false (start_of_accept h name user) results (few_accept h (id_of name) user none) (accept_apart h name user) b
book_named h name (Block user) results none b = b
book_named h name (Unblock user) results none b = b
book_named h name other results none b = b

book_badge : (h : Record) (badge : Option Badge) (cmd : HallCmd) (results : List ℕ → List Won) → refusal_by h badge cmd ≡ None → IsKept h results → IsKept (after_by h badge cmd) results
book_badge h None cmd results none b = b
book_badge h (Some x) cmd results none b = book_named h x.name cmd results none b

book_applied : (h : Record) (conn : ℕ) (cmd : HallCmd) (results : List ℕ → List Won) → refusal h conn cmd ≡ None → IsKept h results → IsKept (applied h conn cmd) (λ format. results format ++ won_at format None h cmd)
unfolding refusal applied
book_applied h conn Open results none b = kept_nothing h results b
book_applied h conn Quit results none b = kept_nothing (forgotten h (badge_of h conn)) results (book_quit h (badge_of h conn) results b)
book_applied h conn (Bad reason) results none b = kept_nothing h results b
book_applied h conn (Name name assertion) results none b = kept_nothing h results b
book_applied h conn (Report number winner) results none b = report_book h number winner (game_in h number) results refl (winner_is h number winner none) b
book_applied h conn other results none b = kept_nothing (after_by h (badge_of h conn) other) results (book_badge h (badge_of h conn) other results none b)

book_judged : (h : Record) (e : HallEntry) (v : Option HallWhy) (results : List ℕ → List Won) → verdict h e ≡ v → IsKept h results → IsKept (after h e) (λ format. results format ++ won_at format v h e.cmd)
book_judged h e (Some reason) results is b = rw is (kept_nothing h results b)
book_judged h e None results is b = rw is (book_applied h e.conn e.cmd results is b)

-- ---- histories

run_book : (h : Record) (es : List HallEntry) (results : List ℕ → List Won) → IsKept h results → IsKept (run_record h es) (λ format. results format ++ results_from format h es)
run_book h [] results b = kept_nothing h results b
run_book h (e ∷ es) results b =
    let more = run_book (after h e) es (λ format. results format ++ won_at format (verdict h e) h e.cmd) (book_judged h e (verdict h e) results refl b) in
    subst (IsKept (run_record (after h e) es)) (λ i format. append_assoc (results format) (won_at format (verdict h e) h e.cmd) (results_from format (after h e) es) i) more

first_book : (o : HallOpening) → IsKept (hall_opened o) (λ format. [])
first_book o = record {
  ladder = λ format. ap (λ (x : Option Standing). unwrap_or x (standing_of [])) (get-empty (slice_cmp nat_cmp) format);
  few = λ format. omega arith;
  most = omega arith;
  apart = tt;
  two = λ format. All-nil IsOfTwo;
}

pub hall_ratings_are_results : HallRatingsAreResults
hall_ratings_are_results o es format =
    let b = run_book (hall_opened o) es (λ format. []) (first_book o) in
    record { fold = b.ladder format; sum = balanced_of (results_from format (hall_opened o) es) (b.two format) }

-- no battle of a match is lost in a history, and no result
pub hall_whole : (s : HallStory) → IsHallWhole s
hall_whole s = record {
  matches = λ before e later format badge is searches named none. hall_matches_start s.opening before e format badge searches named none;
  ladders = hall_ratings_are_results s.opening s.history;
}
