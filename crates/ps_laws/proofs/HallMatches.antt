-- An allowed Search that is matched starts a battle: each search has its team, and no user searches a format twice.
use Rattle.std.proofs.Common.{◌≡◌, ℕ, Bool, true, false, cond, not, ◌&&◌, ◌||◌, List, [], ◌∷◌, ◌++◌, Option, Some, None, option_map, is_some, find, map, ℤ, refl, sym, ap, ap₂, subst, ◌∙◌}
use Rattle.std.proofs.lemmas.Bool.{or_parts, and_parts}
use Rattle.std.proofs.lemmas.List.{map-append}
use Rattle.std.proofs.lemmas.Slice.Eq.{bytes_eq-Decides}
use Rattle.std.specs.List.{filter, list_any}
use Rattle.std.specs.Str.{bytes_eq}
use Rattle.ps_base.specs.Ids.{id_of}
use Rattle.ps_base.specs.declared.badge.Badge.{Badge}
use Rattle.ps_base.specs.declared.hall_why.HallWhy.{HallWhy}
use Rattle.ps_base.specs.declared.hall_why.HallWhy.TheVariants as why
use Rattle.ps_lines.specs.declared.command.HallCmd.{HallCmd}
use Rattle.ps_lines.specs.declared.command.HallCmd.TheVariants.{Open, Quit, Bad, Name, Team, Search, CancelSearch, Challenge, CancelChallenge, Reject, Accept, Block, Unblock, Report}
use Rattle.ps_valid.specs.declared.legal.Legal.{Legal}
use Rattle.ps_rules.specs.declared.table.Format.{Format}
use Rattle.ps_ladder.specs.Waiting.{is_for, suits, found, without, waits}
use Rattle.ps_ladder.specs.Waiting as waitings
use Rattle.ps_ladder.specs.declared.searches.Search.{Search as Waiting}
use Rattle.ps_hall.specs.declared.entry.HallEntry.{HallEntry}
use Rattle.ps_hall.specs.declared.game.Game.{Game}
use Rattle.ps_hall.specs.declared.kept.KeptTeam.{KeptTeam}
use Rattle.ps_hall.specs.Records.{Record}
use Rattle.ps_hall.specs.Lookups.{badge_of, format_in, legal_team, kept_team, rating_in, opponent, game_in}
use Rattle.ps_hall.specs.Refusals.{of_team, of_search, of_waiting, of_battles, refusal_of_search, refusal_by, refusal, refusal_of_named}
use Rattle.ps_hall.specs.Starts.{start_if, start_of_match, start_of_search, start_of_accept, with_game, game_of}
use Rattle.ps_hall.specs.Steps.{forgotten, keep, after_search, with_search, kept_by_search, after_team, after_cancel_search, with_accept, reported, after_named, after_by, applied, start_by, start_of}
use Rattle.ps_hall.specs.Halls.{verdict, after, out_by, run_record}
use Rattle.ps_hall.proofs.ApplyLemmas.{else_more}
use Rattle.ps_laws.specs.HallStories.{HallOpening, hall_opened}
use Rattle.ps_laws.specs.HallSame.{HallMatchesStart}
use Rattle.ps_laws.proofs.HallListLemmas.{map_kept, find_mapped}
use Rattle.ps_laws.proofs.HallAlike.{Label, label, labels, label_is, label_of, without_label, labels_without_user, labels_without_kept, labels_keep}
use Rattle.ps_laws.proofs.HallLegal.{search_legal}
use Rattle.ps_laws.proofs.HallTidy.{Ends, ends_label, ends_are, without_ends, ends_without, is_there, when_not, any_put, any_kept}
use Rattle.ps_laws.proofs.HallStarts.{start_there}

-- ---- who searches what

abbrev ends_search : Waiting → Ends
ends_search s = record { by = s.user; to = s.format }

-- no two of one user for one format
abbrev AreOnce : List Ends → Type 0
AreOnce [] = Unit {0}
AreOnce (e ∷ es) = (list_any (ends_are e.by e.to) es ≡ false) × AreOnce es

record AreSought (ss : List Waiting) (zs : List Label) : Type 0 where
  once : AreOnce (map ends_search ss)
  same : map ends_label zs ≡ map ends_search ss

abbrev IsSought : Record → Type 0
IsSought h = AreSought h.searches (labels h.search_teams)

-- ---- lists without two of one

once_by : (test : Ends → Bool) (e : Ends) (es : List Ends) (b : Bool) → AreOnce (e ∷ es) → AreOnce (filter test es) → AreOnce (cond b (e ∷ filter test es) (filter test es))
once_by test e es true once more = (any_kept (ends_are e.by e.to) test es once.0, more)
once_by test e es false once more = more

once_filter : (test : Ends → Bool) (es : List Ends) → AreOnce es → AreOnce (filter test es)
once_filter test [] once = tt
once_filter test (e ∷ es) once = once_by test e es (test e) once (once_filter test es once.1)

any_without : (p : Ends → Bool) (by to : List ℕ) (e : Ends) (es : List Ends) (b : Bool) → (p e || list_any p es) ≡ false → (list_any p es ≡ false → list_any p (without_ends by to es) ≡ false) → list_any p (cond b es (e ∷ without_ends by to es)) ≡ false
any_without p by to e es true none more = (or_parts (p e) (list_any p es) none).1
any_without p by to e es false none more = let parts = or_parts (p e) (list_any p es) none in rw parts.0 (more parts.1)

any_left : (p : Ends → Bool) (by to : List ℕ) (es : List Ends) → list_any p es ≡ false → list_any p (without_ends by to es) ≡ false
any_left p by to [] none = refl
any_left p by to (e ∷ es) none = any_without p by to e es (ends_are by to e) none (any_left p by to es)

once_without : (by to : List ℕ) (e : Ends) (es : List Ends) (b : Bool) → AreOnce (e ∷ es) → AreOnce (without_ends by to es) → AreOnce (cond b es (e ∷ without_ends by to es))
once_without by to e es true once more = once.1
once_without by to e es false once more = (any_left (ends_are e.by e.to) by to es once.0, more)

once_left : (by to : List ℕ) (es : List Ends) → AreOnce es → AreOnce (without_ends by to es)
once_left by to [] once = tt
once_left by to (e ∷ es) once = once_without by to e es (ends_are by to e) once (once_left by to es once.1)

-- two of one user for one format are so either way
turned_ends : (a b : Ends) → ends_are a.by a.to b ≡ false → ends_are b.by b.to a ≡ false
turned_ends a b none = by_answer (ends_are b.by b.to a) refl where
  by_answer : (x : Bool) → ends_are b.by b.to a ≡ x → x ≡ false
  by_answer false is = refl
  by_answer true is =
      let parts = and_parts (bytes_eq a.by b.by) (bytes_eq a.to b.to) is in
      let user : bytes_eq b.by a.by ≡ true = (bytes_eq-Decides b.by a.by).1 (sym ((bytes_eq-Decides a.by b.by).0 parts.0)) in
      let format : bytes_eq b.to a.to ≡ true = (bytes_eq-Decides b.to a.to).1 (sym ((bytes_eq-Decides a.to b.to).0 parts.1)) in
      absurd (let wrong : true ≡ false = sym (ap₂ (λ (x y : Bool). x && y) user format) ∙ none in cc)

once_more : (es : List Ends) (e : Ends) → AreOnce es → list_any (ends_are e.by e.to) es ≡ false → AreOnce (es ++ e ∷ [])
once_more [] e once none = (refl, tt)
once_more (x ∷ es) e once none =
    let parts = or_parts (ends_are e.by e.to x) (list_any (ends_are e.by e.to) es) none in
    (any_put (ends_are x.by x.to) es e once.0 (turned_ends e x parts.0), once_more es e once.1 parts.1)

-- ---- the search that is found

-- it is for the format, and it is one of those that wait
suits_parts : (me format : List ℕ) (rating : ℤ) (s : Waiting) → suits me format rating s ≡ true → bytes_eq s.format format ≡ true
suits_parts me format rating s e = (and_parts (bytes_eq s.format format) _ (and_parts (not (bytes_eq s.user me)) _ e).1).0

own_ends : (s : Waiting) (format : List ℕ) → bytes_eq s.format format ≡ true → ends_are s.user format (ends_search s) ≡ true
own_ends s format e = ap₂ (λ (x y : Bool). x && y) ((bytes_eq-Decides s.user s.user).1 refl) e

true_or : (a b : Bool) → b ≡ true → (a || b) ≡ true
true_or true b e = refl
true_or false b e = e

found_at : (x : Waiting) (ss : List Waiting) (me format : List ℕ) (rating : ℤ) (s : Waiting) (b : Bool) → suits me format rating x ≡ b → cond b (Some x) (found ss me format rating) ≡ Some s
    → (found ss me format rating ≡ Some s → list_any (ends_are s.user format) (map ends_search ss) ≡ true) → (ends_are s.user format (ends_search x) || list_any (ends_are s.user format) (map ends_search ss)) ≡ true
found_at x ss me format rating s true is same more =
    let it : x ≡ s = cc in
    ap (λ (y : Bool). y || list_any (ends_are s.user format) (map ends_search ss)) (subst (λ (y : Waiting). ends_are y.user format (ends_search x) ≡ true) it (own_ends x format (suits_parts me format rating x is)))
found_at x ss me format rating s false is same more = true_or (ends_are s.user format (ends_search x)) (list_any (ends_are s.user format) (map ends_search ss)) (more same)

found_any : (ss : List Waiting) (me format : List ℕ) (rating : ℤ) (s : Waiting) → found ss me format rating ≡ Some s → list_any (ends_are s.user format) (map ends_search ss) ≡ true
found_any [] me format rating s same = absurd cc
found_any (x ∷ ss) me format rating s same = found_at x ss me format rating s (suits me format rating x) refl same (found_any ss me format rating s)

some_at : (e : Ends) (o : Option Ends) (a b : Bool) → (b ≡ true → is_some o ≡ true) → (a || b) ≡ true → is_some (cond a (Some e) o) ≡ true
some_at e o true b more any = refl
some_at e o false b more any = more any

some_found : (p : Ends → Bool) (es : List Ends) → list_any p es ≡ true → is_some (find p es) ≡ true
some_found p [] any = absurd cc
some_found p (e ∷ es) any = some_at e (find p es) (p e) (list_any p es) (some_found p es) any

-- taking it out takes out the one of its user for its format
out_at : (x : Waiting) (ss : List Waiting) (me format : List ℕ) (rating : ℤ) (s : Waiting) (b c : Bool) → suits me format rating x ≡ b → ends_are s.user format (ends_search x) ≡ c → cond b (Some x) (found ss me format rating) ≡ Some s
    → list_any (ends_are x.user x.format) (map ends_search ss) ≡ false → (found ss me format rating ≡ Some s → map ends_search (without ss me format rating) ≡ without_ends s.user format (map ends_search ss))
    → map ends_search (cond b ss (x ∷ without ss me format rating)) ≡ cond c (map ends_search ss) (ends_search x ∷ without_ends s.user format (map ends_search ss))
out_at x ss me format rating s true c is at same once more =
    let it : x ≡ s = cc in
    let mine : c ≡ true = sym at ∙ subst (λ (y : Waiting). ends_are y.user format (ends_search x) ≡ true) it (own_ends x format (suits_parts me format rating x is)) in
    ap (λ (y : Bool). cond y (map ends_search ss) (ends_search x ∷ without_ends s.user format (map ends_search ss))) (sym mine)
out_at x ss me format rating s false false is at same once more = ap (λ (es : List Ends). ends_search x ∷ es) (more same)
out_at x ss me format rating s false true is at same once more =
    let parts = and_parts (bytes_eq x.user s.user) (bytes_eq x.format format) at in
    let any : list_any (ends_are x.user x.format) (map ends_search ss) ≡ true =
    ap₂ (λ (user format : List ℕ). list_any (ends_are user format) (map ends_search ss)) ((bytes_eq-Decides x.user s.user).0 parts.0) ((bytes_eq-Decides x.format format).0 parts.1) ∙ found_any ss me format rating s same in
    absurd (let wrong : true ≡ false = sym any ∙ once in cc)

out_same : (ss : List Waiting) (me format : List ℕ) (rating : ℤ) (s : Waiting) → AreOnce (map ends_search ss) → found ss me format rating ≡ Some s → map ends_search (without ss me format rating) ≡ without_ends s.user format (map ends_search ss)
out_same [] me format rating s once same = refl
out_same (x ∷ ss) me format rating s once same =
    out_at x ss me format rating s (suits me format rating x) (ends_are s.user format (ends_search x)) refl refl same once.0 (out_same ss me format rating s once.1)

-- ---- what keeps it

sought_is : (ss : List Waiting) (zs ys : List Label) → ys ≡ zs → AreSought ss zs → AreSought ss ys
sought_is ss zs ys is t = subst (AreSought ss) (sym is) t

sought_cancelled : (me : List ℕ) (ss : List Waiting) (ks : List KeptTeam) → AreSought ss (labels ks) → AreSought (waitings.cancelled ss me) (filter (λ z. not (label_of me z)) (labels ks))
sought_cancelled me ss ks t = record {
  once = subst AreOnce (sym (map_kept ends_search (λ e. not (bytes_eq e.by me)) ss)) (once_filter (λ e. not (bytes_eq e.by me)) (map ends_search ss) t.once);
  same = map_kept ends_label (λ e. not (bytes_eq e.by me)) (labels ks) ∙ ap (filter (λ e. not (bytes_eq e.by me))) t.same ∙ sym (map_kept ends_search (λ e. not (bytes_eq e.by me)) ss);
}

sought_quit : (h : Record) (badge : Option Badge) → IsSought h → IsSought (forgotten h badge)
sought_quit h None t = t
sought_quit h (Some b) t = sought_is _ (filter (λ z. not (label_of (id_of b.name) z)) (labels h.search_teams)) _ (labels_without_user (id_of b.name) h.search_teams) (sought_cancelled (id_of b.name) h.searches h.search_teams t)

sought_cancel : (h : Record) (me : List ℕ) → IsSought h → IsSought (after_cancel_search h me)
sought_cancel h me t = sought_is _ (filter (λ z. not (label_of me z)) (labels h.search_teams)) _ (labels_without_user me h.search_teams) (sought_cancelled me h.searches h.search_teams t)

sought_game : (h : Record) (o : Option Game) → IsSought h → IsSought (with_game h o)
sought_game h None t = t
sought_game h (Some g) t = t

sought_team : (h : Record) (me : List ℕ) (pack : Option (List ℕ)) → IsSought h → IsSought (after_team h me pack)
sought_team h me None t = t
sought_team h me (Some text) t = t

sought_reported : (h : Record) (number : ℕ) (winner : Option ℕ) (o : Option Game) → IsSought h → IsSought (reported h number winner o)
sought_reported h number winner None t = t
sought_reported h number winner (Some g) t = t

any_is : (me format : List ℕ) (ss : List Waiting) → list_any (ends_are me format) (map ends_search ss) ≡ list_any (is_for me format) ss
any_is me format [] = refl
any_is me format (s ∷ ss) = ap (λ (b : Bool). is_for me format s || b) (any_is me format ss)

-- who searches doesn't wait for the format yet
waits_not : (h : Record) (me format : List ℕ) (f : Option Format) → of_search h me format f ≡ None → waits h.searches me format ≡ false
waits_not h me format None none = absurd cc
waits_not h me format (Some f) none =
    (when_not (waits h.searches me format) why.AlreadySearching (of_battles h) (else_more (of_team h me f) (of_waiting h me format) (when_not (not f.table.rated) why.NotRated _ none).1)).0

search_new : (h : Record) (me format : List ℕ) → refusal_of_search h me format ≡ None → waits h.searches me format ≡ false
unfolding refusal_of_search
search_new h me format none = waits_not h me format (format_in h format) none

sought_by : (h : Record) (name format : List ℕ) (legal : Legal) (o : Option Waiting) → opponent h (id_of name) format ≡ o → legal_team h (id_of name) format ≡ Some legal → waits h.searches (id_of name) format ≡ false → IsSought h
    → AreSought (waitings.added_by o h.searches (id_of name) format (rating_in h format (id_of name))) (labels (kept_by_search h name format o))
sought_by h name format legal None is team new t =
    let me = id_of name in
    let z : Label = record { name = name; with_id = format } in
    let s : Waiting = record { user = me; format = format; rating = rating_in h format me } in
    sought_is (h.searches ++ s ∷ []) (labels h.search_teams ++ z ∷ []) (labels (kept_by_search h name format None)) (ap (λ (l : Option Legal). labels (keep h.search_teams name format l)) team ∙ labels_keep h.search_teams name format legal) (record {
      once = subst AreOnce (sym (map-append ends_search h.searches (s ∷ []))) (once_more (map ends_search h.searches) (ends_search s) t.once (any_is me format h.searches ∙ new));
      same = map-append ends_label (labels h.search_teams) (z ∷ []) ∙ ap (λ (es : List Ends). es ++ ends_label z ∷ []) t.same ∙ sym (map-append ends_search h.searches (s ∷ []));
    })
sought_by h name format legal (Some s) is team new t =
    let me = id_of name in
    let rating = rating_in h format me in
    let out = out_same h.searches me format rating s t.once is in
    sought_is (without h.searches me format rating) (without_label s.user format (labels h.search_teams)) (labels (kept_by_search h name format (Some s))) (labels_without_kept s.user format h.search_teams) (record {
      once = subst AreOnce (sym out) (once_left s.user format (map ends_search h.searches) t.once);
      same = ends_without s.user format (labels h.search_teams) ∙ ap (without_ends s.user format) t.same ∙ sym out;
    })

sought_search : (h : Record) (name format : List ℕ) → refusal_of_search h (id_of name) format ≡ None → IsSought h → IsSought (after_search h name format)
sought_search h name format none t =
    let legal = search_legal h (id_of name) format none in
    sought_game (with_search h name format) (option_map (game_of true) (start_of_search h name format))
    (sought_by h name format legal.0 (opponent h (id_of name) format) refl legal.1 (search_new h (id_of name) format none) t)

sought_named : (h : Record) (name : List ℕ) (cmd : HallCmd) → refusal_of_named h (id_of name) cmd ≡ None → IsSought h → IsSought (after_named h name cmd)
sought_named h name (Team pack) none t = sought_team h (id_of name) pack t
sought_named h name (Search format) none t = sought_search h name format none t
sought_named h name CancelSearch none t = sought_cancel h (id_of name) t
sought_named h name (Challenge user format) none t = t
sought_named h name CancelChallenge none t = t
sought_named h name (Reject user) none t = t
sought_named h name (Accept user) none t = sought_game (with_accept h (id_of name) user) (option_map (game_of false) (start_of_accept h name user)) t
sought_named h name (Block user) none t = t
sought_named h name (Unblock user) none t = t
sought_named h name other none t = t

sought_badge : (h : Record) (badge : Option Badge) (cmd : HallCmd) → refusal_by h badge cmd ≡ None → IsSought h → IsSought (after_by h badge cmd)
sought_badge h None cmd none t = t
sought_badge h (Some b) cmd none t = sought_named h b.name cmd none t

sought_applied : (h : Record) (conn : ℕ) (cmd : HallCmd) → refusal h conn cmd ≡ None → IsSought h → IsSought (applied h conn cmd)
unfolding refusal applied
sought_applied h conn Open none t = t
sought_applied h conn Quit none t = sought_quit h (badge_of h conn) t
sought_applied h conn (Bad reason) none t = t
sought_applied h conn (Name name assertion) none t = t
sought_applied h conn (Report number winner) none t = sought_reported h number winner (game_in h number) t
sought_applied h conn other none t = sought_badge h (badge_of h conn) other none t

sought_judged : (h : Record) (e : HallEntry) (v : Option HallWhy) → verdict h e ≡ v → IsSought h → IsSought (after h e)
sought_judged h e (Some reason) is t = rw is t
sought_judged h e None is t = rw is (sought_applied h e.conn e.cmd is t)

run_sought : (h : Record) (es : List HallEntry) → IsSought h → IsSought (run_record h es)
run_sought h [] t = t
run_sought h (e ∷ es) t = run_sought (after h e) es (sought_judged h e (verdict h e) refl t)

-- ---- a match starts a battle

-- the team of a search that is found is kept
team_there : (h : Record) (me format : List ℕ) (rating : ℤ) (s : Waiting) → IsSought h → found h.searches me format rating ≡ Some s → is_some (kept_team s.user format h.search_teams) ≡ true
team_there h me format rating s t same =
    sym (is_there label (kept_team s.user format h.search_teams))
    ∙ ap is_some (find_mapped label (label_is s.user format) h.search_teams)
    ∙ sym (is_there ends_label (find (label_is s.user format) (labels h.search_teams)))
    ∙ ap is_some (find_mapped ends_label (ends_are s.user format) (labels h.search_teams))
    ∙ ap (λ (es : List Ends). is_some (find (ends_are s.user format) es)) t.same
    ∙ some_found (ends_are s.user format) (map ends_search h.searches) (found_any h.searches me format rating s same)

match_starts : (h : Record) (name format : List ℕ) (legal : Legal) (o : Option Waiting) → IsSought h → opponent h (id_of name) format ≡ o → legal_team h (id_of name) format ≡ Some legal → is_some (start_of_match h name format o) ≡ is_some o
match_starts h name format legal None t is team = refl
match_starts h name format legal (Some s) t is team =
    ap (λ (l : Option Legal). is_some (start_if h format (kept_team s.user format h.search_teams) name l)) team
    ∙ start_there h format name (kept_team s.user format h.search_teams) legal (team_there h (id_of name) format (rating_in h format (id_of name)) s t is)

search_starts : (h : Record) (name format : List ℕ) → IsSought h → refusal_of_search h (id_of name) format ≡ None → is_some (start_of_search h name format) ≡ is_some (opponent h (id_of name) format)
unfolding start_of_search
search_starts h name format t none =
    let legal = search_legal h (id_of name) format none in
    match_starts h name format legal.0 (opponent h (id_of name) format) t refl legal.1

starts_by : (h : Record) (sender : ℕ) (format : List ℕ) (badge : Badge) → IsSought h → badge_of h sender ≡ Some badge → refusal h sender (Search format) ≡ None → is_some (start_of h sender (Search format)) ≡ is_some (opponent h (id_of badge.name) format)
unfolding refusal start_of
starts_by h sender format badge t is none =
    ap (λ (b : Option Badge). is_some (start_by h b (Search format))) is
    ∙ search_starts h badge.name format t (ap (λ (b : Option Badge). refusal_by h b (Search format)) (sym is) ∙ none)

starts_entry : (h : Record) (e : HallEntry) (format : List ℕ) (badge : Badge) (cmd : HallCmd) → IsSought h → cmd ≡ Search format → badge_of h e.conn ≡ Some badge → refusal h e.conn cmd ≡ None
    → is_some (out_by (refusal h e.conn cmd) h e.conn cmd).start ≡ is_some (opponent h (id_of badge.name) format)
starts_entry h e format badge cmd t is named none =
    ap (λ (v : Option HallWhy). is_some (out_by v h e.conn cmd).start) none
    ∙ ap (λ (c : HallCmd). is_some (start_of h e.conn c)) is
    ∙ starts_by h e.conn format badge t named (ap (refusal h e.conn) (sym is) ∙ none)

first_sought : (o : HallOpening) → IsSought (hall_opened o)
first_sought o = record { once = tt; same = refl }

pub hall_matches_start : HallMatchesStart
hall_matches_start o before e format badge is named none = starts_entry (run_record (hall_opened o) before) e format badge e.cmd (run_sought (hall_opened o) before (first_sought o)) is named none
