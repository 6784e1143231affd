-- Tidy: nobody has more than one open challenge, and the teams that are kept with challenges are those of the open ones.
use Rattle.std.proofs.Common.{◌≡◌, ℕ, Bool, true, false, cond, not, ◌&&◌, ◌||◌, List, [], ◌∷◌, ◌++◌, Option, Some, None, option_map, is_some, find, map, refl, sym, ap, ap₂, subst, ◌∙◌}
use Rattle.std.proofs.lemmas.Bool.{or_parts}
use Rattle.std.specs.List.{filter, list_any}
use Rattle.std.specs.Str.{bytes_eq}
use Rattle.std.proofs.lemmas.Slice.Eq.{bytes_eq-Decides}
use Rattle.std.proofs.lemmas.List.{map-append}
use Rattle.ps_base.specs.Ids.{id_of}
use Rattle.ps_base.specs.declared.badge.Badge.{Badge}
use Rattle.ps_base.specs.declared.hall_why.HallWhy.{HallWhy}
use Rattle.ps_base.specs.declared.hall_why.HallWhy.TheVariants as why
use Rattle.ps_lines.specs.declared.command.HallCmd.{HallCmd}
use Rattle.ps_lines.specs.declared.command.HallCmd.TheVariants.{Open, Quit, Bad, Name, Team, Search, CancelSearch, Challenge, CancelChallenge, Reject, Accept, Block, Unblock, Report}
use Rattle.ps_valid.specs.declared.legal.Legal.{Legal}
use Rattle.ps_rules.specs.declared.table.Format.{Format}
use Rattle.ps_pms.specs.declared.asked.Asked.{Asked}
use Rattle.ps_pms.specs.Lookups.{is_by, is_of, asked_by, asked_of}
use Rattle.ps_pms.specs.Refusals.{when, refusal_of_asking}
use Rattle.ps_hall.specs.declared.entry.HallEntry.{HallEntry}
use Rattle.ps_hall.specs.declared.game.Game.{Game}
use Rattle.ps_hall.specs.Records.{Record}
use Rattle.ps_hall.specs.Lookups.{badge_of, is_online, format_in, kept_team, game_in}
use Rattle.ps_hall.specs.Refusals.{of_team, of_challenge, refusal_of_challenge, refusal_by, refusal, refusal_of_named}
use Rattle.ps_hall.specs.Starts.{with_game, game_of, start_of_search, start_of_accept}
use Rattle.ps_hall.specs.Steps.{forgotten, with_search, after_challenge, after_team, with_accept, after_cancel_challenge, reported, after_named, after_by, applied}
use Rattle.ps_hall.specs.Halls.{verdict, after, run_record}
use Rattle.ps_hall.proofs.ApplyLemmas.{else_more}
use Rattle.ps_laws.specs.HallStories.{HallOpening, hall_opened}
use Rattle.ps_laws.specs.HallLow.{is_user}
use Rattle.ps_laws.proofs.HallListLemmas.{keep_quiet, map_kept, find_mapped, any_mapped}
use Rattle.ps_laws.proofs.HallTellLemmas.{is_ours}
use Rattle.ps_laws.proofs.HallAlike.{Label, label, labels, label_is, label_of, label_with, without_label, label_ours, labels_without_user, labels_without_either, labels_without_kept, labels_keep, AreAlike}
use Rattle.ps_laws.proofs.HallEffects.{challenged_after}
use Rattle.ps_laws.proofs.HallLegal.{challenge_is}

-- ---- who challenged whom

pub record Ends : Type 0 where
  pub by : List ℕ
  pub to : List ℕ

abbrev ends_asked : Asked → Ends
ends_asked a = record { by = a.by; to = a.to }

abbrev pub ends_label : Label → Ends
ends_label z = record { by = id_of z.name; to = z.with_id }

abbrev pub ends_are : List ℕ → List ℕ → Ends → Bool
ends_are by to e = bytes_eq e.by by && bytes_eq e.to to

-- no two by the same
abbrev IsOnce : List Ends → Type 0
IsOnce [] = Unit {0}
IsOnce (e ∷ es) = (list_any (λ other. bytes_eq other.by e.by) es ≡ false) × IsOnce es

pub record AreTidy (asked : List Asked) (zs : List Label) : Type 0 where
  once : IsOnce (map ends_asked asked)
  same : map ends_label zs ≡ map ends_asked asked

abbrev pub IsTidy : Record → Type 0
IsTidy h = AreTidy h.pms.asked (labels h.challenge_teams)

-- ---- lists without two by the same

any_at : (p test : Ends → Bool) (e : Ends) (es : List Ends) (a b : Bool) → p e ≡ a → test e ≡ b → (a || list_any p es) ≡ false → (list_any p es ≡ false → list_any p (filter test es) ≡ false)
    → list_any p (cond b (e ∷ filter test es) (filter test es)) ≡ false
any_at p test e es true b is kept none more = absurd cc
any_at p test e es false true is kept none more = rw is (more none)
any_at p test e es false false is kept none more = more none

pub any_kept : (p test : Ends → Bool) (es : List Ends) → list_any p es ≡ false → list_any p (filter test es) ≡ false
any_kept p test [] none = refl
any_kept p test (e ∷ es) none = any_at p test e es (p e) (test e) refl refl none (any_kept p test es)

once_at : (test : Ends → Bool) (e : Ends) (es : List Ends) (b : Bool) → IsOnce (e ∷ es) → IsOnce (filter test es) → IsOnce (cond b (e ∷ filter test es) (filter test es))
once_at test e es true once more = (any_kept (λ other. bytes_eq other.by e.by) test es once.0, more)
once_at test e es false once more = more

once_kept : (test : Ends → Bool) (es : List Ends) → IsOnce es → IsOnce (filter test es)
once_kept test [] once = tt
once_kept test (e ∷ es) once = once_at test e es (test e) once (once_kept test es once.1)

turned_by : (a b : List ℕ) (c d : Bool) → bytes_eq a b ≡ c → bytes_eq b a ≡ d → c ≡ false → d ≡ false
turned_by a b c true left right none = let wrong : false ≡ true = sym none ∙ sym left ∙ (bytes_eq-Decides a b).1 (sym ((bytes_eq-Decides b a).0 right)) in absurd cc
turned_by a b c false left right none = refl

pub any_put : (p : Ends → Bool) (es : List Ends) (e : Ends) → list_any p es ≡ false → p e ≡ false → list_any p (es ++ e ∷ []) ≡ false
any_put p [] e none out = rw out refl
any_put p (x ∷ es) e none out = let parts = or_parts (p x) (list_any p es) none in rw parts.0 (any_put p es e parts.1 out)

once_put : (es : List Ends) (e : Ends) → IsOnce es → list_any (λ other. bytes_eq other.by e.by) es ≡ false → IsOnce (es ++ e ∷ [])
once_put [] e once none = (refl, tt)
once_put (x ∷ es) e once none =
    let parts = or_parts (bytes_eq x.by e.by) (list_any (λ other. bytes_eq other.by e.by) es) none in
    (any_put (λ other. bytes_eq other.by x.by) es e once.0 (turned_by x.by e.by (bytes_eq x.by e.by) (bytes_eq e.by x.by) refl refl parts.0), once_put es e once.1 parts.1)

-- ---- the first is all

abbrev pub without_ends : List ℕ → List ℕ → List Ends → List Ends
without_ends by to [] = []
without_ends by to (e ∷ es) = cond (ends_are by to e) es (e ∷ without_ends by to es)

keep_at : (by to : List ℕ) (e : Ends) (es : List Ends) (a b : Bool) → bytes_eq e.by by ≡ a → bytes_eq e.to to ≡ b → (a || list_any (λ x. bytes_eq x.by by) es) ≡ false
    → (list_any (λ x. bytes_eq x.by by) es ≡ false → es ≡ filter (λ x. not (ends_are by to x)) es)
    → e ∷ es ≡ cond (not (a && b)) (e ∷ filter (λ x. not (ends_are by to x)) es) (filter (λ x. not (ends_are by to x)) es)
keep_at by to e es true b is at none more = absurd cc
keep_at by to e es false b is at none more = ap (λ (xs : List Ends). e ∷ xs) (more none)

-- where none is by who is looked for, all stay
all_stay : (by to : List ℕ) (es : List Ends) → list_any (λ x. bytes_eq x.by by) es ≡ false → es ≡ filter (λ x. not (ends_are by to x)) es
all_stay by to [] none = refl
all_stay by to (e ∷ es) none = keep_at by to e es (bytes_eq e.by by) (bytes_eq e.to to) refl refl none (all_stay by to es)

first_at : (by to : List ℕ) (e : Ends) (es : List Ends) (a b : Bool) → bytes_eq e.by by ≡ a → bytes_eq e.to to ≡ b → list_any (λ other. bytes_eq other.by e.by) es ≡ false
    → without_ends by to es ≡ filter (λ x. not (ends_are by to x)) es
    → cond (a && b) es (e ∷ without_ends by to es) ≡ cond (not (a && b)) (e ∷ filter (λ x. not (ends_are by to x)) es) (filter (λ x. not (ends_are by to x)) es)
first_at by to e es true true is at none more = all_stay by to es (subst (λ (x : List ℕ). list_any (λ other. bytes_eq other.by x) es ≡ false) ((bytes_eq-Decides e.by by).0 is) none)
first_at by to e es true false is at none more = ap (λ (xs : List Ends). e ∷ xs) more
first_at by to e es false b is at none more = ap (λ (xs : List Ends). e ∷ xs) more

first_is_all : (by to : List ℕ) (es : List Ends) → IsOnce es → without_ends by to es ≡ filter (λ x. not (ends_are by to x)) es
first_is_all by to [] once = refl
first_is_all by to (e ∷ es) once = first_at by to e es (bytes_eq e.by by) (bytes_eq e.to to) refl refl once.0 (first_is_all by to es once.1)

without_at : (by to : List ℕ) (z : Label) (zs : List Label) (b : Bool) → map ends_label (without_label by to zs) ≡ without_ends by to (map ends_label zs)
    → map ends_label (cond b zs (z ∷ without_label by to zs)) ≡ cond b (map ends_label zs) (ends_label z ∷ without_ends by to (map ends_label zs))
without_at by to z zs true more = refl
without_at by to z zs false more = ap (λ (es : List Ends). ends_label z ∷ es) more

pub ends_without : (by to : List ℕ) (zs : List Label) → map ends_label (without_label by to zs) ≡ without_ends by to (map ends_label zs)
ends_without by to [] = refl
ends_without by to (z ∷ zs) = without_at by to z zs (label_is by to z) (ends_without by to zs)

-- ---- what keeps it

tidy_kept : (test : Ends → Bool) (asked : List Asked) (zs : List Label) → AreTidy asked zs → AreTidy (filter (λ a. test (ends_asked a)) asked) (filter (λ z. test (ends_label z)) zs)
tidy_kept test asked zs t = record {
  once = subst IsOnce (sym (map_kept ends_asked test asked)) (once_kept test (map ends_asked asked) t.once);
  same = map_kept ends_label test zs ∙ ap (filter test) t.same ∙ sym (map_kept ends_asked test asked);
}

tidy_answered : (by to : List ℕ) (asked : List Asked) (zs : List Label) → AreTidy asked zs → AreTidy (filter (λ a. not (is_of by to a)) asked) (without_label by to zs)
tidy_answered by to asked zs t = record {
  once = subst IsOnce (sym (map_kept ends_asked (λ e. not (ends_are by to e)) asked)) (once_kept (λ e. not (ends_are by to e)) (map ends_asked asked) t.once);
  same =
      ends_without by to zs
      ∙ ap (without_ends by to) t.same
      ∙ first_is_all by to (map ends_asked asked) t.once
      ∙ sym (map_kept ends_asked (λ e. not (ends_are by to e)) asked);
}

tidy_asked : (a : Asked) (z : Label) (asked : List Asked) (zs : List Label) → ends_label z ≡ ends_asked a → list_any (is_by a.by) asked ≡ false → AreTidy asked zs
    → AreTidy (asked ++ a ∷ []) (zs ++ z ∷ [])
tidy_asked a z asked zs is none t = record {
  once = subst IsOnce (sym (map-append ends_asked asked (a ∷ []))) (once_put (map ends_asked asked) (ends_asked a) t.once (any_mapped ends_asked (λ other. bytes_eq other.by a.by) asked ∙ none));
  same = map-append ends_label zs (z ∷ []) ∙ ap₂ (λ (es : List Ends) (e : Ends). es ++ e ∷ []) t.same is ∙ sym (map-append ends_asked asked (a ∷ []));
}

-- ---- each command

tidy_is : (asked : List Asked) (zs ys : List Label) → ys ≡ zs → AreTidy asked zs → AreTidy asked ys
tidy_is asked zs ys is t = subst (AreTidy asked) (sym is) t

tidy_game : (h : Record) (o : Option Game) → IsTidy h → IsTidy (with_game h o)
tidy_game h None t = t
tidy_game h (Some g) t = t

tidy_quit : (h : Record) (badge : Option Badge) → IsTidy h → IsTidy (forgotten h badge)
tidy_quit h None t = t
tidy_quit h (Some b) t = tidy_is _ (filter (λ z. not (label_with (id_of b.name) z)) (labels h.challenge_teams)) _ (labels_without_either (id_of b.name) h.challenge_teams)
    (tidy_kept (λ e. not (bytes_eq e.by (id_of b.name) || bytes_eq e.to (id_of b.name))) h.pms.asked (labels h.challenge_teams) t)

tidy_cancelled : (h : Record) (me : List ℕ) → IsTidy h → IsTidy (after_cancel_challenge h me)
tidy_cancelled h me t = tidy_is _ (filter (λ z. not (label_of me z)) (labels h.challenge_teams)) _ (labels_without_user me h.challenge_teams)
    (tidy_kept (λ e. not (bytes_eq e.by me)) h.pms.asked (labels h.challenge_teams) t)

tidy_accepted : (h : Record) (me user : List ℕ) → IsTidy h → IsTidy (with_accept h me user)
tidy_accepted h me user t = tidy_is _ (without_label user me (labels h.challenge_teams)) _ (labels_without_kept user me h.challenge_teams)
    (tidy_answered user me h.pms.asked (labels h.challenge_teams) t)

tidy_challenged : (h : Record) (name user format : List ℕ) (legal : Legal) → list_any (is_by (id_of name)) h.pms.asked ≡ false → IsTidy h → IsTidy (challenged_after h name user format legal)
tidy_challenged h name user format legal none t = tidy_is _ (labels h.challenge_teams ++ record { name = name; with_id = user } ∷ []) _ (labels_keep h.challenge_teams name user legal)
    (tidy_asked (record { by = id_of name; to = user; format = format }) (record { name = name; with_id = user }) h.pms.asked (labels h.challenge_teams) refl none t)

tidy_team : (h : Record) (me : List ℕ) (pack : Option (List ℕ)) → IsTidy h → IsTidy (after_team h me pack)
tidy_team h me None t = t
tidy_team h me (Some text) t = t

tidy_reported : (h : Record) (number : ℕ) (winner : Option ℕ) (o : Option Game) → IsTidy h → IsTidy (reported h number winner o)
tidy_reported h number winner None t = t
tidy_reported h number winner (Some g) t = t

-- ---- who challenges has no open challenge

found_at : (p : Asked → Bool) (a : Asked) (asked : List Asked) (b : Bool) → (is_some (find p asked) ≡ false → list_any p asked ≡ false)
    → is_some (cond b (Some a) (find p asked)) ≡ false → (b || list_any p asked) ≡ false
found_at p a asked true more none = absurd cc
found_at p a asked false more none = more none

none_found : (p : Asked → Bool) (asked : List Asked) → is_some (find p asked) ≡ false → list_any p asked ≡ false
none_found p [] none = refl
none_found p (a ∷ asked) none = found_at p a asked (p a) (none_found p asked) none

pub when_not : (b : Bool) (reason : HallWhy) (more : Option HallWhy) → when b reason more ≡ None → (b ≡ false) × (more ≡ None)
when_not true reason more none = absurd cc
when_not false reason more none = (refl, none)

asked_none : (h : Record) (me user : List ℕ) (f : Option Format) → of_challenge h me user f ≡ None → list_any (is_by me) h.pms.asked ≡ false
asked_none h me user None none = absurd cc
asked_none h me user (Some f) none =
    let asking : refusal_of_asking h.pms me user ≡ None = else_more (of_team h me f) (refusal_of_asking h.pms me user) none in
    let second = when_not (is_some (asked_by h.pms me)) why.AlreadyChallenged None (when_not _ why.Blocked (when (is_some (asked_by h.pms me)) why.AlreadyChallenged None) asking).1 in
    none_found (is_by me) h.pms.asked second.0

no_challenge : (h : Record) (me user format : List ℕ) → refusal_of_challenge h me user format ≡ None → list_any (is_by me) h.pms.asked ≡ false
unfolding refusal_of_challenge
no_challenge h me user format none =
    asked_none h me user (format_in h format) (when_not (bytes_eq user me) why.SelfTarget _ (when_not (not (is_online h user)) why.NoSuchUser _ none).1).1

tidy_challenge : (h : Record) (name user format : List ℕ) → refusal_of_challenge h (id_of name) user format ≡ None → IsTidy h → IsTidy (after_challenge h name user format)
tidy_challenge h name user format none t =
    let found = challenge_is h name user format none in
    subst IsTidy (sym found.1) (tidy_challenged h name user format found.0 (no_challenge h (id_of name) user format none) t)

tidy_named : (h : Record) (name : List ℕ) (cmd : HallCmd) → refusal_of_named h (id_of name) cmd ≡ None → IsTidy h → IsTidy (after_named h name cmd)
tidy_named h name (Team pack) none t = tidy_team h (id_of name) pack t
tidy_named h name (Search format) none t = tidy_game (with_search h name format) (option_map (game_of true) (start_of_search h name format)) t
tidy_named h name CancelSearch none t = t
tidy_named h name (Challenge user format) none t = tidy_challenge h name user format none t
tidy_named h name CancelChallenge none t = tidy_cancelled h (id_of name) t
tidy_named h name (Reject user) none t = tidy_accepted h (id_of name) user t
tidy_named h name (Accept user) none t = tidy_game (with_accept h (id_of name) user) (option_map (game_of false) (start_of_accept h name user)) (tidy_accepted h (id_of name) user t)
tidy_named h name (Block user) none t = t
tidy_named h name (Unblock user) none t = t
tidy_named h name other none t = t

tidy_by : (h : Record) (badge : Option Badge) (cmd : HallCmd) → refusal_by h badge cmd ≡ None → IsTidy h → IsTidy (after_by h badge cmd)
tidy_by h None cmd none t = t
tidy_by h (Some b) cmd none t = tidy_named h b.name cmd none t

tidy_applied : (h : Record) (conn : ℕ) (cmd : HallCmd) → refusal h conn cmd ≡ None → IsTidy h → IsTidy (applied h conn cmd)
unfolding refusal applied
tidy_applied h conn Open none t = t
tidy_applied h conn Quit none t = tidy_quit h (badge_of h conn) t
tidy_applied h conn (Bad reason) none t = t
tidy_applied h conn (Name name assertion) none t = t
tidy_applied h conn (Report number winner) none t = tidy_reported h number winner (game_in h number) t
tidy_applied h conn other none t = tidy_by h (badge_of h conn) other none t

tidy_judged : (h : Record) (e : HallEntry) (v : Option HallWhy) → verdict h e ≡ v → IsTidy h → IsTidy (after h e)
tidy_judged h e (Some reason) is t = rw is t
tidy_judged h e None is t = rw is (tidy_applied h e.conn e.cmd is t)

-- there is no challenge at first
pub tidy_first : (o : HallOpening) → IsTidy (hall_opened o)
tidy_first o = record { once = tt; same = refl }

-- each entry keeps it
pub tidy_after : (h : Record) (e : HallEntry) → IsTidy h → IsTidy (after h e)
tidy_after h e t = tidy_judged h e (verdict h e) refl t

pub run_tidy : (h : Record) (es : List HallEntry) → IsTidy h → IsTidy (run_record h es)
run_tidy h [] t = t
run_tidy h (e ∷ es) t = run_tidy (after h e) es (tidy_after h e t)

-- ---- a challenge has its team

pub is_there : {X Y : Type 0} (f : X → Y) (o : Option X) → is_some (option_map f o) ≡ is_some o
is_there f None = refl
is_there f (Some x) = refl

-- the team of an open challenge is kept
pub team_kept : (h : Record) (by to : List ℕ) → IsTidy h → is_some (kept_team by to h.challenge_teams) ≡ is_some (asked_of h.pms by to)
team_kept h by to t =
    sym (is_there label (kept_team by to h.challenge_teams))
    ∙ ap is_some (find_mapped label (label_is by to) h.challenge_teams)
    ∙ sym (is_there ends_label (find (label_is by to) (labels h.challenge_teams)))
    ∙ ap is_some (find_mapped ends_label (ends_are by to) (labels h.challenge_teams) ∙ ap (find (ends_are by to)) t.same ∙ sym (find_mapped ends_asked (ends_are by to) h.pms.asked))
    ∙ is_there ends_asked (find (is_of by to) h.pms.asked)

-- ---- a challenge between others is taken back

module _ (ids : List (List ℕ)) (me : List ℕ) (out : is_user ids me ≡ false) where
  abbrev ends_ours : Ends → Bool
  ends_ours e = is_user ids e.by || is_user ids e.to

  abbrev is_lost : Ends → Bool
  is_lost e = ends_ours e && not (not (bytes_eq e.by me))

  lost_at : (e : Ends) (es : List Ends) (a b : Bool) → bytes_eq e.by me ≡ a → (a || list_any (λ x. bytes_eq x.by me) es) ≡ false
      → (list_any (λ x. bytes_eq x.by me) es ≡ false → list_any is_lost es ≡ false) → ends_ours e ≡ b → ((b && not (not a)) || list_any is_lost es) ≡ false
  lost_at e es true b is none more mine = absurd cc
  lost_at e es false true is none more mine = more none
  lost_at e es false false is none more mine = more none

  none_lost : (es : List Ends) → list_any (λ x. bytes_eq x.by me) es ≡ false → list_any is_lost es ≡ false
  none_lost [] none = refl
  none_lost (e ∷ es) none = lost_at e es (bytes_eq e.by me) (ends_ours e) refl none (none_lost es) refl

  one_at : (e : Ends) (es : List Ends) (a b c : Bool) → bytes_eq e.by me ≡ a → is_user ids e.by ≡ b → is_user ids e.to ≡ c → list_any (λ other. bytes_eq other.by e.by) es ≡ false
      → (to : List ℕ) → is_user ids to ≡ false → option_map (λ x. x.to) (cond a (Some e) (find (λ x. bytes_eq x.by me) es)) ≡ Some to
      → (option_map (λ x. x.to) (find (λ x. bytes_eq x.by me) es) ≡ Some to → list_any is_lost es ≡ false)
      → (((b || c) && not (not a)) || list_any is_lost es) ≡ false
  one_at e es true true c is by at none to to_out found more = let wrong : true ≡ false = sym by ∙ ap (is_user ids) ((bytes_eq-Decides e.by me).0 is) ∙ out in absurd cc
  one_at e es true false true is by at none to to_out found more =
      let same : e.to ≡ to = cc in
      let wrong : true ≡ false = sym at ∙ ap (is_user ids) same ∙ to_out in
      absurd cc
  one_at e es true false false is by at none to to_out found more = none_lost es (subst (λ (x : List ℕ). list_any (λ other. bytes_eq other.by x) es ≡ false) ((bytes_eq-Decides e.by me).0 is) none)
  one_at e es false true c is by at none to to_out found more = more found
  one_at e es false false true is by at none to to_out found more = more found
  one_at e es false false false is by at none to to_out found more = more found

  one_lost : (es : List Ends) → IsOnce es → (to : List ℕ) → is_user ids to ≡ false → option_map (λ x. x.to) (find (λ x. bytes_eq x.by me) es) ≡ Some to → list_any is_lost es ≡ false
  one_lost [] once to to_out found = refl
  one_lost (e ∷ es) once to to_out found =
      one_at e es (bytes_eq e.by me) (is_user ids e.by) (is_user ids e.to) refl refl refl once.0 to to_out found (one_lost es once.1 to to_out)

  to_mapped : (o : Option Asked) → option_map (λ x. x.to) (option_map ends_asked o) ≡ option_map (λ x. x.to) o
  to_mapped None = refl
  to_mapped (Some a) = refl

  find_ends : (asked : List Asked) → option_map (λ x. x.to) (find (λ x. bytes_eq x.by me) (map ends_asked asked)) ≡ option_map (λ x. x.to) (find (is_by me) asked)
  find_ends asked = ap (λ (o : Option Ends). option_map (λ x. x.to) o) (sym (find_mapped ends_asked (λ x. bytes_eq x.by me) asked)) ∙ to_mapped (find (is_by me) asked)

  -- the challenge of another to another is taken back
  pub cancel_unseen : (h : Record) (a : Asked) → IsTidy h → asked_by h.pms me ≡ Some a → is_user ids a.to ≡ false → AreAlike ids h (after_cancel_challenge h me)
  cancel_unseen h a t is to_out =
      let lost : list_any is_lost (map ends_asked h.pms.asked) ≡ false = one_lost (map ends_asked h.pms.asked) t.once a.to to_out
      (find_ends h.pms.asked ∙ ap (λ (o : Option Asked). option_map (λ x. x.to) o) is) in
      record {
        open_parts = refl;
        near = record {
          blocks = λ owner target mine. refl;
          asked = keep_quiet (is_ours ids) (λ x. not (is_by me x)) h.pms.asked (sym (any_mapped ends_asked is_lost h.pms.asked) ∙ lost);
          teams = λ who mine. refl;
          challenges =
              ap (filter (label_ours ids)) (labels_without_user me h.challenge_teams)
              ∙ keep_quiet (label_ours ids) (λ z. not (label_of me z)) (labels h.challenge_teams) (sym (any_mapped ends_label is_lost (labels h.challenge_teams)) ∙ ap (list_any is_lost) t.same ∙ lost);
          searches = refl;
        };
      }
