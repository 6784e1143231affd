-- Who searches, challenges or accepts, where it is allowed, has a legal team; so the effect doesn't depend on the team.
use Rattle.std.proofs.Common.{◌≡◌, ℕ, Bool, true, false, List, [], ◌∷◌, ◌++◌, Option, Some, None, Result, Ok, Err, option_map, refl, ap, ◌∙◌}
use Rattle.ps_base.specs.Ids.{id_of}
use Rattle.ps_base.specs.declared.hall_why.HallWhy.{HallWhy}
use Rattle.ps_base.specs.declared.hall_why.HallWhy.TheVariants as why
use Rattle.ps_rules.specs.declared.table.Format.{Format}
use Rattle.ps_valid.specs.declared.legal.Legal.{Legal}
use Rattle.ps_valid.specs.declared.verdict.Verdict.{Verdict}
use Rattle.std.specs.FinMap.{get}
use Rattle.std.specs.Str.{bytes_eq}
use Rattle.std.specs.Prelude.{◌+◌, not}
use Rattle.ps_pms.specs.declared.asked.Asked.{Asked}
use Rattle.ps_ladder.specs.declared.searches.Search.{Search}
use Rattle.ps_hall.specs.declared.kept.KeptTeam.{KeptTeam}
use Rattle.ps_hall.specs.Records.{Record}
use Rattle.ps_hall.specs.Lookups.{checked, legal_or, legal_team, legal_under, format_in, kept_team, is_online, challenge_from, opponent}
use Rattle.ps_hall.specs.Refusals.{or_else, of_checked, of_team, of_search, of_challenge, of_accepted, of_accept, refusal_of_search, refusal_of_challenge, refusal_of_accept}
use Rattle.ps_hall.specs.Starts.{start_if, start_of_search, start_of_accept, with_start}
use Rattle.ps_hall.specs.Steps.{after_search, after_challenge, after_accept, with_accept}
use Rattle.ps_hall.proofs.ApplyLemmas.{when_more}
use Rattle.ps_laws.proofs.HallEffects.{battle_of, with_battle, searched_by, searched_after, challenged_after, accepted_by, accepted_after}

-- ---- no reason

first_none : (one two : Option HallWhy) → or_else one two ≡ None → one ≡ None
first_none (Some reason) two none = absurd cc
first_none None two none = refl

checked_by : (found : Option (Result Legal Verdict)) → of_checked found ≡ None → (l : Legal) × (legal_or found ≡ Some l)
checked_by None none = absurd cc
checked_by (Some (Ok l)) none = (l, refl)
checked_by (Some (Err v)) none = absurd cc

-- the team of a user that has no fault is legal
legal_of : (h : Record) (me format : List ℕ) (f : Format) → format_in h format ≡ Some f → of_team h me f ≡ None → (l : Legal) × (legal_team h me format ≡ Some l)
legal_of h me format f is none =
    let found = checked_by (checked h f (get h.teams me)) none in
    (found.0, ap (legal_under h me) is ∙ found.1)

search_of : (h : Record) (me format : List ℕ) (f : Option Format) → format_in h format ≡ f → of_search h me format f ≡ None → (l : Legal) × (legal_team h me format ≡ Some l)
search_of h me format None is none = absurd cc
search_of h me format (Some f) is none = legal_of h me format f is (first_none _ _ (when_more _ _ _ none))

challenge_of : (h : Record) (me user format : List ℕ) (f : Option Format) → format_in h format ≡ f → of_challenge h me user f ≡ None → (l : Legal) × (legal_team h me format ≡ Some l)
challenge_of h me user format None is none = absurd cc
challenge_of h me user format (Some f) is none = legal_of h me format f is (first_none _ _ none)

accept_of : (h : Record) (me format : List ℕ) (f : Option Format) → format_in h format ≡ f → of_accepted h me f ≡ None → (l : Legal) × (legal_team h me format ≡ Some l)
accept_of h me format None is none = absurd cc
accept_of h me format (Some f) is none = legal_of h me format f is (first_none _ _ none)

pub search_legal : (h : Record) (me format : List ℕ) → refusal_of_search h me format ≡ None → (l : Legal) × (legal_team h me format ≡ Some l)
unfolding refusal_of_search
search_legal h me format none = search_of h me format (format_in h format) refl none

pub challenge_legal : (h : Record) (me user format : List ℕ) → refusal_of_challenge h me user format ≡ None → (l : Legal) × (legal_team h me format ≡ Some l)
unfolding refusal_of_challenge
challenge_legal h me user format none = challenge_of h me user format (format_in h format) refl (when_more (bytes_eq user me) why.SelfTarget _ (when_more (not (is_online h user)) why.NoSuchUser _ none))

pub accept_legal : (h : Record) (me format : List ℕ) → of_accepted h me (format_in h format) ≡ None → (l : Legal) × (legal_team h me format ≡ Some l)
accept_legal h me format none = accept_of h me format (format_in h format) refl none

-- ---- the battle that starts

pub start_is : (h base : Record) (rated : Bool) (format : List ℕ) (k : Option KeptTeam) (name : List ℕ) (l : Legal) → h.started ≡ base.started
    → with_start base rated (start_if h format k name (Some l)) ≡ with_battle base format rated name (option_map (λ k. k.name) k)
start_is h base rated format None name l same = refl
start_is h base rated format (Some k) name l same =
    ap (λ (n : ℕ). record base { started = base.started + 1; games = base.games ++ battle_of n format rated name k.name ∷ [] }) same

-- ---- the effects

search_by : (h : Record) (name format : List ℕ) (l : Legal) (o : Option Search) → opponent h (id_of name) format ≡ o → legal_team h (id_of name) format ≡ Some l
    → after_search h name format ≡ searched_by h name format l o
unfolding start_of_search
search_by h name format l None is legal = rw (is, legal) refl
search_by h name format l (Some s) is legal = rw (is, legal) (start_is h _ true format (kept_team s.user format h.search_teams) name l refl)

-- an allowed Search
pub search_is : (h : Record) (name format : List ℕ) → refusal_of_search h (id_of name) format ≡ None → (l : Legal) × (after_search h name format ≡ searched_after h name format l)
search_is h name format none =
    let found = search_legal h (id_of name) format none in
    (found.0, search_by h name format found.0 (opponent h (id_of name) format) refl found.1)

-- an allowed Challenge
pub challenge_is : (h : Record) (name user format : List ℕ) → refusal_of_challenge h (id_of name) user format ≡ None
    → (l : Legal) × (after_challenge h name user format ≡ challenged_after h name user format l)
challenge_is h name user format none =
    let found = challenge_legal h (id_of name) user format none in
    (found.0, rw found.1 refl)

accept_by : (h : Record) (name user : List ℕ) (o : Option Asked) → challenge_from h (id_of name) user ≡ o → of_accept h (id_of name) o ≡ None → after_accept h name user ≡ accepted_by h name user o
unfolding start_of_accept
accept_by h name user None is none = absurd cc
accept_by h name user (Some a) is none =
    let found = accept_of h (id_of name) a.format (format_in h a.format) refl none in
    rw (is, found.1) (start_is h (with_accept h (id_of name) user) false a.format (kept_team a.by (id_of name) h.challenge_teams) name found.0 refl)

-- an allowed Accept
pub accept_is : (h : Record) (name user : List ℕ) → refusal_of_accept h (id_of name) user ≡ None → after_accept h name user ≡ accepted_after h name user
unfolding refusal_of_accept
accept_is h name user none = accept_by h name user (challenge_from h (id_of name) user) refl none
