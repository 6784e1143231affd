-- A battle that starts can start.
use Rattle.std.proofs.Common.{◌≡◌, ◌≢◌, ℕ, ℤ, Bool, true, false, cond, List, [], ◌∷◌, Option, Some, None, Result, Ok, Err, IfOk, IfSome, IsSome, find, All, refl, sym, subst, ◌∙◌}
use Rattle.std.specs.Str.{bytes_eq}
use Rattle.std.proofs.lemmas.Slice.Eq.{bytes_eq-Decides}
use Rattle.std.proofs.lemmas.List.Elements.{All-head, All-tail}
use Rattle.std.proofs.lemmas.Bool.{and_parts, not-true, both_ways}
use Rattle.ps_base.specs.Ids.{id_of}
use Rattle.ps_dex.specs.declared.item.Tables.{Tables}
use Rattle.ps_rules.specs.declared.table.Format.{Format}
use Rattle.ps_valid.specs.declared.legal.Legal.{Legal}
use Rattle.rules_start.specs.declared.start.Start.{Start}
use Rattle.ps_valid.specs.Ready.{IsReady}
use Rattle.rules_start.specs.Fits.{IsFit}
use Rattle.ps_pms.specs.declared.asked.Asked.{Asked}
use Rattle.ps_pms.specs.Lookups.{is_of, asked_of}
use Rattle.ps_ladder.specs.declared.searches.Search.{Search}
use Rattle.ps_ladder.specs.Waiting.{suits, found}
use Rattle.ps_hall.specs.declared.kept.KeptTeam.{KeptTeam}
use Rattle.ps_hall.specs.Records.{Record}
use Rattle.ps_hall.specs.Lookups.{is_kept, kept_team, legal_under, legal_team, format_in, challenge_from, opponent, rating_in}
use Rattle.ps_hall.specs.KeptIndices.{IsKeptReady, AreReady}
use Rattle.ps_hall.specs.Starts.{start_if}

-- ---- tests

apart : (a b : List ℕ) → bytes_eq a b ≡ false → a ≢ b
apart a b f same = both_ways (bytes_eq a b) f ((bytes_eq-Decides a b).1 same)

some_all : {A : Type 0} {P : Type 0} (o : Option A) → P → IfSome o (λ _. P)
some_all None p = tt
some_all (Some x) p = p

-- what a call gave is what a definition gives
pub if_ok : {E : Type 0} (Q : Start → Type 0) (v : Option Start) (r : Result (Option Start) E) → IfOk r (λ o. o ≡ v) → IfSome v Q → IfOk r (λ o. IfSome o Q)
if_ok Q v (Ok o) e h = subst (λ (x : Option Start). IfSome x Q) (sym e) h
if_ok Q v (Err e) is h = tt

-- ---- the first that a walk finds has what it looks for

module _ (dex : Tables) (user with_id : List ℕ) where
  abbrev IsFoundKept : KeptTeam → Type 0
  IsFoundKept k = IsKeptReady dex k × (is_kept user with_id k ≡ true)

  kept_by : (k : KeptTeam) (ks : List KeptTeam) (b : Bool) → is_kept user with_id k ≡ b → IsKeptReady dex k → IfSome (kept_team user with_id ks) IsFoundKept
      → IfSome (cond b (Some k) (kept_team user with_id ks)) IsFoundKept
  kept_by k ks true t ready more = (ready, t)
  kept_by k ks false t ready more = more

  kept_found : (ks : List KeptTeam) → All (IsKeptReady dex) ks → IfSome (kept_team user with_id ks) IsFoundKept
  kept_found [] all = tt
  kept_found (k ∷ ks) all = kept_by k ks (is_kept user with_id k) refl (All-head (IsKeptReady dex) k ks all) (kept_found ks (All-tail (IsKeptReady dex) k ks all))

found_by : (user format : List ℕ) (rating : ℤ) (s : Search) (ss : List Search) (b : Bool) → suits user format rating s ≡ b → IfSome (found ss user format rating) (λ x. suits user format rating x ≡ true)
    → IfSome (cond b (Some s) (found ss user format rating)) (λ x. suits user format rating x ≡ true)
found_by user format rating s ss true t more = t
found_by user format rating s ss false t more = more

found_suits : (user format : List ℕ) (rating : ℤ) (ss : List Search) → IfSome (found ss user format rating) (λ x. suits user format rating x ≡ true)
found_suits user format rating [] = tt
found_suits user format rating (s ∷ ss) = found_by user format rating s ss (suits user format rating s) refl (found_suits user format rating ss)

asked_by_walk : (by to : List ℕ) (a : Asked) (others : List Asked) (b : Bool) → is_of by to a ≡ b → IfSome (find (is_of by to) others) (λ x. is_of by to x ≡ true)
    → IfSome (cond b (Some a) (find (is_of by to) others)) (λ x. is_of by to x ≡ true)
asked_by_walk by to a others true t more = t
asked_by_walk by to a others false t more = more

asked_found : (by to : List ℕ) (list : List Asked) → IfSome (find (is_of by to) list) (λ x. is_of by to x ≡ true)
asked_found by to [] = tt
asked_found by to (a ∷ others) = asked_by_walk by to a others (is_of by to a) refl (asked_found by to others)

-- ---- a legal team is of a format that there is

format_by : (h : Record) (me : List ℕ) (f : Option Format) → IfSome (legal_under h me f) (λ _. IsSome f)
format_by h me None = tt
format_by h me (Some f) = some_all (legal_under h me (Some f)) refl

-- ---- a kept team and a legal one of two users

abbrev IsFitKept : Record → List ℕ → KeptTeam → Type 0
IsFitKept h name k = IsReady h.dex k.team × (id_of k.name ≢ id_of name)

fit_if : (h : Record) (format name : List ℕ) (k : Option KeptTeam) (l : Option Legal)
    → IfSome k (IsFitKept h name) → IfSome l (λ x. IsReady h.dex x) → IfSome l (λ _. IsSome (format_in h format))
    → IfSome (start_if h format k name l) (λ s. IsFit s h.config h.dex)
fit_if h format name None l kept legal known = tt
fit_if h format name (Some k) None kept legal known = tt
fit_if h format name (Some k) (Some l) kept legal known = record { first = kept.0; second = legal; format = known; players = kept.1 }

-- whose kept team was found is the user that was looked for
apart_kept : (h : Record) (name user with_id : List ℕ) (k : Option KeptTeam) → IfSome k (IsFoundKept h.dex user with_id) → user ≢ id_of name → IfSome k (IsFitKept h name)
apart_kept h name user with_id None found other = tt
apart_kept h name user with_id (Some k) found other = (found.0, λ same. other (sym ((bytes_eq-Decides (id_of k.name) user).0 (and_parts _ _ found.1).0) ∙ same))

fit_by : (h : Record) (format name user with_id : List ℕ) (ks : List KeptTeam) (k : Option KeptTeam) (l : Option Legal) → All (IsKeptReady h.dex) ks → user ≢ id_of name
    → k ≡ kept_team user with_id ks → l ≡ legal_team h (id_of name) format → IfSome l (λ x. IsReady h.dex x)
    → IfSome (start_if h format k name l) (λ s. IsFit s h.config h.dex)
fit_by h format name user with_id ks k l all other is legal ready =
    fit_if h format name k l
    (apart_kept h name user with_id k (subst (λ (x : Option KeptTeam). IfSome x (IsFoundKept h.dex user with_id)) (sym is) (kept_found h.dex user with_id ks all)) other)
    ready
    (subst (λ (x : Option Legal). IfSome x (λ _. IsSome (format_in h format))) (sym legal) (format_by h (id_of name) (format_in h format)))

-- ---- matches and challenges

other_apart : (h : Record) (me format : List ℕ) (s : Search) → opponent h me format ≡ Some s → s.user ≢ me
other_apart h me format s is =
    let t = subst (λ (x : Option Search). IfSome x (λ y. suits me format (rating_in h format me) y ≡ true)) is (found_suits me format (rating_in h format me) h.searches) in
    apart s.user me (not-true _ (and_parts _ _ t).0)

pub fit_match : (h : Record) (name format : List ℕ) (s : Search) (k : Option KeptTeam) (l : Option Legal) → AreReady h → opponent h (id_of name) format ≡ Some s
    → k ≡ kept_team s.user format h.search_teams → l ≡ legal_team h (id_of name) format → IfSome l (λ x. IsReady h.dex x)
    → IfSome (start_if h format k name l) (λ x. IsFit x h.config h.dex)
fit_match h name format s k l ready other is legal legal_ready =
    fit_by h format name s.user format h.search_teams k l ready.search_teams (other_apart h (id_of name) format s other) is legal legal_ready

from_by : (h : Record) (me user : List ℕ) (a : Asked) (b : Bool) → bytes_eq user me ≡ b → cond b None (asked_of h.pms user me) ≡ Some a → a.by ≢ me
from_by h me user a true t is = absurd cc
from_by h me user a false t is =
    let of = subst (λ (x : Option Asked). IfSome x (λ y. is_of user me y ≡ true)) is (asked_found user me h.pms.asked) in
    λ same. apart user me t (sym ((bytes_eq-Decides a.by user).0 (and_parts _ _ of).0) ∙ same)

pub fit_challenge : (h : Record) (name user : List ℕ) (a : Asked) (k : Option KeptTeam) (l : Option Legal) → AreReady h → challenge_from h (id_of name) user ≡ Some a
    → k ≡ kept_team a.by (id_of name) h.challenge_teams → l ≡ legal_team h (id_of name) a.format → IfSome l (λ x. IsReady h.dex x)
    → IfSome (start_if h a.format k name l) (λ x. IsFit x h.config h.dex)
fit_challenge h name user a k l ready from is legal legal_ready =
    fit_by h a.format name a.by (id_of name) h.challenge_teams k l ready.challenge_teams (from_by h (id_of name) user a (bytes_eq user (id_of name)) refl from) is legal legal_ready
