-- Alike: how the record of the hall stands to one that was made of a low history, which has no teams of others, no challenges
-- between others and no blocks between others.
use Rattle.std.proofs.Common.{◌≡◌, ℕ, Bool, true, false, cond, not, ◌&&◌, ◌||◌, List, [], ◌∷◌, ◌++◌, Option, Some, None, option_map, find, map, refl, sym, ap, ◌∙◌}
use Rattle.std.proofs.lemmas.Bool.{or_left, or_right}
use Rattle.std.specs.List.{filter}
use Rattle.std.specs.Str.{bytes_eq}
use Rattle.std.specs.FinMap.{get}
use Rattle.std.proofs.lemmas.Slice.Eq.{bytes_eq-Decides}
use Rattle.ps_base.specs.Ids.{id_of}
use Rattle.ps_packed.specs.declared.set.Set.{Set}
use Rattle.ps_valid.specs.declared.legal.Legal.{Legal}
use Rattle.ps_base.specs.ById.{ById}
use Rattle.ps_pms.specs.declared.asked.Asked.{Asked}
use Rattle.ps_pms.specs.Records.{Record as Pms}
use Rattle.ps_pms.specs.Lookups.{blocks, is_by, is_to}
use Rattle.ps_hall.specs.declared.kept.KeptTeam.{KeptTeam}
use Rattle.ps_hall.specs.Records.{Record}
use Rattle.ps_hall.specs.Lookups.{is_kept, kept_team, without_kept, without_user, without_either}
use Rattle.ps_hall.specs.Lines.{challenge_line}
use Rattle.ps_hall.specs.Steps.{keep}
use Rattle.ps_laws.specs.HallLow.{is_user}
use Rattle.ps_laws.proofs.HallListLemmas.{find_within, keep_within, map_kept, find_mapped}
use Rattle.ps_laws.proofs.HallTellLemmas.{is_ours}

-- ---- the parts that aren't known to everybody

pub record Parts : Type 0 where
  pub pms : Pms
  pub teams : ById (List Set)
  pub challenge_teams : List KeptTeam
  pub search_teams : List KeptTeam

abbrev pub parts_of : Record → Parts
parts_of h = record { pms = h.pms; teams = h.teams; challenge_teams = h.challenge_teams; search_teams = h.search_teams }

-- a record with other such parts
abbrev pub join : Record → Parts → Record
join h p = record h { pms = p.pms; teams = p.teams; challenge_teams = p.challenge_teams; search_teams = p.search_teams }

-- ---- a kept team without the team

pub record Label : Type 0 where
  pub name : List ℕ
  pub with_id : List ℕ

abbrev pub label : KeptTeam → Label
label k = record { name = k.name; with_id = k.with_id }

abbrev pub labels : List KeptTeam → List Label
labels ks = map label ks

abbrev pub label_is : List ℕ → List ℕ → Label → Bool
label_is user with_id z = bytes_eq (id_of z.name) user && bytes_eq z.with_id with_id

abbrev pub label_of : List ℕ → Label → Bool
label_of user z = bytes_eq (id_of z.name) user

abbrev pub label_with : List ℕ → Label → Bool
label_with user z = label_of user z || bytes_eq z.with_id user

abbrev pub without_label : List ℕ → List ℕ → List Label → List Label
without_label user with_id [] = []
without_label user with_id (z ∷ zs) = cond (label_is user with_id z) zs (z ∷ without_label user with_id zs)

-- whether a team was kept by one of these users, or for a challenge to one
abbrev pub label_ours : List (List ℕ) → Label → Bool
label_ours ids z = is_user ids (id_of z.name) || is_user ids z.with_id

pub labels_without_user : (user : List ℕ) (ks : List KeptTeam) → labels (without_user user ks) ≡ filter (λ z. not (label_of user z)) (labels ks)
labels_without_user user ks = map_kept label (λ z. not (label_of user z)) ks

pub labels_without_either : (user : List ℕ) (ks : List KeptTeam) → labels (without_either user ks) ≡ filter (λ z. not (label_with user z)) (labels ks)
labels_without_either user ks = map_kept label (λ z. not (label_with user z)) ks

label_left : (user with_id : List ℕ) (k : KeptTeam) (ks : List KeptTeam) (b : Bool) → labels (without_kept user with_id ks) ≡ without_label user with_id (labels ks)
    → labels (cond b ks (k ∷ without_kept user with_id ks)) ≡ cond b (labels ks) (label k ∷ without_label user with_id (labels ks))
label_left user with_id k ks true more = refl
label_left user with_id k ks false more = ap (λ (zs : List Label). label k ∷ zs) more

pub labels_without_kept : (user with_id : List ℕ) (ks : List KeptTeam) → labels (without_kept user with_id ks) ≡ without_label user with_id (labels ks)
labels_without_kept user with_id [] = refl
labels_without_kept user with_id (k ∷ ks) = label_left user with_id k ks (is_kept user with_id k) (labels_without_kept user with_id ks)

pub labels_keep : (ks : List KeptTeam) (name with_id : List ℕ) (legal : Legal) → labels (keep ks name with_id (Some legal)) ≡ labels ks ++ record { name = name; with_id = with_id } ∷ []
labels_keep [] name with_id legal = refl
labels_keep (k ∷ ks) name with_id legal = ap (λ (zs : List Label). label k ∷ zs) (labels_keep ks name with_id legal)

-- the name that a team was kept under
abbrev pub name_kept : List ℕ → List ℕ → List KeptTeam → Option (List ℕ)
name_kept user with_id ks = option_map (λ k. k.name) (kept_team user with_id ks)

name_of : (o : Option KeptTeam) → option_map (λ k. k.name) o ≡ option_map (λ z. z.name) (option_map label o)
name_of None = refl
name_of (Some k) = refl

pub name_found : (user with_id : List ℕ) (ks : List KeptTeam) → name_kept user with_id ks ≡ option_map (λ z. z.name) (find (label_is user with_id) (labels ks))
name_found user with_id ks = name_of (kept_team user with_id ks) ∙ ap (λ (o : Option Label). option_map (λ z. z.name) o) (find_mapped label (label_is user with_id) ks)

-- ---- alike

-- of the parts `p` of the hall, `q` has what these users may know
pub record AreNear (ids : List (List ℕ)) (p q : Parts) : Type 0 where
  pub blocks : (owner target : List ℕ) → (is_user ids owner || is_user ids target) ≡ true → blocks q.pms owner target ≡ blocks p.pms owner target
  pub asked : filter (is_ours ids) q.pms.asked ≡ filter (is_ours ids) p.pms.asked
  pub teams : (me : List ℕ) → is_user ids me ≡ true → get q.teams me ≡ get p.teams me
  pub challenges : filter (label_ours ids) (labels q.challenge_teams) ≡ filter (label_ours ids) (labels p.challenge_teams)
  pub searches : labels q.search_teams ≡ labels p.search_teams

pub record AreAlike (ids : List (List ℕ)) (h l : Record) : Type 0 where
  pub open_parts : l ≡ join h (parts_of l)
  pub near : AreNear ids (parts_of h) (parts_of l)

module _ (ids : List (List ℕ)) where
  pub near_self : (p : Parts) → AreNear ids p p
  near_self p = record { blocks = λ owner target mine. refl; asked = refl; teams = λ me mine. refl; challenges = refl; searches = refl }

  pub near_turned : (p q : Parts) → AreNear ids p q → AreNear ids q p
  near_turned p q n = record {
    blocks = λ owner target mine. sym (n.blocks owner target mine);
    asked = sym n.asked;
    teams = λ me mine. sym (n.teams me mine);
    challenges = sym n.challenges;
    searches = sym n.searches;
  }

  pub near_chain : (p q r : Parts) → AreNear ids p q → AreNear ids q r → AreNear ids p r
  near_chain p q r n m = record {
    blocks = λ owner target mine. m.blocks owner target mine ∙ n.blocks owner target mine;
    asked = m.asked ∙ n.asked;
    teams = λ me mine. m.teams me mine ∙ n.teams me mine;
    challenges = m.challenges ∙ n.challenges;
    searches = m.searches ∙ n.searches;
  }

  pub alike_self : (h : Record) → AreAlike ids h h
  alike_self h = record { open_parts = refl; near = near_self (parts_of h) }

  pub alike_turned : (h l : Record) → AreAlike ids h l → AreAlike ids l h
  alike_turned h l w = record {
    open_parts = sym (ap (λ (x : Record). join x (parts_of h)) w.open_parts);
    near = near_turned (parts_of h) (parts_of l) w.near;
  }

  pub alike_chain : (h l m : Record) → AreAlike ids h l → AreAlike ids l m → AreAlike ids h m
  alike_chain h l m w x = record {
    open_parts = x.open_parts ∙ ap (λ (y : Record). join y (parts_of m)) w.open_parts;
    near = near_chain (parts_of h) (parts_of l) (parts_of m) w.near x.near;
  }

-- ---- what is read of the challenges of a user

module _ (ids : List (List ℕ)) (me : List ℕ) (mine : is_user ids me ≡ true) where
  by_ours : (a : Asked) → is_by me a ≡ true → is_ours ids a ≡ true
  by_ours a is = or_left (is_user ids a.by) (is_user ids a.to) (ap (is_user ids) ((bytes_eq-Decides a.by me).0 is) ∙ mine)

  to_ours : (a : Asked) → is_to me a ≡ true → is_ours ids a ≡ true
  to_ours a is = or_right (is_user ids a.by) (is_user ids a.to) (ap (is_user ids) ((bytes_eq-Decides a.to me).0 is) ∙ mine)

  module _ (one two : List Asked) (same : filter (is_ours ids) one ≡ filter (is_ours ids) two) where
    pub made_same : find (is_by me) one ≡ find (is_by me) two
    made_same = sym (find_within (is_by me) (is_ours ids) by_ours one) ∙ ap (find (is_by me)) same ∙ find_within (is_by me) (is_ours ids) by_ours two

    pub got_same : filter (is_to me) one ≡ filter (is_to me) two
    got_same = sym (keep_within (is_to me) (is_ours ids) to_ours one) ∙ ap (filter (is_to me)) same ∙ keep_within (is_to me) (is_ours ids) to_ours two

    pub line_same : challenge_line one me ≡ challenge_line two me
    unfolding challenge_line
    line_same = rw (made_same, got_same) refl
