-- The teams that are kept with searches at their numbers, and what the index finds.
use Rattle.std.proofs.Common.{◌≡◌, ℕ, ◌+◌, Bool, true, false, cond, ◌&&◌, List, [], ◌∷◌, ◌++◌, find, Option, Some, None, bytes_eq, refl, sym, ap, ◌∙◌, subst}
use Rattle.std.specs.FinMap.{empty}
use Rattle.ps_base.specs.Ids.{id_of}
use Rattle.ps_base.specs.ById.{ById}
use Rattle.hall_index.specs.Numbered.{item_at, items_of, without, AreBelow}
use Rattle.hall_index.specs.IdIndices.{numbers_at, with_number, without_number, IsIndexed}
use Rattle.hall_index.specs.Finds.{first_number, AreApart, first_at, without_first}
use Rattle.hall_index.proofs.NumberLemmas.{item_last, without_last, below_more, below_without}
use Rattle.hall_index.proofs.IndexLemmas.{indexed_none, indexed_more, indexed_without, indexed_gone}
use Rattle.hall_index.proofs.FindLemmas as finds
use Rattle.ps_hall.specs.declared.kept.KeptTeam.{KeptTeam}
use Rattle.ps_hall.specs.declared.search_teams.Table.{Table}
use Rattle.ps_hall.specs.Lookups.{is_kept, is_kept_of, kept_team, without_kept, without_user}
use Rattle.ps_hall.specs.SearchTeams.{AreNumbered}

abbrev Entries : Type 0
Entries = List (ℕ × KeptTeam)

abbrev Index : Type 0
Index = ById (List ℕ)

and_left : (a b : Bool) → (a && b) ≡ true → a ≡ true
and_left true b t = refl
and_left false b t = t

-- ---- the team of a user that was kept with an id

module _ (user with_id : List ℕ) where
  -- it is one of the user's
  of_user : (k : KeptTeam) → is_kept user with_id k ≡ true → is_kept_of user k ≡ true
  of_user k t = and_left (is_kept_of user k) (bytes_eq k.with_id with_id) t

  left_is : (ks : List KeptTeam) → without_kept user with_id ks ≡ without_first (is_kept user with_id) ks
  left_is [] = refl
  left_is (k ∷ ks) = ap (λ (l : List KeptTeam). cond (is_kept user with_id k) ks (k ∷ l)) (left_is ks)

  module _ (t : Table) (kept : AreNumbered t) where
    pub first_with : (o : Option ℕ) (id ns : List ℕ) → ns ≡ numbers_at t.users id → id ≡ user → o ≡ first_at (is_kept user with_id) t.teams ns
        → first_at (is_kept user with_id) t.teams (numbers_at t.users user) ≡ o
    first_with o id ns numbers same is =
        ap (λ x. first_at (is_kept user with_id) t.teams (numbers_at t.users x)) (sym same) ∙ ap (first_at (is_kept user with_id) t.teams) (sym numbers) ∙ sym is

    pub found_none : first_at (is_kept user with_id) t.teams (numbers_at t.users user) ≡ None → None ≡ kept_team user with_id (items_of t.teams)
    found_none none = sym (finds.found_none (is_kept user with_id) is_kept_of user of_user t.next t.teams t.users kept.by_user kept.apart none)

    pub left_none : first_at (is_kept user with_id) t.teams (numbers_at t.users user) ≡ None → items_of t.teams ≡ without_kept user with_id (items_of t.teams)
    left_none none =
        finds.left_none (is_kept user with_id) is_kept_of user of_user t.next t.teams t.users kept.by_user kept.apart none
        ∙ sym (left_is (items_of t.teams))

    pub found_at : (n : ℕ) → first_at (is_kept user with_id) t.teams (numbers_at t.users user) ≡ Some n
        → item_at n t.teams ≡ kept_team user with_id (items_of t.teams)
    found_at n first = finds.found_at (is_kept user with_id) is_kept_of user of_user t.next t.teams t.users kept.by_user kept.apart n first

    pub left_at : (n : ℕ) → first_at (is_kept user with_id) t.teams (numbers_at t.users user) ≡ Some n
        → items_of (without n t.teams) ≡ without_kept user with_id (items_of t.teams)
    left_at n first =
        finds.left_at (is_kept user with_id) is_kept_of user of_user t.next t.teams t.users kept.by_user kept.apart n first
        ∙ sym (left_is (items_of t.teams))

-- ---- the teams of a user go

module _ (t : Table) (kept : AreNumbered t) (user : List ℕ) where
  -- one of them
  pub ended : (n : ℕ) (fewer : Entries) → Some n ≡ first_number (numbers_at t.users user) → fewer ≡ without n t.teams → without_user user (items_of fewer) ≡ without_user user (items_of t.teams)
  ended n fewer first is = finds.ended is_kept_of user t.next t.teams t.users kept.by_user kept.apart n fewer first is

  -- none is left
  pub all_ended : None ≡ first_number (numbers_at t.users user) → items_of t.teams ≡ without_user user (items_of t.teams)
  all_ended none = finds.all_ended is_kept_of user t.next t.teams t.users kept.by_user none

-- ---- what is kept

pub kept_new : (es : Entries) (users : Index) → es ≡ [] → users ≡ empty → AreNumbered (record { next = 0; teams = es; users = users })
kept_new es users none nobody = record {
  below = subst (AreBelow 0) (sym none) tt;
  apart = subst AreApart (sym none) tt;
  by_user = subst (λ (l : Entries). IsIndexed is_kept_of 0 l users) (sym none) (subst (IsIndexed is_kept_of 0 []) (sym nobody) (indexed_none is_kept_of 0));
}

module _ (t : Table) (kept : AreNumbered t) where
  more_users : (k : KeptTeam) (users : Index) → users ≡ with_number t.users (id_of k.name) t.next → IsIndexed is_kept_of (t.next + 1) (t.teams ++ (t.next, k) ∷ []) users
  more_users k users is =
      indexed_more is_kept_of t.next k t.teams t.users users kept.below kept.by_user
      (λ id. ap (λ (x : Index). numbers_at x id) is ∙ finds.numbers_more t.users (id_of k.name) id t.next)

  pub kept_pushed : (k : KeptTeam) (next : ℕ) (more : Entries) (users : Index) → next ≡ t.next + 1 → more ≡ t.teams ++ (t.next, k) ∷ []
      → ((x : KeptTeam) → item_at t.next more ≡ Some x → users ≡ with_number t.users (id_of x.name) t.next)
      → AreNumbered (record { next = next; teams = more; users = users })
  kept_pushed k next more users after is by_user =
      let last : item_at t.next more ≡ Some k = ap (item_at t.next) is ∙ item_last t.next k t.teams kept.below in
      subst (λ (n : ℕ). AreNumbered (record { next = n; teams = more; users = users })) (sym after)
      (subst (λ (l : Entries). AreNumbered (record { next = t.next + 1; teams = l; users = users })) (sym is)
      (record {
        below = below_more t.next k t.teams kept.below;
        apart = finds.apart_more t.next k t.teams kept.below kept.apart;
        by_user = more_users k users (by_user k last);
      }))

  pub back : (k : KeptTeam) (more fewer : Entries) → more ≡ t.teams ++ (t.next, k) ∷ [] → fewer ≡ without t.next more → fewer ≡ t.teams
  back k more fewer is then = then ∙ ap (without t.next) is ∙ without_last t.next k t.teams kept.below

  pub kept_undone : (k : KeptTeam) (more fewer : Entries) (users : Index) → more ≡ t.teams ++ (t.next, k) ∷ [] → fewer ≡ without t.next more → users ≡ t.users
      → AreNumbered (record { next = t.next; teams = fewer; users = users })
  kept_undone k more fewer users is then same =
      subst (λ (l : Entries). AreNumbered (record { next = t.next; teams = l; users = users })) (sym (back k more fewer is then))
      (subst (λ (x : Index). AreNumbered (record { next = t.next; teams = t.teams; users = x })) (sym same)
      (record { below = kept.below; apart = kept.apart; by_user = kept.by_user }))

  -- what came last is taken out again
  pub undone : (k : KeptTeam) (more fewer : Entries) → more ≡ t.teams ++ (t.next, k) ∷ [] → fewer ≡ without t.next more → items_of fewer ≡ items_of t.teams
  undone k more fewer is then = ap (λ (l : Entries). items_of l) (back k more fewer is then)

  -- nothing has the number
  pub kept_none : (n : ℕ) (fewer : Entries) → fewer ≡ without n t.teams → AreNumbered (record { next = t.next; teams = fewer; users = t.users })
  kept_none n fewer is =
      subst (λ (l : Entries). AreNumbered (record { next = t.next; teams = l; users = t.users })) (sym is)
      (record {
        below = below_without t.next n t.teams kept.below;
        apart = finds.apart_without n t.teams kept.apart;
        by_user = indexed_without is_kept_of t.next n t.teams t.users t.users (λ id. false) kept.by_user (λ id. refl);
      })

  pub kept_gone : (n : ℕ) (fewer : Entries) (users : Index) (user : List ℕ) → fewer ≡ without n t.teams → users ≡ without_number t.users user n
      → AreNumbered (record { next = t.next; teams = fewer; users = users })
  kept_gone n fewer users user is gone =
      subst (λ (l : Entries). AreNumbered (record { next = t.next; teams = l; users = users })) (sym is)
      (record {
        below = below_without t.next n t.teams kept.below;
        apart = finds.apart_without n t.teams kept.apart;
        by_user = indexed_gone is_kept_of t.next n t.teams t.users users user gone kept.by_user;
      })
