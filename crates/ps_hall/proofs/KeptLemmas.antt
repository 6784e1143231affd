-- The index of a kept team.
use Rattle.std.proofs.Common.{◌≡◌, ℕ, ◌+◌, ◌<◌, true, List, ◌∷◌, ◌++◌, length, get_or, take, drop, refl, sym, ap, ◌∙◌, add-one}
use Rattle.std.proofs.lemmas.List.{drop_more}
use Rattle.ps_hall.specs.declared.kept.KeptTeam.{KeptTeam}
use Rattle.ps_hall.specs.Lookups.{is_kept, without_kept}
use Rattle.ps_hall.specs.KeptIndices.{IsKeptIndex}

module _ (user with_id : List ℕ) where
  first_left : (k : KeptTeam) (ks : List KeptTeam) → is_kept user with_id k ≡ true → without_kept user with_id (k ∷ ks) ≡ ks
  first_left k ks t = rw t refl

  -- the one at which the walk stops
  pub stops : (ks : List KeptTeam) (i : ℕ) (k : KeptTeam) → i < length ks → k ≡ get_or ks i k → is_kept user with_id k ≡ true
      → take i ks ++ without_kept user with_id (drop i ks) ≡ without_kept user with_id ks
      → IsKeptIndex ks user with_id i
  stops ks i k lt is t w =
      let more : drop i ks ≡ k ∷ drop (i + 1) ks = drop_more ks i k lt ∙ ap (λ (x : KeptTeam). x ∷ drop (i + 1) ks) (sym is) in
      record {
        below = lt;
        left = sym w ∙ ap (λ l. take i ks ++ without_kept user with_id l) more ∙ ap (λ l. take i ks ++ l) (first_left k (drop (i + 1) ks) t) ∙ ap (λ n. take i ks ++ drop n ks) (add-one i);
      }
