-- Putting something else in the place of what is at a key, and putting that back.
use Rattle.std.proofs.Common.{◌≡◌, ℕ, List, Bool, true, false, cond, is_some, Option, None, Some, refl, sym, ap, ◌∙◌}
use Rattle.std.specs.Ordering.{nat_cmp, eq_by_cmp}
use Rattle.std.specs.Cmp.{Equal-is, eq_by_cmp_equiv}
use Rattle.std.specs.Cmp.Lexicographic.{slice_cmp, nat_list_cmp_total}
use Rattle.std.specs.FinMap.{get, insert, remove, get-insert, get-remove, get_tied, same_map, slice_cmp-IsAntisymmetric, nat_cmp-IsAntisymmetric}
use Rattle.ps_base.specs.ById.{ById}

twice : {A : Type 0} (b : Bool) (x y z : A) → cond b x (cond b y z) ≡ cond b x z
twice true x y z = refl
twice false x y z = refl

either : {A : Type 0} (b : Bool) (x y : A) → (b ≡ true → y ≡ x) → cond b x y ≡ y
either true x y e = sym (e refl)
either false x y e = refl

module _ {X : Type 0} where
  -- of two values at one key the later counts
  pub insert_twice : (m : ById X) (k : List ℕ) (v w : X) → insert (insert m k v) k w ≡ insert m k w
  insert_twice m k v w = same_map nat_list_cmp_total (slice_cmp-IsAntisymmetric nat_cmp-IsAntisymmetric) _ _
      (λ q. get-insert nat_list_cmp_total (insert m k v) k w q
      ∙ ap (cond (eq_by_cmp (slice_cmp nat_cmp) q k) (Some w)) (get-insert nat_list_cmp_total m k v q)
      ∙ twice (eq_by_cmp (slice_cmp nat_cmp) q k) (Some w) (Some v) (get m q)
      ∙ sym (get-insert nat_list_cmp_total m k w q))

  -- what is at a key is put there
  pub insert_same : (m : ById X) (k : List ℕ) (v : X) → Some v ≡ get m k → insert m k v ≡ m
  insert_same m k v found = same_map nat_list_cmp_total (slice_cmp-IsAntisymmetric nat_cmp-IsAntisymmetric) _ _
      (λ q. get-insert nat_list_cmp_total m k v q
      ∙ either (eq_by_cmp (slice_cmp nat_cmp) q k) (Some v) (get m q) (λ e. sym (get_tied nat_list_cmp_total m q k ((Equal-is _).0 e)) ∙ sym found))

  pub get_inserted : (m : ById X) (k : List ℕ) (v : X) → get (insert m k v) k ≡ Some v
  get_inserted m k v = get-insert nat_list_cmp_total m k v k ∙ ap (λ b. cond b (Some v) (get m k)) ((eq_by_cmp_equiv nat_list_cmp_total).refl k)

  -- something is at the key
  pub stands : (m n : ById X) (k : List ℕ) (v : X) → n ≡ insert m k v → is_some (get n k) ≡ true
  stands m n k v e = ap (λ (o : ById X). is_some (get o k)) e ∙ ap is_some (get_inserted m k v)

  -- a value in the place of one that was put there before
  pub exchanged : (m n o : ById X) (k : List ℕ) (v w : X) → n ≡ insert m k v → o ≡ insert n k w → o ≡ insert m k w
  exchanged m n o k v w e f = f ∙ ap (λ (n : ById X). insert n k w) e ∙ insert_twice m k v w

  -- what was at the key is put back
  pub restored : (m n o : ById X) (k : List ℕ) (v w : X) → n ≡ insert m k v → o ≡ insert n k w → Some w ≡ get m k → o ≡ m
  restored m n o k v w e f found = exchanged m n o k v w e f ∙ insert_same m k w found

  gone_twice : (b : Bool) (v : Option X) (w : X) → cond b None (cond b (Some w) v) ≡ cond b None v
  gone_twice true v w = refl
  gone_twice false v w = refl

  -- what is put at a key is forgotten where that is taken away
  pub remove_inserted : (m : ById X) (k : List ℕ) (v : X) → remove (insert m k v) k ≡ remove m k
  remove_inserted m k v = same_map nat_list_cmp_total (slice_cmp-IsAntisymmetric nat_cmp-IsAntisymmetric) _ _
      (λ q. get-remove nat_list_cmp_total (insert m k v) k q
      ∙ ap (cond (eq_by_cmp (slice_cmp nat_cmp) q k) None) (get-insert nat_list_cmp_total m k v q)
      ∙ gone_twice (eq_by_cmp (slice_cmp nat_cmp) q k) (get m q) v
      ∙ sym (get-remove nat_list_cmp_total m k q))
