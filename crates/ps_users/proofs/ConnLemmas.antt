-- A tree with numbers as keys, seen as a finite map from numbers.
use Rattle.std.proofs.Common.{◌≡◌, ℕ, List, [], ◌∷◌, Bool, cond, Some, None, refl, sym, ap, ◌∙◌}
use Rattle.std.specs.Prelude.{is_some, true, IsSome}
use Rattle.std.specs.Ordering.{nat_cmp, eq_by_cmp, is_eq}
use Rattle.std.specs.Cmp.{eq_by_cmp_equiv, nat_cmp_total}
use Rattle.std.specs.FinMap.{find, get, insert, remove, get-from_entries, get-insert, get-remove, same_map, nat_cmp-IsAntisymmetric}
use Rattle.std.specs.BTreeMap.{BTreeMap, UpdatesBy}
use Rattle.std.specs.BTreeMap as tree
use Rattle.std.specs.Map.{lookup}
use Rattle.ps_users.specs.ByConn.{by_conn}

turned : (k q : ℕ) → eq_by_cmp nat_cmp k q ≡ eq_by_cmp nat_cmp q k
turned k q = (eq_by_cmp_equiv nat_cmp_total).symm k q

module _ {X : Type 0} where
  found_by : (q : ℕ) (es : List (ℕ × X)) → find nat_cmp q es ≡ lookup (λ k. is_eq (nat_cmp q k)) es
  found_by q [] = refl
  found_by q (e ∷ es) = ap (cond (is_eq (nat_cmp q e.0)) (Some e.1)) (found_by q es)

  -- a lookup in the tree is one in the map
  pub get_by_conn : (m : BTreeMap ℕ X) (q : ℕ) → get (by_conn m.entries) q ≡ tree.get nat_cmp m q
  get_by_conn m q = get-from_entries nat_cmp_total _ q ∙ found_by q m.entries

  pub inserted : (k : ℕ) (m n : BTreeMap ℕ X) (v : X) → UpdatesBy nat_cmp (nat_cmp k) m n (Some v) → by_conn n.entries ≡ insert (by_conn m.entries) k v
  inserted k m n v u = same_map nat_cmp_total nat_cmp-IsAntisymmetric _ _
      (λ q. get_by_conn n q ∙ u.0 q ∙ ap (λ (b : Bool). cond b (Some v) (tree.get nat_cmp m q)) (turned k q) ∙ ap (cond (eq_by_cmp nat_cmp q k) (Some v)) (sym (get_by_conn m q)) ∙ sym (get-insert nat_cmp_total (by_conn m.entries) k v q))

  pub removed : (k : ℕ) (m n : BTreeMap ℕ X) → UpdatesBy nat_cmp (nat_cmp k) m n None → by_conn n.entries ≡ remove (by_conn m.entries) k
  removed k m n u = same_map nat_cmp_total nat_cmp-IsAntisymmetric _ _
      (λ q. get_by_conn n q ∙ u.0 q ∙ ap (λ (b : Bool). cond b None (tree.get nat_cmp m q)) (turned k q) ∙ ap (cond (eq_by_cmp nat_cmp q k) None) (sym (get_by_conn m q)) ∙ sym (get-remove nat_cmp_total (by_conn m.entries) k q))

  -- what the map has, the tree has
  pub is_there : (m : BTreeMap ℕ X) (k : ℕ) → is_some (get (by_conn m.entries) k) ≡ true → IsSome (tree.get nat_cmp m k)
  is_there m k there = ap is_some (sym (get_by_conn m k)) ∙ there
