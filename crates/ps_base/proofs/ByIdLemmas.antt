-- A tree with text keys, seen as a finite map from texts.
use Rattle.std.proofs.Common.{◌≡◌, ℕ, List, [], ◌∷◌, Bool, cond, Some, None, refl, sym, ap, ◌∙◌, String, string_bytes, map}
use Rattle.std.specs.Ordering.{nat_cmp, eq_by_cmp, is_eq}
use Rattle.std.specs.Str.{bytes_eq}
use Rattle.std.specs.Cmp.{eq_by_cmp_equiv}
use Rattle.std.specs.Cmp.Lexicographic.{slice_cmp, nat_list_cmp_total}
use Rattle.std.specs.FinMap.{find, get, insert, remove, get-from_entries, get-insert, get-remove, same_map, slice_cmp-IsAntisymmetric, nat_cmp-IsAntisymmetric}
use Rattle.std.specs.BTreeMap.{BTreeMap, UpdatesBy, get_by_text}
use Rattle.std.specs.String.{string_cmp}
use Rattle.std.specs.Map.{lookup}
use Rattle.std.proofs.lemmas.Map.Text.{btree_map_updates_text, is_eq-slice_cmp}
use Rattle.ps_base.specs.ById.{by_id}

-- the same test of two texts, one by bytes, one by order
pub turned : (k q : List ℕ) → bytes_eq k q ≡ eq_by_cmp (slice_cmp nat_cmp) q k
turned k q = sym (is_eq-slice_cmp k q) ∙ (eq_by_cmp_equiv nat_list_cmp_total).symm k q

module _ {Y X : Type 0} where
  found_by : (q : List ℕ) (es : List (String Y × X)) → find (slice_cmp nat_cmp) q (map (λ e. (string_bytes e.0, e.1)) es) ≡ lookup (λ k. is_eq (slice_cmp nat_cmp q (string_bytes k))) es
  found_by q [] = refl
  found_by q (e ∷ es) = ap (cond (is_eq (slice_cmp nat_cmp q (string_bytes e.0))) (Some e.1)) (found_by q es)

  -- a lookup in the tree is one in the map
  pub get_by_id : (m : BTreeMap (String Y) X) (q : List ℕ) → get (by_id m.entries) q ≡ get_by_text m q
  get_by_id m q = get-from_entries nat_list_cmp_total _ q ∙ found_by q m.entries

  pub inserted : (bs : List ℕ) (m n : BTreeMap (String Y) X) (v : X) → UpdatesBy string_cmp (λ k. slice_cmp nat_cmp bs (string_bytes k)) m n (Some v) → by_id n.entries ≡ insert (by_id m.entries) bs v
  inserted bs m n v u = same_map nat_list_cmp_total (slice_cmp-IsAntisymmetric nat_cmp-IsAntisymmetric) _ _
      (λ q. get_by_id n q ∙ btree_map_updates_text bs m n (Some v) u q ∙ ap (λ (b : Bool). cond b (Some v) (get_by_text m q)) (turned bs q) ∙ ap (cond (eq_by_cmp (slice_cmp nat_cmp) q bs) (Some v)) (sym (get_by_id m q)) ∙ sym (get-insert nat_list_cmp_total (by_id m.entries) bs v q))

  pub removed : (bs : List ℕ) (m n : BTreeMap (String Y) X) → UpdatesBy string_cmp (λ k. slice_cmp nat_cmp bs (string_bytes k)) m n None → by_id n.entries ≡ remove (by_id m.entries) bs
  removed bs m n u = same_map nat_list_cmp_total (slice_cmp-IsAntisymmetric nat_cmp-IsAntisymmetric) _ _
      (λ q. get_by_id n q ∙ btree_map_updates_text bs m n None u q ∙ ap (λ (b : Bool). cond b None (get_by_text m q)) (turned bs q) ∙ ap (cond (eq_by_cmp (slice_cmp nat_cmp) q bs) None) (sym (get_by_id m q)) ∙ sym (get-remove nat_list_cmp_total (by_id m.entries) bs q))
