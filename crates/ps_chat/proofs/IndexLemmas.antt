-- The index of members by connection.
use Rattle.std.proofs.Common.{◌≡◌, ℕ, ◌<◌, ◌==◌, Bool, true, false, cond, List, [], ◌∷◌, ◌++◌, length, find, get_or, map, Option, Some, None, is_some, refl, sym, ap, ◌∙◌, inl, inr, String, string_bytes}
use Rattle.std.specs.List.{remove}
use Rattle.std.specs.Option.{option_map, option_or}
use Rattle.std.specs.Str.{bytes_eq}
use Rattle.std.specs.String.{string_cmp}
use Rattle.std.specs.Cmp.Lexicographic.{slice_cmp}
use Rattle.std.proofs.lemmas.Slice.Eq.{bytes_eq-Decides}
use Rattle.std.proofs.lemmas.Map.Text.{btree_map_updates_text}
use Rattle.ps_base.specs.Ids.{id_of}
use Rattle.std.proofs.lemmas.Bool.Decides.{eqb_tells}
use Rattle.std.specs.Ordering.{nat_cmp, is_eq}
use Rattle.std.specs.declared.cmp.Ordering.{Ordering}
use Rattle.std.specs.declared.cmp.Ordering.TheVariants.{Less, Equal, Greater}
use Rattle.std.specs.BTreeMap.{BTreeMap, Updates, UpdatesBy, get, get_by_text}
use Rattle.std.proofs.lemmas.Cmp.{ranked as by_rank}
use Rattle.ps_group.specs.Ranks.{higher}
use Rattle.ps_chat.specs.Lookups.{has_id}
use Rattle.ps_chat.specs.Rooms.{ranked}
use Rattle.ps_chat.specs.declared.present.Present.{Present}
use Rattle.ps_chat.specs.Finding.{index_of, shifted, IsIndex, IsIdIndex}
use Rattle.ps_chat.proofs.FindLemmas.{new_index, old_index, kept_index, shift_index, some_index}

abbrev at : ℕ → Present → Bool
at conn p = p.conn == conn

other_by : (r : Ordering) (a b : ℕ) → r ≡ nat_cmp a b → (a ≡ b → ⊥) → is_eq r ≡ false
other_by Less a b e h = refl
other_by Equal a b e h = absurd (h (by_rank a b Equal e))
other_by Greater a b e h = refl

is_other : (a b : ℕ) → (a ≡ b → ⊥) → is_eq (nat_cmp a b) ≡ false
is_other a b h = other_by (nat_cmp a b) a b refl h

none_from_find : (conn : ℕ) (ps : List Present) → find (at conn) ps ≡ None → index_of (at conn) ps ≡ None
none_from_find conn [] e = refl
none_from_find conn (p ∷ ps) e = by (at conn p) refl e (none_from_find conn ps)
  where
    by : (b : Bool) → (at conn p) ≡ b → find (at conn) (p ∷ ps) ≡ None → (find (at conn) ps ≡ None → index_of (at conn) ps ≡ None) → index_of (at conn) (p ∷ ps) ≡ None
    by true t h more = absurd (let k : Some p ≡ None = (rw t at h) in cc)
    by false t h more = rw (t, more (rw t at h)) refl

-- the index with a new member's index is that of the list with the member at its end
pub indexed : (ps : List Present) (m : Present) (number : ℕ) (old new : BTreeMap ℕ ℕ) → number ≡ length ps → IsIndex ps old → find (at m.conn) ps ≡ None → Updates nat_cmp old new m.conn (Some number) → IsIndex (ps ++ m ∷ []) new
indexed ps m number old new end index absent u = λ conn.
    elim (eqb_tells m.conn conn) [
      | inl same ↦ ap (λ (k : ℕ). get nat_cmp new k) (sym same.1) ∙ u.1 ∙ ap (λ (n : ℕ). Some n) end ∙ sym (new_index (at conn) m ps same.0 (ap (λ (k : ℕ). index_of (at k) ps) (sym same.1) ∙ none_from_find m.conn ps absent))
      | inr other ↦ u.2 conn (is_other m.conn conn other.1) ∙ index conn ∙ sym (old_index (at conn) m ps other.0)
    ]

-- the index with a new connection's index is taken back
pub undone : (ps : List Present) (conn number : ℕ) (old mid new : BTreeMap ℕ ℕ) → IsIndex ps old → find (at conn) ps ≡ None → Updates nat_cmp old mid conn (Some number) → Updates nat_cmp mid new conn None → IsIndex ps new
undone ps conn number old mid new index absent u v = λ q.
    elim (eqb_tells conn q) [
      | inl same ↦ ap (λ (k : ℕ). get nat_cmp new k) (sym same.1) ∙ v.1 ∙ sym (none_from_find conn ps absent) ∙ ap (λ (k : ℕ). index_of (at k) ps) same.1
      | inr other ↦ v.2 q (is_other conn q other.1) ∙ u.2 q (is_other conn q other.1) ∙ index q
    ]

-- after the member at an index was taken out
pub without : (ps : List Present) (i : ℕ) (d : Present) (old mid new : BTreeMap ℕ ℕ) → i < length ps → IsIndex ps old
    → ((conn : ℕ) → get nat_cmp mid conn ≡ option_map (shifted i) (get nat_cmp old conn))
    → ((other : ℕ) → get nat_cmp new other ≡ cond (other == (get_or ps i d).conn) (index_of (at (get_or ps i d).conn) (remove ps i)) (get nat_cmp mid other))
    → IsIndex (remove ps i) new
without ps i d old mid new lt index shift replace = λ conn.
    elim (eqb_tells conn (get_or ps i d).conn) [
      | inl same ↦ replace conn ∙ rw same.0 (ap (λ (k : ℕ). index_of (at k) (remove ps i)) (sym same.1))
      | inr other ↦ replace conn ∙ rw other.0 (shift conn ∙ ap (option_map (shifted i)) (index conn) ∙ sym (shift_index (at conn) ps i d lt (turned conn (get_or ps i d).conn other.1)))
    ]
  where
    turned : (a b : ℕ) → (a ≡ b → ⊥) → (b == a) ≡ false
    turned a b ne = elim (eqb_tells b a) [ inl same ↦ absurd (ne (sym same.1)) | inr other ↦ other.0 ]

pub without_at : (ps : List Present) (i : ℕ) (m : Present) (conn : ℕ) (next : Option ℕ) (left : List Present) (old mid new : BTreeMap ℕ ℕ) → i < length ps → m ≡ get_or ps i m → conn ≡ m.conn
    → next ≡ index_of (at m.conn) left → left ≡ remove ps i → IsIndex ps old
    → ((other : ℕ) → get nat_cmp mid other ≡ option_map (shifted i) (get nat_cmp old other))
    → ((other : ℕ) → get nat_cmp new other ≡ cond (other == conn) next (get nat_cmp mid other))
    → IsIndex left new
without_at ps i m conn next left old mid new lt value is_conn is_next items index shift replace =
    let e : conn ≡ (get_or ps i m).conn = is_conn ∙ ap (λ (p : Present). p.conn) value in
    let n : next ≡ index_of (at (get_or ps i m).conn) (remove ps i) = is_next ∙ ap (λ (xs : List Present). index_of (at m.conn) xs) items ∙ ap (λ (p : Present). index_of (at p.conn) (remove ps i)) value in
    rw items (without ps i m old mid new lt index shift (λ other. replace other ∙ ap (λ (k : ℕ). cond (other == k) next (get nat_cmp mid other)) e ∙ ap (λ (o : Option ℕ). cond (other == (get_or ps i m).conn) o (get nat_cmp mid other)) n))

-- the one that goes has an index
pub had : (ps : List Present) (i : ℕ) (d : Present) (old mid : BTreeMap ℕ ℕ) → i < length ps → IsIndex ps old → ((conn : ℕ) → get nat_cmp mid conn ≡ option_map (shifted i) (get nat_cmp old conn)) → is_some (get nat_cmp mid (get_or ps i d).conn) ≡ true
had ps i d old mid lt index shift =
    ap is_some (shift (get_or ps i d).conn ∙ ap (option_map (shifted i)) (index (get_or ps i d).conn)) ∙ mapped (index_of (at (get_or ps i d).conn) ps) (some_index (at (get_or ps i d).conn) ps i d lt (itself (get_or ps i d).conn))
  where
    mapped : (o : Option ℕ) → is_some o ≡ true → is_some (option_map (shifted i) o) ≡ true
    mapped None e = e
    mapped (Some j) e = e

    itself : (n : ℕ) → (n == n) ≡ true
    itself n = elim (eqb_tells n n) [ inl same ↦ same.0 | inr other ↦ absurd (other.1 refl) ]

-- indices are by connections alone
pub same_indices : (f : Present → Present) (ps : List Present) (conn : ℕ) → ((p : Present) → (f p).conn ≡ p.conn) → index_of (at conn) (map f ps) ≡ index_of (at conn) ps
same_indices f [] conn same = refl
same_indices f (p ∷ ps) conn same = rw (same p, same_indices f ps conn same) refl

ranked_by : (id : List ℕ) (rank : ℕ) (p : Present) (b : Bool) → (cond b (record p { rank = higher p.badge.rank rank }) p).conn ≡ p.conn
ranked_by id rank p true = refl
ranked_by id rank p false = refl

pub ranked_index : (id : List ℕ) (rank : ℕ) (ps : List Present) (indices : BTreeMap ℕ ℕ) → IsIndex ps indices → IsIndex (map (ranked id rank) ps) indices
ranked_index id rank ps indices index = λ conn. index conn ∙ sym (same_indices (ranked id rank) ps conn (λ p. ranked_by id rank p (has_id id p)))

-- ---- the same of ids

-- the index with a new member's id is that of the list with the member at its end
new_id_by : (ps : List Present) (m : Present) (q : List ℕ) (o : Option ℕ) (b : Bool) → has_id q m ≡ b → index_of (has_id q) ps ≡ o
    → cond b (option_or o (Some (length ps))) o ≡ index_of (has_id q) (ps ++ m ∷ [])
new_id_by ps m q o false t e = sym (old_index (has_id q) m ps t ∙ e)
new_id_by ps m q None true t e = sym (new_index (has_id q) m ps t e)
new_id_by ps m q (Some i) true t e = sym (kept_index (has_id q) m ps i e)

module _ {Y : Type 0} where
  pub indexed_id : (ps : List Present) (m : Present) (id : List ℕ) (number : ℕ) (old new : BTreeMap (String Y) ℕ) → id ≡ id_of m.badge.name → number ≡ length ps → IsIdIndex ps old
      → ((q : List ℕ) → get_by_text new q ≡ cond (bytes_eq id q) (option_or (get_by_text old q) (Some number)) (get_by_text old q))
      → IsIdIndex (ps ++ m ∷ []) new
  indexed_id ps m id number old new is_id end index noted = λ q.
      noted q
      ∙ ap (λ (x : List ℕ). cond (bytes_eq x q) (option_or (get_by_text old q) (Some number)) (get_by_text old q)) is_id
      ∙ ap (λ (n : ℕ). cond (bytes_eq (id_of m.badge.name) q) (option_or (get_by_text old q) (Some n)) (get_by_text old q)) end
      ∙ ap (λ (o : Option ℕ). cond (bytes_eq (id_of m.badge.name) q) (option_or o (Some (length ps))) o) (index q)
      ∙ new_id_by ps m q (index_of (has_id q) ps) (bytes_eq (id_of m.badge.name) q) refl refl

  noted_by : (old : BTreeMap (String Y) ℕ) (id q : List ℕ) (number : ℕ) (b : Bool) → bytes_eq id q ≡ b → get_by_text old id ≡ None
      → cond b (Some number) (get_by_text old q) ≡ cond b (option_or (get_by_text old q) (Some number)) (get_by_text old q)
  noted_by old id q number true t e = rw (ap (λ (x : List ℕ). get_by_text old x) (sym ((bytes_eq-Decides id q).0 t)) ∙ e) refl
  noted_by old id q number false t e = refl

  pub noted : (old new : BTreeMap (String Y) ℕ) (key id : List ℕ) (number : ℕ) → key ≡ id → get_by_text old id ≡ None
      → UpdatesBy string_cmp (λ k. slice_cmp nat_cmp key (string_bytes k)) old new (Some number)
      → (q : List ℕ) → get_by_text new q ≡ cond (bytes_eq id q) (option_or (get_by_text old q) (Some number)) (get_by_text old q)
  noted old new key id number is none u = λ q.
      btree_map_updates_text key old new (Some number) u q
      ∙ ap (λ (x : List ℕ). cond (bytes_eq x q) (Some number) (get_by_text old q)) is
      ∙ noted_by old id q number (bytes_eq id q) refl none

  without_id_by : (ps : List Present) (i : ℕ) (d : Present) (q : List ℕ) (next : Option ℕ) (old mid : BTreeMap (String Y) ℕ) (b : Bool) → i < length ps
      → has_id q (get_or ps i d) ≡ b
      → next ≡ index_of (has_id (id_of (get_or ps i d).badge.name)) (remove ps i) → IsIdIndex ps old
      → get_by_text mid q ≡ option_map (shifted i) (get_by_text old q)
      → cond b next (get_by_text mid q) ≡ index_of (has_id q) (remove ps i)
  without_id_by ps i d q next old mid true lt t is_next index shift = is_next ∙ ap (λ (x : List ℕ). index_of (has_id x) (remove ps i)) ((bytes_eq-Decides (id_of (get_or ps i d).badge.name) q).0 t)
  without_id_by ps i d q next old mid false lt t is_next index shift = shift ∙ ap (option_map (shifted i)) (index q) ∙ sym (shift_index (has_id q) ps i d lt t)

  -- after the member at an index was taken out
  pub without_id : (ps : List Present) (i : ℕ) (m : Present) (id : List ℕ) (next : Option ℕ) (left : List Present) (old mid new : BTreeMap (String Y) ℕ) → i < length ps → m ≡ get_or ps i m
      → id ≡ id_of m.badge.name → next ≡ index_of (has_id id) left → left ≡ remove ps i → IsIdIndex ps old
      → ((q : List ℕ) → get_by_text mid q ≡ option_map (shifted i) (get_by_text old q))
      → ((q : List ℕ) → get_by_text new q ≡ cond (bytes_eq id q) next (get_by_text mid q))
      → IsIdIndex left new
  without_id ps i m id next left old mid new lt value is_id is_next items index shift replace =
      let e : id ≡ id_of (get_or ps i m).badge.name = is_id ∙ ap (λ (p : Present). id_of p.badge.name) value in
      let n : next ≡ index_of (has_id (id_of (get_or ps i m).badge.name)) (remove ps i) = is_next ∙ ap (λ (xs : List Present). index_of (has_id id) xs) items ∙ ap (λ (x : List ℕ). index_of (has_id x) (remove ps i)) e in
      rw items (λ q. replace q ∙ ap (λ (x : List ℕ). cond (bytes_eq x q) next (get_by_text mid q)) e ∙ without_id_by ps i m q next old mid (bytes_eq (id_of (get_or ps i m).badge.name) q) lt refl n index (shift q))

  -- the one that goes has an index
  pub had_id : (ps : List Present) (i : ℕ) (m : Present) (id : List ℕ) (old mid : BTreeMap (String Y) ℕ) → i < length ps → m ≡ get_or ps i m → id ≡ id_of m.badge.name → IsIdIndex ps old
      → ((q : List ℕ) → get_by_text mid q ≡ option_map (shifted i) (get_by_text old q)) → is_some (get_by_text mid id) ≡ true
  had_id ps i m id old mid lt value is_id index shift =
      ap is_some (shift id ∙ ap (option_map (shifted i)) (index id)) ∙ mapped (index_of (has_id id) ps) (some_index (has_id id) ps i m lt (ap (has_id id) (sym value) ∙ ap (λ (x : List ℕ). bytes_eq (id_of m.badge.name) x) is_id ∙ itself (id_of m.badge.name)))
    where
      mapped : (o : Option ℕ) → is_some o ≡ true → is_some (option_map (shifted i) o) ≡ true
      mapped None e = e
      mapped (Some j) e = e

      itself : (x : List ℕ) → bytes_eq x x ≡ true
      itself x = (bytes_eq-Decides x x).1 refl

  -- indices are by ids alone
  pub ranked_id_index : (id : List ℕ) (rank : ℕ) (ps : List Present) (ids : BTreeMap (String Y) ℕ) → IsIdIndex ps ids → IsIdIndex (map (ranked id rank) ps) ids
  ranked_id_index id rank ps ids index = λ q. index q ∙ sym (same_ids q ps)
    where
      by : (q : List ℕ) (p : Present) (b : Bool) → has_id q (cond b (record p { rank = higher p.badge.rank rank }) p) ≡ has_id q p
      by q p true = refl
      by q p false = refl

      same_ids : (q : List ℕ) (xs : List Present) → index_of (has_id q) (map (ranked id rank) xs) ≡ index_of (has_id q) xs
      same_ids q [] = refl
      same_ids q (p ∷ xs) = rw (by q p (has_id id p), same_ids q xs) refl
