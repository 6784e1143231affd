-- Indices by id: what adding and taking away an item makes of them.
use Rattle.std.proofs.Common.{◌≡◌, ℕ, ◌+◌, Bool, true, false, cond, not, List, [], ◌∷◌, ◌++◌, filter, filter_map, Option, Some, None, option_map, nat_cmp, bytes_eq, refl, sym, ap, ◌∙◌, subst, append-nil}
use Rattle.std.specs.List.{cons_option}
use Rattle.std.specs.Cmp.Lexicographic.{slice_cmp, nat_list_cmp_total}
use Rattle.std.specs.Ordering.{eq_by_cmp}
use Rattle.std.specs.FinMap.{get, insert, remove, empty, get-empty, get-insert, get-remove}
use Rattle.std.proofs.lemmas.List.Elements.{filter-append, filter_map-append}
use Rattle.std.proofs.lemmas.Slice.Eq.{bytes_eq-Decides}
use Rattle.ps_base.specs.ById.{ById}
use Rattle.ps_base.proofs.ByIdLemmas.{turned}
use Rattle.hall_index.specs.Numbered.{is_number, item_at, without, but, items_of, items_at, AreBelow, AreLess}
use Rattle.hall_index.specs.IdIndices.{numbers_or_none, numbers_at, with_number, put_numbers, without_number, entry_at, IsIndexed}
use Rattle.hall_index.proofs.MapLemmas.{insert_twice, remove_inserted}
use Rattle.hall_index.proofs.NumberLemmas.{number_same, item_gone, item_without, item_more, item_last, none_below, less_more, less_next, less_but, but_last}

abbrev Index : Type 0
Index = ById (List ℕ)

-- ---- the numbers at an id

chosen : (b : Bool) (ns : List ℕ) (o : Option (List ℕ)) → numbers_or_none (cond b (Some ns) o) ≡ cond b ns (numbers_or_none o)
chosen true ns o = refl
chosen false ns o = refl

gone : (b : Bool) (o : Option (List ℕ)) → numbers_or_none (cond b None o) ≡ cond b [] (numbers_or_none o)
gone true o = refl
gone false o = refl

pub numbers_inserted : (m : Index) (id q ns : List ℕ) → numbers_at (insert m id ns) q ≡ cond (bytes_eq id q) ns (numbers_at m q)
numbers_inserted m id q ns =
    ap numbers_or_none (get-insert nat_list_cmp_total m id ns q) ∙ chosen (eq_by_cmp (slice_cmp nat_cmp) q id) ns (get m q)
    ∙ ap (λ b. cond b ns (numbers_at m q)) (sym (turned id q))

numbers_removed : (m : Index) (id q : List ℕ) → numbers_at (remove m id) q ≡ cond (bytes_eq id q) [] (numbers_at m q)
numbers_removed m id q =
    ap numbers_or_none (get-remove nat_list_cmp_total m id q) ∙ gone (eq_by_cmp (slice_cmp nat_cmp) q id) (get m q)
    ∙ ap (λ b. cond b [] (numbers_at m q)) (sym (turned id q))

pub numbers_put : (m : Index) (id q ns : List ℕ) → numbers_at (put_numbers m id ns) q ≡ cond (bytes_eq id q) ns (numbers_at m q)
numbers_put m id q [] = numbers_removed m id q
numbers_put m id q (n ∷ ns) = numbers_inserted m id q (n ∷ ns)

numbers_tied : (m : Index) (id q : List ℕ) (f : List ℕ → List ℕ) (b : Bool) → bytes_eq id q ≡ b → cond b (f (numbers_at m id)) (numbers_at m q) ≡ cond b (f (numbers_at m q)) (numbers_at m q)
numbers_tied m id q f true t = ap (λ x. f (numbers_at m x)) ((bytes_eq-Decides id q).0 t)
numbers_tied m id q f false t = refl

-- what is put in the place of what was put there before
pub put_over : (m k o : Index) (id : List ℕ) (v ns : List ℕ) → k ≡ insert m id v → o ≡ put_numbers k id ns → o ≡ put_numbers m id ns
put_over m k o id v [] e f = f ∙ ap (λ (x : Index). remove x id) e ∙ remove_inserted m id v
put_over m k o id v (n ∷ ns) e f = f ∙ ap (λ (x : Index). insert x id (n ∷ ns)) e ∙ insert_twice m id v (n ∷ ns)

-- two tests, one after the other, in either order
pub two_filters : {X : Type 0} (p q : X → Bool) (xs : List X) → filter p (filter q xs) ≡ filter q (filter p xs)
two_filters p q [] = refl
two_filters {X = X} p q (x ∷ xs) = by (p x) (q x) refl refl (two_filters p q xs)
  where
    by : (b c : Bool) → p x ≡ b → q x ≡ c → filter p (filter q xs) ≡ filter q (filter p xs)
        → filter p (cond c (x ∷ filter q xs) (filter q xs)) ≡ filter q (cond b (x ∷ filter p xs) (filter p xs))
    by true true s t more = rw (s, t) (ap (λ (l : List X). x ∷ l) more)
    by true false s t more = rw t more
    by false true s t more = rw s more
    by false false s t more = more

-- ---- the items at an id

module _ {T : Type 0} where
  entries_more : (n : ℕ) (v : T) (es : List (ℕ × T)) (ns : List ℕ) → AreLess n ns → filter_map (entry_at (es ++ (n, v) ∷ [])) ns ≡ filter_map (entry_at es) ns
  entries_more n v es [] less = refl
  entries_more n v es (k ∷ ns) less = rw (item_more n k v es less.0) (ap (cons_option (entry_at es k)) (entries_more n v es ns less.1))

  entries_without : (n : ℕ) (es : List (ℕ × T)) (ns : List ℕ) → filter_map (entry_at (without n es)) ns ≡ filter (λ e. not (is_number n e.0)) (filter_map (entry_at es) ns)
  entries_without n es [] = refl
  entries_without n es (k ∷ ns) =
      ap (λ o. cons_option (option_map (λ (item : T). (k, item)) o) (filter_map (entry_at (without n es)) ns)) (item_without n k es)
      ∙ ap (cons_option (option_map (λ (item : T). (k, item)) (cond (is_number n k) None (item_at k es)))) (entries_without n es ns)
      ∙ by (item_at k es) (is_number n k) refl
    where
      rest : List (ℕ × T)
      rest = filter_map (entry_at es) ns

      by : (o : Option T) (b : Bool) → is_number n k ≡ b → cons_option (option_map (λ (item : T). (k, item)) (cond b None o)) (filter (λ e. not (is_number n e.0)) rest) ≡ filter (λ e. not (is_number n e.0)) (cons_option (option_map (λ (item : T). (k, item)) o) rest)
      by None true t = refl
      by None false t = refl
      by (Some v) true t = rw t refl
      by (Some v) false t = rw t refl

  entries_but : (n : ℕ) (es : List (ℕ × T)) (ns : List ℕ) → item_at n es ≡ None → filter_map (entry_at es) (but n ns) ≡ filter_map (entry_at es) ns
  entries_but n es [] none = refl
  entries_but n es (k ∷ ns) none = by (is_number n k) refl (entries_but n es ns none)
    where
      by : (b : Bool) → is_number n k ≡ b → filter_map (entry_at es) (but n ns) ≡ filter_map (entry_at es) ns → filter_map (entry_at es) (cond (not b) (k ∷ but n ns) (but n ns)) ≡ cons_option (entry_at es k) (filter_map (entry_at es) ns)
      by true t more = more ∙ ap (λ (o : Option T). cons_option (option_map (λ (item : T). (k, item)) o) (filter_map (entry_at es) ns)) (sym (ap (λ x. item_at x es) (sym (number_same n k t)) ∙ none))
      by false t more = ap (cons_option (entry_at es k)) more

  module _ (test : List ℕ → T → Bool) where
    pub indexed_none : (n : ℕ) → IsIndexed test n [] empty
    indexed_none n = record {
      found = λ id. ap (λ o. filter_map (entry_at {T = T} []) (numbers_or_none o)) (get-empty (slice_cmp nat_cmp) id);
      below = λ id. subst (λ o. AreLess n (numbers_or_none o)) (sym (get-empty (slice_cmp nat_cmp) id)) tt;
    }

    -- the item that is added is found at the ids that the test finds it at
    pub indexed_more : (n : ℕ) (v : T) (es : List (ℕ × T)) (index more : Index) → AreBelow n es → IsIndexed test n es index
        → ((id : List ℕ) → numbers_at more id ≡ cond (test id v) (numbers_at index id ++ n ∷ []) (numbers_at index id))
        → IsIndexed test (n + 1) (es ++ (n, v) ∷ []) more
    indexed_more n v es index more below indexed is = record { found = λ id. at id (test id v) refl; below = λ id. less id (test id v) refl }
      where
        old : (id : List ℕ) → filter_map (entry_at (es ++ (n, v) ∷ [])) (numbers_at index id) ≡ filter (λ e. test id e.1) es
        old id = entries_more n v es (numbers_at index id) (indexed.below id) ∙ indexed.found id

        at : (id : List ℕ) (b : Bool) → test id v ≡ b → filter_map (entry_at (es ++ (n, v) ∷ [])) (numbers_at more id) ≡ filter (λ e. test id e.1) (es ++ (n, v) ∷ [])
        at id true t = ap (filter_map (entry_at (es ++ (n, v) ∷ []))) (is id ∙ ap (λ b. cond b (numbers_at index id ++ n ∷ []) (numbers_at index id)) t)
            ∙ filter_map-append (entry_at (es ++ (n, v) ∷ [])) (numbers_at index id) (n ∷ [])
            ∙ ap (λ (l : List (ℕ × T)). l ++ filter_map (entry_at (es ++ (n, v) ∷ [])) (n ∷ [])) (old id)
            ∙ ap (λ (o : Option T). filter (λ e. test id e.1) es ++ cons_option (option_map (λ (item : T). (n, item)) o) []) (item_last n v es below)
            ∙ ap (λ b. filter (λ e. test id e.1) es ++ cond b ((n, v) ∷ []) []) (sym t)
            ∙ sym (filter-append (λ e. test id e.1) es ((n, v) ∷ []))
        at id false t = ap (filter_map (entry_at (es ++ (n, v) ∷ []))) (is id ∙ ap (λ b. cond b (numbers_at index id ++ n ∷ []) (numbers_at index id)) t)
            ∙ old id
            ∙ sym (append-nil (filter (λ e. test id e.1) es))
            ∙ ap (λ b. filter (λ e. test id e.1) es ++ cond b ((n, v) ∷ []) []) (sym t)
            ∙ sym (filter-append (λ e. test id e.1) es ((n, v) ∷ []))

        less : (id : List ℕ) (b : Bool) → test id v ≡ b → AreLess (n + 1) (numbers_at more id)
        less id true t = subst (AreLess (n + 1)) (sym (is id ∙ ap (λ b. cond b (numbers_at index id ++ n ∷ []) (numbers_at index id)) t)) (less_more n (numbers_at index id) (indexed.below id))
        less id false t = subst (AreLess (n + 1)) (sym (is id ∙ ap (λ b. cond b (numbers_at index id ++ n ∷ []) (numbers_at index id)) t)) (less_next n (numbers_at index id) (indexed.below id))

    -- a number that no item has changes nothing
    pub indexed_stale : (n : ℕ) (es : List (ℕ × T)) (index more : Index) (b : List ℕ → Bool) → AreBelow n es → IsIndexed test n es index
        → ((id : List ℕ) → numbers_at more id ≡ cond (b id) (numbers_at index id ++ n ∷ []) (numbers_at index id))
        → IsIndexed test (n + 1) es more
    indexed_stale n es index more b below indexed is = record { found = λ id. is' id (b id) refl; below = λ id. less id (b id) refl }
      where
        numbers : (id : List ℕ) (c : Bool) → b id ≡ c → numbers_at more id ≡ cond c (numbers_at index id ++ n ∷ []) (numbers_at index id)
        numbers id c t = is id ∙ ap (λ x. cond x (numbers_at index id ++ n ∷ []) (numbers_at index id)) t

        is' : (id : List ℕ) (c : Bool) → b id ≡ c → filter_map (entry_at es) (numbers_at more id) ≡ filter (λ e. test id e.1) es
        is' id true t = ap (filter_map (entry_at es)) (numbers id true t) ∙ filter_map-append (entry_at es) (numbers_at index id) (n ∷ [])
            ∙ ap (λ (o : Option T). filter_map (entry_at es) (numbers_at index id) ++ cons_option (option_map (λ (item : T). (n, item)) o) []) (none_below n es below)
            ∙ append-nil (filter_map (entry_at es) (numbers_at index id)) ∙ indexed.found id
        is' id false t = ap (filter_map (entry_at es)) (numbers id false t) ∙ indexed.found id

        less : (id : List ℕ) (c : Bool) → b id ≡ c → AreLess (n + 1) (numbers_at more id)
        less id true t = subst (AreLess (n + 1)) (sym (numbers id true t)) (less_more n (numbers_at index id) (indexed.below id))
        less id false t = subst (AreLess (n + 1)) (sym (numbers id false t)) (less_next n (numbers_at index id) (indexed.below id))

    -- an item is taken out, and its number from some ids
    pub indexed_without : (n k : ℕ) (es : List (ℕ × T)) (index fewer : Index) (b : List ℕ → Bool) → IsIndexed test n es index
        → ((id : List ℕ) → numbers_at fewer id ≡ cond (b id) (but k (numbers_at index id)) (numbers_at index id))
        → IsIndexed test n (without k es) fewer
    indexed_without n k es index fewer b indexed is = record { found = λ id. at id (b id) refl; below = λ id. less id (b id) refl }
      where
        numbers : (id : List ℕ) (c : Bool) → b id ≡ c → numbers_at fewer id ≡ cond c (but k (numbers_at index id)) (numbers_at index id)
        numbers id c t = is id ∙ ap (λ x. cond x (but k (numbers_at index id)) (numbers_at index id)) t

        old : (id : List ℕ) → filter_map (entry_at (without k es)) (numbers_at index id) ≡ filter (λ e. test id e.1) (without k es)
        old id = entries_without k es (numbers_at index id) ∙ ap (filter (λ e. not (is_number k e.0))) (indexed.found id) ∙ two_filters (λ e. not (is_number k e.0)) (λ e. test id e.1) es

        at : (id : List ℕ) (c : Bool) → b id ≡ c → filter_map (entry_at (without k es)) (numbers_at fewer id) ≡ filter (λ e. test id e.1) (without k es)
        at id true t = ap (filter_map (entry_at (without k es))) (numbers id true t) ∙ entries_but k (without k es) (numbers_at index id) (item_gone k es) ∙ old id
        at id false t = ap (filter_map (entry_at (without k es))) (numbers id false t) ∙ old id

        less : (id : List ℕ) (c : Bool) → b id ≡ c → AreLess n (numbers_at fewer id)
        less id true t = subst (AreLess n) (sym (numbers id true t)) (less_but n k (numbers_at index id) (indexed.below id))
        less id false t = subst (AreLess n) (sym (numbers id false t)) (indexed.below id)

    -- the same where the index is changed by one call
    pub indexed_gone : (n k : ℕ) (es : List (ℕ × T)) (index fewer : Index) (id : List ℕ) → fewer ≡ without_number index id k → IsIndexed test n es index → IsIndexed test n (without k es) fewer
    indexed_gone n k es index fewer id is indexed =
        indexed_without n k es index fewer (bytes_eq id) indexed
        (λ q. ap (λ (x : Index). numbers_at x q) is ∙ numbers_put index id q (but k (numbers_at index id)) ∙ numbers_tied index id q (but k) (bytes_eq id q) refl)

    -- a number that was added at an id is taken away again
    pub indexed_undone : (n : ℕ) (es : List (ℕ × T)) (index : Index) (id : List ℕ) → IsIndexed test n es index → IsIndexed test n es (without_number (with_number index id n) id n)
    indexed_undone n es index id indexed = record { found = λ q. ap (filter_map (entry_at es)) (same q) ∙ indexed.found q; below = λ q. subst (AreLess n) (sym (same q)) (indexed.below q) }
      where
        more : Index
        more = with_number index id n

        back : but n (numbers_at more id) ≡ numbers_at index id
        back = ap (but n) (numbers_inserted index id id (numbers_at index id ++ n ∷ []) ∙ ap (λ b. cond b (numbers_at index id ++ n ∷ []) (numbers_at index id)) ((bytes_eq-Decides id id).1 refl)) ∙ but_last n (numbers_at index id) (indexed.below id)

        at : (q : List ℕ) (b : Bool) → bytes_eq id q ≡ b → cond b (but n (numbers_at more id)) (numbers_at more q) ≡ numbers_at index q
        at q true t = back ∙ ap (numbers_at index) ((bytes_eq-Decides id q).0 t)
        at q false t = numbers_inserted index id q (numbers_at index id ++ n ∷ []) ∙ ap (λ b. cond b (numbers_at index id ++ n ∷ []) (numbers_at index q)) t

        same : (q : List ℕ) → numbers_at (without_number more id n) q ≡ numbers_at index q
        same q = numbers_put more id q (but n (numbers_at more id)) ∙ at q (bytes_eq id q) refl

    items_found : (es : List (ℕ × T)) (ns : List ℕ) → items_at ns es ≡ items_of (filter_map (entry_at es) ns)
    items_found es [] = refl
    items_found es (k ∷ ns) = by (item_at k es) (items_found es ns)
      where
        by : (o : Option T) → items_at ns es ≡ items_of (filter_map (entry_at es) ns) → cons_option o (items_at ns es) ≡ items_of (cons_option (option_map (λ (item : T). (k, item)) o) (filter_map (entry_at es) ns))
        by None more = more
        by (Some v) more = ap (λ (l : List T). v ∷ l) more

    items_filtered : (id : List ℕ) (es : List (ℕ × T)) → items_of (filter (λ e. test id e.1) es) ≡ filter (test id) (items_of es)
    items_filtered id [] = refl
    items_filtered id (e ∷ es) = by (test id e.1) (items_filtered id es)
      where
        by : (b : Bool) → items_of (filter (λ x. test id x.1) es) ≡ filter (test id) (items_of es) → items_of (cond b (e ∷ filter (λ x. test id x.1) es) (filter (λ x. test id x.1) es)) ≡ cond b (e.1 ∷ filter (test id) (items_of es)) (filter (test id) (items_of es))
        by true more = ap (λ (l : List T). e.1 ∷ l) more
        by false more = more

    -- an index finds at an id the items that the test finds
    pub indexed_items : (n : ℕ) (es : List (ℕ × T)) (index : Index) (id : List ℕ) → IsIndexed test n es index → items_at (numbers_at index id) es ≡ filter (test id) (items_of es)
    indexed_items n es index id indexed = items_found es (numbers_at index id) ∙ ap items_of (indexed.found id) ∙ items_filtered id es
