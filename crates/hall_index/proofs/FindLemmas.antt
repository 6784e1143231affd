-- What is found at the numbers of an id, and what is left without it, where an index finds the items of that id.
use Rattle.std.proofs.Common.{◌≡◌, ℕ, ◌<◌, ◌≤◌, Bool, true, false, cond, not, ◌||◌, List, [], ◌∷◌, ◌++◌, length, filter, filter_map, find, Option, Some, None, option_map, bytes_eq, refl, sym, ap, ◌∙◌, subst, arith, true≢false}
use Rattle.std.specs.List.{list_any, cons_option}
use Rattle.std.proofs.lemmas.Slice.Eq.{bytes_eq-Decides}
use Rattle.ps_base.specs.ById.{ById}
use Rattle.hall_index.specs.Numbered.{is_number, item_at, items_at, items_of, without, but, AreBelow}
use Rattle.hall_index.specs.IdIndices.{numbers_at, with_number, without_number, entry_at, IsIndexed}
use Rattle.hall_index.specs.Finds.{first_number, AreApart, holds_if, any_at, first_at, without_first, without_all}
use Rattle.hall_index.proofs.NumberLemmas.{number_same, number_self, item_more, item_without}
use Rattle.hall_index.proofs.IndexLemmas.{numbers_inserted, numbers_put, indexed_items}

abbrev Index : Type 0
Index = ById (List ℕ)

-- ---- the first of some numbers

abbrev others : List ℕ → List ℕ
others [] = []
others (n ∷ ns) = ns

numbers_first : (n : ℕ) (l : List ℕ) → Some n ≡ first_number l → l ≡ n ∷ others l
numbers_first n [] is = absurd cc
numbers_first n (k ∷ ns) is = ap (λ x. x ∷ ns) (same is)
  where
    same : Some n ≡ Some k → k ≡ n
    same is = cc

numbers_none : (l : List ℕ) → None ≡ first_number l → l ≡ []
numbers_none [] is = refl
numbers_none (k ∷ ns) is = absurd cc

length_but : (n : ℕ) (ns : List ℕ) → length (but n ns) ≤ length ns
length_but n [] = omega arith
length_but n (k ∷ ns) = by (is_number n k) (length_but n ns)
  where
    by : (b : Bool) → length (but n ns) ≤ length ns → length (cond (not b) (k ∷ but n ns) (but n ns)) ≤ length (k ∷ ns)
    by true less = omega (arith, less)
    by false less = omega (arith, less)

length_first : (n : ℕ) (ns : List ℕ) → length (but n (n ∷ ns)) < length (n ∷ ns)
length_first n ns =
    let less = length_but n ns in
    subst (λ b. length (cond (not b) (n ∷ but n ns) (but n ns)) < length (n ∷ ns)) (sym (number_self n)) (omega (arith, less))

-- an id has fewer numbers without its first
pub fewer_numbers : (index fewer : Index) (id : List ℕ) (n : ℕ) → Some n ≡ first_number (numbers_at index id) → fewer ≡ without_number index id n
    → length (numbers_at fewer id) < length (numbers_at index id)
fewer_numbers index fewer id n first is =
    subst (λ l. length l < length (numbers_at index id)) (sym left_is)
    (subst (λ l. length (but n l) < length l) (sym (numbers_first n (numbers_at index id) first)) (length_first n (others (numbers_at index id))))
  where
    left_is : numbers_at fewer id ≡ but n (numbers_at index id)
    left_is =
        ap (λ (x : Index). numbers_at x id) is ∙ numbers_put index id id (but n (numbers_at index id))
        ∙ ap (λ b. cond b (but n (numbers_at index id)) (numbers_at index id)) ((bytes_eq-Decides id id).1 refl)

pub numbers_more : (index : Index) (id q : List ℕ) (n : ℕ) → numbers_at (with_number index id n) q ≡ cond (bytes_eq id q) (numbers_at index q ++ n ∷ []) (numbers_at index q)
numbers_more index id q n = numbers_inserted index id q (numbers_at index id ++ n ∷ []) ∙ at (bytes_eq id q) refl
  where
    at : (b : Bool) → bytes_eq id q ≡ b → cond b (numbers_at index id ++ n ∷ []) (numbers_at index q) ≡ cond b (numbers_at index q ++ n ∷ []) (numbers_at index q)
    at true t = ap (λ x. numbers_at index x ++ n ∷ []) ((bytes_eq-Decides id q).0 t)
    at false t = refl

head_holds : {X : Type 0} (q : X → Bool) (x : X) (xs ys : List X) → x ∷ xs ≡ filter q ys → q x ≡ true
head_holds q x xs [] is = absurd cc
head_holds {X = X} q x xs (y ∷ ys) is = by (q y) refl is (head_holds q x xs ys)
  where
    same : x ∷ xs ≡ y ∷ filter q ys → x ≡ y
    same is = cc

    by : (b : Bool) → q y ≡ b → x ∷ xs ≡ cond b (y ∷ filter q ys) (filter q ys) → (x ∷ xs ≡ filter q ys → q x ≡ true) → q x ≡ true
    by true t is more = ap q (same is) ∙ t
    by false t is more = more is

module _ {T : Type 0} where
  clash : {A : Type 0} (o : Option T) (item : T) → o ≡ None → o ≡ Some item → A
  clash o item none some = absurd cc

  -- ---- numbers that are apart

  pub apart_more : (n : ℕ) (v : T) (es : List (ℕ × T)) → AreBelow n es → AreApart es → AreApart (es ++ (n, v) ∷ [])
  apart_more n v [] below apart = (refl, tt)
  apart_more n v (e ∷ es) below apart = (item_more n e.0 v es below.0 ∙ apart.0, apart_more n v es below.1 apart.1)

  no_item : (b : Bool) (o : Option T) → o ≡ None → cond b None o ≡ None
  no_item true o none = refl
  no_item false o none = none

  apart_by : (b : Bool) (e : ℕ × T) (es : List (ℕ × T)) → item_at e.0 es ≡ None → AreApart es → AreApart (cond b (e ∷ es) es)
  apart_by true e es none apart = (none, apart)
  apart_by false e es none apart = apart

  pub apart_without : (n : ℕ) (es : List (ℕ × T)) → AreApart es → AreApart (without n es)
  apart_without n [] apart = tt
  apart_without n (e ∷ es) apart =
      apart_by (not (is_number n e.0)) e (without n es) (item_without n e.0 es ∙ no_item (is_number n e.0) (item_at e.0 es) apart.0) (apart_without n es apart.1)

  without_none : (n : ℕ) (es : List (ℕ × T)) → item_at n es ≡ None → without n es ≡ es
  without_none n [] none = refl
  without_none n (e ∷ es) none = by (is_number n e.0) none (λ rest. without_none n es rest)
    where
      by : (b : Bool) → cond b (Some e.1) (item_at n es) ≡ None → (item_at n es ≡ None → without n es ≡ es) → cond (not b) (e ∷ without n es) (without n es) ≡ e ∷ es
      by true none more = absurd cc
      by false none more = ap (λ (l : List (ℕ × T)). e ∷ l) (more none)

  none_at : (n k : ℕ) (es : List (ℕ × T)) → is_number n k ≡ true → item_at k es ≡ None → item_at n es ≡ None
  none_at n k es t none = ap (λ x. item_at x es) (number_same n k t) ∙ none

  -- ---- a test at some numbers

  module _ (p : T → Bool) where
    any_items : (es : List (ℕ × T)) (ns : List ℕ) → any_at p es ns ≡ list_any p (items_at ns es)
    any_items es [] = refl
    any_items es (n ∷ ns) = by (item_at n es) (any_items es ns)
      where
        by : (o : Option T) → any_at p es ns ≡ list_any p (items_at ns es) → (holds_if p o || any_at p es ns) ≡ list_any p (cons_option o (items_at ns es))
        by None more = more
        by (Some s) more = ap (λ b. p s || b) more

    any_filtered : (q : T → Bool) → ((s : T) → p s ≡ true → q s ≡ true) → (ss : List T) → list_any p (filter q ss) ≡ list_any p ss
    any_filtered q only [] = refl
    any_filtered q only (s ∷ ss) = by (q s) (p s) refl refl (any_filtered q only ss)
      where
        by : (b c : Bool) → q s ≡ b → p s ≡ c → list_any p (filter q ss) ≡ list_any p ss → list_any p (cond b (s ∷ filter q ss) (filter q ss)) ≡ (c || list_any p ss)
        by true c t u more = ap (λ b. b || list_any p (filter q ss)) u ∙ ap (λ b. c || b) more
        by false true t u more = absurd (true≢false (sym (only s u) ∙ t))
        by false false t u more = more

    -- at the numbers of an id it holds of an item if it holds of any
    pub any_is : (test : List ℕ → T → Bool) (id : List ℕ) (next : ℕ) (es : List (ℕ × T)) (index : Index) → IsIndexed test next es index
        → ((s : T) → p s ≡ true → test id s ≡ true) → any_at p es (numbers_at index id) ≡ list_any p (items_of es)
    any_is test id next es index indexed only =
        any_items es (numbers_at index id) ∙ ap (list_any p) (indexed_items test next es index id indexed) ∙ any_filtered (test id) only (items_of es)

    -- ---- the first of which it holds

    abbrev entry_found : List (ℕ × T) → Option (ℕ × T)
    entry_found [] = None
    entry_found (e ∷ es) = cond (p e.1) (Some e) (entry_found es)

    first_entry : (es : List (ℕ × T)) (ns : List ℕ) → first_at p es ns ≡ option_map (λ (e : ℕ × T). e.0) (entry_found (filter_map (entry_at es) ns))
    first_entry es [] = refl
    first_entry es (n ∷ ns) = by (item_at n es) (first_entry es ns)
      where
        rest : List (ℕ × T)
        rest = filter_map (entry_at es) ns

        on : (s : T) (b : Bool) → first_at p es ns ≡ option_map (λ (e : ℕ × T). e.0) (entry_found rest)
            → cond b (Some n) (first_at p es ns) ≡ option_map (λ (e : ℕ × T). e.0) (cond b (Some (n, s)) (entry_found rest))
        on s true more = refl
        on s false more = more

        by : (o : Option T) → first_at p es ns ≡ option_map (λ (e : ℕ × T). e.0) (entry_found rest)
            → cond (holds_if p o) (Some n) (first_at p es ns)
            ≡ option_map (λ (e : ℕ × T). e.0) (entry_found (cons_option (option_map (λ (item : T). (n, item)) o) rest))
        by None more = more
        by (Some s) more = on s (p s) more

    entry_of : (q : T → Bool) → ((s : T) → p s ≡ true → q s ≡ true) → (es : List (ℕ × T)) → entry_found (filter (λ e. q e.1) es) ≡ entry_found es
    entry_of q only [] = refl
    entry_of q only (e ∷ es) = by (q e.1) (p e.1) refl refl (entry_of q only es)
      where
        by : (b c : Bool) → q e.1 ≡ b → p e.1 ≡ c → entry_found (filter (λ e. q e.1) es) ≡ entry_found es
            → entry_found (cond b (e ∷ filter (λ e. q e.1) es) (filter (λ e. q e.1) es)) ≡ cond c (Some e) (entry_found es)
        by true c t u more = ap (λ b. cond b (Some e) (entry_found (filter (λ e. q e.1) es))) u ∙ ap (cond c (Some e)) more
        by false true t u more = absurd (true≢false (sym (only e.1 u) ∙ t))
        by false false t u more = more

    entry_item : (es : List (ℕ × T)) → find p (items_of es) ≡ option_map (λ (e : ℕ × T). e.1) (entry_found es)
    entry_item [] = refl
    entry_item (e ∷ es) = by (p e.1) (entry_item es)
      where
        by : (b : Bool) → find p (items_of es) ≡ option_map (λ (e : ℕ × T). e.1) (entry_found es)
            → cond b (Some e.1) (find p (items_of es)) ≡ option_map (λ (e : ℕ × T). e.1) (cond b (Some e) (entry_found es))
        by true more = refl
        by false more = more

    same_entry : (h e : ℕ × T) → Some h ≡ Some e → h ≡ e
    same_entry h e is = cc

    -- it stands at its number
    item_found : (es : List (ℕ × T)) → AreApart es → (e : ℕ × T) → entry_found es ≡ Some e → item_at e.0 es ≡ Some e.1
    item_found [] apart e is = absurd cc
    item_found (h ∷ es) apart e is = by (p h.1) is (item_found es apart.1 e)
      where
        later : (b : Bool) → is_number e.0 h.0 ≡ b → item_at e.0 es ≡ Some e.1 → cond b (Some h.1) (item_at e.0 es) ≡ Some e.1
        later true t there = clash (item_at e.0 es) e.1 (none_at e.0 h.0 es t apart.0) there
        later false t there = there

        by : (b : Bool) → cond b (Some h) (entry_found es) ≡ Some e → (entry_found es ≡ Some e → item_at e.0 es ≡ Some e.1) → item_at e.0 (h ∷ es) ≡ Some e.1
        by true is more = subst (λ (x : ℕ × T). item_at x.0 (h ∷ es) ≡ Some x.1) (same_entry h e is) (ap (λ b. cond b (Some h.1) (item_at h.0 es)) (number_self h.0))
        by false is more = later (is_number e.0 h.0) refl (more is)

    -- what is left without it
    left_entry : (es : List (ℕ × T)) → AreApart es → (e : ℕ × T) → entry_found es ≡ Some e → items_of (without e.0 es) ≡ without_first p (items_of es)
    left_entry [] apart e is = absurd cc
    left_entry (h ∷ es) apart e is = by (p h.1) is (left_entry es apart.1 e)
      where
        first_gone : without h.0 (h ∷ es) ≡ es
        first_gone = ap (λ b. cond (not b) (h ∷ without h.0 es) (without h.0 es)) (number_self h.0) ∙ without_none h.0 es apart.0

        later : (b : Bool) → is_number e.0 h.0 ≡ b → items_of (without e.0 es) ≡ without_first p (items_of es) → item_at e.0 es ≡ Some e.1
            → items_of (cond (not b) (h ∷ without e.0 es) (without e.0 es)) ≡ h.1 ∷ without_first p (items_of es)
        later true t more there = clash (item_at e.0 es) e.1 (none_at e.0 h.0 es t apart.0) there
        later false t more there = ap (λ (l : List T). h.1 ∷ l) more

        by : (b : Bool) → cond b (Some h) (entry_found es) ≡ Some e → (entry_found es ≡ Some e → items_of (without e.0 es) ≡ without_first p (items_of es))
            → items_of (without e.0 (h ∷ es)) ≡ cond b (items_of es) (h.1 ∷ without_first p (items_of es))
        by true is more = subst (λ (x : ℕ × T). items_of (without x.0 (h ∷ es)) ≡ items_of es) (same_entry h e is) (ap (λ (l : List (ℕ × T)). items_of l) first_gone)
        by false is more = later (is_number e.0 h.0) refl (more is) (item_found es apart.1 e is)

    none_by : (b : Bool) (s : T) (list : List T) → cond b (Some s) (find p list) ≡ None → (find p list ≡ None → without_first p list ≡ list)
        → cond b list (s ∷ without_first p list) ≡ s ∷ list
    none_by true s list none more = absurd cc
    none_by false s list none more = ap (λ (l : List T). s ∷ l) (more none)

    -- where it holds of none all stay
    pub none_left : (list : List T) → find p list ≡ None → without_first p list ≡ list
    none_left [] none = refl
    none_left (s ∷ list) none = none_by (p s) s list none (none_left list)

    -- by the numbers of an id of whose items alone it holds
    module _ (test : List ℕ → T → Bool) (id : List ℕ) (only : (s : T) → p s ≡ true → test id s ≡ true) (next : ℕ) (es : List (ℕ × T)) (index : Index)
        (indexed : IsIndexed test next es index) (apart : AreApart es) where
      first_is : first_at p es (numbers_at index id) ≡ option_map (λ (e : ℕ × T). e.0) (entry_found es)
      first_is =
          first_entry es (numbers_at index id)
          ∙ ap (λ (l : List (ℕ × T)). option_map (λ (e : ℕ × T). e.0) (entry_found l)) (indexed.found id)
          ∙ ap (option_map (λ (e : ℕ × T). e.0)) (entry_of (test id) only es)

      no_number : (o : Option (ℕ × T)) → option_map (λ (e : ℕ × T). e.0) o ≡ None → option_map (λ (e : ℕ × T). e.1) o ≡ None
      no_number None is = refl
      no_number (Some e) is = absurd cc

      pub found_none : first_at p es (numbers_at index id) ≡ None → find p (items_of es) ≡ None
      found_none none = entry_item es ∙ no_number (entry_found es) (sym first_is ∙ none)

      pub left_none : first_at p es (numbers_at index id) ≡ None → items_of es ≡ without_first p (items_of es)
      left_none none = sym (none_left (items_of es) (found_none none))

      same_number : (e : ℕ × T) (n : ℕ) → Some e.0 ≡ Some n → e.0 ≡ n
      same_number e n is = cc

      pub found_at : (n : ℕ) → first_at p es (numbers_at index id) ≡ Some n → item_at n es ≡ find p (items_of es)
      found_at n first = at (entry_found es) refl (sym first_is ∙ first) ∙ sym (entry_item es)
        where
          at : (o : Option (ℕ × T)) → entry_found es ≡ o → option_map (λ (e : ℕ × T). e.0) o ≡ Some n → item_at n es ≡ option_map (λ (e : ℕ × T). e.1) o
          at None is same = absurd cc
          at (Some e) is same = subst (λ k. item_at k es ≡ Some e.1) (same_number e n same) (item_found es apart e is)

      pub left_at : (n : ℕ) → first_at p es (numbers_at index id) ≡ Some n → items_of (without n es) ≡ without_first p (items_of es)
      left_at n first = at (entry_found es) refl (sym first_is ∙ first)
        where
          at : (o : Option (ℕ × T)) → entry_found es ≡ o → option_map (λ (e : ℕ × T). e.0) o ≡ Some n → items_of (without n es) ≡ without_first p (items_of es)
          at None is same = absurd cc
          at (Some e) is same = subst (λ k. items_of (without k es) ≡ without_first p (items_of es)) (same_number e n same) (left_entry es apart e is)

  -- ---- all items of an id end

  abbrev IsOf : (T → Bool) → Option T → Type 0
  IsOf test None = Unit {0}
  IsOf test (Some s) = test s ≡ true

  own_item : (test : T → Bool) (es : List (ℕ × T)) (n : ℕ) (ns : List ℕ) → filter_map (entry_at es) (n ∷ ns) ≡ filter (λ e. test e.1) es → IsOf test (item_at n es)
  own_item test es n ns is = by (item_at n es) is
    where
      by : (o : Option T) → cons_option (option_map (λ (item : T). (n, item)) o) (filter_map (entry_at es) ns) ≡ filter (λ e. test e.1) es → IsOf test o
      by None is = tt
      by (Some s) is = head_holds (λ (e : ℕ × T). test e.1) (n, s) (filter_map (entry_at es) ns) es is

  rest_without : (test : T → Bool) (n : ℕ) (es : List (ℕ × T)) → AreApart es → IsOf test (item_at n es) → without_all test (items_of (without n es)) ≡ without_all test (items_of es)
  rest_without test n [] apart own = refl
  rest_without test n (e ∷ es) apart own = by (is_number n e.0) refl own (λ rest. rest_without test n es apart.1 rest)
    where
      by : (b : Bool) → is_number n e.0 ≡ b → IsOf test (cond b (Some e.1) (item_at n es)) → (IsOf test (item_at n es) → without_all test (items_of (without n es)) ≡ without_all test (items_of es))
          → without_all test (items_of (cond (not b) (e ∷ without n es) (without n es))) ≡ without_all test (e.1 ∷ items_of es)
      by true t own more =
          ap (λ (l : List (ℕ × T)). without_all test (items_of l)) (without_none n es (none_at n e.0 es t apart.0))
          ∙ sym (ap (λ b. cond (not b) (e.1 ∷ without_all test (items_of es)) (without_all test (items_of es))) own)
      by false t own more = ap (λ (l : List T). cond (not (test e.1)) (e.1 ∷ l) l) (more own)

  none_own : (test : T → Bool) (ss : List T) → [] ≡ filter test ss → ss ≡ without_all test ss
  none_own test [] is = refl
  none_own test (s ∷ ss) is = by (test s) is (none_own test ss)
    where
      by : (b : Bool) → [] ≡ cond b (s ∷ filter test ss) (filter test ss) → ([] ≡ filter test ss → ss ≡ without_all test ss)
          → s ∷ ss ≡ cond (not b) (s ∷ without_all test ss) (without_all test ss)
      by true is more = absurd cc
      by false is more = ap (λ (l : List T). s ∷ l) (more is)

  module _ (test : List ℕ → T → Bool) (id : List ℕ) (next : ℕ) (es : List (ℕ × T)) (index : Index) (indexed : IsIndexed test next es index) where
    -- one of them ends
    pub ended : AreApart es → (n : ℕ) (fewer : List (ℕ × T)) → Some n ≡ first_number (numbers_at index id) → fewer ≡ without n es
        → without_all (test id) (items_of fewer) ≡ without_all (test id) (items_of es)
    ended apart n fewer first is =
        ap (λ (l : List (ℕ × T)). without_all (test id) (items_of l)) is
        ∙ rest_without (test id) n es apart
        (own_item (test id) es n (others (numbers_at index id)) (ap (filter_map (entry_at es)) (sym (numbers_first n (numbers_at index id) first)) ∙ indexed.found id))

    -- none is left
    pub all_ended : None ≡ first_number (numbers_at index id) → items_of es ≡ without_all (test id) (items_of es)
    all_ended none = none_own (test id) (items_of es) (sym (ap (λ ns. items_at ns es) (numbers_none (numbers_at index id) none)) ∙ indexed_items test next es index id indexed)
