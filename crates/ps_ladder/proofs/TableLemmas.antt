-- The searches at their numbers, and what the indices find.
use Rattle.std.proofs.Common.{◌≡◌, ℕ, ◌+◌, Bool, true, false, cond, not, ◌&&◌, List, [], ◌∷◌, ◌++◌, find, ℤ, Option, Some, None, bytes_eq, refl, sym, ap, ◌∙◌, subst, true≢false, Result, Ok, Err, OnErr}
use Rattle.std.specs.List.{list_any}
use Rattle.std.specs.FinMap.{empty}
use Rattle.ps_base.specs.ById.{ById}
use Rattle.hall_index.specs.Numbered.{item_at, items_of, without, AreBelow}
use Rattle.hall_index.specs.IdIndices.{numbers_at, with_number, without_number, IsIndexed}
use Rattle.hall_index.specs.Finds.{first_number, AreApart, any_at, first_at, without_first}
use Rattle.hall_index.proofs.NumberLemmas.{item_last, without_last, below_more, below_without}
use Rattle.hall_index.proofs.IndexLemmas.{indexed_none, indexed_more, indexed_undone, indexed_without, indexed_gone}
use Rattle.hall_index.proofs.FindLemmas as finds
use Rattle.ps_ladder.specs.declared.searches.Search.{Search}
use Rattle.ps_ladder.specs.declared.table.Table.{Table}
use Rattle.ps_ladder.specs.Waiting.{has_user, is_for, is_near, suits, found, cancelled, added, added_by, without as left}
use Rattle.ps_ladder.specs.Tables.{has_format, AreKept}

abbrev Entries : Type 0
Entries = List (ℕ × Search)

abbrev Index : Type 0
Index = ById (List ℕ)

pub on_err : {X E P Q : Type 0} (r : Result X E) → OnErr r P → (P → Q) → OnErr r Q
on_err (Ok v) p f = tt
on_err (Err e) p f = f p

pub at_fault : {X E P : Type 0} (r : Result X E) → P → OnErr r P
at_fault (Ok v) p = tt
at_fault (Err e) p = p

-- ---- a test of a user's searches

and_left : (a b : Bool) → (a && b) ≡ true → a ≡ true
and_left true b t = refl
and_left false b t = t

pub has_is : (t : Table) → AreKept t → (user : List ℕ) → any_at (has_user user) t.waiting (numbers_at t.users user) ≡ list_any (has_user user) (items_of t.waiting)
has_is t kept user = finds.any_is (has_user user) has_user user t.next t.waiting t.users kept.by_user (λ s held. held)

pub waits_is : (t : Table) → AreKept t → (user format : List ℕ) → any_at (is_for user format) t.waiting (numbers_at t.users user) ≡ list_any (is_for user format) (items_of t.waiting)
waits_is t kept user format =
    finds.any_is (is_for user format) has_user user t.next t.waiting t.users kept.by_user (λ s held. and_left (bytes_eq s.user user) (bytes_eq s.format format) held)

-- ---- the first search that suits

format_of : (a b c : Bool) → (a && (b && c)) ≡ true → b ≡ true
format_of true true c t = refl
format_of true false c t = absurd (true≢false (sym t))
format_of false b c t = absurd (true≢false (sym t))

module _ (user format : List ℕ) (rating : ℤ) where
  -- who suits searches that format
  of_format : (s : Search) → suits user format rating s ≡ true → has_format format s ≡ true
  of_format s t = format_of (not (bytes_eq s.user user)) (bytes_eq s.format format) (is_near s.rating rating) t

  found_is : (list : List Search) → found list user format rating ≡ find (suits user format rating) list
  found_is [] = refl
  found_is (s ∷ list) = ap (cond (suits user format rating s) (Some s)) (found_is list)

  left_is : (list : List Search) → left list user format rating ≡ without_first (suits user format rating) list
  left_is [] = refl
  left_is (s ∷ list) = ap (λ (l : List Search). cond (suits user format rating s) list (s ∷ l)) (left_is list)

  pub stays : (list after : List Search) → None ≡ found list user format rating → after ≡ left list user format rating → after ≡ list
  stays list after none is = is ∙ left_is list ∙ finds.none_left (suits user format rating) list (sym (found_is list) ∙ sym none)

  pub added_none : (list : List Search) (s : Search) → None ≡ found list user format rating → s ≡ record { user = user; format = format; rating = rating }
      → list ++ s ∷ [] ≡ added list user format rating
  added_none list s none is = ap (λ (x : Search). list ++ x ∷ []) is ∙ ap (λ o. added_by o list user format rating) none

  pub added_found : (list : List Search) (s : Search) → found list user format rating ≡ Some s → added list user format rating ≡ left list user format rating
  added_found list s is = ap (λ o. added_by o list user format rating) is

  module _ (t : Table) (kept : AreKept t) where
    pub first_with : (o : Option ℕ) (id ns : List ℕ) → ns ≡ numbers_at t.formats id → id ≡ format → o ≡ first_at (suits user format rating) t.waiting ns
        → first_at (suits user format rating) t.waiting (numbers_at t.formats format) ≡ o
    first_with o id ns numbers same is =
        ap (λ x. first_at (suits user format rating) t.waiting (numbers_at t.formats x)) (sym same) ∙ ap (first_at (suits user format rating) t.waiting) (sym numbers) ∙ sym is

    pub found_none : first_at (suits user format rating) t.waiting (numbers_at t.formats format) ≡ None → found (items_of t.waiting) user format rating ≡ None
    found_none none =
        found_is (items_of t.waiting)
        ∙ finds.found_none (suits user format rating) has_format format of_format t.next t.waiting t.formats kept.by_format kept.apart none

    pub left_none : first_at (suits user format rating) t.waiting (numbers_at t.formats format) ≡ None → items_of t.waiting ≡ left (items_of t.waiting) user format rating
    left_none none =
        finds.left_none (suits user format rating) has_format format of_format t.next t.waiting t.formats kept.by_format kept.apart none
        ∙ sym (left_is (items_of t.waiting))

    pub found_at : (n : ℕ) → first_at (suits user format rating) t.waiting (numbers_at t.formats format) ≡ Some n
        → item_at n t.waiting ≡ found (items_of t.waiting) user format rating
    found_at n first =
        finds.found_at (suits user format rating) has_format format of_format t.next t.waiting t.formats kept.by_format kept.apart n first
        ∙ sym (found_is (items_of t.waiting))

    pub left_at : (n : ℕ) → first_at (suits user format rating) t.waiting (numbers_at t.formats format) ≡ Some n
        → items_of (without n t.waiting) ≡ left (items_of t.waiting) user format rating
    left_at n first =
        finds.left_at (suits user format rating) has_format format of_format t.next t.waiting t.formats kept.by_format kept.apart n first
        ∙ sym (left_is (items_of t.waiting))

-- ---- the searches of a user end

module _ (t : Table) (kept : AreKept t) (user : List ℕ) where
  -- one of them ends
  pub ended : (n : ℕ) (fewer : Entries) → Some n ≡ first_number (numbers_at t.users user) → fewer ≡ without n t.waiting → cancelled (items_of fewer) user ≡ cancelled (items_of t.waiting) user
  ended n fewer first is = finds.ended has_user user t.next t.waiting t.users kept.by_user kept.apart n fewer first is

  -- none is left
  pub all_ended : None ≡ first_number (numbers_at t.users user) → items_of t.waiting ≡ cancelled (items_of t.waiting) user
  all_ended none = finds.all_ended has_user user t.next t.waiting t.users kept.by_user none

-- ---- what is kept

pub kept_new : (es : Entries) (users formats : Index) → es ≡ [] → users ≡ empty → formats ≡ empty → AreKept (record { next = 0; waiting = es; users = users; formats = formats })
kept_new es users formats none nobody nothing = record {
  below = subst (AreBelow 0) (sym none) tt;
  apart = subst AreApart (sym none) tt;
  by_user = subst (λ (l : Entries). IsIndexed has_user 0 l users) (sym none) (subst (IsIndexed has_user 0 []) (sym nobody) (indexed_none has_user 0));
  by_format = subst (λ (l : Entries). IsIndexed has_format 0 l formats) (sym none) (subst (IsIndexed has_format 0 []) (sym nothing) (indexed_none has_format 0));
}

user_more : (n : ℕ) (s : Search) (es : Entries) (index more : Index) → AreBelow n es → IsIndexed has_user n es index → more ≡ with_number index s.user n → IsIndexed has_user (n + 1) (es ++ (n, s) ∷ []) more
user_more n s es index more below indexed is = indexed_more has_user n s es index more below indexed (λ id. ap (λ (x : Index). numbers_at x id) is ∙ finds.numbers_more index s.user id n)

format_more : (n : ℕ) (s : Search) (es : Entries) (index more : Index) → AreBelow n es → IsIndexed has_format n es index → more ≡ with_number index s.format n → IsIndexed has_format (n + 1) (es ++ (n, s) ∷ []) more
format_more n s es index more below indexed is = indexed_more has_format n s es index more below indexed (λ id. ap (λ (x : Index). numbers_at x id) is ∙ finds.numbers_more index s.format id n)

-- a number that was added at a user is taken away again
pub undone : (s : Search) (n : ℕ) (index more fewer : Index) → more ≡ with_number index s.user n → fewer ≡ without_number more s.user n
    → (es : Entries) → IsIndexed has_user n es index → IsIndexed has_user n es fewer
undone s n index more fewer is then es indexed =
    subst (IsIndexed has_user n es) (sym (then ∙ ap (λ (x : Index). without_number x s.user n) is)) (indexed_undone has_user n es index s.user indexed)

module _ (t : Table) (kept : AreKept t) where
  pub kept_pushed : (s : Search) (next : ℕ) (more : Entries) (users formats : Index) → next ≡ t.next + 1 → more ≡ t.waiting ++ (t.next, s) ∷ []
      → ((k : Search) → item_at t.next more ≡ Some k → users ≡ with_number t.users k.user t.next)
      → ((k : Search) → item_at t.next more ≡ Some k → formats ≡ with_number t.formats k.format t.next)
      → AreKept (record { next = next; waiting = more; users = users; formats = formats })
  kept_pushed s next more users formats after is by_user by_format =
      let last : item_at t.next more ≡ Some s = ap (item_at t.next) is ∙ item_last t.next s t.waiting kept.below in
      subst (λ (n : ℕ). AreKept (record { next = n; waiting = more; users = users; formats = formats })) (sym after)
      (subst (λ (l : Entries). AreKept (record { next = t.next + 1; waiting = l; users = users; formats = formats })) (sym is)
      (record {
        below = below_more t.next s t.waiting kept.below;
        apart = finds.apart_more t.next s t.waiting kept.below kept.apart;
        by_user = user_more t.next s t.waiting t.users users kept.below kept.by_user (by_user s last);
        by_format = format_more t.next s t.waiting t.formats formats kept.below kept.by_format (by_format s last);
      }))

  pub back : (s : Search) (more fewer : Entries) → more ≡ t.waiting ++ (t.next, s) ∷ [] → fewer ≡ without t.next more → fewer ≡ t.waiting
  back s more fewer is then = then ∙ ap (without t.next) is ∙ without_last t.next s t.waiting kept.below

  pub kept_undone : (s : Search) (more fewer : Entries) (users formats : Index) → more ≡ t.waiting ++ (t.next, s) ∷ [] → fewer ≡ without t.next more
      → ((es : Entries) → IsIndexed has_user t.next es t.users → IsIndexed has_user t.next es users) → formats ≡ t.formats
      → AreKept (record { next = t.next; waiting = fewer; users = users; formats = formats })
  kept_undone s more fewer users formats is then told same =
      subst (λ (l : Entries). AreKept (record { next = t.next; waiting = l; users = users; formats = formats })) (sym (back s more fewer is then))
      (record {
        below = kept.below;
        apart = kept.apart;
        by_user = told t.waiting kept.by_user;
        by_format = subst (IsIndexed has_format t.next t.waiting) (sym same) kept.by_format;
      })

  kept_without : (n : ℕ) (fewer : Entries) (users formats : Index) → fewer ≡ without n t.waiting → IsIndexed has_user t.next (without n t.waiting) users
      → IsIndexed has_format t.next (without n t.waiting) formats → AreKept (record { next = t.next; waiting = fewer; users = users; formats = formats })
  kept_without n fewer users formats is by_user by_format =
      subst (λ (l : Entries). AreKept (record { next = t.next; waiting = l; users = users; formats = formats })) (sym is)
      (record {
        below = below_without t.next n t.waiting kept.below;
        apart = finds.apart_without n t.waiting kept.apart;
        by_user = by_user;
        by_format = by_format;
      })

  stale_format : (n : ℕ) → IsIndexed has_format t.next (without n t.waiting) t.formats
  stale_format n = indexed_without has_format t.next n t.waiting t.formats t.formats (λ id. false) kept.by_format (λ id. refl)

  stale_user : (n : ℕ) → IsIndexed has_user t.next (without n t.waiting) t.users
  stale_user n = indexed_without has_user t.next n t.waiting t.users t.users (λ id. false) kept.by_user (λ id. refl)

  gone_user : (n : ℕ) (users : Index) (user : List ℕ) → users ≡ without_number t.users user n → IsIndexed has_user t.next (without n t.waiting) users
  gone_user n users user is = indexed_gone has_user t.next n t.waiting t.users users user is kept.by_user

  -- nothing has the number
  pub kept_none : (n : ℕ) (fewer : Entries) → fewer ≡ without n t.waiting → AreKept (record { next = t.next; waiting = fewer; users = t.users; formats = t.formats })
  kept_none n fewer is = kept_without n fewer t.users t.formats is (stale_user n) (stale_format n)

  -- only a user has it
  pub kept_ended : (n : ℕ) (fewer : Entries) (users : Index) (user : List ℕ) → fewer ≡ without n t.waiting → users ≡ without_number t.users user n
      → AreKept (record { next = t.next; waiting = fewer; users = users; formats = t.formats })
  kept_ended n fewer users user is gone = kept_without n fewer users t.formats is (gone_user n users user gone) (stale_format n)

  pub kept_gone : (n : ℕ) (fewer : Entries) (users formats : Index) (user format : List ℕ) → fewer ≡ without n t.waiting → users ≡ without_number t.users user n
      → formats ≡ without_number t.formats format n → AreKept (record { next = t.next; waiting = fewer; users = users; formats = formats })
  kept_gone n fewer users formats user format is gone over =
      kept_without n fewer users formats is (gone_user n users user gone) (indexed_gone has_format t.next n t.waiting t.formats formats format over kept.by_format)
