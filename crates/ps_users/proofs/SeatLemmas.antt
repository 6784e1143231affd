-- Each step keeps it that an id is online where an open connection has the badge with the id.
use Rattle.std.proofs.Common.{◌≡◌, ℕ, List, Bool, true, false, cond, refl, sym, ap, ◌∙◌, Some, None}
use Rattle.std.specs.Prelude.{Option}
use Rattle.std.specs.Option.{option_and_then, option_map}
use Rattle.std.specs.Ordering.{nat_cmp, eq_by_cmp}
use Rattle.std.proofs.Common.{Ordering}
use Rattle.std.specs.Cmp.{IsTotalOrder, eq_by_cmp_equiv, nat_cmp_total, Equal-is}
use Rattle.std.specs.Cmp.Lexicographic.{slice_cmp, nat_list_cmp_total}
use Rattle.std.specs.FinMap.{FinMap, IsAntisymmetric, get, empty, insert, remove, get-empty, get-insert, get-remove, slice_cmp-IsAntisymmetric, nat_cmp-IsAntisymmetric}
use Rattle.std.proofs.lemmas.Option.{none-some, same_Some}
use Rattle.std.proofs.lemmas.Bool.{true≢false}
use Rattle.ps_base.specs.Ids.{id_of}
use Rattle.ps_base.specs.declared.badge.Badge.{Badge}
use Rattle.ps_base.specs.ById.{ById}
use Rattle.ps_users.specs.Seats.{Seats, Agrees, badge_in, id_in, opened_by, without}

by_cases : {P : Type 0} → (b : Bool) → (b ≡ true → P) → (b ≡ false → P) → P
by_cases true p q = p refl
by_cases false p q = q refl

module _ {K : Type 0} {R : K → K → Ordering} (o : IsTotalOrder R) (alike : IsAntisymmetric R) where
  -- two keys are one or apart
  by_key : {P : Type 0} → (q k : K) → (q ≡ k → P) → (eq_by_cmp R q k ≡ false → P) → P
  by_key q k p r = by_cases (eq_by_cmp R q k) (λ e. p (alike q k ((Equal-is (R q k)).0 e))) r

  apart : {P : Type 0} → (q k : K) → eq_by_cmp R q k ≡ false → q ≡ k → P
  apart q k e s = absurd (true≢false (sym ((eq_by_cmp_equiv o).refl k) ∙ ap (λ x. eq_by_cmp R x k) (sym s) ∙ e))

  module _ {X : Type 0} where
    put_here : (m : FinMap R X) (k : K) (v : X) → get (insert m k v) k ≡ Some v
    put_here m k v = get-insert o m k v k ∙ ap (λ (b : Bool). cond b (Some v) (get m k)) ((eq_by_cmp_equiv o).refl k)

    put_apart : (m : FinMap R X) (k : K) (v : X) (q : K) → eq_by_cmp R q k ≡ false → get (insert m k v) q ≡ get m q
    put_apart m k v q e = get-insert o m k v q ∙ ap (λ (b : Bool). cond b (Some v) (get m q)) e

    gone_here : (m : FinMap R X) (k : K) → get (remove m k) k ≡ None
    gone_here m k = get-remove o m k k ∙ ap (λ (b : Bool). cond b None (get m k)) ((eq_by_cmp_equiv o).refl k)

    gone_apart : (m : FinMap R X) (k q : K) → eq_by_cmp R q k ≡ false → get (remove m k) q ≡ get m q
    gone_apart m k q e = get-remove o m k q ∙ ap (λ (b : Bool). cond b None (get m q)) e

abbrev by_conn_key : {P : Type 0} → (q k : ℕ) → (q ≡ k → P) → (eq_by_cmp nat_cmp q k ≡ false → P) → P
by_conn_key = by_key nat_cmp_total nat_cmp-IsAntisymmetric

ids_alike : IsAntisymmetric (slice_cmp nat_cmp)
ids_alike = slice_cmp-IsAntisymmetric nat_cmp-IsAntisymmetric

abbrev by_id_key : {P : Type 0} → (q k : List ℕ) → (q ≡ k → P) → (eq_by_cmp (slice_cmp nat_cmp) q k ≡ false → P) → P
by_id_key = by_key nat_list_cmp_total ids_alike

-- the id of a seat
abbrev seat_id : Option (Option Badge) → Option (List ℕ)
seat_id seat = option_map (λ b. id_of b.name) (option_and_then (λ b. b) seat)

-- where the ids of all connections stay, so does what is online
same_ids : (old new : Seats) (online : ById ℕ) → ((q : ℕ) → id_in new q ≡ id_in old q) → Agrees (record { seats = old; online = online }) → Agrees (record { seats = new; online = online })
same_ids old new online same a = record { seated = λ id q e. same q ∙ a.seated id q e; found = λ id q e. a.found id q (sym (same q) ∙ e) }

pub nobody : Agrees (record { seats = empty; online = empty })
nobody = record {
  seated = λ id q e. absurd (none-some q (sym (get-empty (slice_cmp nat_cmp) id) ∙ e));
  found = λ id q e. absurd (none-some id (sym (ap seat_id (get-empty nat_cmp q)) ∙ e));
}

pub opened_agrees : (seats : Seats) (online : ById ℕ) (k : ℕ) (seat : Option (Option Badge)) → get seats k ≡ seat → Agrees (record { seats = seats; online = online }) → Agrees (record { seats = opened_by seat seats k; online = online })
opened_agrees seats online k (Some seat) is a = a
opened_agrees seats online k None is a = same_ids seats (insert seats k None) online (λ q. by_conn_key q k
    (λ e. ap (λ x. id_in (insert seats k None) x) e ∙ ap seat_id (put_here nat_cmp_total nat_cmp-IsAntisymmetric seats k None) ∙ sym (ap (λ x. id_in seats x) e ∙ ap seat_id is))
    (λ e. ap seat_id (put_apart nat_cmp_total nat_cmp-IsAntisymmetric seats k None q e))) a

pub closed_agrees : (seats : Seats) (online : ById ℕ) (k : ℕ) (badge : Option Badge) → badge_in seats k ≡ badge → Agrees (record { seats = seats; online = online }) → Agrees (record { seats = remove seats k; online = without badge online })
closed_agrees seats online k None is a = same_ids seats (remove seats k) online (λ q. by_conn_key q k
    (λ e. ap (λ x. id_in (remove seats k) x) e ∙ ap seat_id (gone_here nat_cmp_total nat_cmp-IsAntisymmetric seats k) ∙ sym (ap (λ x. id_in seats x) e ∙ ap (option_map (λ b. id_of b.name)) is))
    (λ e. ap seat_id (gone_apart nat_cmp_total nat_cmp-IsAntisymmetric seats k q e))) a
closed_agrees seats online k (Some b) is a = record {
  seated = λ id q e. by_id_key id (id_of b.name)
      (λ s. absurd (none-some q (sym (ap (λ x. get (remove online (id_of b.name)) x) s ∙ gone_here nat_list_cmp_total ids_alike online (id_of b.name)) ∙ e)))
      (λ n. let before = a.seated id q (sym (gone_apart nat_list_cmp_total ids_alike online (id_of b.name) id n) ∙ e) in by_conn_key q k
      (λ s. apart nat_list_cmp_total ids_alike id (id_of b.name) n (same_Some id (id_of b.name) (sym before ∙ ap (λ x. id_in seats x) s ∙ has)))
      (λ m. ap seat_id (gone_apart nat_cmp_total nat_cmp-IsAntisymmetric seats k q m) ∙ before));
  found = λ id q e. by_conn_key q k
      (λ s. absurd (none-some id (sym (ap (λ x. id_in (remove seats k) x) s ∙ ap seat_id (gone_here nat_cmp_total nat_cmp-IsAntisymmetric seats k)) ∙ e)))
      (λ m. let before = a.found id q (sym (ap seat_id (gone_apart nat_cmp_total nat_cmp-IsAntisymmetric seats k q m)) ∙ e) in by_id_key id (id_of b.name)
      (λ s. apart nat_cmp_total nat_cmp-IsAntisymmetric q k m (same_Some q k (sym before ∙ ap (λ x. get online x) s ∙ a.found (id_of b.name) k has)))
      (λ n. gone_apart nat_list_cmp_total ids_alike online (id_of b.name) id n ∙ before));
}
  where
    has : id_in seats k ≡ Some (id_of b.name)
    has = ap (option_map (λ b. id_of b.name)) is

pub named_agrees : (seats : Seats) (online : ById ℕ) (k : ℕ) (b : Badge) → get seats k ≡ Some None → get online (id_of b.name) ≡ None → Agrees (record { seats = seats; online = online }) → Agrees (record { seats = insert seats k (Some b); online = insert online (id_of b.name) k })
named_agrees seats online k b nameless free a = record {
  seated = λ id q e. by_id_key id (id_of b.name)
      (λ s. let is_k = same_Some k q (sym (ap (λ x. get (insert online (id_of b.name) k) x) s ∙ online_here) ∙ e) in
      ap (λ x. id_in (insert seats k (Some b)) x) (sym is_k) ∙ has ∙ ap (λ x. Some x) (sym s))
      (λ n. let before = a.seated id q (sym (put_apart nat_list_cmp_total ids_alike online (id_of b.name) k id n) ∙ e) in by_conn_key q k
      (λ s. absurd (none-some id (sym (ap (λ x. id_in seats x) s ∙ ap seat_id nameless) ∙ before)))
      (λ m. ap seat_id (put_apart nat_cmp_total nat_cmp-IsAntisymmetric seats k (Some b) q m) ∙ before));
  found = λ id q e. by_conn_key q k
      (λ s. let is_id = same_Some (id_of b.name) id (sym (ap (λ x. id_in (insert seats k (Some b)) x) s ∙ has) ∙ e) in
      ap (λ x. get (insert online (id_of b.name) k) x) (sym is_id) ∙ online_here ∙ ap (λ x. Some x) (sym s))
      (λ m. let before = a.found id q (sym (ap seat_id (put_apart nat_cmp_total nat_cmp-IsAntisymmetric seats k (Some b) q m)) ∙ e) in by_id_key id (id_of b.name)
      (λ s. absurd (none-some q (sym (ap (λ x. get online x) s ∙ free) ∙ before)))
      (λ n. put_apart nat_list_cmp_total ids_alike online (id_of b.name) k id n ∙ before));
}
  where
    has : id_in (insert seats k (Some b)) k ≡ Some (id_of b.name)
    has = ap seat_id (put_here nat_cmp_total nat_cmp-IsAntisymmetric seats k (Some b))

    online_here : get (insert online (id_of b.name) k) (id_of b.name) ≡ Some k
    online_here = put_here nat_list_cmp_total ids_alike online (id_of b.name) k
