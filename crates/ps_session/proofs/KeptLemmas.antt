-- Counts that are settled, with the last that rose.
use Rattle.std.proofs.Common.{arith, ◌≡◌, ◌<◌, ◌+◌, ◌-◌, ℕ, zero, suc, List, [], Bool, true, false, cond, Option, Some, None, option_map, refl, sym, ap, subst, ◌∙◌, unwrap_or}
use Rattle.std.specs.Ordering.{nat_cmp}
use Rattle.std.specs.Str.{bytes_eq}
use Rattle.std.specs.Cmp.Lexicographic.{slice_cmp, nat_list_cmp_total}
use Rattle.std.specs.FinMap.{empty, get, insert, remove, get-empty, get-insert, get-remove, same_map, slice_cmp-IsAntisymmetric, nat_cmp-IsAntisymmetric}
use Rattle.std.proofs.lemmas.Slice.Eq.{bytes_eq-Decides}
use Rattle.ps_base.specs.ById.{ById}
use Rattle.ps_base.proofs.ByIdLemmas.{turned}
use Rattle.ps_session.specs.Counts.{count_in, with_left, lowered, joined_left, without_last}
use Rattle.ps_session.specs.Kept.{counts_of, last_id, risen_to, with_risen, joined_without, some_texts, IsRisen, IsLast, HasNoZero}
use Rattle.ps_session.specs.declared.room_counts.Risen.{Risen}

-- a count in the map with one more, by the texts of the ids
pub get_put : (m : ById ℕ) (id : List ℕ) (n : ℕ) (q : List ℕ) → get (insert m id n) q ≡ cond (bytes_eq id q) (Some n) (get m q)
get_put m id n q = get-insert nat_list_cmp_total m id n q ∙ ap (λ (b : Bool). cond b (Some n) (get m q)) (sym (turned id q))

pub no_zero-empty : HasNoZero empty
no_zero-empty q e =
    let f : ◌≡◌ {A = ℕ} 1 0 = ap (λ (o : Option ℕ). unwrap_or o 1) (sym (get-empty (slice_cmp nat_cmp) q) ∙ e) in
    omega (arith, f)

pub no_zero-put : (m : ById ℕ) (id : List ℕ) (n : ℕ) → 0 < n → HasNoZero m → HasNoZero (insert m id n)
no_zero-put m id n some none q e = by_test (bytes_eq id q) (sym (get_put m id n q) ∙ e)
  where
    by_test : (b : Bool) → cond b (Some n) (get m q) ≡ Some 0 → ⊥
    by_test true e =
        let f : n ≡ 0 = ap (λ (o : Option ℕ). unwrap_or o 1) e in
        omega (arith, f, some)
    by_test false e = none q e

pub no_zero-risen : (m : ById ℕ) (last : Option Risen) → HasNoZero m → IsLast m last → HasNoZero (with_risen last m)
no_zero-risen m None none is = none
no_zero-risen m (Some risen) none is = no_zero-put m risen.id risen.count is.some none

with_text : (o : Option ℕ) → (o ≡ Some 0 → ⊥) → o ≡ some_texts (unwrap_or o 0)
with_text None none = refl
with_text (Some zero) none = absurd (none refl)
with_text (Some (suc n)) none = refl

-- a count that rises in a map without zeros
pub rises : (m : ById ℕ) (id : List ℕ) (count : ℕ) → HasNoZero m → count ≡ unwrap_or (get m id) 0 + 1 → IsRisen m record { id = id; count = count }
rises m id count none e = record {
  before = with_text (get m id) (none id) ∙ ap some_texts (omega (arith, e));
  some = omega (arith, e);
}

-- ---- taking back

same : (m n : ById ℕ) → ((q : List ℕ) → get m q ≡ get n q) → m ≡ n
same m n is = same_map nat_list_cmp_total (slice_cmp-IsAntisymmetric nat_cmp-IsAntisymmetric) m n is

-- what the map gives at an id is put there again, over a count that was put there: the map is as it was
put_back : (m : ById ℕ) (id q : List ℕ) (n : ℕ) (o : Option ℕ) → get m id ≡ o → cond (bytes_eq id q) o (cond (bytes_eq id q) (Some n) (get m q)) ≡ get m q
put_back m id q n o e = by_test (bytes_eq id q) refl
  where
    by_test : (b : Bool) → bytes_eq id q ≡ b → cond b o (cond b (Some n) (get m q)) ≡ get m q
    by_test true t = sym e ∙ ap (get m) ((bytes_eq-Decides id q).0 t)
    by_test false t = refl

pub taken_back : (m : ById ℕ) (id : List ℕ) (n k : ℕ) → get m id ≡ some_texts k → with_left k id (insert m id n) ≡ m
taken_back m id n zero e = same (remove (insert m id n) id) m (λ q. get-remove nat_list_cmp_total (insert m id n) id q ∙ ap (λ (b : Bool). cond b None (get (insert m id n) q)) (sym (turned id q)) ∙ ap (cond (bytes_eq id q) None) (get_put m id n q) ∙ put_back m id q n None e)
taken_back m id n (suc k) e = same (insert (insert m id n) id (suc k)) m (λ q. get_put (insert m id n) id (suc k) q ∙ ap (cond (bytes_eq id q) (Some (suc k))) (get_put m id n q) ∙ put_back m id q n (Some (suc k)) e)

pub count_in-put : (m : ById ℕ) (id : List ℕ) (n : ℕ) → count_in id (insert m id n) ≡ n
count_in-put m id n = ap (λ (o : Option ℕ). unwrap_or o 0) (get_put m id n id ∙ ap (λ (b : Bool). cond b (Some n) (get m id)) ((bytes_eq-Decides id id).1 refl))

-- the text that was counted last is taken back
pub lowered-risen : (m : ById ℕ) (risen : Risen) → IsRisen m risen → lowered risen.id (insert m risen.id risen.count) ≡ m
lowered-risen m risen is =
    ap (λ (n : ℕ). with_left (n - 1) risen.id (insert m risen.id risen.count)) (count_in-put m risen.id risen.count) ∙ taken_back m risen.id risen.count (risen.count - 1) is.before

pub without_risen : (m : ById ℕ) (joined : ℕ) (last : Option Risen) → IsLast m last → record { rooms = m; joined = joined_without last joined; last = None } ≡ without_last (option_map (λ risen. risen.id) last) (counts_of m joined last)
without_risen m joined None is = refl
without_risen m joined (Some risen) is =
    ap (λ (rooms : ById ℕ). counts_of rooms (joined_left (risen.count - 1) joined) None) (sym (lowered-risen m risen is)) ∙ ap (λ (n : ℕ). counts_of (lowered risen.id (insert m risen.id risen.count)) (joined_left (n - 1) joined) None) (sym (count_in-put m risen.id risen.count))

-- a lookup in the map with the count that rose last
pub get_risen : (m : ById ℕ) (last : Option Risen) (risen : Risen) (id : List ℕ) (b : Bool) → last ≡ Some risen → bytes_eq risen.id id ≡ b → get (with_risen last m) id ≡ cond b (Some risen.count) (get m id)
get_risen m last risen id b e t =
    ap (λ (l : Option Risen). get (with_risen l m) id) e ∙ get_put m risen.id risen.count id ∙ ap (λ (b : Bool). cond b (Some risen.count) (get m id)) t

-- the count that rose last rises again
pub raised_last : (m : ById ℕ) (last new : Option Risen) (id : List ℕ) (count : ℕ) → last_id last ≡ Some id → new ≡ risen_to count last → IsRisen m record { id = id; count = count } → IsLast m new
raised_last m None new id count of is risen = absurd (let wrong : None ≡ Some id = of in cc)
raised_last m (Some old) new id count of is risen =
    subst (IsLast m) (sym (is ∙ ap (λ (o : Option (List ℕ)). Some (record { id = unwrap_or o []; count = count })) of)) risen
