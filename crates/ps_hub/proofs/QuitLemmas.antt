-- The Quits in the rooms of a list, one after the other.
use Rattle.std.proofs.Common.{◌≡◌, ◌⊎◌, ℕ, zero, suc, ◌+◌, ◌<◌, List, [], ◌∷◌, ◌++◌, length, take, drop, set, Some, Result, Ok, Err, refl, sym, ap, ◌∙◌, subst, inl, inr, arith}
use Rattle.std.specs.Prelude.{slice_get, slice_set, IfErr, OnOk, OnErr}
use Rattle.std.specs.Result.{result_and}
use Rattle.ps_hub.specs.Passes.{RoomPass}
use Rattle.ps_hub.specs.Calls.{IsShutOut, IsShutOutAmong}
use Rattle.ps_hub.specs.declared.out.QuitFault.{QuitFault}
use Rattle.ps_hub.specs.declared.out.QuitFault.TheVariants as quit_faults
use Rattle.std.specs.List.{AllZip}
use Rattle.std.proofs.lemmas.List.{take-append-drop, drop_at}
use Rattle.std.proofs.lemmas.List.Elements.{length_all_zip}
use Rattle.ps_hub.proofs.PassListLemmas.{parted, get_seam, get_set, set_seam}

module _ {A : Type 0} (R : A → A → Type 0) where
  pub zip_append : (xs ys us vs : List A) → AllZip R xs ys → AllZip R us vs → AllZip R (xs ++ us) (ys ++ vs)
  zip_append [] [] us vs a b = b
  zip_append [] (y ∷ ys) us vs a b = absurd a
  zip_append (x ∷ xs) [] us vs a b = absurd a
  zip_append (x ∷ xs) (y ∷ ys) us vs a b = (a.0, zip_append xs ys us vs a.1 b)

  pub zip_self : ((x : A) → R x x) → (xs : List A) → AllZip R xs xs
  zip_self self [] = tt
  zip_self self (x ∷ xs) = (self x, zip_self self xs)

  -- a list of which a part is done: what stands behind is as it was
  pub record IsDoneTo (i : ℕ) (old now : List A) : Type 0 where
    pub done : AllZip R (take i old) (take i now)
    pub rest : drop i now ≡ drop i old

  -- the parts round a place that is next
  pub record Parts (i : ℕ) (old now : List A) (h : A) : Type 0 where
    pub front : List A
    pub front_now : List A
    pub back : List A
    pub count : length front ≡ i
    pub count_now : length front_now ≡ i
    pub was : old ≡ front ++ h ∷ back
    pub is : now ≡ front_now ++ h ∷ back
    pub done : AllZip R front front_now

  pub parts_of : (i : ℕ) (old now : List A) (h : A) → slice_get now i ≡ Some h → IsDoneTo i old now → Parts i old now h
  parts_of i old now h at d =
      let parts = parted now i h at in
      let tail : drop i now ≡ h ∷ drop (suc i) now = ap (λ (l : List A). drop i l) parts.0 ∙ drop_at (take i now) (h ∷ drop (suc i) now) i parts.1 in
      record {
        front = take i old;
        front_now = take i now;
        back = drop (suc i) now;
        count = length_all_zip R (take i old) (take i now) d.done ∙ parts.1;
        count_now = parts.1;
        was = sym (take-append-drop i old) ∙ ap (λ (l : List A). take i old ++ l) (sym d.rest ∙ tail);
        is = parts.0;
        done = d.done;
      }

take_seam : {A : Type 0} (xs : List A) (x : A) (ys : List A) (i : ℕ) → length xs ≡ i → take (suc i) (xs ++ x ∷ ys) ≡ xs ++ x ∷ []
take_seam [] x ys zero e = refl
take_seam [] x ys (suc i) e = absurd (omega arith)
take_seam (z ∷ xs) x ys zero e = absurd (omega arith)
take_seam (z ∷ xs) x ys (suc i) e = ap (λ l. z ∷ l) (take_seam xs x ys i (omega arith))

drop_seam : {A : Type 0} (xs : List A) (x : A) (ys : List A) (i : ℕ) → length xs ≡ i → drop (suc i) (xs ++ x ∷ ys) ≡ ys
drop_seam [] x ys zero e = refl
drop_seam [] x ys (suc i) e = absurd (omega arith)
drop_seam (z ∷ xs) x ys zero e = absurd (omega arith)
drop_seam (z ∷ xs) x ys (suc i) e = drop_seam xs x ys i (omega arith)

module _ {A : Type 0} (R : A → A → Type 0) where
  -- one more is done
  pub done_next : (i : ℕ) (old now new : List A) (h k : A) → slice_get now i ≡ Some h → new ≡ slice_set now i k → R h k → IsDoneTo R i old now → IsDoneTo R (i + 1) old new
  done_next i old now new h k at set here d =
      let p : Parts R i old now h = parts_of R i old now h at d in
      let new_is : new ≡ p.front_now ++ k ∷ p.back = set ∙ ap (λ (l : List A). slice_set l i k) p.is ∙ set_seam p.front_now h k p.back i p.count_now in
      let next : suc i ≡ i + 1 = omega arith in
      subst (λ (n : ℕ). IsDoneTo R n old new) next (record {
        done = subst (λ (l : List A). AllZip R (take (suc i) l) (take (suc i) new)) (sym p.was) (subst (λ (l : List A). AllZip R (take (suc i) (p.front ++ h ∷ p.back)) (take (suc i) l)) (sym new_is)
            (subst (λ (l : List A). AllZip R l (take (suc i) (p.front_now ++ k ∷ p.back))) (sym (take_seam p.front h p.back i p.count))
            (subst (λ (l : List A). AllZip R (p.front ++ h ∷ []) l) (sym (take_seam p.front_now k p.back i p.count_now)) (zip_append R p.front p.front_now (h ∷ []) (k ∷ []) p.done (here, tt)))));
        rest = ap (λ (l : List A). drop (suc i) l) new_is ∙ drop_seam p.front_now k p.back i p.count_now ∙ sym (ap (λ (l : List A). drop (suc i) l) p.was ∙ drop_seam p.front h p.back i p.count);
      })

module _ {A : Type 0} (R S : A → A → Type 0) where
  pub zip_weaker : ((x y : A) → R x y → S x y) → (xs ys : List A) → AllZip R xs ys → AllZip S xs ys
  zip_weaker weaker [] [] a = a
  zip_weaker weaker [] (y ∷ ys) a = absurd a
  zip_weaker weaker (x ∷ xs) [] a = absurd a
  zip_weaker weaker (x ∷ xs) (y ∷ ys) a = (weaker x y a.0, zip_weaker weaker xs ys a.1)

-- what is next was there at first
pub done_there : {A : Type 0} (R : A → A → Type 0) (i : ℕ) (old now : List A) (h : A) → slice_get now i ≡ Some h → IsDoneTo R i old now → slice_get old i ≡ Some h
done_there {A} R i old now h at d =
    let p : Parts R i old now h = parts_of R i old now h at d in
    subst (λ (l : List A). slice_get l i ≡ Some h) (sym p.was) (get_seam p.front h p.back i p.count)

-- a write behind a place leaves it
get_before : {A : Type 0} (xs : List A) (i j : ℕ) (y : A) → j < i → slice_get (slice_set xs i y) j ≡ slice_get xs j
get_before [] i j y lt = refl
get_before (x ∷ xs) zero j y lt = absurd (omega arith)
get_before (x ∷ xs) (suc i) zero y lt = refl
get_before (x ∷ xs) (suc i) (suc j) y lt = get_before xs i j y (omega arith)

-- ---- why the first Quit that failed did

-- one of the first so many places is shut, if that is why
abbrev pub IsShutOutBefore : ℕ → ℕ → List RoomPass → QuitFault → Type 0
IsShutOutBefore n conn rooms quit_faults.Taken = (i : ℕ) × (i < n) × (k : RoomPass) × (slice_get rooms i ≡ Some k) × IsShutOut conn k quit_faults.Taken
IsShutOutBefore n conn rooms quit_faults.NoMemory = Unit {0}

shut_before : (n conn : ℕ) (rooms : List RoomPass) (fault : QuitFault) → IsShutOutBefore n conn rooms fault → IsShutOutAmong conn rooms fault
shut_before n conn rooms quit_faults.Taken s = (s.0, s.2, s.3, s.4)
shut_before n conn rooms quit_faults.NoMemory s = tt

pub shut_at_last : {T : Type 0} (n conn : ℕ) (rooms : List RoomPass) (done : Result T QuitFault) → IfErr done (IsShutOutBefore n conn rooms) → IfErr done (IsShutOutAmong conn rooms)
shut_at_last n conn rooms (Ok u) s = tt
shut_at_last n conn rooms (Err fault) s = shut_before n conn rooms fault s

still_shut : (n conn : ℕ) (rooms : List RoomPass) (k : RoomPass) (fault : QuitFault) → IsShutOutBefore n conn rooms fault → IsShutOutBefore (n + 1) conn (slice_set rooms n k) fault
still_shut n conn rooms k quit_faults.Taken s = let lt : s.0 < n = s.1 in (s.0, omega arith, s.2, get_before rooms n s.0 k lt ∙ s.3, s.4)
still_shut n conn rooms k quit_faults.NoMemory s = tt

now_shut : (n conn : ℕ) (rooms : List RoomPass) (h k : RoomPass) (fault : QuitFault) → slice_get rooms n ≡ Some h → IsShutOut conn k fault → IsShutOutBefore (n + 1) conn (slice_set rooms n k) fault
now_shut n conn rooms h k quit_faults.Taken there out = (n, omega arith, k, get_set rooms n h k there, out)
now_shut n conn rooms h k quit_faults.NoMemory there out = tt

-- one more place
pub shut_next : {T : Type 0} (n conn : ℕ) (rooms : List RoomPass) (h k : RoomPass) (done made : Result T QuitFault) → slice_get rooms n ≡ Some h → IfErr done (IsShutOutBefore n conn rooms) → IfErr made (IsShutOut conn k) → IfErr (result_and done made) (IsShutOutBefore (n + 1) conn (slice_set rooms n k))
shut_next n conn rooms h k (Ok u) (Ok v) there before now = tt
shut_next n conn rooms h k (Ok u) (Err fault) there before now = now_shut n conn rooms h k fault there now
shut_next n conn rooms h k (Err fault) made there before now = still_shut n conn rooms k fault before

-- all Quits so far were made, and one more
pub done_if_ok : {A T : Type 0} (R : A → A → Type 0) (i : ℕ) (old now new : List A) (h k : A) (done made : Result T QuitFault) → slice_get now i ≡ Some h → new ≡ slice_set now i k → OnOk made (R h k) → OnOk done (IsDoneTo R i old now) → OnOk (result_and done made) (IsDoneTo R (i + 1) old new)
done_if_ok R i old now new h k (Ok u) (Ok v) at set here before = done_next R i old now new h k at set here before
done_if_ok R i old now new h k (Ok u) (Err fault) at set here before = tt
done_if_ok R i old now new h k (Err fault) made at set here before = tt

pub one_of : {A B T : Type 0} (R S : A → B → Type 0) (h : A) (k : B) (made : Result T QuitFault) → OnOk made (R h k) → OnErr made (S h k) → R h k ⊎ S h k
one_of R S h k (Ok u) ok err = inl ok
one_of R S h k (Err fault) ok err = inr err
