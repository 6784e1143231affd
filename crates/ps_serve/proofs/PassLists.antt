-- A list of passes of places, of which one became another or was added.
use Rattle.std.proofs.Common.{◌≡◌, ◌≢◌, ◌⊎◌, ℕ, ◌<◌, List, [], ◌∷◌, ◌++◌, refl, sym, ◌∙◌, subst, inl, inr, ⊎_elim, arith, All, Contains, true≢false}
use Rattle.std.specs.Prelude.{Option, Some, None, IsSome}
use Rattle.std.proofs.lemmas.List.Elements.{All-nil, All-cons, All-head, All-tail, All-append, Contains-append_left, Contains-append_right, Contains-append_cases, Contains-push, Contains-push_cases}
use mathlib.Core.List.{IsPrefix}
use Rattle.rules_start.specs.declared.start.Start.{Start}
use Rattle.ps_histlock.proofs.Lists.{prefix_self}
use Rattle.ps_hub.specs.Hubs.{Hub}
use Rattle.ps_hub.specs.Passes.{RoomPass, ButFor, IsNewPass}
use Rattle.ps_hub.specs.declared.passes.Passes.{Passes}
use Rattle.ps_hub.proofs.PassListLemmas.{all_left, all_right, all_at, all_add}
use Rattle.ps_serve.specs.Sittings.{AreApart, IsBegun, IsFrom, IsFromBy}
use Rattle.ps_serve.specs.Sendings.{Sending}
use Rattle.ps_serve.proofs.Prefixes.{prefix_trans}

-- ---- all of a list

module _ {A : Type 0} where
  pub all_but : (P : A → Type 0) (xs : List A) (x : A) (ys : List A) → All P (xs ++ x ∷ ys) → All P (xs ++ ys)
  all_but P xs x ys all = All-append P xs ys (all_left P xs (x ∷ ys) all) (All-tail P x ys (all_right P xs (x ∷ ys) all))

  pub contains_none : {P : Type 0} → (x : A) → Contains [] x → P
  contains_none x c = absurd (let lt : c.0 < 0 = c.1 in omega arith)

  pub contains_cases : (x : A) (ys : List A) (y : A) → Contains (x ∷ ys) y → (x ≡ y) ⊎ Contains ys y
  contains_cases x ys y c = ⊎_elim
      (λ (one : Contains (x ∷ []) y). ⊎_elim (λ (no_one : Contains [] y). contains_none y no_one) (λ (is : x ≡ y). inl is) (Contains-push_cases [] x y one))
      (λ (more : Contains ys y). inr more)
      (Contains-append_cases (x ∷ []) ys y c)

  pub contains_at : (xs : List A) (x : A) (ys : List A) → Contains (xs ++ x ∷ ys) x
  contains_at xs x ys = Contains-append_right xs (x ∷ ys) x (Contains-append_left (x ∷ []) ys x (Contains-push [] x))

  -- another than the one that stands between
  pub contains_add : (xs : List A) (x : A) (ys : List A) (y : A) → Contains (xs ++ ys) y → Contains (xs ++ x ∷ ys) y
  contains_add xs x ys y c = ⊎_elim
      (λ (front : Contains xs y). Contains-append_left xs (x ∷ ys) y front)
      (λ (back : Contains ys y). Contains-append_right xs (x ∷ ys) y (Contains-append_right (x ∷ []) ys y back))
      (Contains-append_cases xs ys y c)

  pub contains_but : (xs : List A) (x : A) (ys : List A) (y : A) → Contains (xs ++ x ∷ ys) y → (x ≡ y) ⊎ Contains (xs ++ ys) y
  contains_but xs x ys y c = ⊎_elim
      (λ (front : Contains xs y). inr (Contains-append_left xs ys y front))
      (λ (rest : Contains (x ∷ ys) y). ⊎_elim (λ (is : x ≡ y). inl is) (λ (back : Contains ys y). inr (Contains-append_right xs ys y back)) (contains_cases x ys y rest))
      (Contains-append_cases xs (x ∷ ys) y c)

-- ---- passes of places apart

-- no pass is of this place
abbrev pub Lack : ℕ → List RoomPass → Type 0
Lack number rooms = All (λ (k : RoomPass). k.number ≢ number) rooms

pub apart_left : (xs : List RoomPass) (h : RoomPass) (ys : List RoomPass) → AreApart (xs ++ h ∷ ys) → Lack h.number xs
apart_left [] h ys a = All-nil _
apart_left (x ∷ xs) h ys a = All-cons (λ (o : RoomPass). o.number ≢ h.number) x xs (λ e. all_at (λ (other : RoomPass). other.number ≢ x.number) xs h ys a.0 (sym e)) (apart_left xs h ys a.1)

pub apart_right : (xs : List RoomPass) (h : RoomPass) (ys : List RoomPass) → AreApart (xs ++ h ∷ ys) → Lack h.number ys
apart_right [] h ys a = a.0
apart_right (x ∷ xs) h ys a = apart_right xs h ys a.1

pub apart_but : (xs : List RoomPass) (h : RoomPass) (ys : List RoomPass) → AreApart (xs ++ h ∷ ys) → AreApart (xs ++ ys)
apart_but [] h ys a = a.1
apart_but (x ∷ xs) h ys a = (all_but (λ (other : RoomPass). other.number ≢ x.number) xs h ys a.0, apart_but xs h ys a.1)

pub apart_add : (xs : List RoomPass) (k : RoomPass) (ys : List RoomPass) → Lack k.number (xs ++ ys) → AreApart (xs ++ ys) → AreApart (xs ++ k ∷ ys)
apart_add [] k ys off a = (off, a)
apart_add (x ∷ xs) k ys off a = (all_add (λ (other : RoomPass). other.number ≢ x.number) xs k ys (λ e. All-head (λ (other : RoomPass). other.number ≢ k.number) x (xs ++ ys) off (sym e)) a.0, apart_add xs k ys (All-tail (λ (other : RoomPass). other.number ≢ k.number) x (xs ++ ys) off) a.1)

-- ---- what a call did to one pass

-- All but the pass of one place, before and after
pub record IsBeside (hub : Hub) (conn : ℕ) (old : List RoomPass) (h k : RoomPass) (new : List RoomPass) : Type 0 where
  pub xs : List RoomPass
  pub ys : List RoomPass
  pub off : Lack h.number (xs ++ ys)
  pub apart : AreApart (xs ++ ys)
  pub was : (old ≡ xs ++ h ∷ ys) ⊎ ((old ≡ xs ++ ys) × IsNewPass hub conn h.number h)
  pub is : new ≡ xs ++ k ∷ ys
  pub place : k.number ≡ h.number

pub beside : (hub : Hub) (old : Passes) (h k : RoomPass) (new : Passes) → AreApart old.rooms.items → ButFor hub old h k new → IsBeside hub old.conn old.rooms.items h k new.rooms.items
beside hub old h k new apart but = ⊎_elim
    (λ (e : old.rooms.items ≡ but.before ++ h ∷ but.behind).
    let a : AreApart (but.before ++ h ∷ but.behind) = subst AreApart e apart in
    let r : IsBeside hub old.conn old.rooms.items h k new.rooms.items = record {
      xs = but.before;
      ys = but.behind;
      off = All-append (λ (o : RoomPass). o.number ≢ h.number) but.before but.behind (apart_left but.before h but.behind a) (apart_right but.before h but.behind a);
      apart = apart_but but.before h but.behind a;
      was = inl e;
      is = but.is;
      place = but.same_place;
    } in r)
    (λ (n : (old.rooms.items ≡ but.before ++ but.behind) × Lack h.number old.rooms.items × IsNewPass hub old.conn h.number h).
    let r : IsBeside hub old.conn old.rooms.items h k new.rooms.items = record {
      xs = but.before;
      ys = but.behind;
      off = subst (Lack h.number) n.0 n.1;
      apart = subst AreApart n.0 apart;
      was = inr (n.0, n.2);
      is = but.is;
      place = but.same_place;
    } in r)
    but.was

module _ (hub : Hub) (conn : ℕ) (old : List RoomPass) (h k : RoomPass) (new : List RoomPass) (b : IsBeside hub conn old h k new) where
  -- what is true of each other pass
  pub others_all : (P : RoomPass → Type 0) → All P old → All P (b.xs ++ b.ys)
  others_all P all = ⊎_elim
      (λ (e : old ≡ b.xs ++ h ∷ b.ys). all_but P b.xs h b.ys (subst (All P) e all))
      (λ (n : (old ≡ b.xs ++ b.ys) × IsNewPass hub conn h.number h). subst (All P) n.0 all)
      b.was

  pub new_all : (P Q : RoomPass → Type 0) → All P old → ((o : RoomPass) → o.number ≢ h.number → P o → Q o) → Q k → All Q new
  new_all P Q all step q = subst (All Q) (sym b.is) (all_add Q b.xs k b.ys q (λ i d lt. step _ (b.off i d lt) (others_all P all i d lt)))

  -- what is true of the pass before
  pub before_is : (P : RoomPass → Type 0) → All P old → (IsNewPass hub conn h.number h → Lack h.number old → P h) → P h
  before_is P all made = ⊎_elim
      (λ (e : old ≡ b.xs ++ h ∷ b.ys). all_at P b.xs h b.ys (subst (All P) e all))
      (λ (n : (old ≡ b.xs ++ b.ys) × IsNewPass hub conn h.number h). made n.1 (subst (Lack h.number) (sym n.0) b.off))
      b.was

  pub new_apart : AreApart new
  new_apart = subst AreApart (sym b.is) (apart_add b.xs k b.ys (subst (λ n. Lack n (b.xs ++ b.ys)) (sym b.place) b.off) b.apart)

  -- no pass is of another place than before
  pub old_lack : (number : ℕ) → Lack number new → Lack number old × (h.number ≢ number)
  old_lack number lack =
      let all : Lack number (b.xs ++ k ∷ b.ys) = subst (Lack number) b.is lack in
      let not_h : h.number ≢ number = (λ e. all_at (λ (o : RoomPass). o.number ≢ number) b.xs k b.ys all (b.place ∙ e)) in
      let rest : Lack number (b.xs ++ b.ys) = all_but (λ (o : RoomPass). o.number ≢ number) b.xs k b.ys all in (
        ⊎_elim
            (λ (e : old ≡ b.xs ++ h ∷ b.ys). subst (Lack number) (sym e) (all_add (λ (o : RoomPass). o.number ≢ number) b.xs h b.ys not_h rest))
            (λ (n : (old ≡ b.xs ++ b.ys) × IsNewPass hub conn h.number h). subst (Lack number) (sym n.0) rest)
            b.was,
        not_h,
      )

  pub has_new : Contains new k
  has_new = subst (λ rooms. Contains rooms k) (sym b.is) (contains_at b.xs k b.ys)

-- ---- a list that grows

-- What no call takes from the pass of a place: its place and number, the id by which it is held, and what it has seen
pub record IsKin (h k : RoomPass) : Type 0 where
  pub place : k.number ≡ h.number
  pub id : (id : List ℕ) → h.id ≡ Some id → k.id ≡ Some id
  pub number : k.pass.1.number ≡ h.pass.1.number
  pub seen : IsPrefix h.pass.1.seen k.pass.1.seen

pub kin_self : (k : RoomPass) → IsKin k k
kin_self k = record { place = refl; id = λ id e. e; number = refl; seen = prefix_self k.pass.1.seen }

pub kin_trans : (h j k : RoomPass) → IsKin h j → IsKin j k → IsKin h k
kin_trans h j k a b = record { place = b.place ∙ a.place; id = λ id e. b.id id (a.id id e); number = b.number ∙ a.number; seen = prefix_trans _ _ _ a.seen b.seen }

abbrev pub Grows : List RoomPass → List RoomPass → Type 0
Grows old new = (o : RoomPass) → Contains old o → (k : RoomPass) × Contains new k × IsKin o k

pub grows_self : (rooms : List RoomPass) → Grows rooms rooms
grows_self rooms o c = (o, c, kin_self o)

pub grows_trans : (old mid new : List RoomPass) → Grows old mid → Grows mid new → Grows old new
grows_trans old mid new a b o c =
    let j = a o c in
    let k = b j.0 j.1 in
    (k.0, k.1, kin_trans o j.0 k.0 j.2 k.2)

pub grows_beside : (hub : Hub) (conn : ℕ) (old : List RoomPass) (h k : RoomPass) (new : List RoomPass) → IsBeside hub conn old h k new → IsKin h k → Grows old new
grows_beside hub conn old h k new b kin o c = ⊎_elim
    (λ (e : old ≡ b.xs ++ h ∷ b.ys). ⊎_elim
    (λ (is : h ≡ o). let r : (j : RoomPass) × Contains new j × IsKin o j = (k, has_new hub conn old h k new b, subst (λ (x : RoomPass). IsKin x k) is kin) in r)
    (λ (other : Contains (b.xs ++ b.ys) o). stays other)
    (contains_but b.xs h b.ys o (subst (λ rooms. Contains rooms o) e c)))
    (λ (n : (old ≡ b.xs ++ b.ys) × IsNewPass hub conn h.number h). stays (subst (λ rooms. Contains rooms o) n.0 c))
    b.was
  where
    stays : Contains (b.xs ++ b.ys) o → (j : RoomPass) × Contains new j × IsKin o j
    stays other = (o, subst (λ rooms. Contains rooms o) (sym b.is) (contains_add b.xs k b.ys o other), kin_self o)

pub begun_grows : (old new : List RoomPass) → Grows old new → (start : Start) → IsBegun old start → IsBegun new start
begun_grows old new g start is = (let k = g is.0 is.1 in (k.0, k.1, k.2.place ∙ is.2))

pub id_stays : (h k : RoomPass) → IsKin h k → IsSome h.id → IsSome k.id
id_stays h k kin some = by_id h.id refl some
  where
    by_id : (o : Option (List ℕ)) → h.id ≡ o → IsSome o → IsSome k.id
    by_id None e some = absurd (true≢false (sym some))
    by_id (Some id) e some = subst IsSome (sym (kin.id id e)) refl

pub from_grows : (old new : List RoomPass) → Grows old new → (s : Sending) → IsFrom old s → IsFrom new s
from_grows old new g s is = by_place s.place is
  where
    by_place : (place : Option ℕ) → IsFromBy place old → IsFromBy place new
    by_place None is = tt
    by_place (Some number) is = (let k = g is.0 is.1 in (k.0, k.1, k.2.place ∙ is.2, id_stays is.0 k.0 k.2 is.3))
