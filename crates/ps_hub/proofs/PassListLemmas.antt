-- The list of passes, when one pass becomes another or is added.
use Rattle.std.proofs.Common.{◌≡◌, ◌≢◌, ℕ, zero, suc, ◌<◌, ◌≤◌, List, [], ◌∷◌, ◌++◌, length, take, drop, get_or, Some, Result, Ok, Err, refl, sym, ap, ◌∙◌, subst, inl, inr, ⊎_elim, arith}
use Rattle.std.specs.Prelude.{slice_get, slice_set, All, IfOk, OnErr}
use Rattle.std.proofs.lemmas.Bool.Decides.{nat_tests}
use Rattle.std.proofs.lemmas.List.{take_at, take_all, drop_at, drop_all, append-nil}
use Rattle.std.proofs.lemmas.List.Elements.{All-nil, All-append, All-cons, All-head, All-tail, All-take, All-drop, All-set}
use Rattle.std.proofs.lemmas.Option.{none-some, same_Some, get_or_from_slice_get}
use Rattle.ps_lines.specs.declared.command.HallCmd.TheVariants.{Open}
use Rattle.ps_hall.specs.declared.entry.HallEntry.{HallEntry}
use Rattle.ps_histlock.specs.declared.view.Entry.{Entry}
use Rattle.ps_histlock.specs.Signs.{Speaks}
use Rattle.ps_histlock.proofs.SignLemmas.{speaks_first}
use Rattle.server_places.specs.Halls.{hall_signer}
use Rattle.ps_hub.specs.Hubs.{Hub}
use Rattle.ps_hub.specs.Passes.{HallPass, RoomPass, IsHallPass, IsRoomPass, numbers, IsRising, AreOf, IsAsBefore, IsGap, IsAdded, IsNewPass, Keeps, ButFor}
use Rattle.ps_hub.specs.declared.passes.Passes.{Passes}
use Rattle.ps_hub.proofs.PassLemmas.{room_new}

-- ---- places of a list

-- a list round what stands at a place
pub parted : {A : Type 0} (xs : List A) (i : ℕ) (x : A) → slice_get xs i ≡ Some x → (xs ≡ take i xs ++ x ∷ drop (suc i) xs) × (length (take i xs) ≡ i)
parted [] i x e = absurd (none-some x e)
parted (y ∷ xs) zero x e = (ap (λ z. z ∷ xs) (same_Some y x e), refl)
parted (y ∷ xs) (suc i) x e = (ap (λ zs. y ∷ zs) (parted xs i x e).0, ap suc (parted xs i x e).1)

pub get_seam : {A : Type 0} (xs : List A) (x : A) (ys : List A) (i : ℕ) → length xs ≡ i → slice_get (xs ++ x ∷ ys) i ≡ Some x
get_seam [] x ys zero e = refl
get_seam [] x ys (suc i) e = absurd (omega arith)
get_seam (z ∷ xs) x ys zero e = absurd (omega arith)
get_seam (z ∷ xs) x ys (suc i) e = get_seam xs x ys i (omega arith)

pub set_seam : {A : Type 0} (xs : List A) (x y : A) (ys : List A) (i : ℕ) → length xs ≡ i → slice_set (xs ++ x ∷ ys) i y ≡ xs ++ y ∷ ys
set_seam [] x y ys zero e = refl
set_seam [] x y ys (suc i) e = absurd (omega arith)
set_seam (z ∷ xs) x y ys zero e = absurd (omega arith)
set_seam (z ∷ xs) x y ys (suc i) e = ap (λ l. z ∷ l) (set_seam xs x y ys i (omega arith))

pub get_set : {A : Type 0} (xs : List A) (i : ℕ) (x y : A) → slice_get xs i ≡ Some x → slice_get (slice_set xs i y) i ≡ Some y
get_set [] i x y e = absurd (none-some x e)
get_set (z ∷ xs) zero x y e = refl
get_set (z ∷ xs) (suc i) x y e = get_set xs i x y e

-- ---- what is true of each

pub all_left : {A : Type 0} (P : A → Type 0) (xs ys : List A) → All P (xs ++ ys) → All P xs
all_left P xs ys all = subst (All P) (take_at xs ys (length xs) refl) (All-take P (length xs) (xs ++ ys) all)

pub all_right : {A : Type 0} (P : A → Type 0) (xs ys : List A) → All P (xs ++ ys) → All P ys
all_right P xs ys all = subst (All P) (drop_at xs ys (length xs) refl) (All-drop P (length xs) (xs ++ ys) all)

pub all_at : {A : Type 0} (P : A → Type 0) (xs : List A) (x : A) (ys : List A) → All P (xs ++ x ∷ ys) → P x
all_at P xs x ys all = All-head P x ys (all_right P xs (x ∷ ys) all)

-- one is added, or put in the place of another
pub all_add : {A : Type 0} (P : A → Type 0) (xs : List A) (x : A) (ys : List A) → P x → All P (xs ++ ys) → All P (xs ++ x ∷ ys)
all_add P xs x ys here all = All-append P xs (x ∷ ys) (all_left P xs ys all) (All-cons P x ys here (all_right P xs ys all))

pub at_place : {A : Type 0} (P : A → Type 0) (xs : List A) (i : ℕ) (x : A) → slice_get xs i ≡ Some x → All P xs → P x
at_place P xs i x e all = all_at P (take i xs) x (drop (suc i) xs) (subst (All P) (parted xs i x e).0 all)

pub after_set : {A : Type 0} (P : A → Type 0) (xs : List A) (i : ℕ) (y : A) → P y → All P xs → All P (slice_set xs i y)
after_set P xs i y here all = All-set P xs i y here all

-- ---- by rising numbers

pub numbers_set : (xs : List RoomPass) (i : ℕ) (h k : RoomPass) → slice_get xs i ≡ Some h → k.number ≡ h.number → numbers (slice_set xs i k) ≡ numbers xs
numbers_set [] i h k there same = absurd (none-some h there)
numbers_set (x ∷ xs) zero h k there same = ap (λ (n : ℕ). n ∷ numbers xs) (same ∙ ap (λ (q : RoomPass). q.number) (sym (same_Some x h there)))
numbers_set (x ∷ xs) (suc i) h k there same = ap (λ (l : List ℕ). x.number ∷ l) (numbers_set xs i h k there same)

all_numbers_seam : (P : ℕ → Type 0) (xs ys : List RoomPass) (k : RoomPass) → All P (numbers (xs ++ ys)) → P k.number → All P (numbers (xs ++ k ∷ ys))
all_numbers_seam P [] ys k all here = All-cons P k.number (numbers ys) here all
all_numbers_seam P (x ∷ xs) ys k all here =
    All-cons P x.number (numbers (xs ++ k ∷ ys)) (All-head P x.number (numbers (xs ++ ys)) all) (all_numbers_seam P xs ys k (All-tail P x.number (numbers (xs ++ ys)) all) here)

-- a pass more, before the first of a higher place
gap_rises : (xs ys : List RoomPass) (k : RoomPass) (pass_index : ℕ) → length xs ≡ pass_index → IsGap k.number pass_index (xs ++ ys) → All (λ (other : RoomPass). other.number ≢ k.number) (xs ++ ys) → IsRising (numbers (xs ++ ys)) → IsRising (numbers (xs ++ k ∷ ys))
gap_rises [] [] k pass_index long gap others rising = (All-nil (λ (m : ℕ). k.number < m), tt)
gap_rises [] (y ∷ ys) k zero long gap others rising =
    let above : k.number < y.number = gap.1 y refl in
    (All-cons (λ (m : ℕ). k.number < m) y.number (numbers ys) above (λ i d within. let more : y.number < get_or (numbers ys) i d = rising.0 i d within in omega arith), rising)
gap_rises [] (y ∷ ys) k (suc pass_index) long gap others rising = absurd (omega arith)
gap_rises (x ∷ xs) ys k zero long gap others rising = absurd (omega arith)
gap_rises (x ∷ xs) ys k (suc pass_index) long gap others rising =
    let low : x.number ≤ k.number = gap.0 zero x (omega arith) (omega arith) in
    let other : x.number ≢ k.number = All-head (λ (q : RoomPass). q.number ≢ k.number) x (xs ++ ys) others in
    let below : x.number < k.number = grind (arith, nat_tests) in (
      all_numbers_seam (λ (m : ℕ). x.number < m) xs ys k rising.0 below,
      gap_rises xs ys k pass_index (omega arith) (λ i d from within. gap.0 (suc i) d (omega arith) (omega arith), gap.1) (All-tail (λ (q : RoomPass). q.number ≢ k.number) x (xs ++ ys) others) rising.1,
    )

-- ---- the list of a hub's passes

-- one pass of the list became another of the hub
pub are_set : (hub : Hub) (old new : Passes) (i : ℕ) (h k : RoomPass) → AreOf hub old → slice_get old.rooms.items i ≡ Some h → k.number ≡ h.number → new ≡ record old { rooms = new.rooms } → new.rooms.items ≡ slice_set old.rooms.items i k → IsRoomPass hub old.conn k → AreOf hub new
are_set hub old new i h k are there same rest pass_list here =
    let conn : new.conn ≡ old.conn = ap (λ (p : Passes). p.conn) rest in
    record {
      hall_pass = are.hall_pass;
      hall = ap (λ (p : Passes). p.hall) rest ∙ are.hall;
      hall_is = subst (λ (c : ℕ). IsHallPass hub c are.hall_pass) (sym conn) are.hall_is;
      opened = are.opened;
      is_open = subst (λ (c : ℕ). (moment : ℕ) × (are.opened.cmd ≡ record { conn = c; moment = moment; cmd = Open })) (sym conn) are.is_open;
      said = are.said;
      rooms = subst (λ (c : ℕ). All (IsRoomPass hub c) new.rooms.items) (sym conn) (subst (All (IsRoomPass hub old.conn)) (sym pass_list) (after_set (IsRoomPass hub old.conn) old.rooms.items i k here are.rooms));
      rising = subst IsRising (sym (ap (λ (l : List RoomPass). numbers l) pass_list ∙ numbers_set old.rooms.items i h k there same)) are.rising;
    }

-- all passes of the list became others of the hub
pub are_rooms : (hub : Hub) (old new : Passes) → AreOf hub old → new ≡ record old { rooms = new.rooms } → All (IsRoomPass hub old.conn) new.rooms.items → numbers new.rooms.items ≡ numbers old.rooms.items → AreOf hub new
are_rooms hub old new are rest rooms same =
    let conn : new.conn ≡ old.conn = ap (λ (p : Passes). p.conn) rest in
    record {
      hall_pass = are.hall_pass;
      hall = ap (λ (p : Passes). p.hall) rest ∙ are.hall;
      hall_is = subst (λ (c : ℕ). IsHallPass hub c are.hall_pass) (sym conn) are.hall_is;
      opened = are.opened;
      is_open = subst (λ (c : ℕ). (moment : ℕ) × (are.opened.cmd ≡ record { conn = c; moment = moment; cmd = Open })) (sym conn) are.is_open;
      said = are.said;
      rooms = subst (λ (c : ℕ). All (IsRoomPass hub c) new.rooms.items) (sym conn) rooms;
      rising = subst IsRising (sym same) are.rising;
    }

-- a row that was lent as a slice has what was written to it
pub lent : {A : Type 0} (count : ℕ) (items written : List A) → count ≡ length items → length written ≡ length items → take count (written ++ drop (length written) items) ≡ written
lent {A} count items written long same =
    let none : drop (length written) items ≡ [] = drop_all (length written) items (omega arith) in
    ap (λ (l : List A). take count (written ++ l)) none ∙ ap (take count) (append-nil written) ∙ take_all count written (omega arith)

-- the list is as it was
pub are_as_before : (hub : Hub) (old new : Passes) → AreOf hub old → IsAsBefore old new → AreOf hub new
are_as_before hub old new are same =
    let conn : new.conn ≡ old.conn = ap (λ (p : Passes). p.conn) same.0 in
    record {
      hall_pass = are.hall_pass;
      hall = ap (λ (p : Passes). p.hall) same.0 ∙ are.hall;
      hall_is = subst (λ (c : ℕ). IsHallPass hub c are.hall_pass) (sym conn) are.hall_is;
      opened = are.opened;
      is_open = subst (λ (c : ℕ). (moment : ℕ) × (are.opened.cmd ≡ record { conn = c; moment = moment; cmd = Open })) (sym conn) are.is_open;
      said = are.said;
      rooms = subst (λ (c : ℕ). All (IsRoomPass hub c) new.rooms.items) (sym conn) (subst (All (IsRoomPass hub old.conn)) (sym same.1) are.rooms);
      rising = subst (λ (l : List RoomPass). IsRising (numbers l)) (sym same.1) are.rising;
    }

-- the pass that is kept or added is one of the hub
pub kept_pass : (hub : Hub) (number pass_index : ℕ) (old : Passes) (k : RoomPass) (new : Passes) → AreOf hub old → Keeps hub number pass_index old k new → IsRoomPass hub old.conn k
kept_pass hub number pass_index old k new are keeps =
    ⊎_elim
    (λ (was : old.rooms.items ≡ keeps.before ++ k ∷ keeps.behind). all_at (IsRoomPass hub old.conn) keeps.before k keeps.behind (subst (All (IsRoomPass hub old.conn)) was are.rooms))
    (λ (new_one : (old.rooms.items ≡ keeps.before ++ keeps.behind) × All (λ (other : RoomPass). other.number ≢ number) old.rooms.items × IsNewPass hub old.conn number k). room_new hub old.conn number k new_one.2)
    keeps.was

kept_rooms : (hub : Hub) (number pass_index : ℕ) (old : Passes) (k : RoomPass) (new : Passes) → AreOf hub old → Keeps hub number pass_index old k new → All (IsRoomPass hub old.conn) new.rooms.items
kept_rooms hub number pass_index old k new are keeps =
    let P : RoomPass → Type 0 = IsRoomPass hub old.conn in
    subst (All P) (sym keeps.is) (⊎_elim
    (λ (was : old.rooms.items ≡ keeps.before ++ k ∷ keeps.behind). subst (All P) was are.rooms)
    (λ (new_one : (old.rooms.items ≡ keeps.before ++ keeps.behind) × All (λ (other : RoomPass). other.number ≢ number) old.rooms.items × IsNewPass hub old.conn number k).
    all_add P keeps.before k keeps.behind (room_new hub old.conn number k new_one.2) (subst (All P) new_one.0 are.rooms))
    keeps.was)

pub are_kept : (hub : Hub) (number pass_index : ℕ) (old : Passes) (k : RoomPass) (new : Passes) → AreOf hub old → Keeps hub number pass_index old k new → AreOf hub new
are_kept hub number pass_index old k new are keeps =
    let conn : new.conn ≡ old.conn = ap (λ (p : Passes). p.conn) keeps.rest in
    record {
      hall_pass = are.hall_pass;
      hall = ap (λ (p : Passes). p.hall) keeps.rest ∙ are.hall;
      hall_is = subst (λ (c : ℕ). IsHallPass hub c are.hall_pass) (sym conn) are.hall_is;
      opened = are.opened;
      is_open = subst (λ (c : ℕ). (moment : ℕ) × (are.opened.cmd ≡ record { conn = c; moment = moment; cmd = Open })) (sym conn) are.is_open;
      said = are.said;
      rooms = subst (λ (c : ℕ). All (IsRoomPass hub c) new.rooms.items) (sym conn) (kept_rooms hub number pass_index old k new are keeps);
      rising = keeps.rising are.rising;
    }

-- the pass of the hall
pub hall_of : (hub : Hub) (passes : Passes) (h : HallPass) → AreOf hub passes → passes.hall ≡ Some h → IsHallPass hub passes.conn h
hall_of hub passes h are is = subst (IsHallPass hub passes.conn) (same_Some are.hall_pass h (sym are.hall ∙ is)) are.hall_is

-- what its pass of the hall has said is the Open and its own entries
pub said_of : (hub : Hub) (passes : Passes) (h : HallPass) (are : AreOf hub passes) → passes.hall ≡ Some h → h.pass.1.said ≡ are.opened ∷ h.pass.1.mine
said_of hub passes h are is = subst (λ (q : HallPass). q.pass.1.said ≡ are.opened ∷ q.pass.1.mine) (same_Some are.hall_pass h (sym are.hall ∙ is)) are.said

-- so it speaks for the connection's number
pub speaks_of : (hub : Hub) (passes : Passes) (h : HallPass) → AreOf hub passes → passes.hall ≡ Some h → Speaks hall_signer passes.conn h.pass.1.said
speaks_of hub passes h are is = subst (λ (l : List (Entry HallEntry)). Speaks hall_signer passes.conn l) (sym (said_of hub passes h are is))
    (speaks_first hall_signer passes.conn are.opened h.pass.1.mine (ap (λ (e : HallEntry). Some e.conn) are.is_open.1))

-- what is read at an index of the list is there, and one of the hub
pub read_there : (rooms : List RoomPass) (pass_index : ℕ) (k x : RoomPass) → slice_get rooms pass_index ≡ Some k → x ≡ get_or rooms pass_index x → slice_get rooms pass_index ≡ Some x
read_there rooms pass_index k x there is = subst (λ (q : RoomPass). slice_get rooms pass_index ≡ Some q) (sym (is ∙ get_or_from_slice_get rooms pass_index k x there)) there

pub read_pass : (hub : Hub) (passes : Passes) (pass_index : ℕ) (x : RoomPass) → AreOf hub passes → slice_get passes.rooms.items pass_index ≡ Some x → IsRoomPass hub passes.conn x
read_pass hub passes pass_index x are there = at_place (IsRoomPass hub passes.conn) passes.rooms.items pass_index x there are.rooms

-- ---- what keeping a pass gives

-- it stands at its place
pub kept_at : (hub : Hub) (number pass_index : ℕ) (old : Passes) (k : RoomPass) (new : Passes) → Keeps hub number pass_index old k new → slice_get new.rooms.items pass_index ≡ Some k
kept_at hub number pass_index old k new keeps = subst (λ (l : List RoomPass). slice_get l pass_index ≡ Some k) (sym keeps.is) (get_seam keeps.before k keeps.behind pass_index keeps.stands)

-- and what is read there is it
pub kept_read : (hub : Hub) (number pass_index : ℕ) (old : Passes) (k x : RoomPass) (new : Passes) → Keeps hub number pass_index old k new → x ≡ get_or new.rooms.items pass_index x → Keeps hub number pass_index old x new
kept_read hub number pass_index old k x new keeps is = subst (λ (q : RoomPass). Keeps hub number pass_index old q new) (sym (is ∙ get_or_from_slice_get new.rooms.items pass_index k x (kept_at hub number pass_index old k new keeps))) keeps

-- a pass that is there
pub keeps_there : (hub : Hub) (number pass_index : ℕ) (old : Passes) (k : RoomPass) → slice_get old.rooms.items pass_index ≡ Some k → k.number ≡ number → Keeps hub number pass_index old k old
keeps_there hub number pass_index old k there is =
    let parts = parted old.rooms.items pass_index k there in
    record { before = take pass_index old.rooms.items; behind = drop (suc pass_index) old.rooms.items; was = inl parts.0; is = parts.0; stands = parts.1; number_is = is; rising = λ r. r; rest = refl }

-- a pass that is added
pub keeps_added : (hub : Hub) (number pass_index : ℕ) (old : Passes) (k : RoomPass) (new : Passes) → All (λ (other : RoomPass). other.number ≢ number) old.rooms.items → IsNewPass hub old.conn number k → IsAdded old pass_index k new → Keeps hub number pass_index old k new
keeps_added hub number pass_index old k new others is added =
    let apart : All (λ (other : RoomPass). other.number ≢ k.number) old.rooms.items = subst (λ (n : ℕ). All (λ (other : RoomPass). other.number ≢ n) old.rooms.items) (sym is.number_is) others in
    record {
      before = added.0;
      behind = added.1;
      was = inr (added.2, others, is);
      is = added.5;
      stands = added.3;
      number_is = is.number_is;
      rising = λ r. subst (λ (l : List RoomPass). IsRising (numbers l)) (sym added.5)
          (gap_rises added.0 added.1 k pass_index added.3 (subst (IsGap k.number pass_index) added.2 added.6) (subst (All (λ (other : RoomPass). other.number ≢ k.number)) added.2 apart) (subst (λ (l : List RoomPass). IsRising (numbers l)) added.2 r));
      rest = added.4;
    }

-- and then it became another
pub kept_then : (hub : Hub) (number pass_index : ℕ) (old : Passes) (h : RoomPass) (mid : Passes) (k : RoomPass) (new : Passes) → Keeps hub number pass_index old h mid → new ≡ record mid { rooms = new.rooms } → new.rooms.items ≡ slice_set mid.rooms.items pass_index k → k.number ≡ h.number → ButFor hub old h k new
kept_then hub number pass_index old h mid k new keeps rest pass_list same =
    let conn : mid.conn ≡ old.conn = ap (λ (p : Passes). p.conn) keeps.rest in
    let badge : mid.badge ≡ old.badge = ap (λ (p : Passes). p.badge) keeps.rest in
    let hall : mid.hall ≡ old.hall = ap (λ (p : Passes). p.hall) keeps.rest in
    record {
      before = keeps.before;
      behind = keeps.behind;
      was = ⊎_elim
          (λ (was : old.rooms.items ≡ keeps.before ++ h ∷ keeps.behind). inl was)
          (λ (new_one : (old.rooms.items ≡ keeps.before ++ keeps.behind) × All (λ (other : RoomPass). other.number ≢ number) old.rooms.items × IsNewPass hub old.conn number h).
          inr (new_one.0, subst (λ (n : ℕ). All (λ (other : RoomPass). other.number ≢ n) old.rooms.items) (sym keeps.number_is) new_one.1, subst (λ (n : ℕ). IsNewPass hub old.conn n h) (sym keeps.number_is) new_one.2))
          keeps.was;
      is = pass_list ∙ ap (λ (l : List RoomPass). slice_set l pass_index k) keeps.is ∙ set_seam keeps.before h k keeps.behind pass_index keeps.stands;
      same_place = same;
      conn = ap (λ (p : Passes). p.conn) rest ∙ conn;
      badge = ap (λ (p : Passes). p.badge) rest ∙ badge;
      hall = ap (λ (p : Passes). p.hall) rest ∙ hall;
    }

-- the same of a pass that stood there
pub but_at : (hub : Hub) (pass_index : ℕ) (old : Passes) (h k : RoomPass) (new : Passes) → slice_get old.rooms.items pass_index ≡ Some h → new ≡ record old { rooms = new.rooms } → new.rooms.items ≡ slice_set old.rooms.items pass_index k → k.number ≡ h.number → ButFor hub old h k new
but_at hub pass_index old h k new there rest pass_list same = kept_then hub h.number pass_index old h old k new (keeps_there hub h.number pass_index old h there refl) rest pass_list same

-- ---- answers

pub if_ok_then : {A E : Type 0} (P Q : A → Type 0) (r : Result A E) → IfOk r P → ((x : A) → P x → Q x) → IfOk r Q
if_ok_then P Q (Ok x) p f = f x p
if_ok_then P Q (Err e) p f = tt
