-- What holds of each value that a form lets through.
use Rattle.std.proofs.Common.{zero, suc, subst, sym, ◌≡◌, ◌≢◌, ◌⊎◌, ℕ, ℤ, pos, negsuc, ◌+◌, ◌<◌, ◌≤◌, ◌≤ℤ◌, Bool, true, false, cond, not, ◌&&◌, ◌||◌, leb, ltb, List, [], ◌∷◌, ◌++◌, length, Option, Some, None, Result, Ok, Err, refl, arith, codes}
use lib.Signed.{le_z_yes}
use lib.Dec.{T}
use Rattle.std.specs.List.{position_or_len}
use Rattle.std.specs.Prelude.{⊤, IfSome, All, position, nat_le, nat_lt, int_le, bytes_eq, is_some, option_map}
use Rattle.std.proofs.lemmas.Bool.{ltb-true, leb-true}
use Rattle.std.proofs.lemmas.List.{length-append}
use Rattle.std.proofs.lemmas.List.Elements.{All-append, All-nil}
use Rattle.serde_json.specs.Data.{Data, Num, unsigned, negative, float}
use Rattle.serde_json.specs.Find.{get, as_number, as_array, as_object}
use Rattle.ps_data.specs.declared.fault.Fault.{Fault}
use Rattle.ps_data.specs.declared.fault.DataKind.{DataKind}
use Rattle.ps_data.specs.declared.fault.DataKind.TheVariants.{Shape, Range}
use Rattle.ps_data.specs.Paths.{Step, Key, Index}
use Rattle.ps_data.specs.Reading.{◌>>=◌, refuse, some_or, ensure, under, there, required, if_there, optional}
use Rattle.ps_data.specs.Forms.{number_in, natural, integer_in, integral, between, array_in, sized_in, list_of}
use Rattle.ps_data.specs.Lists.{each, list_in, list_at, each_entry, entries_of, entries_in, entries_at}

-- ---- what holds of each value that may be read

abbrev pub Holds : {A : Type 0} → (A → Type 0) → Result A Fault → Type 0
Holds P (Ok x) = P x
Holds P (Err fault) = Unit {0}

pub after : {A B : Type 0} (P : A → Type 0) (Q : B → Type 0) (r : Result A Fault) (next : A → Result B Fault) → Holds P r → ((x : A) → P x → Holds Q (next x)) → Holds Q (r >>= next)
after P Q (Ok x) next h f = f x h
after P Q (Err fault) next h f = tt

pub inside : {A : Type 0} (P : A → Type 0) (s : Step) (r : Result A Fault) → Holds P r → Holds P (under s r)
inside P s (Ok x) h = h
inside P s (Err fault) h = tt

pub anything : {A : Type 0} (r : Result A Fault) → Holds (λ x. Unit {0}) r
anything (Ok x) = tt
anything (Err fault) = tt

pub then : {A B : Type 0} (Q : B → Type 0) (r : Result A Fault) (next : A → Result B Fault) → ((x : A) → Holds Q (next x)) → Holds Q (r >>= next)
then Q r next f = after (λ x. Unit {0}) Q r next (anything r) (λ x h. f x)

pub found : {A : Type 0} (P : A → Type 0) (kind : DataKind) (o : Option A) → IfSome o P → Holds P (some_or kind o)
found P kind (Some x) h = h
found P kind None h = tt

pub tested : {B : Type 0} (Q : B → Type 0) (kind : DataKind) (b : Bool) (next : ⊤ → Result B Fault) → (b ≡ true → Holds Q (next tt)) → Holds Q (ensure kind b >>= next)
tested Q kind true next f = f refl
tested Q kind false next f = tt

pub needed : {A : Type 0} (P : A → Type 0) (key : List ℕ) (form : Data → Result A Fault) (d : Data) → ((v : Data) → Holds P (form v)) → Holds P (required key form d)
needed P key form d h = then P (there key d) (λ v. under (Key key) (form v)) (λ v. inside P (Key key) (form v) (h v))

lacking : {A : Type 0} (P : A → Type 0) (x : A) (form : Data → Result A Fault) (o : Option Data) → P x → ((v : Data) → Holds P (form v)) → Holds P (if_there x form o)
lacking P x form None p h = p
lacking P x form (Some v) p h = h v

pub may_lack : {A : Type 0} (P : A → Type 0) (key : List ℕ) (x : A) (form : Data → Result A Fault) (d : Data) → P x → ((v : Data) → Holds P (form v)) → Holds P (optional key x form d)
may_lack P key x form d p h = lacking P x (λ v. under (Key key) (form v)) (get key d) p (λ v. inside P (Key key) (form v) (h v))

-- ---- numbers

within : (low high n : ℕ) (a b : Bool) → leb low n ≡ a → leb n high ≡ b → Holds (λ m. (low ≤ m) × (m ≤ high)) (cond (a && b) (Ok n) (refuse Range))
within low high n true true l h = (leb-true low n l, leb-true n high h)
within low high n true false l h = tt
within low high n false b l h = tt

natural_within : (low high : ℕ) (n : Num) → Holds (λ m. (low ≤ m) × (m ≤ high)) (natural low high n)
natural_within low high (unsigned n) = within low high n (leb low n) (leb n high) refl refl
natural_within low high (negative z) = tt
natural_within low high (float x) = tt

pub number_within : (low high : ℕ) (d : Data) → Holds (λ m. (low ≤ m) × (m ≤ high)) (number_in low high d)
number_within low high d = then (λ m. (low ≤ m) × (m ≤ high)) (some_or Shape (as_number d)) (natural low high) (natural_within low high)

pub in_order : (a b : ℤ) → int_le a b ≡ true → a ≤ℤ b
in_order a b e = le_z_yes (subst T (sym e) tt)

between_within : (low high z : ℤ) (a b : Bool) → int_le low z ≡ a → int_le z high ≡ b → Holds (λ y. (low ≤ℤ y) × (y ≤ℤ high)) (cond (a && b) (Ok z) (refuse Range))
between_within low high z true true l h = (in_order low z l, in_order z high h)
between_within low high z true false l h = tt
between_within low high z false b l h = tt

integral_within : (low high : ℤ) (n : Num) → Holds (λ y. (low ≤ℤ y) × (y ≤ℤ high)) (integral low high n)
integral_within low high (unsigned n) = between_within low high (pos n) (int_le low (pos n)) (int_le (pos n) high) refl refl
integral_within low high (negative z) = between_within low high z (int_le low z) (int_le z high) refl refl
integral_within low high (float x) = tt

pub integer_within : (low high : ℤ) (d : Data) → Holds (λ y. (low ≤ℤ y) × (y ≤ℤ high)) (integer_in low high d)
integer_within low high d = then (λ y. (low ≤ℤ y) × (y ≤ℤ high)) (some_or Shape (as_number d)) (integral low high) (integral_within low high)

-- ---- lists

pub all_cons : {A : Type 0} (P : A → Type 0) (x : A) (xs : List A) → P x → All P xs → All P (x ∷ xs)
all_cons P x xs p all zero d lt = p
all_cons P x xs p all (suc k) d lt = all k d (omega (arith, lt))

pub one_all : {A : Type 0} (P : A → Type 0) (x : A) → P x → All P (x ∷ [])
one_all P x p = all_cons P x [] p (All-nil P)

limited : (i n : ℕ) (b : Bool) → ltb i n ≡ b → IfSome (cond b (Some i) None) (λ j. j < n)
limited i n true e = ltb-true i n e
limited i n false e = tt

-- an index that was found is in the list
pub index_within : {A : Type 0} (p : A → Bool) (xs : List A) → IfSome (position p xs) (λ i. i < length xs)
index_within p xs = limited (position_or_len p xs) (length xs) (ltb (position_or_len p xs) (length xs)) refl

pub each_holds : {A : Type 0} (P : A → Type 0) (form : List A → List Data → Data → Result A Fault) (most : ℕ) → ((before : List A) (more : List Data) (d : Data) → Holds P (form before more d)) → (before : List A) (ds : List Data) → All P before → length before + length ds ≤ most → Holds (λ xs. All P xs × (length xs ≤ most)) (each form before ds)
unfolding each
each_holds P form most h before [] all few = (all, omega (arith, few))
each_holds {A} P form most h before (d ∷ more) all few =
    after P (λ xs. All P xs × (length xs ≤ most)) (under (Index (length before)) (form before more d)) (λ x. each form (before ++ x ∷ []) more) (inside P (Index (length before)) (form before more d) (h before more d))
    (λ x p. each_holds P form most h (before ++ x ∷ []) more (All-append P before (x ∷ []) all (one_all P x p)) (omega (arith, few, length-append before (x ∷ []))))

sized_few : (most : ℕ) (ds : List Data) (a b : Bool) → leb (length ds) most ≡ b → Holds (λ es. length es ≤ most) (cond (a && b) (Ok ds) (refuse Range))
sized_few most ds true true e = leb-true (length ds) most e
sized_few most ds true false e = tt
sized_few most ds false b e = tt

pub list_holds : {A : Type 0} (P : A → Type 0) (key : List ℕ) (most : ℕ) (form : List A → List Data → Data → Result A Fault) (d : Data) → ((before : List A) (more : List Data) (v : Data) → Holds P (form before more v)) → Holds (λ xs. All P xs × (length xs ≤ most)) (list_at key 0 most form d)
list_holds {A} P key most form d h =
    may_lack (λ xs. All P xs × (length xs ≤ most)) key [] (list_in 0 most form) d (All-nil P, omega arith)
    (λ v. after (λ es. length es ≤ most) (λ xs. All P xs × (length xs ≤ most)) (sized_in 0 most v) (each form [])
    (then (λ es. length es ≤ most) (array_in v) (λ ds. cond (leb 0 (length ds) && leb (length ds) most) (Ok ds) (refuse Range)) (λ ds. sized_few most ds (leb 0 (length ds)) (leb (length ds) most) refl))
    (λ es few. each_holds P form most h [] es (All-nil P) (omega (arith, few))))

-- a list of any length
pub each_all : {A : Type 0} (P : A → Type 0) (form : List A → List Data → Data → Result A Fault) → ((before : List A) (more : List Data) (d : Data) → Holds P (form before more d)) → (ds : List Data) → Holds (All P) (each form [] ds)
each_all {A} P form h ds = fewer (each form [] ds) (each_holds P form (length ds) h [] ds (All-nil P) (omega arith)) where
  fewer : (r : Result (List A) Fault) → Holds (λ xs. All P xs × (length xs ≤ length ds)) r → Holds (All P) r
  fewer (Ok xs) p = p.0
  fewer (Err fault) p = tt

-- ---- entries

pub each_entry_holds : {A : Type 0} (P : A → Type 0) (form : List A → List ℕ → Data → Result A Fault) → ((before : List A) (key : List ℕ) (d : Data) → Holds P (form before key d)) → (before : List A) (es : List (List ℕ × Data)) → All P before → Holds (All P) (each_entry form before es)
unfolding each_entry
each_entry_holds P form h before [] all = all
each_entry_holds {A} P form h before (e ∷ more) all =
    after P (All P) (under (Key e.0) (form before e.0 e.1)) (λ x. each_entry form (before ++ x ∷ []) more) (inside P (Key e.0) (form before e.0 e.1) (h before e.0 e.1))
    (λ x p. each_entry_holds P form h (before ++ x ∷ []) more (All-append P before (x ∷ []) all (one_all P x p)))

pub entries_hold : {A : Type 0} (P : A → Type 0) (key : List ℕ) (form : List A → List ℕ → Data → Result A Fault) (d : Data) → ((before : List A) (k : List ℕ) (v : Data) → Holds P (form before k v)) → Holds (All P) (entries_at key form d)
entries_hold P key form d h =
    may_lack (All P) key [] (entries_in form) d (All-nil P)
    (λ v. then (All P) (some_or Shape (option_map entries_of (as_object v))) (each_entry form []) (λ es. each_entry_holds P form h [] es (All-nil P)))
