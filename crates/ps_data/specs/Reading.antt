-- Reading a value by a form: what the value stands for, or its first fault.
use Rattle.std.specs.Prelude.{◌≡◌, ℕ, List, [], ◌∷◌, Option, Some, None, Result, Ok, Err, Bool, ⊤, if◌then◌else◌}
use Rattle.serde_json.specs.Data.{Data}
use Rattle.serde_json.specs.Find.{get}
use Rattle.ps_data.specs.Paths.{Step, Key}
use Rattle.ps_data.specs.declared.fault.DataKind.{DataKind}
use Rattle.ps_data.specs.declared.fault.DataKind.TheVariants.{Shape}
use Rattle.ps_data.specs.declared.fault.Fault.{Fault}
use Rattle.ps_data.specs.declared.fault.Refusal.{Refusal}
use Rattle.ps_data.specs.declared.fault.Refusal.TheVariants as refusals

-- one reading after another: the first fault is the fault of both
infixl 10 ◌>>=◌
abbrev pub ◌>>=◌ : {A B F : Type 0} → Result A F → (A → Result B F) → Result B F
(Ok value) >>= next = next value
(Err fault) >>= next = Err fault

-- a fault of the value itself
abbrev pub refuse : {A : Type 0} → DataKind → Result A Fault
refuse kind = Err (record { path = []; kind = kind })

-- a fault of a value inside is one step further down
abbrev pub under : {A : Type 0} → Step → Result A Fault → Result A Fault
under step (Ok value) = Ok value
under step (Err fault) = Err (record { path = step ∷ fault.path; kind = fault.kind })

-- what there is, or else a fault
abbrev pub some_or : {A : Type 0} → DataKind → Option A → Result A Fault
some_or kind None = refuse kind
some_or kind (Some value) = Ok value

-- a test that has to hold
abbrev pub ensure : DataKind → Bool → Result ⊤ Fault
ensure kind holds = if holds then Ok tt else refuse kind

-- what an object has at a key that must be there
abbrev pub there : List ℕ → Data → Result Data Fault
there key holder = under (Key key) (some_or Shape (get key holder))

-- a key that must be there, with a value in the form
abbrev pub required : {A : Type 0} → List ℕ → (Data → Result A Fault) → Data → Result A Fault
required key form holder = there key holder >>= λ value. under (Key key) (form value)

abbrev pub if_there : {A : Type 0} → A → (Data → Result A Fault) → Option Data → Result A Fault
if_there default form None = Ok default
if_there default form (Some value) = form value

-- a key that may be missing, and then stands for the default
abbrev pub optional : {A : Type 0} → List ℕ → A → (Data → Result A Fault) → Data → Result A Fault
optional key default form holder = if_there default (λ value. under (Key key) (form value)) (get key holder)

-- ---- What a function returned, beside what a definition finds. Out of memory may come in the place of either.

-- the error tells this fault, or, out of memory, none
abbrev pub FailsWith : {A F : Type 0} → Option F → Result A F → Type 0
FailsWith None found = Unit {0}
FailsWith (Some fault) found = found ≡ Err fault

-- What was returned is seen by view, and an error by the fault that it tells.
abbrev pub Returns : {A B E F : Type 0} → (A → B) → (E → Option F) → Result A E → Result B F → Type 0
Returns view fault_of (Ok value) found = found ≡ Ok (view value)
Returns view fault_of (Err error) found = FailsWith (fault_of error) found

-- ---- the same of a function that reads

abbrev pub fault_of : Refusal → Option Fault
fault_of refusals.NoMemory = None
fault_of (refusals.Fault fault) = Some fault

abbrev pub Fails : {A : Type 0} → Refusal → Result A Fault → Type 0
Fails refusal read = FailsWith (fault_of refusal) read

abbrev pub Gives : {A : Type 0} → Result A Refusal → Result A Fault → Type 0
Gives result read = Returns (λ value. value) fault_of result read

-- the same, where what was returned is seen by view
abbrev pub GivesBy : {A B : Type 0} → (A → B) → Result A Refusal → Result B Fault → Type 0
GivesBy view result read = Returns view fault_of result read

-- a refusal that tells the same fault one step further down
abbrev pub IsDeeper : Step → Refusal → Refusal → Type 0
IsDeeper step refusals.NoMemory deeper = deeper ≡ refusals.NoMemory
IsDeeper step (refusals.Fault fault) refusals.NoMemory = Unit {0}
IsDeeper step (refusals.Fault fault) (refusals.Fault deeper) = deeper ≡ record { path = step ∷ fault.path; kind = fault.kind }
