-- Reading the items of a list, or the entries of an object, one after the other, as a loop does.
use Rattle.std.proofs.Common.{◌≡◌, ℕ, ◌+◌, ◌<◌, ◌≤◌, ◌-◌, List, [], ◌∷◌, ◌++◌, length, get_or, take, drop, map, Result, Ok, Err, refl, sym, ap, ◌∙◌, arith, add-one, Bor, String, string_bytes}
use Rattle.std.proofs.Math.Seq.{drop-cons}
use Rattle.std.proofs.lemmas.List.{drop_all, take_all, length-drop}
use Rattle.std.specs.declared.alloc.Global.{Global}
use Rattle.serde_json.specs.Data.{Data}
use Rattle.serde_json.specs.View.{view, members_view}
use Rattle.serde_json.specs.declared.value.Value.{Value}
use Rattle.ps_data.specs.Paths.{Key, Index}
use Rattle.ps_data.specs.declared.fault.Fault.{Fault}
use Rattle.ps_data.specs.declared.fault.Refusal.{Refusal}
use Rattle.ps_data.specs.declared.fault.Refusal.TheVariants as refusals
use Rattle.ps_data.specs.Reading.{under, Fails}
use Rattle.ps_data.specs.Lists.{each, each_entry, entries_of}

-- the next item and those after it, as they are seen
pub next : {X Y : Type 0} (seen : X → Y) (xs : List X) (i : ℕ) (x : X) → i < length xs → x ≡ get_or xs i x → map seen (drop i xs) ≡ seen x ∷ map seen (drop (i + 1) xs)
next seen xs i x lt is = ap (map seen) (drop-cons xs i x lt) ∙ rw (← is, add-one) refl

-- a slice from an index on
pub from_on : {X : Type 0} (xs : List X) (k : ℕ) → take (length xs - k) (drop k xs) ≡ drop k xs
from_on xs k = take_all (length xs - k) (drop k xs) (omega (arith, length-drop k xs))

-- ---- lists

abbrev Form : Type 0 → Type 0
Form A = List A → List Data → Data → Result A Fault

pub goes_on : {A : Type 0} (form : Form A) (before : List A) (vs : List Value) (i : ℕ) (v : Value) (x : A) (total : Result (List A) Fault) → i < length vs → v ≡ get_or vs i v → length before ≡ i
    → under (Index i) (form before (map view (drop (i + 1) vs)) (view v)) ≡ Ok x → each form before (map view (drop i vs)) ≡ total → each form (before ++ x ∷ []) (map view (drop (i + 1) vs)) ≡ total
unfolding each
goes_on form before vs i v x total lt is len read so_far =
    let one : each form before (map view (drop i vs)) ≡ each form (before ++ x ∷ []) (map view (drop (i + 1) vs)) = rw (next view vs i v lt is, len, read) refl in
    sym one ∙ so_far

pub fails : {A : Type 0} (form : Form A) (before : List A) (vs : List Value) (i : ℕ) (v : Value) (e : Refusal) (total : Result (List A) Fault) → i < length vs → v ≡ get_or vs i v → length before ≡ i
    → Fails e (under (Index i) (form before (map view (drop (i + 1) vs)) (view v))) → each form before (map view (drop i vs)) ≡ total → Fails e total
unfolding each
fails form before vs i v refusals.NoMemory total lt is len read so_far = tt
fails form before vs i v (refusals.Fault f) total lt is len read so_far =
    let one : each form before (map view (drop i vs)) ≡ Err f = rw (next view vs i v lt is, len, read) refl in
    sym so_far ∙ one

pub ends : {A : Type 0} (form : Form A) (before : List A) (vs : List Value) (i : ℕ) (total : Result (List A) Fault) → length vs ≤ i → each form before (map view (drop i vs)) ≡ total → total ≡ Ok before
unfolding each
ends form before vs i total le so_far =
    let one : each form before (map view (drop i vs)) ≡ Ok before = rw (drop_all i vs le) refl in
    sym so_far ∙ one

-- ---- objects with free keys

abbrev EntryForm : Type 0 → Type 0
EntryForm A = List A → List ℕ → Data → Result A Fault

pub entry_goes_on : {A X : Type 0} (form : EntryForm A) (seen : X → List ℕ × Data) (before : List A) (ps : List X) (i : ℕ) (p : X) (x : A) (total : Result (List A) Fault) → i < length ps → p ≡ get_or ps i p
    → under (Key (seen p).0) (form before (seen p).0 (seen p).1) ≡ Ok x → each_entry form before (map seen (drop i ps)) ≡ total → each_entry form (before ++ x ∷ []) (map seen (drop (i + 1) ps)) ≡ total
unfolding each_entry
entry_goes_on form seen before ps i p x total lt is read so_far =
    let one : each_entry form before (map seen (drop i ps)) ≡ each_entry form (before ++ x ∷ []) (map seen (drop (i + 1) ps)) = rw (next seen ps i p lt is, read) refl in
    sym one ∙ so_far

pub entry_fails : {A X : Type 0} (form : EntryForm A) (seen : X → List ℕ × Data) (before : List A) (ps : List X) (i : ℕ) (p : X) (e : Refusal) (total : Result (List A) Fault) → i < length ps → p ≡ get_or ps i p
    → Fails e (under (Key (seen p).0) (form before (seen p).0 (seen p).1)) → each_entry form before (map seen (drop i ps)) ≡ total → Fails e total
unfolding each_entry
entry_fails form seen before ps i p refusals.NoMemory total lt is read so_far = tt
entry_fails form seen before ps i p (refusals.Fault f) total lt is read so_far =
    let one : each_entry form before (map seen (drop i ps)) ≡ Err f = rw (next seen ps i p lt is, read) refl in
    sym so_far ∙ one

pub entries_end : {A X : Type 0} (form : EntryForm A) (seen : X → List ℕ × Data) (before : List A) (ps : List X) (i : ℕ) (total : Result (List A) Fault) → length ps ≤ i → each_entry form before (map seen (drop i ps)) ≡ total → total ≡ Ok before
unfolding each_entry
entries_end form seen before ps i total le so_far =
    let one : each_entry form before (map seen (drop i ps)) ≡ Ok before = rw (drop_all i ps le) refl in
    sym so_far ∙ one

-- the entries of an object, as its members show them
pub entries_of_members : (es : List (String Global × Value)) → entries_of (members_view es) ≡ map {B = List ℕ × Data} (λ e. (string_bytes e.0, view e.1)) es
entries_of_members [] = refl
entries_of_members (e ∷ es) = ap (λ (ms : List (List ℕ × Data)). (string_bytes e.0, view e.1) ∷ ms) (entries_of_members es)

-- the same of entries that are lent
abbrev lent : Bor (String Global) × Bor Value → String Global × Value
lent p = (p.0.now, p.1.now)

abbrev pub seen : Bor (String Global) × Bor Value → List ℕ × Data
seen p = (string_bytes p.0.now, view p.1.now)

abbrev owned : String Global × Value → List ℕ × Data
owned e = (string_bytes e.0, view e.1)

seen_of_lent : (ps : List (Bor (String Global) × Bor Value)) → map seen ps ≡ map owned (map lent ps)
seen_of_lent [] = refl
seen_of_lent (p ∷ ps) = ap (λ (ms : List (List ℕ × Data)). seen p ∷ ms) (seen_of_lent ps)

pub lent_entries : (ps : List (Bor (String Global) × Bor Value)) (es : List (String Global × Value)) → map lent ps ≡ es → map seen ps ≡ entries_of (members_view es)
lent_entries ps es is = seen_of_lent ps ∙ rw is (sym (entries_of_members es))
