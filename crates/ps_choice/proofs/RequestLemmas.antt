-- What is left to write of a list behind an item that was written, and pieces behind one another.
use Rattle.std.proofs.Common.{◌≡◌, ℕ, suc, ◌+◌, ◌-◌, ◌<◌, Bool, true, List, ◌∷◌, ◌++◌, refl, sym, ap, ◌∙◌, append_assoc, arith}
use Rattle.serde_json.specs.Data.{Data}
use Rattle.serde_json.specs.View.{items_of}
use Rattle.serde_json.specs.Written.{compact_text, items_text, comma_if}
use Rattle.ps_mon.specs.declared.record.SideState.{SideState}
use Rattle.ps_dex.specs.declared.item.MoveItem.{MoveItem}
use Rattle.ps_choice.specs.Requests.{slot_data, slots_from}

-- a piece behind a text, and one behind both
pub then : (old mid new a b : List ℕ) → mid ≡ old ++ a → new ≡ mid ++ b → new ≡ old ++ (a ++ b)
then old mid new a b first second = second ∙ ap (λ (x : List ℕ). x ++ b) first ∙ append_assoc old a b

-- a piece behind one that is itself of three
pub then_closed : (old mid new a b c d : List ℕ) → mid ≡ old ++ (a ++ (b ++ c)) → new ≡ mid ++ d → new ≡ old ++ (a ++ (b ++ (c ++ d)))
then_closed old mid new a b c d first second =
    then old mid new (a ++ (b ++ c)) d first second
    ∙ ap (λ (x : List ℕ). old ++ x) (append_assoc a (b ++ c) d ∙ ap (λ (x : List ℕ). a ++ x) (append_assoc b c d))

-- the two brackets that close a list of moves belong to it
pub regrouped : (a b c d : List ℕ) → a ++ (b ++ (c ++ d)) ≡ ((a ++ b) ++ c) ++ d
regrouped a b c d = sym (append_assoc (a ++ b) c d ∙ append_assoc a b (c ++ d))

-- where the first of the items that are left was written, the others are left
pub item_written : (later : Bool) (value : Data) (values : List Data) (old new all : List ℕ) → new ≡ old ++ (comma_if later ++ compact_text value)
    → old ++ items_text later (items_of (value ∷ values)) ≡ all → new ++ items_text true (items_of values) ≡ all
item_written later value values old new all written left =
    ap (λ (x : List ℕ). x ++ items_text true (items_of values)) written
    ∙ append_assoc old (comma_if later ++ compact_text value) (items_text true (items_of values))
    ∙ ap (λ (x : List ℕ). old ++ x) (append_assoc (comma_if later) (compact_text value) (items_text true (items_of values)))
    ∙ left

slots_more : (moves : List MoveItem) (side : SideState) (j n : ℕ) → j < n → slots_from moves side j (n - j) ≡ slot_data moves side j ∷ slots_from moves side (j + 1) (n - (j + 1))
slots_more moves side j n lt =
    let left : n - j ≡ suc (n - (j + 1)) = omega arith in
    let next : suc j ≡ j + 1 = omega arith in
    rw left (rw (← next) refl)

-- where a slot was written, those behind it are left
pub next_slot : (moves : List MoveItem) (side : SideState) (j n : ℕ) (later : Bool) (old new all : List ℕ) → j < n
    → new ≡ old ++ (comma_if later ++ compact_text (slot_data moves side j)) → old ++ items_text later (items_of (slots_from moves side j (n - j))) ≡ all
    → new ++ items_text true (items_of (slots_from moves side (j + 1) (n - (j + 1)))) ≡ all
next_slot moves side j n later old new all lt written left =
    item_written later (slot_data moves side j) (slots_from moves side (j + 1) (n - (j + 1))) old new all written
    (ap (λ (ds : List Data). old ++ items_text later (items_of ds)) (sym (slots_more moves side j n lt)) ∙ left)
