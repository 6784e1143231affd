-- What the ledger has of lines: how many entries, how many of them are refused, and their notes.
use Rattle.std.proofs.Common.{◌≡◌, ℕ, ◌+◌, Bool, List, [], ◌∷◌, ◌++◌, length, Option, Some, None, refl, sym, ap, ◌∙◌, arith, append_assoc}
use Rattle.std.specs.Prelude.{option_to_list}
use Rattle.std.proofs.lemmas.List.{length-append, append-nil}
use Rattle.std.proofs.lemmas.List.Elements.{filter_map-append}
use Rattle.ps_keep.specs.declared.note.Note.{Note}
use Rattle.ps_keep.specs.Keepers.{after_notes}
use Rattle.replay_script.specs.declared.item.Item.{Item}
use Rattle.replay_state.specs.declared.place.Placed.{Placed}
use Rattle.replay_state.specs.declared.place.Happening.{Happening}
use Rattle.replay_state.specs.declared.place.Happening.TheVariants as happening
use Rattle.replay_state.specs.declared.transcript.Counts.{Counts}
use Rattle.replay_state.specs.Setup.{Setup}
use Rattle.replay_state.specs.Worlds.{World, world_opening, world_after}
use Rattle.replay_state.specs.Nows.{Now, now_of}
use Rattle.replay_state.specs.Houses.{House, now_in, house_after, house_of}
use Rattle.replay_state.specs.Entries.{Run, Line, run_opening, run_after, line_in, entry_in, entries_in, worlds_after, happenings_from, entries}
use Rattle.replay_state.specs.Counts.{is_refused, one_if, refused_from, refused}
use Rattle.replay_state.specs.Notes.{done_by, unless, note_of, notes_from, notes}
use Rattle.replay_state.specs.Ledgers.{Sheet, no_counts, blank, blank_noting, entered, asked}
use Rattle.replay_state.specs.Tables.{Desk, desk_of, fresh, happenings_ledger, item_ledger, ledger_from}
use Rattle.replay_state.proofs.HistoryLemmas.{house_more}
use Rattle.replay_state.proofs.TextLemmas.{now_is, line_is, desk_past, fresh_is}
use Rattle.replay_state.proofs.LoggedLemmas.{blank_now, refused_same, done_same}

abbrev sheet : ℕ → ℕ → Option (List Note) → Sheet
sheet all some ns = record { counts = record { entries = all; refused = some }; notes = ns }

same : (a b c d : ℕ) (ns ms : Option (List Note)) → a ≡ c → b ≡ d → ns ≡ ms → sheet a b ns ≡ sheet c d ms
same a b c d ns ms one two three = ap (λ (x : ℕ). sheet x b ns) one ∙ ap (λ (x : ℕ). sheet c x ns) two ∙ ap (sheet c d) three

-- with these entries, which stand behind those that left a world
abbrev pub with_entries : World → List Placed → Sheet → Sheet
with_entries w ps s = sheet (s.counts.entries + length ps) (s.counts.refused + refused_from w ps) (after_notes (notes_from w ps) s.notes)

-- ---- notes behind notes

after_none : (kept : Option (List Note)) → after_notes [] kept ≡ kept
after_none None = refl
after_none (Some ns) = ap (λ (x : List Note). Some x) (append-nil ns)

after_both : (ns ms : List Note) (kept : Option (List Note)) → after_notes ms (after_notes ns kept) ≡ after_notes (ns ++ ms) kept
after_both ns ms None = refl
after_both ns ms (Some os) = ap (λ (x : List Note). Some x) (append_assoc os ns ms)

no_entries : (w : World) (s : Sheet) → s ≡ with_entries w [] s
no_entries w s = same s.counts.entries s.counts.refused (s.counts.entries + 0) (s.counts.refused + 0) s.notes (after_notes [] s.notes)
    (omega arith) (omega arith) (sym (after_none s.notes))

-- ---- one line

entered_is : (w : World) (p : Placed) (s : Sheet)
    → entered (is_refused (now_in (house_of w)) p) (done_by (now_in (house_of w)) p) s ≡ entered (is_refused (now_of w) p)
    (done_by (now_of w) p) s
entered_is w p s =
    ap (λ (n : Now). entered (is_refused n p) (done_by n p) s) (now_is w)
    ∙ ap (λ (b : Bool). entered b (done_by (blank_now (now_of w)) p) s) (refused_same (now_of w) p)
    ∙ ap (λ (o : Option Note). entered (is_refused (now_of w) p) o s) (done_same (now_of w) p)

pub of_happenings : (w : World) (xs : List Happening) (s : Sheet) → happenings_ledger (house_of w) xs s ≡ with_entries w (entries_in xs) s
of_happenings w [] s = no_entries w s
of_happenings w (happening.Entry p ∷ xs) s =
    let c = s.counts in
    let more : Sheet = entered (is_refused (now_of w) p) (done_by (now_of w) p) s in
    let later : ℕ = refused_from (world_after w p) (entries_in xs) in
    let first : List Note = option_to_list (note_of (now_of w) p) in
    let rest : List Note = notes_from (world_after w p) (entries_in xs) in
    ap (happenings_ledger (house_after (house_of w) p) xs) (entered_is w p s)
    ∙ ap (λ (k : House). happenings_ledger k xs more) (sym (house_more w p))
    ∙ of_happenings (world_after w p) xs more
    ∙ same (c.entries + 1 + length (entries_in xs)) (c.refused + one_if (is_refused (now_of w) p) + later)
    (c.entries + length (p ∷ entries_in xs)) (c.refused + (one_if (is_refused (now_of w) p) + later))
    (after_notes rest (after_notes first s.notes)) (after_notes (first ++ rest) s.notes)
    (omega arith) (omega arith) (after_both first rest s.notes)
of_happenings w (happening.Ended conn ∷ xs) s = of_happenings w xs s

-- ---- lines behind others

refused-append : (w : World) (ps qs : List Placed) → refused_from w (ps ++ qs) ≡ refused_from w ps + refused_from (worlds_after w ps) qs
refused-append w [] qs = omega arith
refused-append w (p ∷ ps) qs = omega (arith, refused-append (world_after w p) ps qs)

notes-append : (w : World) (ps qs : List Placed) → notes_from w (ps ++ qs) ≡ notes_from w ps ++ notes_from (worlds_after w ps) qs
notes-append w [] qs = refl
notes-append w (p ∷ ps) qs =
    ap (λ (ns : List Note). option_to_list (note_of (now_of w) p) ++ ns) (notes-append (world_after w p) ps qs)
    ∙ sym (append_assoc (option_to_list (note_of (now_of w) p)) (notes_from (world_after w p) ps)
    (notes_from (worlds_after (world_after w p) ps) qs))

entries_behind : (w : World) (ps qs : List Placed) (s : Sheet)
    → with_entries (worlds_after w ps) qs (with_entries w ps s) ≡ with_entries w (ps ++ qs) s
entries_behind w ps qs s =
    let c = s.counts in
    let later : List Note = notes_from (worlds_after w ps) qs in
    same (c.entries + length ps + length qs) (c.refused + refused_from w ps + refused_from (worlds_after w ps) qs)
    (c.entries + length (ps ++ qs)) (c.refused + refused_from w (ps ++ qs))
    (after_notes later (after_notes (notes_from w ps) s.notes)) (after_notes (notes_from w (ps ++ qs)) s.notes)
    (omega (arith, length-append ps qs)) (omega (arith, refused-append w ps qs))
    (after_both (notes_from w ps) later s.notes ∙ ap (λ (ns : List Note). after_notes ns s.notes) (sym (notes-append w ps qs)))

pub of_lines : (r : Run) (is : List Item) (s : Sheet) → ledger_from (desk_of r) is s ≡ with_entries r.world
    (entries_in (happenings_from r is)) s
of_lines r [] s = no_entries r.world s
of_lines r (i ∷ is) s =
    let first : List Happening = (line_in r i).happenings in
    let rest : List Happening = happenings_from (run_after r i) is in
    ap (λ (d : Desk). ledger_from d is (item_ledger (desk_of r) i s)) (desk_past r i)
    ∙ ap (λ (l : Line). ledger_from (desk_of (run_after r i)) is (happenings_ledger (house_of r.world) l.happenings s)) (line_is r i)
    ∙ ap (ledger_from (desk_of (run_after r i)) is) (of_happenings r.world first s)
    ∙ of_lines (run_after r i) is (with_entries r.world (entries_in first) s)
    ∙ entries_behind r.world (entries_in first) (entries_in rest) s
    ∙ ap (λ (ps : List Placed). with_entries r.world ps s) (sym (filter_map-append entry_in first rest))

-- ---- a whole script

ledger_is : (s : Setup) (items : List Item) (kept : Option (List Note))
    → ledger_from (fresh s) items (record { counts = no_counts; notes = kept }) ≡ sheet (length (entries s items)) (refused s items)
    (after_notes (notes s items) kept)
ledger_is s items kept =
    ap (λ (x : Desk). ledger_from x items (record { counts = no_counts; notes = kept })) (fresh_is s)
    ∙ of_lines (run_opening s) items (record { counts = no_counts; notes = kept })
    ∙ same (0 + length (entries s items)) (0 + refused s items) (length (entries s items)) (refused s items)
    (after_notes (notes s items) kept) (after_notes (notes s items) kept) (omega arith) (omega arith) refl

pub counts_is : (s : Setup) (items : List Item) → (ledger_from (fresh s) items blank).counts ≡ record
    { entries = length (entries s items); refused = refused s items }
counts_is s items = ap (λ (x : Sheet). x.counts) (ledger_is s items None)

pub notes_is : (s : Setup) (items : List Item) → (ledger_from (fresh s) items blank_noting).notes ≡ Some (notes s items)
notes_is s items = ap (λ (x : Sheet). x.notes) (ledger_is s items (Some []))

-- ---- for the code: what nobody asked for isn't noted

as_asked_by : (refused : Bool) (does : Option Note) (c : Counts) (kept : Option (List Note))
    → entered refused (asked kept does) (record { counts = c; notes = kept }) ≡ entered refused does (record { counts = c; notes = kept })
as_asked_by refused does c None = refl
as_asked_by refused does c (Some ns) = refl

pub as_asked : (refused : Bool) (does : Option Note) (s : Sheet) → entered refused (asked s.notes does) s ≡ entered refused does s
as_asked refused does s = as_asked_by refused does s.counts s.notes
