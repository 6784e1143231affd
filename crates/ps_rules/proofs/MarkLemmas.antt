-- What the map of the marks that were met tells of the list of all.
use Rattle.std.proofs.Common.{◌≡◌, ℕ, zero, suc, ◌+◌, ◌<◌, ◌≤◌, false, List, [], ◌∷◌, length, set, replicate, Option, Some, None, refl, sym, ap, ◌∙◌, arith}
use Rattle.std.specs.List.{slice_get}
use Rattle.std.specs.Ordering.{nat_cmp, is_eq}
use Rattle.std.specs.declared.cmp.Ordering.{Ordering}
use Rattle.std.specs.declared.cmp.Ordering.TheVariants.{Less, Equal, Greater}
use Rattle.std.specs.BTreeMap.{BTreeMap, get, Updates}
use Rattle.std.proofs.lemmas.Cmp.{ranked}
use Rattle.std.proofs.lemmas.Option.{slice_get_past}
use Rattle.ps_rules.specs.declared.marks.Mark.{Mark}
use Rattle.ps_rules.specs.declared.marks.Mark.TheVariants.{New}
use Rattle.ps_rules.specs.Marks.{mark_or_new, marks_from}

-- ---- another number is another key

other_by : (r : Ordering) (a b : ℕ) → r ≡ nat_cmp a b → (a ≡ b → ⊥) → is_eq r ≡ false
other_by Less a b e h = refl
other_by Equal a b e h = absurd (h (ranked a b Equal e))
other_by Greater a b e h = refl

is_other : (a b : ℕ) → (a ≡ b → ⊥) → is_eq (nat_cmp a b) ≡ false
is_other a b h = other_by (nat_cmp a b) a b refl h

-- ---- no mark, one mark, and one mark set

pub none_met : (met : BTreeMap ℕ Mark) (i count : ℕ) → met.entries ≡ [] → marks_from met i count ≡ replicate count New
none_met met i zero e = refl
none_met met i (suc count) e = rw e (ap (λ (ms : List Mark). New ∷ ms) (none_met met (suc i) count e))

pub counted : (met : BTreeMap ℕ Mark) (i count : ℕ) → length (marks_from met i count) ≡ count
counted met i zero = refl
counted met i (suc count) = ap suc (counted met (suc i) count)

mark_from : (met : BTreeMap ℕ Mark) (i count k : ℕ) → k < count → slice_get (marks_from met i count) k ≡ Some (mark_or_new (get nat_cmp met (i + k)))
mark_from met i zero k lt = absurd (omega arith)
mark_from met i (suc count) zero lt = ap (λ (n : ℕ). Some (mark_or_new (get nat_cmp met n))) (omega arith)
mark_from met i (suc count) (suc k) lt = mark_from met (suc i) count k (omega arith) ∙ ap (λ (n : ℕ). Some (mark_or_new (get nat_cmp met n))) (omega arith)

pub mark_at : (met : BTreeMap ℕ Mark) (count k : ℕ) (mark : Option Mark) → k < count → mark ≡ get nat_cmp met k → slice_get (marks_from met 0 count) k ≡ Some (mark_or_new mark)
mark_at met count k mark lt e = mark_from met 0 count k lt ∙ ap (λ (o : Option Mark). Some (mark_or_new o)) (ap (get nat_cmp met) (omega arith) ∙ sym e)

pub no_mark_at : (met : BTreeMap ℕ Mark) (count k : ℕ) → count ≤ k → slice_get (marks_from met 0 count) k ≡ None
no_mark_at met count k le = slice_get_past (marks_from met 0 count) k (omega (arith, counted met 0 count, le))

same_from : (old new : BTreeMap ℕ Mark) (i count : ℕ) → ((q : ℕ) → i ≤ q → get nat_cmp new q ≡ get nat_cmp old q) → marks_from new i count ≡ marks_from old i count
same_from old new i zero same = refl
same_from old new i (suc count) same =
    rw (same i (omega arith)) (ap (λ (ms : List Mark). mark_or_new (get nat_cmp old i) ∷ ms) (same_from old new (suc i) count (λ q le. same q (omega (arith, le)))))

set_from : (old new : BTreeMap ℕ Mark) (i count k : ℕ) (mark : Mark) → k < count → Updates nat_cmp old new (i + k) (Some mark) → marks_from new i count ≡ set (marks_from old i count) k mark
set_from old new i zero k mark lt u = absurd (omega arith)
set_from old new i (suc count) zero mark lt u =
    let here : get nat_cmp new i ≡ Some mark = ap (get nat_cmp new) (omega arith) ∙ u.1 in
    rw here (ap (λ (ms : List Mark). mark ∷ ms) (same_from old new (suc i) count (λ q le. u.2 q (is_other (i + 0) q (λ e. omega (arith, le, e))))))
set_from old new i (suc count) (suc k) mark lt u =
    let one : i + suc k ≡ suc i + k = omega arith in
    let here : get nat_cmp new i ≡ get nat_cmp old i = u.2 i (is_other (i + suc k) i (λ e. omega (arith, e))) in
    rw here (ap (λ (ms : List Mark). mark_or_new (get nat_cmp old i) ∷ ms) (set_from old new (suc i) count k mark (omega arith) (rw one at u)))

pub mark_set : (old new : BTreeMap ℕ Mark) (count k : ℕ) (mark : Mark) → k < count → Updates nat_cmp old new k (Some mark) → marks_from new 0 count ≡ set (marks_from old 0 count) k mark
mark_set old new count k mark lt u = set_from old new 0 count k mark lt (let zero_on : k ≡ 0 + k = omega arith in rw (sym zero_on) u)
