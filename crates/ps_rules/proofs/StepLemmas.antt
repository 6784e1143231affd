-- Each step of the walk keeps what stands behind it, and leaves less work.
use Rattle.std.proofs.Common.{◌≡◌, ℕ, suc, ◌+◌, ◌<◌, List, [], ◌∷◌, length, drop, set, Option, Some, None, Result, Ok, Err, refl, sym, ap, ◌∙◌, subst, arith}
use Rattle.std.specs.List.{slice_get}
use Rattle.std.proofs.lemmas.Option.{slice_get_within}
use Rattle.ps_data.specs.Reading.{FailsWith}
use Rattle.ps_rules.specs.declared.clause.Clause.{Clause}
use Rattle.ps_rules.specs.declared.table.Rule.{Rule}
use Rattle.ps_rules.specs.declared.table.Ruleset.{Ruleset}
use Rattle.ps_rules.specs.declared.walk.Tally.{Tally}
use Rattle.ps_rules.specs.declared.marks.Mark.{Mark}
use Rattle.ps_rules.specs.declared.marks.Mark.TheVariants.{New, Open, Done}
use Rattle.ps_rules.specs.declared.walk.Frame.{Frame}
use Rattle.ps_rules.specs.declared.walk.Turn.{Turn}
use Rattle.ps_rules.specs.declared.walk.Turn.TheVariants.{Further, Inner, Over}
use Rattle.ps_rules.specs.declared.fault.RuleFault.{RuleFault}
use Rattle.ps_rules.specs.declared.fault.RuleFault.TheVariants.{UnknownRule, Cycle, Contradiction, NoMemory}
use Rattle.ps_rules.specs.Faults.{walk_fault}
use Rattle.ps_rules.specs.Clauses.{clause_of, bit_of}
use Rattle.ps_rules.specs.Walk.{◌>>>◌, left_on, own, with_inner, set_named, rules_of, or_contradiction, or_unknown, by_clause}
use Rattle.ps_rules.specs.Steps.{rules_in, frame_at, further, by_mark, by_index, by_own, by_name, heard, at_text, turn_in, closed}
use Rattle.ps_rules.proofs.ListLemmas.{rest_at, item_at}
use Rattle.ps_rules.proofs.IndexLemmas.{named_below}
use Rattle.ps_rules.proofs.TallyLemmas.{same_err}
use Rattle.ps_rules.proofs.StackLemmas.{opens, done, found, by_marks, with_index, opened, inside, whole, weighed, weighed_set, goes_wrong, open_cycle, fault_of_all, Stands, stands_mark, stands_further, stands_inner, stands_over, whole_over}

-- ---- what a step says of its text

same_further : (a b : Frame) → ◌≡◌ {A = Result Turn RuleFault} (Ok (Further a)) (Ok (Further b)) → a ≡ b
same_further a b e = cc

same_inner : (a b : ℕ) → ◌≡◌ {A = Result Turn RuleFault} (Ok (Inner a)) (Ok (Inner b)) → a ≡ b
same_inner a b e = cc

same_over : (a b : ℕ) → ◌≡◌ {A = Result Turn RuleFault} (Ok (Over a)) (Ok (Over b)) → a ≡ b
same_over a b e = cc

further_by_mark : (id : List ℕ) (f : Frame) (p : ℕ) (o : Option Mark) (g : Frame) → by_mark id f p o ≡ Ok (Further g)
    → (u : Tally) × (g ≡ further f u) × ((found id (done o) >>> λ clauses. Ok (with_inner f.tally clauses)) ≡ Ok u)
further_by_mark id f p None g e = absurd cc
further_by_mark id f p (Some New) g e = absurd cc
further_by_mark id f p (Some Open) g e = absurd cc
further_by_mark id f p (Some (Done clauses)) g e = (with_inner f.tally clauses, sym (same_further (further f (with_inner f.tally clauses)) g e), refl)

further_by_index : (marks : List Mark) (id : List ℕ) (f : Frame) (o : Option ℕ) (g : Frame) → by_index marks id f o ≡ Ok (Further g)
    → (u : Tally) × (g ≡ further f u) × (or_unknown (by_marks marks) id f.tally o ≡ Ok u)
further_by_index marks id f None g e = absurd cc
further_by_index marks id f (Some p) g e = further_by_mark id f p (slice_get marks p) g e

further_by_own : (id : List ℕ) (f : Frame) (o : Option Tally) (g : Frame) → by_own id f o ≡ Ok (Further g) → (u : Tally) × (g ≡ further f u) × (or_contradiction id o ≡ Ok u)
further_by_own id f None g e = absurd cc
further_by_own id f (Some t) g e = (t, sym (same_further (further f t) g e), refl)

further_by_name : (sets : List Ruleset) (marks : List Mark) (f : Frame) (r : Rule) (o : Option Clause) (g : Frame) → by_name sets marks f r o ≡ Ok (Further g)
    → (u : Tally) × (g ≡ further f u) × (by_clause sets (by_marks marks) f.tally r o ≡ Ok u)
further_by_name sets marks f r (Some clause) g e = further_by_own r.id f (own f.tally (bit_of clause) r.repeals) g e
further_by_name sets marks f r None g e = further_by_index marks r.id f (set_named sets r) g e

inner_by_mark : (id : List ℕ) (f : Frame) (q : ℕ) (o : Option Mark) (p : ℕ) → by_mark id f q o ≡ Ok (Inner p) → (q ≡ p) × (o ≡ Some New)
inner_by_mark id f q None p e = absurd cc
inner_by_mark id f q (Some New) p e = (same_inner q p e, refl)
inner_by_mark id f q (Some Open) p e = absurd cc
inner_by_mark id f q (Some (Done clauses)) p e = absurd cc

inner_by_index : (marks : List Mark) (id : List ℕ) (f : Frame) (o : Option ℕ) (p : ℕ) → by_index marks id f o ≡ Ok (Inner p) → (o ≡ Some p) × (slice_get marks p ≡ Some New)
inner_by_index marks id f None p e = absurd cc
inner_by_index marks id f (Some q) p e =
    let w = inner_by_mark id f q (slice_get marks q) p e in
    (ap (λ (n : ℕ). Some n) w.0, ap (λ (n : ℕ). slice_get marks n) (sym w.0) ∙ w.1)

inner_by_own : (id : List ℕ) (f : Frame) (o : Option Tally) (p : ℕ) → by_own id f o ≡ Ok (Inner p) → ⊥
inner_by_own id f None p e = cc
inner_by_own id f (Some t) p e = cc

inner_by_name : (sets : List Ruleset) (marks : List Mark) (f : Frame) (r : Rule) (o : Option Clause) (p : ℕ) → by_name sets marks f r o ≡ Ok (Inner p)
    → (o ≡ None) × (set_named sets r ≡ Some p) × (slice_get marks p ≡ Some New)
inner_by_name sets marks f r (Some clause) p e = absurd (inner_by_own r.id f (own f.tally (bit_of clause) r.repeals) p e)
inner_by_name sets marks f r None p e = let w = inner_by_index marks r.id f (set_named sets r) p e in (refl, w.0, w.1)

over_by_mark : (id : List ℕ) (f : Frame) (q : ℕ) (o : Option Mark) (clauses : ℕ) → by_mark id f q o ≡ Ok (Over clauses) → ⊥
over_by_mark id f q None clauses e = cc
over_by_mark id f q (Some New) clauses e = cc
over_by_mark id f q (Some Open) clauses e = cc
over_by_mark id f q (Some (Done other)) clauses e = cc

over_by_index : (marks : List Mark) (id : List ℕ) (f : Frame) (o : Option ℕ) (clauses : ℕ) → by_index marks id f o ≡ Ok (Over clauses) → ⊥
over_by_index marks id f None clauses e = cc
over_by_index marks id f (Some q) clauses e = over_by_mark id f q (slice_get marks q) clauses e

over_by_own : (id : List ℕ) (f : Frame) (o : Option Tally) (clauses : ℕ) → by_own id f o ≡ Ok (Over clauses) → ⊥
over_by_own id f None clauses e = cc
over_by_own id f (Some t) clauses e = cc

over_by_name : (sets : List Ruleset) (marks : List Mark) (f : Frame) (r : Rule) (o : Option Clause) (clauses : ℕ) → by_name sets marks f r o ≡ Ok (Over clauses) → ⊥
over_by_name sets marks f r (Some clause) clauses e = over_by_own r.id f (own f.tally (bit_of clause) r.repeals) clauses e
over_by_name sets marks f r None clauses e = over_by_index marks r.id f (set_named sets r) clauses e

wrong_by_own : (id : List ℕ) (f : Frame) (o : Option Tally) (fault : RuleFault) → by_own id f o ≡ Err fault → or_contradiction id o ≡ Err fault
wrong_by_own id f None fault e = ap (λ (x : RuleFault). Err x) (same_err (Contradiction id) fault e)
wrong_by_own id f (Some t) fault e = absurd cc

module _ (sets : List Ruleset) (first : List Rule) (marks : List Mark) (f : Frame) (frames : List Frame) (s : Stands sets first marks f frames) where
  wrong_by_mark : (id : List ℕ) (p : ℕ) (o : Option Mark) (fault : RuleFault) → slice_get marks p ≡ o → p < length marks → by_mark id f p o ≡ Err fault
      → (inside sets (with_index f.index (opened frames)) id p >>> λ clauses. Ok (with_inner f.tally clauses)) ≡ Err fault
  wrong_by_mark id p None fault is_mark lt e = absurd (let there = item_at marks p lt in let k : None ≡ Some there.0 = sym is_mark ∙ there.1 in cc)
  wrong_by_mark id p (Some New) fault is_mark lt e = absurd cc
  wrong_by_mark id p (Some Open) fault is_mark lt e =
      let indices = with_index f.index (opened frames) in
      ap (λ (o : Result ℕ RuleFault). o >>> λ clauses. Ok (with_inner f.tally clauses)) (open_cycle (drop (length indices) sets) sets indices id p (s.open_marks p ∙ ap opens is_mark))
      ∙ ap (λ (x : RuleFault). Err x) (same_err (Cycle id) fault e)
  wrong_by_mark id p (Some (Done clauses)) fault is_mark lt e = absurd cc

  wrong_by_index : (id : List ℕ) (o : Option ℕ) (fault : RuleFault) → ((p : ℕ) → o ≡ Some p → p < length marks) → by_index marks id f o ≡ Err fault → or_unknown (inside sets (with_index f.index (opened frames))) id f.tally o ≡ Err fault
  wrong_by_index id None fault below e = ap (λ (x : RuleFault). Err x) (same_err (UnknownRule id) fault e)
  wrong_by_index id (Some p) fault below e = wrong_by_mark id p (slice_get marks p) fault refl (below p refl) e

  wrong_by_name : (r : Rule) (o : Option Clause) (fault : RuleFault) → by_name sets marks f r o ≡ Err fault → by_clause sets (inside sets (with_index f.index (opened frames))) f.tally r o ≡ Err fault
  wrong_by_name r (Some clause) fault e = wrong_by_own r.id f (own f.tally (bit_of clause) r.repeals) fault e
  wrong_by_name r None fault e = wrong_by_index r.id (set_named sets r) fault (λ p names. omega (arith, named_below sets r p names, s.sized)) e

-- ---- the steps

module _ (sets : List Ruleset) (first : List Rule) (marks : List Mark) (f : Frame) where
  -- the text that a step is at
  further_at : (o : Option Rule) (g : Frame) → at_text sets marks f o ≡ Ok (Further g) → (r : Rule) × (u : Tally) × (o ≡ Some r) × (g ≡ further f u) × (by_clause sets (by_marks marks) f.tally r (clause_of r.id) ≡ Ok u)
  unfolding heard
  further_at None g e = absurd cc
  further_at (Some r) g e = let w = further_by_name sets marks f r (clause_of r.id) g e in (r, w.0, refl, w.1, w.2)

  inner_at : (o : Option Rule) (p : ℕ) → at_text sets marks f o ≡ Ok (Inner p) → (r : Rule) × (o ≡ Some r) × (clause_of r.id ≡ None) × (set_named sets r ≡ Some p) × (slice_get marks p ≡ Some New)
  unfolding heard
  inner_at None p e = absurd cc
  inner_at (Some r) p e = let w = inner_by_name sets marks f r (clause_of r.id) p e in (r, refl, w.0, w.1, w.2)

  over_at : (o : Option Rule) (clauses : ℕ) → at_text sets marks f o ≡ Ok (Over clauses) → (o ≡ None) × (left_on f.tally ≡ clauses)
  unfolding heard
  over_at None clauses e = (refl, same_over (left_on f.tally) clauses e)
  over_at (Some r) clauses e = absurd (over_by_name sets marks f r (clause_of r.id) clauses e)

  wrong_at : (o : Option Rule) (fault : RuleFault) → at_text sets marks f o ≡ Err fault → (r : Rule) × (o ≡ Some r) × (by_name sets marks f r (clause_of r.id) ≡ Err fault)
  unfolding heard
  wrong_at None fault e = absurd cc
  wrong_at (Some r) fault e = (r, refl, e)

  at_further : (g : Frame) → turn_in sets marks first f ≡ Ok (Further g) → (r : Rule) × (u : Tally) × (slice_get (rules_in sets first f.index) f.next ≡ Some r) × (g ≡ further f u) × (by_clause sets (by_marks marks) f.tally r (clause_of r.id) ≡ Ok u)
  unfolding turn_in
  at_further g e = further_at (slice_get (rules_in sets first f.index) f.next) g e

  at_inner : (p : ℕ) → turn_in sets marks first f ≡ Ok (Inner p) → (r : Rule) × (slice_get (rules_in sets first f.index) f.next ≡ Some r) × (clause_of r.id ≡ None) × (set_named sets r ≡ Some p) × (slice_get marks p ≡ Some New)
  unfolding turn_in
  at_inner p e = inner_at (slice_get (rules_in sets first f.index) f.next) p e

  at_over : (clauses : ℕ) → turn_in sets marks first f ≡ Ok (Over clauses) → (slice_get (rules_in sets first f.index) f.next ≡ None) × (left_on f.tally ≡ clauses)
  unfolding turn_in
  at_over clauses e = over_at (slice_get (rules_in sets first f.index) f.next) clauses e

  at_wrong : (fault : RuleFault) → turn_in sets marks first f ≡ Err fault → (r : Rule) × (slice_get (rules_in sets first f.index) f.next ≡ Some r) × (by_name sets marks f r (clause_of r.id) ≡ Err fault)
  unfolding turn_in
  at_wrong fault e = wrong_at (slice_get (rules_in sets first f.index) f.next) fault e

  pub inner_within : (p : ℕ) → turn_in sets marks first f ≡ Ok (Inner p) → p < length marks
  inner_within p e = slice_get_within marks p New (at_inner p e).4

  module _ (frames : List Frame) (s : Stands sets first marks f frames) where
    pub further_stands : (g : Frame) → turn_in sets marks first f ≡ Ok (Further g) → Stands sets first marks g frames
    further_stands g e =
        let w = at_further g e in
        subst (λ (x : Frame). Stands sets first marks x frames) (sym w.3) (stands_further sets first marks f frames w.0 w.1 s w.2 w.4)

    pub inner_stands : (p : ℕ) → turn_in sets marks first f ≡ Ok (Inner p) → Stands sets first (set marks p Open) (frame_at (Some p)) (f ∷ frames)
    inner_stands p e = let w = at_inner p e in stands_inner sets first marks f frames w.0 p s w.1 w.2 w.3 w.4

    pub wrong_finds : (fault : RuleFault) → turn_in sets marks first f ≡ Err fault → whole sets first ≡ Err fault
    wrong_finds fault e =
        let w = at_wrong fault e in
        fault_of_all sets first marks f frames fault s.chained (goes_wrong sets first (with_index f.index (opened frames)) f w.0 fault w.1 (wrong_by_name sets first marks f frames s w.0 (clause_of w.0.id) fault w.2))

  pub over_stands : (g : Frame) (frames : List Frame) → Stands sets first marks f (g ∷ frames) → (clauses : ℕ) → turn_in sets marks first f ≡ Ok (Over clauses) → Stands sets first (closed marks f.index clauses) g frames
  over_stands g frames s clauses e =
      let w = at_over clauses e in
      subst (λ (c : ℕ). Stands sets first (closed marks f.index c) g frames) w.1 (stands_over sets first marks f g frames s w.0)

  pub over_within : (g : Frame) (frames : List Frame) → Stands sets first marks f (g ∷ frames) → (p : ℕ) × (f.index ≡ Some p) × (p < length marks)
  over_within g frames s = (s.chained.0.ruleset_index, s.chained.0.is_index, slice_get_within marks s.chained.0.ruleset_index Open (stands_mark sets first marks f g frames s))

  pub over_finds : Stands sets first marks f [] → (clauses : ℕ) → turn_in sets marks first f ≡ Ok (Over clauses) → whole sets first ≡ Ok clauses
  over_finds s clauses e = let w = at_over clauses e in whole_over sets first marks f s w.0 ∙ ap (λ (c : ℕ). Ok c) w.1

-- ---- the work that is left: texts of the lists on the stack, and of rulesets that weren't met

abbrev pub to_enter : Ruleset → Mark → ℕ
to_enter s New = length s.rules + 2
to_enter s Open = 0
to_enter s (Done clauses) = 0

abbrev pub left_in : List Ruleset → List Rule → Frame → ℕ
left_in sets first f = length (drop f.next (rules_in sets first f.index)) + 1

abbrev pub left_in_all : List Ruleset → List Rule → List Frame → ℕ
left_in_all sets first [] = 0
left_in_all sets first (f ∷ frames) = left_in sets first f + left_in_all sets first frames

pub work : List Ruleset → List Rule → List Mark → Frame → List Frame → ℕ
work sets first marks f frames = weighed to_enter sets marks + left_in_all sets first (f ∷ frames)

module _ (sets : List Ruleset) (first : List Rule) (marks : List Mark) (f : Frame) (frames : List Frame) where
  pub further_less : (g : Frame) → turn_in sets marks first f ≡ Ok (Further g) → work sets first marks g frames < work sets first marks f frames
  unfolding work
  further_less g e =
      let w = at_further sets first marks f g e in
      let rules = rules_in sets first f.index in
      let one : f.next + 1 ≡ suc f.next = omega arith in
      let before : length (drop f.next rules) ≡ suc (length (drop (suc f.next) rules)) = ap length (rest_at rules f.next w.0 w.2) in
      let after : length (drop g.next (rules_in sets first g.index)) ≡ length (drop (suc f.next) rules) = ap (λ (x : Frame). length (drop x.next (rules_in sets first x.index))) w.3 ∙ ap (λ (n : ℕ). length (drop n rules)) one in
      omega (arith, before, after)

  pub inner_less : (p : ℕ) → length marks ≡ length sets → turn_in sets marks first f ≡ Ok (Inner p) → work sets first (set marks p Open) (frame_at (Some p)) (f ∷ frames) < work sets first marks f frames
  unfolding work
  inner_less p sized e =
      let w = at_inner sets first marks f p e in
      let there = item_at sets p (omega (arith, slice_get_within marks p New w.4, sized)) in
      let less : weighed to_enter sets (set marks p Open) + (length there.0.rules + 2) ≡ weighed to_enter sets marks + 0 = weighed_set to_enter sets marks p there.0 New Open there.1 w.4 in
      let its : length (rules_of (slice_get sets p)) ≡ length there.0.rules = ap (λ (o : Option Ruleset). length (rules_of o)) there.1 in
      omega (arith, less, its)

over_same : (sets : List Ruleset) (first : List Rule) (marks : List Mark) (f g : Frame) (frames : List Frame) → Stands sets first marks f (g ∷ frames) → (clauses : ℕ) → weighed to_enter sets (closed marks f.index clauses) ≡ weighed to_enter sets marks
over_same sets first marks f g frames s clauses =
    let p = s.chained.0.ruleset_index in
    let is_mark = stands_mark sets first marks f g frames s in
    let there = item_at sets p (omega (arith, slice_get_within marks p Open is_mark, s.sized)) in
    let same : weighed to_enter sets (set marks p (Done clauses)) + 0 ≡ weighed to_enter sets marks + 0 = weighed_set to_enter sets marks p there.0 Open (Done clauses) there.1 is_mark in
    let here : weighed to_enter sets (closed marks f.index clauses) ≡ weighed to_enter sets (set marks p (Done clauses)) = ap (λ (o : Option ℕ). weighed to_enter sets (closed marks o clauses)) s.chained.0.is_index in
    omega (arith, same, here)

pub over_less : (sets : List Ruleset) (first : List Rule) (marks : List Mark) (f g : Frame) (frames : List Frame) → Stands sets first marks f (g ∷ frames) → (clauses : ℕ)
    → work sets first (closed marks f.index clauses) g frames < work sets first marks f (g ∷ frames)
unfolding work
over_less sets first marks f g frames s clauses = omega (arith, over_same sets first marks f g frames s clauses)

-- ---- the answer

-- what fails so, where each fault of one is a fault of the other
pub fails_alike : {A B : Type 0} (fault : RuleFault) (one : Result A RuleFault) (other : Result B RuleFault) → ((x : RuleFault) → one ≡ Err x → other ≡ Err x) → FailsWith (walk_fault fault) one → FailsWith (walk_fault fault) other
fails_alike NoMemory one other same h = tt
fails_alike (UnknownRule id) one other same h = same (UnknownRule id) h
fails_alike (Cycle id) one other same h = same (Cycle id) h
fails_alike (Contradiction id) one other same h = same (Contradiction id) h
