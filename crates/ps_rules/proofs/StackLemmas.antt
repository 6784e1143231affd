-- The stack of lists and the marks of rulesets: what stands behind each step of the walk.
use Rattle.std.proofs.Common.{◌≡◌, ℕ, zero, suc, ◌+◌, ◌<◌, ◌≤◌, Bool, true, false, ◌||◌, List, [], ◌∷◌, length, take, drop, set, replicate, Option, Some, None, Result, Ok, Err, refl, sym, ap, ◌∙◌, subst, inl, inr, arith}
use Rattle.std.specs.List.{slice_get}
use Rattle.std.proofs.lemmas.List.{length-drop, length-set, length-replicate}
use Rattle.std.proofs.lemmas.Option.{same_Some, slice_get_within}
use Rattle.std.proofs.lemmas.Bool.Decides.{eqb_tells}
use Rattle.std.proofs.lemmas.Bool.{false_from_ne_true, eq-eqb}
use Rattle.ps_rules.specs.declared.table.Rule.{Rule}
use Rattle.ps_rules.specs.declared.table.Ruleset.{Ruleset}
use Rattle.ps_rules.specs.declared.walk.Tally.{Tally}
use Rattle.ps_rules.specs.declared.marks.Mark.{Mark}
use Rattle.ps_rules.specs.declared.marks.Mark.TheVariants.{New, Open, Done}
use Rattle.ps_rules.specs.declared.walk.Frame.{Frame}
use Rattle.ps_rules.specs.declared.fault.RuleFault.{RuleFault}
use Rattle.ps_rules.specs.declared.fault.RuleFault.TheVariants.{Cycle}
use Rattle.ps_rules.specs.Clauses.{clause_of}
use Rattle.ps_rules.specs.Walk.{◌>>>◌, nothing, left_on, with_inner, set_named, rules_of, is_open, or_unknown, by_clause, texts, set_at}
use Rattle.ps_rules.specs.Steps.{rules_in, frame_at, further, closed}
use Rattle.ps_rules.proofs.ListLemmas.{rest_at, rest_past, front_at, front_past, item_at, set_there, set_elsewhere}
use Rattle.ps_rules.proofs.TallyLemmas.{Inside, Agrees, same_ok, tallied, texts_tallied, tallied_more, clause_agrees, tallied_agrees}

-- ---- marks

abbrev pub opens : Option Mark → Bool
opens None = false
opens (Some New) = false
opens (Some Open) = true
opens (Some (Done clauses)) = false

abbrev pub done : Option Mark → Option ℕ
done None = None
done (Some New) = None
done (Some Open) = None
done (Some (Done clauses)) = Some clauses

abbrev pub found : List ℕ → Option ℕ → Result ℕ RuleFault
found id None = Err (Cycle id)
found id (Some clauses) = Ok clauses

-- what the marks alone tell
abbrev pub by_marks : List Mark → Inside
by_marks marks id index = found id (done (slice_get marks index))

found_done : (id : List ℕ) (o : Option ℕ) (clauses : ℕ) → found id o ≡ Ok clauses → o ≡ Some clauses
found_done id None clauses e = absurd cc
found_done id (Some other) clauses e = ap (λ (c : ℕ). Some c) (same_ok other clauses e)

open_undone : (o : Option Mark) → opens o ≡ true → done o ≡ None
open_undone None e = refl
open_undone (Some New) e = refl
open_undone (Some Open) e = refl
open_undone (Some (Done clauses)) e = absurd cc

pub open_is : (o : Option Mark) → opens o ≡ true → o ≡ Some Open
open_is None e = absurd cc
open_is (Some New) e = absurd cc
open_is (Some Open) e = refl
open_is (Some (Done clauses)) e = absurd cc

-- ---- sums over rulesets and their marks

abbrev pub weighed : (Ruleset → Mark → ℕ) → List Ruleset → List Mark → ℕ
weighed weight [] marks = 0
weighed weight (s ∷ sets) [] = 0
weighed weight (s ∷ sets) (m ∷ marks) = weight s m + weighed weight sets marks

pub weighed_set : (weight : Ruleset → Mark → ℕ) (sets : List Ruleset) (marks : List Mark) (p : ℕ) (s : Ruleset) (old new : Mark) → slice_get sets p ≡ Some s → slice_get marks p ≡ Some old
    → weighed weight sets (set marks p new) + weight s old ≡ weighed weight sets marks + weight s new
weighed_set weight [] marks p s old new is_set is_mark = absurd cc
weighed_set weight (t ∷ sets) [] p s old new is_set is_mark = absurd cc
weighed_set weight (t ∷ sets) (m ∷ marks) zero s old new is_set is_mark =
    let a : weight t new ≡ weight s new = ap (λ (x : Ruleset). weight x new) (same_Some t s is_set) in
    let b : weight t m ≡ weight s old = ap (λ (x : Ruleset). weight x m) (same_Some t s is_set) ∙ ap (λ (x : Mark). weight s x) (same_Some m old is_mark) in
    omega arith
weighed_set weight (t ∷ sets) (m ∷ marks) (suc p) s old new is_set is_mark = omega (arith, weighed_set weight sets marks p s old new is_set is_mark)

abbrev pub is_new : Ruleset → Mark → ℕ
is_new s New = 1
is_new s Open = 0
is_new s (Done clauses) = 0

abbrev pub is_done : Ruleset → Mark → ℕ
is_done s New = 0
is_done s Open = 0
is_done s (Done clauses) = 1

all_new : (sets : List Ruleset) → weighed is_new sets (replicate (length sets) New) ≡ length sets
all_new [] = refl
all_new (s ∷ sets) = omega (arith, all_new sets)

none_done : (sets : List Ruleset) → weighed is_done sets (replicate (length sets) New) ≡ 0
none_done [] = refl
none_done (s ∷ sets) = omega (arith, none_done sets)

not_open : (n q : ℕ) → opens (slice_get (replicate n New) q) ≡ false
not_open zero q = refl
not_open (suc n) zero = refl
not_open (suc n) (suc q) = not_open n q

not_done : (n q : ℕ) → done (slice_get (replicate n New) q) ≡ None
not_done zero q = refl
not_done (suc n) zero = refl
not_done (suc n) (suc q) = not_done n q

-- ---- lists that are open

abbrev pub with_index : Option ℕ → List ℕ → List ℕ
with_index None indices = indices
with_index (Some index) indices = index ∷ indices

-- the indices of the rulesets of lists, the innermost first
abbrev pub opened : List Frame → List ℕ
opened [] = []
opened (f ∷ frames) = with_index f.index (opened frames)

-- what a ruleset leaves on inside those at `indices`
abbrev pub inside : List Ruleset → List ℕ → Inside
inside sets indices = set_at (drop (length indices) sets) sets indices

-- what the rest of a list makes of its tally so far
abbrev pub goes_on : List Ruleset → List Rule → List ℕ → Frame → Result ℕ RuleFault
goes_on sets first indices f = texts sets (inside sets indices) f.tally (drop f.next (rules_in sets first f.index))

abbrev pub whole : List Ruleset → List Rule → Result ℕ RuleFault
whole sets first = texts sets (set_at sets sets []) nothing first

module _ (sets : List Ruleset) (first : List Rule) (indices : List ℕ) (f : Frame) where
  pub goes_further : (r : Rule) (u : Tally) → slice_get (rules_in sets first f.index) f.next ≡ Some r → by_clause sets (inside sets indices) f.tally r (clause_of r.id) ≡ Ok u
      → goes_on sets first indices f ≡ goes_on sets first indices (further f u)
  goes_further r u text said =
      let rules = rules_in sets first f.index in
      let one : suc f.next ≡ f.next + 1 = omega arith in
      ap (λ (rest : List Rule). texts sets (inside sets indices) f.tally rest) (rest_at rules f.next r text)
      ∙ ap (λ (o : Result Tally RuleFault). o >>> λ t. texts sets (inside sets indices) t (drop (suc f.next) rules)) said
      ∙ ap (λ (n : ℕ). texts sets (inside sets indices) u (drop n rules)) one

  pub goes_wrong : (r : Rule) (fault : RuleFault) → slice_get (rules_in sets first f.index) f.next ≡ Some r → by_clause sets (inside sets indices) f.tally r (clause_of r.id) ≡ Err fault
      → goes_on sets first indices f ≡ Err fault
  goes_wrong r fault text said =
      let rules = rules_in sets first f.index in
      ap (λ (rest : List Rule). texts sets (inside sets indices) f.tally rest) (rest_at rules f.next r text)
      ∙ ap (λ (o : Result Tally RuleFault). o >>> λ t. texts sets (inside sets indices) t (drop (suc f.next) rules)) said

  pub goes_over : slice_get (rules_in sets first f.index) f.next ≡ None → goes_on sets first indices f ≡ Ok (left_on f.tally)
  goes_over past = ap (λ (rest : List Rule). texts sets (inside sets indices) f.tally rest) (rest_past (rules_in sets first f.index) f.next past)

-- a ruleset that isn't open is entered
entered_by : (d : Ruleset) (deeper sets : List Ruleset) (indices : List ℕ) (id : List ℕ) (p : ℕ) → is_open p indices ≡ false
    → set_at (d ∷ deeper) sets indices id p ≡ texts sets (set_at deeper sets (p ∷ indices)) nothing (rules_of (slice_get sets p))
entered_by d deeper sets indices id p e = rw e refl

pub enters : (sets : List Ruleset) (indices : List ℕ) (id : List ℕ) (p : ℕ) → length indices < length sets → is_open p indices ≡ false
    → inside sets indices id p ≡ texts sets (inside sets (p ∷ indices)) nothing (rules_of (slice_get sets p))
enters sets indices id p room e =
    let there = item_at sets (length indices) room in
    ap (λ (deeper : List Ruleset). set_at deeper sets indices id p) (rest_at sets (length indices) there.0 there.1)
    ∙ entered_by there.0 (drop (suc (length indices)) sets) sets indices id p e

-- one that is open is a cycle
pub open_cycle : (deeper sets : List Ruleset) (indices : List ℕ) (id : List ℕ) (p : ℕ) → is_open p indices ≡ true → set_at deeper sets indices id p ≡ Err (Cycle id)
open_cycle [] sets indices id p e = refl
open_cycle (d ∷ deeper) sets indices id p e = rw e refl

-- ---- what the marks say

abbrev pub NoneDone : List Mark → List ℕ → Type 0
NoneDone marks indices = (q : ℕ) → is_open q indices ≡ true → done (slice_get marks q) ≡ None

-- A ruleset that is done leaves on what its mark says, wherever it is met: inside none that is done, and with an item of
-- `deeper` for each that is.
abbrev pub Sound : List Ruleset → List Mark → Type 0
Sound sets marks = (id : List ℕ) (q clauses : ℕ) (deeper : List Ruleset) (indices : List ℕ) → done (slice_get marks q) ≡ Some clauses → NoneDone marks indices → weighed is_done sets marks ≤ length deeper
    → set_at deeper sets indices id q ≡ Ok clauses

sound_agrees : (sets : List Ruleset) (marks : List Mark) → Sound sets marks → (deeper : List Ruleset) (indices : List ℕ) → NoneDone marks indices → weighed is_done sets marks ≤ length deeper
    → Agrees (by_marks marks) (set_at deeper sets indices)
sound_agrees sets marks sound deeper indices none enough = λ id q clauses e. sound id q clauses deeper indices (found_done id (done (slice_get marks q)) clauses e) none enough

-- what is done stays so
abbrev pub Grows : List Mark → List Mark → Type 0
Grows old new = (q clauses : ℕ) → done (slice_get old q) ≡ Some clauses → done (slice_get new q) ≡ Some clauses

grows_agrees : (old new : List Mark) → Grows old new → Agrees (by_marks old) (by_marks new)
grows_agrees old new more = λ id q clauses e. ap (found id) (more q clauses (found_done id (done (slice_get old q)) clauses e))

-- ---- the stack

-- The list of a ruleset that isn't open in the lists around it. Its texts so far say the tally, by what is done alone.
pub record IsInner (sets : List Ruleset) (marks : List Mark) (indices : List ℕ) (f : Frame) : Type 0 where
  pub ruleset_index : ℕ
  pub is_index : f.index ≡ Some ruleset_index
  pub alone : is_open ruleset_index indices ≡ false
  pub so_far : tallied sets (by_marks marks) nothing (take f.next (rules_of (slice_get sets ruleset_index))) ≡ Ok f.tally

-- a fault of a list is one of the list that waits for it
abbrev pub Chained : List Ruleset → List Rule → List Mark → Frame → List Frame → Type 0
Chained sets first marks f [] = goes_on sets first (with_index f.index []) f ≡ whole sets first
Chained sets first marks f (g ∷ frames) =
    IsInner sets marks (with_index g.index (opened frames)) f
    × ((fault : RuleFault) → goes_on sets first (with_index f.index (with_index g.index (opened frames))) f ≡ Err fault → goes_on sets first (with_index g.index (opened frames)) g ≡ Err fault)
    × Chained sets first marks g frames

pub record Stands (sets : List Ruleset) (first : List Rule) (marks : List Mark) (f : Frame) (frames : List Frame) : Type 0 where
  pub sized : length marks ≡ length sets
  pub counted : weighed is_new sets marks + weighed is_done sets marks + length (with_index f.index (opened frames)) ≡ length sets
  pub open_marks : (q : ℕ) → is_open q (with_index f.index (opened frames)) ≡ opens (slice_get marks q)
  pub sound : Sound sets marks
  pub chained : Chained sets first marks f frames

pub stands_at_first : (sets : List Ruleset) (first : List Rule) → Stands sets first (replicate (length sets) New) (frame_at None) []
stands_at_first sets first = record {
  sized = length-replicate (length sets) New;
  counted = omega (arith, all_new sets, none_done sets);
  open_marks = λ q. sym (not_open (length sets) q);
  sound = λ id q clauses deeper indices e none enough. absurd (let k : None ≡ Some clauses = sym (not_done (length sets) q) ∙ e in cc);
  chained = refl;
}

inner_grows : (sets : List Ruleset) (old new : List Mark) (indices : List ℕ) (f : Frame) → Grows old new → IsInner sets old indices f → IsInner sets new indices f
inner_grows sets old new indices f more i = record {
  ruleset_index = i.ruleset_index;
  is_index = i.is_index;
  alone = i.alone;
  so_far = tallied_agrees sets (by_marks old) (by_marks new) (grows_agrees old new more) nothing (take f.next (rules_of (slice_get sets i.ruleset_index))) f.tally i.so_far;
}

chained_grows : (sets : List Ruleset) (first : List Rule) (old new : List Mark) → Grows old new → (f : Frame) (frames : List Frame) → Chained sets first old f frames → Chained sets first new f frames
chained_grows sets first old new more f [] c = c
chained_grows sets first old new more f (g ∷ frames) c = (inner_grows sets old new (with_index g.index (opened frames)) f more c.0, c.1, chained_grows sets first old new more g frames c.2)

pub fault_of_all : (sets : List Ruleset) (first : List Rule) (marks : List Mark) (f : Frame) (frames : List Frame) (fault : RuleFault) → Chained sets first marks f frames → goes_on sets first (with_index f.index (opened frames)) f ≡ Err fault → whole sets first ≡ Err fault
fault_of_all sets first marks f [] fault c e = sym c ∙ e
fault_of_all sets first marks f (g ∷ frames) fault c e = fault_of_all sets first marks g frames fault c.2 (c.1 fault e)

-- ---- the steps

module _ (sets : List Ruleset) (first : List Rule) (marks : List Mark) (f : Frame) (frames : List Frame) (s : Stands sets first marks f frames) where
  pub enough_left : weighed is_done sets marks ≤ length (drop (length (with_index f.index (opened frames))) sets)
  enough_left = omega (arith, length-drop (length (with_index f.index (opened frames))) sets, s.counted)

  pub stands_agrees : Agrees (by_marks marks) (inside sets (with_index f.index (opened frames)))
  stands_agrees =
      let indices = with_index f.index (opened frames) in
      sound_agrees sets marks s.sound (drop (length indices) sets) indices (λ q e. open_undone (slice_get marks q) (sym (s.open_marks q) ∙ e)) enough_left

so_far_more : (sets : List Ruleset) (first : List Rule) (marks : List Mark) (indices : List ℕ) (f : Frame) (r : Rule) (u : Tally) → slice_get (rules_in sets first f.index) f.next ≡ Some r
    → by_clause sets (by_marks marks) f.tally r (clause_of r.id) ≡ Ok u → IsInner sets marks indices f → IsInner sets marks indices (further f u)
so_far_more sets first marks indices f r u text said i =
    let rules = rules_of (slice_get sets i.ruleset_index) in
    let here : slice_get rules f.next ≡ Some r = ap (λ (o : Option ℕ). slice_get (rules_in sets first o) f.next) (sym i.is_index) ∙ text in
    let one : f.next + 1 ≡ suc f.next = omega arith in
    record {
      ruleset_index = i.ruleset_index;
      is_index = i.is_index;
      alone = i.alone;
      so_far = ap (λ (n : ℕ). tallied sets (by_marks marks) nothing (take n rules)) one ∙ ap (λ (xs : List Rule). tallied sets (by_marks marks) nothing xs) (front_at rules f.next r here) ∙ tallied_more sets (by_marks marks) nothing (take f.next rules) r f.tally u i.so_far said;
    }

chained_further : (sets : List Ruleset) (first : List Rule) (marks : List Mark) (f : Frame) (frames : List Frame) (r : Rule) (u : Tally) → slice_get (rules_in sets first f.index) f.next ≡ Some r
    → by_clause sets (by_marks marks) f.tally r (clause_of r.id) ≡ Ok u → by_clause sets (inside sets (with_index f.index (opened frames))) f.tally r (clause_of r.id) ≡ Ok u
    → Chained sets first marks f frames → Chained sets first marks (further f u) frames
chained_further sets first marks f [] r u text by_mark by_walk c = sym (goes_further sets first (with_index f.index []) f r u text by_walk) ∙ c
chained_further sets first marks f (g ∷ frames) r u text by_mark by_walk c = (
  so_far_more sets first marks (with_index g.index (opened frames)) f r u text by_mark c.0,
  λ fault e. c.1 fault (goes_further sets first (with_index f.index (with_index g.index (opened frames))) f r u text by_walk ∙ e),
  c.2,
)

-- a text that says something by what is done
pub stands_further : (sets : List Ruleset) (first : List Rule) (marks : List Mark) (f : Frame) (frames : List Frame) (r : Rule) (u : Tally) → Stands sets first marks f frames
    → slice_get (rules_in sets first f.index) f.next ≡ Some r → by_clause sets (by_marks marks) f.tally r (clause_of r.id) ≡ Ok u → Stands sets first marks (further f u) frames
stands_further sets first marks f frames r u s text said = record {
  sized = s.sized;
  counted = s.counted;
  open_marks = s.open_marks;
  sound = s.sound;
  chained = chained_further sets first marks f frames r u text said (clause_agrees sets (by_marks marks) (inside sets (with_index f.index (opened frames))) (stands_agrees sets first marks f frames s) f.tally r (clause_of r.id) u said) s.chained;
}

-- ---- a ruleset is entered

module _ (sets : List Ruleset) (marks : List Mark) (p : ℕ) (is_mark : slice_get marks p ≡ Some New) where
  new_within : p < length marks
  new_within = slice_get_within marks p New is_mark

  same_done : (q : ℕ) → done (slice_get (set marks p Open) q) ≡ done (slice_get marks q)
  same_done q = elim (eqb_tells p q) [
    | inl same ↦ ap (λ (n : ℕ). done (slice_get (set marks p Open) n)) (sym same.1) ∙ ap done (set_there marks p Open new_within) ∙ sym (ap done is_mark) ∙ ap (λ (n : ℕ). done (slice_get marks n)) same.1
    | inr other ↦ ap done (set_elsewhere marks p q Open other.1)
  ]

  open_more : (indices : List ℕ) → ((q : ℕ) → is_open q indices ≡ opens (slice_get marks q)) → (q : ℕ) → is_open q (p ∷ indices) ≡ opens (slice_get (set marks p Open) q)
  open_more indices before q = elim (eqb_tells p q) [
    | inl same ↦ ap (λ (b : Bool). b || is_open q indices) same.0 ∙ sym (ap (λ (n : ℕ). opens (slice_get (set marks p Open) n)) (sym same.1) ∙ ap opens (set_there marks p Open new_within))
    | inr other ↦ ap (λ (b : Bool). b || is_open q indices) other.0 ∙ before q ∙ sym (ap opens (set_elsewhere marks p q Open other.1))
  ]

pub stands_inner : (sets : List Ruleset) (first : List Rule) (marks : List Mark) (f : Frame) (frames : List Frame) (r : Rule) (p : ℕ) → Stands sets first marks f frames
    → slice_get (rules_in sets first f.index) f.next ≡ Some r → clause_of r.id ≡ None → set_named sets r ≡ Some p → slice_get marks p ≡ Some New
    → Stands sets first (set marks p Open) (frame_at (Some p)) (f ∷ frames)
stands_inner sets first marks f frames r p s text no_clause names is_mark =
    let indices = with_index f.index (opened frames) in
    let there = item_at sets p (omega (arith, slice_get_within marks p New is_mark, s.sized)) in
    let new : weighed is_new sets (set marks p Open) + 1 ≡ weighed is_new sets marks + 0 = weighed_set is_new sets marks p there.0 New Open there.1 is_mark in
    let done_as_before : weighed is_done sets (set marks p Open) + 0 ≡ weighed is_done sets marks + 0 = weighed_set is_done sets marks p there.0 New Open there.1 is_mark in
    let room : length indices < length sets = omega (arith, s.counted) in
    let closed_yet : is_open p indices ≡ false = s.open_marks p ∙ ap opens is_mark in
    record {
      sized = length-set marks p Open ∙ s.sized;
      counted = omega (arith, s.counted);
      open_marks = open_more sets marks p is_mark indices s.open_marks;
      sound = λ id q clauses deeper around e none enough. s.sound id q clauses deeper around (sym (same_done sets marks p is_mark q) ∙ e) (λ k h. sym (same_done sets marks p is_mark k) ∙ none k h) (omega (arith, enough));
      chained = (
        record { ruleset_index = p; is_index = refl; alone = closed_yet; so_far = refl },
        λ fault e. goes_wrong sets first indices f r fault text (
            ap (by_clause sets (inside sets indices) f.tally r) no_clause
            ∙ ap (or_unknown (inside sets indices) r.id f.tally) names
            ∙ ap (λ (o : Result ℕ RuleFault). o >>> λ clauses. Ok (with_inner f.tally clauses)) (enters sets indices r.id p room closed_yet ∙ e)),
        chained_grows sets first marks (set marks p Open) (λ q clauses e. same_done sets marks p is_mark q ∙ e) f frames s.chained,
      );
    }

-- ---- a ruleset is left

module _ (sets : List Ruleset) (marks : List Mark) (p clauses : ℕ) (is_mark : slice_get marks p ≡ Some Open) where
  open_within : p < length marks
  open_within = slice_get_within marks p Open is_mark

  now_done : done (slice_get (set marks p (Done clauses)) p) ≡ Some clauses
  now_done = ap done (set_there marks p (Done clauses) open_within)

  -- what isn't done now wasn't before
  not_before : (q : ℕ) → done (slice_get (set marks p (Done clauses)) q) ≡ None → done (slice_get marks q) ≡ None
  not_before q e = elim (eqb_tells p q) [
    | inl same ↦ ap (λ (n : ℕ). done (slice_get marks n)) (sym same.1) ∙ ap done is_mark
    | inr other ↦ sym (ap done (set_elsewhere marks p q (Done clauses) other.1)) ∙ e
  ]

  grows : Grows marks (set marks p (Done clauses))
  grows = λ q c e. elim (eqb_tells p q) [
    | inl same ↦ absurd (let k : None ≡ Some c = sym (ap (λ (n : ℕ). done (slice_get marks n)) (sym same.1) ∙ ap done is_mark) ∙ e in cc)
    | inr other ↦ ap done (set_elsewhere marks p q (Done clauses) other.1) ∙ e
  ]

  open_less : (indices : List ℕ) → is_open p indices ≡ false → ((q : ℕ) → is_open q (p ∷ indices) ≡ opens (slice_get marks q)) → (q : ℕ) → is_open q indices ≡ opens (slice_get (set marks p (Done clauses)) q)
  open_less indices alone before q = elim (eqb_tells p q) [
    | inl same ↦ ap (λ (n : ℕ). is_open n indices) (sym same.1) ∙ alone ∙ sym (ap (λ (n : ℕ). opens (slice_get (set marks p (Done clauses)) n)) (sym same.1) ∙ ap opens (set_there marks p (Done clauses) open_within))
    | inr other ↦ sym (ap (λ (b : Bool). b || is_open q indices) other.0) ∙ before q ∙ sym (ap opens (set_elsewhere marks p q (Done clauses) other.1))
  ]

  -- inside a list of this ruleset there is still none that was done
  none_inside : (indices : List ℕ) → NoneDone (set marks p (Done clauses)) indices → NoneDone marks (p ∷ indices)
  none_inside indices none = λ q h. elim (eqb_tells p q) [
    | inl same ↦ ap (λ (n : ℕ). done (slice_get marks n)) (sym same.1) ∙ ap done is_mark
    | inr other ↦ not_before q (none q (sym (ap (λ (b : Bool). b || is_open q indices) other.0) ∙ h))
  ]

  outside : (indices : List ℕ) → NoneDone (set marks p (Done clauses)) indices → is_open p indices ≡ false
  outside indices none = false_from_ne_true (is_open p indices) (λ h. let k : Some clauses ≡ None = sym now_done ∙ none p h in cc)

-- the ruleset that is left leaves on the same wherever it is met
sound_here : (sets : List Ruleset) (marks : List Mark) (p : ℕ) (t : Tally) (is_mark : slice_get marks p ≡ Some Open) → Sound sets marks → tallied sets (by_marks marks) nothing (rules_of (slice_get sets p)) ≡ Ok t
    → (id : List ℕ) (deeper : List Ruleset) (indices : List ℕ) → NoneDone (set marks p (Done (left_on t))) indices → weighed is_done sets marks + 1 ≤ length deeper → set_at deeper sets indices id p ≡ Ok (left_on t)
sound_here sets marks p t is_mark sound said id [] indices none enough = absurd (omega (arith, enough))
sound_here sets marks p t is_mark sound said id (d ∷ deeper) indices none enough =
    let rules = rules_of (slice_get sets p) in
    let less : weighed is_done sets marks ≤ length deeper = omega (arith, enough) in
    let agrees = sound_agrees sets marks sound deeper (p ∷ indices) (none_inside sets marks p (left_on t) is_mark indices none) less in
    entered_by d deeper sets indices id p (outside sets marks p (left_on t) is_mark indices none)
    ∙ texts_tallied sets (set_at deeper sets (p ∷ indices)) nothing rules
    ∙ ap (λ (o : Result Tally RuleFault). o >>> λ u. Ok (left_on u)) (tallied_agrees sets (by_marks marks) (set_at deeper sets (p ∷ indices)) agrees nothing rules t said)

sound_after : (sets : List Ruleset) (marks : List Mark) (p : ℕ) (t : Tally) (is_mark : slice_get marks p ≡ Some Open) → Sound sets marks → tallied sets (by_marks marks) nothing (rules_of (slice_get sets p)) ≡ Ok t
    → weighed is_done sets (set marks p (Done (left_on t))) ≡ weighed is_done sets marks + 1 → Sound sets (set marks p (Done (left_on t)))
sound_after sets marks p t is_mark sound said count = λ id q clauses deeper indices e none enough.
    elim (eqb_tells p q) [
      | inl same ↦
          let is_clauses : left_on t ≡ clauses = same_Some (left_on t) clauses (sym (now_done sets marks p (left_on t) is_mark) ∙ ap (λ (n : ℕ). done (slice_get (set marks p (Done (left_on t))) n)) same.1 ∙ e) in
          ap (λ (n : ℕ). set_at deeper sets indices id n) (sym same.1) ∙ sound_here sets marks p t is_mark sound said id deeper indices none (omega (arith, enough, count)) ∙ ap (λ (c : ℕ). Ok c) is_clauses
      | inr other ↦ sound id q clauses deeper indices (sym (ap done (set_elsewhere marks p q (Done (left_on t)) other.1)) ∙ e) (λ k h. not_before sets marks p (left_on t) is_mark k (none k h)) (omega (arith, enough, count))
    ]

-- the ruleset of a list for which another waits is open
around_open : (sets : List Ruleset) (first : List Rule) (marks : List Mark) (f g : Frame) (frames : List Frame) (s : Stands sets first marks f (g ∷ frames))
    → (q : ℕ) → is_open q (s.chained.0.ruleset_index ∷ with_index g.index (opened frames)) ≡ opens (slice_get marks q)
around_open sets first marks f g frames s = λ q. ap (λ (o : Option ℕ). is_open q (with_index o (with_index g.index (opened frames)))) (sym s.chained.0.is_index) ∙ s.open_marks q

pub stands_mark : (sets : List Ruleset) (first : List Rule) (marks : List Mark) (f g : Frame) (frames : List Frame) (s : Stands sets first marks f (g ∷ frames)) → slice_get marks s.chained.0.ruleset_index ≡ Some Open
stands_mark sets first marks f g frames s =
    let p = s.chained.0.ruleset_index in
    open_is (slice_get marks p) (sym (around_open sets first marks f g frames s p) ∙ ap (λ (b : Bool). b || is_open p (with_index g.index (opened frames))) (eq-eqb p p refl))

stands_left : (sets : List Ruleset) (first : List Rule) (marks : List Mark) (f g : Frame) (frames : List Frame) (s : Stands sets first marks f (g ∷ frames)) → slice_get (rules_in sets first f.index) f.next ≡ None
    → Stands sets first (set marks s.chained.0.ruleset_index (Done (left_on f.tally))) g frames
stands_left sets first marks f g frames s past =
    let i = s.chained.0 in
    let p = i.ruleset_index in
    let indices = with_index g.index (opened frames) in
    let before = around_open sets first marks f g frames s in
    let is_mark = stands_mark sets first marks f g frames s in
    let there = item_at sets p (omega (arith, slice_get_within marks p Open is_mark, s.sized)) in
    let new : weighed is_new sets (set marks p (Done (left_on f.tally))) + 0 ≡ weighed is_new sets marks + 0 = weighed_set is_new sets marks p there.0 Open (Done (left_on f.tally)) there.1 is_mark in
    let one_more : weighed is_done sets (set marks p (Done (left_on f.tally))) + 0 ≡ weighed is_done sets marks + 1 = weighed_set is_done sets marks p there.0 Open (Done (left_on f.tally)) there.1 is_mark in
    let count : weighed is_done sets (set marks p (Done (left_on f.tally))) ≡ weighed is_done sets marks + 1 = omega (arith, one_more) in
    let one_less : length (with_index f.index indices) ≡ suc (length indices) = ap (λ (o : Option ℕ). length (with_index o indices)) i.is_index in
    let rules = rules_of (slice_get sets p) in
    let here : slice_get rules f.next ≡ None = ap (λ (o : Option ℕ). slice_get (rules_in sets first o) f.next) (sym i.is_index) ∙ past in
    let said : tallied sets (by_marks marks) nothing rules ≡ Ok f.tally = ap (λ (xs : List Rule). tallied sets (by_marks marks) nothing xs) (sym (front_past rules f.next here)) ∙ i.so_far in
    record {
      sized = length-set marks p (Done (left_on f.tally)) ∙ s.sized;
      counted = omega (arith, s.counted);
      open_marks = open_less sets marks p (left_on f.tally) is_mark indices i.alone before;
      sound = sound_after sets marks p f.tally is_mark s.sound said count;
      chained = chained_grows sets first marks (set marks p (Done (left_on f.tally))) (grows sets marks p (left_on f.tally) is_mark) g frames s.chained.2;
    }

pub stands_over : (sets : List Ruleset) (first : List Rule) (marks : List Mark) (f g : Frame) (frames : List Frame) → Stands sets first marks f (g ∷ frames) → slice_get (rules_in sets first f.index) f.next ≡ None
    → Stands sets first (closed marks f.index (left_on f.tally)) g frames
stands_over sets first marks f g frames s past =
    subst (λ (ms : List Mark). Stands sets first ms g frames) (sym (ap (λ (o : Option ℕ). closed marks o (left_on f.tally)) s.chained.0.is_index)) (stands_left sets first marks f g frames s past)

-- the last list is over
pub whole_over : (sets : List Ruleset) (first : List Rule) (marks : List Mark) (f : Frame) → Stands sets first marks f [] → slice_get (rules_in sets first f.index) f.next ≡ None → whole sets first ≡ Ok (left_on f.tally)
whole_over sets first marks f s past = sym s.chained ∙ goes_over sets first (with_index f.index []) f past
