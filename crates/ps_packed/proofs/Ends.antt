-- What is needed to end, and that what begins well can end with it.
use Rattle.std.proofs.Common.{◌≡◌, ℕ, zero, suc, ◌+◌, ◌-◌, ◌<◌, ◌≤◌, ◌&&◌, Bool, true, false, not, cond, List, [], ◌∷◌, ◌++◌, length, Some, refl, sym, ap, subst, ◌∙◌, inl, inr, arith, add-one}
use Rattle.std.specs.List.{list_all}
use Rattle.std.proofs.lemmas.List.{length-append, nil_from_length}
use Rattle.std.proofs.lemmas.List.Folds.{list_all-append}
use Rattle.std.proofs.lemmas.Bool.{cases_lt, and_from, not-true}
use Rattle.std.proofs.Math.Bool.{and-false}
use Rattle.ps_packed.specs.Forms.{in_form, form_of, last}
use Rattle.ps_packed.specs.Packed.{is_nil}
use Rattle.ps_packed.specs.Scan.{prefix_ok, need, State, start, step, run, accepts, need_of, nameless_at, bar_named}
use Rattle.ps_packed.proofs.Laws.{is_low}
use Rattle.ps_packed.proofs.FormLaws.{laws_of, empty_ok, nothing_ok}
use Rattle.ps_packed.proofs.Runs.{at, step_bar, step_inner, run_step, run_then, word_runs, accepts_last, last_of, some_is, some_step, by_bar, by_bracket, by_inner, stepped}
use Rattle.ps_packed.proofs.Truths.{at_most_one}

-- ---- what is needed to end

pub record Valid (s : State) : Type 0 where
  pub in_set : s.field ≤ last
  pub front : prefix_ok (form_of s.field) s.word ≡ true
  pub few : s.sets ≤ 5

pub start_valid : Valid start
start_valid = record { in_set = omega arith; front = nothing_ok 0; few = omega arith }

pub step_valid : (s : State) (b : ℕ) (t : State) → Valid s → step s b ≡ Some t → Valid t
step_valid s b t v e =
    elim (stepped s b t e) [
      | by_bar is lt fit name now ↦ rw now (record { in_set = omega (arith, lt); front = nothing_ok (s.field + 1); few = v.few })
      | by_bracket is e' fit lt now ↦ rw now (record { in_set = omega arith; front = nothing_ok 0; few = omega (arith, lt) })
      | by_inner x y ok now ↦ rw now (record { in_set = v.in_set; front = ok; few = v.few })
    ]

later_need : (k : ℕ) → need (form_of (k + 1)) [] ≡ 0
later_need k = rw add-one ((laws_of (suc k)).full [] (empty_ok (suc k)))

same_and : (x : Bool) → cond x 1 0 ≤ cond (x && true) 1 0
same_and true = omega arith
same_and false = omega arith

bar_need : (c : Bool) (k : ℕ) (w : List ℕ) → bar_named c k w ≡ true → cond (nameless_at c k w) 1 0 ≤ cond (nameless_at (nameless_at c k w) (suc k) []) 1 0
bar_need c zero w e = same_and (is_nil w)
bar_need c (suc zero) w e = rw (not-true (c && is_nil w) e) (omega arith)
bar_need c (suc (suc k)) w e = omega arith

last_named : (c : Bool) (k : ℕ) (w : List ℕ) → k ≡ last → cond {A = ℕ} (nameless_at c k w) 1 0 ≡ 0
last_named c k w e = ap (λ j. cond {A = ℕ} (nameless_at c j w) 1 0) e

inner_need : (c : Bool) (k : ℕ) (w : List ℕ) (b : ℕ) → prefix_ok (form_of k) (w ++ b ∷ []) ≡ true → need (form_of k) w + cond (nameless_at c k w) 1 0 ≤ need (form_of k) (w ++ b ∷ []) + 1
unfolding need
inner_need c zero w b ok = omega (arith, at_most_one (is_nil w))
inner_need c (suc zero) w b ok = omega (arith, at_most_one (c && is_nil w))
inner_need c (suc (suc k)) w b ok = omega (arith, (laws_of (suc (suc k))).slow w b ok)

pub step_need : (s : State) (b : ℕ) (t : State) → step s b ≡ Some t → need_of s ≤ need_of t + 1
step_need s b t e =
    elim (stepped s b t e) [
      | by_bar is lt fit name now ↦ rw now (omega (arith, lt, (laws_of s.field).full s.word fit, later_need s.field, subst (λ k. cond (nameless_at s.bare s.field s.word) 1 0 ≤ cond (nameless_at (nameless_at s.bare s.field s.word) k []) 1 0) (sym (add-one s.field)) (bar_need s.bare s.field s.word name)))
      | by_bracket is e' fit lt now ↦ rw now (omega (arith, e', (laws_of s.field).full s.word fit, last_named s.bare s.field s.word e'))
      | by_inner x y ok now ↦ rw now (omega (arith, inner_need s.bare s.field s.word b ok))
    ]

pub run_need : (s : State) (r : List ℕ) (t : State) → run s r ≡ Some t → need_of s ≤ need_of t + length r
run_need s [] t e = let same : t ≡ s = some_is s t e in rw same (omega arith)
run_need s (b ∷ r) t e = let u = some_step (step s b) r t e in omega (arith, step_need s b u.0 u.1, run_need u.0 r t u.2)

pub no_need : (t : State) → accepts t ≡ true → need_of t ≡ 0
no_need t e = let l = last_of t e in omega (arith, l.0, (laws_of t.field).full t.word l.1, last_named t.bare t.field t.word l.0)

-- ---- what begins well can end

-- so many ASCII characters end a team's text
abbrev pub CanEnd : State → ℕ → Type 0
CanEnd s n = (r : List ℕ) × (t : State) × (run s r ≡ Some t) × (accepts t ≡ true) × (length r ≡ n) × (list_all is_low r ≡ true)

-- from the fields after the names on
tail_run : (m : ℕ) (w : List ℕ) (c : Bool) (k n : ℕ) → suc (suc k) + m ≡ last → in_form (form_of (suc (suc k))) w ≡ true → CanEnd (at w c (suc (suc k)) n) m
tail_run zero w c k n e fit = ([], at w c (suc (suc k)) n, refl, accepts_last w c (suc (suc k)) n (omega (arith, e)) fit, refl, refl)
tail_run (suc m) w c k n e fit =
    let later = tail_run m [] false (suc k) n (omega (arith, e)) (empty_ok (suc (suc (suc k)))) in
    let next : step (at w c (suc (suc k)) n) 124 ≡ Some (at [] false (suc (suc (suc k))) n) = step_bar w c (suc (suc k)) n (omega (arith, e)) fit refl ∙ ap (λ j. Some (at [] false j n)) (add-one (suc (suc k))) in
    (124 ∷ later.0, later.1, run_step (at w c (suc (suc k)) n) (at [] false (suc (suc (suc k))) n) 124 later.0 next ∙ later.2, later.3, ap suc later.4, later.5)

-- from the species on, with a name
named_run : (w : List ℕ) (c : Bool) (n : ℕ) → in_form (form_of 1) w ≡ true → (c && is_nil w) ≡ false → CanEnd (at w c 1 n) 10
named_run w c n fit name =
    let later = tail_run 9 [] (c && is_nil w) 0 n refl (empty_ok 2) in
    (124 ∷ later.0, later.1, run_step (at w c 1 n) (at [] (c && is_nil w) 2 n) 124 later.0 (step_bar w c 1 n (omega arith) fit (ap not name)) ∙ later.2, later.3, ap suc later.4, later.5)

letter_fits : in_form (form_of 1) (97 ∷ []) ≡ true
unfolding in_form
letter_fits = refl

and_last : (c : Bool) → (c && false) ≡ true → ⊥
and_last true e = cc
and_last false e = cc

and_same : (x : Bool) → cond {A = ℕ} (x && true) 1 0 ≡ cond x 1 0
and_same true = refl
and_same false = refl

-- from the species on: a letter names a set that has no name
species_run : (d : Bool) (w : List ℕ) (c : Bool) (n : ℕ) → (c && is_nil w) ≡ d → in_form (form_of 1) w ≡ true → CanEnd (at w c 1 n) (10 + cond d 1 0)
species_run false w c n e fit = named_run w c n fit e
species_run true (b ∷ w) c n e fit = absurd (and_last c e)
species_run true [] c n e fit =
    let later = named_run (97 ∷ []) c n letter_fits (and-false c) in
    (97 ∷ later.0, later.1, run_step (at [] c 1 n) (at (97 ∷ []) c 1 n) 97 later.0 (step_inner [] c 1 n 97 (λ z. omega (arith, z)) (λ z. omega (arith, z)) ((laws_of 1).closed (97 ∷ []) [] letter_fits)) ∙ later.2, later.3, ap suc later.4, later.5)

end_from : (k : ℕ) (w : List ℕ) (c : Bool) (n : ℕ) → k ≤ last → prefix_ok (form_of k) w ≡ true → CanEnd (at w c k n) (need_of (at w c k n))
unfolding need prefix_ok
end_from zero w c n le ok =
    let later = species_run (is_nil w && true) [] (is_nil w) n refl (empty_ok 1) in
    (124 ∷ later.0, later.1, run_step (at w c 0 n) (at [] (is_nil w) 1 n) 124 later.0 (step_bar w c 0 n (omega arith) ok refl) ∙ later.2, later.3, omega (arith, later.4, and_same (is_nil w)), later.5)
end_from (suc zero) w c n le ok =
    let later = species_run (c && is_nil w) w c n refl ok in
    (later.0, later.1, later.2, later.3, omega (arith, later.4), later.5)
end_from (suc (suc k)) w c n le ok =
    let f = (laws_of (suc (suc k))).completes w ok in
    let later = tail_run (last - suc (suc k)) (w ++ f.0) c k n (omega (arith, le)) f.1 in
    (f.0 ++ later.0, later.1, run_then (at w c (suc (suc k)) n) (at (w ++ f.0) c (suc (suc k)) n) f.0 later.0 (word_runs w f.0 c (suc (suc k)) n f.1) ∙ later.2, later.3, omega (arith, length-append f.0 later.0, later.4, f.2), list_all-append is_low f.0 later.0 ∙ and_from _ _ f.3 later.5)

pub can_end : (s : State) → Valid s → CanEnd s (need_of s)
can_end s v = end_from s.field s.word s.bare s.sets v.in_set v.front

-- what doesn't accept needs a character
pub unfinished : (s : State) → Valid s → accepts s ≡ false → 0 < need_of s
unfinished s v refused =
    let c = can_end s v in
    elim (cases_lt 0 (need_of s)) [
      | inl h ↦ h
      | inr h ↦ (let nil : c.0 ≡ [] = nil_from_length c.0 (omega (arith, c.4, h)) in
          let same : Some s ≡ Some c.1 = sym (ap (run s) nil) ∙ c.2 in
          let eq : c.1 ≡ s = some_is s c.1 same in
          let wrong : false ≡ true = sym refused ∙ ap accepts (sym eq) ∙ c.3 in
          cc)
    ]
