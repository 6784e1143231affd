-- Going through a text ends where the text ends exactly at the texts of teams.
use Rattle.std.proofs.Common.{◌≡◌, ℕ, zero, suc, ◌+◌, ◌<◌, ◌≤◌, ◌≢◌, ◌==◌, ◌&&◌, Bool, true, false, not, cond, eqb, ltb, List, [], ◌∷◌, ◌++◌, length, Option, Some, None, refl, sym, ap, subst, ◌∙◌, inl, inr, ◌⊎◌, eq-eqb, arith, append_assoc, add-one}
use Rattle.std.specs.Prelude.{option_and_then}
use Rattle.std.specs.List.{list_all, AllByRecursion, join_with_byte}
use Rattle.std.specs.Str.{all_scalars}
use Rattle.std.proofs.lemmas.Bool.{ltb-true, lt-ltb, eqb-true, ne_eqb, and_parts, and_from, not-true}
use Rattle.std.proofs.lemmas.List.{append-nil}
use Rattle.std.proofs.lemmas.List.Folds.{list_all-append}
use Rattle.ps_packed.specs.Forms.{in_form, form_of, last}
use Rattle.ps_packed.specs.Packed.{is_nil, is_nameless, AreFields, AreFieldTexts, team_text, IsFreeTeam}
use Rattle.ps_packed.specs.Scan.{prefix_ok, State, start, step, run, accepts, nameless_at, bar_named}
use Rattle.ps_packed.proofs.Truths.{is_not}
use Rattle.ps_packed.proofs.Laws.{is_inner}
use Rattle.ps_packed.proofs.FormLaws.{laws_of}

-- ---- one step

abbrev pub at : List ℕ → Bool → ℕ → ℕ → State
at w c k n = record { word = w; bare = c; field = k; sets = n }

-- what the names after a state have to be
abbrev pub NamedFrom : Bool → ℕ → List (List ℕ) → Type 0
NamedFrom c zero ws = (is_nameless ws ≡ false)
NamedFrom c (suc zero) [] = ⊥
NamedFrom c (suc zero) (s ∷ ws) = (c && is_nil s) ≡ false
NamedFrom c (suc (suc k)) ws = Unit {0}

named_bar : (c : Bool) (k : ℕ) (w x : List ℕ) (ws : List (List ℕ)) → NamedFrom c k (w ∷ x ∷ ws) → (bar_named c k w ≡ true) × NamedFrom (nameless_at c k w) (suc k) (x ∷ ws)
named_bar c zero w x ws e = (refl, e)
named_bar c (suc zero) w x ws e = (ap not e, tt)
named_bar c (suc (suc k)) w x ws e = (refl, tt)

bar_back : (c : Bool) (k : ℕ) (w x : List ℕ) (ws : List (List ℕ)) → bar_named c k w ≡ true → NamedFrom (nameless_at c k w) (suc k) (x ∷ ws) → NamedFrom c k (w ∷ x ∷ ws)
bar_back c zero w x ws e h = h
bar_back c (suc zero) w x ws e h = not-true (c && is_nil w) e
bar_back c (suc (suc k)) w x ws e h = tt

named_last : (c : Bool) (k : ℕ) (ws : List (List ℕ)) → k ≡ last → NamedFrom c k ws
named_last c k ws e = subst (λ (j : ℕ). NamedFrom c j ws) (sym e) tt

pub step_bar : (w : List ℕ) (c : Bool) (k n : ℕ) → k < last → in_form (form_of k) w ≡ true → bar_named c k w ≡ true → step (at w c k n) 124 ≡ Some (at [] (nameless_at c k w) (k + 1) n)
unfolding step
step_bar w c k n lt fit name = rw (lt-ltb k last lt, fit, name) refl

pub step_bracket : (w : List ℕ) (c : Bool) (k n : ℕ) → k ≡ last → in_form (form_of k) w ≡ true → n < 5 → step (at w c k n) 93 ≡ Some (at [] true 0 (n + 1))
unfolding step
step_bracket w c k n e fit lt = rw (eq-eqb k last e, fit, lt-ltb n 5 lt) refl

pub step_inner : (w : List ℕ) (c : Bool) (k n b : ℕ) → b ≢ 124 → b ≢ 93 → prefix_ok (form_of k) (w ++ b ∷ []) ≡ true → step (at w c k n) b ≡ Some (at (w ++ b ∷ []) c k n)
unfolding step
step_inner w c k n b x y ok = rw (ne_eqb b 124 x, ne_eqb b 93 y, ok) refl

pub run_append : (s : State) (a b : List ℕ) → run s (a ++ b) ≡ option_and_then (λ t. run t b) (run s a)
run_append s [] b = refl
run_append s (x ∷ a) b =
    elim (step s x) as (λ o. option_and_then (λ t. run t (a ++ b)) o ≡ option_and_then (λ t. run t b) (option_and_then (λ t. run t a) o)) [ None ↦ refl | Some t ↦ run_append t a b ]

-- a run that goes on after a step
pub run_step : (s t : State) (x : ℕ) (a : List ℕ) → step s x ≡ Some t → run s (x ∷ a) ≡ run t a
run_step s t x a e = ap (option_and_then (λ u. run u a)) e

pub run_then : (s t : State) (a b : List ℕ) → run s a ≡ Some t → run s (a ++ b) ≡ run t b
run_then s t a b e = run_append s a b ∙ ap (option_and_then (λ u. run u b)) e

-- ---- a team's text is gone through to its end

-- where a run ends well
abbrev pub Ends : State → List ℕ → ℕ → Type 0
Ends s text n = (t : State) × (run s text ≡ Some t) × (accepts t ≡ true) × (t.sets ≡ n)

inner_of : (k : ℕ) (w : List ℕ) (b : ℕ) (v : List ℕ) → in_form (form_of k) (w ++ b ∷ v) ≡ true → (b ≢ 124) × (b ≢ 93)
inner_of k w b v e =
    let p : list_all is_inner (w ++ b ∷ v) ≡ true = (laws_of k).plain (w ++ b ∷ v) e in
    let q = and_parts (list_all is_inner w) (list_all is_inner (b ∷ v)) (sym (list_all-append is_inner w (b ∷ v)) ∙ p) in
    let r = and_parts (not (b == 124) && not (b == 93)) (list_all is_inner v) q.1 in
    let h = and_parts (not (b == 124)) (not (b == 93)) r.0 in
    (is_not b 124 h.0, is_not b 93 h.1)

pub word_runs : (w v : List ℕ) (c : Bool) (k n : ℕ) → in_form (form_of k) (w ++ v) ≡ true → run (at w c k n) v ≡ Some (at (w ++ v) c k n)
word_runs w [] c k n e = rw append-nil refl
word_runs w (b ∷ v) c k n e =
    let inner = inner_of k w b v e in
    let same : (w ++ b ∷ []) ++ v ≡ w ++ b ∷ v = append_assoc w (b ∷ []) v in
    let e' : in_form (form_of k) ((w ++ b ∷ []) ++ v) ≡ true = ap (in_form (form_of k)) same ∙ e in
    let ok : prefix_ok (form_of k) (w ++ b ∷ []) ≡ true = (laws_of k).closed (w ++ b ∷ []) v e' in
    run_step (at w c k n) (at (w ++ b ∷ []) c k n) b v (step_inner w c k n b inner.0 inner.1 ok) ∙ word_runs (w ++ b ∷ []) v c k n e' ∙ ap (λ (u : List ℕ). Some (at u c k n)) same

pub accepts_last : (w : List ℕ) (c : Bool) (k n : ℕ) → k ≡ last → in_form (form_of k) w ≡ true → accepts (at w c k n) ≡ true
unfolding accepts
accepts_last w c k n e fit = and_from _ _ (eq-eqb k last e) fit

fields_run : (c : Bool) (k : ℕ) (ws : List (List ℕ)) (n : ℕ) → AreFields k ws → NamedFrom c k ws → Ends (at [] c k n) (join_with_byte 124 ws) n
fields_run c k [] n fit name = absurd fit
fields_run c k (w ∷ []) n fit name = (at w c k n, word_runs [] w c k n fit.0, accepts_last w c k n fit.1 fit.0, refl)
fields_run c k (w ∷ x ∷ ws) n fit name =
    let m = named_bar c k w x ws name in
    let d : Bool = nameless_at c k w in
    let later = fields_run d (suc k) (x ∷ ws) n fit.2 m.1 in
    let first : run (at [] c k n) (w ++ 124 ∷ join_with_byte 124 (x ∷ ws)) ≡ run (at w c k n) (124 ∷ join_with_byte 124 (x ∷ ws)) = run_then (at [] c k n) (at w c k n) w _ (word_runs [] w c k n fit.0) in
    let second : run (at w c k n) (124 ∷ join_with_byte 124 (x ∷ ws)) ≡ run (at [] d (suc k) n) (join_with_byte 124 (x ∷ ws)) = run_step (at w c k n) (at [] d (suc k) n) 124 _ (step_bar w c k n fit.1 fit.0 m.0 ∙ ap (λ j. Some (at [] d j n)) (add-one k)) in
    (later.0, first ∙ second ∙ later.1, later.2, later.3)

-- what accepts, stands in the last field
pub last_of : (t : State) → accepts t ≡ true → (t.field ≡ last) × (in_form (form_of t.field) t.word ≡ true)
unfolding accepts
last_of t e = let a = and_parts (eqb t.field last) (in_form (form_of t.field) t.word) e in (eqb-true _ _ a.0, a.1)

team_texts_run : (team_texts : List (List (List ℕ))) (n : ℕ) → AllByRecursion AreFieldTexts team_texts → 0 < length team_texts → n + length team_texts ≤ 6 → (t : State) × (run (at [] true 0 n) (team_text team_texts) ≡ Some t) × (accepts t ≡ true)
team_texts_run [] n fit some few = absurd (omega (arith, some))
team_texts_run (r ∷ []) n fit some few = let one = fields_run true 0 r n fit.0.0 fit.0.1 in (one.0, one.1, one.2)
team_texts_run (r ∷ q ∷ team_texts) n fit some few =
    let one = fields_run true 0 r n fit.0.0 fit.0.1 in
    let end = last_of one.0 one.2 in
    let lt : n < 5 = omega (arith, few) in
    let later = team_texts_run (q ∷ team_texts) (n + 1) fit.1 (omega arith) (omega (arith, few)) in
    let first : run (at [] true 0 n) (join_with_byte 124 r ++ 93 ∷ team_text (q ∷ team_texts)) ≡ run one.0 (93 ∷ team_text (q ∷ team_texts)) = run_then (at [] true 0 n) one.0 (join_with_byte 124 r) _ one.1 in
    let next : step one.0 93 ≡ Some (at [] true 0 (n + 1)) = step_bracket one.0.word one.0.bare one.0.field one.0.sets end.0 end.1 (rw one.3 lt) ∙ ap (λ j. Some (at [] true 0 (j + 1))) one.3 in
    (later.0, first ∙ run_step one.0 (at [] true 0 (n + 1)) 93 _ next ∙ later.1, later.2)

-- ---- what a step tells

pub data Stepped (s : State) (b : ℕ) (t : State) : Type 0 where
  by_bar : b ≡ 124 → s.field < last → in_form (form_of s.field) s.word ≡ true → bar_named s.bare s.field s.word ≡ true → t ≡ at [] (nameless_at s.bare s.field s.word) (s.field + 1) s.sets → Stepped s b t
  by_bracket : b ≡ 93 → s.field ≡ last → in_form (form_of s.field) s.word ≡ true → s.sets < 5 → t ≡ at [] true 0 (s.sets + 1) → Stepped s b t
  by_inner : eqb b 124 ≡ false → eqb b 93 ≡ false → prefix_ok (form_of s.field) (s.word ++ b ∷ []) ≡ true → t ≡ at (s.word ++ b ∷ []) s.bare s.field s.sets → Stepped s b t

pub some_is : (x y : State) → Some x ≡ Some y → y ≡ x
some_is x y e = cc

guarded : (c : Bool) (x t : State) → cond c (Some x) None ≡ Some t → (c ≡ true) × (t ≡ x)
guarded true x t e = (refl, some_is x t e)
guarded false x t e = absurd cc

chosen : (c : Bool) (x y z : Option State) → cond c x y ≡ z → ((c ≡ true) × (x ≡ z)) ⊎ ((c ≡ false) × (y ≡ z))
chosen true x y z e = inl (refl, e)
chosen false x y z e = inr (refl, e)

pub stepped : (s : State) (b : ℕ) (t : State) → step s b ≡ Some t → Stepped s b t
unfolding step
stepped s b t e =
    let bar = at [] (nameless_at s.bare s.field s.word) (s.field + 1) s.sets in
    let bracket = at [] true 0 (s.sets + 1) in
    let inner = at (s.word ++ b ∷ []) s.bare s.field s.sets in
    let in_bar = cond (ltb s.field last && in_form (form_of s.field) s.word && bar_named s.bare s.field s.word) (Some bar) None in
    let in_bracket = cond (eqb s.field last && in_form (form_of s.field) s.word && ltb s.sets 5) (Some bracket) None in
    let in_word = cond (prefix_ok (form_of s.field) (s.word ++ b ∷ [])) (Some inner) None in
    elim (chosen (eqb b 124) in_bar (cond (eqb b 93) in_bracket in_word) (Some t) e) [
      | inl h ↦ (let g = guarded (ltb s.field last && in_form (form_of s.field) s.word && bar_named s.bare s.field s.word) bar t h.1 in
          let a = and_parts (ltb s.field last && in_form (form_of s.field) s.word) (bar_named s.bare s.field s.word) g.0 in
          let c = and_parts (ltb s.field last) (in_form (form_of s.field) s.word) a.0 in
          by_bar (eqb-true _ _ h.0) (ltb-true _ _ c.0) c.1 a.1 g.1)
      | inr k ↦ elim (chosen (eqb b 93) in_bracket in_word (Some t) k.1) [
        | inl h ↦ (let g = guarded (eqb s.field last && in_form (form_of s.field) s.word && ltb s.sets 5) bracket t h.1 in
            let a = and_parts (eqb s.field last && in_form (form_of s.field) s.word) (ltb s.sets 5) g.0 in
            let c = and_parts (eqb s.field last) (in_form (form_of s.field) s.word) a.0 in
            by_bracket (eqb-true _ _ h.0) (eqb-true _ _ c.0) c.1 (ltb-true _ _ a.1) g.1)
        | inr h ↦ (let g = guarded (prefix_ok (form_of s.field) (s.word ++ b ∷ [])) inner t h.1 in by_inner k.0 h.0 g.0 g.1)
      ]
    ]

-- ---- a run that ends well went through a team's text

-- The text goes on with the rest of a field, with fields and with sets.
pub record GoesOn (w : List ℕ) (c : Bool) (k n : ℕ) (b : List ℕ) : Type 0 where
  pub field_texts : List (List ℕ)
  pub team_texts : List (List (List ℕ))
  pub first : List ℕ
  pub field_texts_are : AreFields k ((w ++ first) ∷ field_texts)
  pub named : NamedFrom c k ((w ++ first) ∷ field_texts)
  pub team_texts_are : AllByRecursion AreFieldTexts team_texts
  pub few : n + length team_texts ≤ 5
  pub parts : team_text (((w ++ first) ∷ field_texts) ∷ team_texts) ≡ w ++ b

bar_parts : (w x : List ℕ) (xs : List (List ℕ)) (team_texts : List (List (List ℕ))) → team_text ((w ∷ x ∷ xs) ∷ team_texts) ≡ w ++ 124 ∷ team_text ((x ∷ xs) ∷ team_texts)
bar_parts w x xs [] = refl
bar_parts w x xs (q ∷ team_texts) = append_assoc w (124 ∷ join_with_byte 124 (x ∷ xs)) (93 ∷ team_text (q ∷ team_texts))

after_bar : (s : State) (bs : List ℕ) → s.field < last → in_form (form_of s.field) s.word ≡ true → bar_named s.bare s.field s.word ≡ true → GoesOn [] (nameless_at s.bare s.field s.word) (s.field + 1) s.sets bs → GoesOn s.word s.bare s.field s.sets (124 ∷ bs)
after_bar s bs lt fit name g = record {
  named = subst (λ (u : List ℕ). NamedFrom s.bare s.field (u ∷ g.first ∷ g.field_texts)) (sym (append-nil s.word)) (bar_back s.bare s.field s.word g.first g.field_texts name (subst (λ k. NamedFrom (nameless_at s.bare s.field s.word) k (g.first ∷ g.field_texts)) (add-one s.field) g.named));
  field_texts = g.first ∷ g.field_texts;
  team_texts = g.team_texts;
  first = [];
  field_texts_are = (rw append-nil fit, lt, subst (λ k. AreFields k (g.first ∷ g.field_texts)) (add-one s.field) g.field_texts_are);
  team_texts_are = g.team_texts_are;
  few = g.few;
  parts = ap (λ (u : List ℕ). team_text ((u ∷ g.first ∷ g.field_texts) ∷ g.team_texts)) (append-nil s.word) ∙ bar_parts s.word g.first g.field_texts g.team_texts ∙ ap (λ (u : List ℕ). s.word ++ 124 ∷ u) g.parts;
}

after_bracket : (s : State) (bs : List ℕ) → s.field ≡ last → in_form (form_of s.field) s.word ≡ true → GoesOn [] true 0 (s.sets + 1) bs → GoesOn s.word s.bare s.field s.sets (93 ∷ bs)
after_bracket s bs e fit g = record {
  named = named_last s.bare s.field ((s.word ++ []) ∷ []) e;
  field_texts = [];
  team_texts = (g.first ∷ g.field_texts) ∷ g.team_texts;
  first = [];
  field_texts_are = (rw append-nil fit, e);
  team_texts_are = ((g.field_texts_are, g.named), g.team_texts_are);
  few = omega (arith, g.few);
  parts = ap (λ (u : List ℕ). u ++ 93 ∷ team_text ((g.first ∷ g.field_texts) ∷ g.team_texts)) (append-nil s.word) ∙ ap (λ (u : List ℕ). s.word ++ 93 ∷ u) g.parts;
}

after_inner : (s : State) (b : ℕ) (bs : List ℕ) → GoesOn (s.word ++ b ∷ []) s.bare s.field s.sets bs → GoesOn s.word s.bare s.field s.sets (b ∷ bs)
after_inner s b bs g =
    let same : (s.word ++ b ∷ []) ++ g.first ≡ s.word ++ b ∷ g.first = append_assoc s.word (b ∷ []) g.first in
    record {
      field_texts = g.field_texts;
      team_texts = g.team_texts;
      first = b ∷ g.first;
      field_texts_are = subst (λ (u : List ℕ). AreFields s.field (u ∷ g.field_texts)) same g.field_texts_are;
      named = subst (λ (u : List ℕ). NamedFrom s.bare s.field (u ∷ g.field_texts)) same g.named;
      team_texts_are = g.team_texts_are;
      few = g.few;
      parts = ap (λ (u : List ℕ). team_text ((u ∷ g.field_texts) ∷ g.team_texts)) (sym same) ∙ g.parts ∙ append_assoc s.word (b ∷ []) bs;
    }

pub some_step : (o : Option State) (bs : List ℕ) (t : State) → option_and_then (λ u. run u bs) o ≡ Some t → (u : State) × (o ≡ Some u) × (run u bs ≡ Some t)
some_step None bs t e = absurd cc
some_step (Some u) bs t e = (u, refl, e)

pub goes_on : (s : State) (b : List ℕ) (t : State) → s.sets ≤ 5 → run s b ≡ Some t → accepts t ≡ true → GoesOn s.word s.bare s.field s.sets b
goes_on s [] t le e ok =
    let same : t ≡ s = some_is s t e in
    let l = subst (λ (u : State). (u.field ≡ last) × (in_form (form_of u.field) u.word ≡ true)) same (last_of t ok) in
    record { field_texts = []; team_texts = []; first = []; field_texts_are = (rw append-nil l.1, l.0); named = named_last s.bare s.field ((s.word ++ []) ∷ []) l.0; team_texts_are = tt; few = omega (arith, le); parts = refl }
goes_on s (b ∷ bs) t le e ok =
    let u = some_step (step s b) bs t e in
    elim (stepped s b u.0 u.1) [
      | by_bar is lt fit name now ↦ (let later = goes_on u.0 bs t (rw now le) u.2 ok in
          rw is (after_bar s bs lt fit name (subst (λ (v : State). GoesOn v.word v.bare v.field v.sets bs) now later)))
      | by_bracket is e' fit lt now ↦ (let later = goes_on u.0 bs t (rw now (omega (arith, lt))) u.2 ok in
          rw is (after_bracket s bs e' fit (subst (λ (v : State). GoesOn v.word v.bare v.field v.sets bs) now later)))
      | by_inner x y ok' now ↦ (let later = goes_on u.0 bs t (rw now le) u.2 ok in
          after_inner s b bs (subst (λ (v : State). GoesOn v.word v.bare v.field v.sets bs) now later))
    ]

-- ---- teams without the limit of bytes

pub team_runs : (team_texts : List (List (List ℕ))) (text : List ℕ) → IsFreeTeam team_texts text → (t : State) × (run start text ≡ Some t) × (accepts t ≡ true)
team_runs team_texts text is = let r = team_texts_run team_texts 0 is.fit is.some (omega (arith, is.few)) in (r.0, ap (run start) is.parts ∙ r.1, r.2)

-- what is gone through to its end is the text of these fields
pub free_team : (text : List ℕ) (t : State) → run start text ≡ Some t → accepts t ≡ true → all_scalars text ≡ true → (team_texts : List (List (List ℕ))) × IsFreeTeam team_texts text
free_team text t e ok letters =
    let g = goes_on start text t (omega arith) e ok in
    ((g.first ∷ g.field_texts) ∷ g.team_texts, record { letters = letters; parts = sym g.parts; fit = ((g.field_texts_are, g.named), g.team_texts_are); some = omega arith; few = omega (arith, g.few) })
