-- What the texts of a list say, where two walks agree on the rulesets that they name.
use Rattle.std.proofs.Common.{◌≡◌, ℕ, List, [], ◌∷◌, ◌++◌, Option, Some, None, Result, Ok, Err, refl, ap, ◌∙◌}
use Rattle.ps_rules.specs.declared.clause.Clause.{Clause}
use Rattle.ps_rules.specs.declared.table.Rule.{Rule}
use Rattle.ps_rules.specs.declared.table.Ruleset.{Ruleset}
use Rattle.ps_rules.specs.declared.walk.Tally.{Tally}
use Rattle.ps_rules.specs.declared.fault.RuleFault.{RuleFault}
use Rattle.ps_rules.specs.Clauses.{clause_of}
use Rattle.ps_rules.specs.Walk.{◌>>>◌, left_on, with_inner, set_named, or_unknown, by_clause, texts}

-- what a ruleset leaves on, by the id that names it and its index
abbrev pub Inside : Type 0
Inside = List ℕ → ℕ → Result ℕ RuleFault

pub same_ok : {A : Type 0} (x y : A) → ◌≡◌ {A = Result A RuleFault} (Ok x) (Ok y) → x ≡ y
same_ok x y e = cc

pub same_err : {A : Type 0} (x y : RuleFault) → ◌≡◌ {A = Result A RuleFault} (Err x) (Err y) → x ≡ y
same_err x y e = cc

-- the tally behind the texts of a list
abbrev pub tallied : List Ruleset → Inside → Tally → List Rule → Result Tally RuleFault
tallied sets inside t [] = Ok t
tallied sets inside t (r ∷ rules) = by_clause sets inside t r (clause_of r.id) >>> λ u. tallied sets inside u rules

then_ok : {A B C : Type 0} (o p : Result A RuleFault) (next : A → Result B RuleFault) (other : A → Result C RuleFault) (x : B) (y : C)
    → ((a : A) → o ≡ Ok a → p ≡ Ok a) → ((a : A) → next a ≡ Ok x → other a ≡ Ok y) → (o >>> next) ≡ Ok x → (p >>> other) ≡ Ok y
then_ok (Ok a) p next other x y same more e = ap (λ r. r >>> other) (same a refl) ∙ more a e
then_ok (Err fault) p next other x y same more e = absurd cc

left_by : (o : Result Tally RuleFault) (next : Tally → Result ℕ RuleFault) (other : Tally → Result Tally RuleFault) → ((t : Tally) → next t ≡ (other t >>> λ u. Ok (left_on u)))
    → (o >>> next) ≡ ((o >>> other) >>> λ u. Ok (left_on u))
left_by (Ok t) next other same = same t
left_by (Err fault) next other same = refl

-- a list leaves on what the tally behind it says
pub texts_tallied : (sets : List Ruleset) (inside : Inside) (t : Tally) (rules : List Rule) → texts sets inside t rules ≡ (tallied sets inside t rules >>> λ u. Ok (left_on u))
texts_tallied sets inside t [] = refl
texts_tallied sets inside t (r ∷ rules) = left_by (by_clause sets inside t r (clause_of r.id)) (λ u. texts sets inside u rules) (λ u. tallied sets inside u rules) (λ u. texts_tallied sets inside u rules)

-- one text more
pub tallied_more : (sets : List Ruleset) (inside : Inside) (t : Tally) (rules : List Rule) (r : Rule) (u v : Tally) → tallied sets inside t rules ≡ Ok u → by_clause sets inside u r (clause_of r.id) ≡ Ok v → tallied sets inside t (rules ++ r ∷ []) ≡ Ok v
tallied_more sets inside t [] r u v e said = ap (λ (w : Tally). by_clause sets inside w r (clause_of r.id) >>> λ x. tallied sets inside x []) (same_ok t u e) ∙ ap (λ (o : Result Tally RuleFault). o >>> λ x. tallied sets inside x []) said
tallied_more sets inside t (s ∷ rules) r u v e said =
    let o = by_clause sets inside t s (clause_of s.id) in
    then_ok o o (λ w. tallied sets inside w rules) (λ w. tallied sets inside w (rules ++ r ∷ [])) u v (λ w h. h) (λ w h. tallied_more sets inside w rules r u v h said) e

-- what the first finds, the second finds too
abbrev pub Agrees : Inside → Inside → Type 0
Agrees one other = (id : List ℕ) (index clauses : ℕ) → one id index ≡ Ok clauses → other id index ≡ Ok clauses

module _ (sets : List Ruleset) (one other : Inside) (same : Agrees one other) where
  index_agrees : (id : List ℕ) (t : Tally) (o : Option ℕ) (u : Tally) → or_unknown one id t o ≡ Ok u → or_unknown other id t o ≡ Ok u
  index_agrees id t None u e = e
  index_agrees id t (Some index) u e = then_ok (one id index) (other id index) (λ clauses. Ok (with_inner t clauses)) (λ clauses. Ok (with_inner t clauses)) u u (λ clauses h. same id index clauses h) (λ clauses h. h) e

  pub clause_agrees : (t : Tally) (r : Rule) (o : Option Clause) (u : Tally) → by_clause sets one t r o ≡ Ok u → by_clause sets other t r o ≡ Ok u
  clause_agrees t r (Some clause) u e = e
  clause_agrees t r None u e = index_agrees r.id t (set_named sets r) u e

  pub tallied_agrees : (t : Tally) (rules : List Rule) (u : Tally) → tallied sets one t rules ≡ Ok u → tallied sets other t rules ≡ Ok u
  tallied_agrees t [] u e = e
  tallied_agrees t (r ∷ rules) u e = then_ok (by_clause sets one t r (clause_of r.id)) (by_clause sets other t r (clause_of r.id)) (λ w. tallied sets one w rules) (λ w. tallied sets other w rules) u u (λ w h. clause_agrees t r (clause_of r.id) w h) (λ w h. tallied_agrees w rules u h) e
