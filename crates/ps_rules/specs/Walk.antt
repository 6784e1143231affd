-- What clauses a rule list leaves on.
--
-- A list is walked in order, and a ruleset where it stands depth first. The result is the clauses of the inner lists and
-- those that the list names itself, less those that it repeals itself.
use Rattle.std.specs.Prelude.{ℕ, ◌==◌, Bool, List, [], ◌∷◌, slice_get, Option, Some, None, Result, Ok, Err, bit_and, bit_or, bit_xor}
use Rattle.std.specs.Prelude.{if◌then◌else◌}
use Rattle.std.specs.List.{list_any}
use Rattle.ps_rules.specs.declared.clause.Clause.{Clause}
use Rattle.ps_rules.specs.declared.table.Rule.{Rule}
use Rattle.ps_rules.specs.declared.table.Ruleset.{Ruleset}
use Rattle.ps_rules.specs.declared.walk.Tally.{Tally}
use Rattle.ps_rules.specs.declared.fault.RuleFault.{RuleFault}
use Rattle.ps_rules.specs.declared.fault.RuleFault.TheVariants.{UnknownRule, Cycle, Contradiction}
use Rattle.ps_rules.specs.declared.version.Version.{Version}
use Rattle.ps_rules.specs.Clauses.{clause_of, bit_of}
use Rattle.ps_rules.specs.Versions.{always_on}
use Rattle.ps_rules.specs.Rules.{index_of}
use Rattle.ps_mon.specs.Clauses.{has_clause}

-- ---- one list: the clauses of its inner lists, those that it names and those that it repeals

abbrev pub nothing : Tally
nothing = record { inner = 0; named = 0; repealed = 0 }

-- the clauses of the inner lists and the list's own, less the list's repeals
abbrev pub left_on : Tally → ℕ
left_on tally = bit_and (bit_or tally.inner tally.named) (bit_xor 255 tally.repealed)

-- the list names a clause; None where it repeals it too
abbrev pub naming : Tally → ℕ → Option Tally
naming tally bit = if has_clause tally.repealed bit then None else Some
    (record { inner = tally.inner; named = bit_or tally.named bit; repealed = tally.repealed })

-- the list repeals a clause; None where it names it too
abbrev pub repealing : Tally → ℕ → Option Tally
repealing tally bit = if has_clause tally.named bit then None else Some
    (record { inner = tally.inner; named = tally.named; repealed = bit_or tally.repealed bit })

unfoldable pub own : Tally → ℕ → Bool → Option Tally
own tally bit repeals = if repeals then repealing tally bit else naming tally bit

-- an inner list leaves these on
abbrev pub with_inner : Tally → ℕ → Tally
with_inner tally clauses = record { inner = bit_or tally.inner clauses; named = tally.named; repealed = tally.repealed }

-- ---- the walk

-- the ruleset that a text names; a ruleset can't be repealed
unfoldable pub set_named : List Ruleset → Rule → Option ℕ
set_named sets rule = if rule.repeals then None else index_of rule.id sets

abbrev pub rules_of : Option Ruleset → List Rule
rules_of None = []
rules_of (Some rule_set) = rule_set.rules

-- one step after another: the first fault is the fault of both
infixl 10 ◌>>>◌
abbrev pub ◌>>>◌ : {A B : Type 0} → Result A RuleFault → (A → Result B RuleFault) → Result B RuleFault
(Ok value) >>> next = next value
(Err fault) >>> next = Err fault

abbrev pub is_open : ℕ → List ℕ → Bool
is_open index within = list_any (λ outer. outer == index) within

-- a text that names a clause
abbrev pub or_contradiction : List ℕ → Option Tally → Result Tally RuleFault
or_contradiction id None = Err (Contradiction id)
or_contradiction id (Some tally) = Ok tally

-- a text that names a ruleset, where `inside` says what a ruleset leaves on
abbrev pub or_unknown : (List ℕ → ℕ → Result ℕ RuleFault) → List ℕ → Tally → Option ℕ → Result Tally RuleFault
or_unknown inside id tally None = Err (UnknownRule id)
or_unknown inside id tally (Some index) = inside id index >>> λ clauses. Ok (with_inner tally clauses)

abbrev pub by_clause : List Ruleset → (List ℕ → ℕ → Result ℕ RuleFault) → Tally → Rule → Option Clause → Result Tally RuleFault
by_clause sets inside tally rule (Some clause) = or_contradiction rule.id (own tally (bit_of clause) rule.repeals)
by_clause sets inside tally rule None = or_unknown inside rule.id tally (set_named sets rule)

-- the texts of one list in order
abbrev pub texts : List Ruleset → (List ℕ → ℕ → Result ℕ RuleFault) → Tally → List Rule → Result ℕ RuleFault
texts sets inside tally [] = Ok (left_on tally)
texts sets inside tally (rule ∷ rules) = by_clause sets inside tally rule (clause_of rule.id) >>> λ next. texts sets inside next rules

-- What the ruleset at an index leaves on, inside the rulesets at the indices `within`: a ruleset met inside itself is a
-- cycle. `deeper` has an item for each list that may still be entered. At first these are as many as there are
-- rulesets; so where none is left each ruleset is open already, and the first case says no more than the test in the second.
abbrev pub set_at : List Ruleset → List Ruleset → List ℕ → List ℕ → ℕ → Result ℕ RuleFault
set_at [] sets within id index = Err (Cycle id)
set_at (item ∷ deeper) sets within id index = if is_open index within then Err (Cycle id) else texts sets
    (set_at deeper sets (index ∷ within)) nothing (rules_of (slice_get sets index))

-- the clauses that a rule list leaves on by itself
unfoldable pub walk : List Ruleset → List Rule → Result ℕ RuleFault
walk sets rules = texts sets (set_at sets sets []) nothing rules

-- the same with what is always on: HP Percentage Mod in version 1, and nothing in version 2
unfoldable pub clauses_of : Version → List Ruleset → List Rule → Result ℕ RuleFault
clauses_of version sets rules = walk sets rules >>> λ clauses. Ok (bit_or clauses (always_on version))
