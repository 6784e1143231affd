-- The index of the ruleset that a text names.
use Rattle.std.proofs.Common.{◌≡◌, ℕ, ◌<◌, Bool, true, false, cond, List, [], length, Some, None}
use Rattle.std.specs.List.{position}
use Rattle.std.specs.Str.{bytes_eq}
use Rattle.std.proofs.lemmas.List.Quantifiers.{position-Some}
use Rattle.ps_rules.specs.declared.table.Rule.{Rule}
use Rattle.ps_rules.specs.declared.table.Ruleset.{Ruleset}
use Rattle.ps_rules.specs.Rules.{index_of}
use Rattle.ps_rules.specs.Walk.{set_named}

below_by : (b : Bool) (sets : List Ruleset) (id : List ℕ) (p : ℕ) → cond b None (position (λ (s : Ruleset). bytes_eq s.id id) sets) ≡ Some p → p < length sets
below_by true sets id p e = absurd cc
below_by false sets id p e = let nobody : Ruleset = record { id = []; rules = [] } in (position-Some (λ (s : Ruleset). bytes_eq s.id id) sets p nobody e).0

-- a ruleset that a text names is one of the list
pub named_below : (sets : List Ruleset) (r : Rule) (p : ℕ) → set_named sets r ≡ Some p → p < length sets
unfolding set_named index_of
named_below sets r p e = below_by r.repeals sets r.id p e
