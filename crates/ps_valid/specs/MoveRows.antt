-- The rules of one move of a set, in their order. A set has its number from 1, and a move the id that the team has.
use Rattle.std.specs.Prelude.{ℕ, pos, ◌==◌, ◌&&◌, Bool, true, false, not, List, [], ◌∷◌, ◌++◌, slice_get, Option, Some, None, Result}
use Rattle.std.specs.Prelude.{Ok, ⊤, int_lt}
use Rattle.std.specs.List.{list_any}
use Rattle.ps_base.specs.declared.team_rule.TeamRule.TheVariants.{UnknownMove, BannedMove, NotLearned, RepeatedMove, OhkoClause}
use Rattle.ps_base.specs.declared.team_rule.TeamRule.TheVariants.{EvasionClause}
use Rattle.ps_data.specs.Reading.{◌>>=◌}
use Rattle.ps_mon.specs.declared.effect.Aim.TheVariants.{User}
use Rattle.ps_mon.specs.declared.effect.Stat.TheVariants.{Eva}
use Rattle.ps_mon.specs.declared.effect.Effect.{Effect}
use Rattle.ps_mon.specs.declared.effect.Effect.TheVariants as effects
use Rattle.ps_mon.specs.Clauses.{has_clause}
use Rattle.ps_dex.specs.declared.item.MoveItem.{MoveItem}
use Rattle.ps_dex.specs.declared.item.Tables.{Tables}
use Rattle.ps_dex.specs.Lookups.{move_of, learns}
use Rattle.ps_dex.specs.Species.{has_number}
use Rattle.ps_rules.specs.declared.clause.Clause.TheVariants.{Ohko, Evasion}
use Rattle.ps_rules.specs.declared.table.RuleTable.{RuleTable}
use Rattle.ps_rules.specs.Clauses.{bit_of}
use Rattle.ps_valid.specs.declared.verdict.Verdict.{Verdict}
use Rattle.ps_valid.specs.Verdicts.{keeps, require_known}

-- what was looked up is this one
abbrev pub is_number : Option ℕ → ℕ → Bool
is_number None number = false
is_number (Some other) number = other == number

-- a ban names the move, by its id or by an alias
abbrev pub is_banned_move : Tables → List (List ℕ) → ℕ → Bool
is_banned_move dex bans mv = list_any (λ ban. is_number (move_of ban dex) mv) bans

-- what a move does; a number past the moves does nothing
abbrev pub effect_of : Option MoveItem → Effect
effect_of None = effects.Nothing
effect_of (Some item) = item.numbers.effect

abbrev pub is_ohko : Effect → Bool
is_ohko effects.Ohko = true
is_ohko other = false

-- it changes the evasion of its user by more than 0
abbrev pub raises_evasion : Effect → Bool
raises_evasion (effects.Boost User Eva by chance) = int_lt (pos 0) by
raises_evasion other = false

-- ---- the rows

-- the dex has the move, by its id or by an alias
unfoldable pub unknown_move : Tables → ℕ → List ℕ → Result ℕ Verdict
unknown_move dex set id = require_known set UnknownMove id (move_of id dex)

unfoldable pub banned_move : Tables → RuleTable → ℕ → List ℕ → ℕ → Result ⊤ Verdict
banned_move dex rules set id mv = keeps set BannedMove id (not (is_banned_move dex rules.bans mv))

unfoldable pub not_learned : Tables → ℕ → ℕ → List ℕ → ℕ → Result ⊤ Verdict
not_learned dex set species id mv = keeps set NotLearned id (learns species mv dex)

-- no earlier move of the set is the same one, whatever id the team has for it
unfoldable pub repeated_move : ℕ → List ℕ → List ℕ → ℕ → Result ⊤ Verdict
repeated_move set before id mv = keeps set RepeatedMove id (not (has_number mv before))

unfoldable pub ohko_clause : Tables → RuleTable → ℕ → List ℕ → ℕ → Result ⊤ Verdict
ohko_clause dex rules set id mv = keeps set OhkoClause id
    (not (has_clause rules.clauses (bit_of Ohko) && is_ohko (effect_of (slice_get dex.moves mv))))

unfoldable pub evasion_clause : Tables → RuleTable → ℕ → List ℕ → ℕ → Result ⊤ Verdict
evasion_clause dex rules set id mv = keeps set EvasionClause id
    (not (has_clause rules.clauses (bit_of Evasion) && raises_evasion (effect_of (slice_get dex.moves mv))))

-- ---- one move, and all of a set: their numbers

unfoldable pub move_in : Tables → RuleTable → ℕ → ℕ → List ℕ → List ℕ → Result ℕ Verdict
move_in dex rules set species before id = do
  mv ← unknown_move dex set id
  _ ← banned_move dex rules set id mv
  _ ← not_learned dex set species id mv
  _ ← repeated_move set before id mv
  _ ← ohko_clause dex rules set id mv
  _ ← evasion_clause dex rules set id mv
  Ok mv

-- each move beside those before it
abbrev pub each_move : Tables → RuleTable → ℕ → ℕ → List ℕ → List (List ℕ) → Result (List ℕ) Verdict
each_move dex rules set species before [] = Ok before
each_move dex rules set species before (id ∷ ids) = move_in dex rules set species before id >>= λ mv.
    each_move dex rules set species (before ++ mv ∷ []) ids
