-- What is told of the rulesets.
use Rattle.std.specs.Prelude.{ℕ, List, [], ◌++◌, codes, map, Option, Some, None, Result, Ok, Err, if◌then◌else◌}
use Rattle.ps_rules.specs.declared.clause.Clause.{Clause}
use Rattle.ps_rules.specs.declared.fault.RuleFault.{RuleFault}
use Rattle.ps_rules.specs.declared.fault.RuleFault.TheVariants.{UnknownRule, Cycle, Contradiction, NoMemory}
use Rattle.ps_rules.specs.declared.table.Rule.{Rule}
use Rattle.ps_rules.specs.declared.table.Ruleset.{Ruleset}
use Rattle.ps_rules.specs.declared.table.RuleTable.{RuleTable}
use Rattle.ps_rules.specs.declared.table.Format.{Format}
use Rattle.ps_rules.specs.declared.table.Said.{Said}
use Rattle.ps_rules.specs.Clauses.{clause_of}
use Rattle.ps_rules.specs.Resolve.{format_of, resolved}
use Rattle.file_help.specs.declared.page.Row.{Row}
use Rattle.file_help.specs.Pages.{listed}
use Rattle.program_show.specs.FormatRows.{clause_names}

-- the id of a rule, behind `!` where it repeals a clause
abbrev pub rule_text : Rule → List ℕ
rule_text rule = if rule.repeals then codes "!" ++ rule.id else rule.id

-- the clauses that a ruleset comes to, or the first fault of its walk, which is never out of memory
abbrev pub outcome_text : Result RuleTable RuleFault → List ℕ
outcome_text (Ok table) = codes "comes to " ++ listed (clause_names table.clauses)
outcome_text (Err (UnknownRule id)) = codes "wrong: `" ++ id ++ codes "` is neither a clause nor a ruleset"
outcome_text (Err (Cycle id)) = codes "wrong: it comes to `" ++ id ++ codes "` inside itself"
outcome_text (Err (Contradiction id)) = codes "wrong: a list names and repeals `" ++ id ++ codes "`"
outcome_text (Err NoMemory) = []

-- An id means a clause before it means a ruleset. What is played under an id by itself is looked up among formats first, so of a
-- ruleset that has the id of one this tells nothing; what rule lists mean by it is told behind.
abbrev pub set_end : Said → List ℕ → Option Clause → Option Format → List ℕ
set_end said id (Some clause) format = codes "never used: a clause has this id"
set_end said id None (Some format) = codes "a format has this id, too: see `Warnings`"
set_end said id None None = outcome_text (resolved said id)

-- the rules as they stand in the list, and what they come to
unfoldable pub set_text : Said → Ruleset → List ℕ
set_text said rule_set = listed (map rule_text rule_set.rules) ++ codes "; "
    ++ set_end said rule_set.id (clause_of rule_set.id) (format_of rule_set.id said.formats)

abbrev pub set_row : Said → Ruleset → Row
set_row said rule_set = record { key = rule_set.id; value = set_text said rule_set }
