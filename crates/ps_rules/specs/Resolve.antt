-- What is played under a format, or under an id that no format has.
use Rattle.std.specs.Prelude.{ℕ, true, false, List, [], ◌∷◌, bytes_eq, position, slice_get, Option, Some, None, Result, Ok}
use Rattle.ps_rules.specs.declared.table.RuleTable.{RuleTable}
use Rattle.ps_rules.specs.declared.table.Format.{Format}
use Rattle.ps_rules.specs.declared.table.Said.{Said}
use Rattle.ps_rules.specs.declared.version.Version.{Version}
use Rattle.ps_rules.specs.declared.fault.RuleFault.{RuleFault}
use Rattle.ps_rules.specs.Walk.{◌>>>◌, clauses_of}

-- what a configuration of a version without rulesets and formats says
abbrev pub no_formats : Version → Said
no_formats version = record { version = version; rulesets = []; formats = [] }

-- the index of the format with an id
unfoldable pub format_index : List ℕ → List Format → Option ℕ
format_index id formats = position (λ format. bytes_eq format.id id) formats

abbrev pub at_its_index : Option ℕ → List Format → Option Format
at_its_index None formats = None
at_its_index (Some index) formats = slice_get formats index

-- the format with an id
abbrev pub format_of : List ℕ → List Format → Option Format
format_of id formats = at_its_index (format_index id formats) formats

-- the clauses, and the defaults for the rest
abbrev pub plain : ℕ → RuleTable
plain clauses = record { clauses = clauses; bans = []; min = 1; max = 6; levels = 1 ∷ 100 ∷ []; rated = true }

-- the table of a format whose one rule is the id, with the defaults for the rest
unfoldable pub alone : Said → List ℕ → Result RuleTable RuleFault
alone said id = clauses_of said.version said.rulesets (record { id = id; repeals = false } ∷ []) >>> λ clauses. Ok (plain clauses)

abbrev pub table_or : Result RuleTable RuleFault → Option Format → Result RuleTable RuleFault
table_or other (Some format) = Ok format.table
table_or other None = other

-- the table of the format with the id; an id that no format has is taken as a rule
abbrev pub resolved : Said → List ℕ → Result RuleTable RuleFault
resolved said id = table_or (alone said id) (format_of id said.formats)
