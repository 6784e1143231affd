-- One step of the walk, as the code makes it: the lists that wait for an inner one lie on a stack, and each ruleset has a
-- mark. Only private clauses cite this file; what a walk finds is said in `Walk`.
use Rattle.std.specs.Prelude.{ℕ, ◌+◌, List, slice_get, slice_set, Option, Some, None, Result, Ok, Err}
use Rattle.ps_rules.specs.declared.clause.Clause.{Clause}
use Rattle.ps_rules.specs.declared.table.Rule.{Rule}
use Rattle.ps_rules.specs.declared.table.Ruleset.{Ruleset}
use Rattle.ps_rules.specs.declared.walk.Tally.{Tally}
use Rattle.ps_rules.specs.declared.marks.Mark.{Mark}
use Rattle.ps_rules.specs.declared.marks.Mark.TheVariants.{New, Open, Done}
use Rattle.ps_rules.specs.declared.walk.Frame.{Frame}
use Rattle.ps_rules.specs.declared.walk.Turn.{Turn}
use Rattle.ps_rules.specs.declared.walk.Turn.TheVariants.{Further, Inner, Over}
use Rattle.ps_rules.specs.declared.fault.RuleFault.{RuleFault}
use Rattle.ps_rules.specs.declared.fault.RuleFault.TheVariants.{UnknownRule, Cycle, Contradiction}
use Rattle.ps_rules.specs.Clauses.{clause_of, bit_of}
use Rattle.ps_rules.specs.Walk.{nothing, left_on, own, with_inner, set_named, rules_of}

-- the texts of the ruleset at an index, or those that the walk begins with
abbrev pub rules_in : List Ruleset → List Rule → Option ℕ → List Rule
rules_in sets first None = first
rules_in sets first (Some index) = rules_of (slice_get sets index)

-- no text of a list has been walked yet
abbrev pub frame_at : Option ℕ → Frame
frame_at index = record { index = index; next = 0; tally = nothing }

-- one text more has been walked
abbrev pub further : Frame → Tally → Frame
further frame tally = record { index = frame.index; next = frame.next + 1; tally = tally }

-- a text that names the ruleset with a mark
abbrev pub by_mark : List ℕ → Frame → ℕ → Option Mark → Result Turn RuleFault
by_mark id frame index None = Err (Cycle id)
by_mark id frame index (Some New) = Ok (Inner index)
by_mark id frame index (Some Open) = Err (Cycle id)
by_mark id frame index (Some (Done clauses)) = Ok (Further (further frame (with_inner frame.tally clauses)))

abbrev pub by_index : List Mark → List ℕ → Frame → Option ℕ → Result Turn RuleFault
by_index marks id frame None = Err (UnknownRule id)
by_index marks id frame (Some index) = by_mark id frame index (slice_get marks index)

-- a text that names a clause
abbrev pub by_own : List ℕ → Frame → Option Tally → Result Turn RuleFault
by_own id frame None = Err (Contradiction id)
by_own id frame (Some tally) = Ok (Further (further frame tally))

abbrev pub by_name : List Ruleset → List Mark → Frame → Rule → Option Clause → Result Turn RuleFault
by_name sets marks frame rule (Some clause) = by_own rule.id frame (own frame.tally (bit_of clause) rule.repeals)
by_name sets marks frame rule None = by_index marks rule.id frame (set_named sets rule)

unfoldable pub heard : List Ruleset → List Mark → Frame → Rule → Result Turn RuleFault
heard sets marks frame rule = by_name sets marks frame rule (clause_of rule.id)

abbrev pub at_text : List Ruleset → List Mark → Frame → Option Rule → Result Turn RuleFault
at_text sets marks frame None = Ok (Over (left_on frame.tally))
at_text sets marks frame (Some rule) = heard sets marks frame rule

-- the next step in a list
unfoldable pub turn_in : List Ruleset → List Mark → List Rule → Frame → Result Turn RuleFault
turn_in sets marks first frame = at_text sets marks frame (slice_get (rules_in sets first frame.index) frame.next)

-- the ruleset of a list leaves these clauses on from now on
abbrev pub closed : List Mark → Option ℕ → ℕ → List Mark
closed marks None clauses = marks
closed marks (Some index) clauses = slice_set marks index (Done clauses)
