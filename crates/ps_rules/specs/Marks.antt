-- The marks of rulesets as a list, of which a map has those that were met. Only private clauses cite this file.
use Rattle.std.specs.Prelude.{ℕ, zero, suc, List, [], ◌∷◌, Option, Some, None}
use Rattle.std.specs.Ordering.{nat_cmp}
use Rattle.std.specs.BTreeMap.{BTreeMap, get}
use Rattle.ps_rules.specs.declared.marks.Mark.{Mark}
use Rattle.ps_rules.specs.declared.marks.Mark.TheVariants.{New}

-- what the map doesn't have wasn't met
abbrev pub mark_or_new : Option Mark → Mark
mark_or_new None = New
mark_or_new (Some mark) = mark

-- the marks of so many rulesets from an index on
abbrev pub marks_from : BTreeMap ℕ Mark → ℕ → ℕ → List Mark
marks_from met index zero = []
marks_from met index (suc count) = mark_or_new (get nat_cmp met index) ∷ marks_from met (suc index) count
