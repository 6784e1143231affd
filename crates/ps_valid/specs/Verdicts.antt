-- Rules one after the other: the first that is broken tells.
use Rattle.std.specs.Prelude.{ℕ, List, Bool, Option, Some, None, Result, Ok, Err, ⊤, if◌then◌else◌}
use Rattle.ps_base.specs.declared.team_rule.TeamRule.{TeamRule}
use Rattle.ps_data.specs.Reading.{Returns}
use Rattle.ps_valid.specs.declared.verdict.Verdict.{Verdict}
use Rattle.ps_valid.specs.declared.verdict.TeamFault.{TeamFault}
use Rattle.ps_valid.specs.declared.verdict.TeamFault.TheVariants as faults

-- the set breaks the rule by the subject
abbrev pub breaks : {A : Type 0} → ℕ → TeamRule → List ℕ → Result A Verdict
breaks set rule subject = Err (record { set = set; rule = rule; subject = subject })

-- the rule is kept, or broken by the subject
abbrev pub keeps : ℕ → TeamRule → List ℕ → Bool → Result ⊤ Verdict
keeps set rule subject kept = if kept then Ok tt else breaks set rule subject

-- the rule that there is something
abbrev pub require_known : ℕ → TeamRule → List ℕ → Option ℕ → Result ℕ Verdict
require_known set rule subject None = breaks set rule subject
require_known set rule subject (Some number) = Ok number

-- ---- What a function answered, beside the rules. Out of memory may come in the place of either.

abbrev pub verdict_of : TeamFault → Option Verdict
verdict_of faults.NoMemory = None
verdict_of (faults.Verdict verdict) = Some verdict

abbrev pub Finds : {A : Type 0} → Result A TeamFault → Result A Verdict → Type 0
Finds result found = Returns (λ value. value) verdict_of result found

-- the same, where what was answered is seen by view
abbrev pub FindsBy : {A B : Type 0} → (A → B) → Result A TeamFault → Result B Verdict → Type 0
FindsBy view result found = Returns view verdict_of result found
