use Rattle.std.proofs.Common.{◌∙◌, subst}
use Rattle.program_commands.specs.Ends.{Unpacks}
use Rattle.program_show.proofs.drill_rows.trial_of.Goals as goal

pub returns-in-Err-Fault : goal.returns-in-Err-Fault
returns-in-Err-Fault c =
    rw c.in-Err-Fault.field-0-is
    (subst (λ f. Unpacks c.args.text.now f) c.in-Err-Fault.field-0-is
    (subst (λ t. Unpacks t c.in-Err-Fault.field-0) (c.as_bytes.ensures.value ∙ c.as_str.ensures.value) c.in-Err-Fault.ensures.none))
