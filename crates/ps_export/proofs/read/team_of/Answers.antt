use Rattle.std.proofs.Common.{chars, subst, ap, ◌∙◌, length}
use Rattle.ps_packed.specs.Packed.{Refuses}
use Rattle.ps_export.proofs.ReadLemmas.{refused_sheet, other_count}
use Rattle.ps_export.proofs.read.team_of.Goals as goal

pub returns-in-Err-Fault-clause-none : goal.returns-in-Err-Fault-clause-none
returns-in-Err-Fault-clause-none c = refused_sheet c.args.sheet.now c.as_str.result.now (c.as_str.ensures.value ∙ c.in_ok-packed.ensures) (subst (Refuses (chars c.as_str.result.now)) c.in-Err-Fault.field-0-is c.in-Err-Fault.ensures.fault).1

pub returns-clause-none : goal.returns-clause-none
returns-clause-none c = other_count c.args.sheet.now c.as_str.result.now c.in-Ok.team (c.as_str.ensures.value ∙ c.in_ok-packed.ensures) c.in-Ok.ensures.alone (λ h. c.if-sets-sheet.false (ap length c.sets.ensures.value ∙ h))
