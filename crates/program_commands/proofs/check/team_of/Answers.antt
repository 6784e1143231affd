use Rattle.std.proofs.Common.{inr}
use Rattle.program_commands.proofs.check.team_of.Goals as goal

pub returns-in-Err-Fault-clause-none : goal.returns-in-Err-Fault-clause-none
returns-in-Err-Fault-clause-none c =
    inr (c.in-Ok.ensures.cases.1, rw (c.in-Err-Fault.field-0-is, c.in-Ok.ensures.cases.0) at c.in-Err-Fault.ensures.fault)
