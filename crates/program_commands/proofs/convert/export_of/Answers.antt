use Rattle.std.proofs.Common.{◌≡◌, ℕ, List, subst, inr}
use Rattle.std.specs.Io.BufRead.{strip_last}
use Rattle.program_commands.specs.Checks.{IsUnpacked}
use Rattle.program_commands.proofs.ConvertLemmas.{makes_export}
use Rattle.program_commands.proofs.convert.export_of.Goals as goal

pub returns-in-Err-Fault-clause-stops : goal.returns-in-Err-Fault-clause-stops
returns-in-Err-Fault-clause-stops c =
    let same : c.deref.result.now ≡ strip_last 10 c.args.bytes.items = cc in
    let none : IsUnpacked c.deref.result.now c.in-Err-Fault.at c.in-Err-Fault.kind = rw c.in-Err-Fault.field-0-is at c.in-Err-Fault.ensures.none in
    rw c.in-Err-Fault.field-0-is (inr (subst (λ (text : List ℕ). IsUnpacked text c.in-Err-Fault.at c.in-Err-Fault.kind) same none))

pub returns-clause-made : goal.returns-clause-made
returns-clause-made c =
    let same : c.deref.result.now ≡ strip_last 10 c.args.bytes.items = cc in
    makes_export c.args.bytes.items c.in-Ok.team c.export_of_team.result (rw same at c.in-Ok.ensures.found.0) (rw same at c.in-Ok.ensures.found.1) c.export_of_team.ensures.made
