use Rattle.std.proofs.Common.{ap, subst, chars}
use Rattle.std.proofs.lemmas.Str.{scalars-chars}
use Rattle.ps_packed.specs.Packed.{Refuses}
use Rattle.ps_packed.proofs.Unique.{team_is}
use Rattle.ps_hall.specs.Refusals.{of_pack}
use Rattle.ps_hall.proofs.PackLemmas.{no_fault, its_fault}
use Rattle.ps_hall.proofs.pack.read_pack.Goals as goal

pub returns-in-Ok : goal.returns-in-Ok
returns-in-Ok c =
    let text = chars c.args.text.now in
    let letters = scalars-chars c.args.text.now c.utf8.text in
    (ap of_pack (no_fault text c.in-Ok.team letters c.in-Ok.ensures.found), team_is text c.in-Ok.team c.in-Ok.ensures.found)

pub returns-in-Err-Fault : goal.returns-in-Err-Fault
returns-in-Err-Fault c =
    let text = chars c.args.text.now in
    let letters = scalars-chars c.args.text.now c.utf8.text in
    ap of_pack (its_fault text c.in-Err-Fault.at c.in-Err-Fault.kind letters (subst (Refuses text) c.in-Err-Fault.field-0-is c.in-Err-Fault.ensures.fault))
