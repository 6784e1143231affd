use Rattle.std.proofs.Common.{◌≡◌, ◌∙◌, Err, subst, rules}
use Rattle.std.specs.Str.{IsUtf8, chars}
use Rattle.ps_packed.specs.Packed.{IsTeam}
use Rattle.ps_valid.specs.TeamRows.{legal_in}
use Rattle.program_commands.specs.Ends.{Unpacks}
use Rattle.program_commands.proofs.FieldLemmas.{unpacked_breaks, broken_breaks}
use Rattle.program_commands.proofs.field.kept.Goals as goal

pub returns-in-Err-Fault-clause-tells : goal.returns-in-Err-Fault-clause-tells
returns-in-Err-Fault-clause-tells c =
    unpacked_breaks c.args.dex.now c.args.rules.now c.args.text.now c.in-Err-Fault.field-0-0 c.in-Err-Fault.field-0-1
    (subst (λ f. Unpacks c.args.text.now f) c.in-Err-Fault.field-0-is
    (subst (λ t. Unpacks t c.in-Err-Fault.field-0) (c.as_bytes.ensures.value ∙ c.as_str.ensures.value) c.in-Err-Fault.ensures.none))

pub returns-in-Err-Verdict-clause-tells : goal.returns-in-Err-Verdict-clause-tells
returns-in-Err-Verdict-clause-tells c =
    let packed : IsUtf8 c.args.text.now × IsTeam (chars c.args.text.now) c.in-Ok.team = search rules in
    let breaks : legal_in c.args.dex.now c.args.rules.now c.in-Ok.team ≡ Err c.in-Err-Verdict.field-0-0 = search rules in
    broken_breaks c.args.dex.now c.args.rules.now c.args.text.now c.in-Ok.team c.in-Err-Verdict.field-0-0 packed breaks
