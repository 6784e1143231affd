use Rattle.std.proofs.Common.{arith}
use Rattle.serde_json.specs.View.{view}
use Rattle.ps_group.proofs.Sixteen.{index_near}
use Rattle.ps_group.proofs.groups.Groups.from_value.Goals as goal

pub overflow_cast-result : goal.overflow_cast-result
overflow_cast-result c =
    let fails = rw c.in-Err-Fault.field-0-is at c.in-Err-Fault.ensures in
    omega (arith, index_near (view c.args.value.now) c.in-Err-Fault.fault fails, c.first_index.ensures)
