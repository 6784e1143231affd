use Rattle.serde_json.specs.View.{view}
use Rattle.ps_group.proofs.Sixteen.{count_near}
use Rattle.ps_group.proofs.groups.Groups.read.Goals as goal

pub from_list-requires-clause-some : goal.from_list-requires-clause-some
from_list-requires-clause-some c = (count_near (view c.args.value.now) c.in_ok-group_list.field-0.items c.in_ok-group_list.ensures).0

pub from_list-requires-clause-few : goal.from_list-requires-clause-few
from_list-requires-clause-few c = (count_near (view c.args.value.now) c.in_ok-group_list.field-0.items c.in_ok-group_list.ensures).1
