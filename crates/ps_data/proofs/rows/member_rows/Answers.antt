use Rattle.ps_data.proofs.Each.{lent_entries}
use Rattle.ps_data.proofs.rows.member_rows.Goals as goal

pub returns : goal.returns
returns g c = rw (← lent_entries c.in_ok-pairs.pairs.items c.args.object.now.entries c.in_ok-pairs.ensures, ← c.deref.ensures.value) c.each_row.ensures
