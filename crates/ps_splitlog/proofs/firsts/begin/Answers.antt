use Rattle.std.proofs.Common.{◌≡◌, false, take, inr, arith, rules}
use Rattle.std.specs.List.{list_any}
use Rattle.ps_splitlog.specs.Firsts.{is_named}
use Rattle.ps_splitlog.proofs.FirstLemmas.{unnamed_before, messages_behind, role_behind}
use Rattle.ps_splitlog.proofs.firsts.begin.Goals as goal

pub returns-in-Outside-clause-messages : goal.returns-in-Outside-clause-messages
returns-in-Outside-clause-messages c =
    let none : list_any (is_named c.args.conn) (take c.first_for.result c.args.entries.now) ≡ false =
    unnamed_before c.args.firsts.now c.args.entries.now c.args.conn _ _ c.first_for.result c.first_for.ensures (search rules)
    (search rules) c.requires in
    messages_behind c.args.conn c.args.role c.args.at c.first_for.result c.args.entries.now (search rules) (omega arith) none

pub returns-in-Outside-clause-role : goal.returns-in-Outside-clause-role
returns-in-Outside-clause-role c =
    let none : list_any (is_named c.args.conn) (take c.first_for.result c.args.entries.now) ≡ false =
    unnamed_before c.args.firsts.now c.args.entries.now c.args.conn _ _ c.first_for.result c.first_for.ensures (search rules)
    (search rules) c.requires in
    role_behind c.args.conn c.args.role c.args.at c.first_for.result c.args.entries.now (search rules) (omega arith) none

pub returns-in-Outside-clause-unnamed : goal.returns-in-Outside-clause-unnamed
returns-in-Outside-clause-unnamed c = inr (record {
  outside = search rules;
  begins = omega arith;
  none =
      unnamed_before c.args.firsts.now c.args.entries.now c.args.conn _ _ c.first_for.result c.first_for.ensures (search rules)
      (search rules) c.requires;
})
