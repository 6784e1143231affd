use Rattle.std.proofs.Common.{◌∙◌, ◌<◌, List, length, slice_set, ap, arith}
use Rattle.ps_rules.specs.declared.marks.Mark.{Mark}
use Rattle.ps_rules.proofs.MarkLemmas.{counted, mark_set}
use Rattle.ps_rules.proofs.marks.Marks.set.Goals as goal

pub returns : goal.returns
returns c =
    let within : c.args.index < c.self.inside.count = omega (arith, c.requires, ap length c.self.view_is, counted c.self.inside.met 0 c.self.inside.count) in
    mark_set c.self.inside.met c.insert.new.self c.self.inside.count c.args.index c.args.mark within c.in_ok-insert.ensures.updates ∙ ap (λ (ms : List Mark). slice_set ms c.args.index c.args.mark) c.self.view_is
