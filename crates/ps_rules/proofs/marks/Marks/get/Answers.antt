use Rattle.std.proofs.Common.{◌∙◌, List, slice_get, sym, ap, arith}
use Rattle.ps_rules.specs.declared.marks.Mark.{Mark}
use Rattle.ps_rules.proofs.MarkLemmas.{mark_at, no_mark_at}
use Rattle.ps_rules.proofs.marks.Marks.get.Goals as goal

pub returns-then-index-self : goal.returns-then-index-self
returns-then-index-self c = sym (ap (λ (ms : List Mark). slice_get ms c.args.index) (sym c.self.view_is) ∙ no_mark_at c.self.inside.met c.self.inside.count c.args.index (omega arith))

pub returns-in-None : goal.returns-in-None
returns-in-None c = sym (ap (λ (ms : List Mark). slice_get ms c.args.index) (sym c.self.view_is) ∙ mark_at c.self.inside.met c.self.inside.count c.args.index _ (omega arith) c.in-None.ensures.value)

pub returns-in-Some : goal.returns-in-Some
returns-in-Some c = sym (ap (λ (ms : List Mark). slice_get ms c.args.index) (sym c.self.view_is) ∙ mark_at c.self.inside.met c.self.inside.count c.args.index _ (omega arith) c.in-Some.ensures.value)
