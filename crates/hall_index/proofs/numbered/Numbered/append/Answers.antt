use Rattle.std.proofs.Common.{◌∷◌, [], ◌++◌, sym, ap, ◌∙◌, subst}
use Rattle.hall_index.specs.Numbered.{AreBelow}
use Rattle.hall_index.proofs.NumberLemmas.{insert_last}
use Rattle.hall_index.proofs.numbered.Numbered.append.Goals as goal

pub returns-clause-ok : goal.returns-clause-ok
returns-clause-ok g c =
    c.in_ok-insert.ensures.entries
    ∙ insert_last c.args.number c.args.item c.self.inside.tree.entries (subst (AreBelow c.args.number) (sym c.self.view_is) c.requires)
    ∙ ap (λ es. es ++ (c.args.number, c.args.item) ∷ []) c.self.view_is
