use Rattle.std.proofs.Common.{◌≡◌, [], drop, List, arith, sym, ap, ◌∙◌}
use Rattle.std.proofs.lemmas.List.{drop_all}
use Rattle.ps_keep.specs.declared.note.Note.{Note}
use Rattle.ps_keep.specs.Standings.{standing_from}
use Rattle.ps_keep.proofs.StandingLemmas.{standing_all}
use Rattle.ps_keep.proofs.standings.ladder_of.Goals as goal

pub returns : goal.returns
returns c =
    let none : drop c.loop-note.note-index c.args.notes.now ≡ [] = drop_all c.loop-note.note-index c.args.notes.now (omega arith) in
    ap (λ (ns : List Note). standing_from c.loop-note.ladder c.args.format.now ns) (sym none) ∙ c.loop-note.invariant.1 ∙ standing_all c.args.format.now c.args.notes.now
