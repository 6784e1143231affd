use Rattle.std.proofs.Common.{◌≡◌, ◌&&◌, true, leb, length, drop, List, ℕ, sym, ap, subst, ◌∙◌}
use Rattle.ps_packed.specs.declared.field.Field.{Field}
use Rattle.ps_packed.specs.Fields.{field_index}
use Rattle.ps_packed.specs.Forms.{is_field_char, form_of, moves}
use Rattle.ps_packed.specs.Scan.{prefix_ok, CountsOf}
use Rattle.ps_packed.proofs.Counts.{moves_next}
use Rattle.ps_packed.proofs.word.begins_so.Goals as goal

pub returns-in-Moves : goal.returns-in-Moves
returns-in-Moves c =
    let g = c.requires.grown in
    let x = c.args.c in
    let front : prefix_ok moves g.0 ≡ true = subst (λ (f : Field). prefix_ok (form_of (field_index f)) g.0 ≡ true) c.in-Moves.is g.2 in
    let counts = subst (λ (w : List ℕ). CountsOf w c.args.part c.args.ids) g.1 c.requires.counts in
    let next = moves_next g.0 x c.args.part c.args.ids front counts in
    let reported = subst (λ (w : List ℕ). prefix_ok moves w ≡ (is_field_char x && leb (length (drop c.args.part w)) 32 && leb c.args.ids 4)) (sym g.1) next in
    subst (λ (f : Field). c.moves_go_on.result ≡ prefix_ok (form_of (field_index f)) c.args.word.now) (sym c.in-Moves.is) (c.moves_go_on.ensures ∙ ap (λ (u : List ℕ). is_field_char x && leb (length u) 32 && leb c.args.ids 4) c.tail.ensures ∙ sym reported)
