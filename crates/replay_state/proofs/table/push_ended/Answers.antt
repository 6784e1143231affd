use Rattle.std.proofs.Common.{◌++◌, string_bytes, List, ℕ, map, ap, sym, ◌∙◌, append_assoc}
use Rattle.replay_state.specs.declared.place.Happening.TheVariants as happening
use Rattle.replay_state.specs.Entries.{quits}
use Rattle.replay_state.specs.Houses.{now_in}
use Rattle.replay_state.specs.Transcript.{over_line}
use Rattle.replay_state.specs.Tables.{happenings_text}
use Rattle.replay_state.proofs.EndLemmas.{ended_text}
use Rattle.replay_state.proofs.table.push_ended.Goals as goal

pub returns-clause-text : goal.returns-clause-text
returns-clause-text c =
    let left = map happening.Entry (quits c.args.moment (now_in c.args.places.now) c.args.conn) in
    c.in_ok-push_over.ensures
    ∙ ap (λ (x : List ℕ). x ++ over_line c.args.conn) c.in_ok-push_quits.ensures.text
    ∙ append_assoc (string_bytes c.args.out.now.text) (happenings_text c.args.count c.args.places.now left) (over_line c.args.conn)
    ∙ ap (λ (x : List ℕ). string_bytes c.args.out.now.text ++ x) (sym (ended_text c.args.count c.args.places.now left c.args.conn))
