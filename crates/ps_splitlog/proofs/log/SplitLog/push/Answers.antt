use Rattle.std.proofs.Common.{◌≡◌, List, ◌++◌, ◌∷◌, [], ◌-◌, ◌∙◌, length, sym, ap, subst}
use Rattle.ps_splitlog.specs.declared.entry.LogEntry.{LogEntry}
use Rattle.ps_splitlog.specs.Indices.{IsIndex, line_indices_in}
use Rattle.ps_splitlog.specs.Firsts.{AreFirsts}
use Rattle.ps_splitlog.proofs.IndexLemmas.{noted}
use Rattle.ps_splitlog.proofs.FirstLemmas.{firsts_pushed}
use Rattle.ps_splitlog.proofs.log.SplitLog.push.Goals as goal

pub invariant_of-self-2 : goal.invariant_of-self-2
invariant_of-self-2 c =
    let pushed : c.push.new.self.items ≡ c.reserve.new.self.items ++ c.args.log_entry ∷ [] = rw c.unwrap.ensures at c.push.ensures.items in
    let grew : c.push.new.self.items ≡ c.self.inside.entries.items ++ c.args.log_entry ∷ [] = pushed
    ∙ ap (λ log. log ++ c.args.log_entry ∷ []) c.in_ok-reserve.ensures.items in
    let line_indices : c.note.new.index.line_indices.items
    ≡ c.self.inside.index.line_indices.items ++ line_indices_in (length c.self.inside.entries.items) 0 c.args.log_entry.lines =
    c.in_ok-note.ensures.line_indices ∙ ap (λ n. c.self.inside.index.line_indices.items ++ line_indices_in n 0 c.as_slice-2.result.now)
    (c.len-entry.ensures ∙ c.self.inside.entries.ok.0)
    ∙ ap (λ ls. c.self.inside.index.line_indices.items ++ line_indices_in (length c.self.inside.entries.items) 0 ls)
    c.as_slice-2.ensures in
    let firsts : AreFirsts (length c.self.inside.entries.items) c.self.inside.entries.items c.note_last.new.firsts =
    subst (λ (log : List LogEntry). AreFirsts (length log) log c.note_last.new.firsts) c.as_slice.ensures.value
    c.in_ok-note_last.ensures.ok in (
      subst (λ (log : List LogEntry). IsIndex log c.note.new.index.starts.items c.note.new.index.line_indices.items) (sym grew)
          (noted c.self.inside.entries.items c.args.log_entry c.self.inside.index.starts.items c.note.new.index.starts.items
          c.self.inside.index.line_indices.items c.note.new.index.line_indices.items c.self.invariant.0 c.in_ok-note.ensures.starts
          line_indices),
      subst (λ (log : List LogEntry). AreFirsts (length log - 1) log c.note_last.new.firsts) (sym grew)
          (firsts_pushed c.self.inside.entries.items c.args.log_entry c.note_last.new.firsts firsts),
    )
