use Rattle.std.proofs.Common.{◌≡◌, List, ◌-◌, ◌∙◌, length, take, sym, ap, subst, arith}
use Rattle.ps_splitlog.specs.declared.entry.LogEntry.{LogEntry}
use Rattle.ps_splitlog.specs.Indices.{IsIndex}
use Rattle.ps_splitlog.specs.Firsts.{AreFirsts}
use Rattle.ps_splitlog.proofs.IndexLemmas.{forgotten}
use Rattle.ps_splitlog.proofs.FirstLemmas.{firsts_behind}
use Rattle.ps_splitlog.proofs.log.SplitLog.take_back.Goals as goal

pub invariant_of-self : goal.invariant_of-self
invariant_of-self c =
    let rest : c.saturating_sub-rest.result ≡ length c.self.inside.entries.items - 1 =
    omega (arith, c.saturating_sub-rest.ensures, c.len.ensures, c.self.inside.entries.ok.0) in
    let left : c.truncate.new.self.items ≡ take (length c.self.inside.entries.items - 1) c.self.inside.entries.items =
    c.truncate.ensures.items ∙ ap (λ n. take n c.self.inside.entries.items) rest in (
      subst (λ (log : List LogEntry). IsIndex log c.forget.new.index.starts.items c.forget.new.index.line_indices.items) (sym left)
          (forgotten c.self.inside.entries.items c.self.inside.index.starts.items c.forget.new.index.starts.items
          c.self.inside.index.line_indices.items c.forget.new.index.line_indices.items c.self.invariant.0 c.forget.ensures.starts
          c.forget.ensures.line_indices),
      subst (λ (log : List LogEntry). AreFirsts (length log - 1) log c.self.inside.firsts) (sym left)
          (firsts_behind c.self.inside.entries.items c.self.inside.firsts c.self.invariant.1),
    )
