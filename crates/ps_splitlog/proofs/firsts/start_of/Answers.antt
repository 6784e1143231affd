use Rattle.std.proofs.Common.{◌≡◌, ◌<◌, ◌-◌, min, length, ap, ◌∙◌, inr}
use Rattle.ps_splitlog.proofs.PieceLemmas.{reads_on}
use Rattle.ps_splitlog.proofs.firsts.start_of.Goals as goal

pub returns : goal.returns
returns c =
    let at_is : c.min-at.result ≡ min c.begin-first.result (length c.args.entries.now - c.args.least) =
    c.min-at.ensures ∙ ap (λ n. min c.begin-first.result n) c.saturating_sub.ensures in
    let past : c.args.cursor.at < c.min-at.result = c.if-at-cursor.false in
    inr (reads_on c.args.cursor c.begin-first.result c.args.least c.min-at.result c.args.entries.now c.begin-first.ensures.unnamed at_is past)
