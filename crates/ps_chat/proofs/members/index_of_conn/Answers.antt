use Rattle.std.proofs.Common.{◌==◌, ◌∙◌, Bool, sym, arith}
use Rattle.ps_chat.specs.declared.present.Present.{Present}
use Rattle.ps_chat.proofs.FindLemmas.{index_here, none_yet}
use Rattle.ps_chat.proofs.members.index_of_conn.Goals as goal

pub returns-then-eq : goal.returns-then-eq
returns-then-eq c =
    let test : Present → Bool = λ p. p.conn == c.args.conn in
    sym (index_here test c.args.members.now c.loop-i.i c.index-members-i.result (omega arith) c.loop-i.invariant (sym c.eq.ensures ∙ c.if-eq.true))

pub loop-i-preserved : goal.loop-i-preserved
loop-i-preserved c =
    let test : Present → Bool = λ p. p.conn == c.args.conn in
    none_yet test c.args.members.now c.loop-i.i c.index-members-i.result (omega arith) c.loop-i.invariant (sym c.eq.ensures ∙ c.if-eq.false)
