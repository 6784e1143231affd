use Rattle.std.proofs.Common.{◌≡◌, ℕ, ◌≤◌, ap, sym, ◌∙◌, subst, IfSome, Some, take, drop, length, ◌++◌, List, arith}
use Rattle.std.proofs.lemmas.List.{take-append-le, length-take}
use Rattle.replay_script.specs.Limits.{long_of}
use Rattle.replay_script.proofs.InputLemmas.{long_read, reads_few}
use Rattle.replay_script.proofs.input.read_input.Goals as goal

pub returns-in-Ok-Some-clause-long : goal.returns-in-Ok-Some-clause-long
returns-in-Ok-Some-clause-long g c = λ count e.
    let same : c.in-Ok-Some.count ≡ count = cc in
    let bound : c.in-Ok.n ≤ length c.read.new.buf = omega (arith, c.in-Ok.ensures.bound) in
    let piece : take c.in-Ok.n (c.read.new.buf ++ drop c.min-room.result c.loop-bytes.buf) ≡ take c.in-Ok.n c.read.new.buf = take-append-le c.in-Ok.n c.read.new.buf _ bound in
    let said = rw c.in-Ok-Some.field-0-is at c.in-Ok-Some.ensures.long in
    subst (λ (k : ℕ). IfSome (g.S.Source.left c.args.source.now) (λ input. long_of input ≡ Some k)) same
    (long_read (g.S.Source.left c.args.source.now) (g.S.Source.left c.loop-bytes.source) (g.S.Source.left c.read.new.self) c.loop-bytes.bytes.items (take c.in-Ok.n c.read.new.buf) c.in-Ok-Some.count c.loop-bytes.invariant.took c.in-Ok.ensures.bytes.0 (ap (λ (x : List ℕ). long_of (c.loop-bytes.bytes.items ++ x)) (sym piece) ∙ said))

pub returns-in-Err-take-clause-bounded : goal.returns-in-Err-take-clause-bounded
returns-in-Err-take-clause-bounded g c =
    reads_few (g.S.Source.left c.args.source.now) (g.S.Source.left c.loop-bytes.source) (g.S.Source.left c.read.new.self) c.loop-bytes.bytes.items (take c.in-Ok.n c.read.new.buf) c.loop-bytes.invariant.took c.in-Ok.ensures.bytes.0 (omega (arith, c.in-Ok.ensures.bound, c.loop-bytes.invariant.small, length-take c.in-Ok.n c.read.new.buf, c.min-room.ensures, c.read.auto.buf, length-take c.min-room.result c.loop-bytes.buf))

pub returns-in-Ok-Some-clause-bounded : goal.returns-in-Ok-Some-clause-bounded
returns-in-Ok-Some-clause-bounded g c =
    reads_few (g.S.Source.left c.args.source.now) (g.S.Source.left c.loop-bytes.source) (g.S.Source.left c.read.new.self) c.loop-bytes.bytes.items (take c.in-Ok.n c.read.new.buf) c.loop-bytes.invariant.took c.in-Ok.ensures.bytes.0 (omega (arith, c.in-Ok.ensures.bound, c.loop-bytes.invariant.small, length-take c.in-Ok.n c.read.new.buf, c.min-room.ensures, c.read.auto.buf, length-take c.min-room.result c.loop-bytes.buf))
