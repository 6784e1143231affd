use Rattle.std.proofs.Common.{◌≡◌, map, take}
use Rattle.ps_packed.specs.Canon.{iv_text}
use Rattle.ps_export.proofs.spread.iv_texts.Given as goal

abbrev pub invariant-loop-n : goal.invariant-loop-n
invariant-loop-n l = l.texts.items ≡ map iv_text (take l.n-index l.numbers)
