use Rattle.std.proofs.Common.{◌≡◌, ◌++◌, take}
use Rattle.ps_base.proofs.text.push_copies.Given as goal

abbrev pub invariant-loop-text : goal.invariant-loop-text
invariant-loop-text l = l.texts.items ≡ l.fn.texts.items ++ take l.text-index l.more
