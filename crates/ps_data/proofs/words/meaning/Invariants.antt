use Rattle.std.proofs.Common.{◌≡◌, map, drop}
use Rattle.ps_data.specs.Words.{meaning}
use Rattle.ps_data.proofs.words.meaning.Given as goal

abbrev pub invariant-loop-other : goal.invariant-loop-other
invariant-loop-other g l = meaning (map (λ entry. (entry.0.now, entry.1)) (drop l.other-index l.table)) l.word ≡ meaning (map (λ entry. (entry.0.now, entry.1)) l.table) l.word
