use Rattle.std.proofs.Common.{arith}
use Rattle.std.proofs.lemmas.Grind.{common_steps}
use Rattle.ps_replay.proofs.SymbolLemmas.{next_symbol}
use Rattle.ps_replay.proofs.symbols.symbols_of.Goals as goal

pub loop-rank-preserved : goal.loop-rank-preserved
loop-rank-preserved c = grind (arith, common_steps, next_symbol)
