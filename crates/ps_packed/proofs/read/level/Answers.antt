use Rattle.std.proofs.Common.{arith}
use Rattle.ps_packed.proofs.Reading.{level_number}
use Rattle.ps_packed.proofs.read.level.Goals as goal

pub number-requires : goal.number-requires
number-requires c = (level_number c.args.word.now c.requires).0

pub overflow_cast-result : goal.overflow_cast-result
overflow_cast-result c = omega (arith, c.number.ensures, (level_number c.args.word.now c.requires).1)
