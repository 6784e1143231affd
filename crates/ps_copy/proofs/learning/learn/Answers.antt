use Rattle.std.proofs.Common.{◌<◌, ◌-◌, arith}
use Rattle.ps_mon.specs.Reading.{side_of}
use Rattle.ps_mon.specs.Valid.{IsSide}
use Rattle.ps_mon.proofs.KeepLemmas.{slot-known}
use Rattle.ps_copy.proofs.ChangeLemmas.{count-range}
use Rattle.ps_copy.proofs.learning.learn.Goals as goal

pub slot-mv-requires-clause-slot : goal.slot-mv-requires-clause-slot
slot-mv-requires-clause-slot c =
    let theirs : IsSide (side_of c.args.battle.now (1 - c.args.user)) = c.requires.sound.sides (1 - c.args.user) (omega arith) in
    omega (arith, (count-range _ theirs).1)

pub returns-clause-known : goal.returns-clause-known
returns-clause-known c = λ moves known.
    let other : 1 - c.args.user < 2 = omega arith in
    let mv = slot-known moves _ c.args.from (c.requires.sound.sides (1 - c.args.user) other).shape (known.sides (1 - c.args.user) other) c.requires.from in
    c.put_slots.ensures.known moves (c.mimicked-slots.ensures.known moves (rw c.slot-mv.ensures.value mv) (known.sides c.args.user c.requires.user).vol.slots) known
