use Rattle.std.specs.Prelude.{slice_index}
use Rattle.ps_valid.proofs.ReadyLemmas.{member_ready}
use Rattle.ps_valid.proofs.member.member_of.Goals as goal

pub returns-clause-ready : goal.returns-clause-ready
returns-clause-ready c =
    let base = slice_index c.stats_of-base.result 4 in
    let numbers = c.numbers_of-max in
    member_ready c.args.dex.now c.args.species c.args.set.now.level c.types_of-types.result numbers.result.stats base numbers.result.max c.slots_of-slots.result c.args.moves.now
    c.all_species.ensures.fit c.requires.within c.requires.ranges.level_low c.requires.ranges.level_high (rw (← c.all_species-2.ensures.value) c.types_of-types.ensures) numbers.ensures.stats numbers.ensures.low numbers.ensures.high
    (rw (← c.moves.ensures) c.slots_of-slots.ensures) c.requires.some c.requires.few c.requires.known
