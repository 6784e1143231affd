use Rattle.std.proofs.Common.{◌≡◌, length, arith}
use Rattle.replay_script.proofs.ItemLemmas.{no_char}
use Rattle.replay_script.proofs.item.first_char.Goals as goal

pub returns-in-None-clause-none : goal.returns-in-None-clause-none
returns-in-None-clause-none c =
    let at_end = rw c.chars-chars.ensures.rest at c.in-None.ensures.steps.0 in
    let none : length c.args.text.now ≡ 0 = omega (arith, at_end) in
    λ d rest. no_char c.args.text.now d rest none
