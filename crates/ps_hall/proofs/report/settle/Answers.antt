use Rattle.std.proofs.Common.{◌≡◌, ℕ, List, Some, ap, ◌∙◌}
use Rattle.std.specs.FinMap.{get, insert}
use Rattle.ps_hall.specs.Steps.{standing_with}
use Rattle.ps_hall.proofs.LadderLemmas.{of_found}
use Rattle.hall_index.proofs.MapLemmas.{stands, exchanged, restored}
use Rattle.ps_hall.proofs.report.settle.Goals as goal

pub put_back-requires : goal.put_back-requires
put_back-requires c =
    let there : c.replace.new.self ≡ insert c.args.ladders.now c.args.format.now c.new.result = c.in-Some.ensures.there ∙ ap (λ (k : List ℕ). insert c.args.ladders.now k c.new.result) c.as_str.ensures.value in
    stands c.args.ladders.now c.replace.new.self c.args.format.now c.new.result there

pub put_back-requires-in-Ok : goal.put_back-requires-in-Ok
put_back-requires-in-Ok c =
    let there : c.replace.new.self ≡ insert c.args.ladders.now c.args.format.now c.new.result = c.in-Some.ensures.there ∙ ap (λ (k : List ℕ). insert c.args.ladders.now k c.new.result) c.as_str.ensures.value in
    stands c.args.ladders.now c.replace.new.self c.args.format.now c.new.result there

pub returns-in-Err-clause-err : goal.returns-in-Err-clause-err
returns-in-Err-clause-err c =
    let there : c.replace.new.self ≡ insert c.args.ladders.now c.args.format.now c.new.result = c.in-Some.ensures.there ∙ ap (λ (k : List ℕ). insert c.args.ladders.now k c.new.result) c.as_str.ensures.value in
    let found = c.in-Some.ensures.value ∙ ap (λ (k : List ℕ). get c.args.ladders.now k) c.as_str.ensures.value in
    restored c.args.ladders.now c.replace.new.self c.put_back.new.ladders c.args.format.now c.new.result _ there c.put_back.ensures (ap (λ v. Some v) c.in-Err.ensures.err ∙ found)

pub returns-in-Ok-clause-ok : goal.returns-in-Ok-clause-ok
returns-in-Ok-clause-ok c =
    let there : c.replace.new.self ≡ insert c.args.ladders.now c.args.format.now c.new.result = c.in-Some.ensures.there ∙ ap (λ (k : List ℕ). insert c.args.ladders.now k c.new.result) c.as_str.ensures.value in
    let found = c.in-Some.ensures.value ∙ ap (λ (k : List ℕ). get c.args.ladders.now k) c.as_str.ensures.value in
    exchanged c.args.ladders.now c.replace.new.self c.put_back-in-Ok.new.ladders c.args.format.now c.new.result _ there c.put_back-in-Ok.ensures
    ∙ ap (insert c.args.ladders.now c.args.format.now) c.in-Ok.ensures.ok
    ∙ ap (λ l. insert c.args.ladders.now c.args.format.now (standing_with l c.args.winner.now c.args.loser.now)) (of_found c.args.ladders.now c.args.format.now _ found)
