use Rattle.std.proofs.Common.{ℕ, List, Result, [], map, ◌∷◌, ◌+◌, ◌∙◌, arith}
use Rattle.std.proofs.lemmas.Result.{err_from_is_err_and}
use Rattle.std.proofs.lemmas.List.{length-append}
use Rattle.serde_json.specs.Data.{Data}
use Rattle.serde_json.specs.View.{view}
use Rattle.ps_data.specs.declared.fault.Fault.{Fault}
use Rattle.ps_data.specs.Lists.{each}
use Rattle.ps_data.proofs.Each.{goes_on, fails, ends}
use Rattle.ps_dex.specs.Species.{learned_in}
use Rattle.ps_dex.proofs.NewLemmas.{new_number}
use Rattle.ps_dex.proofs.species.each_learned.Goals as goal

pub returns-in_err-mv : goal.returns-in_err-mv
returns-in_err-mv c =
    let p = err_from_is_err_and c.from_residual-in_err-mv.result c.from_residual-in_err-mv.ensures.1 in
    let form : List ℕ → List Data → Data → Result ℕ Fault = λ before after. learned_in c.args.moves.now before in
    rw (p.1, p.2) (fails form c.loop-i.learns.keys c.args.values.now c.loop-i.i c.index-values-i.result c.in_err-mv.field-0.0 (each form [] (map view c.args.values.now)) c.loop-i-test.true c.index-values-i.is c.loop-i.invariant.count (c.in_err-mv.ensures.deeper _ c.learned.ensures.gives) c.loop-i.invariant.so_far)

pub loop-i-preserved : goal.loop-i-preserved
loop-i-preserved c =
    let form : List ℕ → List Data → Data → Result ℕ Fault = λ before after. learned_in c.args.moves.now before in
    let fresh = rw c.in_ok-mv.ensures.same at c.learned.ensures.new in
    let last = c.in_ok-insert.ensures.keys ∙ new_number c.in_ok-mv.mv c.loop-i.learns.keys fresh in
    record {
      count = rw last (omega (arith, c.loop-i.invariant.count, length-append c.loop-i.learns.keys (c.in_ok-mv.mv ∷ [])));
      so_far = rw last (goes_on form c.loop-i.learns.keys c.args.values.now c.loop-i.i c.index-values-i.result c.in_ok-mv.mv (each form [] (map view c.args.values.now)) c.loop-i-test.true c.index-values-i.is c.loop-i.invariant.count (c.in_ok-mv.ensures.deeper _ c.learned.ensures.gives) c.loop-i.invariant.so_far);
    }

pub returns : goal.returns
returns c =
    let form : List ℕ → List Data → Data → Result ℕ Fault = λ before after. learned_in c.args.moves.now before in
    ends form c.loop-i.learns.keys c.args.values.now c.loop-i.i (each form [] (map view c.args.values.now)) c.loop-i-test.false c.loop-i.invariant.so_far
