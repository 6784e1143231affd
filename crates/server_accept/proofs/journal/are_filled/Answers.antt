use Rattle.std.proofs.Common.{◌≡◌, length, Some, refl, ap, ◌∙◌, arith}
use Rattle.std.specs.Prelude.{slice_get}
use Rattle.std.proofs.lemmas.Option.{slice_get_read}
use Rattle.server_accept.proofs.JournalLemmas.{filled_more}
use Rattle.server_accept.proofs.journal.are_filled.Goals as goal

pub loop-place-preserved : goal.loop-place-preserved
loop-place-preserved c =
    let at : slice_get c.args.ends.now c.loop-place.place ≡ Some c.in-Some-Some.field-0.now = slice_get_read c.args.ends.now (length c.args.ends.now) c.loop-place.place c.in-Some-Some.field-0.now refl c.in-Some-Some.ensures.lookup.3.0 c.in-Some-Some.ensures.lookup.1 in
    filled_more c.loop-place.place c.args.ends.now c.in-Some-Some.field-0-0 (at ∙ ap Some c.in-Some-Some.field-0-is) c.loop-place.invariant

pub returns : goal.returns
returns c = λ _ place lt. c.loop-place.invariant place (omega arith)
