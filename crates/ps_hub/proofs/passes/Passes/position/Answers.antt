use Rattle.std.proofs.Common.{◌≡◌, List, length, Some, refl, sym, ap, ◌∙◌, arith, rules}
use Rattle.std.specs.Prelude.{slice_get}
use Rattle.std.proofs.lemmas.Option.{slice_get_read}
use Rattle.ps_hub.specs.Passes.{RoomPass}
use Rattle.ps_hub.proofs.passes.Passes.position.Goals as goal

pub returns-then-rooms-pass_index-clause-found : goal.returns-then-rooms-pass_index-clause-found
returns-then-rooms-pass_index-clause-found c =
    let there : slice_get c.as_slice-rooms.result.now c.loop-pass_index.pass_index ≡ Some c.index-rooms-pass_index.result = slice_get_read c.as_slice-rooms.result.now (length c.as_slice-rooms.result.now) c.loop-pass_index.pass_index c.index-rooms-pass_index.result refl (omega arith) c.index-rooms-pass_index.is in
    (c.index-rooms-pass_index.result, ap (λ (l : List RoomPass). slice_get l c.loop-pass_index.pass_index) (sym c.as_slice-rooms.ensures.value) ∙ there, search rules)
