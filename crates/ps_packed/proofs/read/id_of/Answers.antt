use Rattle.std.proofs.Common.{◌≡◌, List, ℕ, IfOk, ap, subst, ◌∙◌}
use Rattle.ps_base.specs.Ids.{id_of}
use Rattle.ps_packed.proofs.Ids.{id_encodes}
use Rattle.ps_packed.proofs.read.id_of.Goals as goal

pub returns : goal.returns
returns c =
    let same : id_of c.as_str.result.now ≡ id_of c.args.part.now = ap id_of (c.as_str.ensures.value ∙ c.in_ok-text.ensures) ∙ id_encodes c.args.part.now in
    subst (λ (i : List ℕ). IfOk c.to_id.result (λ id. id ≡ i)) same c.to_id.ensures
