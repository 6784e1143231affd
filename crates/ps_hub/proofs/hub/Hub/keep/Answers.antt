use Rattle.ps_hub.proofs.PassListLemmas.{keeps_there, keeps_added, if_ok_then}
use Rattle.ps_hub.proofs.hub.Hub.keep.Goals as goal

pub returns-in-Some-clause-ok : goal.returns-in-Some-clause-ok
returns-in-Some-clause-ok c =
    let found = c.in-Some.ensures.found in
    (found.0, keeps_there c.args.self.now c.args.number c.in-Some.pass_index c.args.passes.now found.0 found.1 found.2)

pub returns-clause-ok : goal.returns-clause-ok
returns-clause-ok c = if_ok_then _ _ c.add.result c.add.ensures.ok (λ pass_index added. (
  c.room_pass.result,
  keeps_added c.args.self.now c.args.number pass_index c.args.passes.now c.room_pass.result c.add.new.self
      c.in-None.ensures.none (c.room_pass.ensures c.args.self.now c.lock-lock.ensures.name c.lock-lock.ensures.origin) added,
))
