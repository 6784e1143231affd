use Rattle.std.proofs.Common.{ℕ, refl, sym, subst, ◌∙◌}
use Rattle.ps_hub.specs.Names.{Names}
use Rattle.ps_hub.specs.Calls.{Held}
use Rattle.ps_hub.proofs.PassListLemmas.{are_as_before, kept_pass, kept_read, kept_at, get_set}
use Rattle.ps_hub.proofs.EnterLemmas.{entered, entered_fault, entered_are, held_id}
use Rattle.ps_hub.proofs.hub.Hub.enter_at.Goals as goal

pub hold-requires-clause-of : goal.hold-requires-clause-of
hold-requires-clause-of c =
    let kept = c.in-Ok.ensures.ok in
    let keeps = kept_read c.args.self.now c.in-Some.number c.in-Ok.pass_index c.args.passes.now kept.0 c.index_mut.result.now c.keep.new.passes kept.1 c.index_mut.ensures.value in
    (c.args.passes.now.conn, kept_pass c.args.self.now c.in-Some.number c.in-Ok.pass_index c.args.passes.now c.index_mut.result.now c.keep.new.passes c.requires keeps)

pub hold-requires-clause-named : goal.hold-requires-clause-named
hold-requires-clause-named c =
    let kept = c.in-Ok.ensures.ok in
    let keeps = kept_read c.args.self.now c.in-Some.number c.in-Ok.pass_index c.args.passes.now kept.0 c.index_mut.result.now c.keep.new.passes kept.1 c.index_mut.ensures.value in
    subst (λ (n : ℕ). Names c.args.self.now.config c.args.id.now n) (sym keeps.number_is) c.in-Some.ensures.found.0

pub returns-in-Ok-hold-clause-of : goal.returns-in-Ok-hold-clause-of
returns-in-Ok-hold-clause-of c =
    let kept = c.in-Ok.ensures.ok in
    let keeps = kept_read c.args.self.now c.in-Some.number c.in-Ok.pass_index c.args.passes.now kept.0 c.index_mut.result.now c.keep.new.passes kept.1 c.index_mut.ensures.value in
    entered_are c.args.self.now c.in-Some.number c.in-Ok.pass_index c.args.passes.now c.index_mut.result.now c.keep.new.passes c.hold.new.pass _ c.requires keeps refl refl c.hold.ensures.number c.hold.ensures.of

pub returns-in-Ok-hold-clause-does : goal.returns-in-Ok-hold-clause-does
returns-in-Ok-hold-clause-does c =
    let kept = c.in-Ok.ensures.ok in
    let keeps = kept_read c.args.self.now c.in-Some.number c.in-Ok.pass_index c.args.passes.now kept.0 c.index_mut.result.now c.keep.new.passes kept.1 c.index_mut.ensures.value in
    entered c.args.self.now c.args.id.now c.in-Some.number c.in-Ok.pass_index (Held c.args.id.now) c.args.passes.now c.index_mut.result.now c.keep.new.passes c.hold.new.pass _ c.in-Some.ensures.found.0 keeps refl refl c.hold.ensures.number c.in-Ok-hold.ensures.does

pub returns-in-Ok-hold-clause-here : goal.returns-in-Ok-hold-clause-here
returns-in-Ok-hold-clause-here c =
    let kept = c.in-Ok.ensures.ok in
    let keeps = kept_read c.args.self.now c.in-Some.number c.in-Ok.pass_index c.args.passes.now kept.0 c.index_mut.result.now c.keep.new.passes kept.1 c.index_mut.ensures.value in (
      c.hold.new.pass,
      get_set c.keep.new.passes.rooms.items c.in-Ok.pass_index c.index_mut.result.now c.hold.new.pass (kept_at c.args.self.now c.in-Some.number c.in-Ok.pass_index c.args.passes.now c.index_mut.result.now c.keep.new.passes keeps),
      held_id c.args.id.now c.index_mut.result.now c.hold.new.pass c.in-Ok-hold.ensures.does,
      subst (λ (n : ℕ). Names c.args.self.now.config c.args.id.now n) (sym (c.hold.ensures.number ∙ keeps.number_is)) c.in-Some.ensures.found.0,
    )

pub returns-in-Err-hold-clause-of : goal.returns-in-Err-hold-clause-of
returns-in-Err-hold-clause-of c =
    let kept = c.in-Ok.ensures.ok in
    let keeps = kept_read c.args.self.now c.in-Some.number c.in-Ok.pass_index c.args.passes.now kept.0 c.index_mut.result.now c.keep.new.passes kept.1 c.index_mut.ensures.value in
    entered_are c.args.self.now c.in-Some.number c.in-Ok.pass_index c.args.passes.now c.index_mut.result.now c.keep.new.passes c.hold.new.pass _ c.requires keeps refl refl c.hold.ensures.number c.hold.ensures.of

pub returns-in-Err-hold-clause-does : goal.returns-in-Err-hold-clause-does
returns-in-Err-hold-clause-does c =
    let kept = c.in-Ok.ensures.ok in
    let keeps = kept_read c.args.self.now c.in-Some.number c.in-Ok.pass_index c.args.passes.now kept.0 c.index_mut.result.now c.keep.new.passes kept.1 c.index_mut.ensures.value in
    entered_fault c.args.self.now c.args.id.now c.in-Some.number c.in-Ok.pass_index c.in-Err-hold.fault c.args.passes.now c.index_mut.result.now c.keep.new.passes c.hold.new.pass _ c.in-Some.ensures.found.0 keeps refl refl c.hold.ensures.number c.in-Err-hold.ensures.does

pub returns-in-Err-clause-of : goal.returns-in-Err-clause-of
returns-in-Err-clause-of c = are_as_before c.args.self.now c.args.passes.now c.keep.new.passes c.requires c.in-Err.ensures.err
