use Rattle.std.proofs.Common.{◌∙◌, ap, sym, subst}
use Rattle.ps_room.specs.Logs.{Seen, record_in, given, out_of, Goes}
use Rattle.replay_state.specs.Kepts.{Kept, kept_after}
use Rattle.replay_state.proofs.KeptLemmas.{kept_with, at_fault, kept_same, backlog_items, kept_next}
use Rattle.replay_state.proofs.short_room.ShortRoom.keep.Goals as goal

pub keep-requires-clause-out : goal.keep-requires-clause-out
keep-requires-clause-out c = c.requires.out ∙ ap (λ (k : Kept). out_of (record_in k.room) c.args.entry.now) (sym c.self.view_is)

pub keep-requires-clause-goes : goal.keep-requires-clause-goes
keep-requires-clause-goes c = subst (λ (k : Kept). Goes k.room c.args.entry.now c.args.prepared.bout) (sym c.self.view_is) c.requires.goes

pub returns-in_err-forget_first-clause-err : goal.returns-in_err-forget_first-clause-err
returns-in_err-forget_first-clause-err c =
    at_fault c.from_residual.result (ap (kept_with c.self.inside.state) c.in_err-forget_first.ensures.err ∙ c.self.view_is)

pub returns-in_err-push-clause-err : goal.returns-in_err-push-clause-err
returns-in_err-push-clause-err c =
    at_fault c.from_residual-in_err-push.result (
    ap (kept_with c.self.inside.state) c.in_err-push.ensures.err
    ∙ kept_same c.self.inside.state c.self.inside.log c.forget_first.new.self c.in_ok-forget_first.ensures.ok
    ∙ c.self.view_is)

pub returns-in-Ok-clause-ok : goal.returns-in-Ok-clause-ok
returns-in-Ok-clause-ok c =
    kept_next c.self.inside.state c.keep.new.self c.self.inside.log c.forget_first.new.self c.push.new.self c.args.entry.now c.args.prepared.log_entry
    c.in_ok-forget_first.ensures.ok c.in_ok-push.ensures.ok
    (c.requires.given ∙ ap (λ (k : Kept). given (record_in k.room) c.args.entry.now) (sym c.self.view_is))
    c.in-Ok.ensures.ok
    ∙ ap (λ (k : Kept). kept_after k c.args.entry.now) c.self.view_is

pub returns-in-Err-clause-err : goal.returns-in-Err-clause-err
returns-in-Err-clause-err c =
    backlog_items c.keep.new.self c.self.inside.log c.forget_first.new.self c.push.new.self c.take_back.new.self c.args.prepared.log_entry
    c.in_ok-forget_first.ensures.ok c.in_ok-push.ensures.ok c.take_back.ensures
    ∙ ap (λ (s : Seen). kept_with s c.self.inside.log) c.in-Err.ensures.err
    ∙ c.self.view_is
