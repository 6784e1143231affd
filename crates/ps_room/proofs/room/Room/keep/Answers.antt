use Rattle.std.proofs.Common.{◌≡◌, List, [], ◌∷◌, ◌++◌, ◌∙◌, ap, sym, subst}
use Rattle.ps_splitlog.specs.declared.entry.LogEntry.{LogEntry}
use Rattle.ps_splitlog.specs.declared.stored.Stored.{Stored}
use Rattle.ps_room.specs.Logs.{Seen, record_in, with_log, seen_after, given, out_of, Goes}
use Rattle.ps_room.proofs.ChangeLemmas.{logged_so, goes_apart}
use Rattle.ps_room.proofs.room.Room.keep.Goals as goal

pub keep-requires-clause-out : goal.keep-requires-clause-out
keep-requires-clause-out c = c.requires.out ∙ ap (λ (s : Seen). out_of (record_in s) c.args.entry.now) (sym c.self.view_is)

pub keep-requires-clause-goes : goal.keep-requires-clause-goes
keep-requires-clause-goes c =
    goes_apart c.self.inside.state c.self.inside.log c.args.entry.now c.args.prepared.bout
    (subst (λ (s : Seen). Goes s c.args.entry.now c.args.prepared.bout) (sym c.self.view_is) c.requires.goes)

pub returns-in-Ok-clause-ok : goal.returns-in-Ok-clause-ok
returns-in-Ok-clause-ok c =
    let pushed : c.push.new.self ≡ c.self.inside.log ++ c.args.prepared.log_entry ∷ [] =
    c.in_ok-push.ensures.ok ∙ ap (λ (log : List LogEntry). log ++ record c.args.prepared.log_entry { lines = c.share.new.self } ∷ []) c.keep_room.ensures
    ∙ ap (λ (lines : List Stored). c.self.inside.log ++ record c.args.prepared.log_entry { lines = lines } ∷ []) c.share.ensures in
    ap (λ (log : List LogEntry). with_log log c.keep.new.self) (c.give_roles.ensures.last c.self.inside.log c.args.prepared.log_entry pushed)
    ∙ logged_so c.self.inside.state c.self.inside.log c.args.entry.now c.args.prepared.log_entry c.in-Ok.roles c.keep.new.self
    (c.requires.given ∙ ap (λ (s : Seen). given (record_in s) c.args.entry.now) (sym c.self.view_is))
    c.in-Ok.ensures.roles
    c.in-Ok.ensures.ok
    ∙ ap (λ (s : Seen). seen_after s c.args.entry.now) c.self.view_is

pub returns-in-Err-clause-err : goal.returns-in-Err-clause-err
returns-in-Err-clause-err c =
    let pushed : c.push.new.self ≡ c.self.inside.log ++ c.args.prepared.log_entry ∷ [] =
    c.in_ok-push.ensures.ok ∙ ap (λ (log : List LogEntry). log ++ record c.args.prepared.log_entry { lines = c.share.new.self } ∷ []) c.keep_room.ensures
    ∙ ap (λ (lines : List Stored). c.self.inside.log ++ record c.args.prepared.log_entry { lines = lines } ∷ []) c.share.ensures in
    ap (λ (log : List LogEntry). with_log log c.keep.new.self) (c.take_back.ensures.last c.self.inside.log c.args.prepared.log_entry pushed)
    ∙ ap (with_log c.self.inside.log) c.in-Err.ensures.err
    ∙ c.self.view_is
