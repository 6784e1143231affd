use Rattle.std.proofs.Common.{◌≡◌, []}
use Rattle.ps_room.specs.Logs.{record_in, kept_of}
use Rattle.ps_room.proofs.AnswerLemmas.{was_allowed, was_refused}
use Rattle.ps_room.proofs.ChangeLemmas.{state_refused, roles_refused}
use Rattle.ps_room.proofs.state.RoomState.keep.Goals as goal

pub keep_applied-requires-clause-allowed : goal.keep_applied-requires-clause-allowed
keep_applied-requires-clause-allowed c = was_allowed (record_in c.args.self.now) c.args.entry.now c.args.out c.requires.out c.in-Applied.is

pub returns-in-Refused-clause-ok : goal.returns-in-Refused-clause-ok
returns-in-Refused-clause-ok c =
    state_refused c.args.self.now c.args.entry.now c.in-Refused.field-0
    (was_refused (record_in c.args.self.now) c.args.entry.now c.args.out c.in-Refused.field-0 c.requires.out c.in-Refused.is)

pub returns-in-Refused-clause-roles : goal.returns-in-Refused-clause-roles
returns-in-Refused-clause-roles c =
    let none : [] ≡ (kept_of (record_in c.args.self.now) c.args.entry.now).roles = roles_refused (record_in c.args.self.now) c.args.entry.now c.in-Refused.field-0
    (was_refused (record_in c.args.self.now) c.args.entry.now c.args.out c.in-Refused.field-0 c.requires.out c.in-Refused.is) in
    cc
