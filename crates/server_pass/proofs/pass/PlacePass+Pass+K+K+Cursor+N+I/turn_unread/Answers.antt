use Rattle.std.proofs.Common.{◌++◌, Some, refl}
use Rattle.server_pass.specs.Tellings.{UpTo}
use Rattle.server_pass.proofs.ToldLemmas.{takes_leave_at_last}
use Rattle.server_pass.proofs.PassLemmas.{turn_up_to, read_on}
use Rattle.server_pass.proofs.pass.PlacePass+Pass+K+K+Cursor+N+I.turn_unread.Goals as goal

pub returns-clause-does : goal.returns-clause-does
returns-clause-does g c = turn_up_to g.K.Kept.pulls g.K.Told.telling g.met.K.Told.tells g.K.Kept.answers c.args.self.now.pass.1 c.args.self.now.cursor c.bound.new.cursor c.take-ended.new.cursor c.bound-2.new.cursor (Some c.passed-passed.result) (c.args.self.now.kept.items ++ c.args.self.now.fresh.items)
    c.args.cmd c.take-ended.result c.take-ended.new.pass.1 _ c.requires.free c.bound.ensures c.bound-2.ensures c.take-ended.ensures.does

pub returns-clause-of : goal.returns-clause-of
returns-clause-of g c = λ conn place of p. read_on g.K.Kept.origin g.K.Kept.stands g.K.Kept.signer g.K.Kept.pulls g.K.Told.telling g.met.K.Told.tells conn place c.args.self.now _ (Some c.args.cmd)
    c.take-ended.ensures.lock refl c.take-ended.ensures.rest c.take-ended.ensures.own of
    (takes_leave_at_last g.K.Kept.answers (UpTo g.K.Kept.pulls g.K.Told.telling.bounded) c.args.self.now.pass.1 c.args.self.now.cursor (c.args.self.now.kept.items ++ c.args.self.now.fresh.items) c.args.cmd c.take-ended.result _ _ _
    (turn_up_to g.K.Kept.pulls g.K.Told.telling g.met.K.Told.tells g.K.Kept.answers c.args.self.now.pass.1 c.args.self.now.cursor c.bound.new.cursor c.take-ended.new.cursor c.bound-2.new.cursor (Some c.passed-passed.result) (c.args.self.now.kept.items ++ c.args.self.now.fresh.items)
    c.args.cmd c.take-ended.result c.take-ended.new.pass.1 _ c.requires.free c.bound.ensures c.bound-2.ensures c.take-ended.ensures.does)) p

pub returns-clause-grows : goal.returns-clause-grows
returns-clause-grows g c =
    (takes_leave_at_last g.K.Kept.answers (UpTo g.K.Kept.pulls g.K.Told.telling.bounded) c.args.self.now.pass.1 c.args.self.now.cursor (c.args.self.now.kept.items ++ c.args.self.now.fresh.items) c.args.cmd c.take-ended.result _ c.bound-2.new.cursor _
    (turn_up_to g.K.Kept.pulls g.K.Told.telling g.met.K.Told.tells g.K.Kept.answers c.args.self.now.pass.1 c.args.self.now.cursor c.bound.new.cursor c.take-ended.new.cursor c.bound-2.new.cursor (Some c.passed-passed.result) (c.args.self.now.kept.items ++ c.args.self.now.fresh.items)
    c.args.cmd c.take-ended.result c.take-ended.new.pass.1 _ c.requires.free c.bound.ensures c.bound-2.ensures c.take-ended.ensures.does)).grows
