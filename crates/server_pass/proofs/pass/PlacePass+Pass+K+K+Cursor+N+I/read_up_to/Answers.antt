use Rattle.std.proofs.Common.{◌++◌, None, refl}
use Rattle.server_pass.specs.Tellings.{UpTo}
use Rattle.server_pass.proofs.ToldLemmas.{reads_leave_at_last}
use Rattle.server_pass.proofs.PassLemmas.{read_up_to, read_on}
use Rattle.server_pass.proofs.pass.PlacePass+Pass+K+K+Cursor+N+I.read_up_to.Goals as goal

pub returns-clause-does : goal.returns-clause-does
returns-clause-does g c = read_up_to g.K.Kept.pulls g.K.Told.telling g.met.K.Told.tells c.args.self.now.pass.1 c.args.self.now.cursor c.bound.new.cursor c.read-done.new.cursor c.bound-2.new.cursor c.args.until (c.args.self.now.kept.items ++ c.args.self.now.fresh.items) c.read-done.result
    c.read-done.new.pass.1 _ c.requires.free c.bound.ensures c.bound-2.ensures c.read-done.ensures.does

pub returns-clause-of : goal.returns-clause-of
returns-clause-of g c = λ conn place p. read_on g.K.Kept.origin g.K.Kept.stands g.K.Kept.signer g.K.Kept.pulls g.K.Told.telling g.met.K.Told.tells conn place c.args.self.now _ None
    c.read-done.ensures.lock refl c.read-done.ensures.rest c.read-done.ensures.own tt
    (reads_leave_at_last (UpTo g.K.Kept.pulls g.K.Told.telling.bounded) c.args.self.now.pass.1 c.args.self.now.cursor (c.args.self.now.kept.items ++ c.args.self.now.fresh.items) c.read-done.result _ _ _
    (read_up_to g.K.Kept.pulls g.K.Told.telling g.met.K.Told.tells c.args.self.now.pass.1 c.args.self.now.cursor c.bound.new.cursor c.read-done.new.cursor c.bound-2.new.cursor c.args.until (c.args.self.now.kept.items ++ c.args.self.now.fresh.items) c.read-done.result
    c.read-done.new.pass.1 _ c.requires.free c.bound.ensures c.bound-2.ensures c.read-done.ensures.does)) p

pub returns-clause-grows : goal.returns-clause-grows
returns-clause-grows g c =
    (reads_leave_at_last (UpTo g.K.Kept.pulls g.K.Told.telling.bounded) c.args.self.now.pass.1 c.args.self.now.cursor (c.args.self.now.kept.items ++ c.args.self.now.fresh.items) c.read-done.result _ c.bound-2.new.cursor _
    (read_up_to g.K.Kept.pulls g.K.Told.telling g.met.K.Told.tells c.args.self.now.pass.1 c.args.self.now.cursor c.bound.new.cursor c.read-done.new.cursor c.bound-2.new.cursor c.args.until (c.args.self.now.kept.items ++ c.args.self.now.fresh.items) c.read-done.result
    c.read-done.new.pass.1 _ c.requires.free c.bound.ensures c.bound-2.ensures c.read-done.ensures.does)).grows
