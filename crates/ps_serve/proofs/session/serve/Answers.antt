use Rattle.std.proofs.Common.{ℕ, [], inl, inr, refl, subst}
use Rattle.ps_hub.specs.Calls.{IsShutOutAmong}
use Rattle.ps_hub.specs.declared.out.QuitFault.TheVariants as quit_faults
use Rattle.ps_serve.proofs.AdmitLemmas.{admitted, stands_first, unserved}
use Rattle.ps_serve.proofs.ServedLemmas.{serves_ok, serves_short}
use Rattle.ps_serve.proofs.TakenLemmas.{not_taken, served_taken}
use Rattle.ps_serve.proofs.session.serve.Goals as goal

pub returns-in-Err-Taken-clause-served : goal.returns-in-Err-Taken-clause-served
returns-in-Err-Taken-clause-served g c =
    served_taken c.args.hub.now c.args.conn c.none.result (g.L.Link.talk c.args.link.now) (g.L.Link.talk c.args.link.now) (g.L.Link.counts c.args.link.now) (g.L.Link.counts c.args.link.now) (g.C.Clock.hours c.args.clock.now) (g.C.Clock.hours c.now.new.self)
    (unserved c.args.hub.now c.args.conn c.now.result c.none.result (g.L.Link.talk c.args.link.now) (g.L.Link.counts c.args.link.now) (g.C.Clock.hours c.args.clock.now) (g.C.Clock.hours c.now.new.self) c.none.ensures.conn c.none.ensures.badge c.none.ensures.hall c.none.ensures.rooms c.now.ensures.known c.now.ensures.later)

pub returns-in-Err-Taken-clause-taken : goal.returns-in-Err-Taken-clause-taken
returns-in-Err-Taken-clause-taken g c = inl (c.in-Err-Taken.opener, refl, rw c.in-Err-Taken.field-0-is at c.in-Err-Taken.ensures.taken)

pub returns-in-Err-NoMemory-clause-served : goal.returns-in-Err-NoMemory-clause-served
returns-in-Err-NoMemory-clause-served g c =
    unserved c.args.hub.now c.args.conn c.now.result c.none-in-Err-NoMemory.result (g.L.Link.talk c.args.link.now) (g.L.Link.counts c.args.link.now) (g.C.Clock.hours c.args.clock.now) (g.C.Clock.hours c.now.new.self) c.none-in-Err-NoMemory.ensures.conn c.none-in-Err-NoMemory.ensures.badge c.none-in-Err-NoMemory.ensures.hall c.none-in-Err-NoMemory.ensures.rooms c.now.ensures.known c.now.ensures.later

pub sit-end-requires : goal.sit-end-requires
sit-end-requires g c = (c.args.conn, c.now.result, [], [], admitted c.args.hub.now c.args.conn c.now.result c.in-Ok.passes c.new.result c.in-Ok.ensures.of c.in-Ok.ensures.does c.new.ensures)

pub quit-requires-clause-of : goal.quit-requires-clause-of
quit-requires-clause-of g c =
    let talk = g.L.Link.talk c.args.link.now in
    let counts = g.L.Link.counts c.args.link.now in
    let hours = g.C.Clock.hours c.now.new.self in
    (c.sit-end.ensures.rests talk counts hours c.args.conn c.now.result 0 [] [] (stands_first c.args.hub.now c.args.conn c.now.result c.in-Ok.passes c.new.result talk counts hours c.in-Ok.ensures.of c.in-Ok.ensures.does c.new.ensures)).3.are

pub quit-requires-clause-may : goal.quit-requires-clause-may
quit-requires-clause-may g c =
    let talk = g.L.Link.talk c.args.link.now in
    let counts = g.L.Link.counts c.args.link.now in
    let hours = g.C.Clock.hours c.now.new.self in
    (c.sit-end.ensures.rests talk counts hours c.args.conn c.now.result 0 [] [] (stands_first c.args.hub.now c.args.conn c.now.result c.in-Ok.passes c.new.result talk counts hours c.in-Ok.ensures.of c.in-Ok.ensures.does c.new.ensures)).3.named

pub returns-in-Ok-quit-clause-served : goal.returns-in-Ok-quit-clause-served
returns-in-Ok-quit-clause-served g c =
    let hub = c.args.hub.now in
    let conn = c.args.conn in
    let talk = g.L.Link.talk c.args.link.now in
    let counts = g.L.Link.counts c.args.link.now in
    let hours = g.C.Clock.hours c.now.new.self in
    let rest = c.sit-end.ensures.rests talk counts hours conn c.now.result c.now-2.result [] [] (stands_first hub conn c.now.result c.in-Ok.passes c.new.result talk counts hours c.in-Ok.ensures.of c.in-Ok.ensures.does c.new.ensures) in
    serves_ok c.sit-end.result hub conn c.now.result c.now-2.result c.sit-end.new.self.passes c.quit.new.passes talk (g.L.Link.talk c.sit-end.new.link) counts (g.L.Link.counts c.sit-end.new.link) (g.C.Clock.hours c.args.clock.now) hours (g.C.Clock.hours c.sit-end.new.clock) (g.C.Clock.hours c.now-2.new.self)
    rest c.in-Ok-quit.ensures.of c.in-Ok-quit.ensures.does c.now.ensures.known c.now.ensures.later c.now-2.ensures.known c.now-2.ensures.later

pub returns-in-Ok-quit-clause-taken : goal.returns-in-Ok-quit-clause-taken
returns-in-Ok-quit-clause-taken g c =
    let talk = g.L.Link.talk c.args.link.now in
    let counts = g.L.Link.counts c.args.link.now in
    let hours = g.C.Clock.hours c.now.new.self in
    let rest = c.sit-end.ensures.rests talk counts hours c.args.conn c.now.result 0 [] [] (stands_first c.args.hub.now c.args.conn c.now.result c.in-Ok.passes c.new.result talk counts hours c.in-Ok.ensures.of c.in-Ok.ensures.does c.new.ensures) in
    not_taken c.sit-end.result c.args.conn rest.0 _ rest.3.extra

pub returns-in-Err-Taken-quit-clause-served : goal.returns-in-Err-Taken-quit-clause-served
returns-in-Err-Taken-quit-clause-served g c =
    let hub = c.args.hub.now in
    let conn = c.args.conn in
    let talk = g.L.Link.talk c.args.link.now in
    let counts = g.L.Link.counts c.args.link.now in
    let start = g.C.Clock.hours c.args.clock.now in
    let hours = g.C.Clock.hours c.now.new.self in
    let end = g.C.Clock.hours c.now-2.new.self in
    let rest = c.sit-end.ensures.rests talk counts hours conn c.now.result c.now-2.result [] [] (stands_first hub conn c.now.result c.in-Ok.passes c.new.result talk counts hours c.in-Ok.ensures.of c.in-Ok.ensures.does c.new.ensures) in
    served_taken hub conn c.quit.new.passes talk (g.L.Link.talk c.sit-end.new.link) counts (g.L.Link.counts c.sit-end.new.link) start end
    (serves_short c.sit-end.result hub conn c.now.result c.now-2.result c.sit-end.new.self.passes c.quit.new.passes talk (g.L.Link.talk c.sit-end.new.link) counts (g.L.Link.counts c.sit-end.new.link) start hours (g.C.Clock.hours c.sit-end.new.clock) end
    rest c.in-Err-Taken-quit.ensures.of c.in-Err-Taken-quit.ensures.does c.now.ensures.known c.now.ensures.later c.now-2.ensures.known c.now-2.ensures.later)

pub returns-in-Err-Taken-quit-clause-taken : goal.returns-in-Err-Taken-quit-clause-taken
returns-in-Err-Taken-quit-clause-taken g c =
    let talk = g.L.Link.talk c.args.link.now in
    let counts = g.L.Link.counts c.args.link.now in
    let hours = g.C.Clock.hours c.now.new.self in
    let rest = c.sit-end.ensures.rests talk counts hours c.args.conn c.now.result 0 [] [] (stands_first c.args.hub.now c.args.conn c.now.result c.in-Ok.passes c.new.result talk counts hours c.in-Ok.ensures.of c.in-Ok.ensures.does c.new.ensures) in
    inr (subst (λ (n : ℕ). IsShutOutAmong n c.quit.new.passes.rooms.items quit_faults.Taken) rest.3.conn_is (rw c.in-Err-Taken-quit.field-0-is at c.in-Err-Taken-quit.ensures.taken))

pub returns-clause-served : goal.returns-clause-served
returns-clause-served g c =
    let hub = c.args.hub.now in
    let conn = c.args.conn in
    let talk = g.L.Link.talk c.args.link.now in
    let counts = g.L.Link.counts c.args.link.now in
    let hours = g.C.Clock.hours c.now.new.self in
    let rest = c.sit-end.ensures.rests talk counts hours conn c.now.result c.now-2.result [] [] (stands_first hub conn c.now.result c.in-Ok.passes c.new.result talk counts hours c.in-Ok.ensures.of c.in-Ok.ensures.does c.new.ensures) in
    serves_short c.sit-end.result hub conn c.now.result c.now-2.result c.sit-end.new.self.passes c.quit.new.passes talk (g.L.Link.talk c.sit-end.new.link) counts (g.L.Link.counts c.sit-end.new.link) (g.C.Clock.hours c.args.clock.now) hours (g.C.Clock.hours c.sit-end.new.clock) (g.C.Clock.hours c.now-2.new.self)
    rest c.in-Err-NoMemory-quit.ensures.of c.in-Err-NoMemory-quit.ensures.does c.now.ensures.known c.now.ensures.later c.now-2.ensures.known c.now-2.ensures.later
