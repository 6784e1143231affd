use Rattle.std.proofs.Common.{◌≡◌, ℕ, List, sym, subst}
use Rattle.ps_serve.specs.declared.closed.End.{End}
use Rattle.ps_serve.specs.Rests.{IsSitting, ComesToRest}
use Rattle.ps_serve.specs.Steps.{IsBreak}
use Rattle.ps_serve.proofs.TakeLemmas.{if_none_two, if_some_two, TellsAll, TellsSome, HearsAll, sits_quiet, sits_text, goes_quiet, goes_text, rest_closed, rest_failed, rest_none, rest_stopped, broke_quiet, broke_text}
use Rattle.ps_serve.proofs.session.Sitting.take.Goals as goal

-- ---- a text was obeyed

pub returns-in-None-clause-sits : goal.returns-in-None-clause-sits
returns-in-None-clause-sits g c =
    let hub = c.args.hub.now in
    let old = c.args.self.now in
    let mid = c.hear.new.self in
    let new = c.answer.new.self in
    let h0 = g.C.Clock.hours c.args.clock.now in
    let h1 = g.C.Clock.hours c.hear.new.clock in
    let was = g.L.Link.talk c.next.new.self in
    let is = g.L.Link.talk c.answer.new.link in
    let hears = subst (λ (b : List ℕ). HearsAll hub old.session old.passes b h0 h1 mid.session mid.passes) c.as_slice.ensures.value c.in-None.ensures.heard in
    if_none_two c.answer.result (TellsAll hub mid.session mid.passes was is new.passes) (TellsAll hub mid.session mid.passes was is new.passes) (IsSitting hub new.session new.passes) c.answer.ensures.told c.answer.ensures.told
    (λ tells again. sits_text hub old.session mid.session new.session old.passes mid.passes new.passes c.in-Text.bytes.items h0 h1 was is c.requires hears tells c.answer.ensures.same.0)

pub returns-in-None-clause-goes_on : goal.returns-in-None-clause-goes_on
returns-in-None-clause-goes_on g c =
    let hub = c.args.hub.now in
    let old = c.args.self.now in
    let mid = c.hear.new.self in
    let new = c.answer.new.self in
    let h0 = g.C.Clock.hours c.args.clock.now in
    let h1 = g.C.Clock.hours c.hear.new.clock in
    let first = g.L.Link.talk c.args.link.now in
    let was = g.L.Link.talk c.next.new.self in
    let is = g.L.Link.talk c.answer.new.link in
    let hears = subst (λ (b : List ℕ). HearsAll hub old.session old.passes b h0 h1 mid.session mid.passes) c.as_slice.ensures.value c.in-None.ensures.heard in
    if_none_two c.answer.result (g.L.Link.counts c.answer.new.link ≡ g.L.Link.counts c.next.new.self) (TellsAll hub mid.session mid.passes was is new.passes) _ c.answer.ensures.counts c.answer.ensures.told
    (λ counts tells talk0 counts0 hours0 conn open_at acts ss st.
    goes_text hub conn open_at acts ss talk0 counts0 hours0 old.session mid.session new.session old.passes mid.passes new.passes c.in-Text.bytes first was is (g.L.Link.counts c.args.link.now) (g.L.Link.counts c.next.new.self) (g.L.Link.counts c.answer.new.link) h0 h1 st c.in-Text.ensures.known c.in-Text.ensures.front c.in-Text.ensures.cause hears tells c.answer.ensures.same.0 counts)

pub returns-in-None-clause-rests : goal.returns-in-None-clause-rests
returns-in-None-clause-rests g c =
    let hub = c.args.hub.now in
    let old = c.args.self.now in
    let mid = c.hear.new.self in
    let new = c.answer.new.self in
    let h0 = g.C.Clock.hours c.args.clock.now in
    let h1 = g.C.Clock.hours c.hear.new.clock in
    let first = g.L.Link.talk c.args.link.now in
    let was = g.L.Link.talk c.next.new.self in
    let is = g.L.Link.talk c.answer.new.link in
    let hears = subst (λ (b : List ℕ). HearsAll hub old.session old.passes b h0 h1 mid.session mid.passes) c.as_slice.ensures.value c.in-None.ensures.heard in
    if_some_two c.answer.result (λ end. IsBreak end (g.L.Link.counts c.next.new.self) (g.L.Link.counts c.answer.new.link)) (λ end. TellsSome end hub mid.session mid.passes was is new.passes) _ c.answer.ensures.cause c.answer.ensures.broke
    (λ end cause tells talk0 counts0 hours0 conn open_at left acts ss st.
    broke_text hub conn open_at left acts ss talk0 counts0 hours0 end old.session mid.session old.passes mid.passes new.passes c.in-Text.bytes first was is (g.L.Link.counts c.args.link.now) (g.L.Link.counts c.next.new.self) (g.L.Link.counts c.answer.new.link) h0 h1 st c.in-Text.ensures.known c.in-Text.ensures.front c.in-Text.ensures.cause hears cause tells)

-- ---- a text ended the session

pub returns-in-Some-clause-rests : goal.returns-in-Some-clause-rests
returns-in-Some-clause-rests g c = λ talk0 counts0 hours0 conn open_at left acts ss st.
    let hub = c.args.hub.now in
    let old = c.args.self.now in
    let mid = c.hear.new.self in
    let h0 = g.C.Clock.hours c.args.clock.now in
    let h1 = g.C.Clock.hours c.hear.new.clock in
    let is = g.L.Link.talk c.next.new.self in
    let counts = g.L.Link.counts c.next.new.self in
    subst (λ (end : End). ComesToRest end hub conn open_at left mid.passes talk0 is counts0 counts hours0 h1) (sym c.end_by.ensures)
    (rest_stopped hub conn open_at left acts ss talk0 counts0 hours0 c.in-Some.stop old.session old.passes mid.passes c.as_slice.result.now c.in-Text.bytes (g.L.Link.talk c.args.link.now) is (g.L.Link.counts c.args.link.now) counts h0 h1 st c.in-Text.ensures.known c.in-Text.ensures.front c.in-Text.ensures.cause c.as_slice.ensures.value (c.in-Some.ensures.stopped conn open_at acts ss st.sits))

-- ---- nothing had come

pub returns-in-Quiet-clause-sits : goal.returns-in-Quiet-clause-sits
returns-in-Quiet-clause-sits g c =
    let hub = c.args.hub.now in
    let old = c.args.self.now in
    let new = c.catch_up.new.self in
    let was = g.L.Link.talk c.next.new.self in
    let is = g.L.Link.talk c.catch_up.new.link in
    if_none_two c.catch_up.result (TellsAll hub old.session old.passes was is new.passes) (TellsAll hub old.session old.passes was is new.passes) (IsSitting hub new.session new.passes) c.catch_up.ensures.told c.catch_up.ensures.told
    (λ tells again. sits_quiet hub old.session new.session old.passes new.passes was is c.requires tells c.catch_up.ensures.same.0)

pub returns-in-Quiet-clause-goes_on : goal.returns-in-Quiet-clause-goes_on
returns-in-Quiet-clause-goes_on g c =
    let hub = c.args.hub.now in
    let old = c.args.self.now in
    let new = c.catch_up.new.self in
    let first = g.L.Link.talk c.args.link.now in
    let was = g.L.Link.talk c.next.new.self in
    let is = g.L.Link.talk c.catch_up.new.link in
    if_none_two c.catch_up.result (g.L.Link.counts c.catch_up.new.link ≡ g.L.Link.counts c.next.new.self) (TellsAll hub old.session old.passes was is new.passes) _ c.catch_up.ensures.counts c.catch_up.ensures.told
    (λ counts tells talk0 counts0 hours0 conn open_at acts ss st.
    goes_quiet hub conn open_at acts ss talk0 counts0 hours0 old.session new.session old.passes new.passes first was is (g.L.Link.counts c.args.link.now) (g.L.Link.counts c.next.new.self) (g.L.Link.counts c.catch_up.new.link) (g.C.Clock.hours c.args.clock.now) st c.in-Quiet.ensures.known c.in-Quiet.ensures.front c.in-Quiet.ensures.cause tells c.catch_up.ensures.same.0 counts)

pub returns-in-Quiet-clause-rests : goal.returns-in-Quiet-clause-rests
returns-in-Quiet-clause-rests g c =
    let hub = c.args.hub.now in
    let old = c.args.self.now in
    let new = c.catch_up.new.self in
    let first = g.L.Link.talk c.args.link.now in
    let was = g.L.Link.talk c.next.new.self in
    let is = g.L.Link.talk c.catch_up.new.link in
    if_some_two c.catch_up.result (λ end. IsBreak end (g.L.Link.counts c.next.new.self) (g.L.Link.counts c.catch_up.new.link)) (λ end. TellsSome end hub old.session old.passes was is new.passes) _ c.catch_up.ensures.cause c.catch_up.ensures.broke
    (λ end cause tells talk0 counts0 hours0 conn open_at left acts ss st.
    broke_quiet hub conn open_at left acts ss talk0 counts0 hours0 end old.session old.passes new.passes first was is (g.L.Link.counts c.args.link.now) (g.L.Link.counts c.next.new.self) (g.L.Link.counts c.catch_up.new.link) (g.C.Clock.hours c.args.clock.now) st c.in-Quiet.ensures.known c.in-Quiet.ensures.front c.in-Quiet.ensures.cause cause tells)

-- ---- the link ended it

pub returns-in-End-clause-rests : goal.returns-in-End-clause-rests
returns-in-End-clause-rests g c = λ talk0 counts0 hours0 conn open_at left acts ss st.
    rest_closed c.args.hub.now conn open_at left acts ss talk0 counts0 hours0 c.args.self.now.session c.args.self.now.passes (g.L.Link.talk c.args.link.now) (g.L.Link.talk c.next.new.self) (g.L.Link.counts c.args.link.now) (g.L.Link.counts c.next.new.self) (g.C.Clock.hours c.args.clock.now) st c.in-End.ensures.known c.in-End.ensures.front c.in-End.ensures.cause

pub returns-in-Failed-clause-rests : goal.returns-in-Failed-clause-rests
returns-in-Failed-clause-rests g c = λ talk0 counts0 hours0 conn open_at left acts ss st.
    rest_failed c.args.hub.now conn open_at left acts ss talk0 counts0 hours0 c.args.self.now.session c.args.self.now.passes (g.L.Link.talk c.args.link.now) (g.L.Link.talk c.next.new.self) (g.L.Link.counts c.args.link.now) (g.L.Link.counts c.next.new.self) (g.C.Clock.hours c.args.clock.now) st c.in-Failed.ensures.known c.in-Failed.ensures.cause

pub returns-in-NoMemory-clause-rests : goal.returns-in-NoMemory-clause-rests
returns-in-NoMemory-clause-rests g c = λ talk0 counts0 hours0 conn open_at left acts ss st.
    rest_none c.args.hub.now conn open_at left acts ss talk0 counts0 hours0 c.args.self.now.session c.args.self.now.passes (g.L.Link.talk c.args.link.now) (g.L.Link.talk c.next.new.self) (g.L.Link.counts c.args.link.now) (g.L.Link.counts c.next.new.self) (g.C.Clock.hours c.args.clock.now) st c.in-NoMemory.ensures.known
