use Rattle.ps_serve.proofs.CountLemmas.{few_complete}
use Rattle.ps_serve.proofs.WorldLemmas.{loses_nothing}
use Rattle.ps_serve.proofs.TakenLemmas.{own_names_of}
use Rattle.ps_serve.proofs.session.serve_session.Goals as goal

pub returns-clause-sent_is_the_view : goal.returns-clause-sent_is_the_view
returns-clause-sent_is_the_view g c = let s = c.serve.ensures.served in (s.0, s.1.told, s.1.sent)

pub returns-clause-labels : goal.returns-clause-labels
returns-clause-labels g c = let s = c.serve.ensures.served in (s.0, s.1.told, s.1.labels)

pub returns-clause-entries_of_the_texts : goal.returns-clause-entries_of_the_texts
returns-clause-entries_of_the_texts g c = let s = c.serve.ensures.served in (s.0, s.1.told, s.1.entries)

pub returns-clause-answers : goal.returns-clause-answers
returns-clause-answers g c = let s = c.serve.ensures.served in (s.0, s.1.told, s.1.answers)

pub returns-clause-opened : goal.returns-clause-opened
returns-clause-opened g c = let s = c.serve.ensures.served in (s.0, s.1.told, s.1.opened)

pub returns-clause-moments : goal.returns-clause-moments
returns-clause-moments g c = let s = c.serve.ensures.served in (s.0, s.1.told, s.1.moments)

pub returns-clause-looks_are_answered : goal.returns-clause-looks_are_answered
returns-clause-looks_are_answered g c = let s = c.serve.ensures.served in (s.0, s.1.told, s.1.looks)

pub returns-clause-of_the_hub : goal.returns-clause-of_the_hub
returns-clause-of_the_hub g c = let s = c.serve.ensures.served in s.1.of

pub returns-clause-one_history : goal.returns-clause-one_history
returns-clause-one_history g c = let s = c.serve.ensures.served in s.1.history

pub returns-clause-one_begin : goal.returns-clause-one_begin
returns-clause-one_begin g c = let s = c.serve.ensures.served in (s.0, s.1.told, s.1.begin)

pub returns-clause-hall : goal.returns-clause-hall
returns-clause-hall g c = loses_nothing c.args.hub.now c.serve.result.passes.hall

pub returns-clause-two_worlds : goal.returns-clause-two_worlds
returns-clause-two_worlds g c = let s = c.serve.ensures.served in (s.0, s.1.told, s.1.worlds)

pub returns-clause-cause : goal.returns-clause-cause
returns-clause-cause g c = let s = c.serve.ensures.served in (s.0, s.1.told, s.1.cause)

pub returns-clause-complete : goal.returns-clause-complete
returns-clause-complete g c = let s = c.serve.ensures.served in (s.0, s.1.told, s.1.complete)

pub returns-clause-few_texts : goal.returns-clause-few_texts
returns-clause-few_texts g c = λ talk is few sound. (let s = c.serve.ensures.served in few_complete c.serve.result.end c.args.hub.now c.args.conn s.0 c.serve.result.passes.rooms.items talk (g.L.Link.talk c.args.link.now) (g.L.Link.talk c.serve.new.link) (g.L.Link.counts c.args.link.now) (g.L.Link.counts c.serve.new.link) is s.1.told s.1.complete few sound)

pub returns-clause-own_names : goal.returns-clause-own_names
returns-clause-own_names g c = let s = c.serve.ensures.served in own_names_of c.serve.result.end c.args.hub.now c.args.conn s.0 c.serve.result.passes _ _ _ _ _ _ s.1

pub returns-clause-session : goal.returns-clause-session
returns-clause-session g c =
    let s = c.serve.ensures.served in
    record {
      account = s.0;
      talk_before = g.L.Link.talk c.args.link.now;
      talk = g.L.Link.talk c.serve.new.link;
      counts_before = g.L.Link.counts c.args.link.now;
      counts = g.L.Link.counts c.serve.new.link;
      hours_before = g.C.Clock.hours c.args.clock.now;
      hours = g.C.Clock.hours c.serve.new.clock;
      served = s.1;
      taken = c.serve.ensures.taken;
      names = own_names_of c.serve.result.end c.args.hub.now c.args.conn s.0 c.serve.result.passes _ _ _ _ _ _ s.1;
    }
