use Rattle.std.proofs.Common.{◌≡◌, ◌+◌, ◌-◌, Some, None, suc, string_bytes, arith}
use Rattle.replay_tour.specs.Tours.{next_line}
use Rattle.ps_replay.proofs.MatchLemmas.{reached_start, reached_more, reached_stopped, reached_front, reached_last, reached_all, reached_end, is_over}
use Rattle.ps_replay.proofs.matches.play_matches.Goals as goal

pub loop-line-init : goal.loop-line-init
loop-line-init g c = record {
  reached = λ r is. rw c.new-pending.ensures.text (reached_start c.args.most (c.args.most - 0) c.args.format.now c.args.tour.now c.args.table.now r (g.K.Sink.written c.args.out.now) (omega arith) is);
  later = omega arith;
}

pub returns-in-Err-clause-err : goal.returns-in-Err-clause-err
returns-in-Err-clause-err g c = record {
  front = λ r is.
      reached_front c.args.most (c.args.most - c.loop-line._line) c.args.format.now c.args.tour.now c.loop-line.tour c.args.table.now c.loop-line.table r (g.K.Sink.written c.args.out.now) (g.K.Sink.written c.loop-line.out)
      (string_bytes c.loop-line.pending.text) (c.loop-line.invariant.reached r is);
}

pub returns-in-Ok-clause-ok : goal.returns-in-Ok-clause-ok
returns-in-Ok-clause-ok g c =
    let left = c.args.most - c.loop-line._line in
    let later = c.args.most - (c.loop-line._line + 1) in
    let more : left ≡ suc later = omega arith in
    let none : next_line c.args.format.now c.loop-line.tour ≡ None = cc (c.in-Ok-None.ensures, c.in-Ok-None.field-0-is) in
    record {
      wrote = λ r is.
          reached_all c.args.most left later c.args.format.now c.args.tour.now c.loop-line.tour c.args.table.now c.loop-line.table r (g.K.Sink.written c.args.out.now) (g.K.Sink.written c.loop-line.out) (g.K.Sink.written c.flush.new.out)
          (string_bytes c.loop-line.pending.text) (string_bytes c.flush.new.pending) more none (c.loop-line.invariant.reached r is) c.in-Ok.ensures.ok c.in-Ok.ensures.empty;
      after_is = λ r is.
          reached_end c.args.most left later c.args.format.now c.args.tour.now c.loop-line.tour c.args.table.now c.loop-line.table r (g.K.Sink.written c.args.out.now) (g.K.Sink.written c.loop-line.out)
          (string_bytes c.loop-line.pending.text) more none (c.loop-line.invariant.reached r is);
      over = is_over c.args.format.now c.loop-line.tour none;
    }

pub returns-in-Err-flush-clause-err : goal.returns-in-Err-flush-clause-err
returns-in-Err-flush-clause-err g c =
    let none : next_line c.args.format.now c.loop-line.tour ≡ None = cc (c.in-Ok-None.ensures, c.in-Ok-None.field-0-is) in
    record {
      front = λ r is.
          reached_last c.args.most (c.args.most - c.loop-line._line) (c.args.most - (c.loop-line._line + 1)) c.args.format.now c.args.tour.now c.loop-line.tour c.args.table.now c.loop-line.table r (g.K.Sink.written c.args.out.now) (g.K.Sink.written c.loop-line.out) (g.K.Sink.written c.flush.new.out)
          (string_bytes c.loop-line.pending.text) (omega arith) none (c.loop-line.invariant.reached r is) c.in-Err-flush.ensures.err;
    }

pub returns-in-Err-play_line-clause-err : goal.returns-in-Err-play_line-clause-err
returns-in-Err-play_line-clause-err g c =
    let next : next_line c.args.format.now c.loop-line.tour ≡ Some c.in-Ok-Some.line = cc (c.in-Ok-Some.ensures, c.in-Ok-Some.field-0-is) in
    record {
      front = λ r is.
          reached_stopped c.args.most (c.args.most - c.loop-line._line) (c.args.most - (c.loop-line._line + 1)) c.args.format.now c.args.tour.now c.loop-line.tour c.args.table.now c.loop-line.table r (g.K.Sink.written c.args.out.now) (g.K.Sink.written c.loop-line.out) (g.K.Sink.written c.play_line.new.out)
          (string_bytes c.loop-line.pending.text) c.in-Ok-Some.line (omega arith) next (c.loop-line.invariant.reached r is) c.in-Err-play_line.ensures.err;
    }

pub loop-line-preserved : goal.loop-line-preserved
loop-line-preserved g c =
    let next : next_line c.args.format.now c.loop-line.tour ≡ Some c.in-Ok-Some.line = cc (c.in-Ok-Some.ensures, c.in-Ok-Some.field-0-is) in
    record {
      reached = λ r is. rw (c.in-Ok-play_line.ensures.tour, c.in-Ok-play_line.ensures.state)
          (reached_more c.args.most (c.args.most - c.loop-line._line) (c.args.most - (c.loop-line._line + 1)) c.args.format.now c.args.tour.now c.loop-line.tour c.args.table.now c.loop-line.table r (g.K.Sink.written c.args.out.now) (g.K.Sink.written c.loop-line.out) (g.K.Sink.written c.play_line.new.out)
          (string_bytes c.loop-line.pending.text) (string_bytes c.play_line.new.pending.text) c.in-Ok-Some.line (omega arith) next (c.loop-line.invariant.reached r is) c.in-Ok-play_line.ensures.wrote);
      later = omega (arith, c.loop-line.invariant.later, c.in-Ok-play_line.ensures.later);
    }

pub returns-clause-err : goal.returns-clause-err
returns-clause-err g c = record {
  front = λ r is.
      reached_front c.args.most (c.args.most - c.loop-line._line) c.args.format.now c.args.tour.now c.loop-line.tour c.args.table.now c.loop-line.table r (g.K.Sink.written c.args.out.now) (g.K.Sink.written c.loop-line.out)
      (string_bytes c.loop-line.pending.text) (c.loop-line.invariant.reached r is);
}
