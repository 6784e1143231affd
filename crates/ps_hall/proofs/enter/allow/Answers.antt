use Rattle.ps_hall.specs.States.{record_of}
use Rattle.ps_hall.proofs.PrepareLemmas.{allowed_out, allowed_notices, allowed_fit, allowed_after, allowed_ready}
use Rattle.ps_hall.proofs.enter.allow.Goals as goal

pub returns-clause-out : goal.returns-clause-out
returns-clause-out c = allowed_out (record_of c.args.state.now) c.args.conn c.args.cmd.now c.args.allowed c.requires.prepared

pub returns-clause-notices : goal.returns-clause-notices
returns-clause-notices c = allowed_notices (record_of c.args.state.now) c.args.conn c.args.cmd.now c.args.allowed c.requires.prepared

pub returns-clause-fit : goal.returns-clause-fit
returns-clause-fit c = allowed_fit (record_of c.args.state.now) c.args.conn c.args.cmd.now c.args.allowed c.requires.prepared

pub returns-clause-state : goal.returns-clause-state
returns-clause-state c = allowed_after (record_of c.args.state.now) c.args.conn c.args.cmd.now c.args.allowed c.requires.prepared (record_of c.keep.new.state) c.in_ok-keep.ensures.ok

pub returns-clause-ready : goal.returns-clause-ready
returns-clause-ready c = allowed_ready (record_of c.args.state.now) c.args.conn c.args.cmd.now c.args.allowed c.requires.prepared (record_of c.keep.new.state) c.requires.ready c.in_ok-keep.ensures.ok

pub keep-requires : goal.keep-requires
keep-requires c = c.requires.prepared.1.can
