use Rattle.std.proofs.Common.{inl}
use Rattle.server_accept.proofs.serve.serve_files.Goals as goal

pub returns-in-Err-clause-sessions : goal.returns-in-Err-clause-sessions
returns-in-Err-clause-sessions g c = inl c.new.ensures.items
