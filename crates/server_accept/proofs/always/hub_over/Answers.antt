use Rattle.program_commands.specs.Words.{options_of}
use Rattle.program_commands.proofs.SetupLemmas.{files_settle}
use Rattle.server_accept.proofs.ServerLemmas.{step_of_files}
use Rattle.server_accept.proofs.always.hub_over.Goals as goal

pub returns-in-Err-clause-complete : goal.returns-in-Err-clause-complete
returns-in-Err-clause-complete g c = λ good files.
    files_settle (g.F.Files.contents c.args.files.now) (options_of c.args.options) c.args.dex (g.F.Files.counts c.args.files.now) (g.F.Files.counts c.config_or_standard.new.files)
    c.in-Err.status c.requires c.in-Err.ensures.alone c.in-Err.ensures.ended c.in-Err.ensures.cause good files

pub returns-in-Err-clause-of : goal.returns-in-Err-clause-of
returns-in-Err-clause-of g c = step_of_files (options_of c.args.options).config (g.F.Files.counts c.args.files.now) (g.F.Files.counts c.config_or_standard.new.files) c.in-Err.status c.in-Err.ensures.cause
