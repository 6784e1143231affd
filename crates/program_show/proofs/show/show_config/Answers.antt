use Rattle.std.proofs.Common.{inr}
use Rattle.std.specs.Option.{option_copied}
use Rattle.program_commands.specs.Words.{options_of}
use Rattle.program_commands.specs.Setups.{IsOption}
use Rattle.program_show.proofs.ShowLemmas.{file_cause}
use Rattle.program_show.proofs.show.show_config.Goals as goal

pub returns-in-Err-clause-cause : goal.returns-in-Err-clause-cause
returns-in-Err-clause-cause g c =
    file_cause (IsOption (options_of c.args.words.options)) (option_copied c.args.words.options.config) (g.F.Files.counts c.args.files.now)
    (g.F.Files.counts c.config_or_standard.new.files) (g.F.Files.counts c.tell_fault.new.files)
    c.in-Err.status (λ n is. inr is) c.in-Err.ensures.cause c.tell_fault.ensures.counts
