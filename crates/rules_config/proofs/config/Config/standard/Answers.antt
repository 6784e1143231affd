use Rattle.std.proofs.Common.{codes}
use Rattle.ps_dex.specs.Lookups.{no_tables}
use Rattle.rules_config.specs.Standard.{standard}
use Rattle.rules_config.proofs.StandardFile.{standard_file}
use Rattle.rules_config.proofs.FileLemmas.{of_file}
use Rattle.rules_config.proofs.config.Config.standard.Goals as goal

pub invariant_of-result : goal.invariant_of-result
invariant_of-result c = rw c.in_ok-settings.ensures (of_file no_tables (codes "{\"version\":2}") standard standard_file)
