use Rattle.std.proofs.Common.{◌≡◌, drop}
use Rattle.ps_outside.specs.Files.{lookup}
use Rattle.ps_outside.proofs.files.lookup.Given as goal

abbrev pub invariant-loop-file : goal.invariant-loop-file
invariant-loop-file l = lookup (drop l.file-index l.files) l.name ≡ lookup l.files l.name
