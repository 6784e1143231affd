use Rattle.std.proofs.Common.{◌≡◌, take, string_bytes}
use Rattle.ps_hall.proofs.FormatLemmas.{names}
use Rattle.ps_hall.proofs.line.names_of.Given as goal

abbrev pub invariant-loop-format : goal.invariant-loop-format
invariant-loop-format l = string_bytes l.names ≡ names l.first (take l.format-index l.rest)
