use Rattle.std.proofs.Common.{◌≡◌, ◌++◌, take, string_bytes}
use Rattle.std.specs.List.{flat_map}
use Rattle.ps_replay.specs.StandingsEnds.{place_line}
use Rattle.ps_replay.proofs.standings.push_lines.Given as goal

abbrev pub invariant-loop-place : goal.invariant-loop-place
invariant-loop-place l = string_bytes l.out ≡ string_bytes l.fn.out ++ flat_map place_line (take l.place-index l.places)
