use Rattle.std.proofs.Common.{◌≡◌, length, map}
use Rattle.std.specs.List.{AllZip}
use Rattle.std.specs.Arc.{arc_value}
use Rattle.ps_hub.specs.Hubs.{AreAt, name_of, IsUnopened}
use Rattle.ps_hub.proofs.hub.battles.Given as goal

-- the locks of the places so far, and their openers
abbrev pub invariant-loop-n : goal.invariant-loop-n
invariant-loop-n l = record { at : AreAt (arc_value l.config) (arc_value l.dex) 16 l.locks.items; count : length l.locks.items ≡ l.n; empty : AllZip IsUnopened (map name_of l.locks.items) l.openers.items }
