use Rattle.std.proofs.Common.{◌≡◌, length, map}
use Rattle.std.specs.List.{AllZip}
use Rattle.std.specs.Arc.{arc_value}
use Rattle.ps_hub.specs.Hubs.{AreAt, name_of, IsUnopened}
use Rattle.ps_hub.proofs.hub.chats.Given as goal

-- the locks of the rooms so far, and their openers
abbrev pub invariant-loop-number : goal.invariant-loop-number
invariant-loop-number l = record { at : AreAt (arc_value l.config) (arc_value l.dex) 0 l.locks.items; count : length l.locks.items ≡ l.number; empty : AllZip IsUnopened (map name_of l.locks.items) l.openers.items }
