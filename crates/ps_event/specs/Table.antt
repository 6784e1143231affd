-- The table of events: who sees each, and which stay in the battle's log.
use Rattle.std.specs.Prelude.{Bool, true, false}
use Rattle.ps_event.specs.declared.audience.Audience.{Audience}
use Rattle.ps_event.specs.declared.audience.Audience.TheVariants as audiences
use Rattle.ps_event.specs.declared.event.Event.{Event}
use Rattle.ps_event.specs.declared.event.Event.TheVariants as events

-- what tells a member's health is split, a request is for its side alone, all else is for all
abbrev pub audience_of : Event → Audience
audience_of (events.Switch who species level health) = audiences.Split who.side
audience_of (events.Damage who health from) = audiences.Split who.side
audience_of (events.Heal who health) = audiences.Split who.side
audience_of (events.Request side) = audiences.Side side
audience_of other = audiences.All

-- all but requests
abbrev pub is_logged : Event → Bool
is_logged (events.Request side) = false
is_logged other = true
