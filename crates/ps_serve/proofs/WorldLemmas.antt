-- What was sent is the view over every world that is the same to the connection.
use Rattle.std.proofs.Common.{◌≡◌, ℕ, Bool, true, false, List, take, Option, Some, None, IfSome, ap, ◌∙◌, subst}
use mathlib.Core.List.{IsPrefix}
use Rattle.ps_histlock.specs.Histories.{commands}
use Rattle.ps_laws.specs.Same.{AreSame}
use Rattle.ps_laws.specs.HallSame.{AreHallsSame}
use Rattle.ps_room.specs.Stories.{Story, view_of}
use Rattle.ps_laws.specs.HallStories.{HallStory}
use Rattle.ps_laws.proofs.RoomLemmas.{views_are_equal}
use Rattle.ps_laws.proofs.HallHistoryLemmas.{hall_views_are_equal}
use Rattle.ps_laws.proofs.HallRatings.{hall_whole}
use Rattle.server_places.specs.Sites.{Tells, view_told}
use Rattle.server_places.specs.Rooms.{Shows}
use Rattle.server_places.specs.StoryLaws.{one_story}
use Rattle.ps_hub.specs.Hubs.{Hub, site_of}
use Rattle.ps_hub.specs.Passes.{HallPass, RoomPass}
use Rattle.ps_serve.specs.Sendings.{texts_from, message_texts}
use Rattle.ps_serve.specs.Ends.{Account, HallSent, RoomSent, hall_seen, HallLosesNothing, hall_world, HallElsewhere, RoomElsewhere}

pub hall_elsewhere : (b : Bool) (hub : Hub) (conn : ℕ) (t : Account) (h : HallPass) → HallSent b hub conn t h → HallElsewhere b hub conn t h
hall_elsewhere false hub conn t h s = λ (other : HallStory) (same : AreHallsSame conn (hall_world hub h) other). s.2 ∙ ap (message_texts None) (s.1 ∙ hall_views_are_equal conn (hall_world hub h) other same)
hall_elsewhere true hub conn t h s = λ (other : HallStory) (same : AreHallsSame conn (hall_world hub h) other).
    subst (λ (v : List (List (List ℕ))). IsPrefix (texts_from None t.sendings) (message_texts None v)) (s.1 ∙ hall_views_are_equal conn (hall_world hub h) other same) s.2

-- there is one story of a place, and its view is that of each world that is the same
same_view : (conn : ℕ) (hub : Hub) (k : RoomPass) (view : List (List (List ℕ))) → Shows conn (site_of hub k.number) (take k.at (commands k.pass.1.seen)) view → (s other : Story) → Tells (site_of hub k.number) (take k.at (commands k.pass.1.seen)) (Some s) → AreSame conn s other → view ≡ view_of conn other
same_view conn hub k view shown s other tells same =
    shown.2
    ∙ ap (view_told conn) (one_story (site_of hub k.number) (take k.at (commands k.pass.1.seen)) shown.0 (Some s) shown.1 tells)
    ∙ views_are_equal conn s other same

pub room_elsewhere : (b : Bool) (hub : Hub) (conn : ℕ) (t : Account) (k : RoomPass) → RoomSent b hub conn t k → RoomElsewhere b hub conn t k
room_elsewhere false hub conn t k sent = λ (s other : Story) (tells : Tells (site_of hub k.number) (take k.at (commands k.pass.1.seen)) (Some s)) (same : AreSame conn s other).
    sent.2 ∙ ap (message_texts k.id) (same_view conn hub k sent.0 sent.1 s other tells same)
room_elsewhere true hub conn t k sent = λ (s other : Story) (tells : Tells (site_of hub k.number) (take k.at (commands k.pass.1.seen)) (Some s)) (same : AreSame conn s other).
    subst (λ (v : List (List (List ℕ))). IsPrefix (texts_from (Some k.number) t.sendings) (message_texts k.id v)) (same_view conn hub k sent.0 sent.1 s other tells same) sent.2

pub loses_nothing : (hub : Hub) (hall : Option HallPass) → IfSome hall (HallLosesNothing hub)
loses_nothing hub None = tt
loses_nothing hub (Some h) = hall_whole (hall_seen hub h)
