-- The id of a room that a cursor has.
use Rattle.std.proofs.Common.{◌≡◌, ℕ, List, take, drop, Option, Some, None, sym, subst, inl, inr}
use Rattle.std.proofs.lemmas.List.{take-append-drop}
use Rattle.std.proofs.lemmas.Option.{none-some}
use Rattle.std.specs.Prelude.{IfSome}
use Rattle.ps_room.specs.Stories.{Story}
use Rattle.server_places.specs.declared.command.RoomCmd.{RoomCmd}
use Rattle.server_places.specs.declared.cursor.RoomCursor.{RoomCursor}
use Rattle.server_places.specs.declared.site.Site.{Site}
use Rattle.server_places.specs.Sites.{Tells, id_told, IsAtBound}
use Rattle.ps_base.specs.declared.msg.Msg.{Msg}
use Rattle.server_places.specs.Rooms.{Pulls}
use Rattle.server_places.specs.StoryLaws.{one_story, tells_more, going_on}

id_all : (site : Site) (cmds : List RoomCmd) (n : ℕ) (id : Option (List ℕ)) (one two : Option Story) → Tells site (take n cmds) one → id_told one ≡ id → Tells site cmds two → IfSome two (λ s. id ≡ Some s.opening.id)
    → (told : Option Story) × Tells site cmds told × (id_told told ≡ id)
id_all site cmds n id one (Some s) first is all known = (Some s, all, sym known)
id_all site cmds n id None None first is all known = (None, all, is)
id_all site cmds n id (Some s) None first is all known =
    let more : Tells site cmds (Some (going_on (drop n cmds) s)) = subst (λ (l : List RoomCmd). Tells site l (Some (going_on (drop n cmds) s))) (take-append-drop n cmds) (tells_more site (take n cmds) (drop n cmds) s first) in
    absurd (none-some (going_on (drop n cmds) s) (one_story site cmds None (Some (going_on (drop n cmds) s)) all more))

-- a cursor that stands behind the first so many commands, and has the id of the room that all of them tell of, has that of the room
pub id_of_all : (site : Site) (cmds : List RoomCmd) (x y : RoomCursor) (msgs : List Msg) (n : ℕ) → x.until ≡ None → Pulls site cmds x msgs y → (one : Option Story) × Tells site (take n cmds) one × (id_told one ≡ y.id)
    → (told : Option Story) × Tells site cmds told × (id_told told ≡ y.id)
id_of_all site cmds x y msgs n free (inl stays) one = absurd (subst (λ (u : Option ℕ). IsAtBound u x.passed) free stays.0)
id_of_all site cmds x y msgs n free (inr p) one = id_all site cmds n y.id one.0 p.told one.1 one.2 p.tells p.id
