-- What keeps a pass one of a hub.
use Rattle.std.proofs.Common.{◌≡◌, ℕ, ◌+◌, ◌<◌, ◌≤◌, true, List, [], ◌++◌, length, take, Option, Some, None, refl, sym, ap, ◌∙◌, subst, inl, inr, arith}
use Rattle.std.specs.Prelude.{nat_lt}
use Rattle.std.proofs.lemmas.Bool.Decides.{nat_tests}
use Rattle.std.proofs.lemmas.Option.{none-some}
use Rattle.ps_base.specs.declared.msg.Msg.{Msg}
use Rattle.ps_room.specs.Openings.{Opening}
use Rattle.ps_room.specs.Openings.{chat_opening}
use Rattle.ps_room.specs.Stories.{story, Story}
use Rattle.ps_histlock.specs.declared.view.View.{View}
use Rattle.ps_histlock.specs.Histories.{commands}
use Rattle.ps_histlock.specs.Seated.{TableId}
use Rattle.ps_histlock.specs.Views.{newcomer}
use Rattle.server_pass.specs.Passes.{Grows, IsPass}
use Rattle.server_pass.proofs.PassLemmas.{new}
use Rattle.server_pass.proofs.ToldLemmas.{commands_grow}
use Rattle.server_places.specs.declared.command.RoomCmd.{RoomCmd}
use Rattle.server_places.specs.declared.cursor.RoomCursor.{RoomCursor}
use Rattle.server_places.specs.declared.site.Root.{Root}
use Rattle.server_places.specs.declared.site.Site.{Site}
use Rattle.server_places.specs.Sites.{room_signer, chat_at, plays, TellsBy, Tells, view_told, id_told}
use Rattle.server_places.specs.Rooms.{cursor_of, Pulls, bounded, Stands, StandsAt, site_in}
use Rattle.server_places.specs.Halls.{hall_cursor, hall_signer, HallPulls, hall_bounded, HallStands, root_in}
use Rattle.server_places.specs.Tellings.{hall_telling, room_telling}
use Rattle.server_places.specs.HallLaws.{hall_tells}
use Rattle.server_places.specs.RoomLaws.{room_tells}
use Rattle.server_places.specs.RoomLaws.{stands_free}
use Rattle.server_places.proofs.IdLemmas.{id_of_all}
use Rattle.server_places.specs.HallLaws.{hall_free}
use Rattle.server_places.proofs.StandLemmas.{no_chat}
use Rattle.server_places.specs.StoryLaws.{tells_more, going_on}
use Rattle.ps_hub.specs.Hubs.{Hub, root_of, site_of, lock_of}
use Rattle.ps_hub.specs.Names.{IsChatId, Names}
use Rattle.ps_hub.specs.Passes.{HallPass, RoomPass, IsHallPass, HeldBy, IsAtPlace, IsRoomPass, IsNewPass}

-- ---- the hall

-- between two calls a cursor has no bound
pub hall_unbound : (hub : Hub) (conn : ℕ) (h : HallPass) → IsHallPass hub conn h → hall_bounded None h.cursor ≡ h.cursor
hall_unbound hub conn h p = hall_free conn (root_of hub) (take h.cursor.passed (commands h.pass.1.seen)) h.cursor p.told.cursor

-- a new pass
pub hall_new : (hub : Hub) (conn : ℕ) (k : HallPass) (lock : TableId × Root) (by : ℕ) → lock.0 ≡ hub.hall → lock.1 ≡ root_of hub → k.pass ≡ (lock.0, newcomer lock.1 by)
    → k.cursor ≡ hall_cursor conn 0 → k.kept.items ++ k.fresh.items ≡ [] → k.at ≡ 0 → IsHallPass hub conn k
hall_new hub conn k lock by name origin pass cursor none at =
    new root_in HallStands hall_signer HallPulls hall_telling hall_tells conn (hub.hall, root_of hub) k (hall_cursor conn 0) by
    (pass ∙ ap (λ (t : TableId). (t, newcomer lock.1 by)) name ∙ ap (λ (r : Root). (hub.hall, newcomer r by)) origin) cursor none at refl refl refl

-- ---- a room

pub room_unbound : (hub : Hub) (conn : ℕ) (h : RoomPass) → IsRoomPass hub conn h → bounded None h.cursor ≡ h.cursor
room_unbound hub conn h p = stands_free conn (site_of hub h.number) (take h.cursor.passed (commands h.pass.1.seen)) h.cursor p.place.told.cursor

room_until_none : (hub : Hub) (conn : ℕ) (h : RoomPass) → IsRoomPass hub conn h → h.cursor.until ≡ None
room_until_none hub conn h p = sym (ap (λ (c : RoomCursor). c.until) (room_unbound hub conn h p))

-- the id of a room stays
held_further : (site : Site) (cmds later : List RoomCmd) (id : List ℕ) (told : Option Story) → Tells site cmds told → id_told told ≡ Some id → (more : Option Story) × Tells site (cmds ++ later) more × (id_told more ≡ Some id)
held_further site cmds later id None tells is = absurd (none-some id is)
held_further site cmds later id (Some s) tells is = (Some (going_on later s), tells_more site cmds later s tells, is)

held_on : (hub : Hub) (id : Option (List ℕ)) (h k : RoomPass) → k.number ≡ h.number → Grows h.pass.1 k.pass.1 → HeldBy id hub h → HeldBy id hub k
held_on hub None h k number g held = tt
held_on hub (Some id) h k number g held =
    let later = commands_grow h.pass.1 k.pass.1 g in
    let further : (more : Option Story) × Tells (site_of hub h.number) (commands h.pass.1.seen ++ later.0) more × (id_told more ≡ Some id) = held_further (site_of hub h.number) (commands h.pass.1.seen) later.0 id held.0 held.1 held.2 in
    let here : (more : Option Story) × Tells (site_of hub h.number) (commands k.pass.1.seen) more × (id_told more ≡ Some id) = subst (λ (l : List RoomCmd). (more : Option Story) × Tells (site_of hub h.number) l more × (id_told more ≡ Some id)) later.1 further in
    subst (λ (n : ℕ). (more : Option Story) × Tells (site_of hub n) (commands k.pass.1.seen) more × (id_told more ≡ Some id)) (sym number) here

-- who has said what it has made goes on so
said_on : (v w : View Site RoomCmd) → Grows v w → v.said ≡ v.mine → w.said ≡ w.mine
said_on v w g same = g.adds.1 ∙ ap (λ l. l ++ g.adds.0) same ∙ sym g.adds.2

-- what follows for a pass from what a call left of it
pub room_again : (hub : Hub) (conn : ℕ) (h k : RoomPass) → k.number ≡ h.number → k.id ≡ h.id → Grows h.pass.1 k.pass.1
    → (IsAtPlace hub conn h.pass.0 h → IsPass site_in Stands room_signer room_telling conn (h.pass.0, site_of hub h.number) k) → IsRoomPass hub conn h → IsRoomPass hub conn k
room_again hub conn h k number id g on p =
    let place : IsPass site_in Stands room_signer room_telling conn (h.pass.0, site_of hub h.number) k = on p.place in
    let moved : IsPass site_in Stands room_signer room_telling conn (k.pass.0, site_of hub h.number) k =
    subst (λ (t : TableId). IsPass site_in Stands room_signer room_telling conn (t, site_of hub h.number) k) (sym place.lock) place in
    record {
      place = subst (λ (n : ℕ). IsPass site_in Stands room_signer room_telling conn (k.pass.0, site_of hub n) k) (sym number) moved;
      lock = ap (λ (n : ℕ). lock_of hub n) number ∙ p.lock ∙ ap (λ (t : TableId). Some t) (sym place.lock);
      said = said_on h.pass.1 k.pass.1 g p.said;
      held = subst (λ (i : Option (List ℕ)). HeldBy i hub k) (sym id) (held_on hub h.id h k number g p.held);
    }

-- ---- a new pass of a place

shows_none : (conn : ℕ) (chat : Option Opening) (site : Site) → (told : Option Story) × TellsBy chat site [] told × ([] ≡ view_told conn told)
shows_none conn None site = (None, refl, refl)
shows_none conn (Some o) site = (Some (story o []), refl, refl)

pub room_new : (hub : Hub) (conn number : ℕ) (k : RoomPass) → IsNewPass hub conn number k → IsRoomPass hub conn k
room_new hub conn number k is_new =
    let pass : k.pass ≡ (is_new.pass.0, newcomer (site_of hub number) is_new.pass.1) = is_new.pass.3 in
    let place : IsPass site_in Stands room_signer room_telling conn (is_new.pass.0, site_of hub number) k =
    new site_in Stands room_signer Pulls room_telling room_tells conn (is_new.pass.0, site_of hub number) k (cursor_of conn None 0) is_new.pass.1 pass is_new.cursor is_new.kept is_new.at
    (inl (refl, refl)) (shows_none conn (chat_at (site_of hub number)) (site_of hub number)) refl in
    let moved : IsPass site_in Stands room_signer room_telling conn (k.pass.0, site_of hub number) k =
    subst (λ (t : TableId). IsPass site_in Stands room_signer room_telling conn (t, site_of hub number) k) (sym place.lock) place in
    record {
      place = subst (λ (n : ℕ). IsPass site_in Stands room_signer room_telling conn (k.pass.0, site_of hub n) k) (sym is_new.number_is) moved;
      lock = ap (λ (n : ℕ). lock_of hub n) is_new.number_is ∙ is_new.pass.2 ∙ ap (λ (q : TableId × View Site RoomCmd). Some q.0) (sym pass);
      said = subst (λ (q : TableId × View Site RoomCmd). q.1.said ≡ q.1.mine) (sym pass) refl;
      held = subst (λ (i : Option (List ℕ)). HeldBy i hub k) (sym is_new.id) tt;
    }

-- ---- holding

pub room_held : (hub : Hub) (conn : ℕ) (h k : RoomPass) (id : List ℕ) → k ≡ record h { id = Some id } → HeldBy (Some id) hub h → IsRoomPass hub conn h → IsRoomPass hub conn k
room_held hub conn h k id is held p = subst (λ (q : RoomPass). IsRoomPass hub conn q) (sym is) (record {
  place = record { lock = refl; origin = p.place.origin; rest = p.place.rest; looks = p.place.looks; signs = p.place.signs; own = p.place.own; told = p.place.told };
  lock = p.lock;
  said = p.said;
  held = held;
})

-- the place of a chat room is that of the room with its id
chat_named : (hub : Hub) (id : List ℕ) (number : ℕ) → IsChatId hub.config id number → number < 16 → (o : Opening) × (chat_at (site_of hub number) ≡ Some o) × (o.id ≡ id)
chat_named hub id number named low =
    let test : nat_lt number 16 ≡ true = grind (arith, nat_tests) in
    (chat_opening hub.config hub.dex number named.0, rw (test, named.1) refl, named.2)

is_chat : (hub : Hub) (id : List ℕ) (number : ℕ) → Names hub.config id number → number < 16 → IsChatId hub.config id number
is_chat hub id number (inl chat) low = chat.0.0
is_chat hub id number (inr battle) low = let above : 1 ≤ battle.0 = battle.1.2 in let is : number ≡ 15 + battle.0 = battle.2 in absurd (omega arith)

pub chat_held : (hub : Hub) (h : RoomPass) (id : List ℕ) → Names hub.config id h.number → h.number < 16 → HeldBy (Some id) hub h
chat_held hub h id names low =
    let named = chat_named hub id h.number (is_chat hub id h.number names low) low in (
      Some (story named.0 (plays (commands h.pass.1.seen))),
      subst (λ (c : Option Opening). TellsBy c (site_of hub h.number) (commands h.pass.1.seen) (Some (story named.0 (plays (commands h.pass.1.seen))))) (sym named.1) refl,
      ap (λ (i : List ℕ). Some i) named.2,
    )

id_of_cursor : (conn : ℕ) (told : Option Story) (n : ℕ) → (cursor_of conn told n).id ≡ id_told told
id_of_cursor conn None n = refl
id_of_cursor conn (Some s) n = refl

-- the id that a cursor behind the commands of a battle's place has is that of the battle
known_id : (conn : ℕ) (site : Site) (cmds : List RoomCmd) (x : RoomCursor) → 16 ≤ site.number → StandsAt conn site cmds x → (told : Option Story) × Tells site cmds told × (id_told told ≡ x.id)
known_id conn site cmds x high (inl new) = (None, subst (λ (l : List RoomCmd). Tells site l None) (sym new.0) (subst (λ (c : Option Opening). TellsBy c site [] None) (sym (no_chat site high)) refl), sym (ap (λ (c : RoomCursor). c.id) new.1))
known_id conn site cmds x high (inr at) = (at.0, at.1, sym (ap (λ (c : RoomCursor). c.id) at.2 ∙ id_of_cursor conn at.0 (length cmds)))

-- What a turn that was taken tells of the room of a battle's place
pub room_told : (hub : Hub) (conn : ℕ) (h k : RoomPass) (msgs : List Msg) → 16 ≤ h.number → k.number ≡ h.number → Pulls h.pass.1.origin (commands k.pass.1.seen) h.cursor msgs k.cursor → IsRoomPass hub conn h → IsRoomPass hub conn k
    → (told : Option Story) × Tells (site_of hub k.number) (commands k.pass.1.seen) told × (id_told told ≡ k.cursor.id)
room_told hub conn h k msgs high number pulls p q =
    let site : site_of hub h.number ≡ site_of hub k.number = ap (λ (n : ℕ). site_of hub n) (sym number) in
    let here : Pulls (site_of hub k.number) (commands k.pass.1.seen) h.cursor msgs k.cursor = subst (λ (s : Site). Pulls s (commands k.pass.1.seen) h.cursor msgs k.cursor) (p.place.origin ∙ site) pulls in
    let above : 16 ≤ k.number = subst (λ (n : ℕ). 16 ≤ n) (sym number) high in
    id_of_all (site_of hub k.number) (commands k.pass.1.seen) h.cursor k.cursor msgs k.cursor.passed (room_until_none hub conn h p) here
    (known_id conn (site_of hub k.number) (take k.cursor.passed (commands k.pass.1.seen)) k.cursor above q.place.told.cursor)
