-- What the commands of a place tell, as they go on: laws, which stand here since those of a room's place cite them.
use Rattle.std.proofs.Common.{◌≡◌, List, [], ◌∷◌, ◌++◌, Option, Some, None, option_map, refl, sym, ap, ◌∙◌, inl, inr}
use Rattle.std.proofs.lemmas.List.Elements.{filter_map-append}
use Rattle.std.proofs.lemmas.Option.{none-some}
use Rattle.rules_start.specs.declared.start.Start.{Start}
use Rattle.ps_room.specs.declared.entry.Entry.{Entry}
use Rattle.ps_room.specs.Openings.{Opening}
use Rattle.ps_room.specs.Stories.{story, Story}
use Rattle.server_places.specs.declared.site.Site.{Site}
use Rattle.server_places.specs.declared.command.RoomCmd.{RoomCmd}
use Rattle.server_places.specs.declared.command.RoomCmd.TheVariants.{Begin, Play}
use Rattle.server_places.specs.Sites.{Opens, battle_at, chat_at, play_of, plays, BattleTells, TellsBy, Tells, OneStory, StoriesGoOn}

-- ---- one story at the most

battle_unique : (site : Site) (cmds : List RoomCmd) (one two : Option Story) → BattleTells site cmds one → BattleTells site cmds two
    → one ≡ two
battle_unique site [] one two a b = a ∙ sym b
battle_unique site (Play entry ∷ cmds) one two a b = battle_unique site cmds one two a b
battle_unique site (Begin start ∷ cmds) one two (inl a) (inl b) = a.1 ∙ sym b.1
battle_unique site (Begin start ∷ cmds) one two (inl a) (inr b) = absurd (b.0 a.0)
battle_unique site (Begin start ∷ cmds) one two (inr a) (inl b) = absurd (a.0 b.0)
battle_unique site (Begin start ∷ cmds) one two (inr a) (inr b) = battle_unique site cmds one two a.1 b.1

unique_by : (chat : Option Opening) (site : Site) (cmds : List RoomCmd) (one two : Option Story) → TellsBy chat site cmds one
    → TellsBy chat site cmds two → one ≡ two
unique_by (Some chat) site cmds one two a b = a ∙ sym b
unique_by None site cmds one two a b = battle_unique site cmds one two a b

pub one_story : OneStory
one_story site cmds one two a b = unique_by (chat_at site) site cmds one two a b

-- ---- more commands, where there is a room

-- the story goes on with the entries among them
abbrev pub going_on : List RoomCmd → Story → Story
going_on later told = story told.opening (told.history ++ plays later)

told_more : (opening : Opening) (before later : List RoomCmd) (told : Story) → Some told ≡ Some (story opening (plays before))
    → Some (going_on later told) ≡ Some (story opening (plays (before ++ later)))
told_more opening before later told same = ap (option_map (going_on later)) same
    ∙ ap (λ (entries : List Entry). Some (story opening entries)) (sym (filter_map-append play_of before later))

battle_more : (site : Site) (before later : List RoomCmd) (told : Story) → BattleTells site before (Some told)
    → BattleTells site (before ++ later) (Some (going_on later told))
battle_more site [] later told a = absurd (none-some told (sym a))
battle_more site (Play entry ∷ cmds) later told a = battle_more site cmds later told a
battle_more site (Begin start ∷ cmds) later told (inl a) = inl (a.0, told_more (battle_at site start) cmds later told a.1)
battle_more site (Begin start ∷ cmds) later told (inr a) = inr (a.0, battle_more site cmds later told a.1)

more_by : (chat : Option Opening) (site : Site) (before later : List RoomCmd) (told : Story) → TellsBy chat site before (Some told)
    → TellsBy chat site (before ++ later) (Some (going_on later told))
more_by (Some chat) site before later told a = told_more chat before later told a
more_by None site before later told a = battle_more site before later told a

pub tells_more : StoriesGoOn
tells_more site before later told a = more_by (chat_at site) site before later told a

-- ---- one more command, where there is none

battle_waits : (site : Site) (cmds : List RoomCmd) (entry : Entry) → BattleTells site cmds None
    → BattleTells site (cmds ++ Play entry ∷ []) None
battle_waits site [] entry a = a
battle_waits site (Play other ∷ cmds) entry a = battle_waits site cmds entry a
battle_waits site (Begin start ∷ cmds) entry (inl a) = absurd (none-some _ a.1)
battle_waits site (Begin start ∷ cmds) entry (inr a) = inr (a.0, battle_waits site cmds entry a.1)

battle_opens : (site : Site) (cmds : List RoomCmd) (start : Start) → Opens site start → BattleTells site cmds None
    → BattleTells site (cmds ++ Begin start ∷ []) (Some (story (battle_at site start) []))
battle_opens site [] start can a = inl (can, refl)
battle_opens site (Play other ∷ cmds) start can a = battle_opens site cmds start can a
battle_opens site (Begin other ∷ cmds) start can (inl a) = absurd (none-some _ a.1)
battle_opens site (Begin other ∷ cmds) start can (inr a) = inr (a.0, battle_opens site cmds start can a.1)

battle_stays : (site : Site) (cmds : List RoomCmd) (start : Start) → (Opens site start → ⊥) → BattleTells site cmds None
    → BattleTells site (cmds ++ Begin start ∷ []) None
battle_stays site [] start not a = inr (not, a)
battle_stays site (Play other ∷ cmds) start not a = battle_stays site cmds start not a
battle_stays site (Begin other ∷ cmds) start not (inl a) = absurd (none-some _ a.1)
battle_stays site (Begin other ∷ cmds) start not (inr a) = inr (a.0, battle_stays site cmds start not a.1)

waits_by : (chat : Option Opening) (site : Site) (cmds : List RoomCmd) (entry : Entry) → TellsBy chat site cmds None
    → TellsBy chat site (cmds ++ Play entry ∷ []) None
waits_by (Some chat) site cmds entry a = absurd (none-some _ a)
waits_by None site cmds entry a = battle_waits site cmds entry a

opens_by : (chat : Option Opening) (site : Site) (cmds : List RoomCmd) (start : Start) → Opens site start
    → TellsBy chat site cmds None → TellsBy chat site (cmds ++ Begin start ∷ []) (Some (story (battle_at site start) []))
opens_by (Some chat) site cmds start can a = absurd (none-some _ a)
opens_by None site cmds start can a = battle_opens site cmds start can a

stays_by : (chat : Option Opening) (site : Site) (cmds : List RoomCmd) (start : Start) → (Opens site start → ⊥)
    → TellsBy chat site cmds None → TellsBy chat site (cmds ++ Begin start ∷ []) None
stays_by (Some chat) site cmds start not a = absurd (none-some _ a)
stays_by None site cmds start not a = battle_stays site cmds start not a

pub tells_waits : (site : Site) (cmds : List RoomCmd) (entry : Entry) → Tells site cmds None → Tells site (cmds ++ Play entry ∷ []) None
tells_waits site cmds entry a = waits_by (chat_at site) site cmds entry a

pub tells_opens : (site : Site) (cmds : List RoomCmd) (start : Start) → Opens site start → Tells site cmds None
    → Tells site (cmds ++ Begin start ∷ []) (Some (story (battle_at site start) []))
tells_opens site cmds start can a = opens_by (chat_at site) site cmds start can a

pub tells_stays : (site : Site) (cmds : List RoomCmd) (start : Start) → (Opens site start → ⊥) → Tells site cmds None
    → Tells site (cmds ++ Begin start ∷ []) None
tells_stays site cmds start not a = stays_by (chat_at site) site cmds start not a
