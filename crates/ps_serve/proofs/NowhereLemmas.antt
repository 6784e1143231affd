-- A text that became Bad(NoSuchRoom) is for no chat room, for no room that was joined, and for no battle that the session began.
use Rattle.std.proofs.Common.{◌≡◌, ◌≢◌, ℕ, ◌+◌, ◌<◌, ◌≤◌, Bool, true, false, cond, eqb, List, [], ◌∷◌, ◌++◌, length, get_or, Option, Some, None, IfSome, refl, sym, ap, ◌∙◌, subst, inl, inr, ⊎_elim, append_assoc, append-nil, arith}
use Rattle.std.specs.Prelude.{All, Contains}
use Rattle.std.proofs.lemmas.Grind.{flat_map-append}
use Rattle.std.proofs.lemmas.List.{length-append, length-map, nil_from_length}
use Rattle.std.proofs.lemmas.List.Elements.{All-contains, Contains-append_left, Contains-append_right, Contains-append_cases, Contains-get_or}
use Rattle.std.proofs.lemmas.Option.{same_Some}
use mathlib.Core.List.{IsPrefix}
use Rattle.ps_base.specs.declared.badge.Badge.{Badge}
use Rattle.ps_lines.specs.declared.command.HallCmd.{HallCmd}
use Rattle.ps_room.specs.Openings.{first_battle}
use Rattle.rules_start.specs.Fits.{IsFit}
use Rattle.rules_config.specs.declared.settings.Settings.{Settings}
use Rattle.rules_start.specs.declared.start.Start.{Start}
use Rattle.ps_room.specs.declared.entry.Entry.{Entry}
use Rattle.ps_room.specs.Openings.{Opening}
use Rattle.ps_room.specs.Stories.{story, Story}
use Rattle.ps_histlock.specs.declared.view.Entry.{Entry as Made}
use Rattle.ps_histlock.specs.Histories.{commands, entries_of}
use Rattle.ps_histlock.proofs.Lists.{entries_of-append}
use Rattle.ps_histlock.proofs.TurnLemmas.{commands-append}
use Rattle.server_places.specs.declared.site.Site.{Site}
use Rattle.server_places.specs.declared.command.RoomCmd.{RoomCmd}
use Rattle.server_places.specs.declared.command.RoomCmd.TheVariants.{Begin, Play}
use Rattle.server_places.specs.Sites.{Opens, battle_at, chat_at, plays, BattleTells, TellsBy, Tells, id_told}
use Rattle.server_places.specs.StoryLaws.{one_story, tells_more}
use Rattle.ps_hub.specs.Hubs.{Hub, site_of}
use Rattle.ps_hub.specs.Names.{IsBattleId, IsNoChat, Names}
use Rattle.ps_hub.specs.Passes.{HallPass, RoomPass, HeldBy, IsRoomPass}
use Rattle.ps_hub.specs.Calls.{NamesNone}
use Rattle.ps_hub.proofs.NameLemmas.{names_battle, names_none}
use Rattle.ps_serve.specs.Acts.{in_hall, in_room, nowhere, Act, quiet, heard, room_of, room_cmds, since, begins, begun_by, all_begun}
use Rattle.ps_serve.specs.Sittings.{HallGave, IsOthers, IsNowhere, Gave, AreGiven, SaysNothing, LastGave, AreApart}
use Rattle.ps_serve.specs.Ends.{Account, starts_in, AreAnswers, AreSure, IsRightlyNowhere, IsRightly, AreRightly}
use Rattle.ps_serve.proofs.Names.{one_place}
use Rattle.ps_serve.proofs.PassLists.{contains_none, contains_cases}
use Rattle.ps_serve.proofs.Prefixes.{prefix_trans, prefix_commands}
use Rattle.ps_serve.proofs.Actions.{given_more}
use Rattle.ps_serve.proofs.BeginLemmas.{starts_are, own_starts, only_one, shorter}

-- ---- one pass a place

another_pass : (rooms : List RoomPass) (x y : RoomPass) → All (λ (other : RoomPass). other.number ≢ x.number) rooms → Contains rooms y → y.number ≢ x.number
another_pass rooms x y differ c = All-contains (λ (other : RoomPass). other.number ≢ x.number) rooms y differ c

one_pass : (rooms : List RoomPass) (k j : RoomPass) → AreApart rooms → Contains rooms k → Contains rooms j → k.number ≡ j.number → k ≡ j
one_pass [] k j a ck cj e = contains_none k ck
one_pass (x ∷ rooms) k j a ck cj e = ⊎_elim
    (λ (one : x ≡ k). ⊎_elim
    (λ (two : x ≡ j). sym one ∙ two)
    (λ (c : Contains rooms j). absurd (another_pass rooms x j a.0 c (sym e ∙ ap (λ (y : RoomPass). y.number) (sym one))))
    (contains_cases x rooms j cj))
    (λ (first : Contains rooms k). ⊎_elim
    (λ (two : x ≡ j). absurd (another_pass rooms x k a.0 first (e ∙ ap (λ (y : RoomPass). y.number) (sym two))))
    (λ (second : Contains rooms j). one_pass rooms k j a.1 first second e)
    (contains_cases x rooms j cj))
    (contains_cases x rooms k ck)

-- ---- ids of chat rooms

battle_no_chat : (config : Settings) (id : List ℕ) (number : ℕ) → Names config id number → first_battle ≤ number → IsNoChat config id
battle_no_chat config id number (inl first) high = absurd (let low : number < 16 = first.1 in omega arith)
battle_no_chat config id number (inr named) high = named.3

-- ---- what the places' answers say of a text

no_chat_of : (hub : Hub) (conn : ℕ) (done : List Act) (asked : Option ℕ) (id : List ℕ) (rooms : List RoomPass) → IsNowhere hub conn done asked id rooms → IsNoChat hub.config id
no_chat_of hub conn done None id rooms n = ⊎_elim
    (λ (none : NamesNone hub id). none.0)
    (λ (o : (k : RoomPass) × Contains rooms k × IsOthers hub done id k). battle_no_chat hub.config id o.0.number o.2.named o.2.battle)
    n
no_chat_of hub conn done (Some number) id rooms n = battle_no_chat hub.config id number n.2.named n.2.battle

named_by : (config : Settings) (number : ℕ) (o : Option (List ℕ)) (id : List ℕ) → o ≡ Some id → IfSome o (λ (i : List ℕ). Names config i number) → Names config id number
named_by config number o id e named = (let r : IfSome (Some id) (λ (i : List ℕ). Names config i number) = subst (λ (x : Option (List ℕ)). IfSome x (λ (i : List ℕ). Names config i number)) e named in r)

module _ (hub : Hub) (rooms : List RoomPass) (named : All (λ (k : RoomPass). IfSome k.id (λ id. Names hub.config id k.number)) rooms) (apart : AreApart rooms) where
  -- a place that is held by the id wasn't joined
  not_held_of : (conn : ℕ) (done : List Act) (asked : Option ℕ) (id : List ℕ) → IsNowhere hub conn done asked id rooms → (k : RoomPass) → Contains rooms k → k.id ≡ Some id → since k.number done ≡ []
  not_held_of conn done None id n k c e =
      let here : Names hub.config id k.number = named_by hub.config k.number k.id id e (All-contains (λ (x : RoomPass). IfSome x.id (λ i. Names hub.config i x.number)) rooms k named c) in
      ⊎_elim
      (λ (none : NamesNone hub id). absurd (names_none hub.config id none.0 none.1 k.number here))
      (λ (o : (j : RoomPass) × Contains rooms j × IsOthers hub done id j).
      let same : k ≡ o.0 = one_pass rooms k o.0 apart c o.1 (one_place hub.config id k.number o.0.number here o.2.named) in
      let other : id ≡ o.2.other = same_Some id o.2.other (sym e ∙ ap (λ (x : RoomPass). x.id) same ∙ o.2.held) in
      absurd (o.2.differs (sym other)))
      n
  not_held_of conn done (Some number) id n k c e =
      let here : Names hub.config id k.number = named_by hub.config k.number k.id id e (All-contains (λ (x : RoomPass). IfSome x.id (λ i. Names hub.config i x.number)) rooms k named c) in
      ap (λ (x : ℕ). since x done) (one_place hub.config id k.number number here n.2.named) ∙ n.2.unjoined

-- ---- a Begin among commands, and among the entries of a pass

begin_in : (cmds : List RoomCmd) (start : Start) → Contains (starts_in cmds) start → Contains cmds (Begin start)
begin_in [] start c = absurd (let lt : c.0 < 0 = c.1 in omega arith)
begin_in (Play e ∷ cmds) start c = Contains-append_right (Play e ∷ []) cmds (Begin start) (begin_in cmds start c)
begin_in (Begin other ∷ cmds) start c = ⊎_elim
    (λ (is : other ≡ start). Contains-append_left (Begin other ∷ []) cmds (Begin start) (0, omega arith, ap (λ (s : Start). Begin s) is))
    (λ (later : Contains (starts_in cmds) start). Contains-append_right (Begin other ∷ []) cmds (Begin start) (begin_in cmds start later))
    (contains_cases other (starts_in cmds) start c)

own_in_by : {C : Type 0} → (b : Bool) (by : ℕ) (e : Made C) (own log : List (Made C)) (cmd : C) → (Contains (commands own) cmd → Contains (commands log) cmd) → Contains (commands (cond b (e ∷ own) own)) cmd → Contains (commands (e ∷ log)) cmd
own_in_by true by e own log cmd further c = ⊎_elim
    (λ (is : e.cmd ≡ cmd). Contains-append_left (e.cmd ∷ []) (commands log) cmd (0, omega arith, is))
    (λ (later : Contains (commands own) cmd). Contains-append_right (e.cmd ∷ []) (commands log) cmd (further later))
    (contains_cases e.cmd (commands own) cmd c)
own_in_by false by e own log cmd further c = Contains-append_right (e.cmd ∷ []) (commands log) cmd (further c)

own_in : {C : Type 0} → (by : ℕ) (log : List (Made C)) (cmd : C) → Contains (commands (entries_of by log)) cmd → Contains (commands log) cmd
own_in by [] cmd c = c
own_in by (e ∷ log) cmd c = own_in_by (eqb e.by by) by e (entries_of by log) log cmd (own_in by log cmd) c

same_front : {A : Type 0} → (xs ys all : List A) → IsPrefix xs all → IsPrefix ys all → length xs ≡ length ys → xs ≡ ys
same_front xs ys all p q e =
    let front = shorter xs ys all p q (let l : length xs ≤ length ys = omega arith in l) in
    let long = sym (ap length front.1) ∙ length-append xs front.0 in
    let none : front.0 ≡ [] = nil_from_length front.0 (omega arith) in
    sym (append-nil xs) ∙ ap (λ l. xs ++ l) (sym none) ∙ front.1

-- ---- what the history of a battle's place tells

-- a Begin that opens the battle of the place is in it, so there is a room
battle_told : (site : Site) (cmds : List RoomCmd) (start : Start) (told : Option Story) → Opens site start → Contains cmds (Begin start) → BattleTells site cmds told → (s : Story) × (told ≡ Some s)
battle_told site [] start told opens c t = contains_none (Begin start) c
battle_told site (Play e ∷ cmds) start told opens c t = ⊎_elim
    (λ (is : Play e ≡ Begin start). absurd (cc))
    (λ (later : Contains cmds (Begin start)). battle_told site cmds start told opens later t)
    (contains_cases (Play e) cmds (Begin start) c)
battle_told site (Begin other ∷ cmds) start told opens c (inl t) = (story (battle_at site other) (plays cmds), t.1)
battle_told site (Begin other ∷ cmds) start told opens c (inr t) = ⊎_elim
    (λ (is : Begin other ≡ Begin start). absurd (t.0 (subst (Opens site) (begin_start (sym is)) opens)))
    (λ (later : Contains cmds (Begin start)). battle_told site cmds start told opens later t.1)
    (contains_cases (Begin other) cmds (Begin start) c)
  where
    start_or : Start → RoomCmd → Start
    start_or s (Begin x) = x
    start_or s (Play e) = s

    begin_start : Begin start ≡ Begin other → start ≡ other
    begin_start is = ap (start_or start) is

told_by : (chat : Option Opening) (site : Site) (cmds : List RoomCmd) (start : Start) (told : Option Story) → Opens site start → Contains cmds (Begin start) → TellsBy chat site cmds told → (s : Story) × (told ≡ Some s)
told_by (Some o) site cmds start told opens c t = (story o (plays cmds), t)
told_by None site cmds start told opens c t = battle_told site cmds start told opens c t

-- and later it is the same room's
told_before : (site : Site) (cmds later : List RoomCmd) (start : Start) (told : Option Story) (room : Opening) (history : List Entry) → Opens site start → Contains cmds (Begin start) → Tells site cmds told → Tells site (cmds ++ later) (Some (story room history)) → id_told told ≡ Some room.id
told_before site cmds later start told room history opens c t all =
    let s = told_by (chat_at site) site cmds start told opens c t in
    let further : Tells site (cmds ++ later) (Some (story s.0.opening (s.0.history ++ plays later))) = tells_more site cmds later s.0 (subst (Tells site cmds) s.1 t) in
    let same : Some (story s.0.opening (s.0.history ++ plays later)) ≡ Some (story room history) = one_story site (cmds ++ later) (Some (story s.0.opening (s.0.history ++ plays later))) (Some (story room history)) further all in
    ap id_told s.1 ∙ ap id_told same

-- ---- a battle that the session began

-- its number and that it can start
pub record MayBegin (hub : Hub) (start : Start) : Type 0 where
  pub above : 1 ≤ start.number
  pub below : start.number ≤ 65536
  pub fit : IsFit start hub.config hub.dex

some_holds : (P : Start → Type 0) (o : Option Start) (start : Start) → Some start ≡ o → IfSome o P → P start
some_holds P o start e p = (let r : IfSome (Some start) P = subst (λ (x : Option Start). IfSome x P) (sym e) p in r)

gave_begin : (hub : Hub) (conn : ℕ) (done : List Act) (moment : ℕ) (cmd : HallCmd) (badge : Option Badge) (start : Start) (h : HallPass) → HallGave hub conn done moment cmd badge (Some start) h → MayBegin hub start
gave_begin hub conn done moment cmd badge start h g = record {
  above = some_holds (λ (s : Start). 1 ≤ s.number) g.out.start start g.start_is g.answer.above;
  below = some_holds (λ (s : Start). s.number ≤ 65536) g.out.start start g.start_is g.answer.below;
  fit = some_holds (λ (s : Start). IsFit s hub.config hub.dex) g.out.start start g.start_is g.answer.fit;
}

act_may : (hub : Hub) (conn : ℕ) (done : List Act) (a : Act) (h : HallPass) (rooms : List RoomPass) (start : Start) → Gave hub conn done a h rooms → Contains (begun_by a) start → MayBegin hub start
act_may hub conn done quiet h rooms start g c = contains_none start c
act_may hub conn done (heard bytes moment (in_hall cmd badge None)) h rooms start g c = contains_none start c
act_may hub conn done (heard bytes moment (in_hall cmd badge (Some s))) h rooms start g c = subst (MayBegin hub) (only_one s start c) (gave_begin hub conn done moment cmd badge s h g)
act_may hub conn done (heard bytes moment (in_room number id cmd badge ended)) h rooms start g c = contains_none start c
act_may hub conn done (heard bytes moment (nowhere asked id cmd)) h rooms start g c = contains_none start c

may_begin : (hub : Hub) (conn : ℕ) (done acts : List Act) (h : HallPass) (rooms : List RoomPass) (start : Start) → AreGiven hub conn done acts h rooms → Contains (all_begun acts) start → MayBegin hub start
may_begin hub conn done [] h rooms start g c = contains_none start c
may_begin hub conn done (a ∷ acts) h rooms start g c = ⊎_elim
    (λ (here : Contains (begun_by a) start). act_may hub conn done a h rooms start g.0 here)
    (λ (later : Contains (all_begun acts) start). may_begin hub conn (done ++ a ∷ []) acts h rooms start g.1 later)
    (Contains-append_cases (begun_by a) (all_begun acts) start c)

module _ (hub : Hub) (conn : ℕ) (h : HallPass) (rooms : List RoomPass) (are : All (IsRoomPass hub conn) rooms) (named : All (λ (k : RoomPass). IfSome k.id (λ id. Names hub.config id k.number)) rooms) (apart : AreApart rooms) where
  -- the entries of these acts are there
  abbrev pub AreMade : List Act → Type 0
  AreMade done = All (λ (k : RoomPass). IsPrefix (room_cmds conn k.number done) (commands k.pass.1.mine)) rooms

  -- the Begin stands in what a turn found that had the entries of the acts before
  begin_before : (done : List Act) (k : RoomPass) (start : Start) (before : List (Made RoomCmd)) → Contains rooms k → AreMade done → Contains (begins k.number done) start → IsPrefix before k.pass.1.seen → length (entries_of k.pass.1.number before) ≡ length (room_cmds conn k.number done) → Contains (commands before) (Begin start)
  begin_before done k start before ck made c there own =
      let by = k.pass.1.number in
      let rest = All-contains (IsRoomPass hub conn) rooms k are ck in
      let front : IsPrefix (entries_of by before) k.pass.1.mine = (entries_of by there.0, sym (entries_of-append by before there.0) ∙ ap (entries_of by) there.1 ∙ sym rest.place.rest.2) in
      let cmds : IsPrefix (commands (entries_of by before)) (commands k.pass.1.mine) = prefix_commands (entries_of by before) k.pass.1.mine front in
      let early = All-contains (λ (x : RoomPass). IsPrefix (room_cmds conn x.number done) (commands x.pass.1.mine)) rooms k made ck in
      let same : commands (entries_of by before) ≡ room_cmds conn k.number done = same_front (commands (entries_of by before)) (room_cmds conn k.number done) (commands k.pass.1.mine) cmds early (length-map (entries_of by before) (λ (e : Made RoomCmd). e.cmd) ∙ own) in
      own_in by before (Begin start) (subst (λ (l : List RoomCmd). Contains l (Begin start)) (sym same) (begin_in (room_cmds conn k.number done) start (subst (λ (l : List Start). Contains l start) (sym (starts_are conn k.number done)) c)))

  not_own_of : (done : List Act) (asked : Option ℕ) (id : List ℕ) → AreGiven hub conn [] done h rooms → AreMade done → IsNowhere hub conn done asked id rooms → (k : RoomPass) → Contains rooms k → (start : Start) (history : List Entry) → Contains (begins k.number done) start
      → Tells (site_of hub k.number) (commands k.pass.1.seen) (Some (story (battle_at (site_of hub k.number) start) history)) → (battle_at (site_of hub k.number) start).id ≢ id
  not_own_of done asked id given made n k ck start history c tells same = by_answer asked n
    where
      begun_here : Contains (all_begun done) start × (k.number ≡ 15 + start.number)
      begun_here = All-contains (λ (s : Start). Contains (all_begun done) s × (k.number ≡ 15 + s.number)) (begins k.number done) start (own_starts k.number done) c

      may : MayBegin hub start
      may = may_begin hub conn [] done h rooms start given begun_here.0

      opens : Opens (site_of hub k.number) start
      opens = record { number = sym begun_here.1; above = may.above; below = may.below; fit = may.fit }

      battle : IsBattleId id start.number
      battle = (start.format, sym same, may.above, may.below)

      -- the place that the id names is the battle's
      here_by : IsNoChat hub.config id → (number : ℕ) → Names hub.config id number → number ≡ k.number
      here_by none number named_number = one_place hub.config id number k.number named_number (names_battle hub.config id start.number k.number battle begun_here.1 none)

      by_answer : (asked : Option ℕ) → IsNowhere hub conn done asked id rooms → ⊥
      by_answer None n = ⊎_elim
          (λ (none : NamesNone hub id). none.1 start.number battle)
          (λ (o : (j : RoomPass) × Contains rooms j × IsOthers hub done id j).
          let is : o.0 ≡ k = one_pass rooms o.0 k apart o.1 ck (here_by (battle_no_chat hub.config id o.0.number o.2.named o.2.battle) o.0.number o.2.named) in
          let held : k.id ≡ Some o.2.other = ap (λ (x : RoomPass). x.id) (sym is) ∙ o.2.held in
          let by : HeldBy (Some o.2.other) hub k = subst (λ (i : Option (List ℕ)). HeldBy i hub k) held (All-contains (IsRoomPass hub conn) rooms k are ck).held in
          let one : by.0 ≡ Some (story (battle_at (site_of hub k.number) start) history) = one_story (site_of hub k.number) (commands k.pass.1.seen) by.0 (Some (story (battle_at (site_of hub k.number) start) history)) by.1 tells in
          o.2.differs (same_Some o.2.other id (sym by.2 ∙ ap id_told one ∙ ap (λ (x : List ℕ). Some x) same)))
          n
      by_answer (Some number) n =
          let j = n.0 in
          let u = n.2 in
          let is : j ≡ k = one_pass rooms j k apart n.1 ck (u.place ∙ here_by (battle_no_chat hub.config id number u.named u.battle) number u.named) in
          let at : number ≡ k.number = sym u.place ∙ ap (λ (x : RoomPass). x.number) is in
          let there : IsPrefix u.before k.pass.1.seen = subst (λ (x : RoomPass). IsPrefix u.before x.pass.1.seen) is u.there in
          let own : length (entries_of k.pass.1.number u.before) ≡ length (room_cmds conn k.number done) = ap (λ (x : RoomPass). length (entries_of x.pass.1.number u.before)) (sym is) ∙ u.own ∙ ap (λ (x : ℕ). length (room_cmds conn x done)) at in
          let begin = begin_before done k start u.before ck made c there own in
          let told : Tells (site_of hub k.number) (commands u.before) u.told = subst (λ (x : ℕ). Tells (site_of hub x) (commands u.before) u.told) at u.tells in
          let all : commands u.before ++ commands there.0 ≡ commands k.pass.1.seen = sym (commands-append u.before there.0) ∙ ap (λ (l : List (Made RoomCmd)). commands l) there.1 in
          let later = subst (λ (l : List RoomCmd). Tells (site_of hub k.number) l (Some (story (battle_at (site_of hub k.number) start) history))) (sym all) tells in
          u.lacks (told_before (site_of hub k.number) (commands u.before) (commands there.0) start u.told (battle_at (site_of hub k.number) start) history opens begin told later ∙ ap (λ (x : List ℕ). Some x) same)

  rightly_of : (done : List Act) (asked : Option ℕ) (id : List ℕ) → AreGiven hub conn [] done h rooms → AreMade done → IsNowhere hub conn done asked id rooms → IsRightlyNowhere hub done id rooms
  rightly_of done asked id given made n = record {
    no_chat = no_chat_of hub conn done asked id rooms n;
    not_held = λ i d lt. not_held_of hub rooms named apart conn done asked id n (get_or rooms i d) (Contains-get_or rooms i d lt);
    not_own = λ i d lt. not_own_of done asked id given made n (get_or rooms i d) (Contains-get_or rooms i d lt);
  }

  act_rightly : (done : List Act) (a : Act) → AreGiven hub conn [] done h rooms → AreMade done → Gave hub conn done a h rooms → IsRightly hub done a rooms
  act_rightly done quiet given made g = tt
  act_rightly done (heard bytes moment (in_hall cmd badge start)) given made g = tt
  act_rightly done (heard bytes moment (in_room number id cmd badge ended)) given made g = tt
  act_rightly done (heard bytes moment (nowhere asked id cmd)) given made g = rightly_of done asked id given made g

  -- the entries of all acts before one of these are there
  abbrev pub AreMadeTo : List Act → List Act → Type 0
  AreMadeTo done acts = (front : List Act) (a : Act) (rest : List Act) → acts ≡ front ++ a ∷ rest → AreMade (done ++ front)

  given_rightly : (done acts : List Act) → AreGiven hub conn [] done h rooms → AreGiven hub conn done acts h rooms → AreMadeTo done acts → AreRightly hub done acts rooms
  given_rightly done [] before g made = tt
  given_rightly done (a ∷ rest) before g made = (
    act_rightly done a before (subst AreMade (append-nil done) (made [] a rest refl)) g.0,
    given_rightly (done ++ a ∷ []) rest (given_more hub conn [] done a h rooms before g.0) g.1 (λ front b more e. subst AreMade (sym (append_assoc done (a ∷ []) front)) (made (a ∷ front) b more (ap (λ (l : List Act). a ∷ l) e))),
  )

  nothing_rightly : (done : List Act) (a : Act) → SaysNothing a rooms → IsRightly hub done a rooms
  nothing_rightly done quiet n = tt
  nothing_rightly done (heard bytes moment (in_hall cmd badge start)) n = tt
  nothing_rightly done (heard bytes moment (in_room number id cmd badge ended)) n = tt
  nothing_rightly done (heard bytes moment (nowhere asked id cmd)) n = absurd n

  rightly_more : (done acts : List Act) (a : Act) → AreRightly hub done acts rooms → IsRightly hub (done ++ acts) a rooms → AreRightly hub done (acts ++ a ∷ []) rooms
  rightly_more done [] a are_rightly is = (subst (λ (l : List Act). IsRightly hub l a rooms) (append-nil done) is, tt)
  rightly_more done (x ∷ acts) a are_rightly is = (are_rightly.0, rightly_more (done ++ x ∷ []) acts a are_rightly.1 (subst (λ (l : List Act). IsRightly hub l a rooms) (sym (append_assoc done (x ∷ []) acts)) is))

  last_rightly : (sure last : List Act) → AreGiven hub conn [] sure h rooms → LastGave hub conn sure last h rooms → AreMadeTo [] (sure ++ last) → AreRightly hub [] (sure ++ last) rooms
  last_rightly sure [] g l made = subst (λ (acts : List Act). AreRightly hub [] acts rooms) (sym (append-nil sure)) (given_rightly [] sure tt g (subst (AreMadeTo []) (append-nil sure) made))
  last_rightly sure (a ∷ rest) g l made =
      let only : sure ++ a ∷ rest ≡ sure ++ a ∷ [] = ap (λ (r : List Act). sure ++ a ∷ r) l.1 in
      let made_only : AreMadeTo [] (sure ++ a ∷ []) = subst (AreMadeTo []) only made in
      subst (λ (acts : List Act). AreRightly hub [] acts rooms) (sym only) (⊎_elim
      (λ (gave : Gave hub conn sure a h rooms). given_rightly [] (sure ++ a ∷ []) tt (given_more hub conn [] sure a h rooms g gave) made_only)
      (λ (n : SaysNothing a rooms). rightly_more [] sure a (given_rightly [] sure tt g (λ front b more e. made_only front b (more ++ a ∷ []) (ap (λ (x : List Act). x ++ a ∷ []) e ∙ append_assoc front (b ∷ more) (a ∷ [])))) (nothing_rightly sure a n))
      l.0)

  pub answers_rightly : (s : Bool) (t : Account) → AreAnswers s hub conn t rooms h → AreMadeTo [] t.acts → AreRightly hub [] t.acts rooms
  answers_rightly false t g made = given_rightly [] t.acts tt g made
  answers_rightly true t g made = subst (λ (acts : List Act). AreRightly hub [] acts rooms) (sym g.1.1) (last_rightly g.0 g.1.0 g.1.2 g.1.3 (subst (AreMadeTo []) g.1.1 made))

-- what stands before an act is among those that are sure
pub before_sure : (s : Bool) (sure acts front : List Act) (a : Act) (rest : List Act) → AreSure s sure acts → acts ≡ front ++ a ∷ rest → IsPrefix front sure
before_sure true sure acts front a rest are e =
    let few : length are.0 ≤ 1 = are.2 in
    let long = sym (ap length are.1) ∙ ap length e ∙ length-append front (a ∷ rest) in
    let parts = length-append sure are.0 in
    shorter front sure acts (a ∷ rest, sym e) (are.0, sym are.1) (omega arith)
before_sure false sure acts front a rest are e = (a ∷ rest, sym e ∙ sym are)

cmds_front : (conn number : ℕ) (xs ys : List Act) → IsPrefix xs ys → IsPrefix (room_cmds conn number xs) (room_cmds conn number ys)
cmds_front conn number xs ys p = (room_cmds conn number p.0, sym (flat_map-append (room_of conn number) xs p.0) ∙ ap (λ (l : List Act). room_cmds conn number l) p.1)

pub made_before : (s : Bool) (conn : ℕ) (sure acts : List Act) (rooms : List RoomPass) → AreSure s sure acts → All (λ (k : RoomPass). IsPrefix (room_cmds conn k.number sure) (commands k.pass.1.mine)) rooms
    → (front : List Act) (a : Act) (rest : List Act) → acts ≡ front ++ a ∷ rest → All (λ (k : RoomPass). IsPrefix (room_cmds conn k.number front) (commands k.pass.1.mine)) rooms
made_before s conn sure acts rooms are made front a rest e i d lt =
    prefix_trans (room_cmds conn (get_or rooms i d).number front) (room_cmds conn (get_or rooms i d).number sure) (commands (get_or rooms i d).pass.1.mine) (cmds_front conn (get_or rooms i d).number front sure (before_sure s sure acts front a rest are e)) (made i d lt)
