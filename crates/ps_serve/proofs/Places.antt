-- The passes of places while an order is obeyed.
use Rattle.std.proofs.Common.{◌≡◌, ◌≢◌, ◌⊎◌, ℕ, ◌+◌, ◌-◌, ◌≤◌, List, [], ◌∷◌, ◌++◌, length, take, refl, sym, ap, ◌∙◌, subst, inl, inr, ⊎_elim, arith, All, Option, Some, None, true≢false, append-nil}
use Rattle.std.specs.Prelude.{IsSome}
use Rattle.std.proofs.lemmas.List.Elements.{All-weaker}
use Rattle.std.proofs.lemmas.Option.{same_Some, none-some}
use Rattle.ps_room.specs.Openings.{first_battle}
use Rattle.ps_room.specs.Openings.{Opening}
use Rattle.ps_room.specs.Stories.{story, Story}
use Rattle.ps_histlock.specs.Histories.{commands, entries_of}
use Rattle.ps_histlock.specs.Seated.{TableId}
use Rattle.ps_histlock.specs.declared.view.View.{View}
use Rattle.ps_histlock.proofs.Lists.{prefix_length}
use Rattle.server_places.specs.declared.command.RoomCmd.{RoomCmd}
use Rattle.server_places.specs.declared.site.Site.{Site}
use Rattle.server_places.specs.Sites.{chat_at, TellsBy, Tells, view_told}
use Rattle.server_places.specs.Rooms.{Shows}
use Rattle.ps_hub.specs.Hubs.{Hub, site_of}
use Rattle.ps_hub.specs.Names.{Names}
use Rattle.ps_hub.specs.Passes.{RoomPass, IsNewPass}
use Rattle.ps_serve.specs.Acts.{Act, room_cmds, since, asked, begins}
use Rattle.ps_serve.specs.Sendings.{Sending, texts_from, message_texts, AreLooksAnswered}
use Rattle.ps_serve.specs.Sittings.{IsSent, RoomSits, LastLacks, RoomWaits, SitsBy, PlaceSits, IsUntouched, AreApart, IsCaughtUp}
use Rattle.ps_serve.proofs.Prefixes.{prefix_commands, sent_grows, looks_grow}
use Rattle.ps_serve.proofs.PassLists.{Lack, IsBeside, IsKin, new_all, before_is, new_apart, old_lack}
use Rattle.ps_serve.proofs.Actions.{IsQuietAt, cmds_quiet, asked_quiet, begins_quiet, since_away, untouched_on, room_on, since_still}
use Rattle.ps_serve.proofs.Moves.{Moves, IsSameView}

-- ---- nothing is told of no entries

pub shows_nothing : (conn : ℕ) (site : Site) → Shows conn site [] []
shows_nothing conn site = by_chat (chat_at site)
  where
    by_chat : (chat : Option Opening) → (told : Option Story) × TellsBy chat site [] told × ([] ≡ view_told conn told)
    by_chat None = (None, refl, refl)
    by_chat (Some o) = (Some (story o []), refl, refl)

nothing_shown : (conn : ℕ) (site : Site) (view : List (List (List ℕ))) → Shows conn site [] view → view ≡ []
nothing_shown conn site view s = by_chat (chat_at site) s.1
  where
    by_chat : (chat : Option Opening) → TellsBy chat site [] s.0 → view ≡ []
    by_chat None t = s.2 ∙ ap (view_told conn) t
    by_chat (Some o) t = s.2 ∙ ap (view_told conn) t

no_entries : {A : Type 0} (n : ℕ) (xs : List A) → n ≡ 0 → take n xs ≡ []
no_entries n xs e = ap (λ (i : ℕ). take i xs) e

-- where nothing was handed out nothing was sent
pub unsent : (conn : ℕ) (site : Site) (cmds : List RoomCmd) (at : ℕ) (room : Option (List ℕ)) (place : Option ℕ) (ss : List Sending) → at ≡ 0 → IsSent (Shows conn site) cmds at room place ss → texts_from place ss ≡ []
unsent conn site cmds at room place ss none s =
    let shown : Shows conn site [] s.0 = subst (λ (l : List RoomCmd). Shows conn site l s.0) (no_entries at cmds none) s.1 in
    s.2 ∙ ap (message_texts room) (nothing_shown conn site s.0 shown)

pub sent_none : (conn : ℕ) (site : Site) (cmds : List RoomCmd) (at : ℕ) (room : Option (List ℕ)) (place : Option ℕ) (ss : List Sending) → at ≡ 0 → texts_from place ss ≡ [] → IsSent (Shows conn site) cmds at room place ss
sent_none conn site cmds at room place ss none e = ([], subst (λ (l : List RoomCmd). Shows conn site l []) (sym (no_entries at cmds none)) (shows_nothing conn site), e)

-- ---- a pass that moved

-- What the calls of an order leave of the pass of a place, but for its id: the place, how far it was handed out, and what it
-- has seen; and these commands more are its own.
pub record IsMoved (h : RoomPass) (more : List RoomCmd) (k : RoomPass) : Type 0 where
  pub place : k.number ≡ h.number
  pub at : k.at ≡ h.at
  pub moves : Moves h.pass.1 more k.pass.1

pub kin_moved : (h : RoomPass) (more : List RoomCmd) (k : RoomPass) → IsMoved h more k → ((id : List ℕ) → h.id ≡ Some id → k.id ≡ Some id) → IsKin h k
kin_moved h more k m id = record { place = m.place; id = id; number = m.moves.number; seen = m.moves.seen }

lacks_on : (hub : Hub) (h k : RoomPass) → k.number ≡ h.number → commands k.pass.1.seen ≡ commands h.pass.1.seen → (ids : List (List ℕ)) → LastLacks hub h ids → LastLacks hub k ids
lacks_on hub h k place seen [] l = tt
lacks_on hub h k place seen (id ∷ []) l = (l.0, subst (λ (n : ℕ). Tells (site_of hub n) (commands k.pass.1.seen) l.0) (sym place) (subst (λ (cmds : List RoomCmd). Tells (site_of hub h.number) cmds l.0) (sym seen) l.1), l.2)
lacks_on hub h k place seen (id ∷ other ∷ ids) l = lacks_on hub h k place seen (other ∷ ids) l

caught_same : (h k : RoomPass) → k.at ≡ h.at → IsSameView h.pass.1 k.pass.1 → IsCaughtUp h.pass.1 h.at → IsCaughtUp k.pass.1 k.at
caught_same h k at v c = record {
  looks = subst (λ (ns : List ℕ). All (λ (n : ℕ). n ≤ k.at) ns) (sym v.looks) (subst (λ (i : ℕ). All (λ (n : ℕ). n ≤ i) h.pass.1.looks) (sym at) c.looks);
  own = ap (λ (i : ℕ). entries_of k.pass.1.number (take i k.pass.1.seen)) at ∙ ap (λ l. entries_of k.pass.1.number (take h.at l)) v.seen ∙ ap (λ (n : ℕ). entries_of n (take h.at h.pass.1.seen)) v.number ∙ c.own ∙ sym v.mine;
}

module _ (hub : Hub) (conn : ℕ) (ss : List Sending) where
  abbrev pub IsTold : RoomPass → Type 0
  IsTold k = IsSent (Shows conn (site_of hub k.number)) (commands k.pass.1.seen) k.at k.id (Some k.number) ss

  sent_as : (n m : ℕ) (cmds : List RoomCmd) (at now : ℕ) (id room : Option (List ℕ)) → m ≡ n → now ≡ at → room ≡ id → IsSent (Shows conn (site_of hub n)) cmds at id (Some n) ss → IsSent (Shows conn (site_of hub m)) cmds now room (Some m) ss
  sent_as n m cmds at now id room en ea ei s =
      subst (λ (x : ℕ). IsSent (Shows conn (site_of hub x)) cmds now room (Some x) ss) (sym en)
      (subst (λ (x : ℕ). IsSent (Shows conn (site_of hub n)) cmds x room (Some n) ss) (sym ea)
      (subst (λ (x : Option (List ℕ)). IsSent (Shows conn (site_of hub n)) cmds at x (Some n) ss) (sym ei) s))

  -- all but what is told of the pass by its id
  pub told_moved : (h : RoomPass) (more : List RoomCmd) (k : RoomPass) → IsMoved h more k → k.id ≡ h.id → h.at ≤ length (commands h.pass.1.seen) → IsTold h → IsTold k
  told_moved h more k m id within s = sent_as h.number k.number (commands k.pass.1.seen) h.at k.at h.id k.id m.place m.at id
      (sent_grows (Shows conn (site_of hub h.number)) (commands h.pass.1.seen) (commands k.pass.1.seen) h.at h.id (Some h.number) ss within (prefix_commands h.pass.1.seen k.pass.1.seen m.moves.seen) s)

  pub within_moved : (h : RoomPass) (more : List RoomCmd) (k : RoomPass) → IsMoved h more k → h.at ≤ length (commands h.pass.1.seen) → k.at ≤ length (commands k.pass.1.seen)
  within_moved h more k m within =
      let longer : length (commands h.pass.1.seen) ≤ length (commands k.pass.1.seen) = prefix_length _ _ (prefix_commands h.pass.1.seen k.pass.1.seen m.moves.seen) in
      let same : k.at ≡ h.at = m.at in
      omega arith

  pub sits_moved : (acts : List Act) (looked : ℕ) (id : List ℕ) (h : RoomPass) (more : List RoomCmd) (k : RoomPass) → IsMoved h more k → RoomSits hub conn acts looked ss id h → RoomSits hub conn acts looked ss id k
  sits_moved acts looked id h more k m s =
      let count : length h.pass.1.looks + (length acts - looked) ≡ length (since h.number acts) = s.count in
      let looks : length k.pass.1.looks ≡ length h.pass.1.looks = ap length m.moves.looks in
      let joined : length (since k.number acts) ≡ length (since h.number acts) = ap (λ (n : ℕ). length (since n acts)) m.place in
      let grown : AreLooksAnswered (Shows conn (site_of hub h.number)) (commands k.pass.1.seen) (Some id) (Some h.number) ss (length acts - length (since h.number acts) + 1) h.pass.1.looks =
      looks_grow (Shows conn (site_of hub h.number)) (commands h.pass.1.seen) (commands k.pass.1.seen) (Some id) (Some h.number) ss (length acts - length (since h.number acts) + 1) h.pass.1.looks (prefix_commands h.pass.1.seen k.pass.1.seen m.moves.seen) s.looks in
      let placed : AreLooksAnswered (Shows conn (site_of hub k.number)) (commands k.pass.1.seen) (Some id) (Some k.number) ss (length acts - length (since k.number acts) + 1) h.pass.1.looks =
      subst (λ (n : ℕ). AreLooksAnswered (Shows conn (site_of hub n)) (commands k.pass.1.seen) (Some id) (Some n) ss (length acts - length (since n acts) + 1) h.pass.1.looks) (sym m.place) grown in
      record {
        count = omega arith;
        looks = subst (λ (l : List ℕ). AreLooksAnswered (Shows conn (site_of hub k.number)) (commands k.pass.1.seen) (Some id) (Some k.number) ss (length acts - length (since k.number acts) + 1) l) (sym m.moves.looks) placed;
        named = subst (λ (n : ℕ). Names hub.config id n) (sym m.place) s.named;
      }

  -- ---- one place

  -- a place that isn't held, of a chat room or of a battle
  pub record IsWaiting (acts : List Act) (k : RoomPass) : Type 0 where
    pub turns : k.pass.1.turns ≡ length (asked k.number acts) + length (begins k.number acts)
    pub lacks : begins k.number acts ≡ [] → LastLacks hub k (asked k.number acts)
    pub looks : k.pass.1.looks ≡ []
    pub joined : since k.number acts ≡ []
    pub at : k.at ≡ 0

  -- a room has an entry, and all was handed out if it was before; or it is held for the order that is at work
  abbrev pub IsJoined : List Act → Option (List ℕ) → Type 0 → List ℕ → RoomPass → Type 0
  IsJoined acts who up id k = ((since k.number acts ≢ []) × (up → IsCaughtUp k.pass.1 k.at)) ⊎ ((who ≡ Some id) × (since k.number acts ≡ []))

  -- A place between two tries of an order to the room `who`.
  pub record IsPlace (acts : List Act) (who : Option (List ℕ)) (up : Type 0) (k : RoomPass) : Type 0 where
    pub entries : commands k.pass.1.mine ≡ room_cmds conn k.number acts
    pub told : IsTold k
    pub within : k.at ≤ length (commands k.pass.1.seen)
    pub waiting : k.id ≡ None → IsWaiting acts k
    pub holding : (id : List ℕ) → k.id ≡ Some id → RoomSits hub conn acts (length acts) ss id k × IsJoined acts who up id k

  abbrev pub IsBattle : RoomPass → Type 0
  IsBattle k = k.id ≡ None → first_battle ≤ k.number

  -- a pass that was made just now
  pub new_place : (acts : List Act) (who : Option (List ℕ)) (up : Type 0) (h : RoomPass) → IsNewPass hub conn h.number h → IsUntouched conn h.number acts ss → IsPlace acts who up h
  new_place acts who up h n u =
      let asks : length (asked h.number acts) ≡ 0 = ap length u.not_asked in
      let starts : length (begins h.number acts) ≡ 0 = ap length u.not_begun in
      let turns : h.pass.1.turns ≡ 0 = ap (λ (q : TableId × View Site RoomCmd). q.1.turns) n.pass.3 in
      let bare : h.at ≡ 0 = n.at in
      record {
        entries = ap (λ (q : TableId × View Site RoomCmd). commands q.1.mine) n.pass.3 ∙ sym u.no_cmds;
        told = sent_none conn (site_of hub h.number) (commands h.pass.1.seen) h.at h.id (Some h.number) ss n.at u.not_sent;
        within = omega arith;
        waiting = λ e. record {
          turns = omega arith;
          lacks = λ none. subst (LastLacks hub h) (sym u.not_asked) tt;
          looks = ap (λ (q : TableId × View Site RoomCmd). q.1.looks) n.pass.3;
          joined = u.not_joined;
          at = n.at;
        };
        holding = λ id e. absurd (none-some id (sym n.id ∙ e));
      }

  pub place_of : (acts : List Act) (who : Option (List ℕ)) (up : Type 0) (k : RoomPass) → PlaceSits hub conn acts (length acts) ss k → k.at ≤ length (commands k.pass.1.seen) → (IsSome k.id → since k.number acts ≢ []) → (up → IsSome k.id → IsCaughtUp k.pass.1 k.at) → IsPlace acts who up k × IsBattle k
  place_of acts who up k s within joined all =
      let waits : k.id ≡ None → RoomWaits hub acts k = (λ e. subst (λ (o : Option (List ℕ)). SitsBy o hub conn acts (length acts) ss k) e s.2) in (
        record {
          entries = s.0;
          told = s.1;
          within = within;
          waiting = λ e. (let w = waits e in record { turns = w.turns; lacks = w.lacks; looks = w.looks; joined = w.joined; at = w.at });
          holding = λ id e. (
            subst (λ (o : Option (List ℕ)). SitsBy o hub conn acts (length acts) ss k) e s.2,
            inl (joined (subst IsSome (sym e) refl), λ u. all u (subst IsSome (sym e) refl)),
          );
        },
        λ e. (waits e).battle,
      )

  -- ---- a try in vain

  -- the pass met a word
  pub place_same : (acts : List Act) (who : Option (List ℕ)) (up : Type 0) (h k : RoomPass) → k.number ≡ h.number → k.at ≡ h.at → k.id ≡ h.id → IsSameView h.pass.1 k.pass.1 → IsMoved h [] k → IsPlace acts who up h → IsPlace acts who up k
  place_same acts who up h k place at id v m p = record {
    entries = ap (λ l. commands l) v.mine ∙ p.entries ∙ ap (λ (n : ℕ). room_cmds conn n acts) (sym place);
    told = told_moved h [] k m id p.within p.told;
    within = within_moved h [] k m p.within;
    waiting = λ e. (
        let w = p.waiting (sym id ∙ e) in
        let asks : length (asked k.number acts) ≡ length (asked h.number acts) = ap (λ (n : ℕ). length (asked n acts)) place in
        let starts : length (begins k.number acts) ≡ length (begins h.number acts) = ap (λ (n : ℕ). length (begins n acts)) place in
        let turns : h.pass.1.turns ≡ length (asked h.number acts) + length (begins h.number acts) = w.turns in
        let still : k.pass.1.turns ≡ h.pass.1.turns = v.turns in
        record {
          turns = omega arith;
          lacks = λ none. subst (λ (n : ℕ). LastLacks hub k (asked n acts)) (sym place) (lacks_on hub h k place (ap (λ l. commands l) v.seen) (asked h.number acts) (w.lacks (ap (λ (n : ℕ). begins n acts) (sym place) ∙ none)));
          looks = v.looks ∙ w.looks;
          joined = ap (λ (n : ℕ). since n acts) place ∙ w.joined;
          at = at ∙ w.at;
        }
        );
    holding = λ other e. (
        let s = p.holding other (sym id ∙ e) in (
          sits_moved acts (length acts) other h [] k m s.0,
          ⊎_elim
              (λ (j : (since h.number acts ≢ []) × (up → IsCaughtUp h.pass.1 h.at)). inl (λ none. j.0 (ap (λ (n : ℕ). since n acts) (sym place) ∙ none), λ u. caught_same h k at v (j.1 u)))
              (λ (j : (who ≡ Some other) × (since h.number acts ≡ [])). inr (j.0, ap (λ (n : ℕ). since n acts) place ∙ j.1))
              s.1,
        )
        );
  }

  -- the place is held from now on
  pub place_held : (acts : List Act) (up : Type 0) (id : List ℕ) (h k : RoomPass) → h.id ≡ None → k.id ≡ Some id → Names hub.config id k.number → IsMoved h [] k → IsPlace acts (Some id) up h → IsPlace acts (Some id) up k
  place_held acts up id h k was is named m p =
      let w = p.waiting was in
      let none : since k.number acts ≡ [] = ap (λ (n : ℕ). since n acts) m.place ∙ w.joined in
      let zero : length (since k.number acts) ≡ 0 = ap length none in
      let bare : k.pass.1.looks ≡ [] = m.moves.looks ∙ w.looks in
      let empty : length k.pass.1.looks ≡ 0 = ap length bare in
      let at : k.at ≡ 0 = m.at ∙ w.at in
      let texts : texts_from (Some k.number) ss ≡ [] = ap (λ (n : ℕ). texts_from (Some n) ss) m.place ∙ unsent conn (site_of hub h.number) (commands h.pass.1.seen) h.at h.id (Some h.number) ss w.at p.told in
      record {
        entries = m.moves.mine ∙ append-nil (commands h.pass.1.mine) ∙ p.entries ∙ ap (λ (n : ℕ). room_cmds conn n acts) (sym m.place);
        told = sent_none conn (site_of hub k.number) (commands k.pass.1.seen) k.at k.id (Some k.number) ss at texts;
        within = within_moved h [] k m p.within;
        waiting = λ e. absurd (none-some id (sym e ∙ is));
        holding = λ other e. (
            let same : other ≡ id = same_Some other id (sym e ∙ is) in (
              record {
                count = omega arith;
                looks = subst (λ (l : List ℕ). AreLooksAnswered (Shows conn (site_of hub k.number)) (commands k.pass.1.seen) (Some other) (Some k.number) ss (length acts - length (since k.number acts) + 1) l) (sym bare) tt;
                named = subst (λ (o : List ℕ). Names hub.config o k.number) (sym same) named;
              },
              inr (ap (λ (o : List ℕ). Some o) (sym same), none),
            )
            );
      }

  -- ---- one act more

  -- a place that the act leaves alone
  pub place_on : (acts : List Act) (who : Option (List ℕ)) (up : Type 0) (a : Act) (k : RoomPass) → IsQuietAt conn k.number a → ((id : List ℕ) → k.id ≡ Some id → who ≡ Some id → Names hub.config id k.number → ⊥) → IsPlace acts who up k × IsBattle k
      → PlaceSits hub conn (acts ++ a ∷ []) (length acts) ss k × (IsSome k.id → since k.number (acts ++ a ∷ []) ≢ [])
  place_on acts who up a k q not p =
      let both = by_id k.id refl in
      ((p.0.entries ∙ sym (cmds_quiet conn k.number acts a q), p.0.told, both.0), both.1)
    where
      by_id : (o : Option (List ℕ)) → k.id ≡ o → SitsBy o hub conn (acts ++ a ∷ []) (length acts) ss k × (IsSome o → since k.number (acts ++ a ∷ []) ≢ [])
      by_id None e =
          let w = p.0.waiting e in
          let asks : length (asked k.number (acts ++ a ∷ [])) ≡ length (asked k.number acts) = ap length (asked_quiet conn k.number acts a q) in
          let starts : length (begins k.number (acts ++ a ∷ [])) ≡ length (begins k.number acts) = ap length (begins_quiet conn k.number acts a q) in
          let turns : k.pass.1.turns ≡ length (asked k.number acts) + length (begins k.number acts) = w.turns in
          let r : RoomWaits hub (acts ++ a ∷ []) k = record {
            battle = p.1 e;
            turns = omega arith;
            lacks = λ none. subst (LastLacks hub k) (sym (asked_quiet conn k.number acts a q)) (w.lacks (sym (begins_quiet conn k.number acts a q) ∙ none));
            looks = w.looks;
            joined = since_away k.number acts a q.away w.joined;
            at = w.at;
          } in
          (r, λ none. absurd (true≢false (sym none)))
      by_id (Some id) e =
          let s = p.0.holding id e in
          let joined : since k.number acts ≢ [] = ⊎_elim
          (λ (j : (since k.number acts ≢ []) × (up → IsCaughtUp k.pass.1 k.at)). j.0)
          (λ (j : (who ≡ Some id) × (since k.number acts ≡ [])). absurd (not id e j.0 s.0.named))
          s.1 in
          (room_on hub conn acts a ss id k joined s.0, λ some. since_still k.number acts a joined)

  -- ---- all places

  pub record Amid (acts : List Act) (who : Option (List ℕ)) (up : Type 0) (rooms : List RoomPass) : Type 0 where
    pub places : All (λ (k : RoomPass). IsPlace acts who up k × IsBattle k) rooms
    pub apart : AreApart rooms
    pub others : (number : ℕ) → Lack number rooms → IsUntouched conn number acts ss

  -- the pass of a place before a call, which may have been made by it
  pub place_before : (acts : List Act) (who : Option (List ℕ)) (up : Type 0) (old : List RoomPass) (h k : RoomPass) (new : List RoomPass) → IsBeside hub conn old h k new → Amid acts who up old → IsPlace acts who up h
  place_before acts who up old h k new b m = before_is hub conn old h k new b (IsPlace acts who up) (All-weaker (λ (o : RoomPass). IsPlace acts who up o × IsBattle o) (IsPlace acts who up) (λ o p. p.0) old m.places) (λ n lack. new_place acts who up h n (m.others h.number lack))

  pub amid_step : (acts : List Act) (who : Option (List ℕ)) (up : Type 0) (old : List RoomPass) (h k : RoomPass) (new : List RoomPass) → IsBeside hub conn old h k new → Amid acts who up old → IsPlace acts who up k × IsBattle k → Amid acts who up new
  amid_step acts who up old h k new b m p = record {
    places = new_all hub conn old h k new b (λ (o : RoomPass). IsPlace acts who up o × IsBattle o) (λ (o : RoomPass). IsPlace acts who up o × IsBattle o) m.places (λ o ne q. q) p;
    apart = new_apart hub conn old h k new b;
    others = λ number lack. m.others number (old_lack hub conn old h k new b number lack).0;
  }

  abbrev pub HasPlace : List Act → ℕ → RoomPass → Type 0
  HasPlace acts looked k = PlaceSits hub conn acts looked ss k × (IsSome k.id → since k.number acts ≢ [])

  pub record AreSitting (acts : List Act) (looked : ℕ) (rooms : List RoomPass) : Type 0 where
    pub places : All (HasPlace acts looked) rooms
    pub apart : AreApart rooms
    pub others : (number : ℕ) → Lack number rooms → IsUntouched conn number acts ss

  -- an act at one place
  pub sitting_at : (acts : List Act) (who : Option (List ℕ)) (up : Type 0) (a : Act) (old : List RoomPass) (h k : RoomPass) (new : List RoomPass) → IsBeside hub conn old h k new → Amid acts who up old
      → ((number : ℕ) → number ≢ h.number → IsQuietAt conn number a)
      → ((o : RoomPass) → o.number ≢ h.number → (id : List ℕ) → o.id ≡ Some id → who ≡ Some id → Names hub.config id o.number → ⊥)
      → HasPlace (acts ++ a ∷ []) (length acts) k → AreSitting (acts ++ a ∷ []) (length acts) new
  sitting_at acts who up a old h k new b m quiet not p = record {
    places = new_all hub conn old h k new b (λ (o : RoomPass). IsPlace acts who up o × IsBattle o) (HasPlace (acts ++ a ∷ []) (length acts)) m.places (λ o ne q. place_on acts who up a o (quiet o.number ne) (not o ne) q) p;
    apart = new_apart hub conn old h k new b;
    others = λ number lack. (let l = old_lack hub conn old h k new b number lack in untouched_on conn number acts a ss (quiet number (λ e. l.1 (sym e))) (m.others number l.0));
  }

  -- an act that leaves all places alone
  pub sitting_on : (acts : List Act) (who : Option (List ℕ)) (up : Type 0) (a : Act) (rooms : List RoomPass) → Amid acts who up rooms → ((number : ℕ) → IsQuietAt conn number a)
      → ((o : RoomPass) (id : List ℕ) → o.id ≡ Some id → who ≡ Some id → Names hub.config id o.number → ⊥) → AreSitting (acts ++ a ∷ []) (length acts) rooms
  sitting_on acts who up a rooms m quiet not = record {
    places = All-weaker (λ (o : RoomPass). IsPlace acts who up o × IsBattle o) (HasPlace (acts ++ a ∷ []) (length acts)) (λ o p. place_on acts who up a o (quiet o.number) (not o) p) rooms m.places;
    apart = m.apart;
    others = λ number lack. untouched_on conn number acts a ss (quiet number) (m.others number lack);
  }
