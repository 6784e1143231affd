-- What the last steps of an order leave of a place.
use Rattle.std.proofs.Common.{◌≡◌, ◌≢◌, ℕ, ◌+◌, ◌-◌, ◌≤◌, true, false, List, [], ◌∷◌, ◌++◌, length, refl, sym, ap, ◌∙◌, subst, ⊎_elim, arith, Option, Some, None, is_some, true≢false, append-nil, length-append}
use Rattle.std.specs.Prelude.{IsSome}
use Rattle.std.proofs.lemmas.Option.{none-some}
use mathlib.Core.List.{IsPrefix}
use Rattle.ps_base.specs.declared.badge.Badge.{Badge}
use Rattle.ps_room.specs.Openings.{first_battle}
use Rattle.ps_lines.specs.declared.command.Command.{Command}
use Rattle.ps_lines.specs.declared.command.HallCmd.{HallCmd}
use Rattle.rules_start.specs.declared.start.Start.{Start}
use Rattle.ps_room.specs.declared.outcome.Ending.{Ending}
use Rattle.ps_histlock.specs.Histories.{commands}
use Rattle.server_places.specs.declared.command.RoomCmd.{RoomCmd}
use Rattle.server_places.specs.declared.command.RoomCmd.TheVariants.{Begin, Play}
use Rattle.server_places.specs.Rooms.{Shows}
use Rattle.ps_hub.specs.Hubs.{Hub, site_of}
use Rattle.ps_hub.specs.Names.{Names}
use Rattle.ps_hub.specs.Calls.{Lacks, room_entry}
use Rattle.ps_hub.specs.Passes.{RoomPass}
use Rattle.ps_serve.specs.Acts.{Act, heard, in_hall, in_room, nowhere, is_at, room_of, room_cmds, since, asked, begins, begins_by}
use Rattle.ps_serve.specs.Sendings.{Sending}
use Rattle.ps_serve.specs.Sittings.{RoomSits, RoomWaits, SitsBy, LastLacks, LooksLeft, AreAlmostAnswered, PlaceLeft, PlaceFull, HeldFull, IsCaughtUp}
use Rattle.ps_serve.proofs.Prefixes.{prefix_front, prefix_same}
use Rattle.ps_serve.proofs.Actions.{cmds_more, asked_more, begins_more, since_away, since_still, since_here, room_on, room_joins, cmds_here, joins_here, starts_here, asks_here}
use Rattle.ps_serve.proofs.Places.{IsMoved, IsTold, told_moved, sits_moved, IsPlace, HasPlace}

not_empty : {A P : Type 0} → (xs : List A) (x : A) → xs ++ x ∷ [] ≡ [] → P
not_empty xs x e = absurd (let l = ap length e in let m = length-append xs (x ∷ []) in omega arith)

module _ (hub : Hub) (conn : ℕ) (ss : List Sending) (acts : List Act) where
  -- ---- a battle begins at a place

  pub place_begins : (up : Type 0) (bytes : List ℕ) (moment : ℕ) (cmd : HallCmd) (badge : Option Badge) (start : Start) (h k : RoomPass) → 1 ≤ start.number → h.number ≡ 15 + start.number → k.id ≡ h.id → IsMoved h (Begin start ∷ []) k → k.pass.1.turns ≡ h.pass.1.turns + 1
      → IsPlace hub conn ss acts None up h → HasPlace hub conn ss (acts ++ heard bytes moment (in_hall cmd badge (Some start)) ∷ []) (length acts) k
  place_begins up bytes moment cmd badge start h k above here id m turn p =
      let b = by_id k.id refl in
      ((m.moves.mine ∙ ap (λ l. l ++ Begin start ∷ []) p.entries ∙ ap (λ (n : ℕ). room_cmds conn n acts ++ Begin start ∷ []) (sym m.place) ∙ ap (λ l. room_cmds conn k.number acts ++ l) (sym given.0) ∙ sym (cmds_more conn k.number acts (heard bytes moment (in_hall cmd badge (Some start)))), told_moved hub conn ss h (Begin start ∷ []) k m id p.within p.told, b.0), b.1)
    where
      given : (room_of conn k.number (heard bytes moment (in_hall cmd badge (Some start))) ≡ Begin start ∷ []) × (begins_by k.number (heard bytes moment (in_hall cmd badge (Some start))) ≡ start ∷ [])
      given = starts_here conn bytes moment cmd badge start k.number (m.place ∙ here)

      more : begins k.number (acts ++ heard bytes moment (in_hall cmd badge (Some start)) ∷ []) ≡ begins k.number acts ++ start ∷ []
      more = begins_more k.number acts (heard bytes moment (in_hall cmd badge (Some start))) ∙ ap (λ l. begins k.number acts ++ l) (starts_here conn bytes moment cmd badge start k.number (m.place ∙ here)).1

      asks : asked k.number (acts ++ heard bytes moment (in_hall cmd badge (Some start)) ∷ []) ≡ asked k.number acts
      asks = asked_more k.number acts (heard bytes moment (in_hall cmd badge (Some start))) ∙ append-nil (asked k.number acts)

      by_id : (o : Option (List ℕ)) → k.id ≡ o → SitsBy o hub conn (acts ++ heard bytes moment (in_hall cmd badge (Some start)) ∷ []) (length acts) ss k × (IsSome o → since k.number (acts ++ heard bytes moment (in_hall cmd badge (Some start)) ∷ []) ≢ [])
      by_id None e =
          let w = p.waiting (sym id ∙ e) in
          let one : length (begins k.number (acts ++ heard bytes moment (in_hall cmd badge (Some start)) ∷ [])) ≡ length (begins k.number acts) + 1 = ap length more ∙ length-append (begins k.number acts) (start ∷ []) in
          let none : length (asked k.number (acts ++ heard bytes moment (in_hall cmd badge (Some start)) ∷ [])) ≡ length (asked k.number acts) = ap length asks in
          let same_asked : length (asked k.number acts) ≡ length (asked h.number acts) = ap (λ (n : ℕ). length (asked n acts)) m.place in
          let same_begins : length (begins k.number acts) ≡ length (begins h.number acts) = ap (λ (n : ℕ). length (begins n acts)) m.place in
          let turns : h.pass.1.turns ≡ length (asked h.number acts) + length (begins h.number acts) = w.turns in
          let number : k.number ≡ 15 + start.number = m.place ∙ here in
          let r : RoomWaits hub (acts ++ heard bytes moment (in_hall cmd badge (Some start)) ∷ []) k = record {
            battle = omega arith;
            turns = omega arith;
            lacks = λ bare. not_empty (begins k.number acts) start (sym more ∙ bare);
            looks = m.moves.looks ∙ w.looks;
            joined = since_away k.number acts (heard bytes moment (in_hall cmd badge (Some start))) refl (ap (λ (n : ℕ). since n acts) m.place ∙ w.joined);
            at = m.at ∙ w.at;
          } in
          (r, λ no_id. absurd (true≢false (sym no_id)))
      by_id (Some other) e =
          let s = p.holding other (sym id ∙ e) in
          let joined : since k.number acts ≢ [] = ⊎_elim
          (λ (j : (since h.number acts ≢ []) × (up → IsCaughtUp h.pass.1 h.at)). (let r : since k.number acts ≢ [] = (λ bare. j.0 (ap (λ (n : ℕ). since n acts) (sym m.place) ∙ bare)) in r))
          (λ (j : (None ≡ Some other) × (since h.number acts ≡ [])). absurd (none-some other j.0))
          s.1 in
          (room_on hub conn acts (heard bytes moment (in_hall cmd badge (Some start))) ss other k joined (sits_moved hub conn ss acts (length acts) other h (Begin start ∷ []) k m s.0), λ some. since_still k.number acts (heard bytes moment (in_hall cmd badge (Some start))) joined)

  -- ---- an entry of a room

  -- a place that is held has this act as its last
  pub held_on : (up : Type 0) (id : List ℕ) (a : Act) (h : RoomPass) (more : List RoomCmd) (k : RoomPass) → h.id ≡ Some id → IsMoved h more k → is_at h.number a ≡ true → IsPlace hub conn ss acts (Some id) up h
      → RoomSits hub conn (acts ++ a ∷ []) (length acts) ss id k × (since k.number (acts ++ a ∷ []) ≢ [])
  held_on up id a h more k is m here p =
      let s = p.holding id is in
      let sits : RoomSits hub conn acts (length acts) ss id k = sits_moved hub conn ss acts (length acts) id h more k m s.0 in
      let at_k : is_at k.number a ≡ true = ap (λ (n : ℕ). is_at n a) m.place ∙ here in
      ⊎_elim
      (λ (j : (since h.number acts ≢ []) × (up → IsCaughtUp h.pass.1 h.at)).
      let joined : since k.number acts ≢ [] = (λ bare. j.0 (ap (λ (n : ℕ). since n acts) (sym m.place) ∙ bare)) in
      let r : RoomSits hub conn (acts ++ a ∷ []) (length acts) ss id k × (since k.number (acts ++ a ∷ []) ≢ []) = (room_on hub conn acts a ss id k joined sits, since_still k.number acts a joined) in
      r)
      (λ (j : (Some id ≡ Some id) × (since h.number acts ≡ [])).
      let none : since k.number acts ≡ [] = ap (λ (n : ℕ). since n acts) m.place ∙ j.1 in
      let r : RoomSits hub conn (acts ++ a ∷ []) (length acts) ss id k × (since k.number (acts ++ a ∷ []) ≢ []) = (room_joins hub conn acts a ss id k none at_k sits, λ bare. not_empty [] a (sym (since_here k.number acts a at_k none) ∙ bare)) in
      r)
      s.1

  pub place_plays : (up : Type 0) (bytes : List ℕ) (moment : ℕ) (id : List ℕ) (cmd : Command) (badge : Badge) (ended : Option Ending) (h k : RoomPass) → h.id ≡ Some id → k.id ≡ Some id → IsMoved h (Play (room_entry conn badge moment cmd) ∷ []) k
      → IsPlace hub conn ss acts (Some id) up h → HasPlace hub conn ss (acts ++ heard bytes moment (in_room h.number id cmd badge ended) ∷ []) (length acts) k
  place_plays up bytes moment id cmd badge ended h k was is m p =
      let s = held_on up id (heard bytes moment (in_room h.number id cmd badge ended)) h (Play (room_entry conn badge moment cmd) ∷ []) k was m (joins_here h.number bytes moment id cmd badge ended) p in (
        (
          m.moves.mine ∙ ap (λ l. l ++ Play (room_entry conn badge moment cmd) ∷ []) p.entries ∙ ap (λ l. room_cmds conn h.number acts ++ l) (sym (cmds_here conn h.number bytes moment id cmd badge ended))
              ∙ sym (cmds_more conn h.number acts (heard bytes moment (in_room h.number id cmd badge ended))) ∙ ap (λ (n : ℕ). room_cmds conn n (acts ++ heard bytes moment (in_room h.number id cmd badge ended) ∷ [])) (sym m.place),
          told_moved hub conn ss h (Play (room_entry conn badge moment cmd) ∷ []) k m (is ∙ sym was) p.within p.told,
          subst (λ (o : Option (List ℕ)). SitsBy o hub conn (acts ++ heard bytes moment (in_room h.number id cmd badge ended) ∷ []) (length acts) ss k) (sym is) s.0,
        ),
        λ some. s.1,
      )

  -- ---- a place that was asked in vain

  last_lacks : (k : RoomPass) (id : List ℕ) (ids : List (List ℕ)) → Lacks hub id k → LastLacks hub k (ids ++ id ∷ [])
  last_lacks k id [] l = l
  last_lacks k id (one ∷ []) l = l
  last_lacks k id (one ∷ two ∷ ids) l = last_lacks k id (two ∷ ids) l

  pub place_asked : (who : Option (List ℕ)) (up : Type 0) (bytes : List ℕ) (moment : ℕ) (id : List ℕ) (cmd : Command) (h k : RoomPass) → first_battle ≤ h.number → h.id ≡ None → k.id ≡ None → IsMoved h [] k → k.pass.1.turns ≡ h.pass.1.turns + 1 → Lacks hub id k
      → IsPlace hub conn ss acts who up h → HasPlace hub conn ss (acts ++ heard bytes moment (nowhere (Some h.number) id cmd) ∷ []) (length acts) k
  place_asked who up bytes moment id cmd h k battle was is m turn lacks p =
      let a : Act = heard bytes moment (nowhere (Some h.number) id cmd) in
      let w = p.waiting was in
      let more : asked h.number (acts ++ heard bytes moment (nowhere (Some h.number) id cmd) ∷ []) ≡ asked h.number acts ++ id ∷ [] = asked_more h.number acts (heard bytes moment (nowhere (Some h.number) id cmd)) ∙ ap (λ l. asked h.number acts ++ l) (asks_here h.number bytes moment id cmd) in
      let one : length (asked h.number (acts ++ heard bytes moment (nowhere (Some h.number) id cmd) ∷ [])) ≡ length (asked h.number acts) + 1 = ap length more ∙ length-append (asked h.number acts) (id ∷ []) in
      let here : length (asked k.number (acts ++ heard bytes moment (nowhere (Some h.number) id cmd) ∷ [])) ≡ length (asked h.number (acts ++ heard bytes moment (nowhere (Some h.number) id cmd) ∷ [])) = ap (λ (n : ℕ). length (asked n (acts ++ heard bytes moment (nowhere (Some h.number) id cmd) ∷ []))) m.place in
      let starts : begins k.number (acts ++ heard bytes moment (nowhere (Some h.number) id cmd) ∷ []) ≡ begins h.number acts = ap (λ (n : ℕ). begins n (acts ++ heard bytes moment (nowhere (Some h.number) id cmd) ∷ [])) m.place ∙ begins_more h.number acts (heard bytes moment (nowhere (Some h.number) id cmd)) ∙ append-nil (begins h.number acts) in
      let same : length (begins k.number (acts ++ heard bytes moment (nowhere (Some h.number) id cmd) ∷ [])) ≡ length (begins h.number acts) = ap length starts in
      let turns : h.pass.1.turns ≡ length (asked h.number acts) + length (begins h.number acts) = w.turns in
      let r : RoomWaits hub (acts ++ heard bytes moment (nowhere (Some h.number) id cmd) ∷ []) k = record {
        battle = subst (λ (n : ℕ). first_battle ≤ n) (sym m.place) battle;
        turns = omega arith;
        lacks = λ none. subst (λ (l : List (List ℕ)). LastLacks hub k l) (sym (ap (λ (n : ℕ). asked n (acts ++ heard bytes moment (nowhere (Some h.number) id cmd) ∷ [])) m.place ∙ more)) (last_lacks k id (asked h.number acts) lacks);
        looks = m.moves.looks ∙ w.looks;
        joined = since_away k.number acts (heard bytes moment (nowhere (Some h.number) id cmd)) refl (ap (λ (n : ℕ). since n acts) m.place ∙ w.joined);
        at = m.at ∙ w.at;
      } in (
        (
          m.moves.mine ∙ append-nil (commands h.pass.1.mine) ∙ p.entries ∙ ap (λ (n : ℕ). room_cmds conn n acts) (sym m.place) ∙ sym (append-nil (room_cmds conn k.number acts)) ∙ sym (cmds_more conn k.number acts (heard bytes moment (nowhere (Some h.number) id cmd))),
          told_moved hub conn ss h [] k m (is ∙ sym was) p.within p.told,
          subst (λ (o : Option (List ℕ)). SitsBy o hub conn (acts ++ heard bytes moment (nowhere (Some h.number) id cmd) ∷ []) (length acts) ss k) (sym is) r,
        ),
        λ some. absurd (true≢false (sym (sym (ap is_some is) ∙ some))),
      )

  -- ---- a session that ends at a text that the hall takes no more

  abbrev pub IsFull : Type 0 → RoomPass → Type 0
  IsFull up k = PlaceFull hub conn acts ss k × (up → IsSome k.id → IsCaughtUp k.pass.1 k.at)

  pub place_full : (who : Option (List ℕ)) (up : Type 0) (k : RoomPass) → ((id : List ℕ) → k.id ≡ Some id → who ≡ Some id → Names hub.config id k.number → ⊥) → IsPlace hub conn ss acts who up k → IsFull up k
  place_full who up k not p =
      let b = by_id k.id refl in
      ((p.entries, p.told, b.0), b.1)
    where
      by_id : (o : Option (List ℕ)) → k.id ≡ o → HeldFull o hub conn acts ss k × (up → IsSome o → IsCaughtUp k.pass.1 k.at)
      by_id None e = ((p.waiting e).looks, λ u none. absurd (true≢false (sym none)))
      by_id (Some id) e =
          let s = p.holding id e in (
            s.0,
            λ u some. ⊎_elim
                (λ (j : (since k.number acts ≢ []) × (up → IsCaughtUp k.pass.1 k.at)). j.1 u)
                (λ (j : (who ≡ Some id) × (since k.number acts ≡ [])). absurd (not id e j.0 s.0.named))
                s.1,
          )

  pub place_full_asked : (who : Option (List ℕ)) (up : Type 0) (h k : RoomPass) → h.id ≡ None → k.id ≡ None → IsMoved h [] k → IsPlace hub conn ss acts who up h → IsFull up k
  place_full_asked who up h k was is m p = (
    (
      m.moves.mine ∙ append-nil (commands h.pass.1.mine) ∙ p.entries ∙ ap (λ (n : ℕ). room_cmds conn n acts) (sym m.place),
      told_moved hub conn ss h [] k m (is ∙ sym was) p.within p.told,
      subst (λ (o : Option (List ℕ)). HeldFull o hub conn acts ss k) (sym is) (m.moves.looks ∙ (p.waiting was).looks),
    ),
    λ u some. absurd (true≢false (sym (sym (ap is_some is) ∙ some))),
  )

  -- ---- a session that broke off

  -- entries of all acts but the last, and perhaps of that; all looks were answered
  pub place_left : (all : List Act) (looked : ℕ) (k : RoomPass) → length all ≤ looked + 1 → IsPrefix (room_cmds conn k.number acts) (commands k.pass.1.mine) → IsPrefix (commands k.pass.1.mine) (room_cmds conn k.number all) → IsTold hub conn ss k
      → (k.id ≡ None → k.pass.1.looks ≡ []) → ((id : List ℕ) → k.id ≡ Some id → RoomSits hub conn all looked ss id k) → PlaceLeft false hub conn acts all ss k
  place_left all looked k near low high told bare held = record {
    entries = (low, high);
    looks = by_id k.id refl;
    sent = (told.0, told.1, prefix_same _ _ told.2);
    waits = λ e. absurd (true≢false (sym e));
  }
    where
      by_id : (o : Option (List ℕ)) → k.id ≡ o → LooksLeft o hub conn all ss k
      by_id None e = bare e
      by_id (Some id) e =
          let s = held id e in
          let count : length k.pass.1.looks + (length all - looked) ≡ length (since k.number all) = s.count in
          let r : AreAlmostAnswered (Shows conn (site_of hub k.number)) (commands k.pass.1.seen) (Some id) (Some k.number) ss (length all - length (since k.number all) + 1) (length (since k.number all) - 1) (length (since k.number all)) k.pass.1.looks = record {
            early = k.pass.1.looks;
            last = [];
            parts = sym (append-nil k.pass.1.looks);
            one = omega arith;
            enough = omega arith;
            few = omega arith;
            answered = s.looks;
          } in
          (s.named, r)

  -- a place with all of them
  pub left_whole : (a : Act) (k : RoomPass) → HasPlace hub conn ss (acts ++ a ∷ []) (length acts) k → PlaceLeft false hub conn acts (acts ++ a ∷ []) ss k
  left_whole a k p =
      let near : length (acts ++ a ∷ []) ≡ length acts + 1 = length-append acts (a ∷ []) in
      place_left (acts ++ a ∷ []) (length acts) k (omega arith)
      (subst (IsPrefix (room_cmds conn k.number acts)) (sym (p.0.0 ∙ cmds_more conn k.number acts a)) (prefix_front (room_cmds conn k.number acts) (room_of conn k.number a)))
      (prefix_same _ _ p.0.0)
      p.0.1
      (λ e. (let w : RoomWaits hub (acts ++ a ∷ []) k = subst (λ (o : Option (List ℕ)). SitsBy o hub conn (acts ++ a ∷ []) (length acts) ss k) e p.0.2 in w.looks))
      (λ id e. subst (λ (o : Option (List ℕ)). SitsBy o hub conn (acts ++ a ∷ []) (length acts) ss k) e p.0.2)

  -- a place before any entry of the order
  pub left_before : (who : Option (List ℕ)) (up : Type 0) (k : RoomPass) → IsPlace hub conn ss acts who up k → PlaceLeft false hub conn acts acts ss k
  left_before who up k p = place_left acts (length acts) k (omega arith) (prefix_same _ _ (sym p.entries)) (prefix_same _ _ p.entries) p.told (λ e. (p.waiting e).looks) (λ id e. (p.holding id e).0)

  -- a place whose pass took at the most a turn
  pub left_moved : (who : Option (List ℕ)) (up : Type 0) (h k : RoomPass) → k.id ≡ h.id → IsMoved h [] k → IsPlace hub conn ss acts who up h → PlaceLeft false hub conn acts acts ss k
  left_moved who up h k id m p =
      let made : commands k.pass.1.mine ≡ room_cmds conn k.number acts = m.moves.mine ∙ append-nil (commands h.pass.1.mine) ∙ p.entries ∙ ap (λ (n : ℕ). room_cmds conn n acts) (sym m.place) in
      place_left acts (length acts) k (omega arith) (prefix_same _ _ (sym made)) (prefix_same _ _ made) (told_moved hub conn ss h [] k m id p.within p.told)
      (λ e. m.moves.looks ∙ (p.waiting (sym id ∙ e)).looks)
      (λ other e. sits_moved hub conn ss acts (length acts) other h [] k m (p.holding other (sym id ∙ e)).0)
