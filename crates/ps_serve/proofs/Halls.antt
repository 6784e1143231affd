-- The pass of the hall while an order is obeyed, and what acts were answered.
use Rattle.std.proofs.Common.{◌≡◌, ℕ, ◌≤◌, List, [], ◌∷◌, ◌++◌, length, sym, ap, ◌∙◌, subst, inl, inr, ⊎_elim, arith, Option, Some, None, Contains}
use mathlib.Core.List.{IsPrefix}
use Rattle.ps_room.specs.Openings.{first_battle}
use Rattle.ps_lines.specs.declared.command.Command.{Command}
use Rattle.ps_hall.specs.declared.entry.HallEntry.{HallEntry}
use Rattle.ps_histlock.specs.Histories.{commands, entry, entries_of}
use Rattle.ps_histlock.proofs.Lists.{prefix_length}
use Rattle.server_places.specs.declared.command.RoomCmd.TheVariants.{Play}
use Rattle.server_places.specs.Halls.{HallShows}
use Rattle.ps_hub.specs.Hubs.{Hub, root_of}
use Rattle.ps_hub.specs.Names.{Names}
use Rattle.ps_hub.specs.Calls.{hall_entry, room_entry, NamesNone}
use Rattle.ps_hub.specs.Passes.{HallPass, RoomPass}
use Rattle.ps_serve.specs.Acts.{Made, in_hall, in_room, nowhere, Act, quiet, heard, since, hall_entries, room_cmds}
use Rattle.ps_serve.specs.Sendings.{Sending, AreLooksAnswered}
use Rattle.ps_serve.specs.Sittings.{IsSent, HasOpen, RoomGave, IsUnfound, IsOthers, IsNowhere, GaveMade, Gave, AreGiven, SaysNothing, LastGave, AreAlmostGiven}
use Rattle.ps_serve.proofs.Prefixes.{prefix_trans, prefix_commands, sent_grows, looks_grow}
use Rattle.ps_serve.proofs.PassLists.{IsKin, Grows}
use Rattle.ps_serve.proofs.Moves.{Moves}

-- ---- the pass of the hall

-- what no call takes from it
pub record IsHallKin (h k : HallPass) : Type 0 where
  pub number : k.pass.1.number ≡ h.pass.1.number
  pub seen : IsPrefix h.pass.1.seen k.pass.1.seen

pub open_grows : (conn open_at : ℕ) (h k : HallPass) → IsHallKin h k → HasOpen conn open_at h → HasOpen conn open_at k
open_grows conn open_at h k kin o = record { before = o.before; opener = o.opener; there = prefix_trans _ _ _ o.there kin.seen; alone = o.alone; other = λ same. o.other (same ∙ kin.number) }

pub hall_kin_trans : (h j k : HallPass) → IsHallKin h j → IsHallKin j k → IsHallKin h k
hall_kin_trans h j k a b = record { number = b.number ∙ a.number; seen = prefix_trans _ _ _ a.seen b.seen }

pub record IsHall (hub : Hub) (conn open_at : ℕ) (made : List HallEntry) (looked : ℕ) (ss : List Sending) (h : HallPass) : Type 0 where
  pub entries : commands h.pass.1.mine ≡ made
  pub count : length h.pass.1.looks ≡ looked
  pub looks : AreLooksAnswered (HallShows conn (root_of hub)) (commands h.pass.1.seen) None None ss 1 h.pass.1.looks
  pub told : IsSent (HallShows conn (root_of hub)) (commands h.pass.1.seen) h.at None None ss
  pub within : h.at ≤ length (commands h.pass.1.seen)
  pub opened : HasOpen conn open_at h

pub hall_moved : (hub : Hub) (conn open_at : ℕ) (made : List HallEntry) (looked : ℕ) (ss : List Sending) (h : HallPass) (more : List HallEntry) (k : HallPass) → k.at ≡ h.at → Moves h.pass.1 more k.pass.1 → IsHall hub conn open_at made looked ss h → IsHall hub conn open_at (made ++ more) looked ss k
hall_moved hub conn open_at made looked ss h more k at m p =
    let grown : IsPrefix (commands h.pass.1.seen) (commands k.pass.1.seen) = prefix_commands h.pass.1.seen k.pass.1.seen m.seen in
    let longer : length (commands h.pass.1.seen) ≤ length (commands k.pass.1.seen) = prefix_length _ _ grown in
    let within : h.at ≤ length (commands h.pass.1.seen) = p.within in
    record {
      entries = m.mine ∙ ap (λ l. l ++ more) p.entries;
      count = ap length m.looks ∙ p.count;
      looks = subst (λ (l : List ℕ). AreLooksAnswered (HallShows conn (root_of hub)) (commands k.pass.1.seen) None None ss 1 l) (sym m.looks) (looks_grow (HallShows conn (root_of hub)) (commands h.pass.1.seen) (commands k.pass.1.seen) None None ss 1 h.pass.1.looks grown p.looks);
      told = subst (λ (n : ℕ). IsSent (HallShows conn (root_of hub)) (commands k.pass.1.seen) n None None ss) (sym at) (sent_grows (HallShows conn (root_of hub)) (commands h.pass.1.seen) (commands k.pass.1.seen) h.at None None ss p.within grown p.told);
      within = omega arith;
      opened = open_grows conn open_at h k (record { number = m.number; seen = m.seen }) p.opened;
    }

pub hall_as : (hub : Hub) (conn open_at : ℕ) (made all : List HallEntry) (looked : ℕ) (ss : List Sending) (h : HallPass) → made ≡ all → IsHall hub conn open_at made looked ss h → IsHall hub conn open_at all looked ss h
hall_as hub conn open_at made all looked ss h e p = subst (λ (l : List HallEntry). IsHall hub conn open_at l looked ss h) e p

-- ---- what acts were answered, as passes see more

module _ (hub : Hub) (conn : ℕ) (done : List Act) (h k : HallPass) (old new : List RoomPass) (kin : IsHallKin h k) (grows : Grows old new) where
  room_gave_grows : (moment number : ℕ) (id : List ℕ) (cmd : Command) (badge : _) (ended : _) (j l : RoomPass) → IsKin j l → RoomGave hub conn done moment number id cmd badge ended j → RoomGave hub conn done moment number id cmd badge ended l
  room_gave_grows moment number id cmd badge ended j l r g = record {
    place = r.place ∙ g.place;
    held = r.id id g.held;
    before = g.before;
    out = g.out;
    there = prefix_trans _ _ _ (subst (λ (n : ℕ). IsPrefix (g.before ++ entry n (Play (room_entry conn badge moment cmd)) ∷ []) j.pass.1.seen) (sym r.number) g.there) r.seen;
    own = subst (λ (n : ℕ). length (entries_of n g.before) ≡ length (room_cmds conn number done)) (sym r.number) g.own;
    answer = g.answer;
    ended_is = g.ended_is;
  }

  unfound_grows : (number : ℕ) (id : List ℕ) (j l : RoomPass) → IsKin j l → IsUnfound hub conn done number id j → IsUnfound hub conn done number id l
  unfound_grows number id j l r g = record {
    place = r.place ∙ g.place;
    named = g.named;
    battle = g.battle;
    unjoined = g.unjoined;
    before = g.before;
    there = prefix_trans _ _ _ g.there r.seen;
    own = subst (λ (n : ℕ). length (entries_of n g.before) ≡ length (room_cmds conn number done)) (sym r.number) g.own;
    told = g.told;
    tells = g.tells;
    lacks = g.lacks;
  }

  others_grow : (id : List ℕ) (j l : RoomPass) → IsKin j l → IsOthers hub done id j → IsOthers hub done id l
  others_grow id j l r g = record {
    named = subst (λ (n : ℕ). Names hub.config id n) (sym r.place) g.named;
    battle = subst (λ (n : ℕ). first_battle ≤ n) (sym r.place) g.battle;
    joined = subst (λ (n : ℕ). 1 ≤ length (since n done)) (sym r.place) g.joined;
    other = g.other;
    held = r.id g.other g.held;
    differs = g.differs;
  }

  pub nowhere_grows : (asked : Option ℕ) (id : List ℕ) → IsNowhere hub conn done asked id old → IsNowhere hub conn done asked id new
  nowhere_grows None id g = ⊎_elim
      (λ (n : NamesNone hub id). inl n)
      (λ (o : (j : RoomPass) × Contains old j × IsOthers hub done id j). inr (let l = grows o.0 o.1 in (l.0, l.1, others_grow id o.0 l.0 l.2 o.2)))
      g
  nowhere_grows (Some number) id g = (let l = grows g.0 g.1 in (l.0, l.1, unfound_grows number id g.0 l.0 l.2 g.2))

  made_grows : (moment : ℕ) (made : Made) → GaveMade hub conn done moment made h old → GaveMade hub conn done moment made k new
  made_grows moment (in_hall cmd badge start) g = record {
    before = g.before;
    out = g.out;
    there = prefix_trans _ _ _ (subst (λ (n : ℕ). IsPrefix (g.before ++ entry n (hall_entry conn moment cmd) ∷ []) h.pass.1.seen) (sym kin.number) g.there) kin.seen;
    own = subst (λ (n : ℕ). length (entries_of n g.before) ≡ length (hall_entries conn done)) (sym kin.number) g.own;
    answer = g.answer;
    badge_is = g.badge_is;
    start_is = g.start_is;
  }
  made_grows moment (in_room number id cmd badge ended) g = (let l = grows g.0 g.1 in (l.0, l.1, room_gave_grows moment number id cmd badge ended g.0 l.0 l.2 g.2))
  made_grows moment (nowhere asked id cmd) g = nowhere_grows asked id g

  pub gave_grows : (a : Act) → Gave hub conn done a h old → Gave hub conn done a k new
  gave_grows quiet g = tt
  gave_grows (heard bytes moment made) g = made_grows moment made g

pub given_grows : (hub : Hub) (conn : ℕ) (done acts : List Act) (h k : HallPass) (old new : List RoomPass) → IsHallKin h k → Grows old new → AreGiven hub conn done acts h old → AreGiven hub conn done acts k new
given_grows hub conn done [] h k old new kin grows g = tt
given_grows hub conn done (a ∷ acts) h k old new kin grows g = (gave_grows hub conn done h k old new kin grows a g.0, given_grows hub conn (done ++ a ∷ []) acts h k old new kin grows g.1)

-- ---- if out of memory

nothing_grows : (a : Act) (old new : List RoomPass) → Grows old new → SaysNothing a old → SaysNothing a new
nothing_grows quiet old new grows n = tt
nothing_grows (heard bytes moment (in_hall cmd badge start)) old new grows n = n
nothing_grows (heard bytes moment (in_room number id cmd badge ended)) old new grows n = (n.0, (let l = grows n.1.0 n.1.1 in (l.0, l.1, l.2.place ∙ n.1.2, l.2.id id n.1.3)))
nothing_grows (heard bytes moment (nowhere asked id cmd)) old new grows n = absurd n

last_grows : (hub : Hub) (conn : ℕ) (sure last : List Act) (h k : HallPass) (old new : List RoomPass) → IsHallKin h k → Grows old new → LastGave hub conn sure last h old → LastGave hub conn sure last k new
last_grows hub conn sure [] h k old new kin grows g = tt
last_grows hub conn sure (a ∷ rest) h k old new kin grows g = (
  ⊎_elim
      (λ (gave : Gave hub conn sure a h old). inl (gave_grows hub conn sure h k old new kin grows a gave))
      (λ (n : SaysNothing a old). inr (nothing_grows a old new grows n))
      g.0,
  g.1,
)

pub almost_grows : (hub : Hub) (conn : ℕ) (sure acts : List Act) (h k : HallPass) (old new : List RoomPass) → IsHallKin h k → Grows old new → AreAlmostGiven hub conn sure acts h old → AreAlmostGiven hub conn sure acts k new
almost_grows hub conn sure acts h k old new kin grows g = (g.0, g.1, given_grows hub conn [] sure h k old new kin grows g.2, last_grows hub conn sure g.0 h k old new kin grows g.3)
