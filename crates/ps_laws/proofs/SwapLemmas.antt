-- Another member in the place of one that was never sent out, or another move in a slot that was never shown, gives a connection an equal view.
use Rattle.std.proofs.Common.{◌≡◌, ◌≢◌, ◌⊎◌, ℕ, zero, suc, ◌<◌, ◌≤◌, Bool, true, false, ◌&&◌, ◌||◌, List, [], ◌∷◌, Option, Some, None, not, nat_lt, length, set, get_or, get_or-set_same, get_or-set_other, length-set, refl, ap, ap₂, ◌∙◌, sym, subst, inl, inr, arith}
use Rattle.std.proofs.lemmas.Bool.{and_parts, or_parts, not-true, eqb-true, eq-eqb, ne_eqb, ltb-true}
use Rattle.std.proofs.lemmas.Bool.Decides.{eqb_tells}
use Rattle.std.proofs.lemmas.Option.{unwrap_or-slice_get}
use Rattle.std.specs.Prelude.{◌==◌, slice_get, unwrap_or}
use Rattle.std.specs.List.{list_any}
use Rattle.ps_lines.specs.declared.command.Command.{Command}
use Rattle.ps_lines.specs.declared.command.Command.TheVariants.{Choose}
use Rattle.ps_mon.specs.declared.team.Member.{Member}
use Rattle.ps_mon.specs.declared.team.MoveSlot.{MoveSlot}
use Rattle.ps_mon.specs.Reading.{side_of, active_index, slot_of, no_member, no_slot}
use Rattle.ps_mon.specs.Teams.{IsFresh}
use Rattle.ps_mon.proofs.SideLemmas.{each_side}
use Rattle.ps_dex.specs.declared.item.Tables.{Tables}
use Rattle.rules_config.specs.declared.settings.Settings.{Settings}
use Rattle.rules_start.specs.declared.start.Start.{Start}
use Rattle.rules_start.specs.Fits.{IsFit, legal_of, no_legal}
use Rattle.ps_valid.specs.declared.legal.Legal.{Legal}
use Rattle.battle_rounds.specs.Fights.{Fight}
use Rattle.battle_secrecy.specs.Places.{Hidden}
use Rattle.battle_secrecy.proofs.OpeningLemmas.{fresh_sized}
use Rattle.ps_chat.specs.declared.present.Present.{Present}
use Rattle.ps_room.specs.declared.entry.Entry.{Entry}
use Rattle.ps_room.specs.Openings.{Opening, fight_with, bout_with}
use Rattle.ps_room.specs.Records.{Record, opened, logged_events}
use Rattle.ps_room.specs.Rooms.{sender_of, after}
use Rattle.ps_room.specs.Stories.{Story, story, view_of}
use Rattle.ps_laws.specs.Users.{users}
use Rattle.ps_laws.specs.Rounds.{Round, rounds}
use Rattle.ps_laws.specs.Hidden.{spot_at, member_in, is_previewed, has_stood, is_member_hidden, is_chosen, is_told, is_slot_shown, is_slot_hidden, own_sides, hidden, hidden_in_both}
use Rattle.ps_laws.specs.Low.{low_from}
use Rattle.ps_laws.specs.Alike.{AreAlike}
use Rattle.ps_laws.specs.Same.{IsSlotSame, AreKindsEqual, IsKindSame, IsMemberSame, IsNickSame, nick_in, AreTeamsSame, AreStartsSame, AreSame}
use Rattle.ps_laws.specs.Secrets.{with_team, member_put, with_slot, with_start, NamesNeither, AllNameNeither, MembersMayDiffer, SlotsMayDiffer}
use Rattle.ps_laws.proofs.OpeningLemmas.{both, AreOpeningsAlike, course_alike, names_alike, events_openly, waits_opened}
use Rattle.ps_laws.proofs.ShownLemmas.{both_with}
use Rattle.ps_laws.proofs.UndoneLemmas.{slot_self, member_self, nick_self}
use Rattle.ps_laws.proofs.RoomLemmas.{views_are_equal}
use Rattle.ps_laws.proofs.LockLemmas.{ArePlaces, AskPast, AllAskPast, AreAllRounds, IsLockstep, lockstep, is_chosen_same, shown_in_same}

-- ---- two starts that differ in one team

slot_back : (hides : Bool) (x y : MoveSlot) → IsSlotSame hides x y → IsSlotSame hides y x
slot_back true x y w = tt
slot_back false x y w = sym w

kind_back : (preview : Bool) (m n : Member) → IsKindSame preview m n → IsKindSame preview n m
kind_back true m n w = record { species = sym w.species; level = sym w.level; types = sym w.types; base_speed = sym w.base_speed }
kind_back false m n w = tt

member_back : (preview hides : Bool) (slots : ℕ → Bool) (m n : Member) → IsMemberSame preview hides slots m n → IsMemberSame preview hides slots n m
member_back preview true slots m n w = kind_back preview m n w
member_back preview false slots m n w = record { front = sym w.front; long = sym w.long; slots = λ j. slot_back (slots j) (slot_of m j) (slot_of n j) (w.slots j) }

nick_back : (hides : Bool) (x y : List ℕ) → IsNickSame hides x y → IsNickSame hides y x
nick_back true x y w = tt
nick_back false x y w = sym w

team_back : (preview : Bool) (places : Hidden) (one two : Start) (s : ℕ) → AreTeamsSame preview places one two s → AreTeamsSame preview places two one s
team_back preview places one two s w =
    let count = w.count in
    record {
      count = sym count;
      members = λ k lt. member_back preview (places.member s k) (places.slot s k) (member_in one s k) (member_in two s k) (w.members k (omega (arith, lt, count)));
      long = sym w.long;
      rest = λ k past. sym (w.rest k (omega (arith, past, count)));
      nicks = λ k. nick_back (places.member s k) (nick_in one s k) (nick_in two s k) (w.nicks k);
    }

starts_back : (preview : Bool) (places : Hidden) (one two : Start) → AreStartsSame preview places one two → AreStartsSame preview places two one
starts_back preview places one two w = record {
  number = sym w.number;
  format = sym w.format;
  players = sym w.players;
  seed = sym w.seed;
  teams = λ s lt. team_back preview places one two s (w.teams s lt);
}

team_self : (preview : Bool) (places : Hidden) (st : Start) (s : ℕ) → AreTeamsSame preview places st st s
team_self preview places st s = record {
  count = refl;
  members = λ k below. member_self preview (places.member s k) (places.slot s k) (member_in st s k);
  long = refl;
  rest = λ k past. refl;
  nicks = λ k. nick_self (places.member s k) (nick_in st s k);
}

-- a team, by itself
abbrev in_legal : Legal → ℕ → Member
in_legal l k = get_or l.team.members k no_member

record AreLegalsSame (preview : Bool) (places : Hidden) (s : ℕ) (one two : Legal) : Type 0 where
  count : one.team.count ≡ two.team.count
  members : (k : ℕ) → k < one.team.count → IsMemberSame preview (places.member s k) (places.slot s k) (in_legal one k) (in_legal two k)
  long : length one.team.members ≡ length two.team.members
  rest : (k : ℕ) → one.team.count ≤ k → in_legal one k ≡ in_legal two k
  nicks : (k : ℕ) → IsNickSame (places.member s k) (get_or one.nicks k []) (get_or two.nicks k [])

nick_at : (l : Legal) (k : ℕ) → unwrap_or (slice_get l.nicks k) [] ≡ get_or l.nicks k []
nick_at l k = unwrap_or-slice_get l.nicks k []

legals_teams : (preview : Bool) (places : Hidden) (one two : Start) (s : ℕ) → AreLegalsSame preview places s (legal_of one.teams s) (legal_of two.teams s) → AreTeamsSame preview places one two s
legals_teams preview places one two s w = record {
  count = w.count;
  members = w.members;
  long = w.long;
  rest = w.rest;
  nicks = λ k. subst (λ (x : List ℕ). IsNickSame (places.member s k) x (nick_in two s k)) (sym (nick_at (legal_of one.teams s) k))
      (subst (IsNickSame (places.member s k) (get_or (legal_of one.teams s).nicks k [])) (sym (nick_at (legal_of two.teams s) k)) (w.nicks k));
}

-- the team of a side that is put is that one
put_there : (st : Start) (s : ℕ) (l : Legal) → s < length st.teams → legal_of (with_team st s l).teams s ≡ l
put_there st s l lt = get_or-set_same st.teams s l no_legal lt

put_other : (st : Start) (s t : ℕ) (l : Legal) → t ≢ s → legal_of (with_team st s l).teams t ≡ legal_of st.teams t
put_other st s t l ne = get_or-set_other st.teams s t l no_legal ne

team_by : (preview : Bool) (places : Hidden) (st : Start) (s t : ℕ) (l : Legal) → s < length st.teams → AreLegalsSame preview places s (legal_of st.teams s) l → (t ≡ s) ⊎ (t ≢ s) → AreTeamsSame preview places st (with_team st s l) t
team_by preview places st s t l lt w (inl same) =
    subst (AreTeamsSame preview places st (with_team st s l)) (sym same)
    (legals_teams preview places st (with_team st s l) s (subst (AreLegalsSame preview places s (legal_of st.teams s)) (sym (put_there st s l lt)) w))
team_by preview places st s t l lt w (inr ne) = legals_teams preview places st (with_team st s l) t (subst (AreLegalsSame preview places t (legal_of st.teams t)) (sym (put_other st s t l ne)) (legal_self t)) where
  legal_self : (t : ℕ) → AreLegalsSame preview places t (legal_of st.teams t) (legal_of st.teams t)
  legal_self t = record { count = refl; members = λ k below. member_self preview (places.member t k) (places.slot t k) (in_legal (legal_of st.teams t) k); long = refl; rest = λ k past. refl; nicks = λ k. nick_self (places.member t k) (get_or (legal_of st.teams t).nicks k []) }

starts_same : (preview : Bool) (places : Hidden) (st : Start) (s : ℕ) (l : Legal) → s < length st.teams → AreLegalsSame preview places s (legal_of st.teams s) l → AreStartsSame preview places st (with_team st s l)
starts_same preview places st s l lt w = record {
  number = refl;
  format = refl;
  players = refl;
  seed = refl;
  teams = λ t below. team_by preview places st s t l lt w (elim (eqb_tells t s) [
    | inl same ↦ inl same.1
    | inr ne ↦ inr ne.1
  ]);
}

-- each side of a battle that can start has a team
team_there : (st : Start) (config : Settings) (dex : Tables) (s : ℕ) → s < 2 → IsFit st config dex → 1 ≤ (legal_of st.teams s).team.count
team_there st config dex s lt fit = each_side (λ t. 1 ≤ (legal_of st.teams t).team.count) fit.first.fresh.count fit.second.fresh.count s lt

past_teams : (teams : List Legal) (s : ℕ) → 1 ≤ (legal_of teams s).team.count → s < length teams
past_teams [] s some = absurd (omega (arith, some))
past_teams (l ∷ ls) zero some = omega arith
past_teams (l ∷ ls) (suc s) some = (let lt = past_teams ls s some in omega (arith, lt))

-- ---- the two rooms at their openings

abbrev fight_at : Opening → Start → Fight
fight_at o st = fight_with o.config o.dex st

opened_twin : (own : ℕ → Bool) (rs : List Round) (spot : Hidden) (o : Opening) (one two : Start) → IsFit one o.config o.dex → IsFit two o.config o.dex
    → AreStartsSame (is_previewed o.config (Some one)) (both (is_previewed o.config (Some one)) own (Some one) rs spot) one two → AreAlike (both (is_previewed o.config (Some one)) own (Some one) rs spot) (opened (with_start o one)) (opened (with_start o two))
opened_twin own rs spot o one two fit fit_too w =
    let preview = is_previewed o.config (Some one) in
    let places = both preview own (Some one) rs spot in
    let c : AreOpeningsAlike places (bout_with o.config one) (bout_with o.config two) = course_alike own rs spot o.config o.dex one two fit fit_too w in
    record {
      opening = refl;
      chat = refl;
      logged = ap logged_events c.told;
      openly = events_openly places (bout_with o.config one).told c.names;
      battle = record { number = w.number; names = names_alike preview places o.config one two w; dex = refl; bout = c.bout };
    }

-- ---- one spot in a battle's room

-- What two starts need, which differ in one spot alone: `spot` says which member or slot that is.
record IsSwapped (conn : ℕ) (o : Opening) (st : Start) (h : List Entry) (s : ℕ) (l : Legal) (spot : Hidden) : Type 0 where
  first : IsFit st o.config o.dex
  second : IsFit (with_team st s l) o.config o.dex
  below : s < 2
  -- only what is in the spot differs
  same : (places : Hidden) → ((k : ℕ) → spot.member s k ≡ true → places.member s k ≡ true) → ((k j : ℕ) → spot.slot s k j ≡ true → places.slot s k j ≡ true) → AreLegalsSame (is_previewed o.config (Some st)) places s (legal_of st.teams s) l
  -- the spot is of this side, and hidden in the first world; in the second world no round of the first shows it
  member_side : (t k : ℕ) → spot.member t k ≡ true → t ≡ s
  slot_side : (t k j : ℕ) → spot.slot t k j ≡ true → t ≡ s
  member_hidden : (k : ℕ) → spot.member s k ≡ true → (hidden conn (story (with_start o st) h)).member s k ≡ true
  slot_hidden : (k j : ℕ) → spot.slot s k j ≡ true → (hidden conn (story (with_start o st) h)).slot s k j ≡ true
  slot_untold : (k j : ℕ) → spot.slot s k j ≡ true → list_any (is_told (with_team st s l) (spot_at s k j)) (rounds (story (with_start o st) h)) ≡ false
  slot_counts : (k j : ℕ) → spot.slot s k j ≡ true → (member_in st s k).slot_count ≡ (member_in (with_team st s l) s k).slot_count

both_true : (a b : Bool) → a ≡ true → b ≡ true → (a && b) ≡ true
both_true true true one two = refl
both_true false b one two = absurd cc
both_true true false one two = absurd cc

never : (a b : Bool) → (a && false) ≡ (b && false)
never true true = refl
never true false = refl
never false true = refl
never false false = refl

where_spot : (x y spot : Bool) → (spot ≡ true → (x ≡ true) × (y ≡ true)) → (x && spot) ≡ (y && spot)
where_spot x y true h = rw ((h refl).0, (h refl).1) refl
where_spot x y false h = never x y

-- a slot that was neither chosen nor told of
neither_shown : (chosen told other : Round → Bool) (rs : List Round) → list_any (λ r. chosen r || told r) rs ≡ false → list_any other rs ≡ false → list_any (λ r. chosen r || other r) rs ≡ false
neither_shown chosen told other [] none more = refl
neither_shown chosen told other (r ∷ rs) none more =
    let first = or_parts (chosen r || told r) (list_any (λ x. chosen x || told x) rs) none in
    let second = or_parts (other r) (list_any other rs) more in
    let here : chosen r ≡ false = (or_parts (chosen r) (told r) first.0).0 in
    rw (here, second.0) (neither_shown chosen told other rs first.1 second.1)

-- rounds that are alike show the same of a side
stood_same : (s k : ℕ) (rs qs : List Round) → s < 2 → AreAllRounds rs qs → list_any (λ r. active_index (side_of r.after s) == k) rs ≡ list_any (λ r. active_index (side_of r.after s) == k) qs
stood_same s k [] [] lt w = refl
stood_same s k [] (q ∷ qs) lt w = absurd w
stood_same s k (r ∷ rs) [] lt w = absurd w
stood_same s k (r ∷ rs) (q ∷ qs) lt w = ap₂ (λ (x y : Bool). x || y) (ap (λ (i : ℕ). i == k) (w.0.after s lt)) (stood_same s k rs qs lt w.1)

shown_same : (st : Start) (s k j : ℕ) (rs qs : List Round) → s < 2 → AreAllRounds rs qs → list_any (is_slot_shown st (spot_at s k j)) rs ≡ list_any (is_slot_shown st (spot_at s k j)) qs
shown_same st s k j [] [] lt w = refl
shown_same st s k j [] (q ∷ qs) lt w = absurd w
shown_same st s k j (r ∷ rs) [] lt w = absurd w
shown_same st s k j (r ∷ rs) (q ∷ qs) lt w =
    ap₂ (λ (x y : Bool). x || y)
    (ap₂ (λ (x y : Bool). x || y) (is_chosen_same r q s k j lt w.0) (shown_in_same r q s k (slot_of (member_in st s k) j).mv lt w.0))
    (shown_same st s k j rs qs lt w.1)

module _ (conn : ℕ) (o : Opening) (st : Start) (h : List Entry) (s : ℕ) (l : Legal) (spot : Hidden) (w : IsSwapped conn o st h s l spot) where
  abbrev other : Start
  other = with_team st s l

  abbrev one : Story
  one = story (with_start o st) h

  abbrev two : Story
  two = story (with_start o other) h

  abbrev preview : Bool
  preview = is_previewed o.config (Some st)

  abbrev own : ℕ → Bool
  own = own_sides (users conn one) o.config (Some st)

  -- the spot, with what each world has in it
  abbrev P : Hidden
  P = both preview own (Some st) (rounds one) spot

  abbrev Q : Hidden
  Q = both preview own (Some other) (rounds one) spot

  there : s < length st.teams
  there = past_teams st.teams s (team_there st o.config o.dex s w.below w.first)

  counts : (t : ℕ) → (legal_of st.teams t).team.count ≡ (legal_of other.teams t).team.count
  counts t =
      let all : Hidden = record { member = λ s k. true; slot = λ s k j. true; move = λ s k j. 0 } in
      (team_by preview all st s t l there (w.same all (λ k sp. refl) (λ k j sp. refl)) (elim (eqb_tells t s) [
        | inl same ↦ inl same.1
        | inr ne ↦ inr ne.1
      ])).count

  member_too : (t k : ℕ) → is_member_hidden preview (own t) st (rounds one) t k ≡ is_member_hidden preview (own t) other (rounds one) t k
  member_too t k = ap (λ (n : ℕ). not (own t) && nat_lt k n && not (has_stood preview (rounds one) t k)) (counts t)

  slot_too : (k j : ℕ) → spot.slot s k j ≡ true → is_slot_hidden (own s) other (rounds one) (spot_at s k j) ≡ true
  slot_too k j sp =
      let hides = w.slot_hidden k j sp in
      let parts = and_parts (not (own s) && nat_lt j (member_in st s k).slot_count) (not (list_any (is_slot_shown st (spot_at s k j)) (rounds one))) hides in
      let none = neither_shown (is_chosen (spot_at s k j)) (is_told st (spot_at s k j)) (is_told other (spot_at s k j)) (rounds one) (not-true (list_any (is_slot_shown st (spot_at s k j)) (rounds one)) parts.1) (w.slot_untold k j sp) in
      let inside : (not (own s) && nat_lt j (member_in other s k).slot_count) ≡ true = ap (λ (n : ℕ). not (own s) && nat_lt j n) (sym (w.slot_counts k j sp)) ∙ parts.0 in
      both_true (not (own s) && nat_lt j (member_in other s k).slot_count) (not (list_any (is_slot_shown other (spot_at s k j)) (rounds one))) inside (ap not none)

  member_P : (k : ℕ) → spot.member s k ≡ true → P.member s k ≡ true
  member_P k sp = both_true (is_member_hidden preview (own s) st (rounds one) s k) (spot.member s k) (w.member_hidden k sp) sp

  slot_P : (k j : ℕ) → spot.slot s k j ≡ true → P.slot s k j ≡ true
  slot_P k j sp = both_true (is_slot_hidden (own s) st (rounds one) (spot_at s k j)) (spot.slot s k j) (w.slot_hidden k j sp) sp

  member_Q : (k : ℕ) → spot.member s k ≡ true → Q.member s k ≡ true
  member_Q k sp = both_true (is_member_hidden preview (own s) other (rounds one) s k) (spot.member s k) (sym (member_too s k) ∙ w.member_hidden k sp) sp

  slot_Q : (k j : ℕ) → spot.slot s k j ≡ true → Q.slot s k j ≡ true
  slot_Q k j sp = both_true (is_slot_hidden (own s) other (rounds one) (spot_at s k j)) (spot.slot s k j) (slot_too k j sp) sp

  slot_both : (t k j : ℕ) → spot.slot t k j ≡ true → (is_slot_hidden (own t) st (rounds one) (spot_at t k j) ≡ true) × (is_slot_hidden (own t) other (rounds one) (spot_at t k j) ≡ true)
  slot_both t k j sp =
      let same : t ≡ s = w.slot_side t k j sp in
      let here : spot.slot s k j ≡ true = subst (λ (x : ℕ). spot.slot x k j ≡ true) same sp in
      subst (λ (x : ℕ). (is_slot_hidden (own x) st (rounds one) (spot_at x k j) ≡ true) × (is_slot_hidden (own x) other (rounds one) (spot_at x k j) ≡ true)) (sym same) (w.slot_hidden k j here, slot_too k j here)

  places : ArePlaces P Q
  places = record {
    members = λ t k. ap (λ (x : Bool). x && spot.member t k) (member_too t k);
    slots = λ t k j. where_spot (is_slot_hidden (own t) st (rounds one) (spot_at t k j)) (is_slot_hidden (own t) other (rounds one) (spot_at t k j)) (spot.slot t k j) (slot_both t k j);
    member_below = λ t k hides. subst (λ (x : ℕ). x < 2) (sym (w.member_side t k (and_parts (is_member_hidden preview (own t) other (rounds one) t k) (spot.member t k) hides).1)) w.below;
    slot_below = λ t k j hides. subst (λ (x : ℕ). x < 2) (sym (w.slot_side t k j (and_parts (is_slot_hidden (own t) other (rounds one) (spot_at t k j)) (spot.slot t k j) hides).1)) w.below;
  }

  same_in : (hides : Hidden) → ((k : ℕ) → spot.member s k ≡ true → hides.member s k ≡ true) → ((k j : ℕ) → spot.slot s k j ≡ true → hides.slot s k j ≡ true) → AreStartsSame preview hides st other
  same_in hides members slots = starts_same preview hides st s l there (w.same hides members slots)

  alike : AreAlike P (opened (with_start o st)) (opened (with_start o other))
  alike = opened_twin own (rounds one) spot o st other w.first w.second (same_in P member_P slot_P)

  alike_back : AreAlike Q (opened (with_start o other)) (opened (with_start o st))
  alike_back = opened_twin own (rounds one) spot o other st w.second w.first (starts_back preview Q st other (same_in Q member_Q slot_Q))

  module _ (past : AllAskPast P Q (opened (with_start o st)) h) where
    locked : IsLockstep conn (users conn one) (opened (with_start o st)) (opened (with_start o other)) h
    locked = lockstep conn (users conn one) P Q (opened (with_start o st)) (opened (with_start o other)) h places past (waits_opened o.config o.dex (Some st)) (waits_opened o.config o.dex (Some other)) alike alike_back
        (both_with preview own (Some st) (rounds one) spot) (both_with preview own (Some other) (rounds one) spot)

    -- what is hidden in the first world is so in the second
    hidden_member : (k : ℕ) → spot.member s k ≡ true → (hidden conn two).member s k ≡ true
    hidden_member k sp =
        let same : has_stood preview (rounds one) s k ≡ has_stood preview (rounds two) s k = ap (λ (x : Bool). (not preview && k == 0) || x) (stood_same s k (rounds one) (rounds two) w.below locked.rounds) in
        sym (ap (λ (x : Bool). not (own s) && nat_lt k (legal_of other.teams s).team.count && not x) same
        ∙ ap (λ (ids : List (List ℕ)). is_member_hidden preview (own_sides ids o.config (Some other) s) other (rounds two) s k) locked.users)
        ∙ sym (member_too s k) ∙ w.member_hidden k sp

    hidden_slot : (k j : ℕ) → spot.slot s k j ≡ true → (hidden conn two).slot s k j ≡ true
    hidden_slot k j sp =
        sym (ap (λ (x : Bool). not (own s) && nat_lt j (member_in other s k).slot_count && not x) (shown_same other s k j (rounds one) (rounds two) w.below locked.rounds)
        ∙ ap (λ (ids : List (List ℕ)). is_slot_hidden (own_sides ids o.config (Some other) s) other (rounds two) (spot_at s k j)) locked.users)
        ∙ slot_too k j sp

    worlds_same : AreSame conn one two
    worlds_same = record {
      first = w.first;
      second = w.second;
      histories = locked.items ∙ ap (λ (ids : List (List ℕ)). low_from conn ids (opened (with_start o other)) h) locked.users;
      openings = record {
        no = refl;
        id = refl;
        title = refl;
        config = refl;
        dex = refl;
        battle = same_in (hidden_in_both conn one two)
            (λ k sp. both_true ((hidden conn one).member s k) ((hidden conn two).member s k) (w.member_hidden k sp) (hidden_member k sp))
            (λ k j sp. both_true ((hidden conn one).slot s k j) ((hidden conn two).slot s k j) (w.slot_hidden k j sp) (hidden_slot k j sp));
      };
    }

    views_swapped : view_of conn one ≡ view_of conn two
    views_swapped = views_are_equal conn one two worlds_same

-- ---- a member that was never sent out

-- the number is that one, and the place, too
at_spot : (s k t i : ℕ) → (t == s && i == k) ≡ true → (t ≡ s) × (i ≡ k)
at_spot s k t i e = let parts = and_parts (t == s) (i == k) e in (eqb-true t s parts.0, eqb-true i k parts.1)

spot_there : (s k : ℕ) → (s == s && k == k) ≡ true
spot_there s k = both_true (s == s) (k == k) (eq-eqb s s refl) (eq-eqb k k refl)

abbrev member_spot : ℕ → ℕ → Hidden
member_spot s k = record { member = λ t i. t == s && i == k; slot = λ t i j. false; move = λ t i j. 0 }

-- a member's place in a team of which each member is there
inside_team : (st : Start) (config : Settings) (dex : Tables) (s k : ℕ) → s < 2 → k < (legal_of st.teams s).team.count → IsFit st config dex → k < length (legal_of st.teams s).team.members
inside_team st config dex s k lt there fit =
    let fresh : IsFresh (legal_of st.teams s).team = each_side (λ t. IsFresh (legal_of st.teams t).team) fit.first.fresh fit.second.fresh s lt in
    let sized = fresh_sized (legal_of st.teams s).team fresh in
    omega (arith, there, sized.long)

-- a team with another member at a place is the same but for it
put_member : (preview : Bool) (places : Hidden) (s k : ℕ) (l : Legal) (m : Member) (nicks : List (List ℕ)) → k < l.team.count → k < length l.team.members
    → IsMemberSame preview (places.member s k) (places.slot s k) (in_legal l k) m → ((i : ℕ) → IsNickSame (places.member s i) (get_or l.nicks i []) (get_or nicks i []))
    → AreLegalsSame preview places s l (record { team = member_put l.team k m; nicks = nicks })
put_member preview places s k l m nicks inside there same named = record {
  count = refl;
  members = λ i lt. elim (eqb_tells i k) [
    | inl is ↦ subst (λ (x : ℕ). IsMemberSame preview (places.member s x) (places.slot s x) (in_legal l x) (get_or (set l.team.members k m) x no_member)) (sym is.1)
        (subst (IsMemberSame preview (places.member s k) (places.slot s k) (in_legal l k)) (sym (get_or-set_same l.team.members k m no_member there)) same)
    | inr ne ↦ subst (IsMemberSame preview (places.member s i) (places.slot s i) (in_legal l i)) (sym (get_or-set_other l.team.members k i m no_member ne.1)) (member_self preview (places.member s i) (places.slot s i) (in_legal l i))
  ];
  long = sym (length-set l.team.members k m);
  rest = λ i past. elim (eqb_tells i k) [
    | inl is ↦ absurd (let same = is.1 in omega (arith, inside, past, same))
    | inr ne ↦ sym (get_or-set_other l.team.members k i m no_member ne.1)
  ];
  nicks = named;
}

hidden_member_same : (preview hides : Bool) (slots : ℕ → Bool) (m n : Member) → hides ≡ true → (preview ≡ true → AreKindsEqual m n) → IsMemberSame preview hides slots m n
hidden_member_same true true slots m n is kinds = kinds refl
hidden_member_same false true slots m n is kinds = tt
hidden_member_same preview false slots m n is kinds = absurd cc

nick_put : (places : Hidden) (s k : ℕ) (nicks : List (List ℕ)) (nick : List ℕ) → places.member s k ≡ true → (i : ℕ) → IsNickSame (places.member s i) (get_or nicks i []) (get_or (set nicks k nick) i [])
nick_put places s k nicks nick hides i = elim (eqb_tells i k) [
  | inl is ↦ subst (λ (b : Bool). IsNickSame b (get_or nicks i []) (get_or (set nicks k nick) i [])) (sym (ap (places.member s) is.1 ∙ hides)) tt
  | inr ne ↦ subst (IsNickSame (places.member s i) (get_or nicks i [])) (sym (get_or-set_other nicks k i nick [] ne.1)) (nick_self (places.member s i) (get_or nicks i []))
]

-- no slot is hidden, so no wish asks for one
asks_nothing : (P Q : Hidden) (fo : Option Fight) (me : Option Present) (cmd : Command) → ((t i j : ℕ) → P.slot t i j ≡ true → ⊥) → AskPast P Q fo me cmd
asks_nothing P Q None me cmd none = tt
asks_nothing P Q (Some f) me (Choose choice rqid) none = λ t side mv named i j hides. absurd (none t i j hides)
asks_nothing P Q (Some f) me rest none = tt

all_ask_nothing : (P Q : Hidden) (r : Record) (es : List Entry) → ((t i j : ℕ) → P.slot t i j ≡ true → ⊥) → AllAskPast P Q r es
all_ask_nothing P Q r [] none = tt
all_ask_nothing P Q r (e ∷ es) none = (asks_nothing P Q r.battle (sender_of r e) e.cmd none, all_ask_nothing P Q (after r e) es none)

inside_by : (own there stood : Bool) → (not own && there && not stood) ≡ true → there ≡ true
inside_by own there stood e = (and_parts (not own) there (and_parts (not own && there) (not stood) e).0).1

not_both : (b : Bool) → (b && false) ≡ true → ⊥
not_both true e = absurd cc
not_both false e = absurd cc

pub members_may_differ : (conn : ℕ) → MembersMayDiffer conn
members_may_differ conn o st h s k m nick fit fit_too below hides kinds =
    let l = legal_of st.teams s in
    let spot = member_spot s k in
    let preview = is_previewed o.config (Some st) in
    let one = story (with_start o st) h in
    let changed : Legal = record { team = member_put l.team k m; nicks = set l.nicks k nick } in
    let own = own_sides (users conn one) o.config (Some st) in
    let P = both preview own (Some st) (rounds one) spot in
    let Q = both preview own (Some (with_team st s changed)) (rounds one) spot in
    let inside : k < l.team.count = ltb-true k l.team.count (inside_by (own s) (nat_lt k l.team.count) (has_stood preview (rounds one) s k) hides) in
    views_swapped conn o st h s changed spot (record {
      first = fit;
      second = fit_too;
      below = below;
      same = λ places members slots.
          let hides_too = members k (spot_there s k) in
          put_member preview places s k l m (set l.nicks k nick) inside (inside_team st o.config o.dex s k below inside fit)
          (hidden_member_same preview (places.member s k) (places.slot s k) (in_legal l k) m hides_too kinds) (nick_put places s k l.nicks nick hides_too);
      member_side = λ t i sp. (at_spot s k t i sp).0;
      slot_side = λ t i j sp. absurd cc;
      member_hidden = λ i sp. subst (λ (x : ℕ). (hidden conn one).member s x ≡ true) (sym (at_spot s k s i sp).1) hides;
      slot_hidden = λ i j sp. absurd cc;
      slot_untold = λ i j sp. absurd cc;
      slot_counts = λ i j sp. absurd cc;
    }) (all_ask_nothing P Q (opened (with_start o st)) h (λ t i j e. not_both (is_slot_hidden (own t) st (rounds one) (spot_at t i j)) e))

-- ---- a slot that was never shown

abbrev slot_spot : ℕ → ℕ → ℕ → Hidden
slot_spot s k j = record { member = λ t i. false; slot = λ t i n. t == s && i == k && n == j; move = λ t i n. 0 }

at_slot : (s k j t i n : ℕ) → (t == s && i == k && n == j) ≡ true → (t ≡ s) × (i ≡ k) × (n ≡ j)
at_slot s k j t i n e =
    let parts = and_parts (t == s && i == k) (n == j) e in
    let place = at_spot s k t i parts.0 in
    (place.0, place.1, eqb-true n j parts.1)

slot_there : (s k j : ℕ) → (s == s && k == k && j == j) ≡ true
slot_there s k j = both_true (s == s && k == k) (j == j) (spot_there s k) (eq-eqb j j refl)

abbrev slot_put : Member → ℕ → MoveSlot → Member
slot_put m j slot = record m { slots = set m.slots j slot }

slot_member_same : (preview hides : Bool) (slots : ℕ → Bool) (m : Member) (j : ℕ) (slot : MoveSlot) → slots j ≡ true → IsMemberSame preview hides slots m (slot_put m j slot)
slot_member_same true true slots m j slot is = record { species = refl; level = refl; types = refl; base_speed = refl }
slot_member_same false true slots m j slot is = tt
slot_member_same shown false slots m j slot is = record {
  front = refl;
  long = sym (length-set m.slots j slot);
  slots = λ n. elim (eqb_tells n j) [
    | inl same ↦ subst (λ (b : Bool). IsSlotSame b (slot_of m n) (slot_of (slot_put m j slot) n)) (sym (ap slots same.1 ∙ is)) tt
    | inr ne ↦ subst (IsSlotSame (slots n) (slot_of m n)) (sym (get_or-set_other m.slots j n slot no_slot ne.1)) (slot_self (slots n) (slot_of m n))
  ];
}

slot_inside : (st : Start) (config : Settings) (dex : Tables) (s k j : ℕ) → s < 2 → k < (legal_of st.teams s).team.count → j < (member_in st s k).slot_count → IsFit st config dex → j < length (member_in st s k).slots
slot_inside st config dex s k j lt there below fit =
    let fresh : IsFresh (legal_of st.teams s).team = each_side (λ t. IsFresh (legal_of st.teams t).team) fit.first.fresh fit.second.fresh s lt in
    let ranges = (fresh.members k there).ranges in
    omega (arith, below, ranges.four, ranges.slot_count_high)

-- what is asked by name is neither of the two moves
asks_neither : (P Q : Hidden) (s old new : ℕ) (fo : Option Fight) (me : Option Present) (cmd : Command) → ((t i j : ℕ) → P.slot t i j ≡ true → (t ≡ s) × (P.move t i j ≡ old) × (Q.move t i j ≡ new)) → NamesNeither s old new fo me cmd → AskPast P Q fo me cmd
asks_neither P Q s old new None me cmd spot past = tt
asks_neither P Q s old new (Some f) me (Choose choice rqid) spot past = λ t side mv named i j hides.
    let at = spot t i j hides in
    let neither = past (side ∙ ap Some at.0) mv named in
    (ap (λ (x : ℕ). x == mv) at.1 ∙ ne_eqb old mv neither.0, ap (λ (x : ℕ). x == mv) at.2 ∙ ne_eqb new mv neither.1)
asks_neither P Q s old new (Some f) me rest spot past = tt

all_ask_neither : (P Q : Hidden) (s old new : ℕ) (r : Record) (es : List Entry) → ((t i j : ℕ) → P.slot t i j ≡ true → (t ≡ s) × (P.move t i j ≡ old) × (Q.move t i j ≡ new)) → AllNameNeither s old new r es → AllAskPast P Q r es
all_ask_neither P Q s old new r [] spot past = tt
all_ask_neither P Q s old new r (e ∷ es) spot past = (asks_neither P Q s old new r.battle (sender_of r e) e.cmd spot past.0, all_ask_neither P Q s old new (after r e) es spot past.1)

pub slots_may_differ : (conn : ℕ) → SlotsMayDiffer conn
slots_may_differ conn o st h s k j slot fit fit_too below inside hides untold past =
    let l = legal_of st.teams s in
    let m = member_in st s k in
    let spot = slot_spot s k j in
    let other = with_slot st s k j slot in
    let preview = is_previewed o.config (Some st) in
    let one = story (with_start o st) h in
    let own = own_sides (users conn one) o.config (Some st) in
    let there = inside_team st o.config o.dex s k below inside fit in
    let low : j < m.slot_count = ltb-true j m.slot_count (inside_by (own s) (nat_lt j m.slot_count) (list_any (is_slot_shown st (spot_at s k j)) (rounds one)) hides) in
    let teams = past_teams st.teams s (team_there st o.config o.dex s below fit) in
    let member_is : member_in other s k ≡ slot_put m j slot =
    ap (λ (x : Legal). get_or x.team.members k no_member) (put_there st s (record l { team = member_put l.team k (slot_put m j slot) }) teams)
    ∙ get_or-set_same l.team.members k (slot_put m j slot) no_member there in
    let slot_is : slot_of (member_in other s k) j ≡ slot =
    ap (λ (x : Member). slot_of x j) member_is ∙ get_or-set_same m.slots j slot no_slot (slot_inside st o.config o.dex s k j below inside low fit) in
    let P = both preview own (Some st) (rounds one) spot in
    let Q = both preview own (Some other) (rounds one) spot in
    let at : (t i n : ℕ) → P.slot t i n ≡ true → (t ≡ s) × (P.move t i n ≡ (slot_of m j).mv) × (Q.move t i n ≡ slot.mv) = λ t i n hides_too.
    (let place = at_slot s k j t i n (and_parts (is_slot_hidden (own t) st (rounds one) (spot_at t i n)) (spot.slot t i n) hides_too).1 in (
      place.0,
      ap₂ (λ (x y : ℕ). (slot_of (member_in st x y) n).mv) place.0 place.1 ∙ ap (λ (x : ℕ). (slot_of m x).mv) place.2,
      ap₂ (λ (x y : ℕ). (slot_of (member_in other x y) n).mv) place.0 place.1 ∙ ap (λ (x : ℕ). (slot_of (member_in other s k) x).mv) place.2 ∙ ap (λ (x : MoveSlot). x.mv) slot_is,
    )) in
    views_swapped conn o st h s (record l { team = member_put l.team k (slot_put m j slot) }) spot (record {
      first = fit;
      second = fit_too;
      below = below;
      same = λ places members slots.
          put_member preview places s k l (slot_put m j slot) l.nicks inside there
          (slot_member_same preview (places.member s k) (places.slot s k) m j slot (slots k j (slot_there s k j))) (λ i. nick_self (places.member s i) (get_or l.nicks i []));
      member_side = λ t i sp. absurd cc;
      slot_side = λ t i n sp. (at_slot s k j t i n sp).0;
      member_hidden = λ i sp. absurd cc;
      slot_hidden = λ i n sp. (let at = at_slot s k j s i n sp in subst (λ (x : ℕ). (hidden conn one).slot s x n ≡ true) (sym at.1) (subst (λ (x : ℕ). (hidden conn one).slot s k x ≡ true) (sym at.2) hides));
      slot_untold = λ i n sp. (let at = at_slot s k j s i n sp in subst (λ (x : ℕ). list_any (is_told other (spot_at s x n)) (rounds one) ≡ false) (sym at.1) (subst (λ (x : ℕ). list_any (is_told other (spot_at s k x)) (rounds one) ≡ false) (sym at.2) untold));
      slot_counts = λ i n sp. (let at = at_slot s k j s i n sp in subst (λ (x : ℕ). (member_in st s x).slot_count ≡ (member_in other s x).slot_count) (sym at.1) (ap (λ (x : Member). x.slot_count) (sym member_is)));
    }) (all_ask_neither P Q s (slot_of m j).mv slot.mv (opened (with_start o st)) h at past)
