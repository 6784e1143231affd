-- Battles of alike teams are alike at the opening, and tell the same of it; a forfeit keeps them so.
use Rattle.std.proofs.Common.{◌≡◌, ◌⊎◌, ℕ, zero, suc, ◌<◌, ◌≤◌, ◌-◌, ◌==◌, ◌++◌, List, [], ◌∷◌, All, length, map, take, get_or, arith, refl, le_refl, ap, ◌∙◌, sym, subst, inl, inr, Bool, true, false, not}
use Rattle.std.specs.Prelude.{bit_and}
use Rattle.std.proofs.lemmas.List.Elements.{All-nil}
use Rattle.std.proofs.lemmas.Bool.Decides.{leb_tells}
use Rattle.std.proofs.lemmas.List.{get_or_past}
use Rattle.ps_event.specs.declared.event.Event.{Event}
use Rattle.ps_event.specs.declared.event.Event.TheVariants as events
use Rattle.ps_event.specs.declared.side.Side.{Side}
use Rattle.ps_event.specs.declared.side.Side.TheVariants.{P1, P2}
use Rattle.ps_mon.specs.declared.record.Battle.{Battle}
use Rattle.ps_mon.specs.declared.record.Phase.{Phase}
use Rattle.ps_mon.specs.declared.record.Phase.TheVariants as phases
use Rattle.ps_mon.specs.declared.team.BattleTeam.{BattleTeam}
use Rattle.ps_mon.specs.declared.team.Member.{Member}
use Rattle.ps_mon.specs.Reading.{side_of, no_member}
use Rattle.ps_mon.specs.Teams.{opened, IsFresh, IsFreshMember}
use Rattle.ps_mon.proofs.SideLemmas.{each_side}
use Rattle.ps_mon.proofs.OpeningLemmas.{at-six}
use Rattle.ps_hits.specs.Courses.{untold}
use Rattle.ps_battle.specs.Closings.{asks, enter}
use Rattle.ps_battle.specs.Switches.{switch_event}
use Rattle.ps_battle.specs.Openings.{team_of, rules, heads, previews, first_phase, fresh_battle, poke, pokes, previewed, started, shown_in, opening, open_course, give_up}
use Rattle.battle_secrecy.specs.Places.{Hidden}
use Rattle.battle_secrecy.specs.Alike.{AreAlike, AreSidesAlikeUnsent, AreBattlesAlike, AreActiveShown, IsUnsent, AreMembersAlike, AreShownAlike, IsPlaced, IsUnhurt}
use Rattle.battle_secrecy.specs.Laws.{AreToldAlike}
use Rattle.battle_secrecy.specs.Showing.{whos}
use Rattle.battle_secrecy.specs.Teams.{IsSized, AreTeamsAlike, AreBothTeamsAlike, AreKindsSame, teammate}
use Rattle.battle_secrecy.proofs.SwitchLemmas.{switch_event_alike}
use Rattle.battle_secrecy.proofs.OrderLemmas.{sent_alike}
use Rattle.battle_secrecy.proofs.TellTurnLemmas.{IsOut, IsShown, give_up_names, open_names}

-- a member that is read past the list has no slots, so it isn't fresh
short : (t : BattleTeam) → IsFresh t → length t.members < t.count → ⊥
short t fresh lt =
    let four : length (teammate t (length t.members)).slots ≡ 4 = (fresh.members (length t.members) lt).ranges.four in
    let none : 0 ≡ 4 = subst (λ (m : Member). length m.slots ≡ 4) (get_or_past t.members (length t.members) no_member (le_refl (length t.members))) four in
    omega (arith, none)

pub fresh_sized : (t : BattleTeam) → IsFresh t → IsSized t
fresh_sized t fresh = record {
  count = fresh.count;
  count_high = fresh.count_high;
  long = elim (leb_tells t.count (length t.members)) [
    | inl long ↦ long.1
    | inr past ↦ absurd (short t fresh past.1)
  ];
}

-- a fresh member is unhurt
pub fresh_unhurt : (m : Member) → IsFreshMember m → IsUnhurt m
fresh_unhurt m fresh = record { healthy = fresh.healthy; full = fresh.full; stands = fresh.ranges.max }

-- alike where it isn't hidden, else fresh
either-way : (hides : Bool) (slot : ℕ → Bool) (move : ℕ → ℕ) (m n : Member) → IsFreshMember m → IsFreshMember n → (hides ≡ false → AreShownAlike slot move m n) → AreMembersAlike hides slot move m n
either-way true slot move m n one two shown = (fresh_unhurt m one, fresh_unhurt n two)
either-way false slot move m n one two shown = shown refl

-- of fresh teams only the members that aren't hidden need be alike
pub fresh_teams_alike : (preview : Bool) (member : ℕ → Bool) (slot : ℕ → ℕ → Bool) (move : ℕ → ℕ → ℕ) (a b : BattleTeam) → length a.members ≡ length b.members → IsFresh a → IsFresh b →
    a.count ≡ b.count → (preview ≡ false → member 0 ≡ false) → (preview ≡ true → (k : ℕ) → k < a.count → AreKindsSame (teammate a k) (teammate b k)) → ((k : ℕ) → k < a.count → member k ≡ false → AreShownAlike (slot k) (move k) (teammate a k) (teammate b k)) →
    ((k : ℕ) → a.count ≤ k → teammate a k ≡ teammate b k) → AreTeamsAlike preview member slot move a b
fresh_teams_alike preview member slot move a b long one two count first kinds shown rest = record {
  first = fresh_sized a one;
  second = fresh_sized b two;
  long = long;
  count = count;
  active = first;
  kinds = kinds;
  members = λ k h. either-way (member k) (slot k) (move k) _ _ (one.members k h) (two.members k (omega (arith, count))) (shown k h);
  rest = rest;
}

opened-placed : (t : BattleTeam) → IsSized t → IsPlaced (opened t)
opened-placed t sized = record {
  count = sized.count;
  count_high = sized.count_high;
  long = sized.long;
  six_order = refl;
  order = λ k h. rw (at-six k (omega (arith, sized.count_high))) h;
}

-- a side of each of two alike teams
opened-alike : (preview : Bool) (member : ℕ → Bool) (slot : ℕ → ℕ → Bool) (move : ℕ → ℕ → ℕ) (a b : BattleTeam) → AreTeamsAlike preview member slot move a b → AreSidesAlikeUnsent member slot move (opened a) (opened b)
opened-alike preview member slot move a b alike = record {
  first = opened-placed a alike.first;
  second = opened-placed b alike.second;
  count = alike.count;
  order = refl;
  vol = refl;
  members = alike.members;
  long = alike.long;
  rest = alike.rest;
}

fresh-alike : (preview : Bool) (hidden : Hidden) (a b : List BattleTeam) (clauses seed : ℕ) → AreBothTeamsAlike preview hidden a b → IsUnsent (first_phase clauses) ⊎ AreActiveShown hidden (fresh_battle a clauses seed) → AreBattlesAlike hidden (fresh_battle a clauses seed) (fresh_battle b clauses seed)
unfolding fresh_battle
fresh-alike preview hidden a b clauses seed alike active = record {
  first_two = refl;
  second_two = refl;
  turn = refl;
  phase = refl;
  clauses = refl;
  rng = refl;
  sides = each_side (λ s. AreSidesAlikeUnsent (hidden.member s) (hidden.slot s) (hidden.move s) (side_of (fresh_battle a clauses seed) s) (side_of (fresh_battle b clauses seed) s))
      (opened-alike preview _ _ _ _ _ (alike 0 (omega arith))) (opened-alike preview _ _ _ _ _ (alike 1 (omega arith)));
  active = active;
}

-- ---- what is told

-- the rows before the teams or their first members
rows : Battle → List Event → List Event
rows b told = rules b.clauses (heads (side_of b 0).count (side_of b 1).count told)

rows-alike : (hidden : Hidden) (a b : Battle) (told : List Event) → AreBattlesAlike hidden a b → rows a told ≡ rows b told
unfolding rows
rows-alike hidden a b told w =
    ap (λ (n : ℕ). rules n (heads (side_of a 0).count (side_of a 1).count told)) w.clauses
    ∙ ap (λ (n : ℕ). rules b.clauses (heads n (side_of a 1).count told)) (w.sides 0 (omega arith)).count
    ∙ ap (λ (n : ℕ). rules b.clauses (heads (side_of b 0).count n told)) (w.sides 1 (omega arith)).count

opening-in : (b : Battle) (phase : Phase) (told : List Event) → b.phase ≡ phase → opening b told ≡ shown_in phase b (rows b told)
unfolding opening rows
opening-in b phase told is = ap (λ (p : Phase). shown_in p b (rules b.clauses (heads (side_of b 0).count (side_of b 1).count told))) is

starts-of : Event → Event → List Event → List Event
starts-of first second told = told ++ events.Start ∷ first ∷ second ∷ events.Turn 1 ∷ asks

started-is : (b : Battle) (told : List Event) → started b told ≡ starts-of (switch_event 0 (side_of b 0)) (switch_event 1 (side_of b 1)) told
unfolding started starts-of
started-is b told = refl

-- both tell the same of their first members
pub started_alike : (hidden : Hidden) (a b : Battle) (told : List Event) → AreAlike hidden a b → started a told ≡ started b told
started_alike hidden a b told alike =
    let first = switch_event_alike _ _ _ 0 _ _ (alike.sides 0 (omega arith)) in
    let second = switch_event_alike _ _ _ 1 _ _ (alike.sides 1 (omega arith)) in
    cc (started-is a told, started-is b told, first, second)

-- and where all members are of the same kinds, of their teams
pokes-same : (name : Side) (n : ℕ) (xs ys : List Member) → n ≤ length xs → n ≤ length ys → ((k : ℕ) → k < n → AreKindsSame (get_or xs k no_member) (get_or ys k no_member)) → map (poke name) (take n xs) ≡ map (poke name) (take n ys)
pokes-same name zero [] [] p q same = refl
pokes-same name zero [] (y ∷ ys) p q same = refl
pokes-same name zero (x ∷ xs) [] p q same = refl
pokes-same name zero (x ∷ xs) (y ∷ ys) p q same = refl
pokes-same name (suc n) [] ys p q same = absurd (omega (arith, p))
pokes-same name (suc n) (x ∷ xs) [] p q same = absurd (omega (arith, q))
pokes-same name (suc n) (x ∷ xs) (y ∷ ys) p q same =
    let first : AreKindsSame x y = same 0 (omega arith) in
    let rest = pokes-same name n xs ys (omega (arith, p)) (omega (arith, q)) (λ k lt. same (suc k) (omega (arith, lt))) in
    ap (λ (s : ℕ). events.Poke name s x.level ∷ map (poke name) (take n xs)) first.species
    ∙ ap (λ (l : ℕ). events.Poke name y.species l ∷ map (poke name) (take n xs)) first.level
    ∙ ap (λ (es : List Event). poke name y ∷ es) rest

team-shown : (name : Side) (member : ℕ → Bool) (slot : ℕ → ℕ → Bool) (move : ℕ → ℕ → ℕ) (a b : BattleTeam) → AreTeamsAlike true member slot move a b → pokes name (opened a) ≡ pokes name (opened b)
team-shown name member slot move a b w =
    pokes-same name a.count a.members b.members w.first.long (omega (arith, w.count, w.second.long)) (w.kinds refl)
    ∙ ap (λ (n : ℕ). map (poke name) (take n b.members)) w.count

previews-of : List Event → List Event → List Event → List Event
previews-of first second told = told ++ events.ClearPoke ∷ [] ++ first ++ second ++ events.TeamPreview ∷ asks

previewed-is : (b : Battle) (told : List Event) → previewed b told ≡ previews-of (pokes P1 (side_of b 0)) (pokes P2 (side_of b 1)) told
unfolding previewed previews-of
previewed-is b told = refl

-- ---- the opening

first-turn : (clauses : ℕ) → (bit_and clauses 64 == 0) ≡ true → first_phase clauses ≡ phases.Turn
unfolding first_phase
first-turn clauses e = rw e refl

first-preview : (clauses : ℕ) → (bit_and clauses 64 == 0) ≡ false → first_phase clauses ≡ phases.Preview
unfolding first_phase
first-preview clauses e = rw e refl

fresh-phase : (teams : List BattleTeam) (clauses seed : ℕ) → (fresh_battle teams clauses seed).phase ≡ first_phase clauses
unfolding fresh_battle
fresh-phase teams clauses seed = refl

fresh-shown : (hidden : Hidden) (teams : List BattleTeam) (clauses seed : ℕ) → hidden.member 0 0 ≡ false → hidden.member 1 0 ≡ false → AreActiveShown hidden (fresh_battle teams clauses seed)
unfolding fresh_battle
fresh-shown hidden teams clauses seed first second = each_side (λ s. hidden.member s (get_or (side_of (fresh_battle teams clauses seed) s).order 0 0) ≡ false) first second

-- both begin with turn 1
open-turn : (hidden : Hidden) (a b : List BattleTeam) (clauses seed : ℕ) → (bit_and clauses 64 == 0) ≡ true → AreBothTeamsAlike false hidden a b → AreToldAlike hidden (open_course a clauses seed) (open_course b clauses seed)
open-turn hidden a b clauses seed e alike =
    let zero_in : 0 < 2 = omega arith in
    let one_in : 1 < 2 = omega arith in
    let first : hidden.member 0 0 ≡ false = (alike 0 zero_in).active refl in
    let second : hidden.member 1 0 ≡ false = (alike 1 one_in).active refl in
    let shown : AreActiveShown hidden (fresh_battle a clauses seed) = fresh-shown hidden a clauses seed first second in
    let battle : AreBattlesAlike hidden (fresh_battle a clauses seed) (fresh_battle b clauses seed) = fresh-alike false hidden a b clauses seed alike (inr shown) in
    let is : (ts : List BattleTeam) → (fresh_battle ts clauses seed).phase ≡ phases.Turn = λ ts. fresh-phase ts clauses seed ∙ first-turn clauses e in
    record {
      battle = battle;
      told = opening-in _ phases.Turn [] (is a)
          ∙ started_alike hidden _ _ _ (sent_alike hidden _ _ shown battle)
          ∙ ap (started (fresh_battle b clauses seed)) (rows-alike hidden _ _ [] battle)
          ∙ sym (opening-in _ phases.Turn [] (is b));
      names = open_names hidden a clauses seed (λ out. first) (λ out. second);
    }

previewed-same : (hidden : Hidden) (a b : List BattleTeam) (clauses seed : ℕ) (told : List Event) → AreBothTeamsAlike true hidden a b → previewed (fresh_battle a clauses seed) told ≡ previewed (fresh_battle b clauses seed) told
unfolding fresh_battle
previewed-same hidden a b clauses seed told alike =
    let first = team-shown P1 _ _ _ (team_of a 0) (team_of b 0) (alike 0 (omega arith)) in
    let second = team-shown P2 _ _ _ (team_of a 1) (team_of b 1) (alike 1 (omega arith)) in
    previewed-is _ told
    ∙ ap (λ (es : List Event). previews-of es (pokes P2 (opened (team_of a 1))) told) first
    ∙ ap (λ (es : List Event). previews-of (pokes P1 (opened (team_of b 0))) es told) second
    ∙ sym (previewed-is _ told)

-- both begin with Team Preview
open-preview : (hidden : Hidden) (a b : List BattleTeam) (clauses seed : ℕ) → (bit_and clauses 64 == 0) ≡ false → AreBothTeamsAlike true hidden a b → AreToldAlike hidden (open_course a clauses seed) (open_course b clauses seed)
open-preview hidden a b clauses seed e alike =
    let phase : first_phase clauses ≡ phases.Preview = first-preview clauses e in
    let unsent : IsUnsent (first_phase clauses) = subst IsUnsent (sym phase) tt in
    let battle : AreBattlesAlike hidden (fresh_battle a clauses seed) (fresh_battle b clauses seed) = fresh-alike true hidden a b clauses seed alike (inl unsent) in
    let is : (ts : List BattleTeam) → (fresh_battle ts clauses seed).phase ≡ phases.Preview = λ ts. fresh-phase ts clauses seed ∙ phase in
    let never : IsOut (first_phase clauses) → ⊥ = λ out. subst IsOut phase out in
    record {
      battle = battle;
      told = opening-in _ phases.Preview [] (is a)
          ∙ previewed-same hidden a b clauses seed _ alike
          ∙ ap (previewed (fresh_battle b clauses seed)) (rows-alike hidden _ _ [] battle)
          ∙ sym (opening-in _ phases.Preview [] (is b));
      names = open_names hidden a clauses seed (λ out. absurd (never out)) (λ out. absurd (never out));
    }

by-bit : (t : Bool) (hidden : Hidden) (a b : List BattleTeam) (clauses seed : ℕ) → (bit_and clauses 64 == 0) ≡ t → AreBothTeamsAlike (not t) hidden a b → AreToldAlike hidden (open_course a clauses seed) (open_course b clauses seed)
by-bit true hidden a b clauses seed e alike = open-turn hidden a b clauses seed e alike
by-bit false hidden a b clauses seed e alike = open-preview hidden a b clauses seed e alike

-- battles of alike teams are alike at the opening, and tell the same of it
pub open_alike : (hidden : Hidden) (a b : List BattleTeam) (clauses seed : ℕ) → AreBothTeamsAlike (previews clauses) hidden a b → AreToldAlike hidden (open_course a clauses seed) (open_course b clauses seed)
open_alike hidden a b clauses seed alike = by-bit (bit_and clauses 64 == 0) hidden a b clauses seed refl alike

-- ---- a forfeit

-- a side gives up
pub give_up_alike : (s : ℕ) (hidden : Hidden) (a b : Battle) → AreBattlesAlike hidden a b → AreToldAlike hidden (give_up s (untold a)) (give_up s (untold b))
unfolding give_up enter
give_up_alike s hidden a b w = record {
  battle = record {
    first_two = w.first_two;
    second_two = w.second_two;
    turn = w.turn;
    phase = refl;
    clauses = w.clauses;
    rng = w.rng;
    sides = w.sides;
    active = still w.active;
  };
  told = refl;
  names = give_up_names s hidden (untold a) (All-nil (λ e. All (IsShown hidden) (whos e)));
}
  where
    still : IsUnsent a.phase ⊎ AreActiveShown hidden a → IsUnsent (phases.Won (1 - s)) ⊎ AreActiveShown hidden a
    still (inl unsent) = inl tt
    still (inr shown) = inr shown
