-- Openings that are the same to a connection: their records are alike, and every world begins settled.
use Rattle.std.proofs.Common.{◌≡◌, ℕ, ◌<◌, ◌≤◌, Bool, true, false, ◌&&◌, List, [], Option, Some, None, All, map, get_or, append-nil, refl, ap, ◌∙◌, sym, subst, arith}
use Rattle.std.proofs.Math.ListN.{get_or-map}
use Rattle.std.specs.Prelude.{not, nat_lt, is_some, option_map, slice_get, unwrap_or}
use Rattle.std.proofs.lemmas.Bool.{ltb-true}
use Rattle.ps_mon.specs.declared.team.Member.{Member}
use Rattle.ps_mon.specs.declared.team.MoveSlot.{MoveSlot}
use Rattle.ps_mon.specs.declared.team.BattleTeam.{BattleTeam}
use Rattle.ps_mon.specs.Reading.{slot_of}
use Rattle.ps_mon.specs.Teams.{IsFresh, IsFreshMember}
use Rattle.ps_mon.proofs.SideLemmas.{each_side}
use Rattle.ps_event.specs.declared.event.Event.{Event}
use Rattle.ps_event.specs.declared.side.Side.{Side}
use Rattle.ps_event.specs.declared.side.Side.TheVariants.{P1, P2}
use Rattle.ps_event.specs.Sides.{side_number}
use Rattle.ps_dex.specs.declared.item.Tables.{Tables}
use Rattle.rules_config.specs.declared.settings.Settings.{Settings}
use Rattle.rules_start.specs.declared.start.Start.{Start}
use Rattle.ps_valid.specs.declared.legal.Legal.{Legal}
use Rattle.rules_start.specs.Fits.{IsFit, legal_of, no_legal}
use Rattle.ps_view.specs.Named.{nick_of}
use Rattle.ps_battle.specs.Openings.{open_course, team_of}
use Rattle.battle_rounds.specs.Rounds.{Outcome, in_round, opened as opened_bout}
use Rattle.ps_hits.specs.Courses.{Course}
use Rattle.battle_secrecy.specs.Places.{Hidden}
use Rattle.battle_secrecy.specs.Alike.{AreSlotsAlike, AreShownAlike}
use Rattle.battle_secrecy.specs.Showing.{NamesNoHidden}
use Rattle.battle_secrecy.specs.Teams.{AreTeamsAlike, AreBothTeamsAlike, AreKindsSame}
use Rattle.battle_secrecy.proofs.OpeningLemmas.{fresh_teams_alike, open_alike}
use Rattle.ps_room.specs.Openings.{Opening, format_in, name_of_format, clauses_of_format, in_percent, team_of_legal, nicks_of_legal, names_of, bout_with, fight_with}
use Rattle.ps_room.specs.Records.{logged_events, logged_with, opened}
use Rattle.ps_laws.specs.Alike.{AreNamesAlike, AreBoutsAlike, AreFightsAlike, AreMaybeAlike, IsLoggedOpenly, own_bout, own_fight}
use Rattle.ps_laws.specs.Hidden.{member_in, hidden_with, is_previewed, own_sides}
use Rattle.ps_laws.specs.Rounds.{Round}
use Rattle.ps_laws.specs.Same.{IsSlotSame, AreEqualMembers, IsMemberSame, IsNickSame, nick_in, AreTeamsSame, AreStartsSame, AreBattlesSame}
use Rattle.ps_laws.proofs.PartLemmas.{if_none, side_below_two}
use Rattle.ps_laws.proofs.UserLemmas.{OwnsOf}
use Rattle.ps_laws.proofs.WaitLemmas.{WaitsIn}
use Rattle.ps_laws.proofs.TwinSideLemmas.{IsOpen}
use Rattle.ps_laws.proofs.TwinTellLemmas.{logged_openly}
use Rattle.ps_laws.proofs.HistoryLemmas.{IsSettled}

-- ---- a world begins settled

owns_opened : (ids : List (List ℕ)) (config : Settings) (dex : Tables) (bo : Option Start) → OwnsOf ids (own_sides ids config bo) (option_map (fight_with config dex) bo)
owns_opened ids config dex None = tt
owns_opened ids config dex (Some st) = λ s. refl

pub waits_opened : (config : Settings) (dex : Tables) (bo : Option Start) → WaitsIn (option_map (fight_with config dex) bo)
unfolding opened_bout
waits_opened config dex None = tt
waits_opened config dex (Some st) = record { first = tt; second = tt }

pub settled_opened : (conn : ℕ) (ids : List (List ℕ)) (own : ℕ → Bool) (o : Opening) → OwnsOf ids own (opened o).battle → IsSettled conn ids own (opened o)
settled_opened conn ids own o owns = record { owns = owns; home = tt; waits = waits_opened o.config o.dex o.battle }

pub owned : (ids : List (List ℕ)) (o : Opening) → OwnsOf ids (own_sides ids o.config o.battle) (opened o).battle
owned ids o = owns_opened ids o.config o.dex o.battle

-- ---- what is hidden at the opening

-- the places that are hidden in two stories, the first of which has these rounds
abbrev pub both : (preview : Bool) (own : ℕ → Bool) → Option Start → List Round → Hidden → Hidden
both preview own bo rs other = record {
  member = λ s k. (hidden_with preview own bo rs).member s k && other.member s k;
  slot = λ s k j. (hidden_with preview own bo rs).slot s k j && other.slot s k j;
  move = (hidden_with preview own bo rs).move;
}

never : (a b c : Bool) → (a && b && not true && c) ≡ false
never true true c = refl
never true false c = refl
never false b c = refl

pub own_open : (preview : Bool) (own : ℕ → Bool) (bo : Option Start) (rs : List Round) (other : Hidden) → IsOpen own (both preview own bo rs other)
own_open preview own None rs other = record { member = λ s k lt mine. refl; slot = λ s k j lt mine. refl }
own_open preview own (Some st) rs other = record { member = λ s k lt mine. rw mine refl; slot = λ s k j lt mine. rw mine refl }

-- the first member of a team isn't hidden, but for Team Preview
first_shown : (preview : Bool) (own : ℕ → Bool) (st : Start) (rs : List Round) (other : Hidden) (s : ℕ) → preview ≡ false → (both preview own (Some st) rs other).member s 0 ≡ false
first_shown false own st rs other s sent = never (not (own s)) (nat_lt 0 (legal_of st.teams s).team.count) (other.member s 0)
first_shown true own st rs other s sent = absurd cc

-- a slot that is hidden is one of its member's
inside_by : (a b c d : Bool) → (a && b && c && d) ≡ true → b ≡ true
inside_by true true c d e = refl
inside_by true false c d e = absurd cc
inside_by false b c d e = absurd cc

-- ---- teams

team_at : (teams : List Legal) (s : ℕ) → team_of (map team_of_legal teams) s ≡ (legal_of teams s).team
team_at teams s = get_or-map team_of_legal teams s no_legal

slot_alike : (hides : Bool) (x y : MoveSlot) → (hides ≡ true → 1 ≤ x.pp) → (hides ≡ true → 1 ≤ y.pp) → IsSlotSame hides x y → AreSlotsAlike hides x.mv x y
slot_alike true x y one two same = (refl, one refl, two refl)
slot_alike false x y one two same = same

-- members of which the hidden slots have PP
member_alike : (hides : ℕ → Bool) (m n : Member) → IsFreshMember m → IsFreshMember n → ((j : ℕ) → hides j ≡ true → j < m.slot_count) → AreEqualMembers hides m n → AreShownAlike hides (λ j. (slot_of m j).mv) m n
member_alike hides m n one two inside w =
    let counts : m.slot_count ≡ n.slot_count = ap (λ (x : Member). x.slot_count) w.front in
    record {
      four = one.ranges.four;
      four_too = two.ranges.four;
      front = w.front;
      slots = λ j. slot_alike (hides j) (slot_of m j) (slot_of n j) (λ h. one.pp j (inside j h)) (λ h. two.pp j (let lt = inside j h in omega (arith, lt, counts))) (w.slots j);
    }

shown_same : (preview hidden : Bool) (hides : ℕ → Bool) (m n : Member) → hidden ≡ false → IsMemberSame preview hidden hides m n → AreEqualMembers hides m n
shown_same preview false hides m n open_it w = w
shown_same preview true hides m n open_it w = absurd cc

-- under Team Preview all members are of the same kinds
kinds_same : (preview hidden : Bool) (hides : ℕ → Bool) (m n : Member) → preview ≡ true → IsMemberSame preview hidden hides m n → AreKindsSame m n
kinds_same preview false hides m n is w = record { species = ap (λ (x : Member). x.species) w.front; level = ap (λ (x : Member). x.level) w.front }
kinds_same true true hides m n is w = record { species = w.species; level = w.level }
kinds_same false true hides m n is w = absurd cc

moved_alike : (hides : ℕ → Bool) (moves : ℕ → ℕ) (m n : Member) → ((j : ℕ) → moves j ≡ (slot_of m j).mv) → AreShownAlike hides (λ j. (slot_of m j).mv) m n → AreShownAlike hides moves m n
moved_alike hides moves m n same w = record {
  four = w.four;
  four_too = w.four_too;
  front = w.front;
  slots = λ j. subst (λ (mv : ℕ). AreSlotsAlike (hides j) mv (slot_of m j) (slot_of n j)) (sym (same j)) (w.slots j);
}

team_alike : (preview : Bool) (places : Hidden) (one two : Start) (s : ℕ) → ((k j : ℕ) → places.slot s k j ≡ true → j < (member_in one s k).slot_count) → ((k j : ℕ) → places.move s k j ≡ (slot_of (member_in one s k) j).mv) → (preview ≡ false → places.member s 0 ≡ false) → IsFresh (legal_of one.teams s).team → IsFresh (legal_of two.teams s).team → AreTeamsSame preview places one two s → AreTeamsAlike preview (places.member s) (places.slot s) (places.move s) (legal_of one.teams s).team (legal_of two.teams s).team
team_alike preview places one two s inside moves first fresh fresh_too w =
    fresh_teams_alike preview (places.member s) (places.slot s) (places.move s) (legal_of one.teams s).team (legal_of two.teams s).team w.long fresh fresh_too w.count first (λ is k lt. kinds_same preview (places.member s k) (places.slot s k) (member_in one s k) (member_in two s k) is (w.members k lt))
    (λ k lt shown. moved_alike (places.slot s k) (places.move s k) (member_in one s k) (member_in two s k) (moves k)
    (member_alike (places.slot s k) (member_in one s k) (member_in two s k) (fresh.members k lt) (fresh_too.members k (let count = w.count in omega (arith, lt, count))) (inside k) (shown_same preview (places.member s k) (places.slot s k) _ _ shown (w.members k lt))))
    w.rest

slot_inside : (preview : Bool) (own : ℕ → Bool) (st : Start) (rs : List Round) (other : Hidden) (s k j : ℕ) → (both preview own (Some st) rs other).slot s k j ≡ true → j < (member_in st s k).slot_count
slot_inside preview own st rs other s k j h = ltb-true j (member_in st s k).slot_count (inside_by (not (own s)) (nat_lt j (member_in st s k).slot_count) _ (other.slot s k j) h)

slot_move : (preview : Bool) (own : ℕ → Bool) (st : Start) (rs : List Round) (other : Hidden) (s k j : ℕ) → (both preview own (Some st) rs other).move s k j ≡ (slot_of (member_in st s k) j).mv
slot_move preview own st rs other s k j = refl

teams_alike : (preview : Bool) (own : ℕ → Bool) (rs : List Round) (other : Hidden) (config : Settings) (dex : Tables) (one two : Start) → IsFit one config dex → IsFit two config dex → AreStartsSame preview (both preview own (Some one) rs other) one two → AreBothTeamsAlike preview (both preview own (Some one) rs other) (map team_of_legal one.teams) (map team_of_legal two.teams)
teams_alike preview own rs other config dex one two fit fit_too w = λ s lt.
    let places = both preview own (Some one) rs other in
    let fresh : IsFresh (legal_of one.teams s).team = each_side (λ s. IsFresh (legal_of one.teams s).team) fit.first.fresh fit.second.fresh s lt in
    let fresh_too : IsFresh (legal_of two.teams s).team = each_side (λ s. IsFresh (legal_of two.teams s).team) fit_too.first.fresh fit_too.second.fresh s lt in
    let alike = team_alike preview places one two s (slot_inside preview own one rs other s) (slot_move preview own one rs other s) (first_shown preview own one rs other s) fresh fresh_too (w.teams s lt) in
    subst (λ (t : BattleTeam). AreTeamsAlike preview (places.member s) (places.slot s) (places.move s) t (team_of (map team_of_legal two.teams) s)) (sym (team_at one.teams s))
    (subst (λ (t : BattleTeam). AreTeamsAlike preview (places.member s) (places.slot s) (places.move s) (legal_of one.teams s).team t) (sym (team_at two.teams s)) alike)

-- ---- names

nicks_at : (teams : List Legal) (s : ℕ) → get_or (map nicks_of_legal teams) s [] ≡ (legal_of teams s).nicks
nicks_at teams s = get_or-map nicks_of_legal teams s no_legal

nick_same : (hidden : Bool) (x y : List ℕ) → hidden ≡ false → IsNickSame hidden x y → x ≡ y
nick_same false x y shown same = same
nick_same true x y shown same = absurd cc

nick_is : (config : Settings) (st : Start) (side : Side) (k : ℕ) → nick_of (names_of config st) (record { side = side; member = k }) ≡ nick_in st (side_number side) k
nick_is config st P1 k = ap (λ (ns : List (List ℕ)). unwrap_or (slice_get ns k) []) (nicks_at st.teams 0)
nick_is config st P2 k = ap (λ (ns : List (List ℕ)). unwrap_or (slice_get ns k) []) (nicks_at st.teams 1)

pub format_same : (config : Settings) (one two : Start) → one.format ≡ two.format → format_in config one ≡ format_in config two
format_same config one two e = ap (λ (f : List ℕ). format_in config (record one { format = f })) e

pub names_alike : (preview : Bool) (places : Hidden) (config : Settings) (one two : Start) → AreStartsSame preview places one two → AreNamesAlike places (names_of config one) (names_of config two)
names_alike preview places config one two w = record {
  players = w.players;
  format = ap name_of_format (format_same config one two w.format);
  percent = ap in_percent (format_same config one two w.format);
  nicks = λ who shown. nick_is config one who.side who.member ∙ nick_same _ _ _ shown ((w.teams (side_number who.side) (side_below_two who.side)).nicks who.member) ∙ sym (nick_is config two who.side who.member);
}

-- ---- the battle

-- two openings of battles that are alike, and name no hidden member
pub record AreOpeningsAlike (places : Hidden) (one two : Outcome) : Type 0 where
  pub bout : AreBoutsAlike places one.bout two.bout
  pub told : one.told ≡ two.told
  pub names : NamesNoHidden places one.told

pub course_alike : (own : ℕ → Bool) (rs : List Round) (other : Hidden) (config : Settings) (dex : Tables) (one two : Start) → IsFit one config dex → IsFit two config dex →
    AreStartsSame (is_previewed config (Some one)) (both (is_previewed config (Some one)) own (Some one) rs other) one two → AreOpeningsAlike (both (is_previewed config (Some one)) own (Some one) rs other) (bout_with config one) (bout_with config two)
unfolding opened_bout
course_alike own rs other config dex one two fit fit_too w =
    let preview = is_previewed config (Some one) in
    let places = both preview own (Some one) rs other in
    let clauses = clauses_of_format (format_in config one) in
    let c = open_alike places (map team_of_legal one.teams) (map team_of_legal two.teams) clauses one.seed (teams_alike preview own rs other config dex one two fit fit_too w) in
    let same : open_course (map team_of_legal two.teams) clauses one.seed ≡ open_course (map team_of_legal two.teams) (clauses_of_format (format_in config two)) two.seed =
    ap (λ (x : ℕ). open_course (map team_of_legal two.teams) x one.seed) (ap clauses_of_format (format_same config one two w.format)) ∙ ap (open_course (map team_of_legal two.teams) (clauses_of_format (format_in config two))) w.seed in
    subst (λ (x : Course). AreOpeningsAlike places (bout_with config one) (in_round 1 x)) same (record {
      bout = record { battle = c.battle; round = refl; first = refl; second = refl };
      told = c.told;
      names = c.names;
    })

pub own_outcome : (own : ℕ → Bool) (config : Settings) (st : Start) → own_bout own (bout_with config st).bout ≡ (bout_with config st).bout
unfolding opened_bout
own_outcome own config st = rw (if_none (own 0), if_none (own 1)) refl

fights_alike : (preview : Bool) (own : ℕ → Bool) (rs : List Round) (other : Hidden) (config : Settings) (dex : Tables) (one two : Start) → AreStartsSame preview (both preview own (Some one) rs other) one two → AreOpeningsAlike (both preview own (Some one) rs other) (bout_with config one) (bout_with config two) → AreFightsAlike (both preview own (Some one) rs other) (record (fight_with config dex one) { bout = own_bout own (bout_with config one).bout }) (record (fight_with config dex two) { bout = own_bout own (bout_with config two).bout })
fights_alike preview own rs other config dex one two w o = record {
  number = w.number;
  names = names_alike preview (both preview own (Some one) rs other) config one two w;
  dex = refl;
  bout = rw (own_outcome own config one, own_outcome own config two) o.bout;
}

-- ---- the record

pub events_openly : (places : Hidden) (told : List Event) → NamesNoHidden places told → All (IsLoggedOpenly places) (logged_events told)
events_openly places told named = subst (All (IsLoggedOpenly places)) (append-nil (logged_events told)) (logged_openly places told [] named)

-- what an opening of a room makes of its battle
pub record AreBegunAlike (own : ℕ → Bool) (places : Hidden) (config : Settings) (dex : Tables) (one two : Option Start) : Type 0 where
  pub some : is_some one ≡ is_some two
  pub logged : logged_with config one ≡ logged_with config two
  pub openly : All (IsLoggedOpenly places) (logged_with config one)
  pub battle : AreMaybeAlike places (own_fight own (option_map (fight_with config dex) one)) (own_fight own (option_map (fight_with config dex) two))

abbrev pub FitsWith : Settings → Tables → Option Start → Type 0
FitsWith config dex None = Unit {0}
FitsWith config dex (Some st) = IsFit st config dex

pub begun_alike : (own : ℕ → Bool) (rs : List Round) (other : Hidden) (config : Settings) (dex : Tables) (one two : Option Start) → FitsWith config dex one → FitsWith config dex two →
    AreBattlesSame (is_previewed config one) (both (is_previewed config one) own one rs other) one two → AreBegunAlike own (both (is_previewed config one) own one rs other) config dex one two
begun_alike own rs other config dex None None fit fit_too w = record { some = refl; logged = refl; openly = λ k d lt. absurd (omega arith); battle = tt }
begun_alike own rs other config dex None (Some two) fit fit_too w = absurd w
begun_alike own rs other config dex (Some one) None fit fit_too w = absurd w
begun_alike own rs other config dex (Some one) (Some two) fit fit_too w =
    let preview = is_previewed config (Some one) in
    let o = course_alike own rs other config dex one two fit fit_too w in
    record {
      some = refl;
      logged = ap logged_events o.told;
      openly = events_openly (both preview own (Some one) rs other) (bout_with config one).told o.names;
      battle = fights_alike preview own rs other config dex one two w o;
    }
