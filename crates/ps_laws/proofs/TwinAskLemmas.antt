-- Two battles that are alike ask an own side alike, and a connection is asked of own sides alone.
use Rattle.std.proofs.Common.{◌≡◌, ℕ, zero, suc, ◌<◌, Bool, true, false, cond, List, [], ◌∷◌, ◌++◌, map, take, Option, Some, None, refl, ap, ◌∙◌, sym, arith}
use Rattle.std.specs.Prelude.{codes, ◌&&◌, ◌==◌, slice_get, unwrap_or}
use Rattle.std.specs.List.{cons_option}
use Rattle.ps_event.specs.declared.event.Event.{Event}
use Rattle.ps_event.specs.declared.event.Event.TheVariants as events
use Rattle.ps_event.specs.declared.side.Side.{Side}
use Rattle.ps_event.specs.declared.side.Side.TheVariants.{P1, P2}
use Rattle.ps_event.specs.Sides.{side_number}
use Rattle.ps_mon.specs.declared.record.Phase.{Phase}
use Rattle.ps_mon.specs.declared.record.SideState.{SideState}
use Rattle.ps_mon.specs.Reading.{side_of, active_index, member_of}
use Rattle.ps_mon.specs.Valid.{is_over}
use Rattle.ps_hits.specs.Told.{side_name}
use Rattle.ps_dex.specs.declared.item.Tables.{Tables}
use Rattle.ps_choice.specs.Shown.{text_or_none, nick_of as nick_at}
use Rattle.ps_choice.specs.Requests.{member_data, member_at_data, members_data, side_data, is_out, request_data, request}
use Rattle.ps_view.specs.declared.names.Names.{Names}
use Rattle.ps_view.specs.declared.role.Role.{Role}
use Rattle.ps_view.specs.Named.{nick_of, nicks_of, player_of}
use Rattle.ps_view.specs.Roles.{is_player}
use Rattle.battle_rounds.specs.declared.bout.Bout.{Bout}
use Rattle.battle_rounds.specs.Asked.{request_line}
use Rattle.battle_rounds.specs.Casts.{Cast}
use Rattle.battle_rounds.specs.Fights.{Fight, request_at, requests, request_unless, open_request}
use Rattle.ps_chat.specs.Lines.{Line}
use Rattle.ps_chat.specs.Lookups.{member}
use Rattle.ps_chat.specs.declared.present.Present.{Present}
use Rattle.battle_secrecy.specs.Places.{Hidden}
use Rattle.ps_room.specs.Records.{Record, presents_of}
use Rattle.ps_room.specs.Roles.{side_of_member}
use Rattle.ps_room.specs.Rooms.{request_for, role, seen_texts}
use Rattle.ps_laws.specs.Alike.{AreNamesAlike, AreBoutsAlike, AreFightsAlike, AreMaybeAlike}
use Rattle.ps_laws.proofs.PartLemmas.{PlaysOwn, side_below, side_below_two}
use Rattle.ps_laws.proofs.UserLemmas.{OwnsOf, IsHome, plays_own}
use Rattle.ps_laws.proofs.TwinSideLemmas.{IsOpen, own_side_equal, side_same}

-- ---- the request of an own side

text_is : (o : Option (List ℕ)) → text_or_none o ≡ unwrap_or o []
text_is None = refl
text_is (Some text) = refl

-- requests and lines read a nickname alike
nick_is : (names : Names) (side : Side) (k : ℕ) → nick_at (nicks_of names side) k ≡ nick_of names (record { side = side; member = k })
nick_is names side k = text_is (slice_get (nicks_of names side) k)

-- no nickname of an own side is hidden
own_nick_same : (own : ℕ → Bool) (places : Hidden) (one two : Names) (s k : ℕ) → IsOpen own places → s < 2 → own s ≡ true → AreNamesAlike places one two →
    nick_at (nicks_of one (side_name s)) k ≡ nick_at (nicks_of two (side_name s)) k
own_nick_same own places one two zero k plain lt mine w = nick_is one P1 k ∙ w.nicks (record { side = P1; member = k }) (plain.member 0 k lt mine) ∙ sym (nick_is two P1 k)
own_nick_same own places one two (suc zero) k plain lt mine w = nick_is one P2 k ∙ w.nicks (record { side = P2; member = k }) (plain.member 1 k lt mine) ∙ sym (nick_is two P2 k)
own_nick_same own places one two (suc (suc s)) k plain lt mine w = absurd (omega arith)

player_same_at : (places : Hidden) (one two : Names) (s : ℕ) → AreNamesAlike places one two → player_of one (side_name s) ≡ player_of two (side_name s)
player_same_at places one two zero w = ap (λ (ps : List (List ℕ)). player_of (record two { players = ps }) P1) w.players
player_same_at places one two (suc s) w = ap (λ (ps : List (List ℕ)). player_of (record two { players = ps }) P2) w.players

-- a team is told by its nicknames one by one
members_same : (dex : Tables) (one two : List (List ℕ)) (s : ℕ) (out : Bool) (side : SideState) → ((k : ℕ) → nick_at one k ≡ nick_at two k) → members_data dex one s out side ≡ members_data dex two s out side
unfolding member_at_data
members_same dex one two s out side same = ap (λ (nick : ℕ → List ℕ). map (λ k. member_data dex s (out && k == active_index side) (nick k) (member_of side k)) (take side.count side.order)) (λ i k. same k i)

side_data_same : (dex : Tables) (name : List ℕ) (one two : List (List ℕ)) (s : ℕ) (out : Bool) (side : SideState) → ((k : ℕ) → nick_at one k ≡ nick_at two k) →
    side_data dex name one s out side ≡ side_data dex name two s out side
unfolding side_data
side_data_same dex name one two s out side same =
    rw (members_same dex one two s out side same) refl

request_nicks_same : (phase : Phase) (dex : Tables) (name : List ℕ) (one two : List (List ℕ)) (s : ℕ) (side : SideState) (round : ℕ) → ((k : ℕ) → nick_at one k ≡ nick_at two k) →
    request phase dex name one s side round ≡ request phase dex name two s side round
unfolding request_data
request_nicks_same phase dex name one two s side round same = rw (side_data_same dex name one two s (is_out phase) side same) refl

line_is : (b : Bout) (dex : Tables) (names : Names) (s : ℕ) →
    request_line b dex names s ≡ codes "|request|" ++ request b.battle.phase dex (player_of names (side_name s)) (nicks_of names (side_name s)) s (side_of b.battle s) b.round
unfolding request_line
line_is b dex names s = refl

-- what the lines of both battles name
pub record AreCastsAlike (places : Hidden) (c d : Cast) : Type 0 where
  pub names : AreNamesAlike places c.names d.names
  pub dex : c.dex ≡ d.dex

pub casts_alike : (places : Hidden) (f g : Fight) → AreFightsAlike places f g → AreCastsAlike places f.cast g.cast
casts_alike places f g w = record { names = w.names; dex = w.dex }

pub request_same : (own : ℕ → Bool) (places : Hidden) (c d : Cast) (a b : Bout) (s : ℕ) → IsOpen own places → s < 2 → own s ≡ true → AreCastsAlike places c d →
    AreBoutsAlike places a b → request_line a c.dex c.names s ≡ request_line b d.dex d.names s
request_same own places c d a b s plain lt mine casts w =
    let ask : Phase → Tables → List ℕ → List (List ℕ) → SideState → ℕ → List ℕ = λ phase dex name nicks side round. codes "|request|" ++ request phase dex name nicks s side round in
    let one = player_of c.names (side_name s) in
    let two = player_of d.names (side_name s) in
    let nicks = nicks_of c.names (side_name s) in
    let nicks_too = nicks_of d.names (side_name s) in
    line_is a c.dex c.names s
    ∙ ap (λ (x : Phase). ask x c.dex one nicks (side_of a.battle s) a.round) w.battle.phase
    ∙ ap (λ (x : Tables). ask b.battle.phase x one nicks (side_of a.battle s) a.round) casts.dex
    ∙ ap (λ (x : List ℕ). ask b.battle.phase d.dex x nicks (side_of a.battle s) a.round) (player_same_at places c.names d.names s casts.names)
    ∙ ap (λ (x : SideState). ask b.battle.phase d.dex two nicks x a.round) (own_side_equal own places a.battle b.battle s plain lt mine w.battle)
    ∙ ap (λ (x : ℕ). ask b.battle.phase d.dex two nicks (side_of b.battle s) x) w.round
    ∙ ap (λ (text : List ℕ). codes "|request|" ++ text)
    (request_nicks_same b.battle.phase d.dex two nicks nicks_too s (side_of b.battle s) b.round (λ k. own_nick_same own places c.names d.names s k plain lt mine casts.names))
    ∙ sym (line_is b d.dex d.names s)

-- ---- who is asked

-- who plays a side of which this is the role plays an own one
abbrev pub AsksOwn : (ℕ → Bool) → Role → Type 0
AsksOwn own role = (side : Side) → is_player side role ≡ true → own (side_number side) ≡ true

asks_by : (own : ℕ → Bool) (s : ℕ) (mine plays : Bool) → own s ≡ mine → (own s ≡ false → plays ≡ false) → plays ≡ true → own s ≡ true
asks_by own s true plays is other e = is
asks_by own s false plays is other e = absurd (let wrong : true ≡ false = sym e ∙ other is in cc)

pub home_asks : (conn : ℕ) (ids : List (List ℕ)) (own : ℕ → Bool) (r : Record) → OwnsOf ids own r.battle → IsHome ids (member conn (presents_of r)) → AsksOwn own (role conn r)
home_asks conn ids own r owns home P1 e = asks_by own 0 (own 0) _ refl (plays_own conn ids own r 0 owns home (omega arith)) e
home_asks conn ids own r owns home P2 e = asks_by own 1 (own 1) _ refl (plays_own conn ids own r 1 owns home (omega arith)) e

-- ---- the requests that a connection sees

-- a text that is seen is the same in both
seen_by : (seen : Bool) (x y : List ℕ) (xs ys : List (List ℕ)) → (seen ≡ true → x ≡ y) → xs ≡ ys → cons_option (cond seen (Some x) None) xs ≡ cons_option (cond seen (Some y) None) ys
seen_by true x y xs ys same more = rw (same refl, more) refl
seen_by false x y xs ys same more = more

seen_event_same : (conn : ℕ) (role : Role) (c d : Cast) (a b : Bout) (e : Event) (xs ys : List Line) →
    ((side : Side) → is_player side role ≡ true → request_line a c.dex c.names (side_number side) ≡ request_line b d.dex d.names (side_number side)) →
    seen_texts conn role xs ≡ seen_texts conn role ys →
    seen_texts conn role (cons_option (request_at c a e) xs) ≡ seen_texts conn role (cons_option (request_at d b e) ys)
seen_event_same conn role c d a b (events.Request side) xs ys same more = seen_by (is_player side role) _ _ _ _ (same side) more
seen_event_same conn role c d a b other xs ys same more = more

seen_all_same : (conn : ℕ) (role : Role) (c d : Cast) (a b : Bout) (told : List Event) →
    ((side : Side) → is_player side role ≡ true → request_line a c.dex c.names (side_number side) ≡ request_line b d.dex d.names (side_number side)) →
    seen_texts conn role (requests c a told) ≡ seen_texts conn role (requests d b told)
seen_all_same conn role c d a b [] same = refl
seen_all_same conn role c d a b (e ∷ told) same = seen_event_same conn role c d a b e (requests c a told) (requests d b told) same (seen_all_same conn role c d a b told same)

pub requests_same : (conn : ℕ) (own : ℕ → Bool) (places : Hidden) (role : Role) (c d : Cast) (a b : Bout) (told : List Event) → IsOpen own places → AsksOwn own role →
    AreCastsAlike places c d → AreBoutsAlike places a b →
    seen_texts conn role (requests c a told) ≡ seen_texts conn role (requests d b told)
requests_same conn own places role c d a b told plain asks casts w =
    seen_all_same conn role c d a b told (λ side plays. request_same own places c d a b (side_number side) plain (side_below_two side) (asks side plays) casts w)

-- ---- the request for who joins

unless_same : (over : Bool) (f g : Fight) (s : ℕ) → request_line f.bout f.cast.dex f.cast.names s ≡ request_line g.bout g.cast.dex g.cast.names s → request_unless over f s ≡ request_unless over g s
unless_same true f g s e = refl
unless_same false f g s e = ap Some e

open_request_same : (own : ℕ → Bool) (places : Hidden) (f g : Fight) (side : Option ℕ) → IsOpen own places → ((s : ℕ) → side ≡ Some s → s < 2) →
    ((s : ℕ) → side ≡ Some s → own s ≡ true) → AreFightsAlike places f g → open_request f side ≡ open_request g side
open_request_same own places f g None plain below mine w = refl
open_request_same own places f g (Some s) plain below mine w =
    ap (λ (x : Phase). request_unless (is_over x) f s) w.bout.battle.phase
    ∙ unless_same (is_over g.bout.battle.phase) f g s (request_same own places f.cast g.cast f.bout g.bout s plain (below s refl) (mine s refl) (casts_alike places f g w) w.bout)

pub request_for_same : (own : ℕ → Bool) (places : Hidden) (fo go : Option Fight) (p : Present) → IsOpen own places → PlaysOwn own fo (Some p) → AreMaybeAlike places fo go →
    request_for fo p ≡ request_for go p
request_for_same own places None None p plain plays w = refl
request_for_same own places None (Some g) p plain plays w = absurd w
request_for_same own places (Some f) None p plain plays w = absurd w
request_for_same own places (Some f) (Some g) p plain plays w =
    open_request_same own places f g (side_of_member f.cast (Some p)) plain (side_below f.cast (Some p)) plays w
    ∙ ap (open_request g) (side_same places f g (Some p) w)
