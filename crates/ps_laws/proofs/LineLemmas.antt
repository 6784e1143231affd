-- The lines of events that name no hidden member are the same under names that differ in hidden members alone.
use Rattle.std.proofs.Common.{◌≡◌, ℕ, Bool, false, cond, List, Some, None, refl, ap, arith}
use Rattle.std.specs.List.{All}
use Rattle.ps_event.specs.declared.event.Event.{Event}
use Rattle.ps_event.specs.declared.event.Event.TheVariants as events
use Rattle.ps_event.specs.declared.event.Who.{Who}
use Rattle.ps_event.specs.declared.side.Side.{Side}
use Rattle.ps_event.specs.declared.side.Side.TheVariants.{P1, P2}
use Rattle.ps_event.specs.Table.{audience_of}
use Rattle.ps_event.specs.Sides.{side_number}
use Rattle.ps_dex.specs.declared.item.Tables.{Tables}
use Rattle.ps_view.specs.declared.names.Names.{Names}
use Rattle.ps_view.specs.declared.role.Role.{Role}
use Rattle.ps_view.specs.Named.{player_of}
use Rattle.ps_view.specs.Lines.{row_of, is_shown, line_of}
use Rattle.ps_view.specs.Roles.{reads_exactly}
use Rattle.battle_secrecy.specs.Places.{Hidden}
use Rattle.battle_secrecy.specs.Showing.{whos}
use Rattle.ps_laws.specs.Alike.{AreNamesAlike}

-- an event names no hidden member
abbrev pub NamesNone : Hidden → Event → Type 0
NamesNone places e = All (λ (w : Who). places.member (side_number w.side) w.member ≡ false) (whos e)

player_same : (places : Hidden) (one two : Names) (side : Side) → AreNamesAlike places one two → player_of one side ≡ player_of two side
player_same places one two P1 w = ap (λ (ps : List (List ℕ)). player_of (record two { players = ps }) P1) w.players
player_same places one two P2 w = ap (λ (ps : List (List ℕ)). player_of (record two { players = ps }) P2) w.players

pub row_same : (exact : Bool) (places : Hidden) (one two : Names) (dex : Tables) (e : Event) → AreNamesAlike places one two → NamesNone places e → row_of exact one dex e ≡ row_of exact two dex e
unfolding row_of
row_same exact places one two dex (events.Player side) w n = rw (player_same places one two side w) refl
row_same exact places one two dex events.Tier w n = rw w.format refl
row_same exact places one two dex (events.Switch who species level health) w n = rw (w.percent, w.nicks who (n 0 who (omega arith))) refl
row_same exact places one two dex (events.Move who mv target still from) w n = rw (w.nicks who (n 0 who (omega arith)), w.nicks target (n 1 who (omega arith))) refl
row_same exact places one two dex (events.Cant who reason) w n = rw (w.nicks who (n 0 who (omega arith))) refl
row_same exact places one two dex (events.Damage who health from) w n = rw (w.percent, w.nicks who (n 0 who (omega arith))) refl
row_same exact places one two dex (events.Heal who health) w n = rw (w.percent, w.nicks who (n 0 who (omega arith))) refl
row_same exact places one two dex (events.Status who status) w n = rw (w.nicks who (n 0 who (omega arith))) refl
row_same exact places one two dex (events.CureStatus who status) w n = rw (w.nicks who (n 0 who (omega arith))) refl
row_same exact places one two dex (events.Boost who stat by) w n = rw (w.nicks who (n 0 who (omega arith))) refl
row_same exact places one two dex (events.Unboost who stat by) w n = rw (w.nicks who (n 0 who (omega arith))) refl
row_same exact places one two dex (events.Crit who) w n = rw (w.nicks who (n 0 who (omega arith))) refl
row_same exact places one two dex (events.Super who) w n = rw (w.nicks who (n 0 who (omega arith))) refl
row_same exact places one two dex (events.Resisted who) w n = rw (w.nicks who (n 0 who (omega arith))) refl
row_same exact places one two dex (events.Immune who) w n = rw (w.nicks who (n 0 who (omega arith))) refl
row_same exact places one two dex (events.Miss who) w n = rw (w.nicks who (n 0 who (omega arith))) refl
row_same exact places one two dex (events.Fail who) w n = rw (w.nicks who (n 0 who (omega arith))) refl
row_same exact places one two dex (events.VolStart who effect mv) w n = rw (w.nicks who (n 0 who (omega arith))) refl
row_same exact places one two dex (events.VolEnd who effect) w n = rw (w.nicks who (n 0 who (omega arith))) refl
row_same exact places one two dex (events.Activate who effect mv) w n = rw (w.nicks who (n 0 who (omega arith))) refl
row_same exact places one two dex (events.MustRecharge who) w n = rw (w.nicks who (n 0 who (omega arith))) refl
row_same exact places one two dex (events.Prepare who mv) w n = rw (w.nicks who (n 0 who (omega arith))) refl
row_same exact places one two dex (events.Transform who target) w n = rw (w.nicks who (n 0 who (omega arith)), w.nicks target (n 1 who (omega arith))) refl
row_same exact places one two dex (events.HitCount who hits) w n = rw (w.nicks who (n 0 who (omega arith))) refl
row_same exact places one two dex (events.Faint who) w n = rw (w.nicks who (n 0 who (omega arith))) refl
row_same exact places one two dex (events.Forfeit side) w n = rw (player_same places one two side w) refl
row_same exact places one two dex (events.Win side) w n = rw (player_same places one two side w) refl
row_same exact places one two dex other w n = refl

pub line_same : (places : Hidden) (one two : Names) (dex : Tables) (role : Role) (e : Event) → AreNamesAlike places one two → NamesNone places e → line_of e role one dex ≡ line_of e role two dex
unfolding line_of
line_same places one two dex role e w n =
    ap (λ (text : List ℕ). cond (is_shown e role) (Some text) None) (row_same (reads_exactly (audience_of e) role) places one two dex e w n)
