-- Alike: how the records of two worlds that are the same to a connection stand to each other.
use Rattle.std.specs.Prelude.{◌≡◌, ℕ, Bool, true, false, Option, Some, None, All}
use Rattle.ps_event.specs.declared.event.Who.{Who}
use Rattle.ps_event.specs.Sides.{side_number}
use Rattle.ps_mon.specs.declared.choice.Choice.{Choice}
use Rattle.ps_view.specs.declared.names.Names.{Names}
use Rattle.ps_view.specs.Named.{nick_of}
use Rattle.battle_rounds.specs.declared.bout.Bout.{Bout}
use Rattle.battle_rounds.specs.Fights.{Fight}
use Rattle.battle_secrecy.specs.Places.{Hidden}
use Rattle.battle_secrecy.specs.Alike.{AreBattlesAlike}
use Rattle.battle_secrecy.specs.Showing.{whos}
use Rattle.ps_room.specs.Tolds as logs
use Rattle.ps_room.specs.Tolds.{Logged}
use Rattle.ps_room.specs.Records.{Record}

-- ---- what a connection may know of the choices that wait

-- the choice that waits on an own side; another side's isn't told
abbrev pub if_own : Bool → Option Choice → Option Choice
if_own true choice = choice
if_own false choice = None

abbrev pub own_bout : (ℕ → Bool) → Bout → Bout
own_bout own bout = record bout { first = if_own (own 0) bout.first; second = if_own (own 1) bout.second }

abbrev pub own_fight : (ℕ → Bool) → Option Fight → Option Fight
own_fight own None = None
own_fight own (Some fight) = Some (record fight { bout = own_bout own fight.bout })

-- the record of a room without the choices that wait on other sides
abbrev pub own_part : (ℕ → Bool) → Record → Record
own_part own room = record room { battle = own_fight own room.battle }

-- ---- alike

-- equal but for the nicknames of hidden members
pub record AreNamesAlike (places : Hidden) (one two : Names) : Type 0 where
  pub players : one.players ≡ two.players
  pub format : one.format ≡ two.format
  pub percent : one.percent ≡ two.percent
  pub nicks : (who : Who) → places.member (side_number who.side) who.member ≡ false → nick_of one who ≡ nick_of two who

-- equal but for the battle's hidden places
pub record AreBoutsAlike (places : Hidden) (one two : Bout) : Type 0 where
  pub battle : AreBattlesAlike places one.battle two.battle
  pub round : one.round ≡ two.round
  pub first : one.first ≡ two.first
  pub second : one.second ≡ two.second

pub record AreFightsAlike (places : Hidden) (one two : Fight) : Type 0 where
  pub number : one.number ≡ two.number
  pub names : AreNamesAlike places one.cast.names two.cast.names
  pub dex : one.cast.dex ≡ two.cast.dex
  pub bout : AreBoutsAlike places one.bout two.bout

abbrev pub AreMaybeAlike : Hidden → Option Fight → Option Fight → Type 0
AreMaybeAlike places None None = Unit {0}
AreMaybeAlike places (Some one) (Some two) = AreFightsAlike places one two
AreMaybeAlike places one two = ⊥

-- what is logged names no hidden member
abbrev pub IsLoggedOpenly : Hidden → Logged → Type 0
IsLoggedOpenly places (logs.Text text) = Unit {0}
IsLoggedOpenly places (logs.Event event) = All (λ who. places.member (side_number who.side) who.member ≡ false) (whos event)

-- Two records are alike where they are equal but for what these places hold. (That of a connection stands between their own parts:
-- choices that wait on other sides may differ, too.)
pub record AreAlike (places : Hidden) (one two : Record) : Type 0 where
  pub opening : one.opening ≡ two.opening
  pub chat : one.chat ≡ two.chat
  pub logged : one.logged ≡ two.logged
  pub openly : All (IsLoggedOpenly places) one.logged
  pub battle : AreMaybeAlike places one.battle two.battle
