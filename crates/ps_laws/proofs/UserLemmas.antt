-- Who plays a side of which a connection's users know: it is an own side exactly where the player is one of them.
use Rattle.std.proofs.Common.{◌≡◌, ℕ, zero, suc, ◌<◌, Bool, true, false, cond, List, Option, Some, None, refl, ap, ◌∙◌, sym, arith}
use Rattle.std.proofs.lemmas.Slice.Eq.{bytes_eq-Decides}
use Rattle.ps_base.specs.Ids.{id_of}
use Rattle.ps_view.specs.declared.names.Names.{Names}
use Rattle.ps_view.specs.Roles.{is_player}
use Rattle.ps_event.specs.declared.side.Side.TheVariants.{P1, P2}
use Rattle.ps_hits.specs.Told.{side_name}
use Rattle.battle_rounds.specs.Casts.{plays, side_with_id, player_or_spectator}
use Rattle.battle_rounds.specs.Fights.{Fight}
use Rattle.ps_chat.specs.Lookups.{member}
use Rattle.ps_chat.specs.declared.present.Present.{Present}
use Rattle.ps_room.specs.declared.entry.Entry.{Entry}
use Rattle.ps_room.specs.Records.{Record, presents_of, cast_in}
use Rattle.ps_room.specs.Roles.{side_of_member, role_of}
use Rattle.ps_room.specs.Rooms.{sender_of, role, role_in}
use Rattle.ps_laws.specs.Users.{badge_of, user_of, is_own_side}
use Rattle.ps_laws.proofs.PartLemmas.{side_below}
use Rattle.ps_laws.specs.HallLow.{is_user}

-- which sides are own
abbrev pub OwnsOf : List (List ℕ) → (ℕ → Bool) → Option Fight → Type 0
OwnsOf ids own None = Unit {0}
OwnsOf ids own (Some f) = (s : ℕ) → own s ≡ is_own_side ids f.cast.names s

-- the side of an id is one that it plays
side_plays_by : (names : Names) (id : List ℕ) (s : ℕ) (one two : Bool) → plays names P1 id ≡ one → plays names P2 id ≡ two → cond one (Some 0) (cond two (Some 1) None) ≡ Some s → plays names (side_name s) id ≡ true
side_plays_by names id zero true two p q e = p
side_plays_by names id (suc s) true two p q e = absurd cc
side_plays_by names id zero false true p q e = absurd cc
side_plays_by names id (suc s) false true p q e = q
side_plays_by names id s false false p q e = absurd cc

side_plays : (names : Names) (id : List ℕ) (s : ℕ) → side_with_id names id ≡ Some s → plays names (side_name s) id ≡ true
side_plays names id s e = side_plays_by names id s _ _ refl refl e

-- the player's id and an id that plays are one
own_of_id : (ids : List (List ℕ)) (names : Names) (id : List ℕ) (s : ℕ) → side_with_id names id ≡ Some s → is_own_side ids names s ≡ is_user ids id
own_of_id ids names id s e = ap (is_user ids) ((bytes_eq-Decides _ id).0 (side_plays names id s e))

-- a member's side is own exactly where it is one of the users
pub own_of_member : (ids : List (List ℕ)) (own : ℕ → Bool) (f : Fight) (me : Present) (s : ℕ) → OwnsOf ids own (Some f) → side_of_member f.cast (Some me) ≡ Some s → own s ≡ is_user ids (id_of me.badge.name)
own_of_member ids own f me s owns e = owns s ∙ own_of_id ids f.cast.names (id_of me.badge.name) s e

-- a sender's side is own exactly where the sender is one of the users
own_of_sender_by : (ids : List (List ℕ)) (own : ℕ → Bool) (f : Fight) (e : Entry) (me : Option Present) (s : ℕ) → OwnsOf ids own (Some f) → side_of_member f.cast me ≡ Some s → own s ≡ is_user ids (id_of (badge_of me e.badge).name)
own_of_sender_by ids own f e None s owns side = absurd cc
own_of_sender_by ids own f e (Some me) s owns side = own_of_member ids own f me s owns side

pub own_of_sender : (ids : List (List ℕ)) (own : ℕ → Bool) (f : Fight) (r : Record) (e : Entry) (s : ℕ) → OwnsOf ids own (Some f) → side_of_member f.cast (sender_of r e) ≡ Some s → own s ≡ is_user ids (user_of r e)
own_of_sender ids own f r e s owns side = own_of_sender_by ids own f e (sender_of r e) s owns side

-- ---- a connection plays own sides alone

-- the connection's member is one of the users
abbrev pub IsHome : List (List ℕ) → Option Present → Type 0
IsHome ids None = Unit {0}
IsHome ids (Some me) = is_user ids (id_of me.badge.name) ≡ true

-- the player of a side
role_plays : (s : ℕ) (side : Option ℕ) (rank : ℕ) → s < 2 → ((t : ℕ) → side ≡ Some t → t < 2) → is_player (side_name s) (player_or_spectator side rank) ≡ true → side ≡ Some s
role_plays s None rank lt below e = absurd cc
role_plays zero (Some zero) rank lt below e = refl
role_plays (suc zero) (Some (suc zero)) rank lt below e = refl
role_plays zero (Some (suc t)) rank lt below e = absurd cc
role_plays (suc s) (Some zero) rank lt below e = absurd cc
role_plays (suc (suc s)) (Some (suc t)) rank lt below e = absurd (omega arith)
role_plays (suc zero) (Some (suc (suc t))) rank lt below e = absurd (let b = below (suc (suc t)) refl in omega arith)

role_of_home : (ids : List (List ℕ)) (own : ℕ → Bool) (fo : Option Fight) (me : Option Present) (s : ℕ) (b : Bool) → OwnsOf ids own fo → IsHome ids me → s < 2 → own s ≡ false → is_player (side_name s) (role_of (cast_in fo) me) ≡ b → b ≡ false
role_of_home ids own fo me s false owns home lt other e = refl
role_of_home ids own None None s true owns home lt other e = absurd cc
role_of_home ids own None (Some me) s true owns home lt other e = absurd cc
role_of_home ids own (Some f) None s true owns home lt other e = absurd cc
role_of_home ids own (Some f) (Some me) s true owns home lt other e =
    let side : side_of_member f.cast (Some me) ≡ Some s = role_plays s (side_of_member f.cast (Some me)) me.rank lt (side_below f.cast (Some me)) e in
    let mine = own_of_member ids own f me s owns side in
    sym home ∙ sym mine ∙ other

-- a connection whose member is one of the users plays no other side
pub plays_own : (conn : ℕ) (ids : List (List ℕ)) (own : ℕ → Bool) (r : Record) (s : ℕ) → OwnsOf ids own r.battle → IsHome ids (member conn (presents_of r)) → s < 2 → own s ≡ false → is_player (side_name s) (role conn r) ≡ false
unfolding role_in
plays_own conn ids own r s owns home lt other = role_of_home ids own r.battle (member conn (presents_of r)) s _ owns home lt other refl
