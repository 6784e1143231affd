-- What an item does to a record that was made of items, and what it tells the connection.
use Rattle.std.proofs.Common.{◌≡◌, ℕ, ◌==◌, Bool, true, false, cond, List, [], ◌∷◌, Option, Some, None, refl, ap}
use Rattle.ps_base.specs.Ids.{id_of}
use Rattle.ps_base.specs.declared.badge.Badge.{Badge}
use Rattle.ps_base.specs.declared.hall_why.HallWhy.{HallWhy}
use Rattle.ps_lines.specs.declared.command.HallCmd.{HallCmd}
use Rattle.ps_lines.specs.declared.command.HallCmd.TheVariants.{Accept}
use Rattle.ps_valid.specs.declared.legal.Legal.{Legal}
use Rattle.ps_users.specs.Records.{Record as Users}
use Rattle.ps_users.specs.Refusals.{refusal as refusal_of_user}
use Rattle.ps_users.specs.Steps.{after as users_after, granted, with_name}
use Rattle.ps_hall.specs.declared.entry.HallEntry.{HallEntry}
use Rattle.ps_hall.specs.Records.{Record}
use Rattle.ps_hall.specs.Lookups.{badge_of, opponent, game_in}
use Rattle.ps_hall.specs.Steps.{after_cancel_search, after_cancel_challenge, after_reject, applied, after_report}
use Rattle.ps_hall.specs.Lines.{challenge_line}
use Rattle.ps_hall.specs.Told.{told, told_matched, to_user, told_of_report}
use Rattle.ps_hall.specs.Halls.{verdict, after, after_by, notices_by, message, message_of}
use Rattle.ps_laws.specs.HallLow.{HallItem, whole, named, searched, search_cancelled, started, challenged, challenge_cancelled, rejected, is_own_entry, id_taken, ids_taken, reported}
use Rattle.ps_laws.proofs.HallAlike.{AreAlike}
use Rattle.ps_laws.proofs.HallEffects.{with_battle, searched_after, challenged_after, accepted_after}

-- no team: what stands where a record made of items keeps one, since no item of others has it
abbrev pub no_team : Legal
no_team = record { team = record { members = []; count = 0 }; nicks = [] }

-- ---- the record after an item

-- a connection has taken a name, if one was read
abbrev pub named_after : Record → ℕ → Option (List ℕ) → Record
named_after l other read = record l { users = with_name l.users other read }

abbrev pub accepted_of : Record → List ℕ → Option Badge → Record
accepted_of l user None = l
accepted_of l user (Some b) = accepted_after l b.name user

-- a whole entry of another: an Accept is known to be allowed, and the team isn't known
abbrev pub shown_after : Record → HallEntry → HallCmd → Record
shown_after l e (Accept user) = accepted_of l user (badge_of l e.conn)
shown_after l e other = after l e

abbrev pub whole_after : Bool → Record → HallEntry → Record
whole_after true l e = after l e
whole_after false l e = shown_after l e e.cmd

abbrev pub item_after : ℕ → List (List ℕ) → Record → HallItem → Record
item_after conn ids l (whole e) = whole_after (is_own_entry conn ids l e) l e
item_after conn ids l (named other name) = named_after l other (Some name)
item_after conn ids l (searched name format) = searched_after l name format no_team
item_after conn ids l (search_cancelled me) = after_cancel_search l me
item_after conn ids l (started one two format) = with_battle l format false two (Some one)
item_after conn ids l (challenged name user format) = challenged_after l name user format no_team
item_after conn ids l (challenge_cancelled me user format) = after_cancel_challenge l me
item_after conn ids l (rejected me user format) = after_reject l me user
item_after conn ids l (reported number winner) = after_report l number winner

-- ---- what it tells

abbrev pub shown_message : ℕ → Record → HallEntry → HallCmd → List (List ℕ)
shown_message conn l e (Accept user) = message_of conn (told l (shown_after l e (Accept user)) e.conn (Accept user))
shown_message conn l e other = message conn l e

abbrev pub whole_message : ℕ → Bool → Record → HallEntry → List (List ℕ)
whole_message conn true l e = message conn l e
whole_message conn false l e = shown_message conn l e e.cmd

-- what a user is told of its challenges
abbrev pub challenges_told : ℕ → Record → Record → List ℕ → List (List ℕ)
challenges_told conn before after user = message_of conn (to_user before.users.online user (challenge_line after.pms.asked user ∷ []))

abbrev pub search_told : ℕ → Record → Record → List ℕ → List ℕ → List (List ℕ)
search_told conn before after me format = message_of conn (told_matched before.users.online after.games after.searches (opponent before me format))

abbrev pub item_message : ℕ → List (List ℕ) → Record → HallItem → List (List ℕ)
item_message conn ids l (whole e) = whole_message conn (is_own_entry conn ids l e) l e
item_message conn ids l (named other name) = []
item_message conn ids l (searched name format) = search_told conn l (searched_after l name format no_team) (id_of name) format
item_message conn ids l (search_cancelled me) = []
item_message conn ids l (started one two format) = []
item_message conn ids l (challenged name user format) = challenges_told conn l (challenged_after l name user format no_team) user
item_message conn ids l (challenge_cancelled me user format) = challenges_told conn l (after_cancel_challenge l me) user
item_message conn ids l (rejected me user format) = challenges_told conn l (after_reject l me user) user
item_message conn ids l (reported number winner) = message_of conn (told_of_report l.users.online (after_report l number winner) winner (game_in l number))

-- ---- the id that it gives the connection

abbrev pub badge_by : Option HallWhy → Users → HallCmd → Option Badge
badge_by (Some why) users cmd = None
badge_by None users cmd = granted users cmd

abbrev pub item_taken : ℕ → Users → HallItem → List (List ℕ)
item_taken conn users (whole e) = cond (e.conn == conn) (id_taken (badge_by (refusal_of_user users e.conn e.cmd) users e.cmd)) []
item_taken conn users other = []

abbrev pub users_by : Option HallWhy → Users → ℕ → HallCmd → Users
users_by (Some why) users conn cmd = users
users_by None users conn cmd = users_after users conn cmd

-- the users after an item
abbrev pub item_users : Users → HallItem → Users
item_users users (whole e) = users_by (refusal_of_user users e.conn e.cmd) users e.conn e.cmd
item_users users (named other name) = with_name users other (Some name)
item_users users other = users

-- ---- an entry, over its items

-- an entry in a record, where the record of items is this afterwards, tells this, and gives the connection this id
pub record IsGiven (conn : ℕ) (ids : List (List ℕ)) (h : Record) (e : HallEntry) (l : Record) (lines given : List (List ℕ)) : Type 0 where
  pub alike : AreAlike ids (after h e) l
  pub told : message conn h e ≡ lines
  pub taken : ids_taken conn h e ≡ given

-- an entry has one item at the most, and is given by it
abbrev pub IsWalked : ℕ → List (List ℕ) → Record → HallEntry → Record → List HallItem → Type 0
IsWalked conn ids h e l [] = IsGiven conn ids h e l [] []
IsWalked conn ids h e l (i ∷ []) = IsGiven conn ids h e (item_after conn ids l i) (item_message conn ids l i) (item_taken conn l.users i)
IsWalked conn ids h e l (i ∷ j ∷ more) = ⊥

-- ---- what is allowed

pub after_allowed : (h : Record) (e : HallEntry) → verdict h e ≡ None → after h e ≡ applied h e.conn e.cmd
after_allowed h e none = ap (λ (v : Option HallWhy). after_by v h e.conn e.cmd) none

pub message_allowed : (conn : ℕ) (h : Record) (e : HallEntry) → verdict h e ≡ None → message conn h e ≡ message_of conn (told h (applied h e.conn e.cmd) e.conn e.cmd)
message_allowed conn h e none = ap (λ (v : Option HallWhy). message_of conn (notices_by v h e.conn e.cmd)) none

-- an entry of another gives the connection no id
pub none_taken : (conn : ℕ) (h : Record) (e : HallEntry) → (e.conn == conn) ≡ false → ids_taken conn h e ≡ []
none_taken conn h e apart = rw apart refl
