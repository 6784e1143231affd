-- What an entry of the hall changes of its users, and how many battles it counts.
use Rattle.std.proofs.Common.{◌≡◌, ℕ, ◌+◌, Bool, true, false, List, Option, Some, None, IfSome, option_map, refl, ap}
use Rattle.ps_base.specs.Ids.{id_of}
use Rattle.ps_base.specs.declared.badge.Badge.{Badge}
use Rattle.ps_base.specs.declared.hall_why.HallWhy.{HallWhy}
use Rattle.ps_lines.specs.declared.command.HallCmd.{HallCmd}
use Rattle.ps_lines.specs.declared.command.HallCmd.TheVariants.{Open, Quit, Bad, Name, Team, Search, Accept, Report}
use Rattle.ps_valid.specs.declared.legal.Legal.{Legal}
use Rattle.rules_start.specs.declared.start.Start.{Start}
use Rattle.ps_users.specs.Records.{Record as Users}
use Rattle.ps_users.specs.Steps.{after as users_after}
use Rattle.ps_pms.specs.declared.asked.Asked.{Asked}
use Rattle.ps_ladder.specs.declared.searches.Search.{Search as Waiting}
use Rattle.ps_hall.specs.declared.entry.HallEntry.{HallEntry}
use Rattle.ps_hall.specs.declared.game.Game.{Game}
use Rattle.ps_hall.specs.declared.kept.KeptTeam.{KeptTeam}
use Rattle.ps_hall.specs.Halls as halls
use Rattle.ps_hall.specs.Records.{Record}
use Rattle.ps_hall.specs.Lookups.{badge_of, legal_team, kept_team, challenge_from, opponent, game_in}
use Rattle.ps_hall.specs.Starts.{start_if, start_of_match, start_of_search, start_of_challenge, start_of_accept, with_start}
use Rattle.ps_hall.specs.Steps.{forgotten_if, with_search, with_accept, after_search, after_accept, after_team, reported, after_named, after_by, applied, start_of_named, start_by, start_of}

-- ---- the users: most commands leave them as they were

pub forgotten_users : (h : Record) (me : Option (List ℕ)) → (forgotten_if h me).users ≡ h.users
forgotten_users h None = refl
forgotten_users h (Some me) = refl

started_users : (h : Record) (rated : Bool) (start : Option Start) → (with_start h rated start).users ≡ h.users
started_users h rated None = refl
started_users h rated (Some start) = refl

team_users : (h : Record) (me : List ℕ) (pack : Option (List ℕ)) → (after_team h me pack).users ≡ h.users
team_users h me None = refl
team_users h me (Some text) = refl

named_users : (h : Record) (name : List ℕ) (cmd : HallCmd) → (after_named h name cmd).users ≡ h.users
named_users h name (Team pack) = team_users h (id_of name) pack
named_users h name (Search format) = started_users (with_search h name format) true (start_of_search h name format)
named_users h name (Accept to) = started_users (with_accept h (id_of name) to) false (start_of_accept h name to)
named_users h name other = refl

pub users_by : (h : Record) (badge : Option Badge) (cmd : HallCmd) → (after_by h badge cmd).users ≡ h.users
users_by h None cmd = refl
users_by h (Some badge) cmd = named_users h badge.name cmd

pub reported_users : (h : Record) (number : ℕ) (winner : Option ℕ) (g : Option Game) → (reported h number winner g).users ≡ h.users
reported_users h number winner None = refl
reported_users h number winner (Some g) = refl

pub applied_users : (h : Record) (conn : ℕ) (cmd : HallCmd) → (applied h conn cmd).users ≡ users_after h.users conn cmd
unfolding applied
applied_users h conn Open = refl
applied_users h conn Quit = ap (λ (u : Users). users_after u conn Quit) (forgotten_users h (option_map (λ b. id_of b.name) (badge_of h conn)))
applied_users h conn (Bad reason) = refl
applied_users h conn (Name name assertion) = refl
applied_users h conn (Report number winner) = reported_users h number winner (game_in h number)
applied_users h conn other = users_by h (badge_of h conn) other

-- ---- the number of a battle that starts is the next

abbrev pub IsNext : ℕ → Start → Type 0
IsNext started s = s.number ≡ started + 1

if_next : (h : Record) (format name : List ℕ) (k : Option KeptTeam) (l : Option Legal) → IfSome (start_if h format k name l) (IsNext h.started)
if_next h format name None l = tt
if_next h format name (Some k) None = tt
if_next h format name (Some k) (Some l) = refl

match_next : (h : Record) (name format : List ℕ) (s : Option Waiting) → IfSome (start_of_match h name format s) (IsNext h.started)
match_next h name format None = tt
match_next h name format (Some s) = if_next h format name (kept_team s.user format h.search_teams) (legal_team h (id_of name) format)

pub search_next : (h : Record) (name format : List ℕ) → IfSome (start_of_search h name format) (IsNext h.started)
unfolding start_of_search
search_next h name format = match_next h name format (opponent h (id_of name) format)

challenge_next : (h : Record) (name : List ℕ) (a : Option Asked) → IfSome (start_of_challenge h name a) (IsNext h.started)
challenge_next h name None = tt
challenge_next h name (Some a) = if_next h a.format name (kept_team a.by (id_of name) h.challenge_teams) (legal_team h (id_of name) a.format)

pub accept_next : (h : Record) (name user : List ℕ) → IfSome (start_of_accept h name user) (IsNext h.started)
unfolding start_of_accept
accept_next h name user = challenge_next h name (challenge_from h (id_of name) user)

-- ---- how many have started

-- from so many battles that have started to so many: one more, with that number, where one starts
abbrev pub StartsAt : Option Start → ℕ → ℕ → Type 0
StartsAt None old new = new ≡ old
StartsAt (Some s) old new = (s.number ≡ old + 1) × (new ≡ old + 1)

start_counts : (r : Record) (rated : Bool) (n : ℕ) (s : Option Start) → r.started ≡ n → IfSome s (IsNext n) → StartsAt s n (with_start r rated s).started
start_counts r rated n None e next = e
start_counts r rated n (Some s) e next = (next, ap (λ (k : ℕ). k + 1) e)

search_counts : (h : Record) (name format : List ℕ) → StartsAt (start_of_search h name format) h.started (after_search h name format).started
search_counts h name format = start_counts (with_search h name format) true h.started (start_of_search h name format) refl (search_next h name format)

accept_counts : (h : Record) (name user : List ℕ) → StartsAt (start_of_accept h name user) h.started (after_accept h name user).started
accept_counts h name user = start_counts (with_accept h (id_of name) user) false h.started (start_of_accept h name user) refl (accept_next h name user)

team_started : (h : Record) (me : List ℕ) (text : Option (List ℕ)) → (after_team h me text).started ≡ h.started
team_started h me None = refl
team_started h me (Some text) = refl

named_counts : (h : Record) (name : List ℕ) (cmd : HallCmd) → StartsAt (start_of_named h name cmd) h.started (after_named h name cmd).started
named_counts h name (Team pack) = team_started h (id_of name) pack
named_counts h name (Search format) = search_counts h name format
named_counts h name (Accept user) = accept_counts h name user
named_counts h name other = refl

badge_counts : (h : Record) (badge : Option Badge) (cmd : HallCmd) → StartsAt (start_by h badge cmd) h.started (after_by h badge cmd).started
badge_counts h None cmd = refl
badge_counts h (Some badge) cmd = named_counts h badge.name cmd

others_started : (h : Record) (cmd : HallCmd) → ((name : List ℕ) → (after_named h name cmd).started ≡ h.started) → (badge : Option Badge) → (after_by h badge cmd).started ≡ h.started
others_started h cmd keeps None = refl
others_started h cmd keeps (Some badge) = keeps badge.name

forgotten_started : (h : Record) (me : Option (List ℕ)) → (forgotten_if h me).started ≡ h.started
forgotten_started h None = refl
forgotten_started h (Some me) = refl

reported_started : (h : Record) (number : ℕ) (winner : Option ℕ) (g : Option Game) → (reported h number winner g).started ≡ h.started
reported_started h number winner None = refl
reported_started h number winner (Some g) = refl

counts : (h : Record) (conn : ℕ) (cmd : HallCmd) → StartsAt (start_of h conn cmd) h.started (applied h conn cmd).started
unfolding start_of applied
counts h conn Open = refl
counts h conn Quit = forgotten_started h (option_map (λ b. id_of b.name) (badge_of h conn))
counts h conn (Bad why) = refl
counts h conn (Name name assertion) = refl
counts h conn (Search format) = badge_counts h (badge_of h conn) (Search format)
counts h conn (Accept user) = badge_counts h (badge_of h conn) (Accept user)
counts h conn (Report number winner) = reported_started h number winner (game_in h number)
counts h conn other = others_started h other (λ name. named_counts h name other) (badge_of h conn)

by_verdict : (v : Option HallWhy) (h : Record) (conn : ℕ) (cmd : HallCmd) → StartsAt (halls.out_by v h conn cmd).start h.started (halls.after_by v h conn cmd).started
by_verdict (Some why) h conn cmd = refl
by_verdict None h conn cmd = counts h conn cmd

pub entry_counts : (h : Record) (e : HallEntry) → StartsAt (halls.out_of h e).start h.started (halls.after h e).started
entry_counts h e = by_verdict (halls.verdict h e) h e.conn e.cmd
