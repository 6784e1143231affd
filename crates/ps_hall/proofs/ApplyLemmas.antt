-- What the refusals rule out, and what stays ready.
use Rattle.std.proofs.Common.{◌≡◌, ℕ, ◌<◌, Bool, true, false, cond, not, List, [], ◌∷◌, ◌++◌, Option, Some, None, All, refl, sym, subst, nat_le, arith, is_none}
use Rattle.std.proofs.lemmas.Bool.Decides.{nat_tests}
use Rattle.std.proofs.lemmas.List.Elements.{All-nil, All-cons, All-head, All-tail, All-append, All-filter}
use Rattle.std.proofs.lemmas.Bool.{not-false}
use Rattle.ps_base.specs.Limits.{most_battles}
use Rattle.ps_base.specs.declared.hall_why.HallWhy.{HallWhy}
use Rattle.ps_base.specs.declared.hall_why.HallWhy.TheVariants as why
use Rattle.ps_lines.specs.declared.command.HallCmd.{HallCmd}
use Rattle.ps_lines.specs.declared.command.HallCmd.TheVariants.{Quit}
use Rattle.ps_dex.specs.declared.item.Tables.{Tables}
use Rattle.ps_rules.specs.declared.table.Format.{Format}
use Rattle.ps_pms.specs.declared.asked.Asked.{Asked}
use Rattle.ps_pms.specs.Refusals.{when}
use Rattle.ps_hall.specs.Records.{Record}
use Rattle.ps_ladder.specs.Waiting.{waits}
use Rattle.ps_hall.specs.declared.kept.KeptTeam.{KeptTeam}
use Rattle.ps_hall.specs.declared.game.Game.{Game}
use Rattle.ps_hall.specs.Lookups.{is_full, challenge_from, format_in, is_kept, is_kept_of, is_kept_with, without_kept, game_in}
use Rattle.ps_hall.specs.declared.change.Change.{Change}
use Rattle.ps_hall.specs.declared.change.Change.TheVariants as change
use Rattle.ps_packed.specs.declared.set.Set.{Set}
use Rattle.ps_hall.specs.Changes.{CanChange, changed, matched, team_changed}
use Rattle.ps_hall.specs.KeptIndices.{IsKeptReady, AreReady}
use Rattle.ps_hall.specs.Starts.{with_game}
use Rattle.ps_hall.specs.Steps.{with_users, forgotten_if, with_accept, reported}
use Rattle.ps_hall.specs.Refusals.{or_else, of_team, of_battles, of_waiting, of_search, of_accepted, of_accept, refusal_of_search, refusal_of_accept, is_winner, refusal_of_report}

pub when_more : (t : Bool) (w : HallWhy) (m : Option HallWhy) → when t w m ≡ None → m ≡ None
when_more true w m e = absurd cc
when_more false w m e = e

pub when_not : (t : Bool) (w : HallWhy) (m : Option HallWhy) → when t w m ≡ None → t ≡ false
when_not true w m e = absurd cc
when_not false w m e = refl

pub else_more : (a b : Option HallWhy) → or_else a b ≡ None → b ≡ None
else_more (Some w) b e = absurd cc
else_more None b e = e

few : (h : Record) → of_battles h ≡ None → h.started < most_battles
few h e = let full : nat_le most_battles h.started ≡ false = when_not (is_full h) why.BattlesFull None e in grind (arith, nat_tests, full)

few_search_by : (h : Record) (me format : List ℕ) (f : Option Format) → of_search h me format f ≡ None → h.started < most_battles
few_search_by h me format None e = absurd cc
few_search_by h me format (Some f) e =
    let rest : or_else (of_team h me f) (of_waiting h me format) ≡ None = when_more (not f.table.rated) why.NotRated (or_else (of_team h me f) (of_waiting h me format)) e in
    few h (when_more (waits h.searches me format) why.AlreadySearching (of_battles h) (else_more (of_team h me f) (of_waiting h me format) rest))

pub few_search : (h : Record) (me format : List ℕ) → refusal_of_search h me format ≡ None → h.started < most_battles
unfolding refusal_of_search
few_search h me format e = few_search_by h me format (format_in h format) e

few_accepted : (h : Record) (me : List ℕ) (f : Option Format) → of_accepted h me f ≡ None → h.started < most_battles
few_accepted h me None e = absurd cc
few_accepted h me (Some f) e = few h (else_more (of_team h me f) (of_battles h) e)

few_accept_by : (h : Record) (me : List ℕ) (a : Option Asked) → of_accept h me a ≡ None → h.started < most_battles
few_accept_by h me None e = absurd cc
few_accept_by h me (Some a) e = few_accepted h me (format_in h a.format) e

pub few_asked : (h : Record) (me : List ℕ) (a : Asked) → of_accept h me (Some a) ≡ None → h.started < most_battles
few_asked h me a e = few_accepted h me (format_in h a.format) e

pub few_accept : (h : Record) (me user : List ℕ) → refusal_of_accept h me user ≡ None → h.started < most_battles
unfolding refusal_of_accept
few_accept h me user e = few_accept_by h me (challenge_from h me user) e

pub ruleset named = (few_search, few_accept)

-- ---- what stays ready

module _ (dex : Tables) where
  abbrev IsReadyKept : KeptTeam → Type 0
  IsReadyKept k = IsKeptReady dex k

  without_by : (user with_id : List ℕ) (k : KeptTeam) (ks : List KeptTeam) (b : Bool) → IsReadyKept k → All IsReadyKept ks → All IsReadyKept (without_kept user with_id ks) → All IsReadyKept (cond b ks (k ∷ without_kept user with_id ks))
  without_by user with_id k ks true here all more = all
  without_by user with_id k ks false here all more = All-cons IsReadyKept k (without_kept user with_id ks) here more

  without_ready : (user with_id : List ℕ) (ks : List KeptTeam) → All IsReadyKept ks → All IsReadyKept (without_kept user with_id ks)
  without_ready user with_id [] all = all
  without_ready user with_id (k ∷ ks) all =
      let rest = All-tail IsReadyKept k ks all in
      without_by user with_id k ks (is_kept user with_id k) (All-head IsReadyKept k ks all) rest (without_ready user with_id ks rest)

game_ready : (h : Record) (g : Option Game) → AreReady h → AreReady (with_game h g)
game_ready h None r = r
game_ready h (Some g) r = record { challenge_teams = r.challenge_teams; search_teams = r.search_teams }

waiting_ready : (dex : Tables) (ks : List KeptTeam) (k : KeptTeam) → All (IsKeptReady dex) ks → IsKeptReady dex k → All (IsKeptReady dex) (ks ++ k ∷ [])
waiting_ready dex ks k all ready = All-append (IsKeptReady dex) ks (k ∷ []) all (All-cons (IsKeptReady dex) k [] ready (All-nil (IsKeptReady dex)))

forgotten_ready : (h : Record) (me : Option (List ℕ)) → AreReady h → AreReady (forgotten_if h me)
forgotten_ready h None r = r
forgotten_ready h (Some me) r = record {
  challenge_teams = All-filter (λ x. not (is_kept_with me x)) (IsKeptReady h.dex) h.challenge_teams r.challenge_teams;
  search_teams = All-filter (λ x. not (is_kept_of me x)) (IsKeptReady h.dex) h.search_teams r.search_teams;
}

users_ready : (h : Record) (conn : ℕ) (cmd : HallCmd) → AreReady h → AreReady (with_users h conn cmd)
users_ready h conn cmd r = record { challenge_teams = r.challenge_teams; search_teams = r.search_teams }

team_ready : (h : Record) (me : List ℕ) (team : Option (List Set)) → AreReady h → AreReady (team_changed h me team)
team_ready h me None r = record { challenge_teams = r.challenge_teams; search_teams = r.search_teams }
team_ready h me (Some team) r = record { challenge_teams = r.challenge_teams; search_teams = r.search_teams }

reported_ready : (h : Record) (number : ℕ) (winner : Option ℕ) (g : Option Game) → AreReady h → AreReady (reported h number winner g)
reported_ready h number winner None r = r
reported_ready h number winner (Some g) r = record { challenge_teams = r.challenge_teams; search_teams = r.search_teams }

changed_by : (h : Record) (conn : ℕ) (cmd : HallCmd) (c : Change) → AreReady h → CanChange h conn cmd c → AreReady (changed h conn cmd c)
changed_by h conn cmd change.Nothing r k = r
changed_by h conn cmd change.Users r k = users_ready h conn cmd r
changed_by h conn cmd (change.Quit me) r k = users_ready (forgotten_if h me) conn Quit (forgotten_ready h me r)
changed_by h conn cmd (change.Team me team) r k = team_ready h me team r
changed_by h conn cmd (change.Wait kept search) r k = record { challenge_teams = r.challenge_teams; search_teams = waiting_ready h.dex h.search_teams kept r.search_teams k }
changed_by h conn cmd (change.Match me format rating user game) r k = game_ready (matched h me format rating user) game (record { challenge_teams = r.challenge_teams; search_teams = without_ready h.dex user format h.search_teams r.search_teams })
changed_by h conn cmd (change.CancelSearch me) r k = record { challenge_teams = r.challenge_teams; search_teams = All-filter (λ x. not (is_kept_of me x)) (IsKeptReady h.dex) h.search_teams r.search_teams }
changed_by h conn cmd (change.Challenge kept) r k = record { challenge_teams = waiting_ready h.dex h.challenge_teams kept r.challenge_teams k; search_teams = r.search_teams }
changed_by h conn cmd (change.CancelChallenge me) r k = record { challenge_teams = All-filter (λ x. not (is_kept_of me x)) (IsKeptReady h.dex) h.challenge_teams r.challenge_teams; search_teams = r.search_teams }
changed_by h conn cmd (change.Reject me user) r k = record { challenge_teams = without_ready h.dex user me h.challenge_teams r.challenge_teams; search_teams = r.search_teams }
changed_by h conn cmd (change.Accept me user game) r k = game_ready (with_accept h me user) game (record { challenge_teams = without_ready h.dex user me h.challenge_teams r.challenge_teams; search_teams = r.search_teams })
changed_by h conn cmd (change.Blocks me) r k = record { challenge_teams = r.challenge_teams; search_teams = r.search_teams }
changed_by h conn cmd (change.Report number winner) r k = reported_ready h number winner (game_in h number) r

-- the same of the hall that a change made
pub changed_ready : (h g : Record) (conn : ℕ) (cmd : HallCmd) (c : Change) → AreReady h → CanChange h conn cmd c → g ≡ changed h conn cmd c → AreReady g
changed_ready h g conn cmd c r k is = subst AreReady (sym is) (changed_by h conn cmd c r k)

pub winner_is : (h : Record) (number : ℕ) (winner : Option ℕ) → refusal_of_report h number winner ≡ None → is_winner winner ≡ true
unfolding refusal_of_report
winner_is h number winner e =
    let rest : when (not (is_winner winner)) why.NoBattle None ≡ None = when_more (is_none (game_in h number)) why.NoBattle (when (not (is_winner winner)) why.NoBattle None) e in
    not-false (is_winner winner) (when_not (not (is_winner winner)) why.NoBattle None rest)
