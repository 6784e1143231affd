-- An allowed Accept starts a battle.
use Rattle.std.proofs.Common.{◌≡◌, ℕ, Bool, true, false, cond, List, Option, Some, None, IfSome, is_some, refl, sym, ap, subst, ◌∙◌}
use Rattle.std.specs.Str.{bytes_eq}
use Rattle.ps_base.specs.Ids.{id_of}
use Rattle.ps_base.specs.declared.badge.Badge.{Badge}
use Rattle.ps_base.specs.declared.hall_why.HallWhy.{HallWhy}
use Rattle.ps_lines.specs.declared.command.HallCmd.{HallCmd}
use Rattle.ps_lines.specs.declared.command.HallCmd.TheVariants.{Accept}
use Rattle.ps_valid.specs.declared.legal.Legal.{Legal}
use Rattle.ps_pms.specs.declared.asked.Asked.{Asked}
use Rattle.ps_pms.specs.Lookups.{asked_of}
use Rattle.ps_hall.specs.declared.entry.HallEntry.{HallEntry}
use Rattle.ps_hall.specs.declared.kept.KeptTeam.{KeptTeam}
use Rattle.ps_hall.specs.Records.{Record}
use Rattle.ps_hall.specs.Lookups.{badge_of, kept_team, challenge_from}
use Rattle.ps_hall.specs.Refusals.{of_accept, refusal_of_accept, refusal_by, refusal}
use Rattle.ps_hall.specs.Starts.{start_if, start_of_accept}
use Rattle.ps_hall.specs.Steps.{start_by, start_of}
use Rattle.ps_hall.specs.Halls.{out_by, run_record}
use Rattle.ps_laws.specs.HallStories.{hall_opened}
use Rattle.ps_laws.specs.HallSame.{HallAcceptsStart}
use Rattle.ps_laws.proofs.HallEffects.{challenger}
use Rattle.ps_laws.proofs.HallLegal.{accept_legal}
use Rattle.ps_laws.proofs.HallTidy.{IsTidy, tidy_first, run_tidy, team_kept}

pub start_there : (h : Record) (format name : List ℕ) (k : Option KeptTeam) (legal : Legal) → is_some k ≡ true → is_some (start_if h format k name (Some legal)) ≡ true
start_there h format name None legal there = absurd cc
start_there h format name (Some k) legal there = refl

from_there : (h : Record) (me user : List ℕ) (a : Asked) (b : Bool) → cond b None (asked_of h.pms user me) ≡ Some a → is_some (asked_of h.pms user me) ≡ true
from_there h me user a true found = absurd cc
from_there h me user a false found = ap is_some found

start_by_challenge : (h : Record) (name user : List ℕ) (o : Option Asked) → IsTidy h → challenge_from h (id_of name) user ≡ o → of_accept h (id_of name) o ≡ None
    → is_some (start_of_accept h name user) ≡ true
unfolding start_of_accept
start_by_challenge h name user None tidy found none = absurd cc
start_by_challenge h name user (Some a) tidy found none =
    let legal = accept_legal h (id_of name) a.format none in
    let same : a.by ≡ user = subst (λ (o : Option Asked). IfSome o (λ x. x.by ≡ user)) found (challenger h (id_of name) user) in
    rw (found, legal.1) (start_there h a.format name (kept_team a.by (id_of name) h.challenge_teams) legal.0
    (ap (λ (x : List ℕ). is_some (kept_team x (id_of name) h.challenge_teams)) same
    ∙ team_kept h user (id_of name) tidy
    ∙ from_there h (id_of name) user a (bytes_eq user (id_of name)) found))

start_allowed : (h : Record) (name user : List ℕ) → IsTidy h → refusal_of_accept h (id_of name) user ≡ None → is_some (start_of_accept h name user) ≡ true
unfolding refusal_of_accept
start_allowed h name user tidy none = start_by_challenge h name user (challenge_from h (id_of name) user) tidy refl none

start_of_badge : (h : Record) (badge : Option Badge) (user : List ℕ) → IsTidy h → refusal_by h badge (Accept user) ≡ None → is_some (start_by h badge (Accept user)) ≡ true
start_of_badge h None user tidy none = absurd cc
start_of_badge h (Some b) user tidy none = start_allowed h b.name user tidy none

start_of_sender : (h : Record) (sender : ℕ) (user : List ℕ) → IsTidy h → refusal h sender (Accept user) ≡ None → is_some (start_of h sender (Accept user)) ≡ true
unfolding refusal start_of
start_of_sender h sender user tidy none = start_of_badge h (badge_of h sender) user tidy none

start_of_entry : (h : Record) (e : HallEntry) (user : List ℕ) (cmd : HallCmd) → IsTidy h → cmd ≡ Accept user → refusal h e.conn cmd ≡ None
    → is_some (out_by (refusal h e.conn cmd) h e.conn cmd).start ≡ true
start_of_entry h e user cmd tidy is none =
    ap (λ (v : Option HallWhy). is_some (out_by v h e.conn cmd).start) none
    ∙ ap (λ (c : HallCmd). is_some (start_of h e.conn c)) is
    ∙ start_of_sender h e.conn user tidy (ap (refusal h e.conn) (sym is) ∙ none)

pub hall_accepts_start : HallAcceptsStart
hall_accepts_start o before e user is none = start_of_entry (run_record (hall_opened o) before) e user e.cmd (run_tidy (hall_opened o) before (tidy_first o)) is none
