-- What a command comes to, from what was found for it.
use Rattle.std.proofs.Common.{◌≡◌, ℕ, List, Option, Some, None, [], Result, Ok, Err, IfOk, IfSome, refl, subst, sym, ap, ◌∙◌}
use Rattle.ps_base.specs.Ids.{id_of}
use Rattle.ps_base.specs.declared.badge.Badge.{Badge}
use Rattle.ps_base.specs.declared.hall_why.HallWhy.{HallWhy}
use Rattle.ps_lines.specs.declared.command.BadWhy.{BadWhy}
use Rattle.ps_lines.specs.declared.command.HallCmd.{HallCmd}
use Rattle.ps_lines.specs.declared.command.HallCmd.TheVariants as cmds
use Rattle.ps_pms.specs.Refusals.{refusal_of_block, refusal_of_unblock}
use Rattle.ps_hall.specs.declared.change.Allowed.{Allowed}
use Rattle.ps_hall.specs.declared.change.Change.TheVariants as change
use Rattle.ps_hall.specs.Changes.{changed, BlocksBy, IsAllowed, IsSearch}
use Rattle.ps_hall.specs.Changes.{IsAcceptAnswer, IsAnswer, IsAnswerBy, IsNamedAnswer, IsPrepared, IsReportAnswer}
use Rattle.ps_hall.specs.declared.outcome.HallVerdict.TheVariants.{Applied}
use Rattle.ps_hall.specs.Halls.{after_by as after_entry, notices_by, out_by}
use Rattle.ps_hall.specs.KeptIndices.{AreReady}
use Rattle.ps_hall.specs.Records.{Record}
use Rattle.ps_hall.proofs.ApplyLemmas.{changed_ready}
use Rattle.rules_start.specs.declared.start.Start.{Start}
use Rattle.rules_start.specs.Fits.{IsFit}
use Rattle.ps_users.specs.Steps.{granted}
use Rattle.ps_hall.specs.Lookups.{badge_of, challenge_from, game_in, opponent}
use Rattle.ps_hall.specs.Refusals.{refusal, refusal_by, refusal_of_search, refusal_of_accept, refusal_of_report}
use Rattle.ps_hall.specs.Starts.{start_of_search, start_of_accept}
use Rattle.ps_hall.specs.Steps.{after_by, applied, start_by, start_of, start_of_named, with_pms}
use Rattle.ps_hall.specs.Told.{told, told_by}

-- a search that finds its opponent
pub search_is : (h : Record) (conn : ℕ) (me : Badge) (format : List ℕ) (a : Allowed) → refusal_of_search h (id_of me.name) format ≡ None
    → IsSearch h conn me.name format (opponent h (id_of me.name) format) a → IsNamedAnswer h conn me (cmds.Search format) (Ok a)
unfolding start_of_search
search_is h conn me format a allowed found = (allowed, found)

-- an Accept, by the challenge that it finds
pub accept_is : (h : Record) (conn : ℕ) (me : Badge) (user : List ℕ) (r : Result Allowed HallWhy)
    → IsAcceptAnswer h conn me.name user (challenge_from h (id_of me.name) user) r → IsNamedAnswer h conn me (cmds.Accept user) r
unfolding start_of_accept refusal_of_accept
accept_is h conn me user (Ok a) found = found
accept_is h conn me user (Err why) found = found

-- what a call gave, as what follows of it
pub if_then : {A E : Type 0} (P Q : A → Type 0) (r : Result A E) → ((a : A) → P a → Q a) → IfOk r P → IfOk r Q
if_then P Q (Ok a) f x = f a x
if_then P Q (Err e) f x = tt

-- the command of a match's arm, told of the whole
pub named_as : {E : Type 0} (h : Record) (conn : ℕ) (me : Badge) (cmd arm : HallCmd) (r : Result (Result Allowed HallWhy) E)
    → cmd ≡ arm → IfOk r (IsNamedAnswer h conn me arm) → IfOk r (IsNamedAnswer h conn me cmd)
named_as h conn me cmd arm r is found = subst (λ (x : HallCmd). IfOk r (IsNamedAnswer h conn me x)) (sym is) found

-- a Block and an Unblock
blocks_with : (h : Record) (conn : ℕ) (me : Badge) (cmd : HallCmd) (a : Allowed)
    → a ≡ record { notices = []; badge = None; start = None; change = change.Blocks (id_of me.name) }
    → IsAllowed [] None None (with_pms h (id_of me.name) cmd) h conn cmd a
blocks_with h conn me cmd a is = subst (λ (x : Allowed). IsAllowed [] None None (with_pms h (id_of me.name) cmd) h conn cmd x) (sym is)
    (record { notices = refl; badge = refl; start = refl; after = refl; can = tt; fit = tt })

pub block_is : (h : Record) (conn : ℕ) (me : Badge) (user : List ℕ) (r : Result Allowed HallWhy)
    → BlocksBy (id_of me.name) (refusal_of_block h.pms (id_of me.name) user) r → IsNamedAnswer h conn me (cmds.Block user) r
block_is h conn me user (Ok a) found = (found.0, blocks_with h conn me (cmds.Block user) a found.1)
block_is h conn me user (Err why) found = found

pub unblock_is : (h : Record) (conn : ℕ) (me : Badge) (user : List ℕ) (r : Result Allowed HallWhy)
    → BlocksBy (id_of me.name) (refusal_of_unblock h.pms (id_of me.name) user) r → IsNamedAnswer h conn me (cmds.Unblock user) r
unblock_is h conn me user (Ok a) found = (found.0, blocks_with h conn me (cmds.Unblock user) a found.1)
unblock_is h conn me user (Err why) found = found

-- a Report, by the battle that it finds
pub report_is : (h : Record) (conn number : ℕ) (winner : Option ℕ) (r : Result Allowed HallWhy)
    → IsReportAnswer h conn number winner (game_in h number) r → IsPrepared h conn (cmds.Report number winner) r
unfolding refusal told applied start_of refusal_of_report
report_is h conn number winner (Ok a) found = found
report_is h conn number winner (Err why) found = found

-- a command that takes a name, by what it comes to for the badge of its connection
starts_none : (h : Record) (badge : Option Badge) (cmd : HallCmd)
    → ((name : List ℕ) → start_of_named h name cmd ≡ None) → start_by h badge cmd ≡ None
starts_none h None cmd none = refl
starts_none h (Some badge) cmd none = none badge.name

unstarted : (h : Record) (conn : ℕ) (badge : Option Badge) (cmd : HallCmd) (r : Result Allowed HallWhy)
    → ((name : List ℕ) → start_of_named h name cmd ≡ None) → IsAnswerBy h conn badge cmd r
    → IsAnswer (refusal_by h badge cmd) (told_by h (after_by h badge cmd) conn badge cmd) None None (after_by h badge cmd) h conn cmd r
unstarted h conn badge cmd r none found =
    subst (λ (s : Option Start).
    IsAnswer (refusal_by h badge cmd) (told_by h (after_by h badge cmd) conn badge cmd) None s (after_by h badge cmd) h conn cmd r)
    (starts_none h badge cmd none) found

pub prepared_by : (h : Record) (conn : ℕ) (cmd : HallCmd) (r : Result Allowed HallWhy)
    → (cmd ≡ cmds.Open → ⊥) → (cmd ≡ cmds.Quit → ⊥) → ((why : BadWhy) → cmd ≡ cmds.Bad why → ⊥)
    → ((name assertion : List ℕ) → cmd ≡ cmds.Name name assertion → ⊥)
    → ((number : ℕ) (winner : Option ℕ) → cmd ≡ cmds.Report number winner → ⊥)
    → IsAnswerBy h conn (badge_of h conn) cmd r → IsPrepared h conn cmd r
unfolding refusal told applied start_of
prepared_by h conn cmds.Open r opens quits bads names reports found = absurd (opens refl)
prepared_by h conn cmds.Quit r opens quits bads names reports found = absurd (quits refl)
prepared_by h conn (cmds.Bad why) r opens quits bads names reports found = absurd (bads why refl)
prepared_by h conn (cmds.Name user assertion) r opens quits bads names reports found = absurd (names user assertion refl)
prepared_by h conn (cmds.Report number winner) r opens quits bads names reports found = absurd (reports number winner refl)
prepared_by h conn (cmds.Search format) r opens quits bads names reports found = found
prepared_by h conn (cmds.Accept user) r opens quits bads names reports found = found
prepared_by h conn cmd r opens quits bads names reports found = unstarted h conn (badge_of h conn) cmd r (λ _. refl) found

-- ---- an allowed entry, as the hall answers it

module _ (h : Record) (conn : ℕ) (cmd : HallCmd) (a : Allowed) (x : IsPrepared h conn cmd (Ok a)) where
  pub allowed_out : record { verdict = Applied; badge = a.badge; start = a.start } ≡ out_by (refusal h conn cmd) h conn cmd
  allowed_out =
      ap (λ (b : Option Badge). record { verdict = Applied; badge = b; start = a.start }) x.1.badge
      ∙ ap (λ (s : Option Start). record { verdict = Applied; badge = granted h.users cmd; start = s }) x.1.start
      ∙ ap (λ (w : Option HallWhy). out_by w h conn cmd) (sym x.0)

  pub allowed_notices : a.notices ≡ notices_by (refusal h conn cmd) h conn cmd
  allowed_notices = x.1.notices ∙ ap (λ (w : Option HallWhy). notices_by w h conn cmd) (sym x.0)

  pub allowed_fit : IfSome a.start (λ s. IsFit s h.config h.dex)
  allowed_fit = subst (λ (o : Option Start). IfSome o (λ s. IsFit s h.config h.dex)) (sym x.1.start) x.1.fit

  pub allowed_after : (g : Record) → g ≡ changed h conn cmd a.change → g ≡ after_entry (refusal h conn cmd) h conn cmd
  allowed_after g is = is ∙ x.1.after ∙ ap (λ (w : Option HallWhy). after_entry w h conn cmd) (sym x.0)

  pub allowed_ready : (g : Record) → AreReady h → g ≡ changed h conn cmd a.change → AreReady g
  allowed_ready g ready is = changed_ready h g conn cmd a.change ready x.1.can is
