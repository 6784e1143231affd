use Rattle.std.proofs.Common.{◌≡◌, List, None, Result, ℕ, subst}
use Rattle.ps_base.specs.declared.hall_why.HallWhy.{HallWhy}
use Rattle.ps_valid.specs.declared.legal.Legal.{Legal}
use Rattle.ps_hall.specs.Changes.{IsJudged}
use Rattle.ps_hall.specs.Lookups.{legal_team}
use Rattle.ps_hall.specs.Records.{Record}
use Rattle.ps_hall.specs.Refusals.{refusal_of_search}
use Rattle.ps_hall.specs.States.{record_of}
use Rattle.ps_hall.proofs.ApplyLemmas.{few_search}
use Rattle.ps_hall.proofs.PrepareLemmas.{search_is}
use Rattle.ps_hall.proofs.prepare.search.Goals as goal

pub allow_search-requires-clause-few : goal.allow_search-requires-clause-few
allow_search-requires-clause-few c =
    let h : Record = record_of c.args.state.now in
    let found = subst (λ (r : Result Legal HallWhy).
    IsJudged h.dex (refusal_of_search h c.id.result.now c.args.format.now) (legal_team h c.id.result.now c.args.format.now) r) c.in-Ok.is c.in_ok-why.ensures in
    few_search h c.id.result.now c.args.format.now found.allowed

pub returns-in_ok-allowed-in-Ok : goal.returns-in_ok-allowed-in-Ok
returns-in_ok-allowed-in-Ok c =
    let h : Record = record_of c.args.state.now in
    let found = subst (λ (r : Result Legal HallWhy).
    IsJudged h.dex (refusal_of_search h c.id.result.now c.args.format.now) (legal_team h c.id.result.now c.args.format.now) r) c.in-Ok.is c.in_ok-why.ensures in
    search_is h c.args.conn c.args.badge.now c.args.format.now c.in_ok-allowed-in-Ok.allowed
    (subst (λ (me : List ℕ). refusal_of_search h me c.args.format.now ≡ None) c.id.ensures found.allowed) c.in_ok-allowed-in-Ok.ensures
