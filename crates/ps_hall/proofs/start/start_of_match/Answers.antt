use Rattle.std.proofs.Common.{rules, ◌≡◌, Some, sym}
use Rattle.std.specs.Option.{option_copied}
use Rattle.rules_start.specs.Fits.{IsFit}
use Rattle.rules_start.specs.declared.start.Start.{Start}
use Rattle.ps_hall.specs.Records.{Record}
use Rattle.ps_hall.specs.Lookups.{kept_team}
use Rattle.ps_hall.specs.States.{record_of}
use Rattle.ps_hall.proofs.StartLemmas.{if_ok, fit_match}
use Rattle.ps_hall.proofs.start.start_of_match.Goals as goal

pub returns-clause-fit : goal.returns-clause-fit
returns-clause-fit c =
    let h : Record = record_of c.args.state.now in
    let k : option_copied c.find-kept.result ≡ kept_team c.args.other.now.user c.args.format.now h.search_teams = search rules in
    if_ok (λ (s : Start). IsFit s h.config h.dex) _ c.start_if.result c.start_if.ensures.value
    (fit_match h c.args.name.now c.args.format.now c.args.other.now _ (Some c.args.legal) c.requires.ready c.requires.other k (sym c.requires.legal) c.requires.legal_ready)
