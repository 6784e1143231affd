use Rattle.std.proofs.Common.{IfOk, List, Option, ℕ, subst}
use Rattle.ps_lines.specs.declared.command.HallCmd.TheVariants as cmds
use Rattle.ps_hall.specs.Changes.{IsNamedAnswer}
use Rattle.ps_hall.specs.Records.{Record}
use Rattle.ps_hall.specs.States.{record_of}
use Rattle.ps_hall.proofs.PrepareLemmas.{if_then, named_as, accept_is}
use Rattle.ps_hall.proofs.prepare.prepare_named.Goals as goal

pub returns-in-Team : goal.returns-in-Team
returns-in-Team c =
    let h : Record = record_of c.args.state.now in
    named_as h c.args.conn c.args.badge.now c.args.cmd.now _ c.team.result c.in-Team.is
    (subst (λ (pack : Option (List ℕ)). IfOk c.team.result (IsNamedAnswer h c.args.conn c.args.badge.now (cmds.Team pack)))
    c.as_ref.ensures.value (c.team.ensures h c.args.conn))

pub returns-in-Search : goal.returns-in-Search
returns-in-Search c =
    named_as (record_of c.args.state.now) c.args.conn c.args.badge.now c.args.cmd.now _ c.search.result c.in-Search.is c.search.ensures

pub returns-in-CancelSearch : goal.returns-in-CancelSearch
returns-in-CancelSearch c =
    named_as (record_of c.args.state.now) c.args.conn c.args.badge.now c.args.cmd.now _ c.cancel_search.result c.in-CancelSearch.is c.cancel_search.ensures

pub returns-in-Challenge : goal.returns-in-Challenge
returns-in-Challenge c =
    named_as (record_of c.args.state.now) c.args.conn c.args.badge.now c.args.cmd.now _ c.challenge.result c.in-Challenge.is c.challenge.ensures

pub returns-in-CancelChallenge : goal.returns-in-CancelChallenge
returns-in-CancelChallenge c =
    named_as (record_of c.args.state.now) c.args.conn c.args.badge.now c.args.cmd.now _ c.cancel_challenge.result c.in-CancelChallenge.is c.cancel_challenge.ensures

pub returns-in-Reject : goal.returns-in-Reject
returns-in-Reject c =
    named_as (record_of c.args.state.now) c.args.conn c.args.badge.now c.args.cmd.now _ c.reject.result c.in-Reject.is c.reject.ensures

pub returns-in-Whisper : goal.returns-in-Whisper
returns-in-Whisper c =
    let h : Record = record_of c.args.state.now in
    named_as h c.args.conn c.args.badge.now c.args.cmd.now _ c.whisper.result c.in-Whisper.is
    (subst (λ (text : List ℕ). IfOk c.whisper.result (IsNamedAnswer h c.args.conn c.args.badge.now (cmds.Whisper c.in-Whisper.user text)))
    c.as_str.ensures.value c.whisper.ensures)

pub returns-in-Rank : goal.returns-in-Rank
returns-in-Rank c =
    named_as (record_of c.args.state.now) c.args.conn c.args.badge.now c.args.cmd.now _ c.rank.result c.in-Rank.is
    (c.rank.ensures c.args.badge.now)

pub returns-in-Accept : goal.returns-in-Accept
returns-in-Accept c =
    let h : Record = record_of c.args.state.now in
    named_as h c.args.conn c.args.badge.now c.args.cmd.now _ c.accept.result c.in-Accept.is
    (if_then _ _ c.accept.result (accept_is h c.args.conn c.args.badge.now _) c.accept.ensures)
