use Rattle.std.proofs.Common.{◌≤◌, sym, ◌∙◌, arith}
use Rattle.ps_hub.proofs.NameLemmas.{no_parts, number_behind, out_of_range, battle_is, if_none}
use Rattle.ps_hub.proofs.name.battle_named.Goals as goal
use Rattle.ps_hub.proofs.name.battle_named.Goals.{then-number-eq0-via-then-number-eq0, then-number-eq0-via-else-number-eq0+then-number-gt-MOST_BATTLES}

pub returns-in_err-digits-clause-none : goal.returns-in_err-digits-clause-none
returns-in_err-digits-clause-none c = if_none _ c.from_residual-in_err-digits.result (no_parts c.args.id.now c.in_ok-rest.rest.now c.in_ok-rest.ensures.found (sym c.in_err-digits.ensures))

pub returns-in_err-number-clause-none : goal.returns-in_err-number-clause-none
returns-in_err-number-clause-none c = if_none _ c.from_residual-in_err-number.result (λ n is.
    let above : n ≤ 65536 = is.3 in
    c.in_err-number.ensures.none n (record { spelled = c.as_bytes.ensures.value ∙ number_behind c.args.id.now c.in_ok-rest.rest.now _ n c.in_ok-rest.ensures.found (sym c.in_ok-digits.ensures) is; small = omega arith }))

pub returns-then-number-eq0-clause-none : goal.returns-then-number-eq0-clause-none
returns-then-number-eq0-clause-none c =
    let out : 1 ≤ c.in_ok-number.number → c.in_ok-number.number ≤ 65536 → ⊥ = elim c.then-number-eq0.branch [
      | then-number-eq0-via-then-number-eq0 w ↦ λ above below. absurd (omega (arith, w.if-number-eq0.true))
      | then-number-eq0-via-else-number-eq0+then-number-gt-MOST_BATTLES w ↦ λ above below. absurd (omega (arith, w.if-number-gt-MOST_BATTLES.true))
    ] in
    out_of_range c.args.id.now c.in_ok-rest.rest.now _ c.in_ok-number.number c.in_ok-rest.ensures.found (sym c.in_ok-digits.ensures) (sym c.as_bytes.ensures.value ∙ c.in_ok-number.ensures.found.spelled) c.in_ok-number.ensures.found.small out

pub returns-clause-found : goal.returns-clause-found
returns-clause-found c = battle_is c.args.id.now c.in_ok-rest.rest.now _ c.in_ok-number.number c.in_ok-rest.ensures.found (sym c.in_ok-digits.ensures) (sym c.as_bytes.ensures.value ∙ c.in_ok-number.ensures.found.spelled) (omega arith) (omega arith)
