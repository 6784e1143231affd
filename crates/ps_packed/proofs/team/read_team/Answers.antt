use Rattle.std.proofs.Common.{◌≡◌, List, ℕ, sym, ap, subst, ◌∙◌, chars}
use Rattle.std.specs.List.{AllByRecursion}
use Rattle.std.specs.Str.{all_scalars}
use Rattle.std.proofs.lemmas.Str.{scalars-chars}
use Rattle.ps_packed.specs.Packed.{AreFieldTexts, IsTeam, team_texts_of}
use Rattle.ps_packed.specs.Scan.{team_of}
use Rattle.ps_packed.proofs.Unique.{fits_of, is_found, one_team}
use Rattle.ps_packed.proofs.team.read_team.Goals as goal

pub scan_text-requires : goal.scan_text-requires
scan_text-requires c = ap all_scalars (c.as_slice.ensures.value ∙ c.in_ok-text.ensures) ∙ scalars-chars c.args.text.now c.utf8.text

pub sets_of-requires : goal.sets_of-requires
sets_of-requires c =
    let some = c.in_ok-scan_text.ensures in
    let same : c.as_slice.result.now ≡ c.as_slice-2.result.now = c.as_slice.ensures.value ∙ sym c.as_slice-2.ensures.value in
    subst (λ (t : List ℕ). AllByRecursion AreFieldTexts (team_texts_of t)) same (fits_of c.as_slice.result.now some.0 some.1)

pub invariant_of-result : goal.invariant_of-result
invariant_of-result c =
    let some = c.in_ok-scan_text.ensures in
    let same : c.as_slice-2.result.now ≡ c.as_slice.result.now = c.as_slice-2.ensures.value ∙ sym c.as_slice.ensures.value in
    (c.as_slice.result.now, is_found c.as_slice.result.now some.0 c.in_ok-sets.sets some.1 (c.in_ok-sets.ensures ∙ ap team_of same))

is_team : (c : goal.After-drop-text-2) → IsTeam (chars c.args.text.now) c.in_ok-sets.sets
is_team c =
    let some = c.in_ok-scan_text.ensures in
    let same : c.as_slice-2.result.now ≡ c.as_slice.result.now = c.as_slice-2.ensures.value ∙ sym c.as_slice.ensures.value in
    let whole : c.as_slice.result.now ≡ chars c.args.text.now = c.as_slice.ensures.value ∙ c.in_ok-text.ensures in
    subst (λ (t : List ℕ). IsTeam t c.in_ok-sets.sets) whole (is_found c.as_slice.result.now some.0 c.in_ok-sets.sets some.1 (c.in_ok-sets.ensures ∙ ap team_of same))

pub returns-clause-found : goal.returns-clause-found
returns-clause-found c = is_team c

pub returns-clause-alone : goal.returns-clause-alone
returns-clause-alone c = λ other is. one_team (chars c.args.text.now) other c.in_ok-sets.sets is (is_team c)
