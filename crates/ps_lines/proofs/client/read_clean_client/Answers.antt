use Rattle.std.proofs.Common.{◌≡◌, ℕ, false, List, sym, subst, ◌∙◌}
use Rattle.std.proofs.lemmas.Option.{same_Some}
use Rattle.ps_lines.specs.Commands.{has_control}
use Rattle.ps_lines.proofs.CleanLemmas.{clean_behind}
use Rattle.ps_lines.proofs.ClientLemmas.{is_text}
use Rattle.ps_lines.proofs.client.read_clean_client.Goals as goal

pub returns-in-Some-clause-clean : goal.returns-in-Some-clause-clean
returns-in-Some-clause-clean c =
    let same = same_Some c.args.whole.now c.text_in.result.now (sym (is_text c.args.whole.now c.utf8.whole) ∙ c.text_in.ensures) in
    let clean = subst (λ (t : List ℕ). has_control t ≡ false) same c.requires.no_control in
    clean_behind 124 c.text_in.result.now (c.in-Some.room.now, c.in-Some.text.now) clean (sym c.in-Some.ensures)
