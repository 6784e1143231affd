use Rattle.std.proofs.Common.{◌==◌, not, refl, arith}
use Rattle.std.proofs.lemmas.List.Filters.{length-filter_both}
use Rattle.std.proofs.lemmas.List.Splits.{length-slice_split}
use Rattle.std.proofs.lemmas.List.Sums.{length-filter}
use Rattle.ps_export.proofs.read.line_total.Goals as goal

pub overflow_add-result : goal.overflow_add-result
overflow_add-result c = omega (arith, c.newlines.ensures, c.requires, length-filter_both (λ b. b == 10) (λ b. not (b == 10)) (λ b. refl) c.args.text.now)

pub returns-clause-lines : goal.returns-clause-lines
returns-clause-lines c = omega (arith, c.newlines.ensures, length-slice_split (λ b. b == 10) c.args.text.now, length-filter (λ b. b == 10) c.args.text.now)

pub returns-clause-few : goal.returns-clause-few
returns-clause-few c = omega (arith, c.newlines.ensures, c.requires, length-filter_both (λ b. b == 10) (λ b. not (b == 10)) (λ b. refl) c.args.text.now)
