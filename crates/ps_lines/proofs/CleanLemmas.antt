-- What stands behind a byte of a text without control characters has none.
use Rattle.std.proofs.Common.{◌≡◌, ◌==◌, ℕ, Bool, true, false, cond, List, [], ◌∷◌, Option, Some, None, refl, sym, ap, ◌∙◌}
use Rattle.std.specs.Prelude.{nat_lt}
use Rattle.std.specs.Option.{option_map}
use Rattle.std.proofs.lemmas.Bool.{or_parts}
use Rattle.std.proofs.lemmas.Option.{none-some, same_Some}
use Rattle.ps_lines.specs.Commands.{has_control}
use Rattle.ps_lines.specs.Parts.{at_first, before_parts}

later : (b : ℕ) (parts : List ℕ × List ℕ) (o : Option (List ℕ × List ℕ))
    → ((p : List ℕ × List ℕ) → o ≡ Some p → has_control p.1 ≡ false) → option_map (before_parts b) o ≡ Some parts → has_control parts.1 ≡ false
later b parts None more e = absurd (none-some parts e)
later b parts (Some p) more e = ap (λ (q : List ℕ × List ℕ). has_control q.1) (sym (same_Some _ _ e)) ∙ more p refl

here_or_later : (here : Bool) (b : ℕ) (text : List ℕ) (parts : List ℕ × List ℕ) (o : Option (List ℕ × List ℕ)) → has_control text ≡ false
    → ((p : List ℕ × List ℕ) → o ≡ Some p → has_control p.1 ≡ false) → cond here (Some ([], text)) (option_map (before_parts b) o) ≡ Some parts
    → has_control parts.1 ≡ false
here_or_later true b text parts o clean more e = ap (λ (q : List ℕ × List ℕ). has_control q.1) (sym (same_Some _ _ e)) ∙ clean
here_or_later false b text parts o clean more e = later b parts o more e

pub clean_behind : (c : ℕ) (text : List ℕ) (parts : List ℕ × List ℕ) → has_control text ≡ false → at_first c text ≡ Some parts → has_control parts.1 ≡ false
clean_behind c [] parts clean e = absurd (none-some parts e)
clean_behind c (b ∷ text) parts clean e =
    let rest : has_control text ≡ false = (or_parts (nat_lt b 32) (has_control text) clean).1 in
    here_or_later (b == c) b text parts (at_first c text) rest (λ p f. clean_behind c text p rest f) e
