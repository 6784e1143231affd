use Rattle.std.proofs.Common.{◌≡◌, ◌≢◌, ◌<◌, ◌^◌, ◌∙◌, ℕ, true, Result, subst, sym, rules}
use Rattle.std.specs.Fmt.{decimal}
use Rattle.std.specs.Str.{bytes_eq}
use Rattle.std.specs.Str.Parse.{ParsesUnsigned}
use Rattle.std.proofs.lemmas.Bool.{true≢false}
use Rattle.std.proofs.lemmas.Slice.Eq.{bytes_eq-Decides}
use Rattle.program_commands.proofs.SeedLemmas.{no_seed, seed_is, other_seed}
use Rattle.program_commands.proofs.words.seed_in.Goals as goal

pub returns-then-eq : goal.returns-then-eq
returns-then-eq c =
    let spelled : c.args.word.now ≡ decimal c.in-Ok.seed = search rules in
    let small : c.in-Ok.seed < 2 ^ 64 = search rules in
    sym (seed_is c.args.word.now c.in-Ok.seed spelled small)

pub returns-in-Err : goal.returns-in-Err
returns-in-Err c = sym (no_seed c.args.word.now c.in-Err.field-0 (subst (λ r. ParsesUnsigned 64 10 c.args.word.now r) c.in-Err.is c.parse.ensures.value.0))

pub returns-else-eq : goal.returns-else-eq
returns-else-eq c =
    let other : c.args.word.now ≢ decimal c.in-Ok.seed = λ e.
    let same : bytes_eq c.format.result.now c.args.word.now ≡ true = (bytes_eq-Decides c.format.result.now c.args.word.now).1 (c.format.ensures.text ∙ sym e) in
    true≢false (sym same ∙ sym c.eq.ensures ∙ c.if-eq.false)
    in
    sym (other_seed c.args.word.now c.in-Ok.seed c.parse.result c.in-Ok.is c.parse.ensures.value.0 other)
