use Rattle.ps_base.proofs.NumberLemmas.{parsed, plain_numeral, utf8_numeral, not_refused, number_is, number_none}
use Rattle.std.proofs.Common.{ℕ, sym}
use Rattle.ps_base.proofs.decimal.read_u32.Goals as goal

pub returns-then-not-is_plain-clause-none : goal.returns-then-not-is_plain-clause-none
returns-then-not-is_plain-clause-none c = λ n h. let e = plain_numeral c.args.text.now n h in cc

pub returns-then-not-is_plain-clause-exact : goal.returns-then-not-is_plain-clause-exact
returns-then-not-is_plain-clause-exact c = sym (number_none c.args.text.now (λ n h. let e = plain_numeral c.args.text.now n h in cc))

pub returns-in-Ok-parse-clause-found : goal.returns-in-Ok-parse-clause-found
returns-in-Ok-parse-clause-found c = parsed ℕ c.args.text.now c.in-Ok-parse.n (cc) (rw c.in-Ok.ensures.cases.0 at c.in-Ok-parse.ensures.value.0)

pub returns-in-Ok-parse-clause-exact : goal.returns-in-Ok-parse-clause-exact
returns-in-Ok-parse-clause-exact c = sym (number_is c.args.text.now c.in-Ok-parse.n (parsed ℕ c.args.text.now c.in-Ok-parse.n (cc) (rw c.in-Ok.ensures.cases.0 at c.in-Ok-parse.ensures.value.0)))

pub returns-in-Err-parse-clause-none : goal.returns-in-Err-parse-clause-none
returns-in-Err-parse-clause-none c = λ n h. not_refused _ c.args.text.now c.in-Err-parse.field-0 n (rw c.in-Ok.ensures.cases.0 at c.in-Err-parse.ensures.value.0) h

pub returns-in-Err-parse-clause-exact : goal.returns-in-Err-parse-clause-exact
returns-in-Err-parse-clause-exact c = sym (number_none c.args.text.now (λ n h. not_refused _ c.args.text.now c.in-Err-parse.field-0 n (rw c.in-Ok.ensures.cases.0 at c.in-Err-parse.ensures.value.0) h))

pub returns-in-Err-clause-none : goal.returns-in-Err-clause-none
returns-in-Err-clause-none c = λ n h. c.in-Err.ensures.cases.0 (utf8_numeral c.args.text.now n h)

pub returns-in-Err-clause-exact : goal.returns-in-Err-clause-exact
returns-in-Err-clause-exact c = sym (number_none c.args.text.now (λ n h. c.in-Err.ensures.cases.0 (utf8_numeral c.args.text.now n h)))
