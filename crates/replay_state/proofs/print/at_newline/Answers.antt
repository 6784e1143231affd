use Rattle.std.proofs.Common.{Option, Some, None, MatchOption, IfSome, IfNone, lit<}
use Rattle.std.proofs.lemmas.Str.Pattern.{split_parts}
use Rattle.replay_state.proofs.print.at_newline.Goals as goal

second : {X : Type 0} (r : Option X) (P : Type 0) (A B : X → Type 0) → MatchOption r P (λ x. A x × B x) → IfSome r B
second None P A B h = tt
second (Some x) P A B h = h.1

none_part : {X : Type 0} (r : Option X) (P : Type 0) (Q : X → Type 0) → MatchOption r P Q → IfNone r P
none_part None P Q h = h
none_part (Some x) P Q h = tt

pub returns-clause-first : goal.returns-clause-first
returns-clause-first c = second c.split_once.result _ _ _ (split_parts 10 c.args.text.now c.split_once.result c.split_once.ensures.cases (lit< tt))

pub returns-clause-none : goal.returns-clause-none
returns-clause-none c = none_part c.split_once.result _ _ (split_parts 10 c.args.text.now c.split_once.result c.split_once.ensures.cases (lit< tt))
