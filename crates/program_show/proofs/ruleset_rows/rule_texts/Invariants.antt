use Rattle.std.proofs.Common.{◌≡◌, map, take}
use Rattle.program_show.specs.RulesetRows.{rule_text}
use Rattle.program_show.proofs.ruleset_rows.rule_texts.Given as goal

abbrev pub invariant-loop-rule : goal.invariant-loop-rule
invariant-loop-rule l = l.texts.items ≡ map rule_text (take l.rule-index l.rules)
