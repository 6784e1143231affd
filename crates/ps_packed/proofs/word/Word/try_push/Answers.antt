use Rattle.std.proofs.Common.{length, drop, sym, ap, ◌∙◌, arith}
use Rattle.ps_packed.proofs.Counts.{counts_after, ids_few}
use Rattle.ps_packed.proofs.word.Word.try_push.Goals as goal

pub ids_after-more-requires : goal.ids_after-more-requires
ids_after-more-requires c = omega (arith, ids_few c.self.inside.chars.items c.self.inside.part c.self.inside.ids c.self.invariant, c.self.inside.chars.ok.0, c.self.inside.chars.ok.1, c.self.inside.chars.small)

pub begins_so-requires-clause-counts : goal.begins_so-requires-clause-counts
begins_so-requires-clause-counts c = counts_after c.self.inside.chars.items c.args.c c.self.inside.part c.self.inside.ids _ _ _ _ _ c.self.invariant (c.tail.ensures ∙ ap (drop c.self.inside.part) c.deref.ensures.value) (c.deref-2.ensures.value ∙ c.in_ok-push.ensures.items) (c.len.ensures ∙ c.push.new.self.ok.0 ∙ ap length (sym c.deref-2.ensures.value)) c.part_after-self-inside.ensures c.ids_after-more.ensures

pub invariant_of-self-in_err-begins_so : goal.invariant_of-self-in_err-begins_so
invariant_of-self-in_err-begins_so c = counts_after c.self.inside.chars.items c.args.c c.self.inside.part c.self.inside.ids _ _ _ _ _ c.self.invariant (c.tail.ensures ∙ ap (drop c.self.inside.part) c.deref.ensures.value) c.in_ok-push.ensures.items (c.len.ensures ∙ c.push.new.self.ok.0) c.part_after-self-inside.ensures c.ids_after-more.ensures

pub invariant_of-self-then-branch : goal.invariant_of-self-then-branch
invariant_of-self-then-branch c = counts_after c.self.inside.chars.items c.args.c c.self.inside.part c.self.inside.ids _ _ _ _ _ c.self.invariant (c.tail.ensures ∙ ap (drop c.self.inside.part) c.deref.ensures.value) c.in_ok-push.ensures.items (c.len.ensures ∙ c.push.new.self.ok.0) c.part_after-self-inside.ensures c.ids_after-more.ensures
