use Rattle.std.proofs.Common.{◌++◌, ◌∷◌, [], string_bytes, List, ℕ, ap, ◌∙◌}
use Rattle.replay_state.specs.Heads.{each_headed}
use Rattle.replay_state.specs.declared.heads.Head.{Head}
use Rattle.replay_state.proofs.HearerLemmas.{all_headed}
use Rattle.replay_state.proofs.heads.push_headed.Goals as goal

pub returns-clause-text : goal.returns-clause-text
returns-clause-text c =
    c.in_ok-push_behind.ensures
    ∙ ap (λ (line : List ℕ). string_bytes c.args.out.now ++ each_headed (line ++ 10 ∷ []) c.args.count 0 c.as_slice.result.now) c.as_str.ensures.value
    ∙ ap (λ (list : List Head). string_bytes c.args.out.now ++ each_headed (c.args.line.now ++ 10 ∷ []) c.args.count 0 list) c.as_slice.ensures.value
    ∙ ap (λ (text : List ℕ). string_bytes c.args.out.now ++ text) (all_headed c.args.room.now c.args.log_entry.now c.args.line.now c.args.count c.make_ready.new.heads.list.items c.requires.common c.requires.plain c.in_ok-make_ready.ensures.ready)
