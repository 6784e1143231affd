use Rattle.std.proofs.Common.{◌≡◌, ◌+◌, ◌<◌, ℕ, ◌∷◌, [], ◌++◌, arith, ap, sym, ◌∙◌, List, take, drop, get_or, length, append_assoc}
use Rattle.std.proofs.lemmas.List.{drop_more, take_more, take-append-drop, length-append}
use Rattle.replay_script.specs.Limits.{breaks_of}
use Rattle.replay_script.proofs.LimitLemmas.{past_lines, past_bytes, long_of_more, breaks_at_newline, breaks_at_other}
use Rattle.replay_script.proofs.input.take_each.Goals as goal
use Rattle.replay_script.proofs.input.take_each.Goals.{then-b-eq10, else-b-eq10}

at_index : (old piece now : List ℕ) (i : ℕ) → now ≡ old ++ take i piece → i < length piece → old ++ piece ≡ now ++ get_or piece i 0 ∷ drop (i + 1) piece
at_index old piece now i e lt =
    ap (λ (x : List ℕ). old ++ x) (sym (take-append-drop i piece) ∙ ap (λ (x : List ℕ). take i piece ++ x) (drop_more piece i 0 lt))
    ∙ sym (append_assoc old (take i piece) (get_or piece i 0 ∷ drop (i + 1) piece))
    ∙ ap (λ (x : List ℕ). x ++ get_or piece i 0 ∷ drop (i + 1) piece) (sym e)

pub returns-then-breaks-ge-MOST_LINES-clause-long : goal.returns-then-breaks-ge-MOST_LINES-clause-long
returns-then-breaks-ge-MOST_LINES-clause-long c =
    let inv = c.loop-b.invariant in
    past_lines _ c.loop-b.bytes.items (drop (c.loop-b.b-index + 1) c.args.piece.now) (get_or c.args.piece.now c.loop-b.b-index 0)
    (at_index c.args.bytes.now.items c.args.piece.now c.loop-b.bytes.items c.loop-b.b-index inv.items (omega arith)) inv.short (omega (arith, inv.counted))

pub returns-then-len-ge-MOST_BYTES-clause-long : goal.returns-then-len-ge-MOST_BYTES-clause-long
returns-then-len-ge-MOST_BYTES-clause-long c =
    let inv = c.loop-b.invariant in
    past_bytes _ c.loop-b.bytes.items (drop (c.loop-b.b-index + 1) c.args.piece.now) (get_or c.args.piece.now c.loop-b.b-index 0)
    (at_index c.args.bytes.now.items c.args.piece.now c.loop-b.bytes.items c.loop-b.b-index inv.items (omega arith)) inv.short (omega (arith, inv.counted)) (omega (arith, c.loop-b.bytes.ok.0))

pub loop-b-preserved : goal.loop-b-preserved
loop-b-preserved c =
    let inv = c.loop-b.invariant in
    let xs = c.loop-b.bytes.items in
    let b = get_or c.args.piece.now c.loop-b.b-index 0 in
    let pushed = c.in_ok-push.ensures.items in
    let few : breaks_of xs < 200000 = omega (arith, inv.counted) in
    let small : length xs < 16777216 = omega (arith, c.loop-b.bytes.ok.0) in
    record {
      items = pushed ∙ ap (λ (x : List ℕ). x ++ b ∷ []) inv.items ∙ append_assoc c.args.bytes.now.items (take c.loop-b.b-index c.args.piece.now) (b ∷ []) ∙ ap (λ (x : List ℕ). c.args.bytes.now.items ++ x) (sym (take_more c.args.piece.now c.loop-b.b-index 0 (omega arith)));
      short = rw pushed (long_of_more xs b inv.short few small);
      counted = rw pushed (elim c.if-b-eq10.branch [
        | then-b-eq10 w ↦ w.breaks-is ∙ ap (λ (n : ℕ). n + 1) inv.counted ∙ sym (breaks_at_newline xs b w.if-b-eq10.true)
        | else-b-eq10 w ↦ w.breaks-is ∙ inv.counted ∙ sym (breaks_at_other xs b w.if-b-eq10.false)
      ]);
      few = elim c.if-b-eq10.branch [ then-b-eq10 w ↦ omega arith | else-b-eq10 w ↦ omega arith ];
      small = rw pushed (omega (arith, length-append xs (b ∷ []), small));
    }
