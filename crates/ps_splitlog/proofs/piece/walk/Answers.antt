use Rattle.std.proofs.Common.{◌≡◌, ◌≤◌, ◌<◌, ℕ, ◌-◌, max, ◌⊎◌, List, length, map, ap, sym, ◌∙◌, subst, inl, inr, arith, refl}
use Rattle.ps_base.specs.declared.msg.Msg.{Msg}
use Rattle.ps_base.specs.Messages.{msg_lines}
use Rattle.ps_splitlog.specs.Entries.{changed}
use Rattle.ps_splitlog.specs.Pieces.{IsFull, IsOpen, most_bytes}
use Rattle.ps_splitlog.proofs.PieceLemmas.{IsWalking, walking_starts, next_walking, walked, all_left}
use Rattle.ps_splitlog.proofs.piece.walk.Goals as goal

pub loop-entry_index-init : goal.loop-entry_index-init
loop-entry_index-init c =
    subst (λ (ms : List Msg). IsWalking c.args.start c.args.entries.now c.args.most (map msg_lines ms) most_bytes c.args.start.role c.args.start.at)
    (sym c.new-messages.ensures.items) (walking_starts c.args.start c.args.entries.now c.args.most)

pub ends-requires : goal.ends-requires
ends-requires c = rw c.as_slice.ensures.value c.loop-entry_index.invariant.room_is

pub returns-then-ends : goal.returns-then-ends
returns-then-ends c =
    let count : ℕ = length c.args.entries.now in
    let i : ℕ = c.loop-entry_index.entry_index in
    let from : c.args.start.at ≤ i = c.loop-entry_index.auto.entry_index in
    let stop : c.max-stop.result ≡ max (count - c.args.least) c.args.start.at =
    c.max-stop.ensures ∙ ap (λ n. max n c.args.start.at) c.saturating_sub.ensures in
    let before : i < c.max-stop.result = c.loop-entry_index-test.true in
    let lt : i < count - c.args.least = omega (arith, from, stop, before) in
    let full : IsFull (map msg_lines c.loop-entry_index.messages.items) =
    subst (λ (ms : List Msg). IsFull (map msg_lines ms)) c.as_slice.ensures.value (c.ends.ensures.yes c.if-ends.true).1 in
    let high : count - i ≤ c.args.most = (c.ends.ensures.yes c.if-ends.true).0 in
    walked c.args.start c.args.entries.now c.args.least c.args.most (map msg_lines c.loop-entry_index.messages.items) c.loop-entry_index.room
    (count - i) i i c.loop-entry_index.role c.loop-entry_index.invariant (inl (omega (arith, lt))) (omega (arith, lt)) (omega arith) high
    (omega (arith, lt, from)) (omega (arith, from)) (inr full)

pub loop-entry_index-preserved : goal.loop-entry_index-preserved
loop-entry_index-preserved c =
    let count : ℕ = length c.args.entries.now in
    let i : ℕ = c.loop-entry_index.entry_index in
    let from : c.args.start.at ≤ i = c.loop-entry_index.auto.entry_index in
    let stop : c.max-stop.result ≡ max (count - c.args.least) c.args.start.at =
    c.max-stop.ensures ∙ ap (λ n. max n c.args.start.at) c.saturating_sub.ensures in
    let before : i < c.max-stop.result = c.loop-entry_index-test.true in
    let on : (c.args.most < count - i) ⊎ IsOpen (map msg_lines c.loop-entry_index.messages.items) =
    subst (λ (ms : List Msg). (c.args.most < count - i) ⊎ IsOpen (map msg_lines ms))
    c.as_slice.ensures.value (c.ends.ensures.not c.if-ends.false) in
    next_walking c.args.start c.args.entries.now c.args.most (map msg_lines c.loop-entry_index.messages.items)
    (map msg_lines c.push_entry.new.messages.items) c.loop-entry_index.room c.in_ok-room.room c.loop-entry_index.role c.changed-role.result i
    c.index-entries-entry_index.result from (omega (arith, from, stop, before)) c.loop-entry_index.invariant on
    c.in_ok-room.ensures.messages c.in_ok-room.ensures.room
    (c.changed-role.ensures ∙ ap (λ rs. changed c.args.start.conn rs c.loop-entry_index.role) c.as_slice-in-loop-entry_index.ensures)

pub returns : goal.returns
returns c =
    let count : ℕ = length c.args.entries.now in
    let i : ℕ = c.loop-entry_index.entry_index in
    let from : c.args.start.at ≤ i = c.loop-entry_index.auto.entry_index in
    let stop : c.max-stop.result ≡ max (count - c.args.least) c.args.start.at =
    c.max-stop.ensures ∙ ap (λ n. max n c.args.start.at) c.saturating_sub.ensures in
    let end : c.max-stop.result ≤ i = c.loop-entry_index-test.false in
    let within : i ≤ c.max-stop.result = c.loop-entry_index.auto.entry_index-end (omega (arith, stop)) in
    let left : c.saturating_sub-left.result ≡ count - c.max-stop.result = c.saturating_sub-left.ensures in
    let bounds : c.args.least ≤ c.args.most = c.requires.bounds in
    walked c.args.start c.args.entries.now c.args.least c.args.most (map msg_lines c.loop-entry_index.messages.items) c.loop-entry_index.room
    c.saturating_sub-left.result i (count - c.saturating_sub-left.result) c.loop-entry_index.role c.loop-entry_index.invariant
    (all_left i c.saturating_sub-left.result count (omega (arith, left, end, within))) refl (omega (arith, left)) (omega (arith, left, stop, bounds))
    (omega (arith, left, stop, bounds)) (omega (arith, left, stop, bounds)) (inl (omega (arith, left, stop)))
