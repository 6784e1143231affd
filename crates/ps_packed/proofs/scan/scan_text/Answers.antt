use Rattle.std.proofs.Common.{◌≡◌, ◌<◌, ◌+◌, ap, sym, subst, ◌∙◌, refl, ℕ, Some, None, ◌≤◌, arith, length, take}
use Rattle.ps_packed.specs.Packed.{bytes_of, Refuses}
use Rattle.ps_packed.specs.Scan.{State, step, need_of}
use Rattle.ps_packed.proofs.Ends.{step_valid}
use Rattle.ps_packed.proofs.Longest.{IsAlive, start_alive, alive_next, next_at, read_at, kind_in, longest_here, longest_end, no_team_here, no_team_end, found_end, stops, past_limit, too_far, long_limit, long_room, kind_here, kind_end}
use Rattle.ps_packed.proofs.scan.scan_text.Goals as goal

pub loop-next-init : goal.loop-next-init
loop-next-init c = record { alive = subst (λ (s : State). IsAlive c.args.text.now 0 s) (sym c.new-scan.ensures) (start_alive c.args.text.now); offset = refl }

pub returns-then-at-ge-BYTE_LIMIT : goal.returns-then-at-ge-BYTE_LIMIT
returns-then-at-ge-BYTE_LIMIT c =
    let text = c.args.text.now in
    let a = c.loop-next.invariant.alive in
    let far = rw c.loop-next.invariant.offset at c.if-at-ge-BYTE_LIMIT.true in
    let l = longest_here text c.loop-next.next-index c.loop-next.scan c.requires a (past_limit text c.loop-next.next-index c.loop-next.scan c.loop-next-test.true far) in
    subst (Refuses text) (sym c.fault.ensures) (record { count = c.loop-next.next-index; longest = l; offset = c.loop-next.invariant.offset; kind_is = long_limit text c.loop-next.next-index c.loop-next.scan a far }, no_team_here text c.loop-next.next-index l c.loop-next-test.true)

pub step-requires : goal.step-requires
step-requires c = c.loop-next.invariant.alive.valid.front

pub returns-then-not-branch : goal.returns-then-not-branch
returns-then-not-branch c =
    let text = c.args.text.now in
    let a = c.loop-next.invariant.alive in
    let x = read_at text c.loop-next.next-index c.next-item.result c.loop-next-test.true c.next-item.is in
    let none = rw c.if-not-branch.true at c.in_ok-step.ensures in
    let stopped = subst (λ (y : ℕ). step c.loop-next.scan y ≡ None) x none.0 in
    let l = longest_here text c.loop-next.next-index c.loop-next.scan c.requires a (stops text c.loop-next.next-index c.loop-next.scan stopped) in
    let k = subst (λ (y : ℕ). c.in_ok-kind.kind ≡ kind_in c.loop-next.scan (Some y)) x (rw none.1 at c.in_ok-kind.ensures) in
    let small = rw c.loop-next.invariant.offset at c.if-at-ge-BYTE_LIMIT.false in
    subst (Refuses text) (sym c.fault-then-not-branch.ensures) (record { count = c.loop-next.next-index; longest = l; offset = c.loop-next.invariant.offset; kind_is = kind_here text c.loop-next.next-index c.loop-next.scan c.in_ok-kind.kind a c.loop-next-test.true small stopped k }, no_team_here text c.loop-next.next-index l c.loop-next-test.true)

pub need-requires : goal.need-requires
need-requires c =
    let some = rw c.if-not-branch.false at c.in_ok-step.ensures in
    record { valid = (step_valid c.loop-next.scan c.next-item.result c.step.new.self c.loop-next.invariant.alive.valid some).front }

pub returns-then-after-need-gt-BYTE_LIMIT : goal.returns-then-after-need-gt-BYTE_LIMIT
returns-then-after-need-gt-BYTE_LIMIT c =
    let text = c.args.text.now in
    let a = c.loop-next.invariant.alive in
    let x = read_at text c.loop-next.next-index c.next-item.result c.loop-next-test.true c.next-item.is in
    let some = subst (λ (y : ℕ). step c.loop-next.scan y ≡ Some c.step.new.self) x (rw c.if-not-branch.false at c.in_ok-step.ensures) in
    let bytes : bytes_of (take (c.loop-next.next-index + 1) text) ≡ c.loop-next.at + c.byte_count.result = next_at text c.loop-next.next-index c.next-item.result c.loop-next.at c.byte_count.result c.loop-next-test.true x c.loop-next.invariant.offset c.byte_count.ensures.value in
    let far : 4096 < bytes_of (take (c.loop-next.next-index + 1) text) + need_of c.step.new.self = omega (arith, bytes, c.if-after-need-gt-BYTE_LIMIT.true, c.need.ensures.value) in
    let l = longest_here text c.loop-next.next-index c.loop-next.scan c.requires a (too_far text c.loop-next.next-index c.loop-next.scan c.step.new.self some far) in
    subst (Refuses text) (sym c.fault-then-after-need-gt-BYTE_LIMIT.ensures) (record { count = c.loop-next.next-index; longest = l; offset = c.loop-next.invariant.offset; kind_is = long_room text c.loop-next.next-index c.loop-next.scan c.step.new.self c.requires a c.loop-next-test.true some }, no_team_here text c.loop-next.next-index l c.loop-next-test.true)

pub loop-next-preserved : goal.loop-next-preserved
loop-next-preserved c =
    let text = c.args.text.now in
    let x = read_at text c.loop-next.next-index c.next-item.result c.loop-next-test.true c.next-item.is in
    let some = subst (λ (y : ℕ). step c.loop-next.scan y ≡ Some c.step.new.self) x (rw c.if-not-branch.false at c.in_ok-step.ensures) in
    let bytes : bytes_of (take (c.loop-next.next-index + 1) text) ≡ c.loop-next.at + c.byte_count.result = next_at text c.loop-next.next-index c.next-item.result c.loop-next.at c.byte_count.result c.loop-next-test.true x c.loop-next.invariant.offset c.byte_count.ensures.value in
    let room : bytes_of (take (c.loop-next.next-index + 1) text) + need_of c.step.new.self ≤ 4096 = omega (arith, bytes, c.if-after-need-gt-BYTE_LIMIT.false, c.need.ensures.value) in
    record { alive = alive_next text c.loop-next.next-index c.loop-next.scan c.step.new.self c.loop-next.invariant.alive c.loop-next-test.true some room; offset = sym bytes }

pub returns-then-not-branch-2 : goal.returns-then-not-branch-2
returns-then-not-branch-2 c =
    let text = c.args.text.now in
    let end : c.loop-next.next-index ≡ length text = omega (arith, c.loop-next-test.false, c.loop-next.invariant.alive.within) in
    let a = subst (λ i. IsAlive text i c.loop-next.scan) end c.loop-next.invariant.alive in
    let refused = sym c.in_ok-accepts.ensures ∙ c.if-not-branch-2.true in
    let l = longest_end text c.loop-next.scan c.requires a in
    let offset : c.loop-next.at ≡ bytes_of (take (length text) text) = c.loop-next.invariant.offset ∙ ap (λ i. bytes_of (take i text)) end in
    subst (Refuses text) (sym c.fault-then-not-branch-2.ensures) (record { count = length text; longest = l; offset = offset; kind_is = kind_end text c.loop-next.scan c.in_ok-kind-2.kind a refused c.in_ok-kind-2.ensures }, no_team_end text c.loop-next.scan a refused)

pub returns : goal.returns
returns c =
    let text = c.args.text.now in
    let end : c.loop-next.next-index ≡ length text = omega (arith, c.loop-next-test.false, c.loop-next.invariant.alive.within) in
    found_end text c.loop-next.scan c.requires (subst (λ i. IsAlive text i c.loop-next.scan) end c.loop-next.invariant.alive) (sym c.in_ok-accepts.ensures ∙ c.if-not-branch-2.false)
