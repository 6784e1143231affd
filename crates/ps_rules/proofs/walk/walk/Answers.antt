use Rattle.std.proofs.Common.{◌≡◌, ◌∙◌, ◌<◌, ℕ, List, [], length, replicate, Option, Some, None, Ok, IfSome, ap, subst, arith}
use Rattle.std.proofs.lemmas.List.{nil_from_length}
use Rattle.ps_rules.specs.declared.table.Rule.{Rule}
use Rattle.ps_rules.specs.declared.table.Ruleset.{Ruleset}
use Rattle.ps_rules.specs.declared.marks.Mark.{Mark}
use Rattle.ps_rules.specs.declared.marks.Mark.TheVariants.{New}
use Rattle.ps_rules.specs.declared.walk.Frame.{Frame}
use Rattle.ps_rules.specs.declared.walk.Turn.{Turn}
use Rattle.ps_rules.specs.declared.walk.Turn.TheVariants.{Further, Inner, Over}
use Rattle.ps_rules.specs.Walk.{walk}
use Rattle.ps_rules.specs.Steps.{turn_in, frame_at}
use Rattle.ps_rules.proofs.StackLemmas.{Stands, stands_at_first}
use Rattle.ps_rules.proofs.StepLemmas.{fails_alike, wrong_finds, further_stands, further_less, inner_within, inner_stands, inner_less, over_finds, over_within, over_stands, over_less}
use Rattle.ps_rules.proofs.walk.walk.Goals as goal

is_step : (sets : List Ruleset) (marks : List Mark) (first : List Rule) (f : Frame) (x y : Turn) → turn_in sets marks first f ≡ Ok x → x ≡ y → turn_in sets marks first f ≡ Ok y
is_step sets marks first f x y h k = h ∙ ap (λ (t : Turn). Ok t) k

begun : (sets : List Ruleset) (first : List Rule) (n : ℕ) (marks : List Mark) (f : Frame) (waiting : List Frame) → n ≡ length sets → marks ≡ replicate n New → f ≡ frame_at None → waiting ≡ [] → Stands sets first marks f waiting
begun sets first n marks f waiting size all first_frame nothing_waits = rw (all, size, first_frame, nothing_waits) (stands_at_first sets first)

within : (o : Option ℕ) (p n : ℕ) → o ≡ Some p → p < n → IfSome o (λ q. q < n)
within o p n e lt = rw e lt

pub steps-init : goal.steps-init
steps-init c = begun c.args.sets.now c.args.rules.now (length c.as_slice.result.now) c.all_new-marks.result c.frame_at-frame.result c.new-waiting.result.items (ap length c.as_slice.ensures) c.all_new-marks.ensures c.frame_at-frame.ensures c.new-waiting.ensures.items

pub returns-in-Err : goal.returns-in-Err
unfolding walk
returns-in-Err c =
    fails_alike c.in-Err.fault (turn_in c.args.sets.now c.steps.marks c.args.rules.now c.steps.frame) (walk c.args.sets.now c.args.rules.now)
    (λ fault e. wrong_finds c.args.sets.now c.args.rules.now c.steps.marks c.steps.frame c.steps.waiting.items c.steps.invariant fault e)
    c.in-Err.ensures

pub steps-smaller-in-Ok-Further : goal.steps-smaller-in-Ok-Further
steps-smaller-in-Ok-Further c =
    let step = is_step c.args.sets.now c.steps.marks c.args.rules.now c.steps.frame c.in-Ok-Further.field-0 (Further c.in-Ok-Further.next) c.in-Ok-Further.ensures c.in-Ok-Further.field-0-is in
    further_less c.args.sets.now c.args.rules.now c.steps.marks c.steps.frame c.steps.waiting.items c.in-Ok-Further.next step

pub steps-preserved-in-Ok-Further : goal.steps-preserved-in-Ok-Further
steps-preserved-in-Ok-Further c =
    let step = is_step c.args.sets.now c.steps.marks c.args.rules.now c.steps.frame c.in-Ok-Further.field-0 (Further c.in-Ok-Further.next) c.in-Ok-Further.ensures c.in-Ok-Further.field-0-is in
    further_stands c.args.sets.now c.args.rules.now c.steps.marks c.steps.frame c.steps.waiting.items c.steps.invariant c.in-Ok-Further.next step

pub set-requires : goal.set-requires
set-requires c =
    let step = is_step c.args.sets.now c.steps.marks c.args.rules.now c.steps.frame c.in-Ok-Inner.field-0 (Inner c.in-Ok-Inner.index) c.in-Ok-Inner.ensures c.in-Ok-Inner.field-0-is in
    inner_within c.args.sets.now c.args.rules.now c.steps.marks c.steps.frame c.in-Ok-Inner.index step

pub steps-smaller-in-Ok-Inner : goal.steps-smaller-in-Ok-Inner
steps-smaller-in-Ok-Inner c =
    let step = is_step c.args.sets.now c.steps.marks c.args.rules.now c.steps.frame c.in-Ok-Inner.field-0 (Inner c.in-Ok-Inner.index) c.in-Ok-Inner.ensures c.in-Ok-Inner.field-0-is in
    let less = inner_less c.args.sets.now c.args.rules.now c.steps.marks c.steps.frame c.steps.waiting.items c.in-Ok-Inner.index c.steps.invariant.sized step in
    rw (c.in_ok-set-in-Ok-Inner.ensures, c.frame_at-frame-in-Ok-Inner.ensures, c.in_ok-push_front-in-Ok-Inner.ensures.items) less

pub steps-preserved-in-Ok-Inner : goal.steps-preserved-in-Ok-Inner
steps-preserved-in-Ok-Inner c =
    let step = is_step c.args.sets.now c.steps.marks c.args.rules.now c.steps.frame c.in-Ok-Inner.field-0 (Inner c.in-Ok-Inner.index) c.in-Ok-Inner.ensures c.in-Ok-Inner.field-0-is in
    rw (c.in_ok-set-in-Ok-Inner.ensures, c.frame_at-frame-in-Ok-Inner.ensures, c.in_ok-push_front-in-Ok-Inner.ensures.items) (inner_stands c.args.sets.now c.args.rules.now c.steps.marks c.steps.frame c.steps.waiting.items c.steps.invariant c.in-Ok-Inner.index step)

pub returns-in_default : goal.returns-in_default
unfolding walk
returns-in_default c =
    let step = is_step c.args.sets.now c.steps.marks c.args.rules.now c.steps.frame c.in-Ok-Over.field-0 (Over c.in-Ok-Over.clauses) c.in-Ok-Over.ensures c.in-Ok-Over.field-0-is in
    let none : c.steps.waiting.items ≡ [] = nil_from_length c.steps.waiting.items (omega (arith, c.in_default.ensures.cases.0, c.steps.waiting.ok)) in
    over_finds c.args.sets.now c.args.rules.now c.steps.marks c.steps.frame (subst (λ (fs : List Frame). Stands c.args.sets.now c.args.rules.now c.steps.marks c.steps.frame fs) none c.steps.invariant) c.in-Ok-Over.clauses step

pub close-requires : goal.close-requires
close-requires c =
    let stands = subst (λ (fs : List Frame). Stands c.args.sets.now c.args.rules.now c.steps.marks c.steps.frame fs) c.in-Some.ensures.items c.steps.invariant in
    let w = over_within c.args.sets.now c.args.rules.now c.steps.marks c.steps.frame c.in-Some.outer c.pop_front.new.self.items stands in
    within c.steps.frame.index w.0 (length c.steps.marks) w.1 w.2

pub steps-smaller : goal.steps-smaller
steps-smaller c =
    let stands = subst (λ (fs : List Frame). Stands c.args.sets.now c.args.rules.now c.steps.marks c.steps.frame fs) c.in-Some.ensures.items c.steps.invariant in
    let less = over_less c.args.sets.now c.args.rules.now c.steps.marks c.steps.frame c.in-Some.outer c.pop_front.new.self.items stands c.in-Ok-Over.clauses in
    rw (c.in_ok-close-in-Ok-Over.ensures, c.in-Some.ensures.items) less

pub steps-preserved : goal.steps-preserved
steps-preserved c =
    let step = is_step c.args.sets.now c.steps.marks c.args.rules.now c.steps.frame c.in-Ok-Over.field-0 (Over c.in-Ok-Over.clauses) c.in-Ok-Over.ensures c.in-Ok-Over.field-0-is in
    let stands = subst (λ (fs : List Frame). Stands c.args.sets.now c.args.rules.now c.steps.marks c.steps.frame fs) c.in-Some.ensures.items c.steps.invariant in
    rw c.in_ok-close-in-Ok-Over.ensures (over_stands c.args.sets.now c.args.rules.now c.steps.marks c.steps.frame c.in-Some.outer c.pop_front.new.self.items stands c.in-Ok-Over.clauses step)
