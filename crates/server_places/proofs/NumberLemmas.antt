-- The numbers of the battles that entries of the hall start: each is the next one, and one of those of battles.
use Rattle.std.proofs.Common.{◌≡◌, ℕ, ◌+◌, ◌<◌, ◌≤◌, List, [], ◌∷◌, ◌++◌, Option, Some, None, IfSome, refl, sym, ap, ◌∙◌, subst, arith}
use Rattle.ps_base.specs.Ids.{id_of}
use Rattle.ps_base.specs.declared.badge.Badge.{Badge}
use Rattle.ps_base.specs.declared.hall_why.HallWhy.{HallWhy}
use Rattle.ps_lines.specs.declared.command.HallCmd.{HallCmd}
use Rattle.ps_lines.specs.declared.command.HallCmd.TheVariants.{Search, Accept}
use Rattle.rules_start.specs.declared.start.Start.{Start}
use Rattle.ps_hall.specs.declared.entry.HallEntry.{HallEntry}
use Rattle.ps_hall.specs.declared.outcome.HallOut.{HallOut}
use Rattle.ps_hall.specs.Records.{Record}
use Rattle.ps_base.specs.Limits.{most_battles}
use Rattle.ps_hall.specs.Lookups.{badge_of}
use Rattle.ps_hall.specs.Refusals.{refusal, refusal_by}
use Rattle.ps_hall.specs.Starts.{start_of_search, start_of_accept}
use Rattle.ps_hall.specs.Steps.{start_by, start_of}
use Rattle.ps_hall.specs.Halls.{verdict, after, run_record, out_by, out_of}
use Rattle.ps_hall.proofs.ApplyLemmas.{few_search, few_accept}
use Rattle.ps_hall.proofs.StepLemmas.{IsNext, search_next, accept_next, StartsAt, entry_counts}
use Rattle.server_places.specs.declared.site.Root.{Root}
use Rattle.server_places.specs.Halls.{HallAnswers, hall_opened, hall_after}

-- ---- the number of what starts is one of battles

abbrev pub IsNumber : Start → Type 0
IsNumber s = (1 ≤ s.number) × (s.number ≤ most_battles)

next_number : (started : ℕ) (o : Option Start) → IfSome o (IsNext started) → started < most_battles → IfSome o IsNumber
next_number started None next few = tt
next_number started (Some s) next few = let is : s.number ≡ started + 1 = next in (omega arith, omega arith)

search_by : (h : Record) (badge : Option Badge) (format : List ℕ) → refusal_by h badge (Search format) ≡ None → IfSome (start_by h badge (Search format)) IsNumber
search_by h None format e = tt
search_by h (Some badge) format e = next_number h.started (start_of_search h badge.name format) (search_next h badge.name format) (few_search h (id_of badge.name) format e)

accept_by : (h : Record) (badge : Option Badge) (user : List ℕ) → refusal_by h badge (Accept user) ≡ None → IfSome (start_by h badge (Accept user)) IsNumber
accept_by h None user e = tt
accept_by h (Some badge) user e = next_number h.started (start_of_accept h badge.name user) (accept_next h badge.name user) (few_accept h (id_of badge.name) user e)

start_number : (h : Record) (conn : ℕ) (cmd : HallCmd) → refusal h conn cmd ≡ None → IfSome (start_of h conn cmd) IsNumber
unfolding refusal start_of
start_number h conn (Search format) e = search_by h (badge_of h conn) format e
start_number h conn (Accept user) e = accept_by h (badge_of h conn) user e
start_number h conn other e = tt

number_by : (v : Option HallWhy) (h : Record) (conn : ℕ) (cmd : HallCmd) → refusal h conn cmd ≡ v → IfSome (out_by v h conn cmd).start IsNumber
number_by (Some why) h conn cmd e = tt
number_by None h conn cmd e = start_number h conn cmd e

pub numbered : (h : Record) (e : HallEntry) → IfSome (out_of h e).start IsNumber
numbered h e = number_by (verdict h e) h e.conn e.cmd refl

-- ---- over a history

rises : (s : Option Start) (old new : ℕ) → StartsAt s old new → old ≤ new
rises None old new e = let same : new ≡ old = e in omega arith
rises (Some s) old new e = let more : new ≡ old + 1 = e.1 in omega arith

never_falls : (h : Record) (es : List HallEntry) → h.started ≤ (run_record h es).started
never_falls h [] = omega arith
never_falls h (e ∷ es) =
    let one : h.started ≤ (after h e).started = rises (out_of h e).start h.started (after h e).started (entry_counts h e) in
    let rest : (after h e).started ≤ (run_record (after h e) es).started = never_falls (after h e) es in
    omega arith

run_more : (h : Record) (xs ys : List HallEntry) → run_record h (xs ++ ys) ≡ run_record (run_record h xs) ys
run_more h [] ys = refl
run_more h (x ∷ xs) ys = run_more (after h x) xs ys

-- a battle that started earlier has a lower number
pub numbers_rise : (r : Root) (before : List HallEntry) (e : HallEntry) (between : List HallEntry) (later : HallEntry) (one two : HallOut) (s t : Start) → HallAnswers r before e one → one.start ≡ Some s → HallAnswers r (before ++ e ∷ between) later two → two.start ≡ Some t → s.number < t.number
numbers_rise r before e between later one two s t a is b was =
    let h = hall_after r before in
    let k = run_record (after h e) between in
    let first : StartsAt (Some s) h.started (after h e).started = subst (λ (o : Option Start). StartsAt o h.started (after h e).started) (sym (ap (λ (o : HallOut). o.start) a.is) ∙ is) (entry_counts h e) in
    let same : hall_after r (before ++ e ∷ between) ≡ k = run_more (hall_opened r) before (e ∷ between) in
    let there : two.start ≡ (out_of k later).start = ap (λ (o : HallOut). o.start) b.is ∙ ap (λ (x : Record). (out_of x later).start) same in
    let second : StartsAt (Some t) k.started (after k later).started = subst (λ (o : Option Start). StartsAt o k.started (after k later).started) (sym there ∙ was) (entry_counts k later) in
    let grown : (after h e).started ≤ k.started = never_falls (after h e) between in
    let x : s.number ≡ h.started + 1 = first.0 in
    let y : (after h e).started ≡ h.started + 1 = first.1 in
    let z : t.number ≡ k.started + 1 = second.0 in
    omega arith
