-- A side at the opening.
use Rattle.std.proofs.Common.{◌≡◌, ℕ, zero, suc, ◌<◌, ◌≤◌, true, [], ◌∷◌, nat_lt, take, length, get_or, arith, refl, ◌∙◌, sym, length-take, get_or-take}
use Rattle.std.proofs.lemmas.List.Folds.{list_any_at}
use Rattle.std.proofs.lemmas.Bool.{lt-ltb}
use Rattle.ps_mon.specs.declared.team.BattleTeam.{BattleTeam}
use Rattle.ps_mon.specs.Reading.{active_of, no_member}
use Rattle.ps_mon.specs.Valid.{AllStand, IsSide, has_standing}
use Rattle.ps_mon.specs.Known.{IsSideKnown}
use Rattle.ps_mon.specs.Teams.{IsFresh, IsTeamKnown, opened}
use Rattle.ps_mon.proofs.SwitchLemmas.{calm-fit, calm-named}

pub at-six : (k : ℕ) → k < 6 → get_or (0 ∷ 1 ∷ 2 ∷ 3 ∷ 4 ∷ 5 ∷ []) k 0 ≡ k
at-six zero h = refl
at-six (suc zero) h = refl
at-six (suc (suc zero)) h = refl
at-six (suc (suc (suc zero))) h = refl
at-six (suc (suc (suc (suc zero)))) h = refl
at-six (suc (suc (suc (suc (suc zero))))) h = refl
at-six (suc (suc (suc (suc (suc (suc k)))))) h = absurd (omega arith)

pub open-side : (t : BattleTeam) → length t.members ≡ 6 → IsFresh t → IsSide (opened t)
open-side t six fresh = record {
  shape = record {
    six = six;
    six_order = refl;
    count = fresh.count;
    count_high = fresh.count_high;
    order = λ k h. rw (at-six k (omega (arith, fresh.count_high))) h;
    once = λ j k hj hk e. sym (at-six j (omega (arith, fresh.count_high))) ∙ e ∙ at-six k (omega (arith, fresh.count_high));
  };
  members = λ k h. (fresh.members k h).ranges;
  vol = calm-fit;
}

pub open-active : (t : BattleTeam) → IsFresh t → 1 ≤ (active_of (opened t)).hp
open-active t fresh =
    let first = fresh.members 0 (omega (arith, fresh.count)) in
    rw first.full first.ranges.max

pub open-standing : (t : BattleTeam) → length t.members ≡ 6 → IsFresh t → has_standing (opened t) ≡ true
unfolding has_standing
open-standing t six fresh =
    let in-take : 0 < length (take t.count t.members) = simp length-take (omega (arith, six, fresh.count)) in
    let low : 0 < t.count = omega (arith, fresh.count) in
    list_any_at (λ m. nat_lt 0 m.hp) (take t.count t.members) 0 no_member in-take
    (rw get_or-take (lt-ltb 0 _ (open-active t fresh)))

pub open-stand : (t : BattleTeam) → IsFresh t → AllStand (opened t)
open-stand t fresh k h =
    let m = fresh.members k h in
    rw m.full m.ranges.max

pub open-known : (moves : ℕ) (t : BattleTeam) → IsTeamKnown moves t → IsSideKnown moves (opened t)
open-known moves t known = record { members = known; vol = calm-named moves }
