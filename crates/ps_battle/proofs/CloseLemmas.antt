-- Who stands where a turn is over.
use Rattle.std.proofs.Common.{◌≡◌, ℕ, ◌<◌, ◌≤◌, Bool, true, false, ◌∙◌, sym}
use Rattle.ps_mon.specs.declared.record.Battle.{Battle}
use Rattle.ps_mon.specs.declared.record.Phase.TheVariants as phases
use Rattle.ps_mon.specs.Reading.{side_of, active_of}
use Rattle.ps_mon.specs.Valid.{IsSound, IsValid, has_standing, replaces}
use Rattle.ps_mon.proofs.SideLemmas.{each_side}
use Rattle.ps_mon.proofs.ChoiceLemmas.{above}
use Rattle.ps_battle.specs.Acts.{is_down}

up : (b : Battle) (s : ℕ) → is_down b s ≡ false → 1 ≤ (active_of (side_of b s)).hp
unfolding is_down
up b s e = above _ e

pub both-up : (b : Battle) → is_down b 0 ≡ false → is_down b 1 ≡ false → (s : ℕ) → s < 2 → 1 ≤ (active_of (side_of b s)).hp
both-up b one two = each_side (λ s. 1 ≤ (active_of (side_of b s)).hp) (up b 0 one) (up b 1 two)

pub both-standing : (b : Battle) → has_standing (side_of b 0) ≡ true → has_standing (side_of b 1) ≡ true → (s : ℕ) → s < 2 → has_standing (side_of b s) ≡ true
both-standing b one two = each_side (λ s. has_standing (side_of b s) ≡ true) one two

-- a battle that waits for replacements of those who have fainted
pub replacing-valid : (b : Battle) (p1 p2 : Bool) → IsSound b → b.turn < 1000 → has_standing (side_of b 0) ≡ true → has_standing (side_of b 1) ≡ true → p1 ≡ is_down b 0 → p2 ≡ is_down b 1 → IsValid (record b { phase = phases.Replace p1 p2 })
replacing-valid b p1 p2 sound turn one two first second = record {
  sound = record { two = sound.two; sides = sound.sides; turn = sound.turn; clauses = sound.clauses };
  standing = λ goes. record {
    turn = turn;
    some = both-standing b one two;
    before = λ s h. tt;
    active = each_side (λ s. replaces (phases.Replace p1 p2) s ≡ false → 1 ≤ (active_of (side_of b s)).hp) (λ e. up b 0 (sym first ∙ e)) (λ e. up b 1 (sym second ∙ e));
  };
}
