-- The effects that play the two active members alone, the begin of a turn, and what is asked of active members.
use Rattle.std.proofs.Common.{◌≡◌, ℕ, ℤ, ◌<◌, ◌&&◌, ◌==◌, cond, length, get_or, arith, ap, ◌∙◌, subst, true}
use Rattle.ps_mon.specs.declared.record.Battle.{Battle}
use Rattle.ps_mon.specs.declared.team.Member.{Member}
use Rattle.ps_mon.specs.declared.choice.Choice.{Choice}
use Rattle.ps_mon.specs.declared.duel.Duel.{Duel}
use Rattle.ps_mon.specs.declared.effect.Effect.{Effect}
use Rattle.ps_mon.specs.declared.effect.Effect.TheVariants as effects
use Rattle.ps_mon.specs.Facts.{Figures}
use Rattle.ps_mon.specs.Reading.{side_of}
use Rattle.ps_mon.specs.Duels.{duel_of, with_duel}
use Rattle.ps_hits.specs.Courses.{Course}
use Rattle.ps_hits.specs.Hits.{plain_row, explode_row}
use Rattle.ps_hits.specs.Amounts.{fixed_row, level_row, half_row, psywave_row, ohko_row}
use Rattle.ps_hits.specs.Shares.{drain_row, dreameater_row, recoil_row, crash_row}
use Rattle.ps_status.specs.Afflicting.{status_row}
use Rattle.ps_status.specs.Confusing.{confuse_row, flinch_row}
use Rattle.ps_status.specs.Boosting.{boost_row}
use Rattle.ps_status.specs.Clearing.{haze_row}
use Rattle.ps_status.specs.Healing.{heal_row, rest_row}
use Rattle.ps_volat.specs.Covering.{substitute_row, screen_row, mist_row, focus_row}
use Rattle.ps_volat.specs.Answering.{leechseed_row, counter_row, nothing_row}
use Rattle.ps_multi.specs.Several.{multi_row, double_row}
use Rattle.ps_multi.specs.Charging.{charge_row, recharge_row}
use Rattle.ps_multi.specs.Locking.{trap_row, thrash_row, bide_row, rage_row}
use Rattle.ps_battle.specs.Effects.{effect, IsOtherKind}
use Rattle.ps_battle.specs.Acts.{is_down, has_faint}
use Rattle.ps_battle.specs.Switches.{begun, refreshed_duel}
use Rattle.ps_battle.specs.Chosen.{is_act, priority_of}
use Rattle.ps_battle.specs.Turns.{ordered, first_of}
use Rattle.battle_secrecy.specs.Places.{Hidden}
use Rattle.battle_secrecy.specs.Alike.{AreAlike}
use Rattle.battle_secrecy.specs.Courses.{AreCoursesAlike, KeepsAlike}
use Rattle.battle_secrecy.proofs.SideLemmas.{active_alike}
use Rattle.battle_secrecy.proofs.AlikeLemmas.{duel_alike, put_alike, put_order, put_count, row_alike}

-- every kind that isn't `copy` plays the duel alone
pub other_kind_alike : (kind : Effect) (facts : Figures) (mv slot user : ℕ) → IsOtherKind kind → user < 2 → KeepsAlike (effect kind facts mv slot user)
unfolding effect
other_kind_alike effects.Plain facts mv slot user other lt = row_alike (plain_row facts mv) user lt
other_kind_alike (effects.Fixed amount) facts mv slot user other lt = row_alike (fixed_row amount facts mv) user lt
other_kind_alike effects.Level facts mv slot user other lt = row_alike (level_row facts mv) user lt
other_kind_alike effects.Half facts mv slot user other lt = row_alike (half_row facts mv) user lt
other_kind_alike effects.Psywave facts mv slot user other lt = row_alike (psywave_row facts mv) user lt
other_kind_alike effects.Ohko facts mv slot user other lt = row_alike (ohko_row facts mv) user lt
other_kind_alike (effects.Status status chance) facts mv slot user other lt = row_alike (status_row status chance facts mv) user lt
other_kind_alike (effects.Confuse chance) facts mv slot user other lt = row_alike (confuse_row chance facts mv) user lt
other_kind_alike (effects.Flinch chance) facts mv slot user other lt = row_alike (flinch_row chance facts mv) user lt
other_kind_alike (effects.Boost who stat by chance) facts mv slot user other lt = row_alike (boost_row (record { who = who; stat = stat; by = by }) chance facts mv) user lt
other_kind_alike effects.Drain facts mv slot user other lt = row_alike (drain_row facts mv) user lt
other_kind_alike effects.DreamEater facts mv slot user other lt = row_alike (dreameater_row facts mv) user lt
other_kind_alike (effects.Recoil by) facts mv slot user other lt = row_alike (recoil_row by facts mv) user lt
other_kind_alike effects.Crash facts mv slot user other lt = row_alike (crash_row facts mv) user lt
other_kind_alike effects.Explode facts mv slot user other lt = row_alike (explode_row facts mv) user lt
other_kind_alike effects.Counter facts mv slot user other lt = row_alike (counter_row facts mv) user lt
other_kind_alike effects.Substitute facts mv slot user other lt = row_alike substitute_row user lt
other_kind_alike effects.LeechSeed facts mv slot user other lt = row_alike (leechseed_row facts mv) user lt
other_kind_alike (effects.Screen which) facts mv slot user other lt = row_alike (screen_row which) user lt
other_kind_alike effects.Mist facts mv slot user other lt = row_alike mist_row user lt
other_kind_alike effects.Focus facts mv slot user other lt = row_alike focus_row user lt
other_kind_alike effects.Haze facts mv slot user other lt = row_alike haze_row user lt
other_kind_alike effects.Heal facts mv slot user other lt = row_alike heal_row user lt
other_kind_alike effects.Rest facts mv slot user other lt = row_alike rest_row user lt
other_kind_alike effects.Nothing facts mv slot user other lt = row_alike (nothing_row mv) user lt
other_kind_alike effects.Multi facts mv slot user other lt = row_alike (multi_row facts mv) user lt
other_kind_alike (effects.Double status chance) facts mv slot user other lt = row_alike (double_row status chance facts mv) user lt
other_kind_alike (effects.Charge away) facts mv slot user other lt = row_alike (charge_row away facts mv) user lt
other_kind_alike effects.Recharge facts mv slot user other lt = row_alike (recharge_row facts mv) user lt
other_kind_alike effects.Trap facts mv slot user other lt = row_alike (trap_row facts mv) user lt
other_kind_alike effects.Thrash facts mv slot user other lt = row_alike (thrash_row facts mv) user lt
other_kind_alike effects.Bide facts mv slot user other lt = row_alike (bide_row mv) user lt
other_kind_alike effects.Rage facts mv slot user other lt = row_alike (rage_row facts mv) user lt
other_kind_alike (effects.Copy sub) facts mv slot user other lt = absurd other

-- ---- the begin of a turn

pub begun_alike : (hidden : Hidden) (a b : Battle) → AreAlike hidden a b → AreAlike hidden (begun a) (begun b)
unfolding begun
begun_alike hidden a b alike =
    let e : duel_of a 0 ≡ duel_of b 0 = duel_alike hidden a b 0 (omega arith) alike in
    let P : Duel → Type 0 = λ d. AreAlike hidden (with_duel a 0 (refreshed_duel (duel_of a 0))) (with_duel b 0 (refreshed_duel d)) in
    subst P e (put_alike hidden a b 0 (refreshed_duel (duel_of a 0)) (omega arith) alike)

pub begun_order : (b : Battle) → length b.sides ≡ 2 → (s : ℕ) → s < 2 → (side_of (begun b) s).order ≡ (side_of b s).order
unfolding begun
begun_order b two = put_order b 0 (refreshed_duel (duel_of b 0)) (omega arith) two

pub begun_count : (b : Battle) → length b.sides ≡ 2 → (s : ℕ) → s < 2 → (side_of (begun b) s).count ≡ (side_of b s).count
unfolding begun
begun_count b two = put_count b 0 (refreshed_duel (duel_of b 0)) (omega arith) two

abbrev pub begun_course : Course → Course
begun_course c = record c { battle = begun c.battle }

pub begin_alike : KeepsAlike begun_course
begin_alike hidden front a b w = record {
  battle = begun_alike hidden a.battle b.battle w.battle;
  indices = λ s h. ap (λ l. get_or l 0 0) (begun_order a.battle w.battle.first_two s h) ∙ w.indices s h;
  told = w.told;
}

-- ---- who has fainted, and who is first

pub down_alike : (hidden : Hidden) (a b : Battle) (s : ℕ) → s < 2 → AreAlike hidden a b → is_down a s ≡ is_down b s
unfolding is_down
down_alike hidden a b s lt alike = ap (λ (m : Member). m.hp == 0) (active_alike _ _ _ _ _ (alike.sides s lt)).front

pub faint_alike : (hidden : Hidden) (a b : Battle) → AreAlike hidden a b → has_faint a ≡ has_faint b
unfolding has_faint
faint_alike hidden a b alike =
    let one = down_alike hidden a b 0 (omega arith) alike in
    let two = down_alike hidden a b 1 (omega arith) alike in
    cc (one, two)

-- the order of two priorities, and by Speed
pub ordered_alike : (hidden : Hidden) (a b : Battle) (p q : ℤ) → AreAlike hidden a b → ordered p q (duel_of a 0) a.rng ≡ ordered p q (duel_of b 0) b.rng
ordered_alike hidden a b p q alike =
    ap (λ d. ordered p q d a.rng) (duel_alike hidden a b 0 (omega arith) alike) ∙ ap (λ x. ordered p q (duel_of b 0) x) alike.rng

-- where both choices have the same priorities in both battles
pub first_alike : (hidden : Hidden) (a b : Battle) (facts : Figures) (one two : Choice) → priority_of facts (side_of a 0) one ≡ priority_of facts (side_of b 0) one →
    priority_of facts (side_of a 1) two ≡ priority_of facts (side_of b 1) two → AreAlike hidden a b → first_of facts one two a ≡ first_of facts one two b
unfolding first_of
first_alike hidden a b facts one two e f alike =
    let p = priority_of facts (side_of b 0) one in
    let q = priority_of facts (side_of b 1) two in
    ap (λ x. cond (is_act one && is_act two) (ordered x (priority_of facts (side_of a 1) two) (duel_of a 0) a.rng) (true, a.rng)) e
    ∙ ap (λ x. cond (is_act one && is_act two) (ordered p x (duel_of a 0) a.rng) (true, a.rng)) f
    ∙ ap (λ r. cond (is_act one && is_act two) r (true, a.rng)) (ordered_alike hidden a b p q alike)
    ∙ ap (λ x. cond (is_act one && is_act two) (ordered p q (duel_of b 0) b.rng) (true, x)) alike.rng

-- the same random source put into both
pub rng_alike : (x y : ℕ) (hidden : Hidden) (front : ℕ → ℕ) (a b : Course) → x ≡ y → AreCoursesAlike hidden front a b →
    AreCoursesAlike hidden front (record a { battle = record a.battle { rng = x } }) (record b { battle = record b.battle { rng = y } })
rng_alike x y hidden front a b e w =
    let v = w.battle in
    record {
      battle = record { first_two = v.first_two; second_two = v.second_two; turn = v.turn; phase = v.phase; clauses = v.clauses; rng = e; sides = v.sides };
      indices = w.indices;
      told = w.told;
    }
