-- What effects, acts and the acts of a turn tell: each is a step that only adds events, which name the two active members alone.
use Rattle.std.proofs.Common.{◌≡◌, ◌≢◌, ◌∙◌, ℕ, ◌<◌, ◌-◌, ◌==◌, Bool, true, false, ◌||◌, Option, Some, None, is_some, [], ◌∷◌, ◌++◌, All, length, get_or, arith, refl, ap, sym, subst, inl, inr, get_or-set_same, get_or-set_other, length-set}
use Rattle.std.specs.List.{list_any}
use Rattle.std.proofs.lemmas.Bool.Decides.{eqb_tells}
use Rattle.ps_event.specs.declared.event.Event.{Event}
use Rattle.ps_event.specs.declared.event.Who.{Who}
use Rattle.ps_event.specs.declared.event.Event.TheVariants as events
use Rattle.ps_event.specs.Numbers as numbers
use Rattle.ps_event.specs.Sides.{side_number}
use Rattle.ps_mon.specs.declared.record.Battle.{Battle}
use Rattle.ps_mon.specs.declared.record.SideState.{SideState}
use Rattle.ps_mon.specs.declared.record.ChangedSlots.{ChangedSlots}
use Rattle.ps_mon.specs.declared.record.CopiedSlots.{CopiedSlots}
use Rattle.ps_mon.specs.declared.record.Lock.{Lock}
use Rattle.ps_mon.specs.declared.choice.Choice.{Choice}
use Rattle.ps_mon.specs.declared.choice.Choice.TheVariants as choices
use Rattle.ps_mon.specs.declared.effect.CopyKind.{CopyKind}
use Rattle.ps_mon.specs.declared.effect.CopyKind.TheVariants as copies
use Rattle.ps_mon.specs.declared.effect.Effect.{Effect}
use Rattle.ps_mon.specs.declared.effect.Effect.TheVariants as effects
use Rattle.ps_mon.specs.Facts.{Figures}
use Rattle.ps_mon.specs.Duels.{fighter_of, duel_of}
use Rattle.ps_mon.specs.Moves.{move_of, struggle_number}
use Rattle.ps_mon.specs.Reading.{side_of, active_index, no_side}
use Rattle.ps_mon.specs.Spending.{use_in_force, side_after_use, after_use}
use Rattle.ps_mon.specs.Slots.{slot_now}
use Rattle.ps_mon.proofs.SideLemmas.{each_side}
use Rattle.ps_hits.specs.Courses.{Course, played}
use Rattle.ps_hits.specs.Told.{who_of, side_name}
use Rattle.ps_copy.specs.Calling.{metronome_row, mirrormove_row}
use Rattle.ps_copy.specs.Changing.{with_changes, with_slots, mimic_in_force, with_mimic, copied_from}
use Rattle.ps_copy.specs.Learning.{mimic_row, learned, learned_from, mimic_effect, form_row, transform_effect, conversion_row}
use Rattle.ps_copy.specs.Disabling.{disable_row, told_disabled, disable_effect}
use Rattle.ps_copy.specs.Copies.{copied}
use Rattle.ps_battle.specs.Effects.{effect}
use Rattle.ps_battle.specs.Acting.{may_act}
use Rattle.ps_battle.specs.Residual.{residual}
use Rattle.ps_battle.specs.Acts.{named_row, named, used_alone, call_of, calling, then_called, used_called, used, with_use_of, fresh_use, continued_use, moved, fail_row, went_on, continued, goes_on, tried, tried_again, act, has_faint, two_acts}
use Rattle.ps_battle.specs.Turns.{first_of, acted}
use Rattle.battle_secrecy.specs.Showing.{takes_form, whos}
use Rattle.battle_secrecy.specs.Courses.{TellsOfActive, HasForms, has_copied, active_who}
use Rattle.battle_secrecy.proofs.SlotLemmas.{at_each_one, use_index, changes_index}
use Rattle.battle_secrecy.proofs.ShowLemmas.{side_named}
use Rattle.battle_secrecy.proofs.TellLemmas.{All-more, form-behind}
use Rattle.battle_secrecy.proofs.Uses.{Use}
use Rattle.battle_secrecy.proofs.TellStepLemmas.{order_stays, KeepsForms, same_forms, duel_forms, no_step, step_trans, quiet_step, event_step, either_step, played_step}
use Rattle.battle_secrecy.proofs.TellHitsLemmas.{plain_row-tells, explode_row-tells, fixed_row-tells, level_row-tells, half_row-tells, psywave_row-tells, ohko_row-tells, drain_row-tells, dreameater_row-tells, recoil_row-tells, crash_row-tells}
use Rattle.battle_secrecy.proofs.TellStatusLemmas.{status_row-tells, confuse_row-tells, flinch_row-tells, boost_row-tells, haze_row-tells, heal_row-tells, rest_row-tells}
use Rattle.battle_secrecy.proofs.TellVolatLemmas.{substitute_row-tells, screen_row-tells, mist_row-tells, focus_row-tells, leechseed_row-tells, counter_row-tells, nothing_row-tells}
use Rattle.battle_secrecy.proofs.TellMultiLemmas.{multi_row-tells, double_row-tells, charge_row-tells, recharge_row-tells, trap_row-tells, thrash_row-tells, bide_row-tells, rage_row-tells}
use Rattle.battle_secrecy.proofs.TellCopyLemmas.{metronome_row-tells, mirrormove_row-tells, mimic_row-tells, conversion_row-tells, disable_row-tells}
use Rattle.battle_secrecy.proofs.TellActingLemmas.{may_act-tells, residual-tells, named_row-tells, fail_row-tells}

-- ---- effects that copy

pub told_disabled_step : (user : ℕ) → user < 2 → (slot : Option ℕ) (c : Course) → TellsOfActive c (told_disabled user slot c)
unfolding fighter_of
told_disabled_step user lt None c = no_step c
told_disabled_step user lt (Some slot) c =
    event_step c c.battle (events.VolStart (who_of (fighter_of (1 - user) (side_of c.battle (1 - user)))) numbers.effect_disable (Some (slot_now (side_of c.battle (1 - user)) slot).mv)) (λ s h. refl) (same_forms c.battle) tt
    (λ P first second. (each_side (λ i. P (active_who c.battle i)) first second (1 - user) (omega arith), tt))

-- a move that is learned takes no copied slots away
mimic-forms : (copied : Option CopiedSlots) (slots : ChangedSlots) (slot mv : ℕ) → is_some copied ≡ true → is_some (mimic_in_force copied slots slot mv).copied ≡ true
mimic-forms None slots slot mv h = cc
mimic-forms (Some copied) slots slot mv h = refl

learned-forms : (b : Battle) (user slot mv : ℕ) → KeepsForms b (with_slots b user (with_mimic (side_of b user).vol.slots slot mv))
unfolding with_slots with_mimic
learned-forms b user slot mv =
    let slots : ChangedSlots = with_mimic (side_of b user).vol.slots slot mv in
    record {
      sides = length-set b.sides user (with_changes (side_of b user) slots);
      copied = at_each_one (λ i (x : SideState). has_copied b i ≡ true → is_some x.vol.slots.copied ≡ true) b.sides user (with_changes (side_of b user) slots) no_side
          (mimic-forms (side_of b user).vol.slots.copied (side_of b user).vol.slots slot mv) (λ i h. h);
    }

pub learned_step : (slot user : ℕ) → user < 2 → (from : ℕ) (c : Course) → TellsOfActive c (learned slot user from c)
unfolding learned fighter_of
learned_step slot user lt from c =
    event_step c _ (events.VolStart (who_of (fighter_of user (side_of c.battle user))) numbers.effect_mimic (Some (slot_now (side_of c.battle (1 - user)) from).mv))
    (λ s h. changes_index c.battle user s (with_mimic (side_of c.battle user).vol.slots slot (slot_now (side_of c.battle (1 - user)) from).mv))
    (learned-forms c.battle user slot _) tt
    (λ P first second. (each_side (λ i. P (active_who c.battle i)) first second user lt, tt))

pub learned_from_step : (slot user : ℕ) → user < 2 → (from : Option ℕ) (c : Course) → TellsOfActive c (learned_from slot user from c)
learned_from_step slot user lt None c = no_step c
learned_from_step slot user lt (Some from) c = learned_step slot user lt from c

pub disable_step : (facts : Figures) (mv user : ℕ) → user < 2 → (c : Course) → TellsOfActive c (disable_effect facts mv user c)
unfolding disable_effect
disable_step facts mv user lt c =
    step_trans c _ _ (played_step (disable_row facts mv) (λ P. disable_row-tells P facts mv) user lt c) (told_disabled_step user lt _ _)

pub mimic_step : (facts : Figures) (mv slot user : ℕ) → user < 2 → (c : Course) → TellsOfActive c (mimic_effect facts mv slot user c)
unfolding mimic_effect
mimic_step facts mv slot user lt c =
    step_trans c _ _ (played_step (mimic_row facts mv) (λ P. mimic_row-tells P facts mv) user lt c) (learned_from_step slot user lt _ _)

-- the event of Transform
form-event : ℕ → Battle → Event
form-event user b = events.Transform (who_of (fighter_of user (side_of b user))) (who_of (fighter_of (1 - user) (side_of b (1 - user))))

-- it says that the user takes a form, and no other member
form-other : (user : ℕ) (b : Battle) (s k : ℕ) → user < 2 → s ≢ user → takes_form s k (form-event user b) ≡ false
unfolding form-event fighter_of
form-other user b s k lt ne =
    let other : (side_number (side_name user) == s) ≡ false = (elim (eqb_tells (side_number (side_name user)) s) [
      | inl e ↦ absurd (ne (sym e.1 ∙ side_named user lt))
      | inr e ↦ e.0
    ]) in
    rw other refl

-- the battle after the slots of the foe are copied
copied-battle : ℕ → Battle → Battle
copied-battle user b = with_slots b user (copied_from (side_of b (1 - user)))

form-told : (user : ℕ) (c : Course) → (transform_effect user c).told ≡ c.told ++ form-event user c.battle ∷ []
unfolding transform_effect form_row duel_of form-event
form-told user c = refl

form-indices : (user : ℕ) (c : Course) (s : ℕ) → active_index (side_of (transform_effect user c).battle s) ≡ active_index (side_of c.battle s)
unfolding transform_effect
form-indices user c s =
    let formed : Course = played form_row user c in
    changes_index formed.battle user s _ ∙ ap (λ l. get_or l 0 0) (order_stays c.battle user _ s)

form-names : (user : ℕ) → user < 2 → (c : Course) (P : Who → Type 0) → P (active_who c.battle 0) → P (active_who c.battle 1) → All (λ e. All P (whos e)) c.told → All (λ e. All P (whos e)) (c.told ++ form-event user c.battle ∷ [])
unfolding form-event fighter_of
form-names user lt c P first second all =
    let at : (i : ℕ) → i < 2 → P (active_who c.battle i) = each_side (λ i. P (active_who c.battle i)) first second in
    All-more P c.told (form-event user c.battle ∷ []) all ((at user lt, (at (1 - user) (omega arith), tt)), tt)

-- the user has the slots that it copied
form-own : (user : ℕ) (b : Battle) → user < 2 → length b.sides ≡ 2 → has_copied (copied-battle user b) user ≡ true
unfolding copied-battle with_slots copied_from
form-own user b lt two =
    let inside : user < length b.sides = omega (arith, lt, two) in
    rw get_or-set_same refl

-- and the others what they had
form-others : (user : ℕ) (b : Battle) (s : ℕ) → s ≢ user → has_copied (copied-battle user b) s ≡ has_copied b s
unfolding copied-battle with_slots
form-others user b s ne = rw get_or-set_other refl

form-sides : (user : ℕ) (b : Battle) → length (copied-battle user b).sides ≡ length b.sides
unfolding copied-battle with_slots
form-sides user b = simp length-set refl

form-is : (user : ℕ) (c : Course) → (transform_effect user c).battle ≡ copied-battle user (played form_row user c).battle
unfolding transform_effect copied-battle
form-is user c = refl

form-forms : (user : ℕ) → user < 2 → (c : Course) (formed : ℕ → ℕ → Bool) (front : ℕ → ℕ) → HasForms formed front c → HasForms formed front (transform_effect user c)
form-forms user lt c formed front has =
    let b : Battle = (played form_row user c).battle in
    let keeps : KeepsForms c.battle b = duel_forms c.battle user _ in
    let two : length b.sides ≡ 2 = keeps.sides ∙ has.two in
    record {
      two = ap (λ (x : Battle). length x.sides) (form-is user c) ∙ form-sides user b ∙ two;
      copied = λ s h told. elim (eqb_tells s user) [
        | inl e ↦ ap (λ (x : Battle). has_copied x s) (form-is user c) ∙ ap (has_copied (copied-battle user b)) e.1 ∙ form-own user b lt two
        | inr e ↦ (let k : ℕ = front s in
            let before : list_any (takes_form s k) (transform_effect user c).told ≡ list_any (takes_form s k) c.told =
            ap (list_any (takes_form s k)) (form-told user c) ∙ form-behind s k c.told (form-event user c.battle) (form-other user c.battle s k lt e.1) in
            ap (λ (x : Battle). has_copied x s) (form-is user c) ∙ form-others user b s e.1 ∙ keeps.copied s (has.copied s h (ap (λ t. formed s k || t) (sym before) ∙ told)))
      ];
    }

pub transform_step : (user : ℕ) → user < 2 → (c : Course) → TellsOfActive c (transform_effect user c)
transform_step user lt c = record {
  index = λ s h. form-indices user c s;
  grows = record { more = form-event user c.battle ∷ []; is = form-told user c };
  names = λ P first second all. subst (All (λ e. All P (whos e))) (sym (form-told user c)) (form-names user lt c P first second all);
  forms = form-forms user lt c;
}

pub copied_step : (sub : CopyKind) (facts : Figures) (mv slot user : ℕ) → user < 2 → (c : Course) → TellsOfActive c (copied sub facts mv slot user c)
unfolding copied
copied_step copies.Mimic facts mv slot user lt c = mimic_step facts mv slot user lt c
copied_step copies.Transform facts mv slot user lt c = transform_step user lt c
copied_step copies.Metronome facts mv slot user lt c = played_step (metronome_row facts) (λ P. metronome_row-tells P facts) user lt c
copied_step copies.MirrorMove facts mv slot user lt c = played_step (mirrormove_row facts) (λ P. mirrormove_row-tells P facts) user lt c
copied_step copies.Conversion facts mv slot user lt c = played_step conversion_row conversion_row-tells user lt c
copied_step copies.Disable facts mv slot user lt c = disable_step facts mv user lt c

-- ---- effects of every kind

pub effect_step : (kind : Effect) (facts : Figures) (mv slot user : ℕ) → user < 2 → (c : Course) → TellsOfActive c (effect kind facts mv slot user c)
unfolding effect
effect_step effects.Plain facts mv slot user lt c = played_step _ (λ P. plain_row-tells P facts mv) user lt c
effect_step (effects.Fixed amount) facts mv slot user lt c = played_step _ (λ P. fixed_row-tells P amount facts mv) user lt c
effect_step effects.Level facts mv slot user lt c = played_step _ (λ P. level_row-tells P facts mv) user lt c
effect_step effects.Half facts mv slot user lt c = played_step _ (λ P. half_row-tells P facts mv) user lt c
effect_step effects.Psywave facts mv slot user lt c = played_step _ (λ P. psywave_row-tells P facts mv) user lt c
effect_step effects.Ohko facts mv slot user lt c = played_step _ (λ P. ohko_row-tells P facts mv) user lt c
effect_step (effects.Status status chance) facts mv slot user lt c = played_step _ (λ P. status_row-tells P status chance facts mv) user lt c
effect_step (effects.Confuse chance) facts mv slot user lt c = played_step _ (λ P. confuse_row-tells P chance facts mv) user lt c
effect_step (effects.Flinch chance) facts mv slot user lt c = played_step _ (λ P. flinch_row-tells P chance facts mv) user lt c
effect_step (effects.Boost who stat by chance) facts mv slot user lt c = played_step _ (λ P. boost_row-tells P (record { who = who; stat = stat; by = by }) chance facts mv) user lt c
effect_step effects.Drain facts mv slot user lt c = played_step _ (λ P. drain_row-tells P facts mv) user lt c
effect_step effects.DreamEater facts mv slot user lt c = played_step _ (λ P. dreameater_row-tells P facts mv) user lt c
effect_step (effects.Recoil by) facts mv slot user lt c = played_step _ (λ P. recoil_row-tells P by facts mv) user lt c
effect_step effects.Crash facts mv slot user lt c = played_step _ (λ P. crash_row-tells P facts mv) user lt c
effect_step effects.Explode facts mv slot user lt c = played_step _ (λ P. explode_row-tells P facts mv) user lt c
effect_step effects.Counter facts mv slot user lt c = played_step _ (λ P. counter_row-tells P facts mv) user lt c
effect_step effects.Substitute facts mv slot user lt c = played_step _ substitute_row-tells user lt c
effect_step effects.LeechSeed facts mv slot user lt c = played_step _ (λ P. leechseed_row-tells P facts mv) user lt c
effect_step (effects.Screen which) facts mv slot user lt c = played_step _ (λ P. screen_row-tells P which) user lt c
effect_step effects.Mist facts mv slot user lt c = played_step _ mist_row-tells user lt c
effect_step effects.Focus facts mv slot user lt c = played_step _ focus_row-tells user lt c
effect_step effects.Haze facts mv slot user lt c = played_step _ haze_row-tells user lt c
effect_step effects.Heal facts mv slot user lt c = played_step _ heal_row-tells user lt c
effect_step effects.Rest facts mv slot user lt c = played_step _ rest_row-tells user lt c
effect_step effects.Nothing facts mv slot user lt c = played_step _ (λ P. nothing_row-tells P mv) user lt c
effect_step effects.Multi facts mv slot user lt c = played_step _ (λ P. multi_row-tells P facts mv) user lt c
effect_step (effects.Double status chance) facts mv slot user lt c = played_step _ (λ P. double_row-tells P status chance facts mv) user lt c
effect_step (effects.Charge away) facts mv slot user lt c = played_step _ (λ P. charge_row-tells P away facts mv) user lt c
effect_step effects.Recharge facts mv slot user lt c = played_step _ (λ P. recharge_row-tells P facts mv) user lt c
effect_step effects.Trap facts mv slot user lt c = played_step _ (λ P. trap_row-tells P facts mv) user lt c
effect_step effects.Thrash facts mv slot user lt c = played_step _ (λ P. thrash_row-tells P facts mv) user lt c
effect_step effects.Bide facts mv slot user lt c = played_step _ (λ P. bide_row-tells P mv) user lt c
effect_step effects.Rage facts mv slot user lt c = played_step _ (λ P. rage_row-tells P facts mv) user lt c
effect_step (effects.Copy sub) facts mv slot user lt c = copied_step sub facts mv slot user lt c

-- ---- uses of moves

pub named_step : (facts : Figures) (user : ℕ) → user < 2 → (u : Use) (c : Course) → TellsOfActive c (named facts user u c)
unfolding named
named_step facts user lt u c = played_step (named_row facts u) (λ P. named_row-tells P facts u) user lt c

pub used_alone_step : (facts : Figures) (user : ℕ) → user < 2 → (u : Use) (c : Course) → TellsOfActive c (used_alone facts user u c)
unfolding used_alone
used_alone_step facts user lt u c =
    step_trans c (named facts user u c) _ (named_step facts user lt u c) (effect_step (move_of facts u.mv).effect facts u.mv u.slot user lt (named facts user u c))

then_called_step : (mv : Option ℕ) (next : ℕ → Course → Course) (c : Course) → ((mv : ℕ) → TellsOfActive c (next mv c)) → TellsOfActive c (then_called mv next c)
then_called_step None next c more = no_step c
then_called_step (Some mv) next c more = more mv

pub used_called_step : (facts : Figures) (user : ℕ) → user < 2 → (u : Use) (c : Course) → TellsOfActive c (used_called facts user u c)
unfolding used_called
used_called_step facts user lt u c =
    let first : Course = used_alone facts user u c in
    step_trans c first _ (used_alone_step facts user lt u c)
    (then_called_step (call_of facts user u c) (λ mv. used_alone facts user (calling u mv)) first (λ mv. used_alone_step facts user lt (calling u mv) first))

pub used_step : (facts : Figures) (user : ℕ) → user < 2 → (u : Use) (c : Course) → TellsOfActive c (used facts user u c)
unfolding used
used_step facts user lt u c =
    let first : Course = used_alone facts user u c in
    step_trans c first _ (used_alone_step facts user lt u c)
    (then_called_step (call_of facts user u c) (λ mv. used_called facts user (calling u mv)) first (λ mv. used_called_step facts user lt (calling u mv) first))

use_of-index : (user : ℕ) (slot : Option ℕ) (b : Battle) (s : ℕ) → active_index (side_of (with_use_of user slot b) s) ≡ active_index (side_of b s)
unfolding with_use_of
use_of-index user None b s = refl
use_of-index user (Some slot) b s = use_index b user slot s

use-forms : (copied : Option CopiedSlots) (a : SideState) (j : ℕ) → is_some copied ≡ true → is_some (use_in_force copied a j).vol.slots.copied ≡ true
use-forms None a j h = cc
use-forms (Some copied) a j h = refl

use_of-forms : (user : ℕ) (slot : Option ℕ) (b : Battle) → KeepsForms b (with_use_of user slot b)
unfolding with_use_of after_use side_after_use
use_of-forms user None b = same_forms b
use_of-forms user (Some slot) b = record {
  sides = length-set b.sides user (side_after_use (side_of b user) slot);
  copied = at_each_one (λ i (x : SideState). has_copied b i ≡ true → is_some x.vol.slots.copied ≡ true) b.sides user (side_after_use (side_of b user) slot) no_side
      (use-forms (side_of b user).vol.slots.copied (side_of b user) slot) (λ i h. h);
}

-- PP falls, and nothing is told
pub use_of_step : (user : ℕ) (slot : Option ℕ) (c : Course) → TellsOfActive c (record c { battle = with_use_of user slot c.battle })
use_of_step user slot c = quiet_step c (with_use_of user slot c.battle) (λ s h. use_of-index user slot c.battle s) (use_of-forms user slot c.battle)

pub residual_step : (user : ℕ) → user < 2 → (c : Course) → TellsOfActive c (played residual user c)
residual_step user lt c = played_step residual residual-tells user lt c

pub moved_step : (facts : Figures) (user : ℕ) → user < 2 → (slot : Option ℕ) (mv : ℕ) (c : Course) → TellsOfActive c (moved facts user slot mv c)
unfolding moved
moved_step facts user lt slot mv c =
    let spent : Course = record c { battle = with_use_of user slot c.battle } in
    let done : Course = used facts user (fresh_use slot mv) spent in
    step_trans c spent _ (use_of_step user slot c) (step_trans spent done _ (used_step facts user lt (fresh_use slot mv) spent) (residual_step user lt done))

pub went_on_step : (lock : Option Lock) (facts : Figures) (user : ℕ) → user < 2 → (c : Course) → TellsOfActive c (went_on lock facts user c)
went_on_step None facts user lt c = played_step fail_row fail_row-tells user lt c
went_on_step (Some lock) facts user lt c = used_step facts user lt (continued_use lock) c

pub continued_step : (facts : Figures) (user : ℕ) → user < 2 → (c : Course) → TellsOfActive c (continued facts user c)
unfolding continued
continued_step facts user lt c =
    let done : Course = went_on (side_of c.battle user).vol.lock facts user c in
    step_trans c done _ (went_on_step _ facts user lt c) (residual_step user lt done)

-- ---- acts

pub may_act_step : (slot : Option ℕ) (user : ℕ) → user < 2 → (c : Course) → TellsOfActive c (played (may_act slot) user c)
may_act_step slot user lt c = played_step (may_act slot) (λ P. may_act-tells P slot) user lt c

pub tried_step : (facts : Figures) (user : ℕ) → user < 2 → (slot : Option ℕ) (mv : ℕ) (c : Course) → TellsOfActive c (tried facts user slot mv c)
unfolding tried
tried_step facts user lt slot mv c =
    let tested : Course = played (may_act slot) user c in
    let first = may_act_step slot user lt c in
    either_step (goes_on slot user c) c _ _ (step_trans c tested _ first (moved_step facts user lt slot mv tested)) first

pub tried_again_step : (facts : Figures) (user : ℕ) → user < 2 → (c : Course) → TellsOfActive c (tried_again facts user c)
unfolding tried_again
tried_again_step facts user lt c =
    let tested : Course = played (may_act None) user c in
    let first = may_act_step None user lt c in
    either_step (goes_on None user c) c _ _ (step_trans c tested _ first (continued_step facts user lt tested)) first

pub act_step : (facts : Figures) (user : ℕ) → user < 2 → (choice : Choice) (c : Course) → TellsOfActive c (act facts user choice c)
unfolding act
act_step facts user lt (choices.Move n) c = tried_step facts user lt (Some (n - 1)) _ c
act_step facts user lt choices.Struggle c = tried_step facts user lt None struggle_number c
act_step facts user lt choices.Continue c = tried_again_step facts user lt c
act_step facts user lt (choices.Switch position) c = no_step c
act_step facts user lt choices.Pass c = no_step c
act_step facts user lt (choices.Team numbers) c = no_step c

pub two_acts_step : (facts : Figures) (s : ℕ) → s < 2 → (first : Choice) (t : ℕ) → t < 2 → (second : Choice) (c : Course) → TellsOfActive c (two_acts facts s first t second c)
unfolding two_acts
two_acts_step facts s lt first t lt_too second c =
    let one : Course = act facts s first c in
    let done = act_step facts s lt first c in
    either_step (has_faint one.battle) c _ _ done (step_trans c one _ done (act_step facts t lt_too second one))

pub acted_step : (facts : Figures) (one two : Choice) (c : Course) → TellsOfActive c (acted facts one two c)
unfolding acted
acted_step facts one two c =
    let from : Course = record c { battle = record c.battle { rng = (first_of facts one two c.battle).1 } } in
    step_trans c from _ (quiet_step c from.battle (λ s h. refl) (record { sides = refl; copied = λ s h. h }))
    (either_step (first_of facts one two c.battle).0 from _ _
    (two_acts_step facts 0 (omega arith) one 1 (omega arith) two from) (two_acts_step facts 1 (omega arith) two 0 (omega arith) one from))
