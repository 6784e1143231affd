-- An act keeps battles alike, where neither its choice nor what it tells shows a hidden slot.
use Rattle.std.proofs.Common.{◌≡◌, ℕ, ◌<◌, ◌-◌, Bool, true, false, Option, Some, None, cond, ap, ◌∙◌, subst}
use Rattle.ps_mon.specs.declared.choice.Choice.{Choice}
use Rattle.ps_mon.specs.declared.choice.Choice.TheVariants as choices
use Rattle.ps_mon.specs.declared.effect.Effect.{Effect}
use Rattle.ps_mon.specs.declared.effect.Effect.TheVariants as effects
use Rattle.ps_mon.specs.declared.record.Lock.{Lock}
use Rattle.ps_mon.specs.declared.record.Volatiles.{Volatiles}
use Rattle.ps_mon.specs.Facts.{Figures}
use Rattle.ps_mon.specs.Moves.{move_of, struggle_number}
use Rattle.ps_mon.specs.Reading.{side_of, active_index}
use Rattle.ps_hits.specs.Courses.{Course, played}
use Rattle.ps_battle.specs.Effects.{effect}
use Rattle.ps_battle.specs.Acting.{may_act}
use Rattle.ps_battle.specs.Residual.{residual}
use Rattle.ps_battle.specs.Chosen.{chosen_slot}
use Rattle.ps_battle.specs.Acts.{named_row, named, used_alone, call_of, calling, then_called, used_called, used, with_use_of, fresh_use, continued_use, moved, fail_row, went_on, continued, goes_on, tried, tried_again, act, has_faint, two_acts}
use Rattle.battle_secrecy.specs.Places.{Hidden}
use Rattle.battle_secrecy.specs.Alike.{AreSidesAlike}
use Rattle.battle_secrecy.specs.Showing.{ShowsNoHidden}
use Rattle.battle_secrecy.specs.Courses.{AreCoursesAlike, KeepsAlike, KeepsAlikeUnshown, HasForms, Grows}
use Rattle.battle_secrecy.proofs.AlikeLemmas.{row_alike, answer_alike}
use Rattle.battle_secrecy.proofs.KindLemmas.{other_kind_alike, faint_alike}
use Rattle.battle_secrecy.proofs.SlotLemmas.{IsActUnhidden, use_alike, use_index, chosen_slot_alike}
use Rattle.battle_secrecy.proofs.ShowLemmas.{unshown_before}
use Rattle.battle_secrecy.proofs.CopyLemmas.{plainly, copied_kind_alike, call_alike}
use Rattle.battle_secrecy.proofs.TellLemmas.{grows-none}
use Rattle.battle_secrecy.proofs.TellActLemmas.{named_step, used_alone_step, used_called_step, use_of_step, residual_step, may_act_step, act_step}
use Rattle.battle_secrecy.proofs.Uses.{Use}

-- ---- effects

pub effect_alike : (kind : Effect) (facts : Figures) (mv slot user : ℕ) → user < 2 → KeepsAlikeUnshown (effect kind facts mv slot user)
unfolding effect
effect_alike (effects.Copy sub) facts mv slot user lt = copied_kind_alike sub facts mv slot user lt
effect_alike other facts mv slot user lt = plainly _ (other_kind_alike other facts mv slot user tt lt)

-- ---- a move and what it calls

named_alike : (facts : Figures) (user : ℕ) (u : Use) → user < 2 → KeepsAlike (named facts user u)
unfolding named
named_alike facts user u lt = row_alike (named_row facts u) user lt

used_alone_alike : (facts : Figures) (user : ℕ) (u : Use) → user < 2 → KeepsAlikeUnshown (used_alone facts user u)
unfolding used_alone
used_alone_alike facts user u lt hidden front formed a b unshown has w =
    effect_alike (move_of facts u.mv).effect facts u.mv u.slot user lt hidden front formed _ _ unshown ((named_step facts user lt u a).forms formed front has) (named_alike facts user u lt hidden front a b w)

-- the called move is the same in both
call_of_alike : (facts : Figures) (user : ℕ) (u : Use) → user < 2 → (hidden : Hidden) (front : ℕ → ℕ) (a b : Course) → AreCoursesAlike hidden front a b → call_of facts user u a ≡ call_of facts user u b
unfolding call_of
call_of_alike facts user u lt hidden front a b w =
    call_alike (move_of facts u.mv).effect facts u.mv user lt hidden front _ _ (named_alike facts user u lt hidden front a b w)

then-alike : (called : Option ℕ) (next : ℕ → Course → Course) → ((mv : ℕ) → KeepsAlikeUnshown (next mv)) → KeepsAlikeUnshown (then_called called next)
then-alike None next each hidden front formed a b unshown has w = w
then-alike (Some mv) next each hidden front formed a b unshown has w = each mv hidden front formed a b unshown has w

-- a step that only adds events
abbrev Adds : (Course → Course) → Type 0
Adds step = (c : Course) → Grows c.told (step c).told

then-adds : (called : Option ℕ) (next : ℕ → Course → Course) → ((mv : ℕ) → Adds (next mv)) → Adds (then_called called next)
then-adds None next each c = grows-none c.told
then-adds (Some mv) next each c = each mv c

-- a move, and then what it calls, which is the same in both
called-alike : (facts : Figures) (user : ℕ) (u : Use) (next : ℕ → Course → Course) → user < 2 → ((mv : ℕ) → KeepsAlikeUnshown (next mv)) → ((mv : ℕ) → Adds (next mv)) →
    KeepsAlikeUnshown (λ c. then_called (call_of facts user u c) next (used_alone facts user u c))
called-alike facts user u next lt each adds hidden front formed a b unshown has w =
    let one = used_alone facts user u a in
    let call = call_of facts user u a in
    let first = used_alone_alike facts user u lt hidden front formed a b (unshown_before hidden front formed _ _ (then-adds call next adds one) unshown) has w in
    let later : HasForms formed front one = (used_alone_step facts user lt u a).forms formed front has in
    let P : Option ℕ → Type 0 = λ called. AreCoursesAlike hidden front (then_called call next one) (then_called called next (used_alone facts user u b)) in
    subst P (call_of_alike facts user u lt hidden front a b w) (then-alike call next each hidden front formed _ _ unshown later first)

used_called_alike : (facts : Figures) (user : ℕ) (u : Use) → user < 2 → KeepsAlikeUnshown (used_called facts user u)
unfolding used_called
used_called_alike facts user u lt =
    called-alike facts user u (λ mv. used_alone facts user (calling u mv)) lt (λ mv. used_alone_alike facts user (calling u mv) lt) (λ mv c. (used_alone_step facts user lt (calling u mv) c).grows)

used_alike : (facts : Figures) (user : ℕ) (u : Use) → user < 2 → KeepsAlikeUnshown (used facts user u)
unfolding used
used_alike facts user u lt =
    called-alike facts user u (λ mv. used_called facts user (calling u mv)) lt (λ mv. used_called_alike facts user (calling u mv) lt) (λ mv c. (used_called_step facts user lt (calling u mv) c).grows)

-- ---- a use of a slot, and a long move

-- the chosen slot, where there is one, isn't hidden
abbrev pub IsSlotUnhidden : Hidden → (ℕ → ℕ) → ℕ → Option ℕ → Type 0
IsSlotUnhidden hidden front user None = Unit {0}
IsSlotUnhidden hidden front user (Some j) = hidden.slot user (front user) j ≡ false

abbrev spend : ℕ → Option ℕ → Course → Course
spend user slot c = record c { battle = with_use_of user slot c.battle }

spend-alike : (user : ℕ) (slot : Option ℕ) (hidden : Hidden) (front : ℕ → ℕ) (a b : Course) → user < 2 → IsSlotUnhidden hidden front user slot → AreCoursesAlike hidden front a b → AreCoursesAlike hidden front (spend user slot a) (spend user slot b)
unfolding with_use_of
spend-alike user None hidden front a b lt shown w = record { battle = w.battle; indices = w.indices; told = w.told }
spend-alike user (Some j) hidden front a b lt shown w = record {
  battle = use_alike hidden a.battle b.battle user j lt (ap (λ k. hidden.slot user k j) (w.indices user lt) ∙ shown) w.battle;
  indices = λ s h. use_index a.battle user j s ∙ w.indices s h;
  told = w.told;
}

moved_alike : (facts : Figures) (user : ℕ) (slot : Option ℕ) (mv : ℕ) (hidden : Hidden) (front : ℕ → ℕ) (formed : ℕ → ℕ → Bool) (a b : Course) → user < 2 → IsSlotUnhidden hidden front user slot →
    ShowsNoHidden hidden front formed (moved facts user slot mv a).told → HasForms formed front a → AreCoursesAlike hidden front a b → AreCoursesAlike hidden front (moved facts user slot mv a) (moved facts user slot mv b)
unfolding moved
moved_alike facts user slot mv hidden front formed a b lt shown unshown has w =
    let u = fresh_use slot mv in
    let later : HasForms formed front (spend user slot a) = (use_of_step user slot a).forms formed front has in
    let before = unshown_before hidden front formed _ _ (residual_step user lt (used facts user u (spend user slot a))).grows unshown in
    row_alike residual user lt hidden front _ _ (used_alike facts user u lt hidden front formed _ _ before later (spend-alike user slot hidden front a b lt shown w))

went_on_alike : (lock : Option Lock) (facts : Figures) (user : ℕ) → user < 2 → KeepsAlikeUnshown (went_on lock facts user)
went_on_alike None facts user lt = plainly _ (row_alike fail_row user lt)
went_on_alike (Some lock) facts user lt = used_alike facts user (continued_use lock) lt

continued_alike : (facts : Figures) (user : ℕ) → user < 2 → KeepsAlikeUnshown (continued facts user)
unfolding continued
continued_alike facts user lt hidden front formed a b unshown has w =
    let sides : AreSidesAlike (hidden.member user) (hidden.slot user) (hidden.move user) (side_of a.battle user) (side_of b.battle user) = w.battle.sides user lt in
    let lock = (side_of a.battle user).vol.lock in
    let before = unshown_before hidden front formed _ _ (residual_step user lt (went_on lock facts user a)).grows unshown in
    let P : Volatiles → Type 0 = λ v. AreCoursesAlike hidden front (played residual user (went_on lock facts user a)) (played residual user (went_on v.lock facts user b)) in
    subst P sides.vol (row_alike residual user lt hidden front _ _ (went_on_alike lock facts user lt hidden front formed a b before has w))

-- ---- an act

goes_on_alike : (slot : Option ℕ) (user : ℕ) → user < 2 → (hidden : Hidden) (front : ℕ → ℕ) (a b : Course) → AreCoursesAlike hidden front a b → goes_on slot user a ≡ goes_on slot user b
unfolding goes_on
goes_on_alike slot user lt hidden front a b w = answer_alike (may_act slot) user lt hidden front a b w

-- where a test is the same in both, what comes of it is alike where that way is taken
fork-alike : (hidden : Hidden) (front : ℕ → ℕ) (formed : ℕ → ℕ → Bool) (x y : Bool) (a a' b b' : Course) → x ≡ y →
    ShowsNoHidden hidden front formed (cond x a a').told → (ShowsNoHidden hidden front formed a.told → AreCoursesAlike hidden front a b) → (ShowsNoHidden hidden front formed a'.told → AreCoursesAlike hidden front a' b') → AreCoursesAlike hidden front (cond x a a') (cond y b b')
fork-alike hidden front formed true y a a' b b' e unshown one two = subst (λ z. AreCoursesAlike hidden front a (cond z b b')) e (one unshown)
fork-alike hidden front formed false y a a' b b' e unshown one two = subst (λ z. AreCoursesAlike hidden front a' (cond z b b')) e (two unshown)

tried_alike : (facts : Figures) (user : ℕ) (slot : Option ℕ) (mv : ℕ) (hidden : Hidden) (front : ℕ → ℕ) (formed : ℕ → ℕ → Bool) (a b : Course) → user < 2 → IsSlotUnhidden hidden front user slot →
    ShowsNoHidden hidden front formed (tried facts user slot mv a).told → HasForms formed front a → AreCoursesAlike hidden front a b → AreCoursesAlike hidden front (tried facts user slot mv a) (tried facts user slot mv b)
unfolding tried
tried_alike facts user slot mv hidden front formed a b lt shown unshown has w =
    let tested = row_alike (may_act slot) user lt hidden front a b w in
    let later : HasForms formed front (played (may_act slot) user a) = (may_act_step slot user lt a).forms formed front has in
    fork-alike hidden front formed _ _ _ _ _ _ (goes_on_alike slot user lt hidden front a b w) unshown
    (λ h. moved_alike facts user slot mv hidden front formed _ _ lt shown h later tested) (λ h. tested)

tried_again_alike : (facts : Figures) (user : ℕ) → user < 2 → KeepsAlikeUnshown (tried_again facts user)
unfolding tried_again
tried_again_alike facts user lt hidden front formed a b unshown has w =
    let tested = row_alike (may_act None) user lt hidden front a b w in
    let later : HasForms formed front (played (may_act None) user a) = (may_act_step None user lt a).forms formed front has in
    fork-alike hidden front formed _ _ _ _ _ _ (goes_on_alike None user lt hidden front a b w) unshown
    (λ h. continued_alike facts user lt hidden front formed _ _ h later tested) (λ h. tested)

pub act_alike : (facts : Figures) (user : ℕ) (choice : Choice) (hidden : Hidden) (front : ℕ → ℕ) (formed : ℕ → ℕ → Bool) (a b : Course) → user < 2 → IsActUnhidden hidden user (front user) choice →
    ShowsNoHidden hidden front formed (act facts user choice a).told → HasForms formed front a → AreCoursesAlike hidden front a b → AreCoursesAlike hidden front (act facts user choice a) (act facts user choice b)
unfolding act
act_alike facts user (choices.Move n) hidden front formed a b lt shown unshown has w =
    let sides : AreSidesAlike (hidden.member user) (hidden.slot user) (hidden.move user) (side_of a.battle user) (side_of b.battle user) = w.battle.sides user lt in
    let mv : ℕ = chosen_slot (side_of a.battle user) n in
    let here : hidden.slot user (active_index (side_of a.battle user)) (n - 1) ≡ false = ap (λ k. hidden.slot user k (n - 1)) (w.indices user lt) ∙ shown in
    let same = chosen_slot_alike (hidden.member user) (hidden.slot user) (hidden.move user) _ _ n here sides in
    let P : ℕ → Type 0 = λ x. AreCoursesAlike hidden front (tried facts user (Some (n - 1)) mv a) (tried facts user (Some (n - 1)) x b) in
    subst P same (tried_alike facts user (Some (n - 1)) mv hidden front formed a b lt shown unshown has w)
act_alike facts user choices.Struggle hidden front formed a b lt shown unshown has w = tried_alike facts user None struggle_number hidden front formed a b lt tt unshown has w
act_alike facts user choices.Continue hidden front formed a b lt shown unshown has w = tried_again_alike facts user lt hidden front formed a b unshown has w
act_alike facts user (choices.Switch position) hidden front formed a b lt shown unshown has w = w
act_alike facts user choices.Pass hidden front formed a b lt shown unshown has w = w
act_alike facts user (choices.Team numbers) hidden front formed a b lt shown unshown has w = w

either-adds : (b : Bool) (c d : Course) → Grows c.told d.told → Grows c.told (cond b c d).told
either-adds true c d grows = grows-none c.told
either-adds false c d grows = grows

pub two_acts_alike : (facts : Figures) (s : ℕ) (first : Choice) (t : ℕ) (second : Choice) (hidden : Hidden) (front : ℕ → ℕ) (formed : ℕ → ℕ → Bool) (a b : Course) → s < 2 → t < 2 → IsActUnhidden hidden s (front s) first → IsActUnhidden hidden t (front t) second →
    ShowsNoHidden hidden front formed (two_acts facts s first t second a).told → HasForms formed front a → AreCoursesAlike hidden front a b → AreCoursesAlike hidden front (two_acts facts s first t second a) (two_acts facts s first t second b)
unfolding two_acts
two_acts_alike facts s first t second hidden front formed a b lt there one two unshown has w =
    let after : Course = act facts s first a in
    let before = unshown_before hidden front formed after.told _ (either-adds (has_faint after.battle) after (act facts t second after) (act_step facts t there second after).grows) unshown in
    let acted = act_alike facts s first hidden front formed a b lt one before has w in
    let later : HasForms formed front after = (act_step facts s lt first a).forms formed front has in
    fork-alike hidden front formed _ _ _ _ _ _ (faint_alike hidden _ _ acted.battle) unshown (λ h. acted) (λ h. act_alike facts t second hidden front formed _ _ there two h later acted)
