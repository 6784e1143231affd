-- Effects that copy something of the foe, in alike battles: what they show isn't hidden, so they do the same in both.
use Rattle.std.proofs.Common.{◌≡◌, ℕ, ◌<◌, ◌-◌, Bool, true, false, ◌==◌, Option, Some, None, [], ◌∷◌, ◌++◌, arith, refl, ap, ◌∙◌, sym, subst, inl, inr, true≢false}
use Rattle.std.proofs.lemmas.Bool.{eq-eqb, false_from_ne_true, true_from_ne_false}
use Rattle.ps_event.specs.declared.event.Event.{Event}
use Rattle.ps_event.specs.declared.event.Event.TheVariants as events
use Rattle.ps_event.specs.Numbers as numbers
use Rattle.ps_event.specs.Sides.{side_number}
use Rattle.ps_mon.specs.declared.record.Battle.{Battle}
use Rattle.ps_mon.specs.declared.record.SideState.{SideState}
use Rattle.ps_mon.specs.declared.record.ChangedSlots.{ChangedSlots}
use Rattle.ps_mon.specs.declared.record.Volatiles.{Volatiles}
use Rattle.ps_mon.specs.declared.duel.Fighter.{Fighter}
use Rattle.ps_mon.specs.declared.effect.Effect.{Effect}
use Rattle.ps_mon.specs.declared.effect.Effect.TheVariants as effects
use Rattle.ps_mon.specs.declared.effect.CopyKind.{CopyKind}
use Rattle.ps_mon.specs.declared.effect.CopyKind.TheVariants as kinds
use Rattle.ps_mon.specs.Facts.{Figures}
use Rattle.ps_mon.specs.Reading.{side_of, active_index}
use Rattle.ps_mon.specs.Slots.{slot_now}
use Rattle.ps_mon.specs.Duels.{fighter_of, duel_of}
use Rattle.ps_hits.specs.Courses.{Course, played}
use Rattle.ps_hits.specs.Told.{who_of}
use Rattle.ps_copy.specs.Answers.{answer_of}
use Rattle.ps_copy.specs.Calling.{metronome_row, mirrormove_row}
use Rattle.ps_copy.specs.Changing.{with_slots, with_mimic, copied_from}
use Rattle.ps_copy.specs.Disabling.{disable_row, told_disabled, disable_effect}
use Rattle.ps_copy.specs.Learning.{mimic_row, learned, learned_from, mimic_effect, form_row, transform_effect, conversion_row}
use Rattle.ps_copy.specs.Copies.{called, copied}
use Rattle.ps_battle.specs.Effects.{call}
use Rattle.battle_secrecy.specs.Places.{Hidden}
use Rattle.battle_secrecy.specs.Alike.{AreAlike, AreSidesAlike}
use Rattle.battle_secrecy.specs.Showing.{ShowsNoHidden}
use Rattle.battle_secrecy.specs.Courses.{AreCoursesAlike, KeepsAlike, KeepsAlikeUnshown, HasForms, has_copied}
use Rattle.battle_secrecy.proofs.SideLemmas.{fighter_alike}
use Rattle.battle_secrecy.proofs.AlikeLemmas.{row_alike, answer_alike}
use Rattle.battle_secrecy.proofs.SlotLemmas.{move_or_hidden, changes_alike, changes_index, copied_alike}
use Rattle.battle_secrecy.proofs.ShowLemmas.{side_named, started_shows, mimicked_shows, taken_shows, is_formed_by, last_hides}
use Rattle.battle_secrecy.proofs.TellCopyLemmas.{mimic_row-tells, disable_row-tells}
use Rattle.battle_secrecy.proofs.TellStepLemmas.{duel_forms, played_step}

-- a step that shows nothing needs no premise
pub plainly : (step : Course → Course) → KeepsAlike step → KeepsAlikeUnshown step
plainly step keeps hidden front formed a b unshown has w = keeps hidden front a b w

-- who an active member is
who-side : (s : ℕ) (side : SideState) → s < 2 → side_number (who_of (fighter_of s side)).side ≡ s
unfolding fighter_of
who-side s side lt = side_named s lt

who-member : (s : ℕ) (side : SideState) → (who_of (fighter_of s side)).member ≡ active_index side
unfolding fighter_of
who-member s side = refl

-- ---- disable

-- the event of Disable, of the active member of side s and the slot j
disabled-event : ℕ → Battle → ℕ → Event
disabled-event s b j = events.VolStart (who_of (fighter_of s (side_of b s))) numbers.effect_disable (Some (slot_now (side_of b s) j).mv)

event-disabled-alike : (hidden : Hidden) (front : ℕ → ℕ) (formed : ℕ → ℕ → Bool) (a b : Course) (s j : ℕ) → s < 2 → ShowsNoHidden hidden front formed (a.told ++ disabled-event s a.battle j ∷ []) → AreCoursesAlike hidden front a b → disabled-event s a.battle j ≡ disabled-event s b.battle j
unfolding disabled-event
event-disabled-alike hidden front formed a b s j lt unshown w =
    let x : SideState = side_of a.battle s in
    let y : SideState = side_of b.battle s in
    let sides : AreSidesAlike (hidden.member s) (hidden.slot s) (hidden.move s) x y = w.battle.sides s lt in
    let fighter : fighter_of s x ≡ fighter_of s y = fighter_alike _ _ _ s x y sides in
    let E : Fighter → ℕ → Event = λ f mv. events.VolStart (who_of f) numbers.effect_disable (Some mv) in
    elim (move_or_hidden (hidden.member s) (hidden.slot s) (hidden.move s) x y j sides) [
      | inl same ↦ ap (λ f. E f (slot_now x j).mv) fighter ∙ ap (E (fighter_of s y)) same
      | inr hides ↦ absurd (last_hides hidden front formed a.told _ s (active_index x) j unshown hides.0
          (rw (← hides.1) (started_shows s (active_index x) (slot_now x j).mv (front s == active_index x) _ (who_of (fighter_of s x)) numbers.effect_disable (who-side s x lt) (who-member s x))))
    ]

told_disabled_alike : (user : ℕ) (slot : Option ℕ) → user < 2 → KeepsAlikeUnshown (told_disabled user slot)
unfolding disabled-event
told_disabled_alike user None lt hidden front formed a b unshown has w = w
told_disabled_alike user (Some j) lt hidden front formed a b unshown has w =
    let same = event-disabled-alike hidden front formed a b (1 - user) j (omega arith) unshown w in
    record { battle = w.battle; indices = w.indices; told = ap (λ told. told ++ disabled-event (1 - user) a.battle j ∷ []) w.told ∙ ap (λ e. b.told ++ e ∷ []) same }

pub disable_alike : (facts : Figures) (mv user : ℕ) → user < 2 → KeepsAlikeUnshown (disable_effect facts mv user)
unfolding disable_effect
disable_alike facts mv user lt hidden front formed a b unshown has w =
    let row = disable_row facts mv in
    let later : HasForms formed front (played row user a) = (played_step row (λ P. disable_row-tells P facts mv) user lt a).forms formed front has in
    let P : Option ℕ → Type 0 = λ slot. AreCoursesAlike hidden front (told_disabled user (answer_of row user a) (played row user a)) (told_disabled user slot (played row user b)) in
    subst P (answer_alike row user lt hidden front a b w) (told_disabled_alike user (answer_of row user a) lt hidden front formed _ _ unshown later (row_alike row user lt hidden front a b w))

-- ---- mimic

-- a move that the user learns, in the place of its slot
mimic-event : ℕ → Battle → ℕ → Event
mimic-event user b mv = events.VolStart (who_of (fighter_of user (side_of b user))) numbers.effect_mimic (Some mv)

learn : ℕ → ℕ → ℕ → Course → Course
learn slot user mv c = record { battle = with_slots c.battle user (with_mimic (side_of c.battle user).vol.slots slot mv); told = c.told ++ mimic-event user c.battle mv ∷ [] }

learned-is : (slot user from : ℕ) (c : Course) → learned slot user from c ≡ learn slot user (slot_now (side_of c.battle (1 - user)) from).mv c
unfolding learned learn mimic-event
learned-is slot user from c = refl

-- one move is learned in both
learn-alike : (slot user mv : ℕ) → user < 2 → KeepsAlike (learn slot user mv)
unfolding learn mimic-event
learn-alike slot user mv lt hidden front a b w =
    let sides : AreSidesAlike (hidden.member user) (hidden.slot user) (hidden.move user) (side_of a.battle user) (side_of b.battle user) = w.battle.sides user lt in
    let fighter : fighter_of user (side_of a.battle user) ≡ fighter_of user (side_of b.battle user) = fighter_alike _ _ _ user _ _ sides in
    let P : Volatiles → Type 0 = λ v. AreAlike hidden (with_slots a.battle user (with_mimic (side_of a.battle user).vol.slots slot mv)) (with_slots b.battle user (with_mimic v.slots slot mv)) in
    let E : Fighter → Event = λ f. events.VolStart (who_of f) numbers.effect_mimic (Some mv) in
    record {
      battle = subst P sides.vol (changes_alike hidden a.battle b.battle user _ w.battle);
      indices = λ s h. changes_index a.battle user s _ ∙ w.indices s h;
      told = ap (λ told. told ++ E (fighter_of user (side_of a.battle user)) ∷ []) w.told ∙ ap (λ f. b.told ++ E f ∷ []) fighter;
    }

learn-told : (slot user mv : ℕ) (c : Course) → (learn slot user mv c).told ≡ c.told ++ mimic-event user c.battle mv ∷ []
unfolding learn
learn-told slot user mv c = refl

-- an active member that has another's form by what is told has the slots of it
formed-copied : (hidden : Hidden) (front : ℕ → ℕ) (formed : ℕ → ℕ → Bool) (a b : Course) (s : ℕ) → s < 2 → HasForms formed front a → AreCoursesAlike hidden front a b →
    is_formed_by s (active_index (side_of a.battle s)) (formed s (active_index (side_of a.battle s))) a.told ≡ true → has_copied a.battle s ≡ true
formed-copied hidden front formed a b s lt has w by_told =
    has.copied s lt (ap (λ k. is_formed_by s k (formed s k) a.told) (sym (w.indices s lt)) ∙ by_told)

-- where it has no such slots it has its own form
in-own-form : (hidden : Hidden) (front : ℕ → ℕ) (formed : ℕ → ℕ → Bool) (a b : Course) (s : ℕ) → s < 2 → HasForms formed front a → AreCoursesAlike hidden front a b → has_copied a.battle s ≡ false →
    is_formed_by s (active_index (side_of a.battle s)) (formed s (active_index (side_of a.battle s))) a.told ≡ false
in-own-form hidden front formed a b s lt has w none =
    false_from_ne_true _ (λ by_told. true≢false (sym (formed-copied hidden front formed a b s lt has w by_told) ∙ none))

-- the other side of the other side
other-twice : (user : ℕ) → user < 2 → user ≡ 1 - (1 - user)
other-twice user lt = omega arith

learned_alike : (slot user from : ℕ) → user < 2 → KeepsAlikeUnshown (learned slot user from)
unfolding mimic-event
learned_alike slot user from lt hidden front formed a b unshown has w =
    let foe : ℕ = 1 - user in
    let there : foe < 2 = omega arith in
    let x : SideState = side_of a.battle foe in
    let y : SideState = side_of b.battle foe in
    let mv : ℕ = (slot_now x from).mv in
    let sides : AreSidesAlike (hidden.member foe) (hidden.slot foe) (hidden.move foe) x y = w.battle.sides foe there in
    let unshown_mv : ShowsNoHidden hidden front formed (a.told ++ mimic-event user a.battle mv ∷ []) = rw (learned-is slot user from a, learn-told slot user mv a) at unshown in
    let user-is : side_number (who_of (fighter_of user (side_of a.battle user))).side ≡ 1 - foe = who-side user _ lt ∙ other-twice user lt in
    let P : ℕ → Type 0 = λ n. AreCoursesAlike hidden front (learn slot user mv a) (learn slot user n b) in
    elim (move_or_hidden (hidden.member foe) (hidden.slot foe) (hidden.move foe) x y from sides) [
      | inl same ↦ rw (learned-is slot user from a) (rw (learned-is slot user from b) (subst P same (learn-alike slot user mv lt hidden front a b w)))
      | inr hides ↦ (let own : is_formed_by foe (active_index x) (formed foe (active_index x)) a.told ≡ false = in-own-form hidden front formed a b foe there has w hides.2 in
          absurd (last_hides hidden front formed a.told _ foe (active_index x) from unshown_mv hides.0
          (rw (← hides.1) (mimicked_shows foe (active_index x) mv (front foe == active_index x) _ (who_of (fighter_of user (side_of a.battle user))) user-is (eq-eqb _ _ (sym (w.indices foe there))) own))))
    ]

learned_from_alike : (slot user : ℕ) (from : Option ℕ) → user < 2 → KeepsAlikeUnshown (learned_from slot user from)
learned_from_alike slot user None lt hidden front formed a b unshown has w = w
learned_from_alike slot user (Some from) lt hidden front formed a b unshown has w = learned_alike slot user from lt hidden front formed a b unshown has w

pub mimic_alike : (facts : Figures) (mv slot user : ℕ) → user < 2 → KeepsAlikeUnshown (mimic_effect facts mv slot user)
unfolding mimic_effect
mimic_alike facts mv slot user lt hidden front formed a b unshown has w =
    let row = mimic_row facts mv in
    let later : HasForms formed front (played row user a) = (played_step row (λ P. mimic_row-tells P facts mv) user lt a).forms formed front has in
    let P : Option ℕ → Type 0 = λ from. AreCoursesAlike hidden front (learned_from slot user (answer_of row user a) (played row user a)) (learned_from slot user from (played row user b)) in
    subst P (answer_alike row user lt hidden front a b w) (learned_from_alike slot user (answer_of row user a) lt hidden front formed _ _ unshown later (row_alike row user lt hidden front a b w))

-- ---- transform

-- the course after the slots of the foe are copied
copy : ℕ → Course → Course
copy user c = record c { battle = with_slots c.battle user (copied_from (side_of c.battle (1 - user))) }

transform-is : (user : ℕ) (c : Course) → transform_effect user c ≡ copy user (played form_row user c)
unfolding transform_effect copy
transform-is user c = refl

copy-alike : (user : ℕ) (hidden : Hidden) (front : ℕ → ℕ) (a b : Course) → user < 2 → ((j : ℕ) → hidden.slot (1 - user) (active_index (side_of a.battle (1 - user))) j ≡ true → has_copied a.battle (1 - user) ≡ true) →
    AreCoursesAlike hidden front a b → AreCoursesAlike hidden front (copy user a) (copy user b)
unfolding copy
copy-alike user hidden front a b lt shown w =
    let sides = w.battle.sides (1 - user) (omega arith) in
    let same : copied_from (side_of a.battle (1 - user)) ≡ copied_from (side_of b.battle (1 - user)) = copied_alike _ _ _ _ _ shown sides in
    let P : ChangedSlots → Type 0 = λ slots. AreAlike hidden (with_slots a.battle user (copied_from (side_of a.battle (1 - user)))) (with_slots b.battle user slots) in
    record {
      battle = subst P same (changes_alike hidden a.battle b.battle user _ w.battle);
      indices = λ s h. changes_index a.battle user s _ ∙ w.indices s h;
      told = w.told;
    }

form-event : ℕ → Battle → Event
form-event user b = events.Transform (who_of (fighter_of user (side_of b user))) (who_of (fighter_of (1 - user) (side_of b (1 - user))))

form-told : (user : ℕ) (c : Course) → (copy user (played form_row user c)).told ≡ c.told ++ form-event user c.battle ∷ []
unfolding copy form_row duel_of form-event
form-told user c = refl

pub transform_alike : (user : ℕ) → user < 2 → KeepsAlikeUnshown (transform_effect user)
unfolding form-event
transform_alike user lt hidden front formed a b unshown has w =
    let foe : ℕ = 1 - user in
    let there : foe < 2 = omega arith in
    let k : ℕ = active_index (side_of a.battle foe) in
    let unshown_form : ShowsNoHidden hidden front formed (a.told ++ form-event user a.battle ∷ []) = rw (transform-is user a, form-told user a) at unshown in
    let taken = row_alike form_row user lt hidden front a b w in
    let index : active_index (side_of (played form_row user a).battle foe) ≡ k = taken.indices foe there ∙ sym (w.indices foe there) in
    let theirs : has_copied a.battle foe ≡ true → has_copied (played form_row user a).battle foe ≡ true = (duel_forms a.battle user _).copied foe in
    let shown : (j : ℕ) → hidden.slot foe (active_index (side_of (played form_row user a).battle foe)) j ≡ true → has_copied (played form_row user a).battle foe ≡ true = λ j hides.
    theirs (formed-copied hidden front formed a b foe there has w (true_from_ne_false (is_formed_by foe k (formed foe k) a.told) (λ own.
    last_hides hidden front formed a.told _ foe k j unshown_form (ap (λ k. hidden.slot foe k j) (sym index) ∙ hides)
    (taken_shows foe k (hidden.move foe k j) (front foe == k) _ (who_of (fighter_of user (side_of a.battle user))) _ (who-side foe _ there) (who-member foe _) own)))) in
    rw (transform-is user a) (rw (transform-is user b) (copy-alike user hidden front _ _ lt shown taken))

-- ---- all kinds of copies

pub copied_kind_alike : (kind : CopyKind) (facts : Figures) (mv slot user : ℕ) → user < 2 → KeepsAlikeUnshown (copied kind facts mv slot user)
unfolding copied
copied_kind_alike kinds.Mimic facts mv slot user lt = mimic_alike facts mv slot user lt
copied_kind_alike kinds.Transform facts mv slot user lt = transform_alike user lt
copied_kind_alike kinds.Metronome facts mv slot user lt = plainly _ (row_alike (metronome_row facts) user lt)
copied_kind_alike kinds.MirrorMove facts mv slot user lt = plainly _ (row_alike (mirrormove_row facts) user lt)
copied_kind_alike kinds.Conversion facts mv slot user lt = plainly _ (row_alike conversion_row user lt)
copied_kind_alike kinds.Disable facts mv slot user lt = disable_alike facts mv user lt

-- the move that is used in another one's place is the same in both
called_alike : (kind : CopyKind) (facts : Figures) (mv user : ℕ) → user < 2 → (hidden : Hidden) (front : ℕ → ℕ) (a b : Course) → AreCoursesAlike hidden front a b → called kind facts mv user a ≡ called kind facts mv user b
unfolding called
called_alike kinds.Metronome facts mv user lt hidden front a b w = answer_alike (metronome_row facts) user lt hidden front a b w
called_alike kinds.MirrorMove facts mv user lt hidden front a b w = answer_alike (mirrormove_row facts) user lt hidden front a b w
called_alike other facts mv user lt hidden front a b w = refl

pub call_alike : (kind : Effect) (facts : Figures) (mv user : ℕ) → user < 2 → (hidden : Hidden) (front : ℕ → ℕ) (a b : Course) → AreCoursesAlike hidden front a b → call kind facts mv user a ≡ call kind facts mv user b
unfolding call
call_alike (effects.Copy sub) facts mv user lt hidden front a b w = called_alike sub facts mv user lt hidden front a b w
call_alike other facts mv user lt hidden front a b w = refl
