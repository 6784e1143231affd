-- What events show of slots.
use Rattle.std.proofs.Common.{◌≡◌, ℕ, zero, suc, ◌<◌, ◌-◌, Bool, true, false, ◌&&◌, ◌||◌, ◌==◌, not, Some, List, [], ◌∷◌, ◌++◌, arith, refl, ap, ◌∙◌, sym, subst}
use Rattle.std.specs.List.{list_any}
use Rattle.std.proofs.lemmas.Bool.{eq-eqb, and_from, or_left, or_right, or_parts, or_from, both_ways}
use Rattle.std.proofs.Math.Bool.{or-false}
use Rattle.ps_event.specs.declared.event.Event.{Event}
use Rattle.ps_event.specs.declared.event.Event.TheVariants as events
use Rattle.ps_event.specs.declared.event.Who.{Who}
use Rattle.ps_event.specs.Numbers as numbers
use Rattle.ps_event.specs.Sides.{side_number}
use Rattle.ps_hits.specs.Told.{side_name}
use Rattle.battle_secrecy.specs.Places.{Hidden}
use Rattle.battle_secrecy.specs.Showing.{is_who, has_move, names, is_mimicked, is_form_taken, takes_form, shows, shows_one, ShowsNoHidden}
use Rattle.battle_secrecy.specs.Courses.{Grows}

-- a side by its name
pub side_named : (s : ℕ) → s < 2 → side_number (side_name s) ≡ s
side_named zero lt = refl
side_named (suc zero) lt = refl
side_named (suc (suc s)) lt = absurd (omega arith)

or-assoc : (p q r : Bool) → ((p || q) || r) ≡ (p || (q || r))
or-assoc true q r = refl
or-assoc false q r = refl

who-is : (s k : ℕ) (who : Who) → side_number who.side ≡ s → who.member ≡ k → is_who s k who ≡ true
who-is s k who side member = and_from _ _ (eq-eqb _ _ side) (eq-eqb _ _ member)

has-one : (mv : ℕ) → has_move mv (mv ∷ []) ≡ true
has-one mv = rw (eq-eqb mv mv refl)

-- an event by which something of a member begins shows the slot with its move
pub started_shows : (s k mv : ℕ) (active formed : Bool) (who : Who) (effect : ℕ) → side_number who.side ≡ s → who.member ≡ k → shows s k active mv formed (events.VolStart who effect (Some mv)) ≡ true
started_shows s k mv active formed who effect side member =
    or_left (names s k mv (events.VolStart who effect (Some mv))) _ (and_from _ _ (who-is s k who side member) (has-one mv))

-- Mimic of the other side's member shows the slot that it copied, of a member in its own form
pub mimicked_shows : (s k mv : ℕ) (active formed : Bool) (who : Who) → side_number who.side ≡ 1 - s → active ≡ true → formed ≡ false → shows s k active mv formed (events.VolStart who numbers.effect_mimic (Some mv)) ≡ true
mimicked_shows s k mv active formed who side front own =
    or_right (names s k mv (events.VolStart who numbers.effect_mimic (Some mv))) _ (and_from (not formed) _ (ap not own)
    (or_left (active && is_mimicked s mv (events.VolStart who numbers.effect_mimic (Some mv))) _
    (and_from _ _ front (and_from _ _ (and_from _ true (eq-eqb _ _ side) refl) (has-one mv)))))

-- Transform shows all slots of its target, where that has its own form
pub taken_shows : (s k mv : ℕ) (active formed : Bool) (who target : Who) → side_number target.side ≡ s → target.member ≡ k → formed ≡ false → shows s k active mv formed (events.Transform who target) ≡ true
taken_shows s k mv active formed who target side member own =
    or_right (names s k mv (events.Transform who target)) _ (and_from (not formed) _ (ap not own)
    (or_right (active && is_mimicked s mv (events.Transform who target)) (is_form_taken s k (events.Transform who target)) (who-is s k target side member)))

-- whether a member has another's form after these events, where `formed` says whether it had before
abbrev pub is_formed_by : ℕ → ℕ → Bool → List Event → Bool
is_formed_by s k formed told = formed || list_any (takes_form s k) told

last-unshown : (s k mv : ℕ) (active formed : Bool) (told : List Event) (e : Event) → shows_one s k active mv formed (told ++ e ∷ []) ≡ false → shows s k active mv (is_formed_by s k formed told) e ≡ false
last-unshown s k mv active formed [] e h = ap (λ f. shows s k active mv f e) (or-false formed) ∙ (or_parts (shows s k active mv formed e) _ h).0
last-unshown s k mv active formed (x ∷ told) e h =
    ap (λ f. shows s k active mv f e) (sym (or-assoc formed (takes_form s k x) (list_any (takes_form s k) told)))
    ∙ last-unshown s k mv active (formed || takes_form s k x) told e (or_parts (shows s k active mv formed x) _ h).1

front-unshown : (s k mv : ℕ) (active formed : Bool) (told more : List Event) → shows_one s k active mv formed (told ++ more) ≡ false → shows_one s k active mv formed told ≡ false
front-unshown s k mv active formed [] more h = refl
front-unshown s k mv active formed (x ∷ told) more h =
    or_from (shows s k active mv formed x) _ (or_parts (shows s k active mv formed x) _ h).0
    (front-unshown s k mv active (formed || takes_form s k x) told more (or_parts (shows s k active mv formed x) _ h).1)

-- what is told last shows no hidden slot
pub last_hides : (hidden : Hidden) (front : ℕ → ℕ) (formed : ℕ → ℕ → Bool) (told : List Event) (e : Event) (s k j : ℕ) → ShowsNoHidden hidden front formed (told ++ e ∷ []) → hidden.slot s k j ≡ true →
    shows s k (front s == k) (hidden.move s k j) (is_formed_by s k (formed s k) told) e ≡ true → ⊥
last_hides hidden front formed told e s k j unshown hides shown =
    both_ways (shows s k (front s == k) (hidden.move s k j) (is_formed_by s k (formed s k) told) e) (last-unshown s k (hidden.move s k j) (front s == k) (formed s k) told e (unshown s k j hides)) shown

-- what is told later shows at least what is told now
pub unshown_before : (hidden : Hidden) (front : ℕ → ℕ) (formed : ℕ → ℕ → Bool) (old new : List Event) → Grows old new → ShowsNoHidden hidden front formed new → ShowsNoHidden hidden front formed old
unshown_before hidden front formed old new grows unshown s k j hides =
    front-unshown s k (hidden.move s k j) (front s == k) (formed s k) old grows.more
    (subst (λ told. shows_one s k (front s == k) (hidden.move s k j) (formed s k) told ≡ false) grows.is (unshown s k j hides))
