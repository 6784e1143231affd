-- What steps of a battle tell: they only add events, which name the two active members alone, and these stay active.
use Rattle.std.proofs.Common.{◌≡◌, ◌∙◌, ℕ, ◌<◌, ◌-◌, Bool, true, false, ◌||◌, is_some, List, [], ◌∷◌, ◌++◌, length, get_or, set, arith, refl, ap, sym, length-set, if◌then◌else◌}
use Rattle.std.specs.List.{list_any}
use Rattle.ps_event.specs.declared.event.Event.{Event}
use Rattle.ps_event.specs.declared.event.Who.{Who}
use Rattle.ps_mon.specs.declared.record.Battle.{Battle}
use Rattle.ps_mon.specs.declared.record.SideState.{SideState}
use Rattle.ps_mon.specs.declared.record.ChangedSlots.{ChangedSlots}
use Rattle.ps_mon.specs.declared.duel.Duel.{Duel}
use Rattle.ps_mon.specs.Reading.{side_of, active_index, no_side}
use Rattle.ps_mon.specs.Duels.{fighter_of, with_fighter, duel_of, with_duel}
use Rattle.ps_mon.proofs.SideLemmas.{each_side}
use Rattle.ps_hits.specs.Scenes.{Play, Scene}
use Rattle.ps_hits.specs.Courses.{Course, played}
use Rattle.battle_secrecy.specs.Showing.{whos, takes_form}
use Rattle.battle_secrecy.specs.Courses.{TellsOfActive, HasForms, has_copied, active_who}
use Rattle.battle_secrecy.proofs.SlotLemmas.{at_each_one}
use Rattle.battle_secrecy.proofs.TellLemmas.{Tells, TellsOf, AreSo, IsPlain, All-more, forms-behind, grows-none, grows-trans, grows-more}

-- a duel that is put back changes no order
pub order_stays : (b : Battle) (user : ℕ) (d : Duel) (s : ℕ) → (side_of (with_duel b user d) s).order ≡ (side_of b s).order
unfolding with_duel with_fighter
order_stays b user d s =
    let Same : ℕ → SideState → Type 0 = λ k a. a.order ≡ (side_of b k).order in
    let mine : SideState = with_fighter (side_of b user) d.user in
    at_each_one Same (set b.sides user mine) (1 - user) (with_fighter (side_of b (1 - user)) d.foe) no_side refl (at_each_one Same b.sides user mine no_side refl (λ k. refl)) s

-- nor what changed its slots
pub slots_stay : (b : Battle) (user : ℕ) (d : Duel) (s : ℕ) → (side_of (with_duel b user d) s).vol.slots ≡ (side_of b s).vol.slots
unfolding with_duel with_fighter
slots_stay b user d s =
    let Same : ℕ → SideState → Type 0 = λ k a. a.vol.slots ≡ (side_of b k).vol.slots in
    let mine : SideState = with_fighter (side_of b user) d.user in
    at_each_one Same (set b.sides user mine) (1 - user) (with_fighter (side_of b (1 - user)) d.foe) no_side refl (at_each_one Same b.sides user mine no_side refl (λ k. refl)) s

pub sides_stay : (b : Battle) (user : ℕ) (d : Duel) → length (with_duel b user d).sides ≡ length b.sides
unfolding with_duel
sides_stay b user d = simp length-set refl

-- ---- who has another's form

-- there are as many sides, and each that had the slots of another's form still has such
pub record KeepsForms (a b : Battle) : Type 0 where
  pub sides : length b.sides ≡ length a.sides
  pub copied : (s : ℕ) → has_copied a s ≡ true → has_copied b s ≡ true

pub same_forms : (b : Battle) → KeepsForms b b
same_forms b = record { sides = refl; copied = λ s h. h }

-- a duel that is put back keeps them
pub duel_forms : (b : Battle) (user : ℕ) (d : Duel) → KeepsForms b (with_duel b user d)
duel_forms b user d = record { sides = sides_stay b user d; copied = λ s h. ap (λ (x : ChangedSlots). is_some x.copied) (slots_stay b user d s) ∙ h }

-- where they are kept and the events behind take no form, the forms that are told still have their slots
pub kept_forms : (a b : Course) → KeepsForms a.battle b.battle → ((s k : ℕ) → list_any (takes_form s k) b.told ≡ list_any (takes_form s k) a.told) →
    (formed : ℕ → ℕ → Bool) (front : ℕ → ℕ) → HasForms formed front a → HasForms formed front b
kept_forms a b keeps told formed front has = record {
  two = keeps.sides ∙ has.two;
  copied = λ s lt h. keeps.copied s (has.copied s lt (ap (λ t. formed s (front s) || t) (sym (told s (front s))) ∙ h));
}

-- ---- steps

pub no_step : (c : Course) → TellsOfActive c c
no_step c = record { index = λ s lt. refl; grows = grows-none c.told; names = λ P first second all. all; forms = λ formed front has. has }

pub step_trans : (a b c : Course) → TellsOfActive a b → TellsOfActive b c → TellsOfActive a c
step_trans a b c one two =
    let still : (P : Who → Type 0) (s : ℕ) → s < 2 → P (active_who a.battle s) → P (active_who b.battle s) = λ P s lt p. rw (one.index s lt) p in
    record {
      index = λ s lt. two.index s lt ∙ one.index s lt;
      grows = grows-trans a.told b.told c.told one.grows two.grows;
      names = λ P first second all. two.names P (still P 0 (omega arith) first) (still P 1 (omega arith) second) (one.names P first second all);
      forms = λ formed front has. two.forms formed front (one.forms formed front has);
    }

-- nothing is told, and the active members and their forms stay
pub quiet_step : (c : Course) (b : Battle) → ((s : ℕ) → s < 2 → active_index (side_of b s) ≡ active_index (side_of c.battle s)) → KeepsForms c.battle b → TellsOfActive c (record { battle = b; told = c.told })
quiet_step c b stays keeps =
    record { index = stays; grows = grows-none c.told; names = λ P first second all. all; forms = kept_forms c (record { battle = b; told = c.told }) keeps (λ s k. refl) }

-- events that name them are told, by which nobody takes another's form
pub events_step : (c : Course) (b : Battle) (more : List Event) → ((s : ℕ) → s < 2 → active_index (side_of b s) ≡ active_index (side_of c.battle s)) → KeepsForms c.battle b → AreSo IsPlain more →
    ((P : Who → Type 0) → P (active_who c.battle 0) → P (active_who c.battle 1) → AreSo (λ e. AreSo P (whos e)) more) → TellsOfActive c (record { battle = b; told = c.told ++ more })
events_step c b more stays keeps plain named = record {
  index = stays;
  grows = grows-more c.told more;
  names = λ P first second all. All-more P c.told more all (named P first second);
  forms = kept_forms c (record { battle = b; told = c.told ++ more }) keeps (λ s k. forms-behind s k c.told more plain);
}

-- an event that names them is told, by which nobody takes another's form
pub event_step : (c : Course) (b : Battle) (e : Event) → ((s : ℕ) → s < 2 → active_index (side_of b s) ≡ active_index (side_of c.battle s)) → KeepsForms c.battle b → IsPlain e →
    ((P : Who → Type 0) → P (active_who c.battle 0) → P (active_who c.battle 1) → AreSo P (whos e)) → TellsOfActive c (record { battle = b; told = c.told ++ e ∷ [] })
event_step c b e stays keeps plain named = events_step c b (e ∷ []) stays keeps (plain, tt) (λ P first second. (named P first second, tt))

pub either_step : (b : Bool) (c x y : Course) → TellsOfActive c x → TellsOfActive c y → TellsOfActive c (if b then x else y)
either_step true c x y one two = one
either_step false c x y one two = two

-- whatever the two active members play
pub played_step : {A : Type 0} (row : Play A) → ((P : Who → Type 0) → Tells P row) → (user : ℕ) → user < 2 → (c : Course) → TellsOfActive c (played row user c)
unfolding duel_of fighter_of
played_step row tells user lt c =
    let s : Scene = record { duel = duel_of c.battle user; told = c.told } in
    let any : TellsOf (λ w. Unit {0}) s (row s).1 = (tells (λ w. Unit {0})).on s (record { user = tt; foe = tt }) in
    record {
      index = λ i h. ap (λ l. get_or l 0 0) (order_stays c.battle user (row s).1.duel i);
      grows = any.grows;
      names = λ P first second. (let at : (i : ℕ) → i < 2 → P (active_who c.battle i) = each_side (λ i. P (active_who c.battle i)) first second in
          ((tells P).on s (record { user = at user lt; foe = at (1 - user) (omega arith) })).names);
      forms = kept_forms c (played row user c) (duel_forms c.battle user (row s).1.duel) any.forms;
    }
