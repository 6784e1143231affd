-- What a play tells: it only adds events, by which nobody takes another's form, and whatever holds of both fighters holds of all that these name.
use Rattle.std.proofs.Common.{◌≡◌, ◌∙◌, ℕ, Bool, true, false, ◌||◌, List, [], ◌∷◌, ◌++◌, All, refl, ap, sym, subst, append_assoc, append-nil}
use Rattle.std.specs.List.{list_any}
use Rattle.std.proofs.lemmas.List.Elements.{All-append, All-nil, All-cons, All-head, All-tail}
use Rattle.ps_event.specs.declared.event.Event.{Event}
use Rattle.ps_event.specs.declared.event.Event.TheVariants as events
use Rattle.ps_event.specs.declared.event.Who.{Who}
use Rattle.ps_mon.specs.declared.duel.Duel.{Duel}
use Rattle.ps_hits.specs.Scenes.{Play, Scene, ◌>>=◌, ◌>>◌, give, duel_now, tell, change, choose, draw}
use Rattle.ps_hits.specs.Told.{who_of}
use Rattle.battle_secrecy.specs.Showing.{whos, takes_form}
use Rattle.battle_secrecy.specs.Courses.{Grows}

-- a step of a scene only adds events, all of which name members of whom P holds, and by none of which a member takes another's form;
-- and P still holds of both fighters
pub record TellsOf (P : Who → Type 0) (a b : Scene) : Type 1 where
  pub user : P (who_of b.duel.user)
  pub foe : P (who_of b.duel.foe)
  pub grows : Grows a.told b.told
  pub names : All (λ e. All P (whos e)) a.told → All (λ e. All P (whos e)) b.told
  pub forms : (s k : ℕ) → list_any (takes_form s k) b.told ≡ list_any (takes_form s k) a.told

-- P holds of each, one after another
abbrev pub AreSo : {X : Type 0} → (X → Type 0) → List X → Type 0
AreSo P [] = Unit {0}
AreSo P (x ∷ xs) = P x × AreSo P xs

pub All-so : {X : Type 0} (P : X → Type 0) (xs : List X) → AreSo P xs → All P xs
All-so P [] so = All-nil P
All-so P (x ∷ xs) so = All-cons P x xs so.0 (All-so P xs so.1)

All-named : (P : Who → Type 0) (more : List Event) → AreSo (λ e. AreSo P (whos e)) more → AreSo (λ e. All P (whos e)) more
All-named P [] named = tt
All-named P (e ∷ more) named = (All-so P (whos e) named.0, All-named P more named.1)

-- events that name such alone, behind others that do
pub All-more : (P : Who → Type 0) (told more : List Event) → All (λ e. All P (whos e)) told → AreSo (λ e. AreSo P (whos e)) more → All (λ e. All P (whos e)) (told ++ more)
All-more P told more all named = All-append (λ e. All P (whos e)) told more all (All-so (λ e. All P (whos e)) more (All-named P more named))

-- ---- events by which nobody takes another's form

abbrev pub IsPlain : Event → Type 0
IsPlain (events.Transform who target) = ⊥
IsPlain other = Unit {0}

plain-takes : (s k : ℕ) (e : Event) → IsPlain e → takes_form s k e ≡ false
plain-takes s k (events.Transform who target) plain = absurd plain
plain-takes s k other plain = refl

-- what is behind counts where it has one
any-behind : {X : Type 0} (test : X → Bool) (xs ys : List X) → list_any test ys ≡ false → list_any test (xs ++ ys) ≡ list_any test xs
any-behind test [] ys none = none
any-behind test (x ∷ xs) ys none = ap (λ b. test x || b) (any-behind test xs ys none)

pub forms-behind : (s k : ℕ) (told more : List Event) → AreSo IsPlain more → list_any (takes_form s k) (told ++ more) ≡ list_any (takes_form s k) told
forms-behind s k told more plain = any-behind (takes_form s k) told more (none more plain)
  where
    none : (more : List Event) → AreSo IsPlain more → list_any (takes_form s k) more ≡ false
    none [] plain = refl
    none (e ∷ more) plain = rw (plain-takes s k e plain.0) (none more plain.1)

pub form-behind : (s k : ℕ) (told : List Event) (e : Event) → takes_form s k e ≡ false → list_any (takes_form s k) (told ++ e ∷ []) ≡ list_any (takes_form s k) told
form-behind s k told e none = any-behind (takes_form s k) told (e ∷ []) (rw none refl)

-- P holds of both fighters of a duel
pub record OfBoth (P : Who → Type 0) (d : Duel) : Type 0 where
  pub user : P (who_of d.user)
  pub foe : P (who_of d.foe)

-- a play that tells of such alone
pub record Tells {A : Type 0} (P : Who → Type 0) (p : Play A) : Type 1 where
  pub on : (s : Scene) → OfBoth P s.duel → TellsOf P s (p s).1

-- nothing more is told
pub grows-none : (told : List Event) → Grows told told
grows-none told = record { more = []; is = sym (append-nil told) }

pub grows-trans : (a b c : List Event) → Grows a b → Grows b c → Grows a c
grows-trans a b c one two = record { more = one.more ++ two.more; is = two.is ∙ ap (λ told. told ++ two.more) one.is ∙ append_assoc a one.more two.more }

-- events put behind others
pub grows-more : (old new : List Event) → Grows old (old ++ new)
grows-more old new = record { more = new; is = refl }

pub tells-trans : (P : Who → Type 0) (a b c : Scene) → TellsOf P a b → TellsOf P b c → TellsOf P a c
tells-trans P a b c one two = record { user = two.user; foe = two.foe; grows = grows-trans a.told b.told c.told one.grows two.grows; names = λ all. two.names (one.names all); forms = λ s k. two.forms s k ∙ one.forms s k }

pub give-tells : {A : Type 0} (P : Who → Type 0) (x : A) → Tells P (give x)
give-tells P x = record { on = λ s both. record { user = both.user; foe = both.foe; grows = grows-none s.told; names = λ all. all; forms = λ i k. refl } }

pub draw-tells : (P : Who → Type 0) (n : ℕ) → Tells P (draw n)
draw-tells P n = record { on = λ s both. record { user = both.user; foe = both.foe; grows = grows-none s.told; names = λ all. all; forms = λ i k. refl } }

pub tell-tells : (P : Who → Type 0) (e : Event) → AreSo P (whos e) → IsPlain e → Tells P (tell e)
tell-tells P e named plain = record {
  on = λ s both. record {
    user = both.user;
    foe = both.foe;
    grows = grows-more s.told (e ∷ []);
    names = λ all. All-more P s.told (e ∷ []) all (named, tt);
    forms = λ i k. forms-behind i k s.told (e ∷ []) (plain, tt);
  };
}

pub change-tells : (P : Who → Type 0) (f : Duel → Duel) → ((d : Duel) → P (who_of d.user) → P (who_of d.foe) → P (who_of (f d).user)) → ((d : Duel) → P (who_of d.user) → P (who_of d.foe) → P (who_of (f d).foe)) → Tells P (change f)
change-tells P f user foe = record { on = λ s both. record { user = user s.duel both.user both.foe; foe = foe s.duel both.user both.foe; grows = grows-none s.told; names = λ all. all; forms = λ i k. refl } }

pub choose-tells : {A : Type 0} (P : Who → Type 0) (b : Bool) (p q : Play A) → Tells P p → Tells P q → Tells P (choose b p q)
choose-tells P true p q one two = one
choose-tells P false p q one two = two

pub then-tells : {A B : Type 0} (P : Who → Type 0) (p : Play A) (q : Play B) → Tells P p → Tells P q → Tells P (p >> q)
then-tells P p q one two = record { on = λ s both. (let first = one.on s both in tells-trans P s (p s).1 (q (p s).1).1 first (two.on (p s).1 (record { user = first.user; foe = first.foe }))) }

pub bind-tells : {A B : Type 0} (P : Who → Type 0) (p : Play A) (f : A → Play B) → Tells P p → ((x : A) → Tells P (f x)) → Tells P (p >>= f)
bind-tells P p f one two = record { on = λ s both. (let first = one.on s both in tells-trans P s (p s).1 (f (p s).0 (p s).1).1 first ((two (p s).0).on (p s).1 (record { user = first.user; foe = first.foe }))) }

pub duel_now-tells : {B : Type 0} (P : Who → Type 0) (f : Duel → Play B) → ((d : Duel) → P (who_of d.user) → P (who_of d.foe) → Tells P (f d)) → Tells P (duel_now >>= f)
duel_now-tells P f two = record { on = λ s both. (two s.duel both.user both.foe).on s both }

pub ruleset tells = (duel_now-tells, choose-tells, tell-tells, change-tells, then-tells, bind-tells, draw-tells, give-tells)
