-- The battles and the searches of one user after a command.
use Rattle.std.proofs.Common.{◌≡◌, ℕ, ℤ, Bool, true, false, cond, not, filter, bytes_eq, List, [], ◌∷◌, ◌++◌, Option, Some, None, refl, sym, ap, ◌∙◌, append-nil, true≢false}
use Rattle.std.proofs.lemmas.List.Elements.{filter-append}
use Rattle.std.proofs.lemmas.Slice.Eq.{bytes_eq-Decides}
use Rattle.hall_index.proofs.IndexLemmas.{two_filters}
use Rattle.ps_ladder.specs.declared.searches.Search.{Search}
use Rattle.ps_ladder.specs.Waiting.{has_user, suits, found, without, cancelled}
use Rattle.ps_hall.specs.declared.game.Game.{Game}
use Rattle.ps_hall.specs.Lookups.{games_of, has_number, plays}
use Rattle.ps_hall.specs.declared.coming.Gone.{Gone}
use Rattle.ps_hall.specs.declared.coming.Gone.TheVariants.{Nobody, Own, Matched}
use Rattle.ps_hall.specs.Coming.{staying, left_of, has_matched, own_without, own_left}

pub nothing_new : (gs : List Game) → gs ++ [] ≡ gs
nothing_new gs = append-nil gs

staying_of : (gone : Option ℕ) (gs : List Game) (id : List ℕ) → games_of (staying gone gs) id ≡ staying gone (games_of gs id)
staying_of None gs id = refl
staying_of (Some number) gs id = two_filters (plays id) (λ g. not (has_number number g)) gs

-- the battles of a user, of those that stay and of the one that starts
pub own_then : (gone : Option ℕ) (gs new : List Game) (id : List ℕ) → games_of (staying gone gs ++ new) id ≡ staying gone (games_of gs id) ++ games_of new id
own_then gone gs new id = filter-append (plays id) (staying gone gs) new ∙ ap (λ (l : List Game). l ++ games_of new id) (staying_of gone gs id)

-- ---- searches

pub no_more : (ss : List Search) → ss ++ [] ≡ ss
no_more ss = append-nil ss

-- those of a user, where the user's go
own_gone : (id : List ℕ) (ss : List Search) → filter (has_user id) (cancelled ss id) ≡ []
own_gone id [] = refl
own_gone id (s ∷ ss) = by (has_user id s) refl (own_gone id ss)
  where
    by : (b : Bool) → has_user id s ≡ b → filter (has_user id) (cancelled ss id) ≡ [] → filter (has_user id) (cond (not b) (s ∷ cancelled ss id) (cancelled ss id)) ≡ []
    by true t more = more
    by false t more = ap (λ b. cond b (s ∷ filter (has_user id) (cancelled ss id)) (filter (has_user id) (cancelled ss id))) t ∙ more

-- those of a user, where another's go
own_stay : (user id : List ℕ) (ss : List Search) → bytes_eq user id ≡ false → filter (has_user id) (cancelled ss user) ≡ filter (has_user id) ss
own_stay user id [] apart = refl
own_stay user id (s ∷ ss) apart = by (has_user user s) refl (own_stay user id ss apart)
  where
    other : has_user user s ≡ true → (b : Bool) → has_user id s ≡ b → b ≡ false
    other t true u = absurd (true≢false (sym ((bytes_eq-Decides user id).1 (sym ((bytes_eq-Decides s.user user).0 t) ∙ (bytes_eq-Decides s.user id).0 u)) ∙ apart))
    other t false u = refl

    by : (b : Bool) → has_user user s ≡ b → filter (has_user id) (cancelled ss user) ≡ filter (has_user id) ss
        → filter (has_user id) (cond (not b) (s ∷ cancelled ss user) (cancelled ss user)) ≡ cond (has_user id s) (s ∷ filter (has_user id) ss) (filter (has_user id) ss)
    by true t more = more ∙ sym (ap (λ b. cond b (s ∷ filter (has_user id) ss) (filter (has_user id) ss)) (other t (has_user id s) refl))
    by false t more = ap (λ (l : List Search). cond (has_user id s) (s ∷ l) l) more

-- those of a user, where the one goes that is matched
own_matched : (user format : List ℕ) (rating : ℤ) (id : List ℕ) (ss : List Search)
    → filter (has_user id) (without ss user format rating) ≡ own_without ss user format rating id (filter (has_user id) ss)
own_matched user format rating id [] = refl
own_matched user format rating id (s ∷ ss) = by (suits user format rating s) (has_user id s) refl refl (own_matched user format rating id ss)
  where
    own : List Search
    own = filter (has_user id) ss

    later : (b : Bool) → suits user format rating s ≡ false → filter (has_user id) (without ss user format rating) ≡ cond b (without own user format rating) own
        → s ∷ filter (has_user id) (without ss user format rating) ≡ cond b (without (s ∷ own) user format rating) (s ∷ own)
    later true t more = ap (λ (l : List Search). s ∷ l) more ∙ sym (ap (λ b. cond b own (s ∷ without own user format rating)) t)
    later false t more = ap (λ (l : List Search). s ∷ l) more

    by : (b c : Bool) → suits user format rating s ≡ b → has_user id s ≡ c → filter (has_user id) (without ss user format rating) ≡ own_without ss user format rating id own
        → filter (has_user id) (cond b ss (s ∷ without ss user format rating))
        ≡ cond (has_matched (cond b (Some s) (found ss user format rating)) id) (without (cond c (s ∷ own) own) user format rating) (cond c (s ∷ own) own)
    by true true t u more = sym (ap (λ b. cond b (without (s ∷ own) user format rating) (s ∷ own)) u ∙ ap (λ b. cond b own (s ∷ without own user format rating)) t)
    by true false t u more = sym (ap (λ b. cond b (without own user format rating) own) u)
    by false true t u more =
        ap (λ b. cond b (s ∷ filter (has_user id) (without ss user format rating)) (filter (has_user id) (without ss user format rating))) u
        ∙ later (has_matched (found ss user format rating) id) t more
    by false false t u more =
        ap (λ b. cond b (s ∷ filter (has_user id) (without ss user format rating)) (filter (has_user id) (without ss user format rating))) u ∙ more

own_by : (user id : List ℕ) (ss : List Search) (b : Bool) → bytes_eq user id ≡ b → filter (has_user id) (cancelled ss user) ≡ cond b [] (filter (has_user id) ss)
own_by user id ss true t = ap (λ x. filter (has_user id) (cancelled ss x)) ((bytes_eq-Decides user id).0 t) ∙ own_gone id ss
own_by user id ss false t = own_stay user id ss t

left_own : (gone : Gone) (ss : List Search) (id : List ℕ) → filter (has_user id) (left_of gone ss) ≡ own_left gone ss id (filter (has_user id) ss)
left_own Nobody ss id = refl
left_own (Own user) ss id = own_by user.now id ss (bytes_eq user.now id) refl
left_own (Matched user format rating) ss id = own_matched user.now format.now rating id ss

-- the searches of a user, of those that are left and of the one that comes
pub searches_then : (gone : Gone) (ss new : List Search) (id : List ℕ)
    → filter (has_user id) (left_of gone ss ++ new) ≡ own_left gone ss id (filter (has_user id) ss) ++ filter (has_user id) new
searches_then gone ss new id = filter-append (has_user id) (left_of gone ss) new ∙ ap (λ (l : List Search). l ++ filter (has_user id) new) (left_own gone ss id)

pub ruleset coming = (nothing_new, own_then, no_more, searches_then)
