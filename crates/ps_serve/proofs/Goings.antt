-- Rows of passes in which each stayed at its place and may have seen more.
use Rattle.std.proofs.Common.{◌≡◌, ◌≢◌, ◌<◌, List, [], ◌∷◌, ◌++◌, length, get_or, refl, sym, ◌∙◌, subst, arith}
use Rattle.std.specs.Prelude.{All}
use Rattle.std.specs.List.{AllZip}
use Rattle.std.proofs.lemmas.List.Elements.{Contains-get_or, AllZip-get_or, length_all_zip}
use Rattle.ps_hub.specs.Passes.{RoomPass}
use Rattle.ps_hub.proofs.QuitLemmas.{zip_self}
use Rattle.ps_serve.specs.Sittings.{AreApart}
use Rattle.ps_serve.proofs.PassLists.{IsKin, kin_self, Grows}

-- it saw more, and is held as it was
pub record Goes (h k : RoomPass) : Type 0 where
  pub grew : IsKin h k
  pub id : k.id ≡ h.id

pub stays : (h : RoomPass) → Goes h h
stays h = record { grew = kin_self h; id = refl }

pub all_stay : (rooms : List RoomPass) → AllZip Goes rooms rooms
all_stay rooms = zip_self Goes stays rooms

pub one_goes : (front : List RoomPass) (h k : RoomPass) (behind : List RoomPass) → Goes h k → AllZip Goes (front ++ h ∷ behind) (front ++ k ∷ behind)
one_goes [] h k behind g = (g, all_stay behind)
one_goes (x ∷ front) h k behind g = (stays x, one_goes front h k behind g)

pub kept_in : (old new : List RoomPass) → AllZip Goes old new → Grows old new
kept_in old new z h c =
    let same : length old ≡ length new = length_all_zip Goes old new z in
    let there : c.0 < length old = c.1 in
    let within : c.0 < length new = omega arith in
    let goes : Goes (get_or old c.0 h) (get_or new c.0 h) = AllZip-get_or Goes old new c.0 h h z c.1 in
    (get_or new c.0 h, Contains-get_or new c.0 h within, (subst (λ (x : RoomPass). Goes x (get_or new c.0 h)) c.2 goes).grew)

-- what follows for each pass from what was true of it before
pub zip_all : (R : RoomPass → RoomPass → Type 0) (P Q : RoomPass → Type 0) → ((h k : RoomPass) → R h k → P h → Q k) → (old new : List RoomPass) → AllZip R old new → All P old → All Q new
zip_all R P Q step old new z all i d lt =
    let same : length old ≡ length new = length_all_zip R old new z in
    let within : i < length old = omega arith in
    step (get_or old i d) (get_or new i d) (AllZip-get_or R old new i d d z within) (all i d within)

pub all_went : (P Q : RoomPass → Type 0) → ((h k : RoomPass) → Goes h k → Q k → P h) → (old new : List RoomPass) → AllZip Goes old new → All Q new → All P old
all_went P Q step old new z all i d lt =
    let same : length old ≡ length new = length_all_zip Goes old new z in
    let within : i < length new = omega arith in
    step (get_or old i d) (get_or new i d) (AllZip-get_or Goes old new i d d z lt) (all i d within)

pub apart_on : (old new : List RoomPass) → AllZip Goes old new → AreApart old → AreApart new
apart_on [] [] z a = tt
apart_on [] (k ∷ ks) z a = absurd z
apart_on (h ∷ hs) [] z a = absurd z
apart_on (h ∷ hs) (k ∷ ks) z a = (zip_all Goes (λ (o : RoomPass). o.number ≢ h.number) (λ (o : RoomPass). o.number ≢ k.number) (λ x y g ne e. ne (sym g.grew.place ∙ e ∙ z.0.grew.place)) hs ks z.1 a.0, apart_on hs ks z.1 a.1)
