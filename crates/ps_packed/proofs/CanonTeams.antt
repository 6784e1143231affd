-- The canonical text of a team is a text of that team.
use Rattle.std.proofs.Common.{◌≡◌, ℕ, zero, suc, ◌<◌, ◌≤◌, ◌==◌, ◌&&◌, ◌||◌, Bool, true, false, not, List, [], ◌∷◌, length, map, chars, encode_utf8_all, Result, Ok, Err, IfOk, refl, sym, ap, subst, ◌∙◌, arith}
use Rattle.std.specs.Char.{encode_utf8}
use Rattle.std.specs.List.{list_all, AllByRecursion, join_with_byte}
use Rattle.std.specs.Str.{all_scalars}
use Rattle.std.proofs.lemmas.Bool.Decides.{nat_tests}
use Rattle.std.proofs.lemmas.List.{append-nil}
use Rattle.std.proofs.lemmas.Str.{chars-encodes}
use Rattle.std.proofs.lemmas.Bool.{and_parts, and_from}
use Rattle.ps_packed.specs.declared.set.Set.{Set}
use Rattle.ps_packed.specs.Forms.{evs, ivs, gender, shiny, ids_of, in_form, form_of}
use Rattle.ps_packed.specs.Packed.{is_nil, is_nameless, field, evs_of, gender_of, ivs_of, level_of, set_of, bytes_of, AreFieldTexts, team_text, IsTeamOf, IsTeam, HasText}
use Rattle.ps_packed.specs.Canon.{moves_text, evs_text, gender_text, ivs_text, shiny_text, level_text, set_fields, canon}
use Rattle.ps_packed.proofs.Bytes.{low_encodes, low_scalars}
use Rattle.ps_packed.proofs.Joins.{total, joined_shorter, join_encodes, scalars_joined, scalars_each}
use Rattle.ps_packed.proofs.Unique.{fields_long}
use Rattle.ps_packed.proofs.Reading.{from_field}
use Rattle.ps_packed.proofs.CanonNumbers.{IsCanon, evs_canon, ivs_canon, IsLevelText, level_canon}
use Rattle.ps_packed.proofs.CanonMoves.{IsMovesText, moves_canon}
use Rattle.ps_packed.proofs.CanonNames.{AreNames, names_canon}

-- ---- the fields of a set

-- the fields that the canonical text has, and what it keeps of those read
record AreCanonFieldTexts (ws : List (List ℕ)) : Type 0 where
  field_texts : List (List ℕ)
  fit : AreFieldTexts field_texts
  back : set_of field_texts ≡ set_of ws
  short : total field_texts ≤ total ws
  scalars : list_all all_scalars field_texts ≡ true
  text : map encode_utf8_all field_texts ≡ set_fields (set_of ws)

gender_is : (g : List ℕ) → in_form gender g ≡ true → encode_utf8_all g ≡ gender_text (gender_of g)
unfolding in_form
gender_is [] e = refl
gender_is (c ∷ []) e = append-nil (encode_utf8 c)
gender_is (c ∷ d ∷ g) e = absurd cc

shiny_letter : (c : ℕ) → (c == 83 || false) ≡ true → c ≡ 83
shiny_letter c e = grind (arith, nat_tests)

shiny_is : (h : List ℕ) → in_form shiny h ≡ true → encode_utf8_all h ≡ shiny_text (not (is_nil h))
unfolding in_form
shiny_is [] e = refl
shiny_is (c ∷ []) e = ap (λ (d : ℕ). encode_utf8_all (d ∷ [])) (shiny_letter c e) ∙ low_encodes (83 ∷ []) refl
shiny_is (c ∷ d ∷ h) e = absurd cc

-- a set's fields
record AreForms (n s i a m t e g v h l x : List ℕ) : Type 0 where
  item : in_form (form_of 2) i ≡ true
  ability : in_form (form_of 3) a ≡ true
  nature : in_form (form_of 5) t ≡ true
  gender_fits : in_form gender g ≡ true
  shiny_fits : in_form shiny h ≡ true
  misc : in_form (form_of 11) x ≡ true
  names : AreNames n s
  moves_are : IsMovesText m
  evs_are : IsCanon evs evs_of evs_text e
  ivs_are : IsCanon ivs ivs_of ivs_text v
  level_is : IsLevelText l
  item_scalars : all_scalars i ≡ true
  ability_scalars : all_scalars a ≡ true
  nature_scalars : all_scalars t ≡ true
  gender_scalars : all_scalars g ≡ true
  shiny_scalars : all_scalars h ≡ true
  misc_scalars : all_scalars x ≡ true

twelve : (n s i a m t e g v h l x n' s' i' a' m' t' e' g' v' h' l' x' : List ℕ) → n ≡ n' → s ≡ s' → i ≡ i' → a ≡ a' → m ≡ m' → t ≡ t' → e ≡ e' → g ≡ g' → v ≡ v' → h ≡ h' → l ≡ l' → x ≡ x' → n ∷ s ∷ i ∷ a ∷ m ∷ t ∷ e ∷ g ∷ v ∷ h ∷ l ∷ x ∷ [] ≡ n' ∷ s' ∷ i' ∷ a' ∷ m' ∷ t' ∷ e' ∷ g' ∷ v' ∷ h' ∷ l' ∷ x' ∷ []
twelve n s i a m t e g v h l x n' s' i' a' m' t' e' g' v' h' l' x' e1 e2 e3 e4 e5 e6 e7 e8 e9 e10 e11 e12 = rw (e1, e2, e3, e4, e5, e6, e7, e8, e9, e10, e11, e12) refl

abbrev set_with : List ℕ → List ℕ → List (List ℕ) → List ℕ → List ℕ → ℕ → List ℕ → List ℕ → List ℕ → List ℕ → List ℕ → List ℕ → Set
set_with n s m e v l i a t g h x = record {
  nick = encode_utf8_all n;
  species = encode_utf8_all s;
  item = encode_utf8_all i;
  ability = encode_utf8_all a;
  moves = m;
  nature = encode_utf8_all t;
  evs = e;
  gender = gender_of g;
  ivs = v;
  shiny = not (is_nil h);
  level = l;
  misc = encode_utf8_all x;
}

same_set : (n s : List ℕ) (m : List (List ℕ)) (e v : List ℕ) (l : ℕ) (n' s' : List ℕ) (m' : List (List ℕ)) (e' v' : List ℕ) (l' : ℕ) (i a t g h x : List ℕ) → n ≡ n' → s ≡ s' → m ≡ m' → e ≡ e' → v ≡ v' → l ≡ l' → set_with n s m e v l i a t g h x ≡ set_with n' s' m' e' v' l' i a t g h x
same_set n s m e v l n' s' m' e' v' l' i a t g h x e1 e2 e3 e4 e5 e6 = rw (e1, e2, e3, e4, e5, e6) refl

forms_canon : (n s i a m t e g v h l x : List ℕ) → AreForms n s i a m t e g v h l x → AreCanonFieldTexts (n ∷ s ∷ i ∷ a ∷ m ∷ t ∷ e ∷ g ∷ v ∷ h ∷ l ∷ x ∷ [])
forms_canon n s i a m t e g v h l x f =
    let k = f.names in
    let mt : List ℕ = moves_text (ids_of m) in
    let et : List ℕ = evs_text (evs_of e) in
    let vt : List ℕ = ivs_text (ivs_of v) in
    let lt : List ℕ = level_text (level_of l) in
    record {
      field_texts = k.nick ∷ k.species ∷ i ∷ a ∷ mt ∷ t ∷ et ∷ g ∷ vt ∷ h ∷ lt ∷ x ∷ [];
      fit = ((k.nick_fits, omega arith, (k.species_fits, omega arith, (f.item, omega arith, (f.ability, omega arith, (f.moves_are.fits, omega arith, (f.nature, omega arith, (f.evs_are.fits, omega arith, (f.gender_fits, omega arith, (f.ivs_are.fits, omega arith, (f.shiny_fits, omega arith, (f.level_is.fits, omega arith, (f.misc, refl)))))))))))), k.named);
      back = same_set _ _ _ _ _ _ _ _ _ _ _ _ i a t g h x k.nick_back k.species_back f.moves_are.back f.evs_are.back f.ivs_are.back f.level_is.back;
      short = omega (arith, k.short, f.moves_are.short, f.evs_are.short, f.ivs_are.short, f.level_is.short);
      scalars = and_from _ _ k.nick_scalars (and_from _ _ k.species_scalars (and_from _ _ f.item_scalars (and_from _ _ f.ability_scalars (and_from _ _ (low_scalars mt f.moves_are.low) (and_from _ _ f.nature_scalars (and_from _ _ (low_scalars et f.evs_are.low) (and_from _ _ f.gender_scalars (and_from _ _ (low_scalars vt f.ivs_are.low) (and_from _ _ f.shiny_scalars (and_from _ _ (low_scalars lt f.level_is.low) (and_from _ _ f.misc_scalars refl)))))))))));
      text = twelve _ _ _ _ _ _ _ _ _ _ _ _ _ _ _ _ _ _ _ _ _ _ _ _ k.nick_is k.species_is refl refl (low_encodes mt f.moves_are.low) refl (low_encodes et f.evs_are.low) (gender_is g f.gender_fits) (low_encodes vt f.ivs_are.low) (shiny_is h f.shiny_fits) (low_encodes lt f.level_is.low) refl;
    }

-- a set has twelve fields
record IsTwelve (ws : List (List ℕ)) : Type 0 where
  are : ws ≡ field ws 0 ∷ field ws 1 ∷ field ws 2 ∷ field ws 3 ∷ field ws 4 ∷ field ws 5 ∷ field ws 6 ∷ field ws 7 ∷ field ws 8 ∷ field ws 9 ∷ field ws 10 ∷ field ws 11 ∷ []

is_twelve : (ws : List (List ℕ)) → length ws ≡ 12 → IsTwelve ws
is_twelve [] e = absurd (omega (arith, e))
is_twelve (n ∷ []) e = absurd (omega (arith, e))
is_twelve (n ∷ s ∷ []) e = absurd (omega (arith, e))
is_twelve (n ∷ s ∷ i ∷ []) e = absurd (omega (arith, e))
is_twelve (n ∷ s ∷ i ∷ a ∷ []) e = absurd (omega (arith, e))
is_twelve (n ∷ s ∷ i ∷ a ∷ m ∷ []) e = absurd (omega (arith, e))
is_twelve (n ∷ s ∷ i ∷ a ∷ m ∷ t ∷ []) e = absurd (omega (arith, e))
is_twelve (n ∷ s ∷ i ∷ a ∷ m ∷ t ∷ f ∷ []) e = absurd (omega (arith, e))
is_twelve (n ∷ s ∷ i ∷ a ∷ m ∷ t ∷ f ∷ g ∷ []) e = absurd (omega (arith, e))
is_twelve (n ∷ s ∷ i ∷ a ∷ m ∷ t ∷ f ∷ g ∷ v ∷ []) e = absurd (omega (arith, e))
is_twelve (n ∷ s ∷ i ∷ a ∷ m ∷ t ∷ f ∷ g ∷ v ∷ h ∷ []) e = absurd (omega (arith, e))
is_twelve (n ∷ s ∷ i ∷ a ∷ m ∷ t ∷ f ∷ g ∷ v ∷ h ∷ l ∷ []) e = absurd (omega (arith, e))
is_twelve (n ∷ s ∷ i ∷ a ∷ m ∷ t ∷ f ∷ g ∷ v ∷ h ∷ l ∷ x ∷ []) e = record { are = refl }
is_twelve (n ∷ s ∷ i ∷ a ∷ m ∷ t ∷ f ∷ g ∷ v ∷ h ∷ l ∷ x ∷ y ∷ ws) e = absurd (omega (arith, e))

pub scalars_at : (ws : List (List ℕ)) (k : ℕ) → list_all all_scalars ws ≡ true → all_scalars (field ws k) ≡ true
scalars_at [] zero e = refl
scalars_at [] (suc k) e = refl
scalars_at (w ∷ ws) zero e = (and_parts (all_scalars w) (list_all all_scalars ws) e).0
scalars_at (w ∷ ws) (suc k) e = scalars_at ws k (and_parts (all_scalars w) (list_all all_scalars ws) e).1

pub named_at : (ws : List (List ℕ)) → is_nameless ws ≡ false → (is_nil (field ws 0) && is_nil (field ws 1)) ≡ false
named_at [] e = absurd cc
named_at (n ∷ []) e = ap (λ (b : Bool). b && true) e
named_at (n ∷ s ∷ ws) e = e

field_texts_canon : (ws : List (List ℕ)) → AreFieldTexts ws → list_all all_scalars ws ≡ true → AreCanonFieldTexts ws
field_texts_canon ws r letters =
    let long : length ws ≡ 12 = omega (arith, fields_long 0 ws r.0) in
    let fits : (k : ℕ) → k < 12 → in_form (form_of k) (field ws k) ≡ true = λ k lt. from_field 0 ws k k r.0 (omega (arith, long, lt)) (omega arith) in
    let sc : (k : ℕ) → all_scalars (field ws k) ≡ true = λ k. scalars_at ws k letters in
    subst AreCanonFieldTexts (sym (is_twelve ws long).are) (forms_canon (field ws 0) (field ws 1) (field ws 2) (field ws 3) (field ws 4) (field ws 5) (field ws 6) (field ws 7) (field ws 8) (field ws 9) (field ws 10) (field ws 11) (record {
      item = fits 2 (omega arith);
      ability = fits 3 (omega arith);
      nature = fits 5 (omega arith);
      gender_fits = fits 7 (omega arith);
      shiny_fits = fits 9 (omega arith);
      misc = fits 11 (omega arith);
      names = names_canon (field ws 0) (field ws 1) (fits 0 (omega arith)) (fits 1 (omega arith)) (named_at ws r.1) (sc 0) (sc 1);
      moves_are = moves_canon (field ws 4) (fits 4 (omega arith));
      evs_are = evs_canon (field ws 6) (fits 6 (omega arith));
      ivs_are = ivs_canon (field ws 8) (fits 8 (omega arith));
      level_is = level_canon (field ws 10) (fits 10 (omega arith));
      item_scalars = sc 2;
      ability_scalars = sc 3;
      nature_scalars = sc 5;
      gender_scalars = sc 7;
      shiny_scalars = sc 9;
      misc_scalars = sc 11;
    }))

-- ---- teams

record AreCanonTeamTexts (team_texts : List (List (List ℕ))) : Type 0 where
  canons : List (List (List ℕ))
  fit : AllByRecursion AreFieldTexts canons
  back : map set_of canons ≡ map set_of team_texts
  short : total (map (join_with_byte 124) canons) ≤ total (map (join_with_byte 124) team_texts)
  scalars : list_all all_scalars (map (join_with_byte 124) canons) ≡ true
  count : length canons ≡ length team_texts
  text : map encode_utf8_all (map (join_with_byte 124) canons) ≡ map (join_with_byte 124) (map set_fields (map set_of team_texts))

team_texts_canon : (team_texts : List (List (List ℕ))) → AllByRecursion AreFieldTexts team_texts → list_all all_scalars (map (join_with_byte 124) team_texts) ≡ true → AreCanonTeamTexts team_texts
team_texts_canon [] h e = record { canons = []; fit = tt; back = refl; short = omega arith; scalars = refl; count = refl; text = refl }
team_texts_canon (r ∷ team_texts) h e =
    let a = and_parts (all_scalars (join_with_byte 124 r)) (list_all all_scalars (map (join_with_byte 124) team_texts)) e in
    let one = field_texts_canon r h.0 (scalars_each 124 r a.0) in
    let later = team_texts_canon team_texts h.1 a.1 in
    record {
      canons = one.field_texts ∷ later.canons;
      fit = (one.fit, later.fit);
      back = ap (λ (s : Set). s ∷ map set_of later.canons) one.back ∙ ap (λ (ss : List Set). set_of r ∷ ss) later.back;
      short = omega (arith, joined_shorter 124 one.field_texts r (omega arith) one.short, later.short);
      scalars = and_from _ _ (scalars_joined 124 one.field_texts (omega arith) one.scalars) later.scalars;
      count = ap suc later.count;
      text = ap (λ (u : List ℕ). u ∷ map encode_utf8_all (map (join_with_byte 124) later.canons)) (join_encodes 124 one.field_texts (omega arith) ∙ ap (join_with_byte 124) one.text) ∙ ap (λ (us : List (List ℕ)). join_with_byte 124 (set_fields (set_of r)) ∷ us) later.text;
    }

canon_of_team_texts : (team_texts : List (List (List ℕ))) (text : List ℕ) (team : List Set) → IsTeamOf team_texts text team → IsTeam (chars (canon team)) team
canon_of_team_texts team_texts text team is =
    let letters : all_scalars (team_text team_texts) ≡ true = ap all_scalars (sym is.free.parts) ∙ is.free.letters in
    let c = team_texts_canon team_texts is.free.fit (scalars_each 93 (map (join_with_byte 124) team_texts) letters) in
    let whole : List ℕ = team_text c.canons in
    let good : all_scalars whole ≡ true = scalars_joined 93 (map (join_with_byte 124) c.canons) (omega arith) c.scalars in
    let bytes : encode_utf8_all whole ≡ canon (map set_of team_texts) = join_encodes 93 (map (join_with_byte 124) c.canons) (omega arith) ∙ ap (join_with_byte 93) c.text in
    let reported : chars (canon team) ≡ whole = ap (λ (t : List Set). chars (canon t)) is.sets ∙ ap chars (sym bytes) ∙ chars-encodes whole good in (
      c.canons,
      record {
        free = record { letters = ap all_scalars reported ∙ good; parts = reported; fit = c.fit; some = omega (arith, c.count, is.free.some); few = omega (arith, c.count, is.free.few) };
        short = omega (arith, ap bytes_of reported, joined_shorter 93 (map (join_with_byte 124) c.canons) (map (join_with_byte 124) team_texts) (omega arith) c.short, ap bytes_of is.free.parts, is.short);
        sets = is.sets ∙ sym c.back;
      },
    )

pub canon_is : (team : List Set) → HasText team → IsTeam (chars (canon team)) team
canon_is team (text, is) = canon_of_team_texts is.0 text team is.1

pub canon_again : {E : Type 0} (r : Result (List ℕ) E) (sets team : List Set) → IfOk r (λ t. t ≡ canon sets) → sets ≡ team → HasText team → IfOk r (λ t. IsTeam (chars t) team)
canon_again (Ok t) sets team e same has = subst (λ (u : List ℕ). IsTeam (chars u) team) (sym (e ∙ ap canon same)) (canon_is team has)
canon_again (Err x) sets team e same has = tt
