-- No text has two teams.
use Rattle.std.proofs.Common.{◌≡◌, ℕ, zero, suc, ◌+◌, ◌<◌, ◌==◌, ◌&&◌, true, false, not, eqb, List, [], ◌∷◌, length, get_or, map, Bor, All, refl, sym, ap, subst, ◌∙◌, arith}
use Rattle.std.specs.List.{list_all, AllByRecursion, slice_split, join_with_byte}
use Rattle.std.proofs.lemmas.List.Elements.{All-from_recursion}
use Rattle.std.proofs.lemmas.List.Splits.{slice_split_at, slice_split_none}
use Rattle.std.proofs.lemmas.List.Folds.{list_all-append}
use Rattle.std.proofs.lemmas.Bool.{and_parts, and_from, not-true, eq-eqb}
use Rattle.std.proofs.lemmas.List.{length-map}
use Rattle.ps_packed.specs.declared.set.Set.{Set}
use Rattle.ps_packed.specs.Packed.{AreFields, AreFieldTexts, set_of, team_text, IsTeam, team_texts_of}
use Rattle.ps_packed.specs.Scan.{team_of}
use Rattle.ps_packed.proofs.Laws.{is_inner}
use Rattle.ps_packed.proofs.FormLaws.{laws_of}

-- the byte doesn't stand in the text
abbrev pub Lacks : ℕ → List ℕ → Type 0
Lacks c w = list_all (λ b. not (b == c)) w ≡ true

lacks_each : (c : ℕ) (w : List ℕ) → Lacks c w → AllByRecursion (λ b. eqb b c ≡ false) w
lacks_each c [] e = tt
lacks_each c (b ∷ w) e = let a = and_parts (not (b == c)) (list_all (λ b. not (b == c)) w) e in (not-true (eqb b c) a.0, lacks_each c w a.1)

lacks : (c : ℕ) (w : List ℕ) → Lacks c w → All (λ b. eqb b c ≡ false) w
lacks c w e = All-from_recursion (λ b. eqb b c ≡ false) w (lacks_each c w e)

pub split_join : (c : ℕ) (x : List ℕ) (xs : List (List ℕ)) → AllByRecursion (Lacks c) (x ∷ xs) → slice_split (λ b. b == c) (join_with_byte c (x ∷ xs)) ≡ x ∷ xs
split_join c x [] h = slice_split_none (λ b. b == c) x (lacks c x h.0)
split_join c x (y ∷ ys) h = slice_split_at (λ b. b == c) x c (join_with_byte c (y ∷ ys)) (lacks c x h.0) (eq-eqb c c refl) ∙ ap (λ (ps : List (List ℕ)). x ∷ ps) (split_join c y ys h.1)

-- a field has neither a bar nor a bracket
plain_bar : (w : List ℕ) → list_all is_inner w ≡ true → Lacks 124 w × Lacks 93 w
plain_bar [] e = (refl, refl)
plain_bar (b ∷ w) e =
    let a = and_parts (not (b == 124) && not (b == 93)) (list_all is_inner w) e in
    let c = and_parts (not (b == 124)) (not (b == 93)) a.0 in
    let later = plain_bar w a.1 in
    (and_from _ _ c.0 later.0, and_from _ _ c.1 later.1)

fields_lack : (k : ℕ) (ws : List (List ℕ)) → AreFields k ws → AllByRecursion (Lacks 124) ws × Lacks 93 (join_with_byte 124 ws)
fields_lack k [] h = absurd h
fields_lack k (w ∷ []) h = let p = plain_bar w ((laws_of k).plain w h.0) in ((p.0, tt), p.1)
fields_lack k (w ∷ x ∷ ws) h =
    let p = plain_bar w ((laws_of k).plain w h.0) in
    let later = fields_lack (suc k) (x ∷ ws) h.2 in
    ((p.0, later.0), list_all-append (λ b. not (b == 93)) w (124 ∷ join_with_byte 124 (x ∷ ws)) ∙ and_from _ _ p.1 later.1)

field_texts_back : (ws : List (List ℕ)) → AreFields 0 ws → slice_split (λ c. c == 124) (join_with_byte 124 ws) ≡ ws
field_texts_back [] h = absurd h
field_texts_back (w ∷ ws) h = split_join 124 w ws (fields_lack 0 (w ∷ ws) h).0

team_texts_lack : (team_texts : List (List (List ℕ))) → AllByRecursion AreFieldTexts team_texts → AllByRecursion (Lacks 93) (map (join_with_byte 124) team_texts)
team_texts_lack [] h = tt
team_texts_lack (r ∷ team_texts) h = ((fields_lack 0 r h.0.0).1, team_texts_lack team_texts h.1)

team_texts_back : (team_texts : List (List (List ℕ))) → AllByRecursion AreFieldTexts team_texts → map (slice_split (λ c. c == 124)) (map (join_with_byte 124) team_texts) ≡ team_texts
team_texts_back [] h = refl
team_texts_back (r ∷ team_texts) h = ap (λ (x : List (List ℕ)). x ∷ map (slice_split (λ c. c == 124)) (map (join_with_byte 124) team_texts)) (field_texts_back r h.0.0) ∙ ap (λ (rs : List (List (List ℕ))). r ∷ rs) (team_texts_back team_texts h.1)

-- a team's text determines its fields
pub team_texts_are : (team_texts : List (List (List ℕ))) → 0 < length team_texts → AllByRecursion AreFieldTexts team_texts → team_texts_of (team_text team_texts) ≡ team_texts
team_texts_are [] some h = absurd (omega (arith, some))
team_texts_are (r ∷ team_texts) some h = ap (map (slice_split (λ c. c == 124))) (split_join 93 (join_with_byte 124 r) (map (join_with_byte 124) team_texts) (team_texts_lack (r ∷ team_texts) h)) ∙ team_texts_back (r ∷ team_texts) h

pub team_is : (text : List ℕ) (team : List Set) → IsTeam text team → team ≡ team_of text
team_is text team (team_texts, is) = is.sets ∙ ap (map set_of) (sym (ap team_texts_of is.free.parts ∙ team_texts_are team_texts is.free.some is.free.fit))

pub one_team : (text : List ℕ) (a b : List Set) → IsTeam text a → IsTeam text b → a ≡ b
one_team text a b p q = team_is text a p ∙ sym (team_is text b q)

-- ---- for the reader

pub fields_long : (k : ℕ) (ws : List (List ℕ)) → AreFields k ws → k + length ws ≡ 12
fields_long k [] h = absurd h
fields_long k (w ∷ []) h = omega (arith, h.1)
fields_long k (w ∷ x ∷ ws) h = omega (arith, fields_long (suc k) (x ∷ ws) h.2)

pub fits_at : (team_texts : List (Bor (List ℕ))) (i : ℕ) (d : Bor (List ℕ)) → AllByRecursion AreFieldTexts (map (slice_split (λ c. c == 124)) (map (λ x. x.now) team_texts)) → i < length team_texts → AreFieldTexts (slice_split (λ c. c == 124) (get_or team_texts i d).now)
fits_at [] i d h lt = absurd (omega (arith, lt))
fits_at (r ∷ team_texts) zero d h lt = h.0
fits_at (r ∷ team_texts) (suc i) d h lt = fits_at team_texts i d h.1 (omega (arith, lt))

pub pieces_long : (ps : List (Bor (List ℕ))) (ws : List (List ℕ)) → map (λ x. x.now) ps ≡ ws → length ps ≡ length ws
pieces_long ps ws e = sym (length-map ps (λ (x : Bor (List ℕ)). x.now)) ∙ ap length e

pub fits_of : (text : List ℕ) (team : List Set) → IsTeam text team → AllByRecursion AreFieldTexts (team_texts_of text)
fits_of text team (team_texts, is) = subst (AllByRecursion AreFieldTexts) (sym (ap team_texts_of is.free.parts ∙ team_texts_are team_texts is.free.some is.free.fit)) is.free.fit

pub is_found : (text : List ℕ) (team sets : List Set) → IsTeam text team → sets ≡ team_of text → IsTeam text sets
is_found text team sets is e = subst (IsTeam text) (team_is text team is ∙ sym e) is
