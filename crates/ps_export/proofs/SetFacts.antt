-- What the sets of a team keep.
use Rattle.std.proofs.Common.{◌≡◌, ◌≢◌, ℕ, zero, suc, ◌+◌, ◌<◌, ◌≤◌, ◌==◌, ◌||◌, ◌&&◌, ◌⊎◌, Bool, true, false, not, cond, eqb, leb, List, [], ◌∷◌, ◌++◌, length, map, filter, chars, encode_utf8_all, Option, Some, None, refl, sym, ap, subst, ◌∙◌, arith, inl, inr}
use Rattle.std.specs.List.{list_all, list_any, AllByRecursion, join_with_byte}
use Rattle.std.specs.Str.{all_scalars, bytes_eq}
use Rattle.std.proofs.lemmas.Bool.{and_parts, and_from, or_cases, leb-true, le-leb, ne_eqb, lt-ltb, lt-leb}
use Rattle.std.proofs.lemmas.List.{length-map}
use Rattle.std.proofs.lemmas.List.Folds.{list_all-append}
use Rattle.std.proofs.lemmas.Slice.Eq.{bytes_eq-Decides}
use Rattle.std.proofs.lemmas.Str.{chars-encodes}
use Rattle.ps_base.specs.Ids.{id_of, is_id_byte, lower}
use Rattle.ps_base.proofs.IdLemmas.{length-id_of, is_id-id_of}
use Rattle.ps_packed.specs.declared.set.Set.{Set}
use Rattle.ps_packed.specs.Canon.{nick_text}
use Rattle.ps_packed.specs.Forms.{is_field_char, are_digits, number_of, is_number, parts, is_id_letter, has_id, ids_of, are_short, is_zero, words, evs, ivs, level, gender, in_form, form_of}
use Rattle.ps_packed.specs.Packed.{is_nil, is_nameless, or_other, six, field, evs_of, iv_of, ivs_of, gender_of, level_of, set_of, bytes_of, AreFieldTexts, team_text, IsTeamOf, IsTeam}
use Rattle.ps_packed.proofs.CanonTeams.{named_at, scalars_at}
use Rattle.ps_packed.proofs.Bytes.{length_bytes, low_encodes, low_scalars}
use Rattle.ps_packed.proofs.Joins.{scalars_each}
use Rattle.ps_packed.proofs.Laws.{is_low}
use Rattle.ps_packed.proofs.LevelLaws.{number_facts, level_facts}
use Rattle.ps_packed.proofs.MoveLaws.{moves_facts}
use Rattle.ps_packed.proofs.Reading.{from_field}
use Rattle.ps_packed.proofs.SpreadLaws.{spread_cases, numbers_facts}
use Rattle.ps_packed.proofs.Unique.{fields_long}
use Rattle.ps_packed.proofs.WordLaws.{words_facts}
use Rattle.ps_export.specs.Details.{is_move_name}
use Rattle.ps_export.proofs.Prints.{field_printed}
use Rattle.ps_export.proofs.Spelling.{Printed, EndsIn, snoc}
use Rattle.ps_export.proofs.StatLemmas.{AreSix}

-- the id of a move
pub record IsMoveId (id : List ℕ) : Type 0 where
  pub name : is_move_name id ≡ true
  pub same : id_of id ≡ id
  pub some : is_nil id ≡ false
  pub printed : Printed id
  pub ends : EndsIn id

pub record IsKept (s : Set) : Type 0 where
  pub nick : Printed s.nick
  pub species : Printed s.species
  pub item : Printed s.item
  pub ability : Printed s.ability
  pub nature : Printed s.nature
  pub misc : Printed s.misc
  pub some_nick : is_nil s.nick ≡ false
  pub some_species : is_nil s.species ≡ false
  pub short_nick : bytes_eq s.nick s.species ≡ false → nick_text s.nick ≡ s.nick
  pub gender_is : (g : List ℕ) × (s.gender ≡ gender_of g) × (in_form gender g ≡ true)
  pub level : s.level ≤ 100
  pub evs : AreSix s.evs
  pub ivs : AreSix s.ivs
  pub moves : AllByRecursion IsMoveId s.moves

-- ---- words

words_printed : (most : ℕ) (w : List ℕ) → in_form (words most) w ≡ true → Printed (encode_utf8_all w)
words_printed most w e = field_printed w (words_facts most w e).chars

not_nil : (x : List ℕ) → 0 < length x → is_nil x ≡ false
not_nil [] lt = absurd (omega (arith, lt))
not_nil (b ∷ x) lt = refl

some_encoded : (c : ℕ) (w : List ℕ) → is_nil (encode_utf8_all (c ∷ w)) ≡ false
some_encoded c w = not_nil (encode_utf8_all (c ∷ w)) (omega (arith, length_bytes (c ∷ w)))

-- ---- names

record AreNames (nick species : List ℕ) : Type 0 where
  nick_printed : Printed nick
  species_printed : Printed species
  some_nick : is_nil nick ≡ false
  some_species : is_nil species ≡ false
  short_nick : bytes_eq nick species ≡ false → nick_text nick ≡ nick

same_bytes : (x : List ℕ) → bytes_eq x x ≡ true
same_bytes x = (bytes_eq-Decides x x).1 refl

nick_short : (n : List ℕ) → in_form (words 18) n ≡ true → all_scalars n ≡ true → nick_text (encode_utf8_all n) ≡ encode_utf8_all n
unfolding nick_text
nick_short n e letters =
    let short : leb (length (chars (encode_utf8_all n))) 18 ≡ true = ap (λ (u : List ℕ). leb (length u) 18) (chars-encodes n letters) ∙ le-leb _ _ (words_facts 18 n e).short in
    rw short refl

names_facts : (n s : List ℕ) → in_form (words 18) n ≡ true → in_form (words 32) s ≡ true → (is_nil n && is_nil s) ≡ false → all_scalars n ≡ true → AreNames (encode_utf8_all (or_other n s)) (encode_utf8_all (or_other s n))
names_facts [] [] e h named letters = absurd cc
names_facts [] (c ∷ s) e h named letters = record {
  nick_printed = words_printed 32 (c ∷ s) h;
  species_printed = words_printed 32 (c ∷ s) h;
  some_nick = some_encoded c s;
  some_species = some_encoded c s;
  short_nick = λ k. absurd (let wrong : true ≡ false = sym (same_bytes (encode_utf8_all (c ∷ s))) ∙ k in cc);
}
names_facts (b ∷ n) [] e h named letters = record {
  nick_printed = words_printed 18 (b ∷ n) e;
  species_printed = words_printed 18 (b ∷ n) e;
  some_nick = some_encoded b n;
  some_species = some_encoded b n;
  short_nick = λ k. nick_short (b ∷ n) e letters;
}
names_facts (b ∷ n) (c ∷ s) e h named letters = record {
  nick_printed = words_printed 18 (b ∷ n) e;
  species_printed = words_printed 32 (c ∷ s) h;
  some_nick = some_encoded b n;
  some_species = some_encoded c s;
  short_nick = λ k. nick_short (b ∷ n) e letters;
}

-- ---- numbers

level_small : (w : List ℕ) → in_form level w ≡ true → level_of w ≤ 100
unfolding in_form
level_small [] e = omega arith
level_small (c ∷ w) e = (level_facts c w e).number.small

six_same : (n : ℕ) → n < 256 → AreSix (six n)
six_same n lt = record { a = n; b = n; c = n; d = n; e = n; f = n; are = refl; small = (lt, lt, lt, lt, lt, lt) }

six_parts : (of : List ℕ → ℕ) (ps : List (List ℕ)) → length ps ≡ 6 → AllByRecursion (λ p. of p < 256) ps → AreSix (map of ps)
six_parts of [] e h = absurd (omega (arith, e))
six_parts of (a ∷ []) e h = absurd (omega (arith, e))
six_parts of (a ∷ b ∷ []) e h = absurd (omega (arith, e))
six_parts of (a ∷ b ∷ c ∷ []) e h = absurd (omega (arith, e))
six_parts of (a ∷ b ∷ c ∷ d ∷ []) e h = absurd (omega (arith, e))
six_parts of (a ∷ b ∷ c ∷ d ∷ x ∷ []) e h = absurd (omega (arith, e))
six_parts of (a ∷ b ∷ c ∷ d ∷ x ∷ y ∷ []) e h = record { a = of a; b = of b; c = of c; d = of d; e = of x; f = of y; are = refl; small = (h.0, h.1.0, h.1.1.0, h.1.1.1.0, h.1.1.1.1.0, h.1.1.1.1.1.0) }
six_parts of (a ∷ b ∷ c ∷ d ∷ x ∷ y ∷ z ∷ ps) e h = absurd (omega (arith, e))

ev_bound : (p : List ℕ) → is_number 255 p ≡ true → number_of p < 256
ev_bound p e = omega (arith, (number_facts 255 p e).small)

iv_bound : (p : List ℕ) → is_number 31 p ≡ true → iv_of p < 256
iv_bound [] e = omega arith
iv_bound (c ∷ p) e = omega (arith, (number_facts 31 (c ∷ p) e).small)

each_bound : (most : ℕ) (of : List ℕ → ℕ) → ((p : List ℕ) → is_number most p ≡ true → of p < 256) → (ps : List (List ℕ)) → list_all (is_number most) ps ≡ true → AllByRecursion (λ p. of p < 256) ps
each_bound most of h [] e = tt
each_bound most of h (p ∷ ps) e = let a = and_parts (is_number most p) (list_all (is_number most) ps) e in (h p a.0, each_bound most of h ps a.1)

evs_six : (w : List ℕ) → in_form evs w ≡ true → AreSix (evs_of w)
unfolding in_form
evs_six [] e = six_same 252 (omega arith)
evs_six (c ∷ w) e = by_zero (is_zero (c ∷ w)) refl
  where
    by_zero : (b : Bool) → is_zero (c ∷ w) ≡ b → AreSix (cond (is_zero (c ∷ w)) (six 0) (map number_of (parts (c ∷ w))))
    by_zero true z = rw z (six_same 0 (omega arith))
    by_zero false z = rw z (elim (spread_cases true 255 c w e) [
      | inl h ↦ absurd (let wrong : true ≡ false = sym h.1 ∙ z in cc)
      | inr h ↦ six_parts number_of (parts (c ∷ w)) h.1 (each_bound 255 number_of ev_bound (parts (c ∷ w)) (numbers_facts 255 (c ∷ w) h.0).each)
    ])

ivs_six : (w : List ℕ) → in_form ivs w ≡ true → AreSix (ivs_of w)
unfolding in_form
ivs_six [] e = six_same 31 (omega arith)
ivs_six (c ∷ w) e = elim (spread_cases false 31 c w e) [
  | inl h ↦ absurd (let wrong : false ≡ true = h.0 in cc)
  | inr h ↦ six_parts iv_of (parts (c ∷ w)) h.1 (each_bound 31 iv_of iv_bound (parts (c ∷ w)) (numbers_facts 31 (c ∷ w) h.0).each)
]

-- ---- moves

record IdByte (b : ℕ) : Type 0 where
  stays : lower b ≡ b
  field_char : is_field_char b ≡ true
  printed : leb 32 b ≡ true
  low : is_low b ≡ true
  other : b ≢ 32

made_byte : (b : ℕ) → 48 ≤ b → b ≤ 122 → b ≢ 93 → (leb 65 b && leb b 90) ≡ false → IdByte b
made_byte b le most ne small = record {
  stays = rw small refl;
  field_char = and_from _ _ (and_from _ _ (le-leb _ _ (omega (arith, le))) (ap not (ne_eqb b 124 (λ z. omega (arith, z, most))))) (ap not (ne_eqb b 93 ne));
  printed = le-leb _ _ (omega (arith, le));
  low = lt-ltb b 128 (omega (arith, most));
  other = λ z. omega (arith, z, le);
}

and_no : (a : Bool) → (a && false) ≡ false
and_no true = refl
and_no false = refl

id_byte : (b : ℕ) → is_id_byte b ≡ true → IdByte b
id_byte b e = elim (or_cases (leb 97 b && leb b 122) (leb 48 b && leb b 57) e) [
  | inl h ↦ (let a = and_parts (leb 97 b) (leb b 122) h in let low : 97 ≤ b = leb-true _ _ a.0 in
      made_byte b (omega (arith, low)) (leb-true _ _ a.1) (λ z. omega (arith, z, low)) (rw (lt-leb b 90 (omega (arith, low))) (and_no (leb 65 b))))
  | inr h ↦ (let a = and_parts (leb 48 b) (leb b 57) h in let high : b ≤ 57 = leb-true _ _ a.1 in
      made_byte b (leb-true _ _ a.0) (omega (arith, high)) (λ z. omega (arith, z, high)) (rw (lt-leb 65 b (omega (arith, high))) refl))
]

record IsIdText (p : List ℕ) : Type 0 where
  same : id_of p ≡ p
  field_chars : list_all is_field_char p ≡ true
  printed : Printed p
  low : list_all is_low p ≡ true

id_text : (p : List ℕ) → list_all is_id_byte p ≡ true → IsIdText p
id_text [] e = record { same = refl; field_chars = refl; printed = refl; low = refl }
id_text (b ∷ p) e =
    let a = and_parts (is_id_byte b) (list_all is_id_byte p) e in
    let here = id_byte b a.0 in
    let more = id_text p a.1 in record {
      same = rw (here.stays, a.0, more.same) refl;
      field_chars = and_from _ _ here.field_char more.field_chars;
      printed = and_from _ _ here.printed more.printed;
      low = and_from _ _ here.low more.low;
    }

id_ends : (p : List ℕ) → list_all is_id_byte p ≡ true → is_nil p ≡ false → EndsIn p
id_ends [] e some = absurd cc
id_ends (b ∷ p) e some =
    let s = snoc b p in
    let whole : list_all is_id_byte (s.0 ++ s.1 ∷ []) ≡ true = ap (list_all is_id_byte) (sym s.2) ∙ e in
    let last = and_parts _ _ (sym (list_all-append is_id_byte s.0 (s.1 ∷ [])) ∙ whole) in
    record { front = s.0; last = s.1; is = s.2; other = (id_byte s.1 (and_parts (is_id_byte s.1) true last.1).0).other }

id_some : (p : List ℕ) → list_any is_id_letter p ≡ true → is_nil (id_of p) ≡ false
id_some [] e = absurd cc
id_some (c ∷ p) e = by_letter c p (is_id_letter c) refl e (id_some p)
  where
    by_letter : (c : ℕ) (p : List ℕ) (b : Bool) → is_id_byte (lower c) ≡ b → (is_id_byte (lower c) || list_any is_id_letter p) ≡ true → (list_any is_id_letter p ≡ true → is_nil (id_of p) ≡ false) → is_nil (cond (is_id_byte (lower c)) (lower c ∷ id_of p) (id_of p)) ≡ false
    by_letter c p true z h more = rw z refl
    by_letter c p false z h more = rw z (more (ap (λ (u : Bool). u || list_any is_id_letter p) (sym z) ∙ h))

move_id : (p : List ℕ) → has_id p ≡ true → length p ≤ 32 → IsMoveId (id_of p)
unfolding has_id is_move_name
move_id p some short =
    let t = id_text (id_of p) (is_id-id_of p) in
    let none = id_some p some in
    let letters : chars (id_of p) ≡ id_of p = ap chars (sym (low_encodes (id_of p) t.low)) ∙ chars-encodes (id_of p) (low_scalars (id_of p) t.low) in
    let few : leb (length (chars (id_of p))) 32 ≡ true = ap (λ (u : List ℕ). leb (length u) 32) letters ∙ le-leb _ _ (omega (arith, length-id_of p, short)) in record {
      name = rw (t.field_chars, few, t.same, none) refl;
      same = t.same;
      some = none;
      printed = t.printed;
      ends = id_ends (id_of p) (is_id-id_of p) none;
    }

move_ids : (ps : List (List ℕ)) → list_all (λ p. leb (length p) 32) ps ≡ true → AllByRecursion IsMoveId (map id_of (filter has_id ps))
move_ids [] e = tt
move_ids (p ∷ ps) e = let a = and_parts (leb (length p) 32) (list_all (λ q. leb (length q) 32) ps) e in by_id p ps (has_id p) refl (leb-true _ _ a.0) (move_ids ps a.1)
  where
    by_id : (p : List ℕ) (ps : List (List ℕ)) (b : Bool) → has_id p ≡ b → length p ≤ 32 → AllByRecursion IsMoveId (map id_of (filter has_id ps)) → AllByRecursion IsMoveId (map id_of (cond (has_id p) (p ∷ filter has_id ps) (filter has_id ps)))
    by_id p ps true z short more = rw z (move_id p z short, more)
    by_id p ps false z short more = rw z more

moves_kept : (w : List ℕ) → in_form (form_of 4) w ≡ true → AllByRecursion IsMoveId (ids_of w)
unfolding are_short
moves_kept w e = move_ids (parts w) (moves_facts w e).are

-- ---- sets

kept_of : (ws : List (List ℕ)) → AreFieldTexts ws → list_all all_scalars ws ≡ true → IsKept (set_of ws)
kept_of ws r letters =
    let long : length ws ≡ 12 = omega (arith, fields_long 0 ws r.0) in
    let fits : (k : ℕ) → k < 12 → in_form (form_of k) (field ws k) ≡ true = λ k lt. from_field 0 ws k k r.0 (omega (arith, long, lt)) (omega arith) in
    let names = names_facts (field ws 0) (field ws 1) (fits 0 (omega arith)) (fits 1 (omega arith)) (named_at ws r.1) (scalars_at ws 0 letters) in record {
      nick = names.nick_printed;
      species = names.species_printed;
      item = words_printed 32 (field ws 2) (fits 2 (omega arith));
      ability = words_printed 32 (field ws 3) (fits 3 (omega arith));
      nature = words_printed 32 (field ws 5) (fits 5 (omega arith));
      misc = words_printed 64 (field ws 11) (fits 11 (omega arith));
      some_nick = names.some_nick;
      some_species = names.some_species;
      short_nick = names.short_nick;
      gender_is = (field ws 7, refl, fits 7 (omega arith));
      level = level_small (field ws 10) (fits 10 (omega arith));
      evs = evs_six (field ws 6) (fits 6 (omega arith));
      ivs = ivs_six (field ws 8) (fits 8 (omega arith));
      moves = moves_kept (field ws 4) (fits 4 (omega arith));
    }

all_kept : (team_texts : List (List (List ℕ))) → AllByRecursion AreFieldTexts team_texts → list_all all_scalars (map (join_with_byte 124) team_texts) ≡ true → AllByRecursion IsKept (map set_of team_texts)
all_kept [] h e = tt
all_kept (ws ∷ team_texts) h e =
    let a = and_parts (all_scalars (join_with_byte 124 ws)) (list_all all_scalars (map (join_with_byte 124) team_texts)) e in
    (kept_of ws h.0 (scalars_each 124 ws a.0), all_kept team_texts h.1 a.1)

pub team_kept : (text : List ℕ) (team : List Set) → IsTeam text team → AllByRecursion IsKept team
team_kept text team (team_texts, is) =
    let letters : all_scalars (team_text team_texts) ≡ true = ap all_scalars (sym is.free.parts) ∙ is.free.letters in
    subst (AllByRecursion IsKept) (sym is.sets) (all_kept team_texts is.free.fit (scalars_each 93 (map (join_with_byte 124) team_texts) letters))
