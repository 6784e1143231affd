-- What the first line of a written set says.
use Rattle.std.proofs.Common.{◌≡◌, ◌≢◌, ℕ, ◌<◌, ◌==◌, ◌||◌, ◌&&◌, ◌⊎◌, Bool, true, false, not, cond, eqb, List, [], ◌∷◌, ◌++◌, Option, Some, None, refl, sym, ap, subst, ◌∙◌, arith, inl, inr, lit<}
use Rattle.std.specs.Prelude.{codes, encode_utf8}
use Rattle.std.specs.Str.{bytes_eq}
use Rattle.std.proofs.lemmas.Bool.{and_parts, or_cases, eqb-true, eq-eqb, not-true}
use Rattle.std.proofs.lemmas.List.{append-nil, append_assoc}
use Rattle.std.proofs.lemmas.Slice.Eq.{bytes_eq-Decides}
use Rattle.std.proofs.lemmas.Str.{encode_ascii}
use Rattle.ps_base.specs.Cuts.{after_front, before_end}
use Rattle.ps_base.proofs.CutLemmas.{before_end_is}
use Rattle.ps_packed.specs.declared.set.Set.{Set}
use Rattle.ps_packed.specs.Canon.{nick_text, species_text, gender_text}
use Rattle.ps_packed.specs.Forms.{gender, is_letter, in_form}
use Rattle.ps_packed.specs.Packed.{is_nil, gender_of}
use Rattle.ps_packed.proofs.Unique.{Lacks}
use Rattle.ps_export.specs.declared.draft.Draft.{Draft}
use Rattle.ps_export.specs.declared.first.Names.{Names}
use Rattle.ps_export.specs.Lines.{parts, clean, is_sign, bare}
use Rattle.ps_export.specs.Sheets.{drafted, is_gender, species_alone, both_names, with_group, with_groups, names_of, draft_with, names_in, first_of, draft_of}
use Rattle.ps_export.specs.Written.{is_plain, is_nature, are_names, are_plain, is_writable, names_text, gender_part, item_part, first_line}
use Rattle.ps_export.proofs.Spelling.{parts_none, parts_append, two_parts, lacks_append, Printed, printed_append, EndsIn, ends_append, clean_is, IsPlain, plain_facts, signs_lack, bare_is}
use Rattle.ps_export.proofs.SetFacts.{IsKept}

-- ---- the gender

-- what is written of a gender, and what it says
pub record GenderText (text part : List ℕ) : Type 0 where
  pub letter : ℕ
  pub is : text ≡ letter ∷ []
  pub written : part ≡ 32 ∷ 40 ∷ letter ∷ 41 ∷ []
  pub gender : is_gender (letter ∷ []) ≡ true
  pub no_at : Lacks 64 (letter ∷ [])
  pub no_open : Lacks 40 (letter ∷ [])
  pub printed : Printed (letter ∷ [])

male : GenderText (gender_text (Some 77)) (gender_part (Some 77))
unfolding is_gender
male = record { letter = 77; is = encode_ascii 77 (lit< tt); written = rw (encode_ascii 77 (lit< tt)) refl; gender = refl; no_at = refl; no_open = refl; printed = refl }

female : GenderText (gender_text (Some 70)) (gender_part (Some 70))
unfolding is_gender
female = record { letter = 70; is = encode_ascii 70 (lit< tt); written = rw (encode_ascii 70 (lit< tt)) refl; gender = refl; no_at = refl; no_open = refl; printed = refl }

neither : GenderText (gender_text (Some 78)) (gender_part (Some 78))
unfolding is_gender
neither = record { letter = 78; is = encode_ascii 78 (lit< tt); written = rw (encode_ascii 78 (lit< tt)) refl; gender = refl; no_at = refl; no_open = refl; printed = refl }

letter_cases : (c : ℕ) → (eqb c 77 || (eqb c 70 || (eqb c 78 || false))) ≡ true → (c ≡ 77) ⊎ ((c ≡ 70) ⊎ (c ≡ 78))
letter_cases c e = elim (or_cases (eqb c 77) (eqb c 70 || (eqb c 78 || false)) e) [
  | inl h ↦ inl (eqb-true c 77 h)
  | inr h ↦ elim (or_cases (eqb c 70) (eqb c 78 || false) h) [
    | inl k ↦ inr (inl (eqb-true c 70 k))
    | inr k ↦ elim (or_cases (eqb c 78) false k) [
      | inl m ↦ inr (inr (eqb-true c 78 m))
      | inr m ↦ absurd cc
    ]
  ]
]

gender_cases : (g : List ℕ) → in_form gender g ≡ true → (gender_of g ≡ None) ⊎ GenderText (gender_text (gender_of g)) (gender_part (gender_of g))
unfolding in_form
gender_cases [] e = inl refl
gender_cases (c ∷ []) e = inr (elim (letter_cases c e) [
  | inl h ↦ rw h male
  | inr h ↦ elim h [
    | inl k ↦ rw k female
    | inr k ↦ rw k neither
  ]
])
gender_cases (c ∷ d ∷ g) e = absurd cc

pub gender_said : (o : Option ℕ) (g : List ℕ) → o ≡ gender_of g → in_form gender g ≡ true → (o ≡ None) ⊎ GenderText (gender_text o) (gender_part o)
gender_said o g is e = rw is (gender_cases g e)

-- ---- the names

-- plain names that are kept
pub record AreKept (nick species : List ℕ) : Type 0 where
  pub nick_printed : Printed nick
  pub species_printed : Printed species
  pub some_nick : is_nil nick ≡ false
  pub some_species : is_nil species ≡ false
  pub nick_plain : IsPlain nick
  pub species_plain : IsPlain species
  pub short_nick : bytes_eq nick species ≡ false → nick_text nick ≡ nick
  pub names : bytes_eq nick species ≡ false → is_gender species ≡ false

abbrev Read : List ℕ → List ℕ → List ℕ → List ℕ → Type 0
Read head nick species gender = names_of (parts 40 head) ≡ Some (record { nick = nick_text nick; species = species_text nick species; gender = gender })

space_end : (nick : List ℕ) → before_end (codes " ") (nick ++ codes " ") ≡ Some nick
space_end nick = before_end_is (nick ++ codes " ") (codes " ") nick refl

lacks_space : (c : ℕ) (nick : List ℕ) → Lacks c nick → Lacks c (codes " ") → Lacks c (nick ++ codes " ")
lacks_space c nick h k = lacks_append c nick (codes " ") h k

alone_read : (species : List ℕ) → is_nil species ≡ false → IsPlain species → Read species species species []
alone_read species some plain = rw (parts_none 40 species (signs_lack species plain.signs).0) (ap (species_alone []) (bare_is species some plain.signs))

alone_gender : (species : List ℕ) (letter : ℕ) → is_nil species ≡ false → IsPlain species → is_gender (letter ∷ []) ≡ true → Lacks 40 (letter ∷ []) → Read (species ++ 32 ∷ 40 ∷ letter ∷ 41 ∷ []) species species (letter ∷ [])
alone_gender species letter some plain is no_open =
    let front : List ℕ = species ++ codes " " in
    let whole : species ++ 32 ∷ 40 ∷ letter ∷ 41 ∷ [] ≡ front ++ 40 ∷ letter ∷ 41 ∷ [] = sym (append_assoc species (codes " ") (40 ∷ letter ∷ 41 ∷ [])) in
    let split : parts 40 (species ++ 32 ∷ 40 ∷ letter ∷ 41 ∷ []) ≡ front ∷ (letter ∷ 41 ∷ []) ∷ [] = ap (parts 40) whole ∙ two_parts 40 front (letter ∷ 41 ∷ []) (lacks_space 40 species (signs_lack species plain.signs).0 refl) (lacks_append 40 (letter ∷ []) (41 ∷ []) no_open refl) in
    let close : before_end (codes ")") (letter ∷ 41 ∷ []) ≡ Some (letter ∷ []) = before_end_is (letter ∷ 41 ∷ []) (codes ")") (letter ∷ []) refl in
    rw (split, space_end species, close, is) (ap (species_alone (letter ∷ [])) (bare_is species some plain.signs))

both_made : (nick species g : List ℕ) → AreKept nick species → bytes_eq nick species ≡ false → both_names g (bare (Some nick)) (bare (Some species)) ≡ Some (record { nick = nick_text nick; species = species_text nick species; gender = g })
both_made nick species g k other = rw (bare_is nick k.some_nick k.nick_plain.signs, bare_is species k.some_species k.species_plain.signs) (ap (λ (u : List ℕ). Some (record { nick = u; species = species_text nick species; gender = g })) (sym (k.short_nick other)))

both_read : (nick species : List ℕ) → AreKept nick species → bytes_eq nick species ≡ false → Read (nick ++ codes " (" ++ species ++ codes ")") nick species []
both_read nick species k other =
    let front : List ℕ = nick ++ codes " " in
    let back : List ℕ = species ++ codes ")" in
    let whole : nick ++ codes " (" ++ species ++ codes ")" ≡ front ++ 40 ∷ back = append_assoc (nick ++ codes " (") species (codes ")") ∙ append_assoc nick (codes " (") back ∙ sym (append_assoc nick (codes " ") (40 ∷ back)) in
    let split : parts 40 (nick ++ codes " (" ++ species ++ codes ")") ≡ front ∷ back ∷ [] = ap (parts 40) whole ∙ two_parts 40 front back (lacks_space 40 nick (signs_lack nick k.nick_plain.signs).0 refl) (lacks_append 40 species (codes ")") (signs_lack species k.species_plain.signs).0 refl) in
    rw (split, space_end nick, before_end_is back (codes ")") species refl, k.names other) (both_made nick species [] k other)

both_gender : (nick species : List ℕ) (letter : ℕ) → AreKept nick species → bytes_eq nick species ≡ false → is_gender (letter ∷ []) ≡ true → Lacks 40 (letter ∷ []) → Read ((nick ++ codes " (" ++ species ++ codes ")") ++ 32 ∷ 40 ∷ letter ∷ 41 ∷ []) nick species (letter ∷ [])
both_gender nick species letter k other is no_open =
    let front : List ℕ = nick ++ codes " " in
    let middle : List ℕ = species ++ codes ") " in
    let back : List ℕ = letter ∷ 41 ∷ [] in
    let whole : (nick ++ codes " (" ++ species ++ codes ")") ++ 32 ∷ 40 ∷ back ≡ front ++ 40 ∷ (middle ++ 40 ∷ back) =
    append_assoc (nick ++ codes " (" ++ species) (codes ")") (32 ∷ 40 ∷ back) ∙ append_assoc (nick ++ codes " (") species (41 ∷ 32 ∷ 40 ∷ back) ∙ append_assoc nick (codes " (") (species ++ 41 ∷ 32 ∷ 40 ∷ back)
    ∙ ap (λ (u : List ℕ). nick ++ 32 ∷ 40 ∷ u) (sym (append_assoc species (codes ") ") (40 ∷ back))) ∙ sym (append_assoc nick (codes " ") (40 ∷ (middle ++ 40 ∷ back))) in
    let last : parts 40 (middle ++ 40 ∷ back) ≡ middle ∷ back ∷ [] = two_parts 40 middle back (lacks_append 40 species (codes ") ") (signs_lack species k.species_plain.signs).0 refl) (lacks_append 40 (letter ∷ []) (41 ∷ []) no_open refl) in
    let split : parts 40 ((nick ++ codes " (" ++ species ++ codes ")") ++ 32 ∷ 40 ∷ back) ≡ front ∷ middle ∷ back ∷ [] =
    ap (parts 40) whole ∙ parts_append 40 front (middle ++ 40 ∷ back) ∙ rw (parts_none 40 front (lacks_space 40 nick (signs_lack nick k.nick_plain.signs).0 refl), last) refl in
    rw (split, space_end nick, before_end_is middle (codes ") ") species refl, is) (both_made nick species (letter ∷ []) k other)

same_names : (nick species : List ℕ) → bytes_eq nick species ≡ true → nick ≡ species
same_names nick species e = (bytes_eq-Decides nick species).0 e

names_read : (nick species : List ℕ) → AreKept nick species → Read (names_text nick species) nick species []
unfolding names_text
names_read nick species k = by_same (bytes_eq nick species) refl
  where
    by_same : (b : Bool) → bytes_eq nick species ≡ b → Read (cond (bytes_eq nick species) species (nick ++ codes " (" ++ species ++ codes ")")) nick species []
    by_same true e = rw e (rw (same_names nick species e) (alone_read species k.some_species k.species_plain))
    by_same false e = rw e (both_read nick species k e)

gendered_read : (nick species : List ℕ) (letter : ℕ) → AreKept nick species → is_gender (letter ∷ []) ≡ true → Lacks 40 (letter ∷ []) → Read (names_text nick species ++ 32 ∷ 40 ∷ letter ∷ 41 ∷ []) nick species (letter ∷ [])
unfolding names_text
gendered_read nick species letter k is no_open = by_same (bytes_eq nick species) refl
  where
    by_same : (b : Bool) → bytes_eq nick species ≡ b → Read (cond (bytes_eq nick species) species (nick ++ codes " (" ++ species ++ codes ")") ++ 32 ∷ 40 ∷ letter ∷ 41 ∷ []) nick species (letter ∷ [])
    by_same true e = rw e (rw (same_names nick species e) (alone_gender species letter k.some_species k.species_plain is no_open))
    by_same false e = rw e (both_gender nick species letter k e is no_open)

-- ---- names and gender

-- what stands before the item
pub record Head (head nick species gender : List ℕ) : Type 0 where
  pub read : Read head nick species gender
  pub no_at : Lacks 64 head
  pub printed : Printed head
  pub ends : EndsIn head

closes : (front : List ℕ) → EndsIn (front ++ codes ")")
closes front = record { front = front; last = 41; is = refl; other = λ z. omega (arith, z) }

record NamesText (text : List ℕ) : Type 0 where
  no_at : Lacks 64 text
  printed : Printed text
  ends : EndsIn text

names_written : (nick species : List ℕ) → AreKept nick species → NamesText (names_text nick species)
unfolding names_text
names_written nick species k = by_same (bytes_eq nick species) refl
  where
    by_same : (b : Bool) → bytes_eq nick species ≡ b → NamesText (cond (bytes_eq nick species) species (nick ++ codes " (" ++ species ++ codes ")"))
    by_same true e = rw e (record { no_at = (signs_lack species k.species_plain.signs).2; printed = k.species_printed; ends = k.species_plain.ends k.some_species })
    by_same false e = rw e (record {
      no_at = lacks_append 64 (nick ++ codes " (" ++ species) (codes ")") (lacks_append 64 (nick ++ codes " (") species (lacks_append 64 nick (codes " (") (signs_lack nick k.nick_plain.signs).2 refl) (signs_lack species k.species_plain.signs).2) refl;
      printed = printed_append (nick ++ codes " (" ++ species) (codes ")") (printed_append (nick ++ codes " (") species (printed_append nick (codes " (") k.nick_printed refl) k.species_printed) refl;
      ends = closes (nick ++ codes " (" ++ species);
    })

head_read : (nick species : List ℕ) (o : Option ℕ) → AreKept nick species → (o ≡ None) ⊎ GenderText (gender_text o) (gender_part o) → Head (names_text nick species ++ gender_part o) nick species (gender_text o)
head_read nick species o k said =
    let n = names_written nick species k in
    let names : List ℕ = names_text nick species in
    elim said [
      | inl none ↦ rw (none, append-nil names) (record { read = names_read nick species k; no_at = n.no_at; printed = n.printed; ends = n.ends })
      | inr g ↦ rw (g.written, g.is) (record {
        read = gendered_read nick species g.letter k g.gender g.no_open;
        no_at = lacks_append 64 names (32 ∷ 40 ∷ g.letter ∷ 41 ∷ []) n.no_at (lacks_append 64 (32 ∷ 40 ∷ []) (g.letter ∷ 41 ∷ []) refl (lacks_append 64 (g.letter ∷ []) (41 ∷ []) g.no_at refl));
        printed = printed_append names (32 ∷ 40 ∷ g.letter ∷ 41 ∷ []) n.printed (printed_append (32 ∷ 40 ∷ []) (g.letter ∷ 41 ∷ []) refl (printed_append (g.letter ∷ []) (41 ∷ []) g.printed refl));
        ends = ends_append names (32 ∷ 40 ∷ g.letter ∷ 41 ∷ []) (closes (32 ∷ 40 ∷ g.letter ∷ []));
      })
    ]

-- ---- the whole line

pub record FirstLine (line : List ℕ) (draft : Draft) : Type 0 where
  pub read : draft_of line ≡ Some draft
  pub printed : Printed line
  pub ends : EndsIn line
  pub some : is_nil line ≡ false

ends_some : (line : List ℕ) → EndsIn line → is_nil line ≡ false
ends_some [] e = absurd (no_end e.front e.last e.is)
  where
    no_end : (front : List ℕ) (last : ℕ) → [] ≡ front ++ last ∷ [] → ⊥
    no_end [] last h = absurd cc
    no_end (b ∷ front) last h = absurd cc
ends_some (b ∷ line) e = refl

head_alone : (head nick species gender : List ℕ) → Head head nick species gender → FirstLine head (drafted (nick_text nick) (species_text nick species) gender [])
unfolding draft_of
head_alone head nick species gender h = record {
  read = rw (parts_none 64 head h.no_at, h.read) refl;
  printed = h.printed;
  ends = h.ends;
  some = ends_some head h.ends;
}

head_item : (head nick species gender item : List ℕ) → Head head nick species gender → is_nil item ≡ false → Printed item → IsPlain item → FirstLine (head ++ (codes " @ " ++ item)) (drafted (nick_text nick) (species_text nick species) gender item)
unfolding draft_of
head_item head nick species gender item h some printed plain =
    let front : List ℕ = head ++ codes " " in
    let whole : head ++ (codes " @ " ++ item) ≡ front ++ 64 ∷ (32 ∷ item) = sym (append_assoc head (codes " ") (64 ∷ 32 ∷ item)) in
    let split : parts 64 (head ++ (codes " @ " ++ item)) ≡ front ∷ (32 ∷ item) ∷ [] = ap (parts 64) whole ∙ two_parts 64 front (32 ∷ item) (lacks_space 64 head h.no_at refl) (lacks_append 64 (codes " ") item refl (signs_lack item plain.signs).2) in
    let ends = ends_append head (codes " @ " ++ item) (ends_append (codes " @ ") item (plain.ends some)) in record {
      read = rw (split, space_end head, h.read, bare_is item some plain.signs) refl;
      printed = printed_append head (codes " @ " ++ item) h.printed (printed_append (codes " @ ") item refl printed);
      ends = ends;
      some = ends_some (head ++ (codes " @ " ++ item)) ends;
    }

with_item : (head nick species gender item : List ℕ) → Head head nick species gender → Printed item → IsPlain item → FirstLine (head ++ item_part item) (drafted (nick_text nick) (species_text nick species) gender item)
unfolding item_part
with_item head nick species gender [] h printed plain = rw (append-nil head) (head_alone head nick species gender h)
with_item head nick species gender (b ∷ item) h printed plain = head_item head nick species gender (b ∷ item) h refl printed plain

-- what can be written of a set
pub record IsSafe (s : Set) : Type 0 where
  pub nick : IsPlain s.nick
  pub species : IsPlain s.species
  pub item : IsPlain s.item
  pub ability : IsPlain s.ability
  pub nature : IsPlain s.nature
  pub misc : IsPlain s.misc
  pub nature_is : is_nature s.nature ≡ true
  pub names : bytes_eq s.nick s.species ≡ false → is_gender s.species ≡ false

or_second : (a b : Bool) → (a || not b) ≡ true → a ≡ false → b ≡ false
or_second true b e h = absurd cc
or_second false true e h = absurd cc
or_second false false e h = refl

pub safe : (s : Set) → is_writable s ≡ true → IsSafe s
unfolding is_writable are_plain are_names
safe s e =
    let a = and_parts _ _ e in
    let b = and_parts _ _ a.0 in
    let c5 = and_parts _ _ b.0 in
    let c4 = and_parts _ _ c5.0 in
    let c3 = and_parts _ _ c4.0 in
    let c2 = and_parts _ _ c3.0 in
    let c1 = and_parts _ _ c2.0 in record {
      nick = plain_facts s.nick c1.0;
      species = plain_facts s.species c1.1;
      item = plain_facts s.item c2.1;
      ability = plain_facts s.ability c3.1;
      nature = plain_facts s.nature c4.1;
      misc = plain_facts s.misc c5.1;
      nature_is = b.1;
      names = or_second (bytes_eq s.nick s.species) (is_gender s.species) a.1;
    }

-- the draft of a set's first line
abbrev pub first_draft : Set → Draft
first_draft s = drafted (nick_text s.nick) (species_text s.nick s.species) (gender_text s.gender) s.item

pub first_says : (s : Set) → IsKept s → IsSafe s → FirstLine (first_line s) (first_draft s)
unfolding first_line
first_says s k f =
    let names : AreKept s.nick s.species = record {
      nick_printed = k.nick;
      species_printed = k.species;
      some_nick = k.some_nick;
      some_species = k.some_species;
      nick_plain = f.nick;
      species_plain = f.species;
      short_nick = k.short_nick;
      names = f.names;
    } in
    let g = k.gender_is in
    with_item (names_text s.nick s.species ++ gender_part s.gender) s.nick s.species (gender_text s.gender) s.item (head_read s.nick s.species s.gender names (gender_said s.gender g.0 g.1 g.2)) k.item f.item
