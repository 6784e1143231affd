-- The canonical texts of nickname and species.
use Rattle.std.proofs.Common.{◌≡◌, ℕ, ◌+◌, ◌≤◌, ◌&&◌, Bool, true, false, leb, List, [], ◌∷◌, length, chars, bytes_eq, encode_utf8_all, refl, sym, ap, ◌∙◌, arith}
use Rattle.std.specs.Str.{all_scalars}
use Rattle.std.proofs.lemmas.Bool.{leb-true, le-leb}
use Rattle.std.proofs.lemmas.Slice.Eq.{bytes_eq-Decides}
use Rattle.std.proofs.lemmas.Str.{chars-encodes, encodes_same}
use Rattle.ps_packed.specs.Forms.{words, in_form}
use Rattle.ps_packed.specs.Packed.{is_nil, or_other, bytes_of}
use Rattle.ps_packed.specs.Canon.{nick_text, species_text}
use Rattle.ps_packed.proofs.WordLaws.{words_facts, words_made}

-- the canonical texts in characters, from those of a set's fields
pub record AreNames (n s : List ℕ) : Type 0 where
  pub nick : List ℕ
  pub species : List ℕ
  pub nick_fits : in_form (words 18) nick ≡ true
  pub species_fits : in_form (words 32) species ≡ true
  pub named : (is_nil nick && is_nil species) ≡ false
  pub nick_back : or_other nick species ≡ or_other n s
  pub species_back : or_other species nick ≡ or_other s n
  pub short : bytes_of nick + bytes_of species ≤ bytes_of n + bytes_of s
  pub nick_scalars : all_scalars nick ≡ true
  pub species_scalars : all_scalars species ≡ true
  pub nick_is : encode_utf8_all nick ≡ nick_text (encode_utf8_all (or_other n s))
  pub species_is : encode_utf8_all species ≡ species_text (encode_utf8_all (or_other n s)) (encode_utf8_all (or_other s n))

-- whether a text has up to 18 characters, of its bytes
fits_18 : (w : List ℕ) → all_scalars w ≡ true → leb (length (chars (encode_utf8_all w))) 18 ≡ leb (length w) 18
fits_18 w e = ap (λ (u : List ℕ). leb (length u) 18) (chars-encodes w e)

nick_kept : (w : List ℕ) → all_scalars w ≡ true → leb (length w) 18 ≡ true → nick_text (encode_utf8_all w) ≡ encode_utf8_all w
unfolding nick_text
nick_kept w e h = rw (fits_18 w e, h) refl

nick_left : (w : List ℕ) → all_scalars w ≡ true → leb (length w) 18 ≡ false → nick_text (encode_utf8_all w) ≡ []
unfolding nick_text
nick_left w e h = rw (fits_18 w e, h) refl

same_bytes : (w : List ℕ) → bytes_eq (encode_utf8_all w) (encode_utf8_all w) ≡ true
same_bytes w = (bytes_eq-Decides (encode_utf8_all w) (encode_utf8_all w)).1 refl

species_left : (w : List ℕ) → all_scalars w ≡ true → leb (length w) 18 ≡ true → species_text (encode_utf8_all w) (encode_utf8_all w) ≡ []
unfolding species_text
species_left w e h = rw (same_bytes w, fits_18 w e, h) refl

species_long : (w : List ℕ) → all_scalars w ≡ true → leb (length w) 18 ≡ false → species_text (encode_utf8_all w) (encode_utf8_all w) ≡ encode_utf8_all w
unfolding species_text
species_long w e h = rw (same_bytes w, fits_18 w e, h) refl

species_kept : (n s : List ℕ) → bytes_eq (encode_utf8_all s) (encode_utf8_all n) ≡ false → species_text (encode_utf8_all n) (encode_utf8_all s) ≡ encode_utf8_all s
unfolding species_text
species_kept n s e = rw e refl

nothing_fits : (most : ℕ) → in_form (words most) [] ≡ true
nothing_fits most = words_made most [] (record { chars = refl; short = omega arith })

-- up to 18 characters may stand in the longer field too
narrower : (w : List ℕ) → in_form (words 32) w ≡ true → leb (length w) 18 ≡ true → in_form (words 18) w ≡ true
narrower w e h = words_made 18 w (record { chars = (words_facts 32 w e).chars; short = leb-true _ _ h })

wider : (w : List ℕ) → in_form (words 18) w ≡ true → leb (length w) 18 ≡ true
wider w e = le-leb _ _ (words_facts 18 w e).short

-- only the species is there
from_species : (b : Bool) (c : ℕ) (s : List ℕ) → leb (length (c ∷ s)) 18 ≡ b → in_form (words 32) (c ∷ s) ≡ true → all_scalars (c ∷ s) ≡ true → AreNames [] (c ∷ s)
from_species true c s h e l = record {
  nick = c ∷ s;
  species = [];
  nick_fits = narrower (c ∷ s) e h;
  species_fits = nothing_fits 32;
  named = refl;
  nick_back = refl;
  species_back = refl;
  short = omega arith;
  nick_scalars = l;
  species_scalars = refl;
  nick_is = sym (nick_kept (c ∷ s) l h);
  species_is = sym (species_left (c ∷ s) l h);
}
from_species false c s h e l = record {
  nick = [];
  species = c ∷ s;
  nick_fits = nothing_fits 18;
  species_fits = e;
  named = refl;
  nick_back = refl;
  species_back = refl;
  short = omega arith;
  nick_scalars = refl;
  species_scalars = l;
  nick_is = sym (nick_left (c ∷ s) l h);
  species_is = sym (species_long (c ∷ s) l h);
}

-- only the nickname is there
from_nick : (c : ℕ) (n : List ℕ) → in_form (words 18) (c ∷ n) ≡ true → all_scalars (c ∷ n) ≡ true → AreNames (c ∷ n) []
from_nick c n e l =
    let h = wider (c ∷ n) e in
    record {
      nick = c ∷ n;
      species = [];
      nick_fits = e;
      species_fits = nothing_fits 32;
      named = refl;
      nick_back = refl;
      species_back = refl;
      short = omega arith;
      nick_scalars = l;
      species_scalars = refl;
      nick_is = sym (nick_kept (c ∷ n) l h);
      species_is = sym (species_left (c ∷ n) l h);
    }

-- both are there, alike or not
from_both : (b : Bool) (c : ℕ) (n : List ℕ) (d : ℕ) (s : List ℕ) → bytes_eq (encode_utf8_all (d ∷ s)) (encode_utf8_all (c ∷ n)) ≡ b → in_form (words 18) (c ∷ n) ≡ true → in_form (words 32) (d ∷ s) ≡ true → all_scalars (c ∷ n) ≡ true → all_scalars (d ∷ s) ≡ true → AreNames (c ∷ n) (d ∷ s)
from_both false c n d s h e f l k = record {
  nick = c ∷ n;
  species = d ∷ s;
  nick_fits = e;
  species_fits = f;
  named = refl;
  nick_back = refl;
  species_back = refl;
  short = omega arith;
  nick_scalars = l;
  species_scalars = k;
  nick_is = sym (nick_kept (c ∷ n) l (wider (c ∷ n) e));
  species_is = sym (species_kept (c ∷ n) (d ∷ s) h);
}
from_both true c n d s h e f l k =
    let same : d ∷ s ≡ c ∷ n = encodes_same (d ∷ s) (c ∷ n) ((bytes_eq-Decides (encode_utf8_all (d ∷ s)) (encode_utf8_all (c ∷ n))).0 h) in
    let w = wider (c ∷ n) e in
    record {
      nick = c ∷ n;
      species = [];
      nick_fits = e;
      species_fits = nothing_fits 32;
      named = refl;
      nick_back = refl;
      species_back = sym same;
      short = omega arith;
      nick_scalars = l;
      species_scalars = refl;
      nick_is = sym (nick_kept (c ∷ n) l w);
      species_is = sym (ap (λ (u : List ℕ). species_text (encode_utf8_all (c ∷ n)) (encode_utf8_all u)) same ∙ species_left (c ∷ n) l w);
    }

pub names_canon : (n s : List ℕ) → in_form (words 18) n ≡ true → in_form (words 32) s ≡ true → (is_nil n && is_nil s) ≡ false → all_scalars n ≡ true → all_scalars s ≡ true → AreNames n s
names_canon [] [] e f named l k = absurd cc
names_canon [] (c ∷ s) e f named l k = from_species (leb (length (c ∷ s)) 18) c s refl f k
names_canon (c ∷ n) [] e f named l k = from_nick c n e l
names_canon (c ∷ n) (d ∷ s) e f named l k = from_both (bytes_eq (encode_utf8_all (d ∷ s)) (encode_utf8_all (c ∷ n))) c n d s refl e f l k
