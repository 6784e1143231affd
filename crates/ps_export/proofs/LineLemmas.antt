-- What the lines of a written set say.
use Rattle.std.proofs.Common.{◌≡◌, ◌≢◌, ℕ, suc, ◌+◌, ◌<◌, ◌≤◌, ◌==◌, ◌||◌, ◌&&◌, ◌⊎◌, Bool, true, false, not, cond, eqb, leb, List, [], ◌∷◌, ◌++◌, length, map, decimal, encode_utf8_all, Option, Some, None, is_some, refl, sym, ap, subst, ◌∙◌, arith, inl, inr}
use Rattle.std.specs.Prelude.{codes, encode_utf8, option_map, option_and_then}
use Rattle.std.specs.List.{list_all, list_any, AllByRecursion, join_with_byte}
use Rattle.std.specs.Str.{bytes_eq}
use Rattle.std.proofs.lemmas.Bool.{and_parts, and_from, or_cases, eqb-true, eq-eqb, ne_eqb, not-true}
use Rattle.std.proofs.lemmas.List.{append-nil, append_assoc}
use Rattle.std.proofs.lemmas.Slice.Eq.{bytes_eq-Decides}
use Rattle.std.proofs.lemmas.Str.{encode_ascii}
use Rattle.ps_base.specs.Cuts.{after_front, before_end}
use Rattle.ps_base.specs.Ids.{id_of}
use Rattle.ps_base.proofs.CutLemmas.{before_end_is}
use Rattle.ps_packed.specs.declared.set.Set.{Set}
use Rattle.ps_packed.specs.Canon.{are_all, nick_text, species_text, gender_text, moves_text, evs_text, ivs_text, shiny_text, level_text}
use Rattle.ps_packed.specs.Forms.{gender, is_letter, in_form}
use Rattle.ps_packed.specs.Packed.{is_nil, gender_of}
use Rattle.ps_packed.proofs.Unique.{Lacks}
use Rattle.ps_export.specs.declared.detail.Key.{Key}
use Rattle.ps_export.specs.declared.detail.Key.TheVariants as keys
use Rattle.ps_export.specs.declared.detail.Detail.{Detail}
use Rattle.ps_export.specs.declared.detail.Detail.TheVariants.{Said, Move, Ignored}
use Rattle.ps_export.specs.declared.draft.Draft.{Draft}
use Rattle.ps_export.specs.declared.first.Names.{Names}
use Rattle.ps_export.specs.Lines.{parts, clean, is_sign, bare}
use Rattle.ps_export.specs.Details.{said, evs_after, ivs_after, nature_in, unkeyed, numbered, keyed, begins_with_dash, detail_of, is_move_name, move_named, if_keyed}
use Rattle.ps_export.specs.Spreads.{number_in, stat_named, pairs_in, numbers_of}
use Rattle.ps_export.specs.Sheets.{drafted, is_gender, species_alone, both_names, with_group, names_of, draft_with, names_in, first_of, draft_of}
use Rattle.ps_export.specs.Written.{is_plain, is_nature, are_names, names_text, gender_part, item_part, first_line, stats_text, or_zero}
use Rattle.ps_export.proofs.Spelling.{parts_none, parts_append, two_parts, lacks_append, Printed, printed_append, printed_lacks, EndsIn, ends_append, clean_is, IsPlain, signs_lack, bare_is, no_key}
use Rattle.ps_export.proofs.StatLemmas.{number_read, decimal_printed, decimal_ends, AreSix, StatsRead, stats_read}
use Rattle.ps_export.proofs.SetFacts.{IsMoveId, IsKept}

-- a line that means itself and says this
pub record Says (line : List ℕ) (detail : Detail) : Type 0 where
  pub cleaned : clean line ≡ line
  pub some : is_nil line ≡ false
  pub says : detail_of line ≡ Some detail
  pub printed : Printed line

-- ---- words

pub ability_says : (text : List ℕ) → is_nil text ≡ false → Printed text → IsPlain text → Says (codes "Ability: " ++ text) (Said keys.Ability text)
unfolding detail_of keyed
ability_says text some printed plain =
    let p = printed_append (codes "Ability: ") text refl printed in record {
      cleaned = clean_is (codes "Ability: " ++ text) p (ends_append (codes "Ability: ") text (plain.ends some));
      some = refl;
      says = ap (said keys.Ability) (bare_is text some plain.signs);
      printed = p;
    }

pub misc_says : (text : List ℕ) → is_nil text ≡ false → Printed text → IsPlain text → Says (codes "Misc: " ++ text) (Said keys.Misc text)
unfolding detail_of keyed
misc_says text some printed plain =
    let p = printed_append (codes "Misc: ") text refl printed in record {
      cleaned = clean_is (codes "Misc: " ++ text) p (ends_append (codes "Misc: ") text (plain.ends some));
      some = refl;
      says = ap (said keys.Misc) (bare_is text some plain.signs);
      printed = p;
    }

pub shiny_says : Says (codes "Shiny: Yes") (Said keys.Shiny (codes "S"))
unfolding detail_of keyed clean
shiny_says = record { cleaned = refl; some = refl; says = refl; printed = refl }

level_ends : (level : ℕ) → level < 256 → EndsIn (codes "Level: " ++ decimal level)
level_ends level lt = ends_append (codes "Level: ") (decimal level) (decimal_ends level lt)

pub level_says : (level : ℕ) → level < 256 → Says (codes "Level: " ++ decimal level) (Said keys.Level (level_text level))
unfolding detail_of keyed numbered
level_says level lt =
    let p = printed_append (codes "Level: ") (decimal level) refl (decimal_printed level lt).0 in record {
      cleaned = clean_is (codes "Level: " ++ decimal level) p (level_ends level lt);
      some = refl;
      says = ap (λ (n : Option ℕ). said keys.Level (option_map level_text n)) (number_read level lt);
      printed = p;
    }

-- ---- the nature

dash_kept : (nature end : List ℕ) → is_nil nature ≡ false → begins_with_dash nature ≡ false → begins_with_dash (nature ++ end) ≡ false
dash_kept [] end some e = absurd cc
dash_kept (b ∷ nature) end some e = e

any_append : (a b : List ℕ) → list_any (λ x. x == 58) a ≡ false → list_any (λ x. x == 58) b ≡ false → list_any (λ x. x == 58) (a ++ b) ≡ false
any_append [] b e h = h
any_append (x ∷ a) b e h = by_first (eqb x 58) refl e (λ k. any_append a b k h)
  where
    by_first : (t : Bool) → eqb x 58 ≡ t → (eqb x 58 || list_any (λ y. y == 58) a) ≡ false → (list_any (λ y. y == 58) a ≡ false → list_any (λ y. y == 58) (a ++ b) ≡ false) → (eqb x 58 || list_any (λ y. y == 58) (a ++ b)) ≡ false
    by_first true z k more = absurd (let wrong : true ≡ false = ap (λ (u : Bool). u || list_any (λ y. y == 58) a) (sym z) ∙ k in cc)
    by_first false z k more = rw z (more (ap (λ (u : Bool). u || list_any (λ y. y == 58) a) (sym z) ∙ k))

some_append : (a b : List ℕ) → is_nil a ≡ false → is_nil (a ++ b) ≡ false
some_append [] b e = absurd cc
some_append (x ∷ a) b e = refl

nature_read : (nature : List ℕ) → is_nil nature ≡ false → IsPlain nature → is_nature nature ≡ true → detail_of (nature ++ codes " Nature") ≡ Some (Said keys.Nature nature)
unfolding detail_of keyed numbered unkeyed is_nature
nature_read nature some plain is =
    let line : List ℕ = nature ++ codes " Nature" in
    let a = and_parts _ _ is in
    let colon : list_any (λ b. b == 58) line ≡ false = any_append nature (codes " Nature") (not-true _ a.0) refl in
    let dash : begins_with_dash line ≡ false = dash_kept nature (codes " Nature") some (not-true _ a.1) in
    rw (dash, no_key (codes "Ability") line colon, no_key (codes "Shiny") line colon, no_key (codes "Misc") line colon, no_key (codes "EVs") line colon, no_key (codes "IVs") line colon, no_key (codes "Level") line colon, colon, before_end_is line (codes " Nature") nature refl)
    (ap (said keys.Nature) (bare_is nature some plain.signs))

pub nature_says : (nature : List ℕ) → is_nil nature ≡ false → Printed nature → IsPlain nature → is_nature nature ≡ true → Says (nature ++ codes " Nature") (Said keys.Nature nature)
nature_says nature some printed plain is =
    let p = printed_append nature (codes " Nature") printed refl in record {
      cleaned = clean_is (nature ++ codes " Nature") p (ends_append nature (codes " Nature") (record { front = codes " Natur"; last = 101; is = refl; other = λ z. omega (arith, z) }));
      some = some_append nature (codes " Nature") some;
      says = nature_read nature some plain is;
      printed = p;
    }

-- ---- EVs and IVs

evs_key : (rest : List ℕ) → detail_of (codes "EVs:" ++ rest) ≡ said keys.Evs (evs_after rest)
unfolding detail_of keyed numbered
evs_key rest = refl

ivs_key : (rest : List ℕ) → detail_of (codes "IVs:" ++ rest) ≡ said keys.Ivs (ivs_after rest)
unfolding detail_of keyed numbered
ivs_key rest = refl

none_read : (numbers : List ℕ) (pairs : List (ℕ × ℕ)) → pairs ≡ [] → numbers_of 0 pairs ≡ numbers → evs_after (codes " 0 HP") ≡ Some (evs_text numbers)
unfolding numbers_of pairs_in number_in stat_named
none_read numbers pairs none are = ap (λ (ns : List ℕ). Some (evs_text ns)) (ap (numbers_of 0) (sym none) ∙ are)

zero_or : (numbers text : List ℕ) → StatsRead 0 numbers text → evs_after (or_zero text) ≡ Some (evs_text numbers)
zero_or numbers [] s = none_read numbers s.pairs (s.none refl) s.are
zero_or numbers (b ∷ text) s = ap (option_map (λ pairs. evs_text (numbers_of 0 pairs))) (s.read refl) ∙ ap (λ (ns : List ℕ). Some (evs_text ns)) s.are

zero_ends : (text : List ℕ) → (is_nil text ≡ false → EndsIn text) → EndsIn (or_zero text)
zero_ends [] e = record { front = codes " 0 H"; last = 80; is = refl; other = λ z. omega (arith, z) }
zero_ends (b ∷ text) e = e refl

zero_printed : (text : List ℕ) → Printed text → Printed (or_zero text)
zero_printed [] e = refl
zero_printed (b ∷ text) e = e

pub evs_says : (evs : List ℕ) → AreSix evs → Says (codes "EVs:" ++ or_zero (stats_text 0 evs)) (Said keys.Evs (evs_text evs))
evs_says evs six =
    let s = stats_read 0 evs six in
    let text : List ℕ = stats_text 0 evs in
    let p = printed_append (codes "EVs:") (or_zero text) refl (zero_printed text s.printed) in record {
      cleaned = clean_is (codes "EVs:" ++ or_zero text) p (ends_append (codes "EVs:") (or_zero text) (zero_ends text s.ends));
      some = refl;
      says = evs_key (or_zero text) ∙ ap (said keys.Evs) (zero_or evs text s);
      printed = p;
    }

all_31 : (ivs : List ℕ) (six : AreSix ivs) (pairs : List (ℕ × ℕ)) → pairs ≡ [] → numbers_of 31 pairs ≡ ivs → are_all 31 ivs ≡ true
unfolding numbers_of
all_31 ivs six pairs none are = ap (are_all 31) (sym are ∙ ap (numbers_of 31) none)

stats_some : (text : List ℕ) (P : Type 0) → (is_nil text ≡ true → P) → (is_nil text ≡ false) ⊎ P
stats_some [] P h = inr (h refl)
stats_some (b ∷ text) P h = inl refl

pub ivs_says : (ivs : List ℕ) → AreSix ivs → are_all 31 ivs ≡ false → Says (codes "IVs:" ++ stats_text 31 ivs) (Said keys.Ivs (ivs_text ivs))
ivs_says ivs six other =
    let s = stats_read 31 ivs six in
    let text : List ℕ = stats_text 31 ivs in
    let p = printed_append (codes "IVs:") text refl s.printed in
    elim (stats_some text (are_all 31 ivs ≡ true) (λ e. all_31 ivs six s.pairs (s.none e) s.are)) [
      | inl some ↦ record {
        cleaned = clean_is (codes "IVs:" ++ text) p (ends_append (codes "IVs:") text (s.ends some));
        some = refl;
        says = ivs_key text ∙ ap (said keys.Ivs) (ap (option_map (λ pairs. ivs_text (numbers_of 31 pairs))) (s.read some) ∙ ap (λ (ns : List ℕ). Some (ivs_text ns)) s.are);
        printed = p;
      }
      | inr all ↦ absurd (let wrong : true ≡ false = sym all ∙ other in cc)
    ]

-- ---- moves

pub move_says : (id : List ℕ) → IsMoveId id → Says (codes "- " ++ id) (Move id)
unfolding detail_of
move_says id is =
    let p = printed_append (codes "- ") id refl is.printed in record {
      cleaned = clean_is (codes "- " ++ id) p (ends_append (codes "- ") id is.ends);
      some = refl;
      says = rw is.name (ap (λ (u : List ℕ). Some (Move u)) is.same);
      printed = p;
    }
