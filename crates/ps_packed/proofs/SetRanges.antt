-- The sets of a team have their numbers in range.
use Rattle.std.proofs.Common.{◌≡◌, ℕ, ◌<◌, ◌≤◌, true, false, List, [], ◌∷◌, length, map, All, sym, ap, subst, inl, inr, arith}
use Rattle.std.specs.List.{list_all, AllByRecursion}
use Rattle.std.proofs.lemmas.List.{length-map}
use Rattle.std.proofs.lemmas.List.Elements.{All-from_recursion}
use Rattle.std.proofs.lemmas.Bool.{and_parts}
use Rattle.ps_packed.specs.declared.set.Set.{Set}
use Rattle.ps_packed.specs.Forms.{is_number, parts, ivs, level, in_form, form_of}
use Rattle.ps_packed.specs.Packed.{field, iv_of, ivs_of, level_of, set_of, AreFieldTexts, HasText}
use Rattle.ps_packed.specs.Ranges.{HasRanges}
use Rattle.ps_packed.proofs.LevelLaws.{level_facts, number_facts}
use Rattle.ps_packed.proofs.SpreadLaws.{spread_cases, numbers_facts}
use Rattle.ps_packed.proofs.MoveLaws.{moves_facts}
use Rattle.ps_packed.proofs.CanonMoves.{ids_few}
use Rattle.ps_packed.proofs.Reading.{from_field}
use Rattle.ps_packed.proofs.Unique.{fields_long}

level_range : (w : List ℕ) → in_form level w ≡ true → (1 ≤ level_of w) × (level_of w ≤ 100)
unfolding in_form
level_range [] e = (omega arith, omega arith)
level_range (c ∷ w) e = let f = level_facts c w e in (f.some, f.number.small)

iv_small : (p : List ℕ) → is_number 31 p ≡ true → iv_of p ≤ 31
iv_small [] e = omega arith
iv_small (c ∷ p) e = (number_facts 31 (c ∷ p) e).small

each_small : (ps : List (List ℕ)) → list_all (is_number 31) ps ≡ true → AllByRecursion (λ n. n ≤ 31) (map iv_of ps)
each_small [] e = tt
each_small (p ∷ ps) e = let a = and_parts (is_number 31 p) (list_all (is_number 31) ps) e in (iv_small p a.0, each_small ps a.1)

ivs_range : (w : List ℕ) → in_form ivs w ≡ true → AllByRecursion (λ n. n ≤ 31) (ivs_of w)
unfolding in_form
ivs_range [] e = (omega arith, (omega arith, (omega arith, (omega arith, (omega arith, (omega arith, tt))))))
ivs_range (c ∷ w) e = elim (spread_cases false 31 c w e) [
  | inl h ↦ absurd (let wrong : false ≡ true = h.0 in cc)
  | inr h ↦ each_small (parts (c ∷ w)) (numbers_facts 31 (c ∷ w) h.0).each
]

field_texts_ranges : (ws : List (List ℕ)) → AreFieldTexts ws → HasRanges (set_of ws)
field_texts_ranges ws r =
    let long : length ws ≡ 12 = omega (arith, fields_long 0 ws r.0) in
    let fits : (k : ℕ) → k < 12 → in_form (form_of k) (field ws k) ≡ true = λ k lt. from_field 0 ws k k r.0 (omega (arith, long, lt)) (omega arith) in
    let l = level_range (field ws 10) (fits 10 (omega arith)) in
    record {
      level_low = l.0;
      level_high = l.1;
      few_moves = ids_few (field ws 4) (moves_facts (field ws 4) (fits 4 (omega arith)));
      ivs_small = All-from_recursion (λ n. n ≤ 31) (ivs_of (field ws 8)) (ivs_range (field ws 8) (fits 8 (omega arith)));
    }

team_texts_ranges : (team_texts : List (List (List ℕ))) → AllByRecursion AreFieldTexts team_texts → AllByRecursion HasRanges (map set_of team_texts)
team_texts_ranges [] h = tt
team_texts_ranges (r ∷ team_texts) h = (field_texts_ranges r h.0, team_texts_ranges team_texts h.1)

pub team_ranges : (team : List Set) → HasText team → All HasRanges team
team_ranges team (text, is) = subst (λ (t : List Set). All HasRanges t) (sym is.1.sets) (All-from_recursion HasRanges (map set_of is.0) (team_texts_ranges is.0 is.1.free.fit))

pub team_some : (team : List Set) → HasText team → 0 < length team
team_some team (text, is) = omega (arith, ap length is.1.sets, length-map is.0 set_of, is.1.free.some)

pub team_few : (team : List Set) → HasText team → length team ≤ 6
team_few team (text, is) = omega (arith, ap length is.1.sets, length-map is.0 set_of, is.1.free.few)

pub ruleset team_facts = (team_some, team_few, team_ranges)
