-- A team's written text spells the team.
use Rattle.std.proofs.Common.{◌≡◌, ◌≢◌, ℕ, suc, ◌+◌, ◌<◌, ◌≤◌, ◌==◌, ◌||◌, ◌&&◌, ◌⊎◌, Bool, true, false, not, cond, eqb, List, [], ◌∷◌, ◌++◌, length, map, Option, Some, None, is_some, refl, sym, ap, subst, ◌∙◌, arith, inl, inr}
use Rattle.std.specs.Prelude.{codes, option_and_then, chars, decimal}
use Rattle.std.specs.List.{list_all, AllByRecursion, join_with_byte}
use Rattle.std.proofs.lemmas.Bool.{and_parts, and_from, lt-ltb}
use Rattle.std.proofs.lemmas.List.{append-nil, append_assoc}
use Rattle.ps_packed.specs.declared.set.Set.{Set}
use Rattle.ps_packed.specs.Canon.{are_all, nick_text, species_text, gender_text, moves_text, evs_text, ivs_text, shiny_text, level_text, set_fields, canon}
use Rattle.ps_packed.specs.Packed.{is_nil, IsTeam, HasText, team_text}
use Rattle.ps_packed.proofs.CanonTeams.{canon_is}
use Rattle.ps_packed.proofs.SetRanges.{team_some, team_few}
use Rattle.ps_packed.proofs.Unique.{Lacks, split_join}
use Rattle.ps_export.specs.declared.detail.Key.TheVariants as keys
use Rattle.ps_export.specs.declared.detail.Detail.{Detail}
use Rattle.ps_export.specs.declared.detail.Detail.TheVariants.{Said, Move, Ignored}
use Rattle.ps_export.specs.declared.draft.Draft.{Draft}
use Rattle.ps_export.specs.declared.sheet.Sheet.{Sheet}
use Rattle.ps_export.specs.Lines.{parts, lines, clean}
use Rattle.ps_export.specs.Details.{detail_of}
use Rattle.ps_export.specs.Sheets.{draft_of, drafted, say, with_move, with_detail, detailed, spoken, fields_of, set_text, joined_sets, start, packed_with, opened, gone_on, with_clean, with_line, with_lines}
use Rattle.ps_export.specs.Export.{IsTeamOf, IsExport}
use Rattle.ps_export.specs.Written.{is_nature, is_writable, first_unwritable, first_line, words_line, level_line, shiny_line, nature_line, stats_text, or_zero, evs_line, ivs_line, move_line, set_lines, block, export_text}
use Rattle.ps_export.proofs.ReadLemmas.{same_sheet}
use Rattle.ps_export.proofs.Spelling.{parts_append, lacks_append, Printed, printed_lacks, clean_is, IsPlain}
use Rattle.ps_export.proofs.StatLemmas.{AreSix}
use Rattle.ps_export.proofs.SetFacts.{IsMoveId, IsKept, team_kept}
use Rattle.ps_export.proofs.LineLemmas.{Says, ability_says, misc_says, shiny_says, level_says, nature_says, evs_says, ivs_says, move_says}
use Rattle.ps_export.proofs.FirstLemmas.{FirstLine, IsSafe, safe, first_draft, first_says}

-- ---- lines after lines

abbrev Reads : Sheet → List (List ℕ) → Sheet → Type 0
Reads old lines new = with_lines old lines ≡ Some new

next_step : (found : Option Sheet) (ls ms : List (List ℕ)) (y : Sheet) → option_and_then (λ next. with_lines next ls) found ≡ Some y → ((x : Sheet) → Reads x ls y → with_lines x (ls ++ ms) ≡ with_lines y ms) → option_and_then (λ next. with_lines next (ls ++ ms)) found ≡ with_lines y ms
next_step None ls ms y e h = absurd cc
next_step (Some x) ls ms y e h = h x e

lines_append : (x : Sheet) (ls ms : List (List ℕ)) (y : Sheet) → Reads x ls y → with_lines x (ls ++ ms) ≡ with_lines y ms
lines_append x [] ms y e = ap (λ (s : Sheet). with_lines s ms) (same_sheet x y e)
lines_append x (l ∷ ls) ms y e = next_step (with_line x l) ls ms y e (λ z h. lines_append z ls ms y h)

more : (x : Sheet) (ls ms : List (List ℕ)) (y z : Sheet) → Reads x ls y → Reads y ms z → Reads x (ls ++ ms) z
more x ls ms y z e h = lines_append x ls ms y e ∙ h

-- ---- one line

-- the sheet in a set
abbrev in_set : List ℕ → ℕ → Draft → Sheet
in_set before sets draft = record { before = before; sets = sets; draft = Some draft }

-- the sheet between sets
abbrev between : List ℕ → ℕ → Sheet
between before sets = record { before = before; sets = sets; draft = None }

in_line : (before : List ℕ) (sets : ℕ) (d : Draft) (line : List ℕ) (found : Draft) (detail : Detail) → is_nil line ≡ false → detail_of line ≡ Some detail → with_detail d detail ≡ Some found → with_clean before sets (Some d) line ≡ Some (in_set before sets found)
in_line before sets d [] found detail some e h = absurd cc
in_line before sets d (b ∷ line) found detail some e h = rw (e, h) refl

line_reads : (before : List ℕ) (sets : ℕ) (d : Draft) (line : List ℕ) (found : Draft) (detail : Detail) → Says line detail → with_detail d detail ≡ Some found → Reads (in_set before sets d) (line ∷ []) (in_set before sets found)
unfolding with_line
line_reads before sets d line found detail s h = rw (s.cleaned, in_line before sets d line found detail s.some s.says h) refl

-- ---- the lines of a set

-- the field's text, if it is some
abbrev opt : List ℕ → Option (List ℕ)
opt text = cond (is_nil text) None (Some text)

spoken_opt : (text : List ℕ) → spoken (opt text) ≡ text
spoken_opt [] = refl
spoken_opt (b ∷ text) = refl

ability_reads : (before : List ℕ) (sets : ℕ) (d : Draft) (text : List ℕ) → is_some d.ability ≡ false → d.ability ≡ None → Printed text → IsPlain text → Reads (in_set before sets d) (words_line (codes "Ability: ") text) (in_set before sets (record d { ability = opt text }))
unfolding words_line say
ability_reads before sets d [] e n p f = rw (← n) refl
ability_reads before sets d (b ∷ text) e n p f = line_reads before sets d (codes "Ability: " ++ b ∷ text) (record d { ability = Some (b ∷ text) }) (Said keys.Ability (b ∷ text)) (ability_says (b ∷ text) refl p f) (rw e refl)

misc_reads : (before : List ℕ) (sets : ℕ) (d : Draft) (text : List ℕ) → is_some d.misc ≡ false → d.misc ≡ None → Printed text → IsPlain text → Reads (in_set before sets d) (words_line (codes "Misc: ") text) (in_set before sets (record d { misc = opt text }))
unfolding words_line say
misc_reads before sets d [] e n p f = rw (← n) refl
misc_reads before sets d (b ∷ text) e n p f = line_reads before sets d (codes "Misc: " ++ b ∷ text) (record d { misc = Some (b ∷ text) }) (Said keys.Misc (b ∷ text)) (misc_says (b ∷ text) refl p f) (rw e refl)

nature_reads : (before : List ℕ) (sets : ℕ) (d : Draft) (text : List ℕ) → is_some d.nature ≡ false → d.nature ≡ None → Printed text → IsPlain text → is_nature text ≡ true → Reads (in_set before sets d) (nature_line text) (in_set before sets (record d { nature = opt text }))
unfolding nature_line say
nature_reads before sets d [] e n p f is = rw (← n) refl
nature_reads before sets d (b ∷ text) e n p f is = line_reads before sets d ((b ∷ text) ++ codes " Nature") (record d { nature = Some (b ∷ text) }) (Said keys.Nature (b ∷ text)) (nature_says (b ∷ text) refl p f is) (rw e refl)

abbrev opt_shiny : Bool → Option (List ℕ)
opt_shiny shiny = cond shiny (Some (codes "S")) None

shiny_reads : (before : List ℕ) (sets : ℕ) (d : Draft) (shiny : Bool) → is_some d.shiny ≡ false → d.shiny ≡ None → Reads (in_set before sets d) (shiny_line shiny) (in_set before sets (record d { shiny = opt_shiny shiny }))
unfolding shiny_line say
shiny_reads before sets d false e n = rw (← n) refl
shiny_reads before sets d true e n = line_reads before sets d (codes "Shiny: Yes") (record d { shiny = Some (codes "S") }) (Said keys.Shiny (codes "S")) shiny_says (rw e refl)

abbrev opt_level : ℕ → Option (List ℕ)
opt_level level = cond (eqb level 100) None (Some (level_text level))

level_reads : (before : List ℕ) (sets : ℕ) (d : Draft) (level : ℕ) → is_some d.level ≡ false → d.level ≡ None → level ≤ 100 → Reads (in_set before sets d) (level_line level) (in_set before sets (record d { level = opt_level level }))
unfolding level_line say
level_reads before sets d level e n le = by_default (eqb level 100) refl
  where
    by_default : (b : Bool) → eqb level 100 ≡ b → Reads (in_set before sets d) (cond (eqb level 100) [] ((codes "Level: " ++ decimal level) ∷ [])) (in_set before sets (record d { level = cond (eqb level 100) None (Some (level_text level)) }))
    by_default true z = rw z (rw (← n) refl)
    by_default false z = rw z (line_reads before sets d (codes "Level: " ++ decimal level) (record d { level = Some (level_text level) }) (Said keys.Level (level_text level)) (level_says level (omega (arith, le))) (rw e refl))

abbrev opt_evs : List ℕ → Option (List ℕ)
opt_evs evs = cond (are_all 252 evs) None (Some (evs_text evs))

evs_reads : (before : List ℕ) (sets : ℕ) (d : Draft) (evs : List ℕ) → is_some d.evs ≡ false → d.evs ≡ None → AreSix evs → Reads (in_set before sets d) (evs_line evs) (in_set before sets (record d { evs = opt_evs evs }))
unfolding evs_line say
evs_reads before sets d evs e n six = by_default (are_all 252 evs) refl
  where
    by_default : (b : Bool) → are_all 252 evs ≡ b → Reads (in_set before sets d) (cond (are_all 252 evs) [] ((codes "EVs:" ++ or_zero (stats_text 0 evs)) ∷ [])) (in_set before sets (record d { evs = cond (are_all 252 evs) None (Some (evs_text evs)) }))
    by_default true z = rw z (rw (← n) refl)
    by_default false z = rw z (line_reads before sets d (codes "EVs:" ++ or_zero (stats_text 0 evs)) (record d { evs = Some (evs_text evs) }) (Said keys.Evs (evs_text evs)) (evs_says evs six) (rw e refl))

abbrev opt_ivs : List ℕ → Option (List ℕ)
opt_ivs ivs = cond (are_all 31 ivs) None (Some (ivs_text ivs))

ivs_reads : (before : List ℕ) (sets : ℕ) (d : Draft) (ivs : List ℕ) → is_some d.ivs ≡ false → d.ivs ≡ None → AreSix ivs → Reads (in_set before sets d) (ivs_line ivs) (in_set before sets (record d { ivs = opt_ivs ivs }))
unfolding ivs_line say
ivs_reads before sets d ivs e n six = by_default (are_all 31 ivs) refl
  where
    by_default : (b : Bool) → are_all 31 ivs ≡ b → Reads (in_set before sets d) (cond (are_all 31 ivs) [] ((codes "IVs:" ++ stats_text 31 ivs) ∷ [])) (in_set before sets (record d { ivs = cond (are_all 31 ivs) None (Some (ivs_text ivs)) }))
    by_default true z = rw z (rw (← n) refl)
    by_default false z = rw z (line_reads before sets d (codes "IVs:" ++ stats_text 31 ivs) (record d { ivs = Some (ivs_text ivs) }) (Said keys.Ivs (ivs_text ivs)) (ivs_says ivs six z) (rw e refl))

spoken_level : (level : ℕ) → spoken (opt_level level) ≡ level_text level
unfolding level_text
spoken_level level = by_default (eqb level 100) refl
  where
    by_default : (b : Bool) → eqb level 100 ≡ b → spoken (cond (eqb level 100) None (Some (cond (eqb level 100) [] (decimal level)))) ≡ cond (eqb level 100) [] (decimal level)
    by_default true z = rw z refl
    by_default false z = rw z refl

spoken_evs : (evs : List ℕ) → spoken (opt_evs evs) ≡ evs_text evs
unfolding evs_text
spoken_evs evs = by_default (are_all 252 evs) refl
  where
    by_default : (b : Bool) → are_all 252 evs ≡ b → spoken (cond (are_all 252 evs) None (Some (evs_text evs))) ≡ evs_text evs
    by_default true z = rw z refl
    by_default false z = rw z refl

spoken_ivs : (ivs : List ℕ) → spoken (opt_ivs ivs) ≡ ivs_text ivs
unfolding ivs_text
spoken_ivs ivs = by_default (are_all 31 ivs) refl
  where
    by_default : (b : Bool) → are_all 31 ivs ≡ b → spoken (cond (are_all 31 ivs) None (Some (ivs_text ivs))) ≡ ivs_text ivs
    by_default true z = rw z refl
    by_default false z = rw z refl

spoken_shiny : (shiny : Bool) → spoken (opt_shiny shiny) ≡ shiny_text shiny
spoken_shiny true = refl
spoken_shiny false = refl

-- ---- moves

abbrev moves_after : List ℕ → List (List ℕ) → List ℕ
moves_after moves [] = moves
moves_after moves (id ∷ ids) = moves_after (with_move moves id) ids

moves_reads : (before : List ℕ) (sets : ℕ) (d : Draft) (ids : List (List ℕ)) → AllByRecursion IsMoveId ids → Reads (in_set before sets d) (map move_line ids) (in_set before sets (record d { moves = moves_after d.moves ids }))
moves_reads before sets d [] h = refl
moves_reads before sets d (id ∷ ids) h =
    more (in_set before sets d) (move_line id ∷ []) (map move_line ids) (in_set before sets (record d { moves = with_move d.moves id })) (in_set before sets (record d { moves = moves_after (with_move d.moves id) ids }))
    (line_reads before sets d (codes "- " ++ id) (record d { moves = with_move d.moves id }) (Move id) (move_says id h.0) refl)
    (moves_reads before sets (record d { moves = with_move d.moves id }) ids h.1)

join_front : (c : ℕ) (a b : List ℕ) (ps : List (List ℕ)) → join_with_byte c ((a ++ c ∷ b) ∷ ps) ≡ a ++ c ∷ join_with_byte c (b ∷ ps)
join_front c a b [] = refl
join_front c a b (p ∷ ps) = append_assoc a (c ∷ b) (c ∷ join_with_byte c (p ∷ ps))

some_front : (a b : List ℕ) (c : ℕ) → is_nil (a ++ c ∷ b) ≡ false
some_front [] b c = refl
some_front (x ∷ a) b c = refl

moves_joined : (m : List ℕ) (ids : List (List ℕ)) → is_nil m ≡ false → moves_after m ids ≡ join_with_byte 44 (m ∷ ids)
unfolding with_move
moves_joined m [] some = refl
moves_joined m (id ∷ ids) some = rw some (moves_joined (m ++ 44 ∷ id) ids (some_front m id 44) ∙ join_front 44 m id ids)

moves_said : (ids : List (List ℕ)) → AllByRecursion IsMoveId ids → moves_after [] ids ≡ moves_text ids
unfolding with_move
moves_said [] h = refl
moves_said (id ∷ ids) h = moves_joined id ids h.0.some

-- ---- a set

-- the draft of all its lines
abbrev whole : Set → Draft
whole s = record {
  nick = nick_text s.nick;
  species = species_text s.nick s.species;
  item = s.item;
  gender = gender_text s.gender;
  moves = moves_after [] s.moves;
  ability = opt s.ability;
  nature = opt s.nature;
  evs = opt_evs s.evs;
  ivs = opt_ivs s.ivs;
  shiny = opt_shiny s.shiny;
  level = opt_level s.level;
  misc = opt s.misc;
}

whole_text : (s : Set) → AllByRecursion IsMoveId s.moves → set_text (whole s) ≡ join_with_byte 124 (set_fields s)
unfolding set_text
whole_text s h = rw (spoken_opt s.ability, moves_said s.moves h, spoken_opt s.nature, spoken_evs s.evs, spoken_ivs s.ivs, spoken_shiny s.shiny, spoken_level s.level, spoken_opt s.misc) refl

open_line : (before : List ℕ) (sets : ℕ) (line : List ℕ) (d : Draft) → sets < 6 → is_nil line ≡ false → draft_of line ≡ Some d → with_clean before sets None line ≡ Some (in_set before (sets + 1) d)
open_line before sets [] d lt some e = absurd cc
open_line before sets (b ∷ line) d lt some e = rw (e, lt-ltb sets 6 lt) refl

first_reads : (before : List ℕ) (sets : ℕ) (line : List ℕ) (d : Draft) → sets < 6 → FirstLine line d → Reads (between before sets) (line ∷ []) (in_set before (sets + 1) d)
unfolding with_line
first_reads before sets line d lt f = rw (clean_is line f.printed f.ends, open_line before sets line d lt f.some f.read) refl

set_reads : (before : List ℕ) (sets : ℕ) (s : Set) → sets < 6 → IsKept s → IsSafe s → Reads (between before sets) (set_lines s) (in_set before (sets + 1) (whole s))
set_reads before sets s lt k f =
    let n : ℕ = sets + 1 in
    let d0 : Draft = first_draft s in
    let d1 : Draft = record d0 { ability = opt s.ability } in
    let d2 : Draft = record d1 { level = opt_level s.level } in
    let d3 : Draft = record d2 { shiny = opt_shiny s.shiny } in
    let d4 : Draft = record d3 { misc = opt s.misc } in
    let d5 : Draft = record d4 { nature = opt s.nature } in
    let d6 : Draft = record d5 { evs = opt_evs s.evs } in
    let d7 : Draft = record d6 { ivs = opt_ivs s.ivs } in
    let x : Sheet = between before sets in
    let l0 : List (List ℕ) = first_line s ∷ [] in
    let l1 : List (List ℕ) = l0 ++ words_line (codes "Ability: ") s.ability in
    let l2 : List (List ℕ) = l1 ++ level_line s.level in
    let l3 : List (List ℕ) = l2 ++ shiny_line s.shiny in
    let l4 : List (List ℕ) = l3 ++ words_line (codes "Misc: ") s.misc in
    let l5 : List (List ℕ) = l4 ++ nature_line s.nature in
    let l6 : List (List ℕ) = l5 ++ evs_line s.evs in
    let l7 : List (List ℕ) = l6 ++ ivs_line s.ivs in
    let r0 : Reads x l0 (in_set before n d0) = first_reads before sets (first_line s) d0 lt (first_says s k f) in
    let r1 : Reads x l1 (in_set before n d1) = more x l0 (words_line (codes "Ability: ") s.ability) (in_set before n d0) (in_set before n d1) r0 (ability_reads before n d0 s.ability refl refl k.ability f.ability) in
    let r2 : Reads x l2 (in_set before n d2) = more x l1 (level_line s.level) (in_set before n d1) (in_set before n d2) r1 (level_reads before n d1 s.level refl refl k.level) in
    let r3 : Reads x l3 (in_set before n d3) = more x l2 (shiny_line s.shiny) (in_set before n d2) (in_set before n d3) r2 (shiny_reads before n d2 s.shiny refl refl) in
    let r4 : Reads x l4 (in_set before n d4) = more x l3 (words_line (codes "Misc: ") s.misc) (in_set before n d3) (in_set before n d4) r3 (misc_reads before n d3 s.misc refl refl k.misc f.misc) in
    let r5 : Reads x l5 (in_set before n d5) = more x l4 (nature_line s.nature) (in_set before n d4) (in_set before n d5) r4 (nature_reads before n d4 s.nature refl refl k.nature f.nature f.nature_is) in
    let r6 : Reads x l6 (in_set before n d6) = more x l5 (evs_line s.evs) (in_set before n d5) (in_set before n d6) r5 (evs_reads before n d5 s.evs refl refl k.evs) in
    let r7 : Reads x l7 (in_set before n d7) = more x l6 (ivs_line s.ivs) (in_set before n d6) (in_set before n d7) r6 (ivs_reads before n d6 s.ivs refl refl k.ivs) in
    more x l7 (map move_line s.moves) (in_set before n d7) (in_set before n (whole s)) r7 (moves_reads before n d7 s.moves k.moves)

empty_reads : (before : List ℕ) (sets : ℕ) (d : Draft) → Reads (in_set before sets d) ([] ∷ []) (between (joined_sets before (set_text d)) sets)
unfolding with_line clean
empty_reads before sets d = refl

block_reads : (before : List ℕ) (sets : ℕ) (s : Set) → sets < 6 → IsKept s → IsSafe s → Reads (between before sets) (set_lines s ++ [] ∷ []) (between (joined_sets before (join_with_byte 124 (set_fields s))) (sets + 1))
block_reads before sets s lt k f = rw (← whole_text s k.moves) (more (between before sets) (set_lines s) ([] ∷ []) (in_set before (sets + 1) (whole s)) (between (joined_sets before (set_text (whole s))) (sets + 1)) (set_reads before sets s lt k f) (empty_reads before (sets + 1) (whole s)))

-- ---- the text's lines

-- those below the first
abbrev rest_lines : Set → List (List ℕ)
rest_lines s = ([] ++ words_line (codes "Ability: ") s.ability ++ level_line s.level ++ shiny_line s.shiny ++ words_line (codes "Misc: ") s.misc ++ nature_line s.nature ++ evs_line s.evs ++ ivs_line s.ivs ++ map move_line s.moves) ++ [] ∷ []

abbrev Clear : List (List ℕ) → Type 0
Clear xs = AllByRecursion Printed xs

clear_append : (xs ys : List (List ℕ)) → Clear xs → Clear ys → Clear (xs ++ ys)
clear_append [] ys h g = g
clear_append (x ∷ xs) ys h g = (h.0, clear_append xs ys h.1 g)

ability_clear : (text : List ℕ) → Printed text → IsPlain text → Clear (words_line (codes "Ability: ") text)
unfolding words_line
ability_clear [] p f = tt
ability_clear (b ∷ text) p f = ((ability_says (b ∷ text) refl p f).printed, tt)

misc_clear : (text : List ℕ) → Printed text → IsPlain text → Clear (words_line (codes "Misc: ") text)
unfolding words_line
misc_clear [] p f = tt
misc_clear (b ∷ text) p f = ((misc_says (b ∷ text) refl p f).printed, tt)

nature_clear : (text : List ℕ) → Printed text → IsPlain text → is_nature text ≡ true → Clear (nature_line text)
unfolding nature_line
nature_clear [] p f is = tt
nature_clear (b ∷ text) p f is = ((nature_says (b ∷ text) refl p f is).printed, tt)

shiny_clear : (shiny : Bool) → Clear (shiny_line shiny)
unfolding shiny_line
shiny_clear true = (refl, tt)
shiny_clear false = tt

one_clear : (b : Bool) (line : List ℕ) → (b ≡ false → Printed line) → Clear (cond b [] (line ∷ []))
one_clear true line h = tt
one_clear false line h = (h refl, tt)

level_clear : (level : ℕ) → level ≤ 100 → Clear (level_line level)
unfolding level_line
level_clear level le = one_clear (eqb level 100) _ (λ e. (level_says level (omega (arith, le))).printed)

evs_clear : (evs : List ℕ) → AreSix evs → Clear (evs_line evs)
unfolding evs_line
evs_clear evs six = one_clear (are_all 252 evs) _ (λ e. (evs_says evs six).printed)

ivs_clear : (ivs : List ℕ) → AreSix ivs → Clear (ivs_line ivs)
unfolding ivs_line
ivs_clear ivs six = one_clear (are_all 31 ivs) _ (λ e. (ivs_says ivs six e).printed)

moves_clear : (ids : List (List ℕ)) → AllByRecursion IsMoveId ids → Clear (map move_line ids)
moves_clear [] h = tt
moves_clear (id ∷ ids) h = ((move_says id h.0).printed, moves_clear ids h.1)

lines_printed : (s : Set) → IsKept s → IsSafe s → Clear (set_lines s)
lines_printed s k f =
    let l0 : List (List ℕ) = first_line s ∷ [] in
    let l1 : List (List ℕ) = l0 ++ words_line (codes "Ability: ") s.ability in
    let l2 : List (List ℕ) = l1 ++ level_line s.level in
    let l3 : List (List ℕ) = l2 ++ shiny_line s.shiny in
    let l4 : List (List ℕ) = l3 ++ words_line (codes "Misc: ") s.misc in
    let l5 : List (List ℕ) = l4 ++ nature_line s.nature in
    let l6 : List (List ℕ) = l5 ++ evs_line s.evs in
    let l7 : List (List ℕ) = l6 ++ ivs_line s.ivs in
    let c0 : Clear l0 = ((first_says s k f).printed, tt) in
    let c1 : Clear l1 = clear_append l0 (words_line (codes "Ability: ") s.ability) c0 (ability_clear s.ability k.ability f.ability) in
    let c2 : Clear l2 = clear_append l1 (level_line s.level) c1 (level_clear s.level k.level) in
    let c3 : Clear l3 = clear_append l2 (shiny_line s.shiny) c2 (shiny_clear s.shiny) in
    let c4 : Clear l4 = clear_append l3 (words_line (codes "Misc: ") s.misc) c3 (misc_clear s.misc k.misc f.misc) in
    let c5 : Clear l5 = clear_append l4 (nature_line s.nature) c4 (nature_clear s.nature k.nature f.nature f.nature_is) in
    let c6 : Clear l6 = clear_append l5 (evs_line s.evs) c5 (evs_clear s.evs k.evs) in
    let c7 : Clear l7 = clear_append l6 (ivs_line s.ivs) c6 (ivs_clear s.ivs k.ivs) in
    clear_append l7 (map move_line s.moves) c7 (moves_clear s.moves k.moves)

lines_lack : (s : Set) → IsKept s → IsSafe s → AllByRecursion (Lacks 10) (set_lines s ++ [] ∷ [])
lines_lack s k f = all_append (set_lines s) ([] ∷ []) (lines_printed s k f) (refl, tt)
  where
    all_append : (xs ys : List (List ℕ)) → AllByRecursion Printed xs → AllByRecursion (Lacks 10) ys → AllByRecursion (Lacks 10) (xs ++ ys)
    all_append [] ys h g = g
    all_append (x ∷ xs) ys h g = (printed_lacks 10 x (omega arith) h.0, all_append xs ys h.1 g)

block_lines : (s : Set) → IsKept s → IsSafe s → lines (block s) ≡ set_lines s ++ [] ∷ []
unfolding block
block_lines s k f = split_join 10 (first_line s) (rest_lines s) (lines_lack s k f)

-- the sheet after so many sets
abbrev packed_after : List ℕ → List (List ℕ) → List ℕ
packed_after before [] = before
packed_after before (set ∷ sets) = packed_after (joined_sets before set) sets

abbrev set_texts : List Set → List (List ℕ)
set_texts team = map (join_with_byte 124) (map set_fields team)

abbrev AreGood : List Set → Type 0
AreGood [] = Unit {0}
AreGood (s ∷ team) = (IsKept s × IsSafe s) × AreGood team

team_reads : (before : List ℕ) (sets : ℕ) (s : Set) (team : List Set) → sets + length (s ∷ team) ≤ 6 → AreGood (s ∷ team) → with_lines (between before sets) (lines (join_with_byte 10 (block s ∷ map block team))) ≡ Some (between (packed_after before (set_texts (s ∷ team))) (sets + length (s ∷ team)))
team_reads before sets s [] le g = ap (with_lines (between before sets)) (block_lines s g.0.0 g.0.1) ∙ block_reads before sets s (omega (arith, le)) g.0.0 g.0.1
team_reads before sets s (t ∷ team) le g =
    let rest : List ℕ = join_with_byte 10 (block t ∷ map block team) in
    let here : List ℕ = joined_sets before (join_with_byte 124 (set_fields s)) in
    let split : lines (join_with_byte 10 (block s ∷ block t ∷ map block team)) ≡ (set_lines s ++ [] ∷ []) ++ lines rest = parts_append 10 (block s) rest ∙ ap (λ (u : List (List ℕ)). u ++ lines rest) (block_lines s g.0.0 g.0.1) in
    let count : (sets + 1) + length (t ∷ team) ≡ sets + length (s ∷ t ∷ team) = omega arith in
    ap (with_lines (between before sets)) split
    ∙ lines_append (between before sets) (set_lines s ++ [] ∷ []) (lines rest) (between here (sets + 1)) (block_reads before sets s (omega (arith, le)) g.0.0 g.0.1)
    ∙ team_reads here (sets + 1) t team (omega (arith, le)) g.1
    ∙ ap (λ (n : ℕ). Some (between (packed_after here (set_texts (t ∷ team))) n)) count

packed_joined : (before : List ℕ) (sets : List (List ℕ)) → is_nil before ≡ false → packed_after before sets ≡ join_with_byte 93 (before ∷ sets)
unfolding joined_sets
packed_joined before [] some = refl
packed_joined before (set ∷ sets) some = rw some (packed_joined (before ++ 93 ∷ set) sets (some_front before set 93) ∙ join_front 93 before set sets)

set_some : (s : Set) → is_nil (join_with_byte 124 (set_fields s)) ≡ false
set_some s = some_front (nick_text s.nick) _ 124

packed_whole : (s : Set) (team : List Set) → packed_after [] (set_texts (s ∷ team)) ≡ canon (s ∷ team)
unfolding joined_sets
packed_whole s team = packed_joined (join_with_byte 124 (set_fields s)) (set_texts team) (set_some s)

first_step : (number : ℕ) (s : Set) (team : List Set) (b : Bool) → is_writable s ≡ b → cond (is_writable s) (first_unwritable (number + 1) team) (Some number) ≡ None → (is_writable s ≡ true) × (first_unwritable (number + 1) team ≡ None)
first_step number s team true e h = (e, sym (rw e refl) ∙ h)
first_step number s team false e h = absurd (let wrong : Some number ≡ None = sym (rw e refl) ∙ h in cc)

all_good : (number : ℕ) (team : List Set) → AllByRecursion IsKept team → first_unwritable number team ≡ None → AreGood team
all_good number [] k e = tt
all_good number (s ∷ team) k e = let a = first_step number s team (is_writable s) refl e in ((k.0, safe s a.0), all_good (number + 1) team k.1 a.1)

zero_plus : (n : ℕ) → 0 + n ≡ n
zero_plus n = omega arith

spelled : (s : Set) (team : List Set) → length (s ∷ team) ≤ 6 → AreGood (s ∷ team) → with_lines start (lines (export_text (s ∷ team))) ≡ Some (between (canon (s ∷ team)) (length (s ∷ team)))
unfolding export_text
spelled s team le g = team_reads [] 0 s team (omega (arith, le)) g ∙ ap (λ (n : ℕ). Some (between (packed_after [] (set_texts (s ∷ team))) n)) (zero_plus (length (s ∷ team))) ∙ ap (λ (packed : List ℕ). Some (between packed (length (s ∷ team)))) (packed_whole s team)

exported : (s : Set) (team : List Set) → length (s ∷ team) ≤ 6 → AreGood (s ∷ team) → IsTeam (chars (canon (s ∷ team))) (s ∷ team) → length (export_text (s ∷ team)) ≤ 8192 → IsExport (export_text (s ∷ team)) (s ∷ team)
exported s team le g is short = record { short = short; sheet = between (canon (s ∷ team)) (length (s ∷ team)); spelled = spelled s team le g; is = record { packed = is; count = refl } }

-- a team's text is an export text of the team, if every set can be written and it isn't too long
pub again : (team : List Set) → HasText team → first_unwritable 1 team ≡ None → length (export_text team) ≤ 8192 → IsExport (export_text team) team
again [] has e short = absurd (omega (arith, team_some [] has))
again (s ∷ team) has e short = exported s team (team_few (s ∷ team) has) (all_good 1 (s ∷ team) (team_kept has.0 (s ∷ team) has.1) e) (canon_is (s ∷ team) has) short

pub again_is : (team : List Set) (text : List ℕ) → HasText team → first_unwritable 1 team ≡ None → text ≡ export_text team → length text ≤ 8192 → IsExport text team
again_is team text has none e le = subst (λ (u : List ℕ). IsExport u team) (sym e) (again team has none (omega (arith, ap length e, le)))
