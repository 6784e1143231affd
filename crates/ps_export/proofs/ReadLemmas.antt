-- What a text spells, and what it doesn't.
use Rattle.std.proofs.Common.{◌≡◌, ℕ, zero, suc, ◌+◌, ◌<◌, ◌≤◌, ◌⊎◌, false, eqb, List, [], ◌∷◌, ◌++◌, length, take, map, get_or, Bor, Option, Some, None, IfSome, IfNone, Result, Ok, Err, IfOk, option_and_then, refl, sym, ap, subst, ◌∙◌, arith, inl, inr}
use Rattle.std.specs.Str.{chars}
use Rattle.std.proofs.lemmas.Bool.{eqb-false, cases_lt}
use Rattle.std.proofs.lemmas.List.{take_more, length-map}
use Rattle.ps_base.specs.Numbers.{counted}
use Rattle.ps_packed.specs.Packed.{IsTeam}
use Rattle.ps_packed.specs.declared.set.Set.{Set}
use Rattle.ps_packed.proofs.Unique.{one_team}
use Rattle.ps_export.specs.declared.sheet.Sheet.{Sheet}
use Rattle.ps_export.specs.Lines.{lines}
use Rattle.ps_export.specs.Sheets.{start, packed_of, with_line, with_lines}
use Rattle.ps_export.specs.Export.{IsTeamOf, IsExport, SheetStands, SomeStands, LinesStand, IsFirstFault, IsRefused, limit_of, past_end}

pub same_sheet : (x y : Sheet) → Some x ≡ Some y → x ≡ y
same_sheet x y e = cc

pub one_of_sheet : (sheet other : Sheet) (a b : List Set) → sheet ≡ other → IsTeamOf sheet a → IsTeamOf other b → a ≡ b
one_of_sheet sheet other a b e p q = one_team (chars (packed_of sheet)) a b p.packed (subst (λ (s : Sheet). IsTeamOf s b) (sym e) q).packed

-- no text has two teams
pub one_export : (text : List ℕ) (a b : List Set) → IsExport text a → IsExport text b → a ≡ b
one_export text a b p q = one_of_sheet p.sheet q.sheet a b (same_sheet p.sheet q.sheet (sym p.spelled ∙ q.spelled)) p.is q.is

-- a text within the bytes has the team of its sheet
pub is_export : (text : List ℕ) (sheet : Sheet) (team : List Set) → length text ≤ 8192 → with_lines start (lines text) ≡ Some sheet → IsTeamOf sheet team → IsExport text team
is_export text sheet team le e is = record { short = le; sheet = sheet; spelled = e; is = is }

pub no_export : (text : List ℕ) (sheet : Sheet) → with_lines start (lines text) ≡ Some sheet → ((team : List Set) → ¬ (IsTeamOf sheet team)) → (team : List Set) → ¬ (IsExport text team)
no_export text sheet e none team is = none team (subst (λ (s : Sheet). IsTeamOf s team) (same_sheet is.sheet sheet (sym is.spelled ∙ e)) is.is)

pub no_sheet : (text : List ℕ) → with_lines start (lines text) ≡ None → (team : List Set) → ¬ (IsExport text team)
no_sheet text e team is = absurd (let wrong : None ≡ Some is.sheet = sym e ∙ is.spelled in cc)

pub within_none : {E : Type 0} (text : List ℕ) (sheet : Sheet) (r : Result (Option (List Set)) E) → with_lines start (lines text) ≡ Some sheet → IfOk r (λ o. IfNone o ((team : List Set) → ¬ (IsTeamOf sheet team))) → IfOk r (λ o. IfNone o ((team : List Set) → ¬ (IsExport text team)))
within_none text sheet (Ok None) e none = no_export text sheet e none
within_none text sheet (Ok (Some team)) e none = tt
within_none text sheet (Err x) e none = tt

pub too_long : (text : List ℕ) → 8192 < length text → (team : List Set) → ¬ (IsExport text team)
too_long text lt team is = omega (arith, lt, is.short)

-- ---- the team of a sheet

pub is_team_of : (sheet : Sheet) (packed : List ℕ) (team : List Set) → packed ≡ packed_of sheet → IsTeam (chars packed) team → length team ≡ sheet.sets → IsTeamOf sheet team
is_team_of sheet packed team e is count = record { packed = subst (λ (u : List ℕ). IsTeam (chars u) team) e is; count = count }

pub refused_sheet : (sheet : Sheet) (packed : List ℕ) → packed ≡ packed_of sheet → ((team : List Set) → ¬ (IsTeam (chars packed) team)) → (team : List Set) → ¬ (IsTeamOf sheet team)
refused_sheet sheet packed e none team is = none team (subst (λ (u : List ℕ). IsTeam (chars u) team) (sym e) is.packed)

pub other_count : (sheet : Sheet) (packed : List ℕ) (found : List Set) → packed ≡ packed_of sheet → ((other : List Set) → IsTeam (chars packed) other → other ≡ found) → (length found ≡ sheet.sets → ⊥) → (team : List Set) → ¬ (IsTeamOf sheet team)
other_count sheet packed found e alone ne team is =
    let same : team ≡ found = alone team (subst (λ (u : List ℕ). IsTeam (chars u) team) (sym e) is.packed) in
    ne (ap length (sym same) ∙ is.count)

pub not_standing : (sheet : Sheet) → eqb sheet.sets 0 ≡ false → ((team : List Set) → ¬ (IsTeamOf sheet team)) → ¬ (SheetStands sheet)
not_standing sheet some none (inl e) = eqb-false sheet.sets 0 some e
not_standing sheet some none (inr is) = none is.0 is.1

pub if_none : {X : Type 0} (o : Option X) (P : Type 0) → o ≡ None → IfNone o P → P
if_none None P e h = h
if_none (Some x) P e h = absurd cc

some_same : {X : Type 0} (a b : X) → Some a ≡ Some b → a ≡ b
some_same a b e = cc

pub if_some : {X : Type 0} (o : Option X) (P : X → Type 0) (x : X) → o ≡ Some x → IfSome o P → P x
if_some None P x e h = absurd cc
if_some (Some y) P x e h = subst P (some_same y x e) h

-- ---- line by line

-- the lines before the one with this index stand, and make this sheet
pub record Walks (text : List ℕ) (index : ℕ) (sheet : Sheet) : Type 0 where
  pub reached : with_lines start (take index (lines text)) ≡ Some sheet
  pub before : (count : ℕ) → 0 < count → count ≤ index → LinesStand text count

pub walk_start : (text : List ℕ) → Walks text 0 start
walk_start text = record { reached = refl; before = λ count some le. absurd (omega (arith, some, le)) }

then_step : (found : Option Sheet) (line : List ℕ) (sheet : Sheet) → found ≡ Some sheet → option_and_then (λ next. with_lines next (line ∷ [])) found ≡ with_line sheet line
then_step found line sheet e = rw e (one_line (with_line sheet line))
  where
    one_line : (o : Option Sheet) → option_and_then (λ next. Some next) o ≡ o
    one_line None = refl
    one_line (Some x) = refl

lines_then : (x : Sheet) (ls ms : List (List ℕ)) → with_lines x (ls ++ ms) ≡ option_and_then (λ next. with_lines next ms) (with_lines x ls)
lines_then x [] ms = refl
lines_then x (l ∷ ls) ms = by_first (with_line x l) (λ y. lines_then y ls ms)
  where
    by_first : (o : Option Sheet) → ((y : Sheet) → with_lines y (ls ++ ms) ≡ option_and_then (λ next. with_lines next ms) (with_lines y ls)) → option_and_then (λ next. with_lines next (ls ++ ms)) o ≡ option_and_then (λ next. with_lines next ms) (option_and_then (λ next. with_lines next ls) o)
    by_first None h = refl
    by_first (Some y) h = h y

-- the sheet with the line of this index
pub reached_next : (text : List ℕ) (index : ℕ) (sheet : Sheet) (line : List ℕ) → index < length (lines text) → line ≡ get_or (lines text) index [] → with_lines start (take index (lines text)) ≡ Some sheet → with_lines start (take (index + 1) (lines text)) ≡ with_line sheet line
reached_next text index sheet line lt is e =
    ap (with_lines start) (take_more (lines text) index [] lt) ∙ ap (λ (u : List ℕ). with_lines start (take index (lines text) ++ u ∷ [])) (sym is)
    ∙ lines_then start (take index (lines text)) (line ∷ []) ∙ then_step (with_lines start (take index (lines text))) line sheet e

upto : (count index : ℕ) → count ≤ index + 1 → (count ≤ index) ⊎ (count ≡ index + 1)
upto count index le = elim (cases_lt count (index + 1)) [
  | inl lt ↦ inl (omega (arith, lt))
  | inr more ↦ inr (omega (arith, le, more))
]

pub walk_next : (text : List ℕ) (index : ℕ) (sheet next : Sheet) (line : List ℕ) → index < length (lines text) → line ≡ get_or (lines text) index [] → Walks text index sheet → index + 1 < limit_of text → with_line sheet line ≡ Some next → SheetStands next → Walks text (index + 1) next
walk_next text index sheet next line lt is w within e stands =
    let here : with_lines start (take (index + 1) (lines text)) ≡ Some next = reached_next text index sheet line lt is w.reached ∙ e in record {
      reached = here;
      before = λ count some le. elim (upto count index le) [
        | inl less ↦ w.before count some less
        | inr same ↦ rw same (record { within = within; stands = subst SomeStands (sym here) stands })
      ];
    }

fault_at : (text : List ℕ) (index : ℕ) (sheet : Sheet) → index < length (lines text) → Walks text index sheet → ¬ (LinesStand text (index + 1)) → IsFirstFault text (index + 1)
fault_at text index sheet lt w none = record { before = λ count some less le. w.before count some (omega (arith, less)); here = inl (omega (arith, lt), none) }

pub fault_limit : (text : List ℕ) (index : ℕ) (sheet : Sheet) → index < length (lines text) → Walks text index sheet → limit_of text ≤ index + 1 → IsFirstFault text (index + 1)
fault_limit text index sheet lt w past = fault_at text index sheet lt w (λ s. omega (arith, s.within, past))

pub fault_line : (text : List ℕ) (index : ℕ) (sheet : Sheet) (line : List ℕ) → index < length (lines text) → line ≡ get_or (lines text) index [] → Walks text index sheet → ¬ (SomeStands (with_line sheet line)) → IsFirstFault text (index + 1)
fault_line text index sheet line lt is w none = fault_at text index sheet lt w (λ s. none (subst SomeStands (reached_next text index sheet line lt is w.reached) s.stands))

pub fault_end : (text : List ℕ) (index number : ℕ) (sheet : Sheet) → length (lines text) ≤ index → number ≡ past_end text → Walks text index sheet → IsFirstFault text number
fault_end text index number sheet done e w = record { before = λ count some less le. w.before count some (omega (arith, le, done)); here = inr e }

-- a line of the text, as the code lends it
pub line_at : (text : List ℕ) (pieces : List (Bor (List ℕ))) (index : ℕ) (d : Bor (List ℕ)) → map (λ x. x.now) pieces ≡ lines text → index < length pieces → (get_or pieces index d).now ≡ get_or (lines text) index []
line_at text pieces index d e lt = now_at pieces index d lt ∙ ap (λ (ls : List (List ℕ)). get_or ls index []) e
  where
    now_at : (ps : List (Bor (List ℕ))) (i : ℕ) (d : Bor (List ℕ)) → i < length ps → (get_or ps i d).now ≡ get_or (map (λ x. x.now) ps) i []
    now_at [] i d lt = absurd (omega (arith, lt))
    now_at (p ∷ ps) zero d lt = refl
    now_at (p ∷ ps) (suc i) d lt = now_at ps i d (omega (arith, lt))

pub count_of : (text : List ℕ) (pieces : List (Bor (List ℕ))) → map (λ x. x.now) pieces ≡ lines text → length (lines text) ≡ length pieces
count_of text pieces e = ap length (sym e) ∙ length-map pieces (λ (x : Bor (List ℕ)). x.now)

pub refused : (text : List ℕ) (line number : ℕ) → ((team : List Set) → ¬ (IsExport text team)) → IsFirstFault text number → line ≡ counted number → IsRefused text line
refused text line number none first e = record { none = none; first = (number, e, first) }

pub ruleset reading = (is_team_of, refused_sheet, other_count, not_standing, is_export, no_export, no_sheet, too_long, one_export, refused)
