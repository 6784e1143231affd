-- A line says one thing at most.
use Rattle.std.proofs.Common.{◌≡◌, ℕ, ◌==◌, cond, List, [], ◌∷◌, ◌++◌, get_or, codes, true, false, Some, None, refl, sym, ap, ◌∙◌, subst, arith, append_assoc, inl, inr}
use Rattle.std.proofs.lemmas.List.{append_cancel_left}
use Rattle.std.proofs.lemmas.Fmt.{decimal_injective}
use Rattle.std.proofs.lemmas.Str.{encode_same}
use Rattle.std.proofs.Math.Utf8.{encode}
use Rattle.ps_base.specs.Numbers.{IsNumeral}
use Rattle.replay_script.specs.declared.item.Item.{Item}
use Rattle.replay_script.specs.declared.item.Item.TheVariants.{Nothing, Moment, Group, Open, Send, Close}
use Rattle.replay_script.specs.Items.{IsItem, IsNumber, IsSend}
use Rattle.replay_script.specs.declared.script.ScriptKind.{ScriptKind}
use Rattle.replay_script.specs.declared.script.ScriptKind.TheVariants as kinds
use Rattle.replay_script.specs.Scripts.{Seen, IsLine, AreItems, next, start, IsScript, fault_of, seen_after, Misplaced, IsFault, IsFirstFault}
use Rattle.replay_script.specs.Laws.{LawOfScripts}
use Rattle.replay_script.proofs.ItemLemmas.{first_space, numeral_no_space}

one_number : (xs : List ℕ) (m n : ℕ) → IsNumeral xs m → IsNumeral xs n → m ≡ n
one_number xs m n p q = decimal_injective m n (omega (arith, p.small)) (omega (arith, q.small)) (sym p.spelled ∙ q.spelled)

same_number : (front line : List ℕ) (m n : ℕ) → IsNumber front line m → IsNumber front line n → m ≡ n
same_number front line m n p q =
    let same : p.digits ≡ q.digits = append_cancel_left front p.digits q.digits (sym p.spelled ∙ q.spelled) in
    one_number p.digits m n p.numeral (subst (λ (x : List ℕ). IsNumeral x n) (sym same) q.numeral)

record SameSend (m n : ℕ) (t u : List ℕ) : Type 0 where
  number : m ≡ n
  text : t ≡ u

same_send : (line : List ℕ) (m n : ℕ) (t u : List ℕ) → IsSend line m t → IsSend line n u → SameSend m n t u
same_send line m n t u p q =
    let rest : p.digits ++ 32 ∷ t ≡ q.digits ++ 32 ∷ u = append_cancel_left (codes ">") _ _ (sym (append_assoc (codes ">") p.digits (32 ∷ t)) ∙ sym p.spelled ∙ q.spelled ∙ append_assoc (codes ">") q.digits (32 ∷ u)) in
    let parts = first_space p.digits t q.digits u rest (numeral_no_space p.digits m p.numeral) (numeral_no_space q.digits n q.numeral) in
    record { number = one_number p.digits m n p.numeral (subst (λ (x : List ℕ). IsNumeral x n) (sym parts.0) q.numeral); text = parts.1 }

-- the form of a line, by its first byte
abbrev form_of : ℕ → ℕ
form_of c = cond (c == 84) 1 (cond (c == 71) 2 (cond (c == 43) 3 (cond (c == 62) 4 (cond (c == 45) 5 0))))

abbrev form : Item → ℕ
form Nothing = 0
form (Moment n) = 1
form (Group s id) = 2
form (Open n) = 3
form (Send n t) = 4
form (Close n) = 5

abbrev first : List ℕ → ℕ
first line = get_or line 0 0

by_form : (line : List ℕ) (i : Item) → IsItem line i → form_of (first line) ≡ form i
by_form line Nothing (inl e) = ap (λ (x : List ℕ). form_of (first x)) e
by_form line Nothing (inr p) = ap (λ (x : List ℕ). form_of (first x)) p.1
by_form line (Moment n) p = ap (λ (x : List ℕ). form_of (first x)) p.spelled
by_form line (Group s id) p = ap (λ (x : List ℕ). form_of (first x)) p.spelled
by_form line (Open n) p = ap (λ (x : List ℕ). form_of (first x)) p.spelled
by_form line (Send n t) p = ap (λ (x : List ℕ). form_of (first x)) p.spelled
by_form line (Close n) p = ap (λ (x : List ℕ). form_of (first x)) p.spelled

one_by_form : (line : List ℕ) (a b : Item) → form a ≡ form b → IsItem line a → IsItem line b → a ≡ b
one_by_form line Nothing Nothing f p q = refl
one_by_form line (Moment m) (Moment n) f p q = ap Moment (same_number (codes "T ") line m n p q)
one_by_form line (Group s x) (Group t y) f p q =
    let rest : encode s ++ 32 ∷ x ≡ encode t ++ 32 ∷ y = append_cancel_left (codes "G ") _ _ (sym p.spelled ∙ q.spelled) in
    let same = encode_same s t (32 ∷ x) (32 ∷ y) rest in
    cc (same.0, same.1)
one_by_form line (Open m) (Open n) f p q = ap Open (same_number (codes "+") line m n p q)
one_by_form line (Send m t) (Send n u) f p q = let s = same_send line m n t u p q in cc
one_by_form line (Close m) (Close n) f p q = ap Close (same_number (codes "-") line m n p q)
one_by_form line a b f p q = absurd (omega (arith, f))

pub one_item : (line : List ℕ) (a b : Item) → IsItem line a → IsItem line b → a ≡ b
one_item line a b p q = one_by_form line a b (sym (by_form line a p) ∙ by_form line b q) p q

pub one_list : (s : Seen) (ls : List (List ℕ)) (xs ys : List Item) → AreItems s ls xs → AreItems s ls ys → xs ≡ ys
one_list s [] [] [] p q = refl
one_list s [] (x ∷ xs) ys p q = absurd p
one_list s [] [] (y ∷ ys) p q = absurd q
one_list s (l ∷ ls) [] ys p q = absurd p
one_list s (l ∷ ls) (x ∷ xs) [] p q = absurd q
one_list s (l ∷ ls) (x ∷ xs) (y ∷ ys) p q =
    let head : x ≡ y = one_item l x y p.0.item q.0.item in
    let tail : xs ≡ ys = one_list (next s x) ls xs ys p.2 (subst (λ i. AreItems (next s i) ls ys) (sym head) q.2) in
    cc

-- ---- a first fault

clash : (s : Seen) (line : List ℕ) (kind : ScriptKind) (i : Item) → IsLine line i → fault_of s i ≡ None → Misplaced s line kind → ⊥
clash s line kind i l good bad =
    let same : bad.0 ≡ i = one_item line bad.0 i bad.1.item l.item in
    let both : None ≡ Some kind = sym good ∙ ap (fault_of s) (sym same) ∙ bad.2 in
    absurd cc

pub no_fault : (s : Seen) (line : List ℕ) (kind : ScriptKind) (i : Item) → IsLine line i → fault_of s i ≡ None → IsFault s line kind → ⊥
no_fault s line kinds.Utf8 i l good bad = bad l.utf8
no_fault s line kinds.Control i l good bad = let both : true ≡ false = sym bad.1 ∙ l.no_control in cc
no_fault s line kinds.Form i l good bad = bad.2 i l.item
no_fault s line kinds.Order i l good bad = clash s line kinds.Order i l good bad
no_fault s line kinds.Group i l good bad = clash s line kinds.Group i l good bad
no_fault s line kinds.Many i l good bad = clash s line kinds.Many i l good bad
no_fault s line kinds.Long i l good bad = clash s line kinds.Long i l good bad

no_items : (s : Seen) (before : List (List ℕ)) (items : List Item) (line : List ℕ) (after : List (List ℕ)) (kind : ScriptKind) (xs : List Item) → AreItems s before items → AreItems s (before ++ line ∷ after) xs → IsFault (seen_after s items) line kind → ⊥
no_items s [] [] line after kind [] good all bad = absurd all
no_items s [] [] line after kind (x ∷ xs) good all bad = no_fault s line kind x all.0 all.1 bad
no_items s [] (i ∷ items) line after kind xs good all bad = absurd good
no_items s (l ∷ before) [] line after kind xs good all bad = absurd good
no_items s (l ∷ before) (i ∷ items) line after kind [] good all bad = absurd all
no_items s (l ∷ before) (i ∷ items) line after kind (x ∷ xs) good all bad =
    let same : x ≡ i = one_item l x i all.0.item good.0.item in
    no_items (next s i) before items line after kind xs good.2 (subst (λ j. AreItems (next s j) (before ++ line ∷ after) xs) same all.2) bad

pub no_script : (symbols bytes : List ℕ) (items : List Item) (line : ℕ) (kind : ScriptKind) → IsFirstFault symbols bytes line kind → IsScript symbols bytes items → ⊥
no_script symbols bytes items line kind f s = no_items (start symbols) f.before f.items f.text f.after kind items f.good (subst (λ (ls : List (List ℕ)). AreItems (start symbols) ls items) f.parts s) f.bad

pub one_script : (symbols bytes : List ℕ) (items others : List Item) → IsScript symbols bytes items → IsScript symbols bytes others → items ≡ others
one_script symbols bytes items others p q = one_list (start symbols) _ items others p q

pub law_of_scripts : LawOfScripts
law_of_scripts = record { one = one_script; fault = no_script }
