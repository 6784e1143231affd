-- A text has one first fault at most.
use Rattle.std.proofs.Common.{◌≡◌, ℕ, true, false, List, [], ◌∷◌, ◌++◌, length, Some, refl, sym, ap, ◌∙◌, subst, arith}
use Rattle.std.specs.Str.{IsUtf8}
use Rattle.replay_script.specs.declared.item.Item.{Item}
use Rattle.replay_script.specs.declared.script.ScriptKind.{ScriptKind}
use Rattle.replay_script.specs.declared.script.ScriptKind.TheVariants as kinds
use Rattle.replay_script.specs.Controls.{has_control}
use Rattle.replay_script.specs.Items.{IsItem}
use Rattle.replay_script.specs.Scripts.{Seen, start, AreItems, next, fault_of, seen_after, Misplaced, IsFault, IsFirstFault}
use Rattle.replay_script.proofs.OneScript.{one_item, no_fault}

-- a fault, by how far a line is fine
data Cause (s : Seen) (line : List ℕ) (kind : ScriptKind) : Type 0 where
  not_utf8 : kind ≡ kinds.Utf8 → (IsUtf8 line → ⊥) → Cause s line kind
  control : kind ≡ kinds.Control → IsUtf8 line → has_control line ≡ true → Cause s line kind
  no_item : kind ≡ kinds.Form → IsUtf8 line → has_control line ≡ false → ((i : Item) → IsItem line i → ⊥) → Cause s line kind
  misplaced : Misplaced s line kind → Cause s line kind

cause : (s : Seen) (line : List ℕ) (kind : ScriptKind) → IsFault s line kind → Cause s line kind
cause s line kinds.Utf8 f = not_utf8 refl f
cause s line kinds.Control f = control refl f.0 f.1
cause s line kinds.Form f = no_item refl f.0 f.1 f.2
cause s line kinds.Order f = misplaced f
cause s line kinds.Group f = misplaced f
cause s line kinds.Many f = misplaced f
cause s line kinds.Long f = misplaced f

both_ways : (line : List ℕ) → has_control line ≡ true → has_control line ≡ false → ⊥
both_ways line t f = let e : true ≡ false = sym t ∙ f in absurd cc

one_misplaced : (s : Seen) (line : List ℕ) (k l : ScriptKind) → Misplaced s line k → Misplaced s line l → k ≡ l
one_misplaced s line k l p q =
    let same : p.0 ≡ q.0 = one_item line p.0 q.0 p.1.item q.1.item in
    let both : Some k ≡ Some l = sym p.2 ∙ ap (fault_of s) same ∙ q.2 in
    cc

one_cause : (s : Seen) (line : List ℕ) (k l : ScriptKind) → Cause s line k → Cause s line l → k ≡ l
one_cause s line k l (not_utf8 e n) (not_utf8 f m) = e ∙ sym f
one_cause s line k l (not_utf8 e n) (control f u c) = absurd (n u)
one_cause s line k l (not_utf8 e n) (no_item f u c m) = absurd (n u)
one_cause s line k l (not_utf8 e n) (misplaced q) = absurd (n q.1.utf8)
one_cause s line k l (control e u c) (not_utf8 f m) = absurd (m u)
one_cause s line k l (control e u c) (control f v d) = e ∙ sym f
one_cause s line k l (control e u c) (no_item f v d m) = absurd (both_ways line c d)
one_cause s line k l (control e u c) (misplaced q) = absurd (both_ways line c q.1.no_control)
one_cause s line k l (no_item e u c n) (not_utf8 f m) = absurd (m u)
one_cause s line k l (no_item e u c n) (control f v d) = absurd (both_ways line d c)
one_cause s line k l (no_item e u c n) (no_item f v d m) = e ∙ sym f
one_cause s line k l (no_item e u c n) (misplaced q) = absurd (n q.0 q.1.item)
one_cause s line k l (misplaced p) (not_utf8 f m) = absurd (m p.1.utf8)
one_cause s line k l (misplaced p) (control f v d) = absurd (both_ways line d p.1.no_control)
one_cause s line k l (misplaced p) (no_item f v d m) = absurd (m p.0 p.1.item)
one_cause s line k l (misplaced p) (misplaced q) = one_misplaced s line k l p q

one_kind : (s : Seen) (line : List ℕ) (k l : ScriptKind) → IsFault s line k → IsFault s line l → k ≡ l
one_kind s line k l f g = one_cause s line k l (cause s line k f) (cause s line l g)

-- a good line has no fault, so no fault stands among the lines before another first fault
fault_before : (s : Seen) (t y : List ℕ) (k : ScriptKind) (us ws : List (List ℕ)) (j : Item) (ys : List (List ℕ)) (js : List Item) → IsFault s t k → AreItems s (y ∷ ys) (j ∷ js) → t ∷ us ≡ y ∷ ws → ⊥
fault_before s t y k us ws j ys js f q e =
    let same : t ≡ y = cc in
    no_fault s y k j q.0 q.1 (subst (λ (x : List ℕ). IsFault s x k) same f)

same_fault : (s : Seen) (xs ys : List (List ℕ)) (is js : List Item) (t u : List ℕ) (ts us : List (List ℕ)) (k l : ScriptKind) → AreItems s xs is → AreItems s ys js → IsFault (seen_after s is) t k → IsFault (seen_after s js) u l → xs ++ t ∷ ts ≡ ys ++ u ∷ us → (length xs ≡ length ys) × (k ≡ l)
same_fault s [] [] [] [] t u ts us k l p q f g e =
    let same : u ≡ t = cc in
    (refl, one_kind s t k l f (subst (λ (x : List ℕ). IsFault s x l) same g))
same_fault s [] [] [] (j ∷ js) t u ts us k l p q f g e = absurd q
same_fault s [] ys (i ∷ is) js t u ts us k l p q f g e = absurd p
same_fault s [] (y ∷ ys) [] [] t u ts us k l p q f g e = absurd q
same_fault s [] (y ∷ ys) [] (j ∷ js) t u ts us k l p q f g e = absurd (fault_before s t y k ts (ys ++ u ∷ us) j ys js f q e)
same_fault s (x ∷ xs) ys [] js t u ts us k l p q f g e = absurd p
same_fault s (x ∷ xs) [] (i ∷ is) [] t u ts us k l p q f g e = absurd (fault_before s u x l us (xs ++ t ∷ ts) i xs is g p (sym e))
same_fault s (x ∷ xs) [] (i ∷ is) (j ∷ js) t u ts us k l p q f g e = absurd q
same_fault s (x ∷ xs) (y ∷ ys) (i ∷ is) [] t u ts us k l p q f g e = absurd q
same_fault s (x ∷ xs) (y ∷ ys) (i ∷ is) (j ∷ js) t u ts us k l p q f g e =
    let line : y ≡ x = cc in
    let tails : xs ++ t ∷ ts ≡ ys ++ u ∷ us = cc in
    let item : j ≡ i = one_item x j i (subst (λ (z : List ℕ). IsItem z j) line q.0.item) p.0.item in
    let more : AreItems (next s i) ys js = subst (λ (z : Item). AreItems (next s z) ys js) item q.2 in
    let bad : IsFault (seen_after (next s i) js) u l = subst (λ (z : Item). IsFault (seen_after (next s z) js) u l) item g in
    let rest = same_fault (next s i) xs ys is js t u ts us k l p.2 more f bad tails in
    (cc (rest.0), rest.1)

pub one_fault : (symbols bytes : List ℕ) (line other_line : ℕ) (kind other_kind : ScriptKind) → IsFirstFault symbols bytes line kind → IsFirstFault symbols bytes other_line other_kind → (line ≡ other_line) × (kind ≡ other_kind)
one_fault symbols bytes line other_line kind other_kind f g =
    let r = same_fault (start symbols) f.before g.before f.items g.items f.text g.text f.after g.after kind other_kind f.good g.good f.bad g.bad (sym f.parts ∙ g.parts) in
    (omega (arith, f.index, g.index, r.0), r.1)
