-- The texts that `want_in` reads are exactly the forms.
use Rattle.std.proofs.Common.{◌≡◌, ◌≢◌, ℕ, ◌+◌, ◌-◌, ◌≤◌, Bool, true, false, cond, ◌&&◌, nat_le, List, [], ◌∷◌, ◌++◌, codes, Option, Some, None, IfSome, IfNone, refl, sym, ap, ◌∙◌, subst, arith, inl, inr}
use Rattle.std.specs.Option.{option_map}
use Rattle.std.specs.Str.{bytes_eq}
use Rattle.std.proofs.lemmas.Bool.Decides.{eqb_tells, nat_tests}
use Rattle.std.proofs.lemmas.Slice.Eq.{bytes_eq-Decides}
use Rattle.std.proofs.lemmas.Option.{same_Some, none-some}
use Rattle.ps_base.specs.Cuts.{after_front}
use Rattle.ps_choice.specs.declared.wanted.Wanted.{Wanted}
use Rattle.ps_choice.specs.Wants.{Want, Slot, Named, Position, Team, Default, IsForm, are_digits, digit_in, slot_or_name, move_want, position_want, switch_want, team_want, behind_team, behind_switch, behind_move, want_in, want_of}

-- ---- digits

digit-reads : (n : ℕ) → n ≤ 9 → digit_in ((48 + n) ∷ []) ≡ Some n
digit-reads n small =
    let low : nat_le 48 (48 + n) ≡ true = grind (arith, nat_tests) in
    let high : nat_le (48 + n) 57 ≡ true = grind (arith, nat_tests) in
    let back : 48 + n - 48 ≡ n = omega arith in
    rw (low, high) (ap (λ (x : ℕ). Some x) back)

one_digit : (b n : ℕ) (low high : Bool) → nat_le 48 b ≡ low → nat_le b 57 ≡ high → cond (low && high) (Some (b - 48)) None ≡ Some n → (n ≤ 9) × (b ∷ [] ≡ (48 + n) ∷ [])
one_digit b n true true low high e =
    let is : b - 48 ≡ n = same_Some (b - 48) n e in
    let lo : 48 ≤ b = grind (arith, nat_tests) in
    let hi : b ≤ 57 = grind (arith, nat_tests) in
    let same : b ≡ 48 + n = omega (arith, is, lo) in
    (omega (arith, is, hi), ap (λ (x : ℕ). x ∷ []) same)
one_digit b n true false low high e = absurd (none-some n e)
one_digit b n false high low h e = absurd (none-some n e)

digit-is : (bytes : List ℕ) (n : ℕ) → digit_in bytes ≡ Some n → (n ≤ 9) × (bytes ≡ (48 + n) ∷ [])
digit-is [] n e = absurd (none-some n e)
digit-is (b ∷ []) n e = one_digit b n (nat_le 48 b) (nat_le b 57) refl refl e
digit-is (b ∷ c ∷ bytes) n e = absurd (none-some n e)

-- ---- a form is read

read_name : (name : List ℕ) → name ≢ [] → digit_in name ≡ None → move_want name ≡ Some (Named name)
read_name [] some none = absurd (some refl)
read_name (b ∷ bytes) some none = rw none refl

read_slot : (n : ℕ) → n ≤ 9 → move_want ((48 + n) ∷ []) ≡ Some (Slot n)
read_slot n small = rw (digit-reads n small) refl

read_position : (n : ℕ) → n ≤ 9 → switch_want ((48 + n) ∷ []) ≡ Some (Position n)
read_position n small = rw (digit-reads n small) refl

behind-move : (rest : List ℕ) → want_in (codes "move " ++ rest) ≡ move_want rest
unfolding want_in
behind-move rest = refl

behind-switch : (rest : List ℕ) → want_in (codes "switch " ++ rest) ≡ switch_want rest
unfolding want_in
behind-switch rest = refl

at-default : want_in (codes "default") ≡ Some Default
unfolding want_in
at-default = refl

behind-team : (rest : List ℕ) → want_in (codes "team " ++ rest) ≡ team_want rest
unfolding want_in
behind-team rest = refl

read_team : (digits : List ℕ) → are_digits digits ≡ true → team_want digits ≡ Some (Team digits)
read_team digits are = rw are refl

pub form-reads : (w : Want) (text : List ℕ) → IsForm w text → want_in text ≡ Some w
form-reads (Slot n) text f = rw f.1 (behind-move ((48 + n) ∷ []) ∙ read_slot n f.0)
form-reads (Named name) text f = rw f.0 (behind-move name ∙ read_name name f.1 f.2)
form-reads (Position n) text f = rw f.1 (behind-switch ((48 + n) ∷ []) ∙ read_position n f.0)
form-reads (Team digits) text f = rw f.0 (behind-team digits ∙ read_team digits f.1)
form-reads Default text f = rw f at-default

-- ---- what is read is a form

front-is : (front text rest : List ℕ) → after_front front text ≡ Some rest → text ≡ front ++ rest
front-is [] text rest e = cc
front-is (p ∷ front) [] rest e = absurd (none-some rest e)
front-is (p ∷ front) (b ∷ text) rest e =
    elim (eqb_tells p b) [
      | inl h ↦ (let more : after_front front text ≡ Some rest = subst (λ t. cond t (after_front front text) None ≡ Some rest) h.0 e in let tail : text ≡ front ++ rest = front-is front text rest more in cc (h.1, tail))
      | inr h ↦ absurd (none-some rest (subst (λ t. cond t (after_front front text) None ≡ Some rest) h.0 e))
    ]

slot_or_name-is : (d : Option ℕ) (rest : List ℕ) (w : Want) → digit_in rest ≡ d → rest ≢ [] → Some (slot_or_name d rest) ≡ Some w → IsForm w (codes "move " ++ rest)
slot_or_name-is (Some n) rest w d some e =
    let is : Slot n ≡ w = cc e in
    let digit = digit-is rest n d in
    subst (λ v. IsForm v (codes "move " ++ rest)) is (digit.0, ap (λ (x : List ℕ). codes "move " ++ x) digit.1)
slot_or_name-is None rest w d some e =
    let is : Named rest ≡ w = cc e in
    subst (λ v. IsForm v (codes "move " ++ rest)) is (refl, some, d)

move-is : (rest : List ℕ) (w : Want) → move_want rest ≡ Some w → IsForm w (codes "move " ++ rest)
move-is [] w e = absurd (none-some w e)
move-is (b ∷ bytes) w e = slot_or_name-is (digit_in (b ∷ bytes)) (b ∷ bytes) w refl (λ h. cc h) e

position-is : (d : Option ℕ) (rest : List ℕ) (w : Want) → digit_in rest ≡ d → position_want d ≡ Some w → IsForm w (codes "switch " ++ rest)
position-is (Some n) rest w d e =
    let is : Position n ≡ w = cc e in
    let digit = digit-is rest n d in
    subst (λ v. IsForm v (codes "switch " ++ rest)) is (digit.0, ap (λ (x : List ℕ). codes "switch " ++ x) digit.1)
position-is None rest w d e = absurd (none-some w e)

team-is : (b : Bool) (rest : List ℕ) (w : Want) → are_digits rest ≡ b → cond b (Some (Team rest)) None ≡ Some w → IsForm w (codes "team " ++ rest)
team-is true rest w are e =
    let is : Team rest ≡ w = cc e in
    subst (λ v. IsForm v (codes "team " ++ rest)) is (refl, are)
team-is false rest w are e = absurd (none-some w e)

after_team : (o : Option (List ℕ)) (text : List ℕ) (w : Want) → after_front (codes "team ") text ≡ o → behind_team o ≡ Some w → IsForm w text
after_team (Some rest) text w o e = rw (front-is (codes "team ") text rest o) (team-is (are_digits rest) rest w refl e)
after_team None text w o e = absurd (none-some w e)

after_switch : (o : Option (List ℕ)) (text : List ℕ) (w : Want) → after_front (codes "switch ") text ≡ o → behind_switch o text ≡ Some w → IsForm w text
after_switch (Some rest) text w o e = rw (front-is (codes "switch ") text rest o) (position-is (digit_in rest) rest w refl e)
after_switch None text w o e = after_team (after_front (codes "team ") text) text w refl e

after_move : (o : Option (List ℕ)) (text : List ℕ) (w : Want) → after_front (codes "move ") text ≡ o → behind_move o text ≡ Some w → IsForm w text
after_move (Some rest) text w o e = rw (front-is (codes "move ") text rest o) (move-is rest w e)
after_move None text w o e = after_switch (after_front (codes "switch ") text) text w refl e

by_test : (b : Bool) (text : List ℕ) (w : Want) → bytes_eq text (codes "default") ≡ b → cond b (Some Default) (behind_move (after_front (codes "move ") text) text) ≡ Some w → IsForm w text
by_test true text w b e =
    let is : Default ≡ w = cc e in
    subst (λ v. IsForm v text) is ((bytes_eq-Decides text (codes "default")).0 b)
by_test false text w b e = after_move (after_front (codes "move ") text) text w refl e

pub read-is : (text : List ℕ) (w : Want) → want_in text ≡ Some w → IsForm w text
unfolding want_in
read-is text w e = by_test (bytes_eq text (codes "default")) text w refl e

-- ---- what the code read

pub found-of : (text : List ℕ) (o : Option Wanted) → option_map want_of o ≡ want_in text → IfSome o (λ w. IsForm (want_of w) text)
found-of text None e = tt
found-of text (Some w) e = read-is text (want_of w) (sym e)

pub none-of : (text : List ℕ) (o : Option Wanted) → option_map want_of o ≡ want_in text → IfNone o ((w : Want) → IsForm w text → ⊥)
none-of text None e = λ w f. none-some w (e ∙ form-reads w text f)
none-of text (Some w) e = tt
