-- What was printed is read back, text by text, whatever the lines say.
use Rattle.std.proofs.Common.{◌≡◌, ◌≢◌, ◌⊎◌, ℕ, ◌<◌, ◌≤◌, ◌^◌, Bool, true, false, cond, List, [], ◌∷◌, ◌++◌, map, codes, Option, None, append_assoc, append-nil, refl, sym, ap, ◌∙◌, inl, inr, arith}
use Rattle.std.specs.Prelude.{◌==◌, option_map, option_to_list}
use Rattle.std.specs.Option.{option_map_or}
use Rattle.std.specs.List.{flat_map, filter_map, onto_first}
use Rattle.std.specs.Fmt.{decimal}
use Rattle.std.specs.Str.Parse.{AllDigits}
use Rattle.std.proofs.lemmas.Bool.Decides.{nat_tests, eqb_tells}
use Rattle.std.proofs.lemmas.Fmt.{decimal_is_IsNumeral, decimal_injective}
use Rattle.std.proofs.lemmas.Str.Parse.{digit_from_value}
use Rattle.std.proofs.lemmas.List.Concat.{flat_map-append}
use Rattle.ps_base.proofs.CutLemmas.{after_front-append}
use Rattle.ps_base.specs.Cuts.{after_front}
use Rattle.ps_base.specs.Messages.{sent, behind, joined}
use Rattle.replay_state.specs.Transcript.{Sign, told, over, message_in, byte_behind, line_behind, further_line, printed, with_id, over_line, print_sign}
use Rattle.replay_read.proofs.ByteLemmas.{LacksNewline, lacks_append}
use Rattle.replay_read.specs.Readings.{lines_of, front_of_text, front_of_rest, rest_in, texts_in, text_to}

-- ---- lines

split_line : (x rest : List ℕ) → LacksNewline x → lines_of (x ++ 10 ∷ rest) ≡ x ∷ lines_of rest
split_line [] rest p = refl
split_line (b ∷ x) rest p = rw p.0 (ap (onto_first b) (split_line x rest p.1))

-- ---- fronts

digits_plain : (d : List ℕ) → AllDigits 10 d → LacksNewline d
digits_plain [] all = tt
digits_plain (b ∷ d) all = let range = digit_from_value b all.0 in let test : (b == 10) ≡ false = grind (arith, nat_tests) in (test, digits_plain d all.1)

-- the same digits, and another character behind them
same_digits : (d s y : List ℕ) (c e : ℕ) → (c == e) ≡ false → after_front (d ++ c ∷ s) (d ++ e ∷ y) ≡ None
same_digits [] s y c e other = rw other refl
same_digits (b ∷ d) s y c e other = let test : (b == b) ≡ true = grind (arith, nat_tests) in rw test (same_digits d s y c e other)

-- no digit
abbrev IsMark : ℕ → Type 0
IsMark c = (b : ℕ) → 48 ≤ b → b ≤ 57 → ((c == b) ≡ false) × ((b == c) ≡ false)

-- other digits, with characters behind them that are none
other_digits : (d e s y : List ℕ) (c k : ℕ) → AllDigits 10 d → AllDigits 10 e → IsMark c → IsMark k → d ≢ e → after_front (d ++ c ∷ s) (e ++ k ∷ y) ≡ None
other_digits [] [] s y c k p q mark other apart = absurd (apart refl)
other_digits [] (b ∷ e) s y c k p q mark other apart = let range = digit_from_value b q.0 in rw (mark b (omega (arith, range)) (omega (arith, range))).0 refl
other_digits (a ∷ d) [] s y c k p q mark other apart = let range = digit_from_value a p.0 in rw (other a (omega (arith, range)) (omega (arith, range))).1 refl
other_digits (a ∷ d) (b ∷ e) s y c k p q mark other apart = elim (eqb_tells a b) [
  | inl same ↦ rw same.0 (other_digits d e s y c k p.1 q.1 mark other (λ rest. apart (ap (λ (x : ℕ). x ∷ d) same.1 ∙ ap (λ (x : List ℕ). b ∷ x) rest)))
  | inr differ ↦ rw differ.0 refl
]

less_mark : IsMark 60
less_mark b low high = (grind (arith, nat_tests), grind (arith, nat_tests))

stop_mark : IsMark 46
stop_mark b low high = (grind (arith, nat_tests), grind (arith, nat_tests))

end_mark : IsMark 33
end_mark b low high = (grind (arith, nat_tests), grind (arith, nat_tests))

-- ---- the front of another line

-- a number of a connection
abbrev pub IsConn : ℕ → Type 0
IsConn n = n < 2 ^ 64

digits : (n : ℕ) → IsConn n → AllDigits 10 (decimal n)
digits n small = (decimal_is_IsNumeral n small).0.1

-- no line that begins so has this front
abbrev Misses : List ℕ → List ℕ → Type 0
Misses front start = (y : List ℕ) → after_front front (start ++ y) ≡ None

joins : (d s y : List ℕ) → (d ++ s) ++ y ≡ d ++ (s ++ y)
joins d s y = append_assoc d s y

lacks_mark : (n o c k : ℕ) (s r : List ℕ) → IsConn n → IsConn o → IsMark c → IsMark k → ((c == k) ≡ false) ⊎ (n ≢ o) → Misses (decimal n ++ c ∷ s) (decimal o ++ k ∷ r)
lacks_mark n o c k s r p q mark other apart y = ap (after_front (decimal n ++ c ∷ s)) (joins (decimal o) (k ∷ r) y) ∙ elim apart [
  | inl marks ↦ elim (eqb_tells n o) [
    | inl same ↦ ap (λ (m : ℕ). after_front (decimal n ++ c ∷ s) (decimal m ++ k ∷ (r ++ y))) (sym same.1) ∙ same_digits (decimal n) s (r ++ y) c k marks
    | inr differ ↦ other_digits (decimal n) (decimal o) s (r ++ y) c k (digits n p) (digits o q) mark other (λ is. differ.1 (decimal_injective n o p q is))
  ]
  | inr numbers ↦ other_digits (decimal n) (decimal o) s (r ++ y) c k (digits n p) (digits o q) mark other (λ is. numbers (decimal_injective n o p q is))
]

-- a text's front is no other connection's, and that of its rest is nobody's
text_lacks : (n o : ℕ) → IsConn n → IsConn o → n ≢ o → Misses (front_of_text n) (front_of_text o)
text_lacks n o p q apart = lacks_mark n o 60 60 (32 ∷ []) (32 ∷ []) p q less_mark less_mark (inr apart)

text_lacks_rest : (n o : ℕ) → IsConn n → IsConn o → Misses (front_of_text n) (front_of_rest o)
text_lacks_rest n o p q = lacks_mark n o 60 46 (32 ∷ []) (32 ∷ []) p q less_mark stop_mark (inl refl)

rest_lacks_text : (n o : ℕ) → IsConn n → IsConn o → Misses (front_of_rest n) (front_of_text o)
rest_lacks_text n o p q = lacks_mark n o 46 60 (32 ∷ []) (32 ∷ []) p q stop_mark less_mark (inl refl)

text_lacks_end : (n o : ℕ) → IsConn n → IsConn o → Misses (front_of_text n) (decimal o ++ codes "! OwnLimit")
text_lacks_end n o p q = lacks_mark n o 60 33 (32 ∷ []) (codes " OwnLimit") p q less_mark end_mark (inl refl)

rest_lacks_end : (n o : ℕ) → IsConn n → IsConn o → Misses (front_of_rest n) (decimal o ++ codes "! OwnLimit")
rest_lacks_end n o p q = lacks_mark n o 46 33 (32 ∷ []) (codes " OwnLimit") p q stop_mark end_mark (inl refl)

-- ---- a text that is printed

-- a text behind this front, with the number of its connection, and what is printed behind it
abbrev piece : List ℕ → List ℕ → List ℕ → List ℕ → List ℕ
piece front digits text rest = (front ++ line_behind digits text) ++ 10 ∷ rest

-- its first byte goes to the front where it is no newline
next_byte : (d h t rest : List ℕ) (b : ℕ) → (b == 10) ≡ false → piece h d (b ∷ t) rest ≡ piece (h ++ b ∷ []) d t rest
next_byte d h t rest b other =
    ap (λ (x : List ℕ). (h ++ (x ++ line_behind d t)) ++ 10 ∷ rest) (single (b == 10) other)
    ∙ ap (λ (x : List ℕ). x ++ 10 ∷ rest) (sym (append_assoc h (b ∷ []) (line_behind d t)))
  where
    single : (test : Bool) → test ≡ false → cond test (10 ∷ d ++ codes ". ") (b ∷ []) ≡ b ∷ []
    single true is = absurd cc
    single false is = refl

-- and where it is one, a line ends
line_ends : (d h t rest : List ℕ) → LacksNewline h → lines_of (piece h d (10 ∷ t) rest) ≡ h ∷ lines_of (piece (d ++ codes ". ") d t rest)
line_ends d h t rest plain =
    ap lines_of (append_assoc h ((10 ∷ d ++ codes ". ") ++ line_behind d t) (10 ∷ rest))
    ∙ split_line h (((d ++ codes ". ") ++ line_behind d t) ++ 10 ∷ rest) plain

text_ends : (d h rest : List ℕ) → LacksNewline h → lines_of (piece h d [] rest) ≡ h ∷ lines_of rest
text_ends d h rest plain = ap (λ (x : List ℕ). lines_of (x ++ 10 ∷ rest)) (append-nil h) ∙ split_line h rest plain

-- ---- a text that is read

module _ (conn : ℕ) (small : IsConn conn) where
  abbrev own : List ℕ
  own = decimal conn

  rest_plain : (x : List ℕ) → LacksNewline x → LacksNewline (front_of_rest conn ++ x)
  rest_plain x plain = lacks_append 10 (front_of_rest conn) x (lacks_append 10 own (codes ". ") (digits_plain own (digits conn small)) (refl, (refl, tt))) plain

  text_plain : (x : List ℕ) → LacksNewline x → LacksNewline (front_of_text conn ++ x)
  text_plain x plain = lacks_append 10 (front_of_text conn) x (lacks_append 10 own (codes "< ") (digits_plain own (digits conn small)) (refl, (refl, tt))) plain

  -- its further lines, of which the first has begun with x
  further_read : (x t rest : List ℕ) → LacksNewline x → rest_in conn (lines_of (piece (front_of_rest conn ++ x) own t rest)) ≡ 10 ∷ ((x ++ t) ++ rest_in conn (lines_of rest))
  further_read x [] rest plain =
      ap (rest_in conn) (text_ends own (front_of_rest conn ++ x) rest (rest_plain x plain))
      ∙ ap (λ (o : Option (List ℕ)). option_map_or (λ part. 10 ∷ part ++ rest_in conn (lines_of rest)) o []) (after_front-append (front_of_rest conn) x)
      ∙ ap (λ (y : List ℕ). 10 ∷ (y ++ rest_in conn (lines_of rest))) (sym (append-nil x))
  further_read x (b ∷ t) rest plain = elim (eqb_tells b 10) [
    | inl is ↦
        let later = lines_of (piece (front_of_rest conn) own t rest) in
        ap (λ (c : ℕ). rest_in conn (lines_of (piece (front_of_rest conn ++ x) own (c ∷ t) rest))) is.1
        ∙ ap (rest_in conn) (line_ends own (front_of_rest conn ++ x) t rest (rest_plain x plain))
        ∙ ap (λ (o : Option (List ℕ)). option_map_or (λ part. 10 ∷ part ++ rest_in conn later) o []) (after_front-append (front_of_rest conn) x)
        ∙ ap (λ (y : List ℕ). 10 ∷ (x ++ y)) (ap (λ (y : List ℕ). rest_in conn (lines_of (piece y own t rest))) (sym (append-nil (front_of_rest conn))) ∙ further_read [] t rest tt)
        ∙ ap (λ (y : List ℕ). 10 ∷ y) (sym (append_assoc x (10 ∷ t) (rest_in conn (lines_of rest))))
        ∙ ap (λ (c : ℕ). 10 ∷ ((x ++ c ∷ t) ++ rest_in conn (lines_of rest))) (sym is.1)
    | inr other ↦
        ap (λ (y : List ℕ). rest_in conn (lines_of y)) (next_byte own (front_of_rest conn ++ x) t rest b other.0 ∙ ap (λ (y : List ℕ). piece y own t rest) (append_assoc (front_of_rest conn) x (b ∷ [])))
        ∙ further_read (x ++ b ∷ []) t rest (lacks_append 10 x (b ∷ []) plain (other.0, tt))
        ∙ ap (λ (y : List ℕ). 10 ∷ (y ++ rest_in conn (lines_of rest))) (append_assoc x (b ∷ []) t)
  ]

  further_begun : (t rest : List ℕ) → rest_in conn (lines_of (piece (front_of_rest conn) own t rest)) ≡ 10 ∷ (t ++ rest_in conn (lines_of rest))
  further_begun t rest = ap (λ (y : List ℕ). rest_in conn (lines_of (piece y own t rest))) (sym (append-nil (front_of_rest conn))) ∙ further_read [] t rest tt

-- ---- lines that aren't of a connection

abbrev found_in : ℕ → List (List ℕ) → Option (List ℕ) → List (List ℕ)
found_in conn lines o = option_to_list (option_map (λ part. part ++ rest_in conn lines) o)

module _ (conn : ℕ) where
  -- what begins with no front of its text, and goes on so, has none
  skipped : (d h t rest : List ℕ) → Misses (front_of_text conn) h → Misses (front_of_text conn) (d ++ codes ". ") → LacksNewline h → LacksNewline (d ++ codes ". ")
      → (x : List ℕ) → LacksNewline x → texts_in conn (lines_of (piece (h ++ x) d t rest)) ≡ texts_in conn (lines_of rest)
  skipped d h [] rest lacks later plain rest_is_plain x p =
      ap (texts_in conn) (text_ends d (h ++ x) rest (lacks_append 10 h x plain p))
      ∙ ap (λ (o : Option (List ℕ)). found_in conn (lines_of rest) o ++ texts_in conn (lines_of rest)) (lacks x)
  skipped d h (b ∷ t) rest lacks later plain rest_is_plain x p = elim (eqb_tells b 10) [
    | inl is ↦
        let further = lines_of (piece (d ++ codes ". ") d t rest) in
        ap (λ (c : ℕ). texts_in conn (lines_of (piece (h ++ x) d (c ∷ t) rest))) is.1
        ∙ ap (texts_in conn) (line_ends d (h ++ x) t rest (lacks_append 10 h x plain p))
        ∙ ap (λ (o : Option (List ℕ)). found_in conn further o ++ texts_in conn further) (lacks x)
        ∙ ap (λ (y : List ℕ). texts_in conn (lines_of (piece y d t rest))) (sym (append-nil (d ++ codes ". ")))
        ∙ skipped d (d ++ codes ". ") t rest later later rest_is_plain rest_is_plain [] tt
    | inr other ↦
        ap (λ (y : List ℕ). texts_in conn (lines_of y)) (next_byte d (h ++ x) t rest b other.0 ∙ ap (λ (y : List ℕ). piece y d t rest) (append_assoc h x (b ∷ [])))
        ∙ skipped d h t rest lacks later plain rest_is_plain (x ++ b ∷ []) (lacks_append 10 x (b ∷ []) p (other.0, tt))
  ]

  -- and no rest of one
  no_rest : (d h t rest : List ℕ) → Misses (front_of_rest conn) h → LacksNewline h → (x : List ℕ) → LacksNewline x → rest_in conn (lines_of (piece (h ++ x) d t rest)) ≡ []
  no_rest d h [] rest lacks plain x p =
      ap (rest_in conn) (text_ends d (h ++ x) rest (lacks_append 10 h x plain p))
      ∙ ap (λ (o : Option (List ℕ)). option_map_or (λ part. 10 ∷ part ++ rest_in conn (lines_of rest)) o []) (lacks x)
  no_rest d h (b ∷ t) rest lacks plain x p = elim (eqb_tells b 10) [
    | inl is ↦
        ap (λ (c : ℕ). rest_in conn (lines_of (piece (h ++ x) d (c ∷ t) rest))) is.1
        ∙ ap (rest_in conn) (line_ends d (h ++ x) t rest (lacks_append 10 h x plain p))
        ∙ ap (λ (o : Option (List ℕ)). option_map_or (λ part. 10 ∷ part ++ rest_in conn (lines_of (piece (d ++ codes ". ") d t rest))) o []) (lacks x)
    | inr other ↦
        ap (λ (y : List ℕ). rest_in conn (lines_of y)) (next_byte d (h ++ x) t rest b other.0 ∙ ap (λ (y : List ℕ). piece y d t rest) (append_assoc h x (b ∷ [])))
        ∙ no_rest d h t rest lacks plain (x ++ b ∷ []) (lacks_append 10 x (b ∷ []) p (other.0, tt))
  ]

-- ---- a text of the connection

module _ (conn : ℕ) (small : IsConn conn) where
  front_plain : LacksNewline (front_of_text conn)
  front_plain = lacks_append 10 (decimal conn) (codes "< ") (digits_plain (decimal conn) (digits conn small)) (refl, (refl, tt))

  rest_front_plain : LacksNewline (front_of_rest conn)
  rest_front_plain = lacks_append 10 (decimal conn) (codes ". ") (digits_plain (decimal conn) (digits conn small)) (refl, (refl, tt))

  text_read : (x t rest : List ℕ) → LacksNewline x
      → texts_in conn (lines_of (piece (front_of_text conn ++ x) (decimal conn) t rest)) ≡ ((x ++ t) ++ rest_in conn (lines_of rest)) ∷ texts_in conn (lines_of rest)
  text_read x [] rest plain =
      ap (texts_in conn) (text_ends (decimal conn) (front_of_text conn ++ x) rest (text_plain conn small x plain))
      ∙ ap (λ (o : Option (List ℕ)). found_in conn (lines_of rest) o ++ texts_in conn (lines_of rest)) (after_front-append (front_of_text conn) x)
      ∙ ap (λ (y : List ℕ). (y ++ rest_in conn (lines_of rest)) ∷ texts_in conn (lines_of rest)) (sym (append-nil x))
  text_read x (b ∷ t) rest plain = elim (eqb_tells b 10) [
    | inl is ↦
        let d = decimal conn in
        let further = lines_of (piece (front_of_rest conn) d t rest) in
        ap (λ (c : ℕ). texts_in conn (lines_of (piece (front_of_text conn ++ x) d (c ∷ t) rest))) is.1
        ∙ ap (texts_in conn) (line_ends d (front_of_text conn ++ x) t rest (text_plain conn small x plain))
        ∙ ap (λ (o : Option (List ℕ)). found_in conn further o ++ texts_in conn further) (after_front-append (front_of_text conn) x)
        ∙ ap (λ (y : List ℕ). (x ++ y) ∷ texts_in conn further) (further_begun conn small t rest)
        ∙ ap (λ (more : List (List ℕ)). (x ++ 10 ∷ (t ++ rest_in conn (lines_of rest))) ∷ more) (
        ap (λ (y : List ℕ). texts_in conn (lines_of (piece y d t rest))) (sym (append-nil (front_of_rest conn)))
        ∙ skipped conn d (front_of_rest conn) t rest (text_lacks_rest conn conn small small) (text_lacks_rest conn conn small small) rest_front_plain rest_front_plain [] tt)
        ∙ ap (λ (y : List ℕ). y ∷ texts_in conn (lines_of rest)) (sym (append_assoc x (10 ∷ t) (rest_in conn (lines_of rest))))
        ∙ ap (λ (c : ℕ). ((x ++ c ∷ t) ++ rest_in conn (lines_of rest)) ∷ texts_in conn (lines_of rest)) (sym is.1)
    | inr other ↦
        ap (λ (y : List ℕ). texts_in conn (lines_of y)) (next_byte (decimal conn) (front_of_text conn ++ x) t rest b other.0 ∙ ap (λ (y : List ℕ). piece y (decimal conn) t rest) (append_assoc (front_of_text conn) x (b ∷ [])))
        ∙ text_read (x ++ b ∷ []) t rest (lacks_append 10 x (b ∷ []) plain (other.0, tt))
        ∙ ap (λ (y : List ℕ). (y ++ rest_in conn (lines_of rest)) ∷ texts_in conn (lines_of rest)) (append_assoc x (b ∷ []) t)
  ]

-- ---- a message that is printed

further_printed : (k : ℕ) (h : List ℕ) (ls : List (List ℕ)) → (h ++ 10 ∷ []) ++ flat_map (further_line k) ls ≡ (h ++ line_behind (decimal k) (behind ls)) ++ 10 ∷ []
further_printed k h [] = append-nil (h ++ 10 ∷ []) ∙ ap (λ (x : List ℕ). x ++ 10 ∷ []) (sym (append-nil h))
further_printed k h (l ∷ ls) =
    let d = decimal k in
    let more = (d ++ codes ". ") ++ line_behind d l in
    let begun = (h ++ 10 ∷ []) ++ more in
    sym (append_assoc (h ++ 10 ∷ []) (more ++ 10 ∷ []) (flat_map (further_line k) ls))
    ∙ ap (λ (x : List ℕ). x ++ flat_map (further_line k) ls) (sym (append_assoc (h ++ 10 ∷ []) more (10 ∷ [])))
    ∙ further_printed k begun ls
    ∙ ap (λ (x : List ℕ). x ++ 10 ∷ []) (
    append_assoc (h ++ 10 ∷ []) more (line_behind d (behind ls))
    ∙ append_assoc h (10 ∷ []) (more ++ line_behind d (behind ls))
    ∙ ap (λ (x : List ℕ). h ++ x) (sym (flat_map-append (byte_behind d) (10 ∷ l) (behind ls))))

-- it is its text
message_printed : (k : ℕ) (l : List ℕ) (ls : List (List ℕ)) (rest : List ℕ) → printed k (l ∷ ls) ++ rest ≡ piece (front_of_text k) (decimal k) (joined (l ∷ ls)) rest
message_printed k l ls rest =
    let d = decimal k in
    ap (λ (x : List ℕ). x ++ rest) (
    further_printed k (front_of_text k ++ line_behind d l) ls
    ∙ ap (λ (x : List ℕ). x ++ 10 ∷ []) (
    append_assoc (front_of_text k) (line_behind d l) (line_behind d (behind ls))
    ∙ ap (λ (x : List ℕ). front_of_text k ++ x) (sym (flat_map-append (byte_behind d) l (behind ls)))))
    ∙ append_assoc (front_of_text k ++ line_behind d (joined (l ∷ ls))) (10 ∷ []) rest

-- ---- all that is printed

abbrev conn_of : Sign → ℕ
conn_of (told message) = message.conn
conn_of (over conn) = conn

abbrev pub AreConns : List Sign → Type 0
AreConns [] = Unit {0}
AreConns (sign ∷ signs) = IsConn (conn_of sign) × AreConns signs

nothing_behind : (d s : List ℕ) (c : ℕ) → after_front (d ++ c ∷ s) [] ≡ None
nothing_behind [] s c = refl
nothing_behind (b ∷ d) s c = refl

end_line : (o : ℕ) (rest : List ℕ) → IsConn o → lines_of (over_line o ++ rest) ≡ (decimal o ++ codes "! OwnLimit") ∷ lines_of rest
end_line o rest small =
    ap lines_of (append_assoc (decimal o ++ codes "! OwnLimit") (10 ∷ []) rest)
    ∙ split_line (decimal o ++ codes "! OwnLimit") rest (lacks_append 10 (decimal o) (codes "! OwnLimit") (digits_plain (decimal o) (digits o small)) (refl, (refl, (refl, (refl, (refl, (refl, (refl, (refl, (refl, (refl, tt)))))))))))

module _ (conn : ℕ) (small : IsConn conn) where
  -- no text goes on behind a message
  message_rest : (k : ℕ) (ls : List (List ℕ)) (rest : List ℕ) → IsConn k → rest_in conn (lines_of rest) ≡ [] → rest_in conn (lines_of (printed k ls ++ rest)) ≡ []
  message_rest k [] rest few none = none
  message_rest k (l ∷ ls) rest few none =
      ap (λ (x : List ℕ). rest_in conn (lines_of x)) (message_printed k l ls rest ∙ ap (λ (h : List ℕ). piece h (decimal k) (joined (l ∷ ls)) rest) (sym (append-nil (front_of_text k))))
      ∙ no_rest conn (decimal k) (front_of_text k) (joined (l ∷ ls)) rest (rest_lacks_text conn k small few) (front_plain k few) [] tt

  nothing_goes_on : (signs : List Sign) → AreConns signs → rest_in conn (lines_of (flat_map print_sign signs)) ≡ []
  nothing_goes_on [] few = ap (λ (o : Option (List ℕ)). option_map_or (λ part. 10 ∷ part ++ []) o []) (nothing_behind (decimal conn) (32 ∷ []) 46)
  nothing_goes_on (told m ∷ signs) few = message_rest m.conn (with_id m.id m.lines) (flat_map print_sign signs) few.0 (nothing_goes_on signs few.1)
  nothing_goes_on (over o ∷ signs) few =
      let later = lines_of (flat_map print_sign signs) in
      ap (rest_in conn) (end_line o (flat_map print_sign signs) few.0)
      ∙ ap (λ (x : Option (List ℕ)). option_map_or (λ part. 10 ∷ part ++ rest_in conn later) x [])
      (ap (after_front (front_of_rest conn)) (sym (append-nil (decimal o ++ codes "! OwnLimit"))) ∙ rest_lacks_end conn o small few.0 [])

  -- the text of a message, where it is one to the connection
  message_read : (k : ℕ) (ls : List (List ℕ)) (rest : List ℕ) → IsConn k → rest_in conn (lines_of rest) ≡ []
      → texts_in conn (lines_of (printed k ls ++ rest)) ≡ cond (k == conn) (map joined (sent ls)) [] ++ texts_in conn (lines_of rest)
  message_read k [] rest few none = by_test (k == conn)
    where
      by_test : (b : Bool) → texts_in conn (lines_of rest) ≡ cond {A = List (List ℕ)} b [] [] ++ texts_in conn (lines_of rest)
      by_test true = refl
      by_test false = refl
  message_read k (l ∷ ls) rest few none =
      ap (λ (x : List ℕ). texts_in conn (lines_of x)) (message_printed k l ls rest ∙ ap (λ (h : List ℕ). piece h (decimal k) (joined (l ∷ ls)) rest) (sym (append-nil (front_of_text k))))
      ∙ elim (eqb_tells k conn) [
        | inl same ↦
            rw same.0 (
            ap (λ (n : ℕ). texts_in conn (lines_of (piece (front_of_text n ++ []) (decimal n) (joined (l ∷ ls)) rest))) same.1
            ∙ text_read conn small [] (joined (l ∷ ls)) rest tt
            ∙ ap (λ (x : List ℕ). (joined (l ∷ ls) ++ x) ∷ texts_in conn (lines_of rest)) none
            ∙ ap (λ (x : List ℕ). x ∷ texts_in conn (lines_of rest)) (append-nil (joined (l ∷ ls))))
        | inr other ↦
            rw other.0 (skipped conn (decimal k) (front_of_text k) (joined (l ∷ ls)) rest
            (text_lacks conn k small few (λ is. other.1 (sym is))) (text_lacks_rest conn k small few) (front_plain k few) (rest_front_plain k few) [] tt)
      ]

  -- of all that is printed for some connections, the texts to this one
  pub all_read : (signs : List Sign) → AreConns signs → texts_in conn (lines_of (flat_map print_sign signs)) ≡ flat_map (text_to conn) (filter_map message_in signs)
  all_read [] few = ap (λ (o : Option (List ℕ)). found_in conn [] o ++ []) (nothing_behind (decimal conn) (32 ∷ []) 60)
  all_read (told m ∷ signs) few =
      message_read m.conn (with_id m.id m.lines) (flat_map print_sign signs) few.0 (nothing_goes_on signs few.1)
      ∙ ap (λ (more : List (List ℕ)). text_to conn m ++ more) (all_read signs few.1)
  all_read (over o ∷ signs) few =
      let later = lines_of (flat_map print_sign signs) in
      ap (texts_in conn) (end_line o (flat_map print_sign signs) few.0)
      ∙ ap (λ (x : Option (List ℕ)). found_in conn later x ++ texts_in conn later)
      (ap (after_front (front_of_text conn)) (sym (append-nil (decimal o ++ codes "! OwnLimit"))) ∙ text_lacks_end conn o small few.0 [])
      ∙ all_read signs few.1
