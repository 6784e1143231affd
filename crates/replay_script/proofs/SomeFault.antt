-- Every text is a script or has a first fault.
use Rattle.std.proofs.Common.{◌≡◌, ◌≢◌, ◌⊎◌, ℕ, zero, suc, ◌+◌, ◌^◌, ◌<◌, ◌==◌, true, false, List, [], ◌∷◌, ◌++◌, length, get_or, codes, Some, None, refl, sym, ap, ◌∙◌, arith, inl, inr}
use Rattle.std.specs.Prelude.{nat_lt, nat_le}
use Rattle.std.specs.Fmt.{decimal}
use Rattle.std.specs.Str.{IsUtf8, is_utf8, bytes_eq}
use Rattle.std.specs.Str.Lines.{lines}
use Rattle.std.specs.Str.Parse.{digits_value}
use Rattle.std.proofs.Math.Utf8.{encode, encodes}
use Rattle.std.proofs.lemmas.Bool.{cases_Bool, cases_eq, cases_lt}
use Rattle.std.proofs.lemmas.Fmt.{decimal_is_IsNumeral}
use Rattle.std.proofs.lemmas.Slice.Eq.{bytes_eq-Decides}
use Rattle.std.proofs.lemmas.Str.{IsUtf8-from_is_utf8, is_utf8-from_IsUtf8, IsUtf8-past_char, encode_ascii}
use Rattle.ps_base.specs.Ids.{id_in, is_id}
use Rattle.ps_base.specs.Numbers.{IsNumeral}
use Rattle.ps_base.specs.Limits.{most_text}
use Rattle.replay_script.specs.declared.item.Item.{Item}
use Rattle.replay_script.specs.declared.item.Item.TheVariants.{Nothing, Moment, Group, Open, Send, Close}
use Rattle.replay_script.specs.declared.script.ScriptKind.{ScriptKind}
use Rattle.replay_script.specs.declared.script.ScriptKind.TheVariants as kinds
use Rattle.replay_script.specs.Controls.{has_control}
use Rattle.replay_script.specs.Items.{IsItem, IsIdle, IsNumber, IsSend, IsGroup, IsCharFirst}
use Rattle.replay_script.specs.Scripts.{Seen, start, IsLine, AreItems, has_symbol, is_open, next, fault_of, seen_after, IsFault, IsFirstFault, IsScript}
use Rattle.replay_script.proofs.ItemLemmas.{NoSpace, no_number, no_space, no_send, no_char, group_parts, no_group_space, no_group_id}

abbrev Known : Type 0 → Type 0
Known P = P ⊎ (P → ⊥)

-- ---- what a line says

front_in : (front text : List ℕ) → Known ((rest : List ℕ) × (text ≡ front ++ rest))
front_in [] text = inl (text, refl)
front_in (p ∷ front) [] = inr (λ h. let e : [] ≡ p ∷ (front ++ h.0) = h.1 in cc)
front_in (p ∷ front) (b ∷ text) =
    elim (cases_eq b p) [
      | inl e ↦ elim (front_in front text) [ inl h ↦ inl (h.0, cc (e, h.1)) | inr none ↦ inr (λ h. none (h.0, cc (h.1))) ]
      | inr d ↦ inr (λ h. d (cc (h.1)))
    ]

value_of : (text : List ℕ) (n : ℕ) → IsNumeral text n → digits_value 10 text ≡ n
value_of text n h = rw h.spelled ((decimal_is_IsNumeral n (omega (arith, h.small))).1)

numeral_in : (text : List ℕ) → Known ((n : ℕ) × IsNumeral text n)
numeral_in text =
    elim (cases_Bool (bytes_eq text (decimal (digits_value 10 text)))) [
      | inl e ↦ elim (cases_lt (digits_value 10 text) (2 ^ 32)) [
        | inl small ↦ inl (digits_value 10 text, record { spelled = (bytes_eq-Decides text (decimal (digits_value 10 text))).0 e; small = small })
        | inr big ↦ inr (λ h. omega (arith, big, value_of text h.0 h.1, h.1.small))
      ]
      | inr e ↦ inr (λ h. let same : bytes_eq text (decimal (digits_value 10 text)) ≡ true = (bytes_eq-Decides text (decimal (digits_value 10 text))).1 (h.1.spelled ∙ ap decimal (sym (value_of text h.0 h.1))) in cc)
    ]

idle_in : (line : List ℕ) → Known (IsIdle line)
idle_in [] = inl (inl refl)
idle_in (b ∷ line) =
    elim (cases_eq b 59) [
      | inl e ↦ inl (inr (line, cc e))
      | inr d ↦ inr (λ h. elim h [ inl e ↦ cc | inr r ↦ d (cc (r.1)) ])
    ]

number_line : (front line : List ℕ) → Known ((n : ℕ) × IsNumber front line n)
number_line front line =
    elim (front_in front line) [
      | inl h ↦ elim (numeral_in h.0) [
        | inl m ↦ inl (m.0, record { digits = h.0; spelled = h.1; numeral = m.1 })
        | inr none ↦ inr (λ p. no_number front line h.0 h.1 (λ n k. none (n, k)) p.0 p.1)
      ]
      | inr none ↦ inr (λ p. none (p.1.digits, p.1.spelled))
    ]

-- round the first space
record Cut (text : List ℕ) : Type 0 where
  digits : List ℕ
  rest : List ℕ
  parts : text ≡ digits ++ 32 ∷ rest
  first : NoSpace digits

no_space_more : (b : ℕ) (xs : List ℕ) → b ≢ 32 → NoSpace xs → (i : ℕ) → i < length (b ∷ xs) → get_or (b ∷ xs) i 0 ≢ 32
no_space_more b xs d n zero lt = d
no_space_more b xs d n (suc i) lt = n i (omega arith)

space_in : (text : List ℕ) → Cut text ⊎ NoSpace text
space_in [] = inr (λ i lt. absurd (omega arith))
space_in (b ∷ text) =
    elim (cases_eq b 32) [
      | inl e ↦ inl (record { digits = []; rest = text; parts = cc e; first = λ i lt. absurd (omega arith) })
      | inr d ↦ elim (space_in text) [
        | inl c ↦ inl (record { digits = b ∷ c.digits; rest = c.rest; parts = cc (c.parts); first = no_space_more b c.digits d c.first })
        | inr n ↦ inr (no_space_more b text d n)
      ]
    ]

send_line : (line : List ℕ) → Known ((n : ℕ) × (text : List ℕ) × IsSend line n text)
send_line line =
    elim (front_in (codes ">") line) [
      | inl h ↦ elim (space_in h.0) [
        | inl c ↦ elim (numeral_in c.digits) [
          | inl m ↦ inl (m.0, c.rest, record { digits = c.digits; spelled = h.1 ∙ ap (λ (x : List ℕ). codes ">" ++ x) c.parts; numeral = m.1 })
          | inr none ↦ inr (λ p. no_send line h.0 c.digits c.rest h.1 c.parts c.first (λ n k. none (n, k)) p.0 p.1 p.2)
        ]
        | inr none ↦ inr (λ p. no_space line h.0 h.1 none p.0 p.1 p.2)
      ]
      | inr none ↦ inr (λ p. none (p.2.digits ++ 32 ∷ p.1, p.2.spelled))
    ]

char_of : (cs text : List ℕ) → encodes cs ≡ text → Known ((c : ℕ) × (rest : List ℕ) × IsCharFirst text c rest)
char_of [] text e = inr (λ p. no_char text p.0 p.1 (sym (ap length e)) p.2)
char_of (c ∷ cs) text e = inl (c, encodes cs, sym e)

id_known : (word : List ℕ) → (id_in word ≡ Some word) ⊎ (id_in word ≡ None)
id_known [] = inr refl
id_known (b ∷ word) = elim (cases_Bool (is_id (b ∷ word))) [ inl e ↦ inl (rw e refl) | inr e ↦ inr (rw e refl) ]

behind_ascii : (c : ℕ) (rest : List ℕ) → c < 128 → IsUtf8 (c ∷ rest) → IsUtf8 rest
behind_ascii c rest small u = IsUtf8-past_char (c ∷ rest) rest c u (sym (ap (λ (x : List ℕ). x ++ rest) (encode_ascii c small)))

behind_front : (line rest : List ℕ) → line ≡ codes "G " ++ rest → IsUtf8 line → IsUtf8 rest
behind_front line rest e u = behind_ascii 32 rest (omega arith) (behind_ascii 71 (32 ∷ rest) (omega arith) (rw e at u))

group_line : (line : List ℕ) → IsUtf8 line → Known ((symbol : ℕ) × (id : List ℕ) × IsGroup line symbol id)
group_line line u =
    elim (front_in (codes "G ") line) [
      | inl h ↦ group_from line h.0 h.1 (behind_front line h.0 h.1 u)
      | inr none ↦ inr (λ p. none (encode p.0 ++ 32 ∷ p.1, p.2.spelled))
    ]
  where
    group_word : (line rest more : List ℕ) (c : ℕ) → line ≡ codes "G " ++ rest → IsCharFirst rest c more → Known ((symbol : ℕ) × (id : List ℕ) × IsGroup line symbol id)
    group_word line rest more c e f =
        elim (front_in (32 ∷ []) more) [
          | inl w ↦ elim (id_known w.0) [
            | inl named ↦ inl (c, w.0, record { spelled = e ∙ ap (λ (x : List ℕ). codes "G " ++ x) (f ∙ ap (λ (x : List ℕ). encode c ++ x) w.1); named = named })
            | inr none ↦ inr (λ p. no_group_id line rest more w.0 c e f w.1 none p.0 p.1 p.2)
          ]
          | inr none ↦ inr (λ p. no_group_space line rest more c e f (λ x k. none (x, k)) p.0 p.1 p.2)
        ]

    group_from : (line rest : List ℕ) → line ≡ codes "G " ++ rest → IsUtf8 rest → Known ((symbol : ℕ) × (id : List ℕ) × IsGroup line symbol id)
    group_from line rest e u =
        elim (char_of u.0 rest u.1.1) [
          | inl f ↦ group_word line rest f.1 f.0 e f.2
          | inr none ↦ inr (λ p. none (p.0, 32 ∷ p.1, group_parts line rest p.0 p.1 e p.2))
        ]

no_form : (line : List ℕ) → (IsIdle line → ⊥) → (((n : ℕ) × IsNumber (codes "T ") line n) → ⊥) → (((symbol : ℕ) × (id : List ℕ) × IsGroup line symbol id) → ⊥) → (((n : ℕ) × IsNumber (codes "+") line n) → ⊥) → (((n : ℕ) × (text : List ℕ) × IsSend line n text) → ⊥) → (((n : ℕ) × IsNumber (codes "-") line n) → ⊥) → (i : Item) → IsItem line i → ⊥
no_form line idle moment group opens send close Nothing h = idle h
no_form line idle moment group opens send close (Moment n) h = moment (n, h)
no_form line idle moment group opens send close (Group symbol id) h = group (symbol, id, h)
no_form line idle moment group opens send close (Open n) h = opens (n, h)
no_form line idle moment group opens send close (Send n text) h = send (n, text, h)
no_form line idle moment group opens send close (Close n) h = close (n, h)

item_in : (line : List ℕ) → IsUtf8 line → Known ((i : Item) × IsItem line i)
item_in line u =
    elim (idle_in line) [
      | inl h ↦ inl (Nothing, h)
      | inr idle ↦
          elim (number_line (codes "T ") line) [
            | inl h ↦ inl (Moment h.0, h.1)
            | inr moment ↦
                elim (group_line line u) [
                  | inl h ↦ inl (Group h.0 h.1, h.2)
                  | inr group ↦
                      elim (number_line (codes "+") line) [
                        | inl h ↦ inl (Open h.0, h.1)
                        | inr opens ↦
                            elim (send_line line) [
                              | inl h ↦ inl (Send h.0 h.1, h.2)
                              | inr send ↦
                                  elim (number_line (codes "-") line) [
                                    | inl h ↦ inl (Close h.0, h.1)
                                    | inr close ↦
                                        inr (λ p. no_form line idle moment group opens send close p.0 p.1)
                                  ]
                            ]
                      ]
                ]
          ]
    ]

-- ---- a line after others

abbrev Placed : Seen → List ℕ → Item → Type 0
Placed s line i = (fault_of s i ≡ None) ⊎ ((kind : ScriptKind) × IsFault s line kind)

placed : (s : Seen) (line : List ℕ) (i : Item) → IsLine line i → Placed s line i
placed s line Nothing l = inl refl
placed s line (Moment n) l =
    elim (cases_Bool (nat_lt n s.moment)) [ inl e ↦ inr (kinds.Order, (Moment n, l, rw e refl)) | inr e ↦ inl (rw e refl) ]
placed s line (Group symbol id) l =
    elim (cases_Bool (nat_lt 0 (length s.opened))) [
      | inl e ↦ inr (kinds.Order, (Group symbol id, l, rw e refl))
      | inr e ↦ elim (cases_Bool (has_symbol s.symbols symbol)) [ inl f ↦ inl (rw (e, f) refl) | inr f ↦ inr (kinds.Group, (Group symbol id, l, rw (e, f) refl)) ]
    ]
placed s line (Open n) l =
    elim (cases_Bool (n == length s.opened + 1)) [
      | inl e ↦ elim (cases_Bool (nat_le n 1024)) [ inl f ↦ inl (rw (e, f) refl) | inr f ↦ inr (kinds.Many, (Open n, l, rw (e, f) refl)) ]
      | inr e ↦ inr (kinds.Order, (Open n, l, rw e refl))
    ]
placed s line (Send n text) l =
    elim (cases_Bool (is_open s.opened n)) [
      | inl e ↦ elim (cases_Bool (nat_le (length text) most_text)) [ inl f ↦ inl (rw (e, f) refl) | inr f ↦ inr (kinds.Long, (Send n text, l, rw (e, f) refl)) ]
      | inr e ↦ inr (kinds.Order, (Send n text, l, rw e refl))
    ]
placed s line (Close n) l =
    elim (cases_Bool (is_open s.opened n)) [ inl e ↦ inl (rw e refl) | inr e ↦ inr (kinds.Order, (Close n, l, rw e refl)) ]

line_in : (s : Seen) (line : List ℕ) → ((i : Item) × IsLine line i × (fault_of s i ≡ None)) ⊎ ((kind : ScriptKind) × IsFault s line kind)
line_in s line =
    elim (cases_Bool (is_utf8 line)) [
      | inl e ↦ from_utf8 (IsUtf8-from_is_utf8 line e)
      | inr e ↦ inr (kinds.Utf8, λ u. let both : true ≡ false = sym (is_utf8-from_IsUtf8 line u) ∙ e in cc)
    ]
  where
    from_utf8 : IsUtf8 line → ((i : Item) × IsLine line i × (fault_of s i ≡ None)) ⊎ ((kind : ScriptKind) × IsFault s line kind)
    from_utf8 u =
        elim (cases_Bool (has_control line)) [
          | inl e ↦ inr (kinds.Control, (u, e))
          | inr e ↦ elim (item_in line u) [
            | inl h ↦ elim (placed s line h.0 (record { utf8 = u; no_control = e; item = h.1 })) [
              | inl f ↦ inl (h.0, record { utf8 = u; no_control = e; item = h.1 }, f)
              | inr f ↦ inr f
            ]
            | inr none ↦ inr (kinds.Form, (u, e, λ i h. none (i, h)))
          ]
        ]

-- ---- all lines

record Faulty (s : Seen) (ls : List (List ℕ)) : Type 0 where
  kind : ScriptKind
  items : List Item
  before : List (List ℕ)
  text : List ℕ
  after : List (List ℕ)
  parts : ls ≡ before ++ text ∷ after
  good : AreItems s before items
  bad : IsFault (seen_after s items) text kind

lines_in : (s : Seen) (ls : List (List ℕ)) → ((items : List Item) × AreItems s ls items) ⊎ Faulty s ls
lines_in s [] = inl ([], tt)
lines_in s (l ∷ ls) =
    elim (line_in s l) [
      | inl h ↦ elim (lines_in (next s h.0) ls) [
        | inl m ↦ inl (h.0 ∷ m.0, (h.1, h.2, m.1))
        | inr f ↦ inr (record { kind = f.kind; items = h.0 ∷ f.items; before = l ∷ f.before; text = f.text; after = f.after; parts = ap (λ (x : List (List ℕ)). l ∷ x) f.parts; good = (h.1, h.2, f.good); bad = f.bad })
      ]
      | inr b ↦ inr (record { kind = b.0; items = []; before = []; text = l; after = ls; parts = refl; good = tt; bad = b.1 })
    ]

pub some_fault : (symbols bytes : List ℕ) → ((items : List Item) × IsScript symbols bytes items) ⊎ ((line : ℕ) × (kind : ScriptKind) × IsFirstFault symbols bytes line kind)
some_fault symbols bytes =
    elim (lines_in (start symbols) (lines bytes)) [
      | inl h ↦ inl h
      | inr f ↦ inr (length f.before + 1, f.kind, record { items = f.items; before = f.before; text = f.text; after = f.after; parts = f.parts; index = refl; good = f.good; bad = f.bad })
    ]
