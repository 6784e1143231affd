-- The forms of a drill's lines: what a text makes of what a script has seen.
use Rattle.std.proofs.Common.{◌≡◌, ℕ, zero, suc, ◌+◌, ◌^◌, ◌<◌, ◌≤◌, ◌==◌, Bool, true, false, cond, leb, List, [], ◌∷◌, ◌++◌, length, codes, None, refl, sym, ap, ◌∙◌, subst, arith, add-one, append_assoc}
use Rattle.std.specs.Prelude.{replicate}
use Rattle.std.specs.Fmt.{decimal}
use Rattle.std.specs.Str.Lines.{lines}
use Rattle.std.proofs.lemmas.Bool.Decides.{nat_tests}
use Rattle.std.proofs.lemmas.List.{append-nil, length-replicate, get_or-replicate, replicate_more}
use Rattle.std.proofs.lemmas.Option.{unwrap_or-slice_get}
use Rattle.ps_base.specs.Limits.{most_text}
use Rattle.std.proofs.lemmas.Bool.{le-ltb}
use Rattle.replay_script.specs.declared.item.Item.{Item}
use Rattle.replay_script.specs.declared.item.Item.TheVariants.{Moment, Open, Send}
use Rattle.replay_script.specs.Items.{IsItem, IsNumber, IsSend}
use Rattle.replay_script.specs.Scripts.{Seen, start, fault_of, next, seen_after, is_open, AreItems, IsScript}
use Rattle.replay_drill.specs.Plain.{IsPlain}
use Rattle.replay_drill.proofs.PlainTexts.{words_plain, joined_plain, decimal_plain, plain_utf8, plain_no_control, plain_line}
use Rattle.ps_base.specs.Lists.{each_to}

-- the text is lines, each with its newline, that say items, and these make one state of the other
pub record Leads (before : Seen) (text : List ℕ) (behind : Seen) : Type 0 where
  pub items : List Item
  pub parts : List (List ℕ)
  pub cut : (rest : List ℕ) → lines (text ++ rest) ≡ parts ++ lines rest
  pub good : AreItems before parts items
  pub end : seen_after before items ≡ behind

-- ---- texts one behind the other

seen_after-append : (s : Seen) (one other : List Item) → seen_after s (one ++ other) ≡ seen_after (seen_after s one) other
seen_after-append s [] other = refl
seen_after-append s (i ∷ one) other = seen_after-append (next s i) one other

AreItems-append : (s : Seen) (ls ms : List (List ℕ)) (one other : List Item) → AreItems s ls one → AreItems (seen_after s one) ms other → AreItems s (ls ++ ms) (one ++ other)
AreItems-append s [] ms [] other p q = q
AreItems-append s [] ms (i ∷ one) other p q = absurd p
AreItems-append s (l ∷ ls) ms [] other p q = absurd p
AreItems-append s (l ∷ ls) ms (i ∷ one) other p q = (p.0, p.1, AreItems-append (next s i) ls ms one other p.2 q)

pub none_leads : (s : Seen) → Leads s [] s
none_leads s = record { items = []; parts = []; cut = λ rest. refl; good = tt; end = refl }

pub then_leads : {s t u : Seen} {one other : List ℕ} → Leads s one t → Leads t other u → Leads s (one ++ other) u
then_leads {s = s} {one = one} {other = other} p q = record {
  items = p.items ++ q.items;
  parts = p.parts ++ q.parts;
  cut = λ rest. ap lines (append_assoc one other rest) ∙ p.cut (other ++ rest) ∙ ap (λ (x : List (List ℕ)). p.parts ++ x) (q.cut rest) ∙ sym (append_assoc p.parts q.parts (lines rest));
  good = AreItems-append s p.parts q.parts p.items q.items p.good (subst (λ (x : Seen). AreItems x q.parts q.items) (sym p.end) q.good);
  end = seen_after-append s p.items q.items ∙ ap (λ (x : Seen). seen_after x q.items) p.end ∙ q.end;
}

-- a text for each number, where each leads from the state of its number to the next
pub each_leads : (f : ℕ → List ℕ) (state : ℕ → Seen) (n : ℕ) → ((k : ℕ) → k < n → Leads (state k) (f (suc k)) (state (suc k))) → Leads (state 0) (each_to f n) (state n)
each_leads f state zero h = none_leads (state 0)
each_leads f state (suc n) h = then_leads (each_leads f state n (λ k below. h k (omega arith))) (h n (omega arith))

pub choice_leads : {s t : Seen} {one other : List ℕ} (b : Bool) → Leads s one t → Leads s other t → Leads s (cond b one other) t
choice_leads true p q = p
choice_leads false p q = q

pub whole_leads : (symbols text : List ℕ) (t : Seen) → Leads (start symbols) text t → (items : List Item) × IsScript symbols text items
whole_leads symbols text t p =
    let all : lines text ≡ p.parts = ap lines (sym (append-nil text)) ∙ p.cut [] ∙ append-nil p.parts in
    (p.items, subst (λ (x : List (List ℕ)). AreItems (start symbols) x p.items) (sym all) p.good)

-- ---- one line

pub line_leads : (s : Seen) (most : ℕ) (line : List ℕ) (i : Item) → IsPlain most line → IsItem line i → fault_of s i ≡ None → Leads s (line ++ 10 ∷ []) (next s i)
line_leads s most line i plain says good = record {
  items = i ∷ [];
  parts = line ∷ [];
  cut = λ rest. ap lines (append_assoc line (10 ∷ []) rest) ∙ plain_line most line rest plain;
  good = (record { utf8 = plain_utf8 most line plain; no_control = plain_no_control most line plain; item = says }, good, tt);
  end = refl;
}

-- ---- states of a drill, by the moment and how many users have come, of whom none leaves

abbrev pub users : List ℕ → ℕ → ℕ → Seen
users symbols moment n = record { symbols = symbols; moment = moment; opened = replicate n true }

opened_next : (n : ℕ) → (suc n == length (replicate n true) + 1) ≡ true
opened_next n = grind (arith, nat_tests, length-replicate n true)

one_more : (n : ℕ) → replicate n true ++ true ∷ [] ≡ replicate (suc n) true
one_more n = replicate_more n true ∙ ap (λ (k : ℕ). replicate k true) (add-one n)

few_open : (n : ℕ) → n < 1024 → leb (suc n) 1024 ≡ true
few_open n h = grind (arith, nat_tests)

is_there : (n conn : ℕ) → 0 < conn → conn ≤ n → is_open (replicate n true) conn ≡ true
is_there n zero some few = absurd (omega arith)
is_there n (suc c) some few = unwrap_or-slice_get (replicate n true) c false ∙ get_or-replicate n c true false (omega arith)

-- ---- the three forms of lines

-- `+N`
pub open_leads : (symbols : List ℕ) (moment n : ℕ) → n < 1024 → Leads (users symbols moment n) (codes "+" ++ decimal (suc n) ++ 10 ∷ []) (users symbols moment (suc n))
open_leads symbols moment n few =
    let s : Seen = users symbols moment n in
    let plain : IsPlain 5 (codes "+" ++ decimal (suc n)) = joined_plain (words_plain (codes "+") refl) (decimal_plain 4 (suc n) (omega arith) (omega arith) (omega arith)) in
    let says : IsNumber (codes "+") (codes "+" ++ decimal (suc n)) (suc n) = record { digits = decimal (suc n); spelled = refl; numeral = record { spelled = refl; small = omega arith } } in
    let good : fault_of s (Open (suc n)) ≡ None = rw (opened_next n, few_open n few) in
    subst (λ (x : List Bool). Leads s (codes "+" ++ decimal (suc n) ++ 10 ∷ []) (record s { opened = x })) (one_more n) (line_leads s 5 (codes "+" ++ decimal (suc n)) (Open (suc n)) plain says good)

-- `T K`
pub time_leads : (symbols : List ℕ) (moment n k : ℕ) → moment ≤ k → k < 2 ^ 32 → Leads (users symbols moment n) (codes "T " ++ decimal k ++ 10 ∷ []) (users symbols k n)
time_leads symbols moment n k le small =
    let s : Seen = users symbols moment n in
    let plain : IsPlain 12 (codes "T " ++ decimal k) = joined_plain (words_plain (codes "T ") refl) (decimal_plain 10 k (omega arith) (omega arith) (omega arith)) in
    let says : IsNumber (codes "T ") (codes "T " ++ decimal k) k = record { digits = decimal k; spelled = refl; numeral = record { spelled = refl; small = small } } in
    line_leads s 12 (codes "T " ++ decimal k) (Moment k) plain says (rw (le-ltb k moment le))

-- `>N TEXT` of one of eight users, however it is put together
pub send_leads : {most : ℕ} {text : List ℕ} → (symbols : List ℕ) (moment conn : ℕ) (line : List ℕ) → 0 < conn → conn ≤ 8 → IsPlain most text → most ≤ most_text → line ≡ codes ">" ++ decimal conn ++ 32 ∷ text → Leads (users symbols moment 8) (line ++ 10 ∷ []) (users symbols moment 8)
send_leads {most = most} {text = text} symbols moment conn line some there p short is =
    let number : IsPlain 5 (codes ">" ++ decimal conn) = joined_plain (words_plain (codes ">") refl) (decimal_plain 4 conn (omega arith) (omega arith) (omega arith)) in
    let rest : IsPlain (1 + most) (32 ∷ text) = joined_plain (words_plain (32 ∷ []) refl) p in
    let plain : IsPlain (5 + (1 + most)) line = rw is (joined_plain number rest) in
    let says : IsSend line conn text = record { digits = decimal conn; spelled = is; numeral = record { spelled = refl; small = omega arith } } in
    let fits : leb (length text) most_text ≡ true = grind (arith, nat_tests, p.few, short) in
    line_leads (users symbols moment 8) (5 + (1 + most)) line (Send conn text) plain says (rw (is_there 8 conn some there, fits))
