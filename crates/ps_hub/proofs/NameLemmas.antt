-- The parts of the id of a battle.
use Rattle.std.proofs.Common.{◌≡◌, ◌≢◌, ℕ, ◌+◌, ◌%◌, ◌<◌, ◌≤◌, ◌^◌, ◌==◌, Bool, true, false, if◌then◌else◌, List, [], ◌∷◌, ◌++◌, length, drop, codes, Option, Some, None, refl, sym, ap, ◌∙◌, inl, inr, arith, append_assoc}
use Rattle.std.specs.Prelude.{All, IfNone, slice_get}
use Rattle.std.specs.Fmt.{decimal}
use Rattle.std.proofs.lemmas.Bool.Decides.{eqb_tells}
use Rattle.std.proofs.lemmas.Fmt.{decimal_by_steps, decimal_is_IsNumeral}
use Rattle.std.proofs.lemmas.List.Elements.{All-nil, All-head, All-tail, All-push}
use Rattle.std.proofs.lemmas.Option.{none-some, same_Some, slice_get_within}
use Rattle.std.specs.Str.Parse.{digits_value}
use Rattle.std.proofs.lemmas.Bool.{ne_eqb, eq-eqb}
use Rattle.rules_config.specs.declared.settings.ChatRoom.{ChatRoom}
use Rattle.rules_config.specs.declared.settings.Settings.{Settings}
use Rattle.rules_start.specs.Starts.{battle_id}
use Rattle.ps_lines.specs.Parts.{before_parts, later_or_here, at_last}
use Rattle.ps_hub.specs.Names.{IsChatId, IsBattleId, IsFirstChat, IsNoChat, Names}

-- ---- the last of a byte

lacks : (c : ℕ) (text : List ℕ) → All (λ b. b ≢ c) text → at_last c text ≡ None
lacks c [] all = refl
lacks c (b ∷ text) all = rw (lacks c text (All-tail (λ b. b ≢ c) b text all), ne_eqb b c (All-head (λ b. b ≢ c) b text all)) refl

last_append : (c : ℕ) (front back : List ℕ) → at_last c back ≡ None → at_last c (front ++ c ∷ back) ≡ Some (front, back)
last_append c [] back none_there = rw (none_there, eq-eqb c c refl) refl
last_append c (b ∷ front) back none_there = rw (last_append c front back none_there) refl

-- the bytes of a number in decimal are digits
no_dash : (n : ℕ) → n < 2 ^ 64 → All (λ b. b ≢ 45) (decimal n)
no_dash n small = decimal_by_steps (λ (m : ℕ) (ds : List ℕ). All (λ b. b ≢ 45) ds)
    (λ (m : ℕ) (digit : m < 10). All-push (λ b. b ≢ 45) [] (48 + m) (All-nil (λ b. b ≢ 45)) (λ e. absurd (omega arith)))
    (λ (m : ℕ) (ds : List ℕ) (more : 10 ≤ m) (all : All (λ b. b ≢ 45) ds). All-push (λ b. b ≢ 45) ds (48 + m % 10) all (λ e. absurd (omega arith)))
    n small

no_dash_at_last : (n : ℕ) → n < 2 ^ 64 → at_last 45 (decimal n) ≡ None
no_dash_at_last n small = lacks 45 (decimal n) (no_dash n small)

-- ---- the parts of an id

-- in front of the format, and round the last dash
id_parts : (format : List ℕ) (n : ℕ) → battle_id format n ≡ codes "battle-" ++ (format ++ 45 ∷ decimal n)
id_parts format n = append_assoc (codes "battle-" ++ format) (codes "-") (decimal n) ∙ append_assoc (codes "battle-") format (codes "-" ++ decimal n)

pub battle_parts : (id rest : List ℕ) (n : ℕ) → id ≡ codes "battle-" ++ rest → IsBattleId id n → (format : List ℕ) × (at_last 45 rest ≡ Some (format, decimal n)) × (1 ≤ n) × (n ≤ 65536)
battle_parts id rest n front is =
    let below : n ≤ 65536 = is.3 in
    let after : rest ≡ is.0 ++ 45 ∷ decimal n = ap (λ (l : List ℕ). drop 7 l) (sym front ∙ is.1 ∙ id_parts is.0 n) in
    (is.0, ap (λ (l : List ℕ). at_last 45 l) after ∙ last_append 45 is.0 (decimal n) (no_dash_at_last n (omega arith)), is.2, is.3)

pub no_parts : (id rest : List ℕ) → id ≡ codes "battle-" ++ rest → at_last 45 rest ≡ None → (n : ℕ) → IsBattleId id n → ⊥
no_parts id rest front none n is = let parts = battle_parts id rest n front is in none-some _ (sym none ∙ parts.1)

-- what stands behind the dash is the number
pub number_behind : (id rest : List ℕ) (p : List ℕ × List ℕ) (n : ℕ) → id ≡ codes "battle-" ++ rest → at_last 45 rest ≡ Some p → IsBattleId id n → p.1 ≡ decimal n
number_behind id rest p n front at is =
    let parts = battle_parts id rest n front is in
    ap (λ (q : List ℕ × List ℕ). q.1) (same_Some p (parts.0, decimal n) (sym at ∙ parts.1))

-- a split at the last of a byte gives the text
split_here : (c b : ℕ) (text : List ℕ) (p : List ℕ × List ℕ) (test : Bool) → (b == c) ≡ test → (if test then Some ([], text) else None) ≡ Some p → b ∷ text ≡ p.0 ++ c ∷ p.1
split_here c b text p true is e =
    let same : b ≡ c = elim (eqb_tells b c) [ inl h ↦ h.1 | inr h ↦ cc ] in
    let parts : (([], text)) ≡ p = same_Some ([], text) p e in
    ap (λ (x : ℕ). x ∷ text) same ∙ ap (λ (q : List ℕ × List ℕ). q.0 ++ c ∷ q.1) parts
split_here c b text p false is e = absurd (none-some p e)

split_by : (c b : ℕ) (text : List ℕ) (p : List ℕ × List ℕ) (later : Option (List ℕ × List ℕ)) → ((q : List ℕ × List ℕ) → later ≡ Some q → text ≡ q.0 ++ c ∷ q.1) → later_or_here c b text later ≡ Some p → b ∷ text ≡ p.0 ++ c ∷ p.1
split_by c b text p (Some q) rec e = ap (λ (l : List ℕ). b ∷ l) (rec q refl) ∙ ap (λ (r : List ℕ × List ℕ). r.0 ++ c ∷ r.1) (same_Some (before_parts b q) p e)
split_by c b text p None rec e = split_here c b text p (b == c) refl e

split_at : (c : ℕ) (text : List ℕ) (p : List ℕ × List ℕ) → at_last c text ≡ Some p → text ≡ p.0 ++ c ∷ p.1
split_at c [] p e = absurd (none-some p e)
split_at c (b ∷ text) p e = split_by c b text p (at_last c text) (λ q is. split_at c text q is) e

pub battle_is : (id rest : List ℕ) (p : List ℕ × List ℕ) (n : ℕ) → id ≡ codes "battle-" ++ rest → at_last 45 rest ≡ Some p → p.1 ≡ decimal n → 1 ≤ n → n ≤ 65536 → IsBattleId id n
battle_is id rest p n front at digits above below =
    (p.0, front ∙ ap (λ (l : List ℕ). codes "battle-" ++ l) (split_at 45 rest p at ∙ ap (λ (l : List ℕ). p.0 ++ 45 ∷ l) digits) ∙ sym (id_parts p.0 n), above, below)

-- a number has one decimal text
same_number : (m n : ℕ) → m < 2 ^ 32 → n < 2 ^ 32 → decimal m ≡ decimal n → m ≡ n
same_number m n small little e = sym (decimal_is_IsNumeral m (omega arith)).1 ∙ ap (λ (l : List ℕ). digits_value 10 l) e ∙ (decimal_is_IsNumeral n (omega arith)).1

-- the number behind the last dash is no battle's
pub out_of_range : (id rest : List ℕ) (p : List ℕ × List ℕ) (number : ℕ) → id ≡ codes "battle-" ++ rest → at_last 45 rest ≡ Some p → p.1 ≡ decimal number → number < 2 ^ 32 → (1 ≤ number → number ≤ 65536 → ⊥) → (n : ℕ) → IsBattleId id n → ⊥
out_of_range id rest p number front at digits small out n is =
    let above : 1 ≤ n = is.2 in
    let below : n ≤ 65536 = is.3 in
    let same : n ≡ number = same_number n number (omega arith) small (sym (number_behind id rest p n front at is) ∙ digits) in
    out (omega arith) (omega arith)

pub if_none : {A : Type 0} (P : Type 0) (r : Option A) → P → IfNone r P
if_none P None p = p
if_none P (Some x) p = tt

-- ---- chat rooms

-- a chat room that none before it shares its id with
pub first_chat : (config : Settings) (id : List ℕ) (number : ℕ) (room : ChatRoom) → slice_get config.rooms number ≡ Some room → room.id ≡ id → ((before : ℕ) → before < number → IsChatId config id before → ⊥) → IsFirstChat config id number
first_chat config id number room there is before = ((room, there, is), before)

-- a room with another id
pub other_room : (config : Settings) (id : List ℕ) (number : ℕ) (room : ChatRoom) → slice_get config.rooms number ≡ Some room → room.id ≢ id → IsChatId config id number → ⊥
other_room config id number room there other is = other (ap (λ (r : ChatRoom). r.id) (same_Some room is.0 (sym there ∙ is.1)) ∙ is.2)

-- none of the rooms has it
pub no_chat_room : (config : Settings) (id : List ℕ) (count : ℕ) → length config.rooms ≤ count → ((before : ℕ) → before < count → IsChatId config id before → ⊥) → IsNoChat config id
no_chat_room config id count all before number is = let within : number < length config.rooms = slice_get_within config.rooms number is.0 is.1 in before number (omega arith) is

-- ---- places

pub names_battle : (config : Settings) (id : List ℕ) (n number : ℕ) → IsBattleId id n → number ≡ 15 + n → IsNoChat config id → Names config id number
names_battle config id n number battle is none = inr (n, battle, is, none)

pub names_none : (config : Settings) (id : List ℕ) → IsNoChat config id → ((n : ℕ) → IsBattleId id n → ⊥) → (number : ℕ) → Names config id number → ⊥
names_none config id chat battle number (inl first) = chat number first.0.0
names_none config id chat battle number (inr named) = battle named.0 named.1
