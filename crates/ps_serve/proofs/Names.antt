-- An id names one place.
use Rattle.std.proofs.Common.{◌≡◌, ◌≢◌, ℕ, ◌+◌, ◌<◌, ◌≤◌, true, false, List, [], ◌∷◌, ◌++◌, map, refl, sym, ap, ◌∙◌, subst, ⊎_elim, arith, append_assoc, codes, decimal, Option, Some, leb}
use Rattle.std.proofs.lemmas.Bool.Decides.{leb_tells}
use Rattle.std.proofs.lemmas.Fmt.{decimal-digits_of, decimal_injective}
use Rattle.std.specs.Int.Digits.{digits_of}
use Rattle.rules_config.specs.declared.settings.ChatRoom.{ChatRoom}
use Rattle.rules_config.specs.declared.settings.Settings.{Settings}
use Rattle.ps_hub.specs.Names.{IsChatId, IsFirstChat, IsBattleId, IsNoChat, Names}

-- ---- the number at the end of a battle's id

abbrev HasNoDash : List ℕ → Type 0
HasNoDash [] = Unit {0}
HasNoDash (c ∷ cs) = (c ≢ 45) × HasNoDash cs

digits_bare : (ds : List ℕ) → HasNoDash (map (λ d. 48 + d) ds)
digits_bare [] = tt
digits_bare (d ∷ ds) = (λ e. absurd (omega arith), digits_bare ds)

decimal_bare : (n : ℕ) → 1 ≤ n → n ≤ 65536 → HasNoDash (decimal n)
decimal_bare n above below = subst HasNoDash (sym (decimal-digits_of n (omega arith) (omega arith))) (digits_bare (digits_of 10 n))

abbrev rest : List ℕ → List ℕ
rest [] = []
rest (c ∷ cs) = cs

has_dash : {P : Type 0} → (xs ys : List ℕ) → HasNoDash (xs ++ 45 ∷ ys) → P
has_dash [] ys bare = absurd (bare.0 refl)
has_dash (x ∷ xs) ys bare = has_dash xs ys bare.1

behind_dash : (xs ys ds es : List ℕ) → HasNoDash ds → HasNoDash es → xs ++ 45 ∷ ds ≡ ys ++ 45 ∷ es → ds ≡ es
behind_dash [] [] ds es d e is = ap rest is
behind_dash [] (y ∷ ys) ds es d e is = has_dash ys es (subst HasNoDash (ap rest is) d)
behind_dash (x ∷ xs) [] ds es d e is = has_dash xs ds (subst HasNoDash (sym (ap rest is)) e)
behind_dash (x ∷ xs) (y ∷ ys) ds es d e is = behind_dash xs ys ds es d e (ap rest is)

one_battle : (id : List ℕ) (m n : ℕ) → IsBattleId id m → IsBattleId id n → m ≡ n
one_battle id m n a b =
    let one : id ≡ (codes "battle-" ++ a.0) ++ 45 ∷ decimal m = a.1 ∙ append_assoc (codes "battle-" ++ a.0) (codes "-") (decimal m) in
    let two : id ≡ (codes "battle-" ++ b.0) ++ 45 ∷ decimal n = b.1 ∙ append_assoc (codes "battle-" ++ b.0) (codes "-") (decimal n) in
    let m_low : 1 ≤ m = a.2 in
    let m_high : m ≤ 65536 = a.3 in
    let n_low : 1 ≤ n = b.2 in
    let n_high : n ≤ 65536 = b.3 in
    decimal_injective m n (omega arith) (omega arith) (behind_dash (codes "battle-" ++ a.0) (codes "battle-" ++ b.0) (decimal m) (decimal n) (decimal_bare m m_low m_high) (decimal_bare n n_low n_high) (sym one ∙ two))

-- ---- places

not_below : (m n : ℕ) → (m < n → ⊥) → n ≤ m
not_below m n not = ⊎_elim (λ (t : (leb n m ≡ true) × (n ≤ m)). t.1) (λ (t : (leb n m ≡ false) × (m < n)). absurd (not t.1)) (leb_tells n m)

one_chat : (config : Settings) (id : List ℕ) (m n : ℕ) → IsFirstChat config id m → IsFirstChat config id n → m ≡ n
one_chat config id m n a b =
    let high : n ≤ m = not_below m n (λ lt. b.1 m lt a.0) in
    let low : m ≤ n = not_below n m (λ lt. a.1 n lt b.0) in
    omega arith

pub one_place : (config : Settings) (id : List ℕ) (m n : ℕ) → Names config id m → Names config id n → m ≡ n
one_place config id m n a b = ⊎_elim
    (λ (c : IsFirstChat config id m × (m < 16)). ⊎_elim
    (λ (d : IsFirstChat config id n × (n < 16)). one_chat config id m n c.0 d.0)
    (λ (d : (k : ℕ) × IsBattleId id k × (n ≡ 15 + k) × IsNoChat config id). absurd (d.3 m c.0.0))
    b)
    (λ (c : (k : ℕ) × IsBattleId id k × (m ≡ 15 + k) × IsNoChat config id). ⊎_elim
    (λ (d : IsFirstChat config id n × (n < 16)). absurd (c.3 n d.0.0))
    (λ (d : (k : ℕ) × IsBattleId id k × (n ≡ 15 + k) × IsNoChat config id). c.2 ∙ ap (λ (k : ℕ). 15 + k) (one_battle id c.0 d.0 c.1 d.1) ∙ sym d.2)
    b)
    a

-- the id of a chat room's place
pub one_id : (config : Settings) (number : ℕ) (one two : List ℕ) → number < 16 → Names config one number → Names config two number → one ≡ two
one_id config number one two low a b =
    let x = chat_of one a in
    let y = chat_of two b in
    sym x.2 ∙ same x.0 y.0 (sym x.1 ∙ y.1) ∙ y.2
  where
    chat_of : (id : List ℕ) → Names config id number → IsChatId config id number
    chat_of id names = ⊎_elim
        (λ (c : IsFirstChat config id number × (number < 16)). c.0.0)
        (λ (d : (k : ℕ) × IsBattleId id k × (number ≡ 15 + k) × IsNoChat config id). absurd (let one : 1 ≤ d.0 = d.1.2 in let is : number ≡ 15 + d.0 = d.2 in omega arith))
        names

    room_id : Option ChatRoom → List ℕ
    room_id (Some room) = room.id
    room_id other = []

    same : (x y : ChatRoom) → Some x ≡ Some y → x.id ≡ y.id
    same x y e = ap room_id e
