-- What holds of each round.
use Rattle.std.proofs.Common.{◌≡◌, ◌⊎◌, ◌↔◌, ℕ, zero, suc, ◌+◌, ◌-◌, ◌<◌, ◌≤◌, List, [], ◌∷◌, ◌++◌, length, take, drop, None, IsSome, refl, sym, ap, ◌∙◌, arith, inl, inr}
use Rattle.std.proofs.lemmas.Bool.{cases_lt, false≢true}
use Rattle.std.proofs.lemmas.Bool.Decides.{nat_tests}
use Rattle.std.proofs.lemmas.Option.{none-some}
use Rattle.std.proofs.lemmas.List.{length-append, length-take, length-drop}
use Rattle.std.proofs.lemmas.List.Edits.{length-swap}
use Rattle.ps_calc.specs.Draws.{after, drawn}
use Rattle.ps_tour.specs.Brackets.{Round, size, entrants, shuffled, order, first_round, next_round, going_on, after_win, open_match, first_pair, champion_with, IsOneOf, IsRound}

-- ---- how a round goes on

pub still_playing : (through playing : List ℕ) → 0 < length playing → going_on through playing ≡ record { through = through; playing = playing }
still_playing through [] some = absurd (omega (arith, some))
still_playing through (p ∷ ps) some = refl

pub alone : (through playing : List ℕ) → length playing ≡ 0 → length through ≤ 1 → going_on through playing ≡ record { through = through; playing = playing }
alone through (p ∷ ps) none few = absurd (omega (arith, none))
alone [] [] none few = refl
alone (c ∷ []) [] none few = refl
alone (p ∷ q ∷ rest) [] none few = absurd (omega (arith, few))

pub turned : (through playing : List ℕ) → length playing ≡ 0 → 1 < length through → going_on through playing ≡ record { through = playing; playing = through }
turned through (p ∷ ps) none some = absurd (omega (arith, none))
turned [] [] none some = absurd (omega (arith, some))
turned (c ∷ []) [] none some = absurd (omega (arith, some))
turned (p ∷ q ∷ rest) [] none some = refl

-- ---- how many there are

pub few_through : (r : Round) → IsRound r → length r.through ≤ 8
few_through r is = elim is.next [
  | inl h ↦ omega (arith, h)
  | inr (inl h) ↦ omega (arith, h)
  | inr (inr (inl h)) ↦ omega (arith, h)
  | inr (inr (inr h)) ↦ omega (arith, h)
]

pub few_playing : (r : Round) → IsRound r → length r.playing ≤ 16
few_playing r is = elim is.next [
  | inl h ↦ omega (arith, h, is.paired)
  | inr (inl h) ↦ omega (arith, h, is.paired)
  | inr (inr (inl h)) ↦ omega (arith, h, is.paired)
  | inr (inr (inr h)) ↦ omega (arith, h, is.paired)
]

pub two_there : (winner : ℕ) (playing : List ℕ) → IsOneOf winner (first_pair playing) → 2 ≤ length playing
two_there winner [] one = absurd one
two_there winner (p ∷ []) one = absurd one
two_there winner (p ∷ q ∷ rest) one = omega arith

-- ---- each round is one

next_is_round : (through : List ℕ) → (length through ≡ 1) ⊎ ((length through ≡ 2) ⊎ ((length through ≡ 4) ⊎ (length through ≡ 8))) → IsRound (next_round through)
next_is_round [] few = absurd (elim few [
  | inl h ↦ omega (arith, h)
  | inr (inl h) ↦ omega (arith, h)
  | inr (inr (inl h)) ↦ omega (arith, h)
  | inr (inr (inr h)) ↦ omega (arith, h)
])
next_is_round (c ∷ []) few = record { matches = 0; paired = refl; next = inl refl; alone = λ _. refl }
next_is_round (p ∷ q ∷ rest) few = elim few [
  | inl h ↦ absurd (omega (arith, h))
  | inr (inl h) ↦ record { matches = 1; paired = h; next = inl refl; alone = λ e. absurd (omega (arith, ap length e)) }
  | inr (inr (inl h)) ↦ record { matches = 2; paired = h; next = inr (inl refl); alone = λ e. absurd (omega (arith, ap length e)) }
  | inr (inr (inr h)) ↦ record { matches = 4; paired = h; next = inr (inr (inl refl)); alone = λ e. absurd (omega (arith, ap length e)) }
]

going_is_round : (through rest : List ℕ) (matches : ℕ) → length rest ≡ matches + matches → (length through + matches ≡ 1) ⊎ ((length through + matches ≡ 2) ⊎ ((length through + matches ≡ 4) ⊎ (length through + matches ≡ 8))) → IsRound (going_on through rest)
going_is_round through [] matches paired next =
    let none : matches ≡ 0 = omega (arith, paired) in
    next_is_round through (elim next [
      | inl h ↦ inl (omega (arith, h, none))
      | inr (inl h) ↦ inr (inl (omega (arith, h, none)))
      | inr (inr (inl h)) ↦ inr (inr (inl (omega (arith, h, none))))
      | inr (inr (inr h)) ↦ inr (inr (inr (omega (arith, h, none))))
    ])
going_is_round through (p ∷ ps) matches paired next = record { matches = matches; paired = paired; next = next; alone = λ e. absurd (omega (arith, ap length e)) }

wins_round : (winner : ℕ) (through playing : List ℕ) → IsRound (record { through = through; playing = playing }) → IsOneOf winner (first_pair playing) → IsRound (after_win winner (record { through = through; playing = playing }))
wins_round winner through [] is one = absurd one
wins_round winner through (p ∷ []) is one = absurd one
wins_round winner through (p ∷ q ∷ rest) is one =
    let more : length (through ++ winner ∷ []) ≡ length through + 1 = length-append through (winner ∷ []) in
    let some : is.matches ≡ (is.matches - 1) + 1 = omega (arith, is.paired) in
    going_is_round (through ++ winner ∷ []) rest (is.matches - 1) (omega (arith, is.paired)) (elim is.next [
      | inl h ↦ inl (omega (arith, h, more, some))
      | inr (inl h) ↦ inr (inl (omega (arith, h, more, some)))
      | inr (inr (inl h)) ↦ inr (inr (inl (omega (arith, h, more, some))))
      | inr (inr (inr h)) ↦ inr (inr (inr (omega (arith, h, more, some))))
    ])

pub still_round : (winner : ℕ) (r : Round) → IsRound r → IsOneOf winner (open_match r) → IsRound (after_win winner r)
still_round winner r is one = wins_round winner r.through r.playing is one

-- ---- the first one

pub length-entrants : (n : ℕ) → length (entrants n) ≡ n
length-entrants zero = refl
length-entrants (suc n) = length-append (entrants n) (suc n ∷ []) ∙ rw (length-entrants n) (omega arith)

length-shuffled : (x place : ℕ) (drawn_so : List ℕ) → length (shuffled x place drawn_so) ≡ length drawn_so
length-shuffled x zero drawn_so = refl
length-shuffled x (suc place) drawn_so = length-shuffled (after x) place _ ∙ length-swap drawn_so (suc place) (drawn (after x) (suc place + 1))

pub length-order : (n seed : ℕ) → length (order n seed) ≡ n
length-order n seed = length-shuffled seed (n - 1) (entrants n) ∙ length-entrants n

-- half of the size: more than half of the entrants, and not more than all
pub record HasHalf (n half : ℕ) : Type 0 where
  pub size_is : size n ≡ half + half
  pub below : half < n
  pub enough : n ≤ half + half

halved : (n : ℕ) → 2 ≤ n → n ≤ 16 → HasHalf n 1 ⊎ (HasHalf n 2 ⊎ (HasHalf n 4 ⊎ HasHalf n 8))
unfolding size
halved n some few = elim (cases_lt 2 n) [
  | inr h ↦ inl (record { size_is = grind (arith, nat_tests); below = omega arith; enough = omega arith })
  | inl a ↦ elim (cases_lt 4 n) [
    | inr h ↦ inr (inl (record { size_is = grind (arith, nat_tests); below = omega arith; enough = omega arith }))
    | inl b ↦ elim (cases_lt 8 n) [
      | inr h ↦ inr (inr (inl (record { size_is = grind (arith, nat_tests); below = omega arith; enough = omega arith })))
      | inl c ↦ inr (inr (inr (record { size_is = grind (arith, nat_tests); below = omega arith; enough = omega arith })))
    ]
  ]
]

first_with_half : (n seed half : ℕ) → HasHalf n half → (half ≡ 1) ⊎ ((half ≡ 2) ⊎ ((half ≡ 4) ⊎ (half ≡ 8))) → IsRound (first_round n seed)
first_with_half n seed half h is =
    let all : length (order n seed) ≡ n = length-order n seed in
    let byes : ℕ = size n - n in
    let came : length (take byes (order n seed)) ≡ byes = grind (arith, length-take, all, h.size_is, h.below) in
    let meets : length (drop byes (order n seed)) ≡ n - byes = grind (arith, length-drop, all) in
    record {
      matches = n - half;
      paired = omega (arith, meets, h.size_is, h.below, h.enough);
      next = elim is [
        | inl e ↦ inl (omega (arith, came, h.size_is, h.below, h.enough, e))
        | inr (inl e) ↦ inr (inl (omega (arith, came, h.size_is, h.below, h.enough, e)))
        | inr (inr (inl e)) ↦ inr (inr (inl (omega (arith, came, h.size_is, h.below, h.enough, e))))
        | inr (inr (inr e)) ↦ inr (inr (inr (omega (arith, came, h.size_is, h.below, h.enough, e))))
      ];
      alone = λ e. absurd (omega (arith, ap length e, meets, h.size_is, h.below, h.enough));
    }

pub first_is_round : (n seed : ℕ) → 2 ≤ n → n ≤ 16 → IsRound (first_round n seed)
first_is_round n seed some few = elim (halved n some few) [
  | inl h ↦ first_with_half n seed 1 h (inl refl)
  | inr (inl h) ↦ first_with_half n seed 2 h (inr (inl refl))
  | inr (inr (inl h)) ↦ first_with_half n seed 4 h (inr (inr (inl refl)))
  | inr (inr (inr h)) ↦ first_with_half n seed 8 h (inr (inr (inr refl)))
]

pub size_enough : (n : ℕ) → 2 ≤ n → n ≤ 16 → n ≤ size n
size_enough n some few = elim (halved n some few) [
  | inl h ↦ omega (arith, h.size_is, h.enough)
  | inr (inl h) ↦ omega (arith, h.size_is, h.enough)
  | inr (inr (inl h)) ↦ omega (arith, h.size_is, h.enough)
  | inr (inr (inr h)) ↦ omega (arith, h.size_is, h.enough)
]

pub few_byes : (n : ℕ) → 2 ≤ n → n ≤ 16 → size n - n ≤ n
few_byes n some few = elim (halved n some few) [
  | inl h ↦ omega (arith, h.size_is, h.below)
  | inr (inl h) ↦ omega (arith, h.size_is, h.below)
  | inr (inr (inl h)) ↦ omega (arith, h.size_is, h.below)
  | inr (inr (inr h)) ↦ omega (arith, h.size_is, h.below)
]

-- ---- a match is open, or there is a champion

pub none_open : (through playing : List ℕ) → IsRound (record { through = through; playing = playing }) → first_pair playing ≡ None ↔ IsSome (champion_with through playing)
none_open [] [] is = absurd (omega (arith, is.alone refl))
none_open (c ∷ cs) [] is = (λ _. refl, λ _. refl)
none_open through (p ∷ []) is = absurd (omega (arith, is.paired))
none_open [] (p ∷ q ∷ rest) is = (λ e. absurd (none-some (p, q) (sym e)), λ e. absurd (false≢true e))
none_open (c ∷ cs) (p ∷ q ∷ rest) is = (λ e. absurd (none-some (p, q) (sym e)), λ e. absurd (false≢true e))

pub no_champion : (through playing : List ℕ) → IsRound (record { through = through; playing = playing }) → champion_with through playing ≡ None ↔ IsSome (first_pair playing)
no_champion [] [] is = absurd (omega (arith, is.alone refl))
no_champion (c ∷ cs) [] is = (λ e. absurd (none-some c (sym e)), λ e. absurd (false≢true e))
no_champion through (p ∷ []) is = absurd (omega (arith, is.paired))
no_champion [] (p ∷ q ∷ rest) is = (λ _. refl, λ _. refl)
no_champion (c ∷ cs) (p ∷ q ∷ rest) is = (λ _. refl, λ _. refl)
