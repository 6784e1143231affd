-- What holds of a tournament line by line: each user still is in the bracket, or was beaten once.
use Rattle.std.proofs.Common.{◌≡◌, ◌≤◌, ℕ, zero, suc, Bool, true, false, cond, List, [], ◌∷◌, ◌++◌, map, Option, Some, None, refl, sym, ap, ◌∙◌, subst, inl, inr, arith, append_assoc}
use Rattle.std.specs.Prelude.{All, IsPermutation, nat_lt}
use Rattle.std.proofs.lemmas.Bool.Decides.{eqb_tells}
use Rattle.std.proofs.lemmas.List.{map-append, append-nil}
use Rattle.std.proofs.lemmas.List.Elements.{All-nil, All-append, All-head, All-tail, All-weaker}
use Rattle.std.proofs.lemmas.List.Sorted.{All-permutation, IsPermutation-trans, IsPermutation-append_right}
use Rattle.std.proofs.lemmas.Option.{none-some, same_Some}
use Rattle.ps_tour.specs.Brackets.{Round, entrants, first_round, after_win, open_match, first_pair, champion, champion_with, IsOneOf, IsRound}
use Rattle.ps_tour.specs.Laws.{loser_of}
use Rattle.ps_tour.proofs.LawLemmas.{still_in, first_in, win_in, alone_with}
use Rattle.ps_tour.proofs.RoundLemmas.{first_is_round, still_round}
use Rattle.replay_tour.specs.declared.battle_end.BattleEnd.{BattleEnd}
use Rattle.replay_tour.specs.declared.battle_end.BattleEnd.TheVariants as ends
use Rattle.replay_tour.specs.declared.win.Win.{Win}
use Rattle.replay_tour.specs.declared.stage.Stage.{Stage}
use Rattle.replay_tour.specs.declared.stage.Stage.TheVariants.{Challenge, Accept, FirstJoin, SecondJoin, FirstChoice, SecondChoice}
use Rattle.replay_tour.specs.Results.{IsDecidedTour}
use Rattle.replay_tour.specs.Tours.{Tour, begun, at_stage, won, again, tied, ended, chosen, past_line, past_match, past}

pub record IsStanding (users : ℕ) (t : Tour) : Type 0 where
  pub all : IsPermutation (entrants users) (map (λ w. w.loser) t.wins ++ still_in t.round)
  pub round : IsRound t.round

pub begun_stands : (users seed : ℕ) → 2 ≤ users → users ≤ 16 → IsStanding users (begun users seed)
begun_stands users seed some few = record { all = first_in users seed some; round = first_is_round users seed some few }

-- ---- a match is won

first_beats : (p q : ℕ) → loser_of p (Some (p, q)) ≡ q ∷ []
first_beats p q = elim (eqb_tells p p) [
  | inl t ↦ rw t.0 refl
  | inr t ↦ absurd (t.1 refl)
]

second_beats : (p q : ℕ) → loser_of q (Some (p, q)) ≡ p ∷ []
second_beats p q = elim (eqb_tells q p) [
  | inl t ↦ rw t.0 (ap (λ (x : ℕ). x ∷ []) t.1)
  | inr t ↦ rw t.0 refl
]

won_stands : (users winner beaten : ℕ) (t : Tour) → IsOneOf winner (open_match t.round) → loser_of winner (open_match t.round) ≡ beaten ∷ [] → IsStanding users t → IsStanding users (won winner beaten t)
won_stands users winner beaten t one lost s =
    let before : List ℕ = map (λ (w : Win). w.loser) t.wins in
    let later : List ℕ = still_in (after_win winner t.round) in
    let leaves : IsPermutation (still_in t.round) (beaten ∷ later) = subst (λ (x : List ℕ). IsPermutation (still_in t.round) (x ++ later)) lost (win_in winner t.round.through t.round.playing one) in
    let moved : IsPermutation (entrants users) (before ++ (beaten ∷ later)) =
    IsPermutation-trans (entrants users) (before ++ still_in t.round) (before ++ (beaten ∷ later)) s.all (IsPermutation-append_right before (still_in t.round) (beaten ∷ later) leaves) in
    let apart : before ++ (beaten ∷ later) ≡ map (λ (w : Win). w.loser) (won winner beaten t).wins ++ later =
    sym (append_assoc before (beaten ∷ []) later) ∙ ap (λ (x : List ℕ). x ++ later) (sym (map-append (λ (w : Win). w.loser) t.wins (record { winner = winner; loser = beaten } ∷ []))) in
    record { all = subst (IsPermutation (entrants users)) apart moved; round = still_round winner t.round s.round one }

first_stands : (users : ℕ) (pair : ℕ × ℕ) (t : Tour) → open_match t.round ≡ Some pair → IsStanding users t → IsStanding users (won pair.0 pair.1 t)
first_stands users pair t met s =
    won_stands users pair.0 pair.1 t (subst (IsOneOf pair.0) (sym met) (inl refl)) (ap (loser_of pair.0) met ∙ first_beats pair.0 pair.1) s

second_stands : (users : ℕ) (pair : ℕ × ℕ) (t : Tour) → open_match t.round ≡ Some pair → IsStanding users t → IsStanding users (won pair.1 pair.0 t)
second_stands users pair t met s =
    won_stands users pair.1 pair.0 t (subst (IsOneOf pair.1) (sym met) (inr refl)) (ap (loser_of pair.1) met ∙ second_beats pair.0 pair.1) s

-- ---- a line

either_stands : (users : ℕ) (b : Bool) (one other : Tour) → IsStanding users one → IsStanding users other → IsStanding users (cond b one other)
either_stands users true one other s u = s
either_stands users false one other s u = u

at_stage_stands : (users : ℕ) (stage : Stage) (t : Tour) → IsStanding users t → IsStanding users (at_stage stage t)
at_stage_stands users stage t s = record { all = s.all; round = s.round }

again_stands : (users : ℕ) (t : Tour) → IsStanding users t → IsStanding users (again t)
again_stands users t s = record { all = s.all; round = s.round }

ended_stands : (users : ℕ) (pair : ℕ × ℕ) (end : BattleEnd) (t : Tour) → open_match t.round ≡ Some pair → IsStanding users t → IsStanding users (ended pair end t)
ended_stands users pair ends.FirstWon t met s = first_stands users pair t met s
ended_stands users pair ends.SecondWon t met s = second_stands users pair t met s
ended_stands users pair ends.Tied t met s = either_stands users (nat_lt t.ties 2) (again t) (won pair.0 pair.1 t) (again_stands users t s) (first_stands users pair t met s)

chosen_stands : (users : ℕ) (pair : ℕ × ℕ) (other : Stage) (end : Option BattleEnd) (t : Tour) → open_match t.round ≡ Some pair → IsStanding users t → IsStanding users (chosen pair other end t)
chosen_stands users pair other None t met s = at_stage_stands users other t s
chosen_stands users pair other (Some end) t met s = ended_stands users pair end t met s

line_stands : (users : ℕ) (pair : ℕ × ℕ) (stage : Stage) (end : Option BattleEnd) (t : Tour) → open_match t.round ≡ Some pair → IsStanding users t → IsStanding users (past_line pair stage end t)
line_stands users pair Challenge end t met s = at_stage_stands users Accept t s
line_stands users pair Accept end t met s = at_stage_stands users FirstJoin t s
line_stands users pair FirstJoin end t met s = at_stage_stands users SecondJoin t s
line_stands users pair SecondJoin end t met s = at_stage_stands users FirstChoice t s
line_stands users pair FirstChoice end t met s = chosen_stands users pair SecondChoice end t met s
line_stands users pair SecondChoice end t met s = chosen_stands users pair FirstChoice end t met s

match_stands : (users : ℕ) (met : Option (ℕ × ℕ)) (end : Option BattleEnd) (t : Tour) → open_match t.round ≡ met → IsStanding users t → IsStanding users (past_match met end t)
match_stands users None end t e s = s
match_stands users (Some pair) end t e s = line_stands users pair t.stage end t e s

pub past_stands : (users : ℕ) (end : Option BattleEnd) (t : Tour) → IsStanding users t → IsStanding users (past end t)
past_stands users end t s = match_stands users (open_match t.round) end t refl s

-- ---- who meets is one of the users

abbrev pub IsUser : ℕ → ℕ → Type 0
IsUser users conn = (1 ≤ conn) × (conn ≤ users)

wider : (n conn : ℕ) → IsUser n conn → IsUser (suc n) conn
wider n conn u = (u.0, omega (arith, u.1))

alone_all : (P : ℕ → Type 0) (x : ℕ) → P x → All P (x ∷ [])
alone_all P x p zero d lt = p
alone_all P x p (suc k) d lt = absurd (omega (arith, lt))

are_users : (n : ℕ) → All (IsUser n) (entrants n)
are_users zero = All-nil (IsUser zero)
are_users (suc n) = All-append (IsUser (suc n)) (entrants n) (suc n ∷ []) (All-weaker (IsUser n) (IsUser (suc n)) (wider n) (entrants n) (are_users n)) (alone_all (IsUser (suc n)) (suc n) (omega arith, omega arith))

all_behind : (P : ℕ → Type 0) (xs ys : List ℕ) → All P (xs ++ ys) → All P ys
all_behind P [] ys h = h
all_behind P (x ∷ xs) ys h = all_behind P xs ys (All-tail P x (xs ++ ys) h)

pair_all : (P : ℕ → Type 0) (playing : List ℕ) (pair : ℕ × ℕ) → All P playing → first_pair playing ≡ Some pair → P pair.0 × P pair.1
pair_all P [] pair h e = absurd (none-some pair e)
pair_all P (p ∷ []) pair h e = absurd (none-some pair e)
pair_all P (p ∷ q ∷ rest) pair h e =
    subst (λ (x : ℕ × ℕ). P x.0 × P x.1) (same_Some (p, q) pair e) (All-head P p (q ∷ rest) h, All-head P q rest (All-tail P p (q ∷ rest) h))

pub who_meet : (users : ℕ) (t : Tour) (pair : ℕ × ℕ) → IsStanding users t → open_match t.round ≡ Some pair → IsUser users pair.0 × IsUser users pair.1
who_meet users t pair s met =
    let all : All (IsUser users) (map (λ (w : Win). w.loser) t.wins ++ still_in t.round) = All-permutation (IsUser users) (entrants users) (map (λ (w : Win). w.loser) t.wins ++ still_in t.round) s.all (are_users users) in
    pair_all (IsUser users) t.round.playing pair (all_behind (IsUser users) t.round.through t.round.playing (all_behind (IsUser users) (map (λ (w : Win). w.loser) t.wins) (still_in t.round) all)) met

-- ---- where no match is open, there is a champion, whom nobody beat

champion_there : (through playing : List ℕ) → IsRound (record { through = through; playing = playing }) → first_pair playing ≡ None → (c : ℕ) × (champion_with through playing ≡ Some c)
champion_there [] [] is none = absurd (omega (arith, is.alone refl))
champion_there (c ∷ cs) [] is none = (c, refl)
champion_there through (p ∷ []) is none = absurd (omega (arith, is.paired))
champion_there through (p ∷ q ∷ rest) is none = absurd (none-some (p, q) (sym none))

pub is_over : (users : ℕ) (t : Tour) → IsStanding users t → open_match t.round ≡ None → IsDecidedTour users t
is_over users t s none =
    let c = champion_there t.round.through t.round.playing s.round none in
    record {
      winner = c.0;
      champion_is = c.1;
      once = subst (λ (x : List ℕ). IsPermutation (entrants users) (map (λ (w : Win). w.loser) t.wins ++ x)) (alone_with t.round.through t.round.playing c.0 s.round c.1) s.all;
    }
