-- What is printed, counted and noted where a session ends.
use Rattle.std.proofs.Common.{◌≡◌, ℕ, List, [], ◌∷◌, ◌++◌, refl, sym, ap, ◌∙◌, append_assoc}
use Rattle.std.proofs.lemmas.List.{append-nil}
use Rattle.replay_state.specs.declared.place.Happening.{Happening}
use Rattle.replay_state.specs.declared.place.Happening.TheVariants as happening
use Rattle.replay_state.specs.Ledgers.{Sheet}
use Rattle.replay_state.specs.Houses.{House}
use Rattle.replay_state.specs.Transcript.{over_line}
use Rattle.replay_state.specs.Tables.{happening_text, happening_after, happenings_text, happenings_after, happening_ledger, happenings_ledger}

pub ended_after : (k : House) (xs : List Happening) (conn : ℕ) → happenings_after k (xs ++ happening.Ended conn ∷ []) ≡ happenings_after k xs
ended_after k [] conn = refl
ended_after k (x ∷ xs) conn = ended_after (happening_after k x) xs conn

pub ended_text : (count : ℕ) (k : House) (xs : List Happening) (conn : ℕ) → happenings_text count k (xs ++ happening.Ended conn ∷ []) ≡ happenings_text count k xs ++ over_line conn
ended_text count k [] conn = append-nil (over_line conn)
ended_text count k (x ∷ xs) conn =
    ap (λ (t : List ℕ). happening_text count k x ++ t) (ended_text count (happening_after k x) xs conn)
    ∙ sym (append_assoc (happening_text count k x) (happenings_text count (happening_after k x) xs) (over_line conn))

pub ended_ledger : (k : House) (xs : List Happening) (conn : ℕ) (s : Sheet) → happenings_ledger k (xs ++ happening.Ended conn ∷ []) s ≡ happenings_ledger k xs s
ended_ledger k [] conn s = refl
ended_ledger k (x ∷ xs) conn s = ended_ledger (happening_after k x) xs conn (happening_ledger k x s)
