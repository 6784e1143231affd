-- What a character more makes of the pieces of a text.
use Rattle.std.proofs.Common.{◌≡◌, ℕ, suc, ◌+◌, ◌<◌, ◌≤◌, ◌==◌, Bool, true, false, cond, eqb, List, [], ◌∷◌, ◌++◌, length, drop, get_or, refl, ap, sym, ◌∙◌, arith, add-one}
use Rattle.std.specs.List.{slice_split, onto_first}
use Rattle.std.proofs.lemmas.List.{length-append}
use Rattle.std.proofs.Math.Seq.{drop-cons}

-- the last piece gets a character
unfoldable pub snoc_last : ℕ → List (List ℕ) → List (List ℕ)
snoc_last x [] = (x ∷ []) ∷ []
snoc_last x (p ∷ []) = (p ++ x ∷ []) ∷ []
snoc_last x (p ∷ q ∷ ps) = p ∷ snoc_last x (q ∷ ps)

abbrev pub grown : Bool → ℕ → List (List ℕ) → List (List ℕ)
grown b x ps = cond b (ps ++ [] ∷ []) (snoc_last x ps)

onto_grown : (b : Bool) (y x : ℕ) (p : List ℕ) (ps : List (List ℕ)) → onto_first y (grown b x (p ∷ ps)) ≡ grown b x (onto_first y (p ∷ ps))
unfolding snoc_last
onto_grown true y x p ps = refl
onto_grown false y x p [] = refl
onto_grown false y x p (q ∷ ps) = refl

next_grown : (b : Bool) (x : ℕ) (p : List ℕ) (ps : List (List ℕ)) → [] ∷ grown b x (p ∷ ps) ≡ grown b x ([] ∷ p ∷ ps)
unfolding snoc_last
next_grown true x p ps = refl
next_grown false x p ps = refl

first_piece : (b : Bool) (y : ℕ) (ps : List (List ℕ)) → (q : List ℕ) × (qs : List (List ℕ)) × (cond b ([] ∷ ps) (onto_first y ps) ≡ q ∷ qs)
first_piece true y ps = ([], ps, refl)
first_piece false y [] = (y ∷ [], [], refl)
first_piece false y (p ∷ ps) = (y ∷ p, ps, refl)

single : (b : Bool) (x : ℕ) → cond b ([] ∷ [] ∷ []) (onto_first x ([] ∷ [])) ≡ grown b x ([] ∷ [])
unfolding snoc_last
single true x = refl
single false x = refl

either_piece : (a b : Bool) (y x : ℕ) (p : List ℕ) (ps : List (List ℕ)) → cond a ([] ∷ grown b x (p ∷ ps)) (onto_first y (grown b x (p ∷ ps))) ≡ grown b x (cond a ([] ∷ p ∷ ps) (onto_first y (p ∷ ps)))
either_piece true b y x p ps = next_grown b x p ps
either_piece false b y x p ps = onto_grown b y x p ps

-- there is a first piece
pub some_piece : (c : ℕ) (xs : List ℕ) → (p : List ℕ) × (ps : List (List ℕ)) × (slice_split (λ b. b == c) xs ≡ p ∷ ps)
some_piece c [] = ([], [], refl)
some_piece c (y ∷ xs) = first_piece (eqb y c) y (slice_split (λ b. b == c) xs)

pub split_snoc : (c x : ℕ) (xs : List ℕ) → slice_split (λ b. b == c) (xs ++ x ∷ []) ≡ grown (eqb x c) x (slice_split (λ b. b == c) xs)
unfolding snoc_last
split_snoc c x [] = single (eqb x c) x
split_snoc c x (y ∷ xs) =
    let s = some_piece c xs in
    let ih : slice_split (λ b. b == c) (xs ++ x ∷ []) ≡ grown (eqb x c) x (s.0 ∷ s.1) = split_snoc c x xs ∙ ap (grown (eqb x c) x) s.2 in
    rw (ih, s.2) (either_piece (eqb y c) (eqb x c) y x s.0 s.1)

pub grown_end : (b : Bool) (x : ℕ) (ps : List (List ℕ)) (q : List ℕ) → grown b x (ps ++ q ∷ []) ≡ cond b ((ps ++ q ∷ []) ++ [] ∷ []) (ps ++ (q ++ x ∷ []) ∷ [])
unfolding snoc_last
grown_end true x ps q = refl
grown_end false x [] q = refl
grown_end false x (p ∷ []) q = refl
grown_end false x (p ∷ r ∷ ps) q = ap (λ (u : List (List ℕ)). p ∷ u) (grown_end false x (r ∷ ps) q)

grown_long : (b : Bool) (x : ℕ) (p : List ℕ) (ps : List (List ℕ)) → length (grown b x (p ∷ ps)) ≤ suc (length (p ∷ ps))
unfolding snoc_last
grown_long true x p ps = omega (arith, length-append ps ([] ∷ []))
grown_long false x p [] = omega arith
grown_long false x p (q ∷ ps) = omega (arith, grown_long false x q ps)

-- a character makes one piece more at most
pub pieces_grow : (c x : ℕ) (xs : List ℕ) → length (slice_split (λ b. b == c) (xs ++ x ∷ [])) ≤ suc (length (slice_split (λ b. b == c) xs))
pieces_grow c x xs = let s = some_piece c xs in rw (split_snoc c x xs, s.2) (grown_long (eqb x c) x s.0 s.1)

more_pieces : (b : Bool) (x : ℕ) (p : List ℕ) (ps : List (List ℕ)) → length (cond b ([] ∷ p ∷ ps) (onto_first x (p ∷ ps))) ≡ length (p ∷ ps) + cond b 1 0
more_pieces true x p ps = omega arith
more_pieces false x p ps = omega arith

-- a character in front makes one piece more, or none
pub pieces_before : (c x : ℕ) (b : Bool) (xs : List ℕ) → eqb x c ≡ b → length (slice_split (λ y. y == c) (x ∷ xs)) ≡ length (slice_split (λ y. y == c) xs) + cond b 1 0
pieces_before c x b xs e = let s = some_piece c xs in rw (e, s.2) (more_pieces b x s.0 s.1)

pub pieces_at : (c : ℕ) (xs : List ℕ) (i x : ℕ) (b : Bool) → i < length xs → x ≡ get_or xs i x → eqb x c ≡ b → length (slice_split (λ y. y == c) (drop i xs)) ≡ length (slice_split (λ y. y == c) (drop (i + 1) xs)) + cond b 1 0
pieces_at c xs i x b lt is e =
    let parts : drop i xs ≡ x ∷ drop (suc i) xs = drop-cons xs i x lt ∙ ap (λ (y : ℕ). y ∷ drop (suc i) xs) (sym is) in
    ap (λ (u : List ℕ). length (slice_split (λ y. y == c) u)) parts ∙ pieces_before c x b (drop (suc i) xs) e ∙ ap (λ k. length (slice_split (λ y. y == c) (drop k xs)) + cond b 1 0) (sym (add-one i))
