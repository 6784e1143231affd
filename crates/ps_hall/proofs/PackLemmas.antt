-- The function that tells what is wrong with a text says what is true of it, and says the only thing that is.
use Rattle.std.proofs.Common.{◌≡◌, ℕ, zero, suc, ◌+◌, ◌<◌, ◌≤◌, Bool, true, false, List, [], ◌∷◌, length, take, drop, get_or, Option, Some, None, refl, sym, ap, subst, ◌∙◌, inl, inr, arith, add-one}
use Rattle.std.specs.Prelude.{nat_le, nat_lt, if◌then◌else◌}
use Rattle.std.specs.Str.{all_scalars}
use Rattle.std.proofs.lemmas.Bool.{leb-true, leb-false, ltb-true, ltb-false}
use Rattle.ps_base.specs.declared.pack_kind.PackKind.{PackKind}
use Rattle.ps_base.specs.declared.pack_kind.PackKind.TheVariants.{Long}
use Rattle.ps_packed.specs.declared.fault.PackFault.TheVariants.{Fault}
use Rattle.ps_packed.specs.declared.set.Set.{Set}
use Rattle.ps_packed.specs.Packed.{bytes_of, IsTeam, IsFault, IsLongest, IsKind, Refuses}
use Rattle.ps_packed.specs.Scan.{State, start, step, accepts, need_of, team_of}
use Rattle.ps_packed.proofs.Longest.{IsAlive, start_alive, alive_next, next_at, longest_here, longest_end, no_team_here, no_team_end, found_end, stops, past_limit, too_far, long_limit, long_room, kind_here, kind_end}
use Rattle.ps_packed.proofs.Unique.{team_is}
use Rattle.ps_hall.specs.Packs.{PackFaultAt, fault_at, kind_in, next_fault, fault_from, pack_fault, Tells, PacksLaw}

-- ---- offsets in a text

here : (text : List ℕ) (i c : ℕ) (rest : List ℕ) → drop i text ≡ c ∷ rest → i < length text
here [] zero c rest e = absurd cc
here [] (suc i) c rest e = absurd cc
here (x ∷ text) zero c rest e = omega arith
here (x ∷ text) (suc i) c rest e = omega (arith, here text i c rest e)

letter_here : (text : List ℕ) (i c : ℕ) (rest : List ℕ) → drop i text ≡ c ∷ rest → get_or text i 0 ≡ c
letter_here [] zero c rest e = absurd cc
letter_here [] (suc i) c rest e = absurd cc
letter_here (x ∷ text) zero c rest e = cc
letter_here (x ∷ text) (suc i) c rest e = letter_here text i c rest e

after_here : (text : List ℕ) (i c : ℕ) (rest : List ℕ) → drop i text ≡ c ∷ rest → drop (suc i) text ≡ rest
after_here [] zero c rest e = absurd cc
after_here [] (suc i) c rest e = absurd cc
after_here (x ∷ text) zero c rest e = cc
after_here (x ∷ text) (suc i) c rest e = after_here text i c rest e

past_end : (text : List ℕ) (i : ℕ) → drop i text ≡ [] → length text ≤ i
past_end [] i e = omega arith
past_end (x ∷ text) zero e = absurd cc
past_end (x ∷ text) (suc i) e = omega (arith, past_end text i e)

-- ---- numbers

-- ---- the end of the text

end_told : (text : List ℕ) (s : State) (at : ℕ) (b : Bool) → all_scalars text ≡ true → IsAlive text (length text) s → at ≡ bytes_of (take (length text) text) → accepts s ≡ b → Tells text (if b then None else fault_at at (kind_in s None))
end_told text s at true letters a at_is e = let t = found_end text s letters a e in subst (IsTeam text) (team_is text t.0 t.1) t.1
end_told text s at false letters a at_is e = (record { count = length text; longest = longest_end text s letters a; offset = at_is; kind_is = kind_end text s (kind_in s None) a e refl }, no_team_end text s a e)

-- ---- a character of the text

-- what is true where so many characters leave this state and this character is next
record AtNext (text : List ℕ) (i : ℕ) (s : State) (at c : ℕ) : Type 0 where
  letters : all_scalars text ≡ true
  alive : IsAlive text i s
  at_is : at ≡ bytes_of (take i text)
  within : i < length text
  next : get_or text i 0 ≡ c

stopped : (text : List ℕ) (i : ℕ) (s : State) (at c : ℕ) (kind : PackKind) → AtNext text i s at c → IsLongest text i → IsKind text i kind → Refuses text (Fault at kind)
stopped text i s at c kind n l k = (record { count = i; longest = l; offset = n.at_is; kind_is = k }, no_team_here text i l n.within)

steps_here : (text : List ℕ) (i : ℕ) (s : State) (at c : ℕ) (o : Option State) → AtNext text i s at c → step s c ≡ o → step s (get_or text i 0) ≡ o
steps_here text i s at c o n e = subst (λ (x : ℕ). step s x ≡ o) (sym n.next) e

bytes_next : (text : List ℕ) (i : ℕ) (s : State) (at c : ℕ) → AtNext text i s at c → bytes_of (take (i + 1) text) ≡ at + bytes_of (c ∷ [])
bytes_next text i s at c n = next_at text i c at (bytes_of (c ∷ [])) n.within (sym n.next) n.at_is refl

limit_told : (text : List ℕ) (i : ℕ) (s : State) (at c : ℕ) → AtNext text i s at c → 4096 ≤ at → Tells text (fault_at at Long)
limit_told text i s at c n far =
    let far' : 4096 ≤ bytes_of (take i text) = omega (arith, far, n.at_is) in
    stopped text i s at c Long n (longest_here text i s n.letters n.alive (past_limit text i s n.within far')) (long_limit text i s n.alive far')

-- what is behind a step
abbrev Behind : List ℕ → ℕ → ℕ → State → (State → Option PackFaultAt) → Type 0
Behind text i at t behind = IsAlive text (i + 1) t → at ≡ bytes_of (take (i + 1) text) → Tells text (behind t)

step_told : (text : List ℕ) (i : ℕ) (s t : State) (at c : ℕ) (behind : State → Option PackFaultAt) (b : Bool) → AtNext text i s at c → step s c ≡ Some t → nat_lt 4096 (at + bytes_of (c ∷ []) + need_of t) ≡ b → Behind text i (at + bytes_of (c ∷ [])) t behind → Tells text (if b then fault_at at Long else behind t)
step_told text i s t at c behind true n e over more =
    let some = steps_here text i s at c (Some t) n e in
    let far : 4096 < bytes_of (take (i + 1) text) + need_of t = omega (arith, bytes_next text i s at c n, ltb-true 4096 (at + bytes_of (c ∷ []) + need_of t) over) in
    stopped text i s at c Long n (longest_here text i s n.letters n.alive (too_far text i s t some far)) (long_room text i s t n.letters n.alive n.within some)
step_told text i s t at c behind false n e over more =
    let some = steps_here text i s at c (Some t) n e in
    let room : bytes_of (take (i + 1) text) + need_of t ≤ 4096 = omega (arith, bytes_next text i s at c n, ltb-false 4096 (at + bytes_of (c ∷ []) + need_of t) over) in
    more (alive_next text i s t n.alive n.within some room) (sym (bytes_next text i s at c n))

next_told : (text : List ℕ) (i : ℕ) (s : State) (at c : ℕ) (behind : State → Option PackFaultAt) (o : Option State) → AtNext text i s at c → at < 4096 → step s c ≡ o → ((t : State) → Behind text i (at + bytes_of (c ∷ [])) t behind) → Tells text (next_fault s at c o behind)
next_told text i s at c behind None n small e more =
    let none = steps_here text i s at c None n e in
    let small' : bytes_of (take i text) < 4096 = omega (arith, small, n.at_is) in
    let kind : kind_in s (Some c) ≡ kind_in s (Some (get_or text i 0)) = ap (λ (x : ℕ). kind_in s (Some x)) (sym n.next) in
    stopped text i s at c (kind_in s (Some c)) n (longest_here text i s n.letters n.alive (stops text i s none)) (kind_here text i s (kind_in s (Some c)) n.alive n.within small' none kind)
next_told text i s at c behind (Some t) n small e more = step_told text i s t at c behind (nat_lt 4096 (at + bytes_of (c ∷ []) + need_of t)) n e refl (more t)

letter_told : (text : List ℕ) (i : ℕ) (s : State) (at c : ℕ) (behind : State → Option PackFaultAt) (b : Bool) → AtNext text i s at c → nat_le 4096 at ≡ b → ((t : State) → Behind text i (at + bytes_of (c ∷ [])) t behind) → Tells text (if b then fault_at at Long else next_fault s at c (step s c) behind)
letter_told text i s at c behind true n e more = limit_told text i s at c n (leb-true 4096 at e)
letter_told text i s at c behind false n e more = next_told text i s at c behind (step s c) n (leb-false 4096 at e) refl more

-- ---- the whole text

told_from : (text : List ℕ) → all_scalars text ≡ true → (rest : List ℕ) (i : ℕ) (s : State) (at : ℕ) → drop i text ≡ rest → IsAlive text i s → at ≡ bytes_of (take i text) → Tells text (fault_from s at rest)
told_from text letters [] i s at e a at_is =
    let end : i ≡ length text = omega (arith, past_end text i e, a.within) in
    end_told text s at (accepts s) letters (subst (λ k. IsAlive text k s) end a) (at_is ∙ ap (λ k. bytes_of (take k text)) end) refl
told_from text letters (c ∷ rest) i s at e a at_is =
    letter_told text i s at c (λ t. fault_from t (at + bytes_of (c ∷ [])) rest) (nat_le 4096 at)
    (record { letters = letters; alive = a; at_is = at_is; within = here text i c rest e; next = letter_here text i c rest e })
    refl
    (λ t alive bytes. told_from text letters rest (i + 1) t (at + bytes_of (c ∷ [])) (subst (λ k. drop k text ≡ rest) (sym (add-one i)) (after_here text i c rest e)) alive bytes)

pub packs_law : PacksLaw
packs_law text letters = told_from text letters text 0 start 0 refl (start_alive text) refl

-- ---- there is one answer

-- a text has one longest part that some packed text begins with
one_longest : (text : List ℕ) (m n : ℕ) → IsLongest text m → IsLongest text n → ¬ (m < n)
one_longest text m n p q = λ lt. p.most n lt q.within q.begins

same_count : (text : List ℕ) (m n : ℕ) → IsLongest text m → IsLongest text n → m ≡ n
same_count text m n p q = omega (arith, one_longest text m n p q, one_longest text n m q p)

same_kind : (text : List ℕ) (n : ℕ) (a b : PackKind) → IsKind text n a → IsKind text n b → a ≡ b
same_kind text n a b p q = elim p [
  | inl (long, e) ↦ elim q [
    | inl (_, f) ↦ e ∙ sym f
    | inr (short, f) ↦ absurd (short long)
  ]
  | inr (short, e) ↦ elim q [
    | inl (long, f) ↦ absurd (short long)
    | inr (_, f) ↦ e ∙ sym f
  ]
]

pub same_offset : (text : List ℕ) (at at' : ℕ) (kind kind' : PackKind) → IsFault text at kind → IsFault text at' kind' → (at ≡ at') × (kind ≡ kind')
same_offset text at at' kind kind' p q =
    let count = same_count text p.count q.count p.longest q.longest in
    (p.offset ∙ ap (λ n. bytes_of (take n text)) count ∙ sym q.offset, same_kind text q.count kind kind' (subst (λ n. IsKind text n kind) count p.kind_is) q.kind_is)

-- a text that has a team has no fault
told_of_team : (text : List ℕ) (o : Option PackFaultAt) (team : List Set) → Tells text o → IsTeam text team → o ≡ None
told_of_team text None team told is = refl
told_of_team text (Some p) team told is = absurd (told.1 team is)

pub no_fault : (text : List ℕ) (team : List Set) → all_scalars text ≡ true → IsTeam text team → pack_fault text ≡ None
no_fault text team letters is = told_of_team text (pack_fault text) team (packs_law text letters) is

-- a text that is refused has that fault
told_of_refusal : (text : List ℕ) (o : Option PackFaultAt) (at : ℕ) (kind : PackKind) → Tells text o → Refuses text (Fault at kind) → o ≡ fault_at at kind
told_of_refusal text None at kind told refuses = absurd (refuses.1 (team_of text) told)
told_of_refusal text (Some p) at kind told refuses = let same = same_offset text p.at at p.kind kind told.0 refuses.0 in ap (λ (x : ℕ). fault_at x p.kind) same.0 ∙ ap (λ (k : PackKind). fault_at at k) same.1

pub its_fault : (text : List ℕ) (at : ℕ) (kind : PackKind) → all_scalars text ≡ true → Refuses text (Fault at kind) → pack_fault text ≡ fault_at at kind
its_fault text at kind letters refuses = told_of_refusal text (pack_fault text) at kind (packs_law text letters) refuses
