-- The longest part that some packed text begins with, and the kind of what is wrong after it.
use Rattle.std.proofs.Common.{◌≡◌, ℕ, zero, suc, ◌+◌, ◌-◌, ◌<◌, ◌≤◌, Bool, true, false, List, [], ◌∷◌, ◌++◌, length, map, take, drop, get_or, Option, Some, None, refl, sym, ap, subst, ◌∙◌, inl, inr, arith, append_assoc, add-one}
use Rattle.std.specs.Prelude.{slice_get}
use Rattle.std.specs.Str.{all_scalars}
use Rattle.std.proofs.lemmas.List.{append-nil, take_more}
use Rattle.std.proofs.lemmas.Option.{slice_get-get_or, slice_get_past}
use Rattle.std.proofs.Math.Seq.{take-add, take-length, drop-cons}
use Rattle.ps_base.specs.declared.pack_kind.PackKind.{PackKind}
use Rattle.ps_base.specs.declared.pack_kind.PackKind.TheVariants.{Long}
use Rattle.ps_packed.specs.declared.set.Set.{Set}
use Rattle.ps_packed.specs.Packed.{set_of, bytes_of, IsFreeTeam, IsTeam, IsPrefix, IsFreePrefix, IsLongest, IsLong, IsKind, kind_of, kind_at, is_nameless, sets_done, field_texts_at_end, field_at_end, word_at_end}
use Rattle.ps_packed.specs.Scan.{State, start, step, run, accepts, need, need_of, nameless_at}
use Rattle.ps_packed.proofs.Bytes.{bytes_append, length_bytes, low_bytes, low_scalars, scalars_append, scalars_take}
use Rattle.ps_packed.proofs.Runs.{run_then, run_step, some_is, some_step, team_runs, free_team}
use Rattle.ps_packed.proofs.Ends.{Valid, start_valid, step_valid, run_need, no_need, can_end, unfinished}
use Rattle.ps_packed.proofs.Positions.{Placed, start_placed, placed_next, reported}

-- after so many characters the text can still become a team's
pub record IsAlive (text : List ℕ) (i : ℕ) (s : State) : Type 0 where
  pub within : i ≤ length text
  pub run_is : run start (take i text) ≡ Some s
  pub valid : Valid s
  pub placed : Placed (take i text) s
  pub room : bytes_of (take i text) + need_of s ≤ 4096

-- the shortest end of a front
pub free_front : (front : List ℕ) (s : State) → all_scalars front ≡ true → run start front ≡ Some s → Valid s → (rest : List ℕ) × (team_texts : List (List (List ℕ))) × IsFreeTeam team_texts (front ++ rest) × (bytes_of (front ++ rest) ≡ bytes_of front + need_of s)
free_front front s letters runs v =
    let c = can_end s v in
    let whole : run start (front ++ c.0) ≡ Some c.1 = run_then start s front c.0 runs ∙ c.2 in
    let t = free_team (front ++ c.0) c.1 whole c.3 (scalars_append front c.0 letters (low_scalars c.0 c.5)) in
    (c.0, t.0, t.1, omega (arith, bytes_append front c.0, low_bytes c.0 c.5, c.4))

pub alive_prefix : (text : List ℕ) (i : ℕ) (s : State) → all_scalars text ≡ true → IsAlive text i s → IsPrefix (take i text)
alive_prefix text i s letters a =
    let f = free_front (take i text) s (scalars_take i text letters) a.run_is a.valid in
    (f.0, map set_of f.1, (f.1, record { free = f.2; short = omega (arith, f.3, a.room); sets = refl }))

take_parts : (text : List ℕ) (i n : ℕ) → i < n → n ≤ length text → take n text ≡ take i text ++ get_or text i 0 ∷ take (n - (i + 1)) (drop (i + 1) text)
take_parts text i n lt le =
    let whole : n ≡ i + suc (n - (i + 1)) = omega arith in
    let lt' : i < length text = omega arith in
    ap (λ k. take k text) whole ∙ take-add i (suc (n - (i + 1))) text ∙ ap (λ (u : List ℕ). take i text ++ take (suc (n - (i + 1))) u) (drop-cons text i 0 lt') ∙ ap (λ k. take i text ++ get_or text i 0 ∷ take (n - (i + 1)) (drop k text)) (sym (add-one i))

-- a character more has its bytes more
pub next_bytes : (text : List ℕ) (i : ℕ) → i < length text → bytes_of (take (i + 1) text) ≡ bytes_of (take i text) + bytes_of (get_or text i 0 ∷ [])
next_bytes text i lt = ap bytes_of (take_more text i 0 lt) ∙ bytes_append (take i text) (get_or text i 0 ∷ [])

-- what follows a front in a text without the limit of bytes begins with a step
record Follows (text : List ℕ) (i : ℕ) (s : State) (whole : List ℕ) : Type 0 where
  next : State
  steps : step s (get_or text i 0) ≡ Some next
  after : List ℕ
  parts : whole ≡ take i text ++ get_or text i 0 ∷ after
  end : State
  runs : run next after ≡ Some end
  ends : accepts end ≡ true

follows : (text : List ℕ) (i : ℕ) (s : State) (n : ℕ) (rest : List ℕ) (team_texts : List (List (List ℕ))) → IsAlive text i s → i < n → n ≤ length text → IsFreeTeam team_texts (take n text ++ rest) → Follows text i s (take n text ++ rest)
follows text i s n rest team_texts a lt le is =
    let more : List ℕ = take (n - (i + 1)) (drop (i + 1) text) in
    let c = get_or text i 0 in
    let r = team_runs team_texts (take n text ++ rest) is in
    let parts : take n text ++ rest ≡ take i text ++ c ∷ (more ++ rest) = ap (λ (u : List ℕ). u ++ rest) (take_parts text i n lt le) ∙ append_assoc (take i text) (c ∷ more) rest in
    let whole : run s (c ∷ (more ++ rest)) ≡ Some r.0 = sym (run_then start s (take i text) (c ∷ (more ++ rest)) a.run_is) ∙ ap (run start) (sym parts) ∙ r.1 in
    let u = some_step (step s c) (more ++ rest) r.0 whole in
    record { next = u.0; steps = u.1; after = more ++ rest; parts = parts; end = r.0; runs = u.2; ends = r.2 }

-- a longer part begins only with a next step that leaves room
pub longer : (text : List ℕ) (i : ℕ) (s : State) (n : ℕ) → IsAlive text i s → i < n → n ≤ length text → IsPrefix (take n text) → (u : State) × (step s (get_or text i 0) ≡ Some u) × (bytes_of (take (i + 1) text) + need_of u ≤ 4096)
longer text i s n a lt le (rest, team, is) =
    let f = follows text i s n rest is.0 a lt le is.1.free in
    let c = get_or text i 0 in
    let short : bytes_of (take n text ++ rest) ≤ 4096 = is.1.short in
    let split : bytes_of (take n text ++ rest) ≡ bytes_of (take i text) + (bytes_of (c ∷ []) + bytes_of f.after) = ap bytes_of f.parts ∙ bytes_append (take i text) (c ∷ f.after) ∙ ap (λ k. bytes_of (take i text) + k) (bytes_append (c ∷ []) f.after) in
    (f.next, f.steps, omega (arith, run_need f.next f.after f.end f.runs, no_need f.end f.ends, length_bytes f.after, short, split, next_bytes text i (omega arith)))

pub alive_next : (text : List ℕ) (i : ℕ) (s u : State) → IsAlive text i s → i < length text → step s (get_or text i 0) ≡ Some u → bytes_of (take (i + 1) text) + need_of u ≤ 4096 → IsAlive text (i + 1) u
alive_next text i s u a lt e room = record {
  within = omega arith;
  run_is = ap (run start) (take_more text i 0 lt) ∙ run_then start s (take i text) (get_or text i 0 ∷ []) a.run_is ∙ run_step s u (get_or text i 0) [] e;
  valid = step_valid s (get_or text i 0) u a.valid e;
  placed = subst (λ (front : List ℕ). Placed front u) (sym (take_more text i 0 lt)) (placed_next (take i text) s (get_or text i 0) u a.placed e);
  room = room;
}

abbrev pub Stops : List ℕ → ℕ → State → Type 0
Stops text i s = (u : State) → step s (get_or text i 0) ≡ Some u → ¬ (bytes_of (take (i + 1) text) + need_of u ≤ 4096)

pub longest_here : (text : List ℕ) (i : ℕ) (s : State) → all_scalars text ≡ true → IsAlive text i s → Stops text i s → IsLongest text i
longest_here text i s letters a stop = record {
  within = a.within;
  begins = alive_prefix text i s letters a;
  most = λ n lt le p. (let l = longer text i s n a lt le p in stop l.0 l.1 l.2);
}

pub longest_end : (text : List ℕ) (s : State) → all_scalars text ≡ true → IsAlive text (length text) s → IsLongest text (length text)
longest_end text s letters a = record { within = a.within; begins = alive_prefix text (length text) s letters a; most = λ n lt le p. absurd (omega arith) }

pub start_alive : (text : List ℕ) → IsAlive text 0 start
unfolding need
start_alive text = record { within = omega arith; run_is = refl; valid = start_valid; placed = start_placed; room = omega arith }

-- ---- no team

begins_whole : (text : List ℕ) (team : List Set) → IsTeam text team → IsPrefix (take (length text) text)
begins_whole text team is = ([], team, subst (λ (u : List ℕ). IsTeam u team) (sym (append-nil (take (length text) text) ∙ take-length text)) is)

pub no_team_here : (text : List ℕ) (i : ℕ) → IsLongest text i → i < length text → (team : List Set) → ¬ (IsTeam text team)
no_team_here text i l lt team = λ is. l.most (length text) lt (omega arith) (begins_whole text team is)

pub no_team_end : (text : List ℕ) (s : State) → IsAlive text (length text) s → accepts s ≡ false → (team : List Set) → ¬ (IsTeam text team)
no_team_end text s a refused team = λ is.
    (let r = team_runs is.0 text is.1.free in
    let same : Some s ≡ Some r.0 = sym a.run_is ∙ ap (run start) (take-length text) ∙ r.1 in
    let eq : r.0 ≡ s = some_is s r.0 same in
    let accepted : accepts s ≡ true = ap accepts (sym eq) ∙ r.2 in
    let wrong : false ≡ true = sym refused ∙ accepted in
    cc)

pub found_end : (text : List ℕ) (s : State) → all_scalars text ≡ true → IsAlive text (length text) s → accepts s ≡ true → (team : List Set) × IsTeam text team
found_end text s letters a accepted =
    let t = free_team text s (ap (run start) (sym (take-length text)) ∙ a.run_is) accepted letters in
    (map set_of t.0, (t.0, record { free = t.1; short = omega (arith, a.room, ap bytes_of (take-length text)); sets = refl }))

-- ---- for the loop

pub stops : (text : List ℕ) (i : ℕ) (s : State) → step s (get_or text i 0) ≡ None → Stops text i s
stops text i s e u h = λ _. absurd (let wrong : None ≡ Some u = sym e ∙ h in cc)

pub too_far : (text : List ℕ) (i : ℕ) (s v : State) → step s (get_or text i 0) ≡ Some v → 4096 < bytes_of (take (i + 1) text) + need_of v → Stops text i s
too_far text i s v e far u h = λ le. (let same : Some v ≡ Some u = sym e ∙ h in let eq : v ≡ u = cc in omega (arith, far, le, ap need_of eq))

some_bytes : (c : ℕ) → 1 ≤ bytes_of (c ∷ [])
some_bytes c = omega (arith, length_bytes (c ∷ []))

pub past_limit : (text : List ℕ) (i : ℕ) (s : State) → i < length text → 4096 ≤ bytes_of (take i text) → Stops text i s
past_limit text i s lt far u h = λ le. omega (arith, far, le, next_bytes text i lt, some_bytes (get_or text i 0))

-- ---- kinds

further : (text : List ℕ) (i : ℕ) (s u : State) → all_scalars text ≡ true → IsAlive text i s → i < length text → step s (get_or text i 0) ≡ Some u → IsFreePrefix (take (i + 1) text)
further text i s u letters a lt e =
    let v = step_valid s (get_or text i 0) u a.valid e in
    let here : run start (take (i + 1) text) ≡ Some u = ap (run start) (take_more text i 0 lt) ∙ run_then start s (take i text) (get_or text i 0 ∷ []) a.run_is ∙ run_step s u (get_or text i 0) [] e in
    let f = free_front (take (i + 1) text) u (scalars_take (i + 1) text letters) here v in
    (f.0, f.1, f.2)

pub long_limit : (text : List ℕ) (i : ℕ) (s : State) → IsAlive text i s → 4096 ≤ bytes_of (take i text) → IsKind text i Long
long_limit text i s a le = inl (inl (omega (arith, le, a.room)), refl)

pub long_room : (text : List ℕ) (i : ℕ) (s u : State) → all_scalars text ≡ true → IsAlive text i s → i < length text → step s (get_or text i 0) ≡ Some u → IsKind text i Long
long_room text i s u letters a lt e = inl (inr (i + 1, omega arith, omega arith, further text i s u letters a lt e), refl)

abbrev pub kind_in : State → Option ℕ → PackKind
kind_in s next = kind_of (nameless_at s.bare s.field s.word) s.sets s.field s.word next

reported_kind : (text : List ℕ) (i : ℕ) (s : State) (next : Option ℕ) (k : PackKind) → IsAlive text i s → slice_get text i ≡ next → k ≡ kind_in s next → k ≡ kind_at text i
reported_kind text i s next k a e is =
    let t = reported (take i text) s a.placed in
    let front = take i text in
    is ∙ ap (λ (b : Bool). kind_of b s.sets s.field s.word next) (sym t.names)
    ∙ ap (λ n. kind_of (is_nameless (field_texts_at_end front)) n s.field s.word next) (sym t.sets)
    ∙ ap (λ n. kind_of (is_nameless (field_texts_at_end front)) (sets_done front) n s.word next) (sym t.field)
    ∙ ap (λ (w : List ℕ). kind_of (is_nameless (field_texts_at_end front)) (sets_done front) (field_at_end front) w next) (sym t.word)
    ∙ ap (λ (o : Option ℕ). kind_of (is_nameless (field_texts_at_end front)) (sets_done front) (field_at_end front) (word_at_end front) o) (sym e)

not_long_here : (text : List ℕ) (i : ℕ) (s : State) → IsAlive text i s → bytes_of (take i text) < 4096 → step s (get_or text i 0) ≡ None → ¬ (IsLong text i)
not_long_here text i s a small none = λ long. (elim long [
  | inl e ↦ omega (arith, e, small)
  | inr (n, more, le, p) ↦ (let f = follows text i s n p.0 p.1 a more le p.2 in let wrong : None ≡ Some f.next = sym none ∙ f.steps in cc)
])

pub kind_here : (text : List ℕ) (i : ℕ) (s : State) (k : PackKind) → IsAlive text i s → i < length text → bytes_of (take i text) < 4096 → step s (get_or text i 0) ≡ None → k ≡ kind_in s (Some (get_or text i 0)) → IsKind text i k
kind_here text i s k a lt small none is = inr (not_long_here text i s a small none, reported_kind text i s (Some (get_or text i 0)) k a (slice_get-get_or text i 0 lt) is)

pub kind_end : (text : List ℕ) (s : State) (k : PackKind) → IsAlive text (length text) s → accepts s ≡ false → k ≡ kind_in s None → IsKind text (length text) k
kind_end text s k a refused is = inr (
  λ long. (elim long [
    | inl e ↦ omega (arith, e, a.room, unfinished s a.valid refused)
    | inr (n, more, le, p) ↦ omega (arith, more, le)
  ]),
  reported_kind text (length text) s None k a (slice_get_past text (length text) (omega arith)) is,
)

-- a place of a text has the same character whatever stands past its end
pub read_at : (text : List ℕ) (i x : ℕ) → i < length text → x ≡ get_or text i x → x ≡ get_or text i 0
read_at [] i x lt e = absurd (omega (arith, lt))
read_at (c ∷ text) zero x lt e = e
read_at (c ∷ text) (suc i) x lt e = read_at text i x (omega (arith, lt)) e

pub next_at : (text : List ℕ) (i x at more : ℕ) → i < length text → x ≡ get_or text i 0 → at ≡ bytes_of (take i text) → more ≡ bytes_of (x ∷ []) → bytes_of (take (i + 1) text) ≡ at + more
next_at text i x at more lt is offset bytes = omega (arith, next_bytes text i lt, offset, bytes, ap (λ (y : ℕ). bytes_of (y ∷ [])) is)
