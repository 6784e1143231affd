-- What a front and an end leave.
use Rattle.std.proofs.Common.{◌≡◌, ◌≢◌, ℕ, ◌-◌, Bool, true, false, cond, List, [], ◌∷◌, ◌++◌, length, take, drop, Some, None, refl, sym, ap, ◌∙◌, arith, inl, inr}
use Rattle.std.specs.Str.{bytes_eq}
use Rattle.std.proofs.lemmas.Bool.Decides.{eqb_tells}
use Rattle.std.proofs.lemmas.List.{take-append-drop, length-append}
use Rattle.std.proofs.lemmas.Slice.Eq.{bytes_eq-Decides}
use Rattle.std.proofs.Math.Seq.{take-append_seam, drop-append_seam}
use Rattle.std.proofs.lemmas.Bool.{eq-eqb}
use Rattle.ps_base.specs.Cuts.{after_front, before_end}

pub after_front-append : (front rest : List ℕ) → after_front front (front ++ rest) ≡ Some rest
after_front-append [] rest = refl
after_front-append (p ∷ front) rest = rw (eq-eqb p p refl) (after_front-append front rest)

pub after_front_is : (text front rest : List ℕ) → text ≡ front ++ rest → after_front front text ≡ Some rest
after_front_is text front rest e = rw e (after_front-append front rest)

pub after_front_none : (front text : List ℕ) → ((rest : List ℕ) → text ≢ front ++ rest) → after_front front text ≡ None
after_front_none [] text h = absurd (h text refl)
after_front_none (p ∷ front) [] h = refl
after_front_none (p ∷ front) (b ∷ text) h =
    elim (eqb_tells p b) [
      | inl e ↦ rw e.0 (after_front_none front text (λ rest k. h rest (cc (e.1, k))))
      | inr e ↦ rw e.0 refl
    ]

pub before_end_is : (text end front : List ℕ) → text ≡ front ++ end → before_end end text ≡ Some front
before_end_is text end front e =
    let n : length text - length end ≡ length front = omega (arith, ap length e, length-append front end) in
    let t : take (length text - length end) text ≡ front = rw (n, e) (take-append_seam front end) in
    let d : drop (length text - length end) text ≡ end = rw (n, e) (drop-append_seam front end) in
    rw (d, t, (bytes_eq-Decides end end).1 refl) refl

pub before_end_none : (text end : List ℕ) → ((front : List ℕ) → text ≢ front ++ end) → before_end end text ≡ None
before_end_none text end h = no_end (bytes_eq (drop (length text - length end) text) end) refl
  where
    no_end : (b : Bool) → bytes_eq (drop (length text - length end) text) end ≡ b → cond (bytes_eq (drop (length text - length end) text) end) (Some (take (length text - length end) text)) None ≡ None
    no_end true e = absurd (h (take (length text - length end) text) (sym (take-append-drop (length text - length end) text) ∙ ap (λ (x : List ℕ). take (length text - length end) text ++ x) ((bytes_eq-Decides (drop (length text - length end) text) end).0 e)))
    no_end false e = rw e refl

pub ruleset cuts = (after_front_is, after_front_none, before_end_is, before_end_none)
