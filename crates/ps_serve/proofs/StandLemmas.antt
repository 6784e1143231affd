-- A session goes on by one answer of its link.
use Rattle.std.proofs.Common.{◌≡◌, ℕ, ◌+◌, List, [], ◌∷◌, ◌++◌, map, length, Option, Some, None, refl, ap, sym, ◌∙◌, subst, inr, append_assoc, arith, Vec, Global}
use Rattle.std.specs.Prelude.{All}
use Rattle.std.proofs.lemmas.List.{map-append}
use Rattle.std.proofs.lemmas.List.Elements.{All-head, All-tail}
use Rattle.ps_session.specs.Sessions.{Record}
use Rattle.ps_outside.specs.Clocks.{after_now}
use Rattle.ps_outside.specs.Links.{Talk, LinkCounts, IsNext, after_next}
use Rattle.ps_outside.specs.declared.link.Next.TheVariants.{Text, Quiet}
use Rattle.ps_outside.specs.declared.link.Arrival.{Arrival}
use Rattle.ps_outside.specs.declared.link.SentText.{SentText}
use Rattle.ps_hub.specs.Hubs.{Hub}
use Rattle.ps_hub.specs.declared.passes.Passes.{Passes}
use Rattle.ps_serve.specs.Acts.{Made, Act, quiet, heard, arrival_of, moment_of, moments_of}
use Rattle.ps_serve.specs.Sendings.{Sending, sent_text}
use Rattle.ps_serve.specs.Sittings.{Sits}
use Rattle.ps_serve.specs.Steps.{Hours, Asked, Tells, Talks, TalksIf, Stands, after_sendings}
use Rattle.ps_serve.proofs.ActLemmas.{acts_length, moments_more}

-- ---- the clock

pub asked_on : (old : Hours) (xs ys : List ℕ) (mid new : Hours) → Asked old xs mid → Asked mid ys new → Asked old (xs ++ ys) new
asked_on old [] ys mid new e q = subst (λ (h : Hours). Asked h ys new) e q
asked_on old (x ∷ xs) ys mid new p q = (p.0, asked_on (after_now old) xs ys mid new p.1 q)

-- ---- the link

-- the link has answered what became an act
abbrev pub Moves : Act → Option Talk → Option Talk → Type 0
Moves a None None = Unit {0}
Moves a (Some old) (Some new) = (old.inbox ≡ arrival_of a ∷ new.inbox) × (new.answers ≡ old.answers + 1) × (new.sent ≡ old.sent)
Moves a old new = ⊥

pub text_moves : (bytes : Vec ℕ Global) (moment : ℕ) (made : Made) (old new : Option Talk) → new ≡ after_next (Text bytes) old → IsNext old (Text bytes) → Moves (heard bytes.items moment made) old new
text_moves bytes moment made None new is front = subst (λ (m : Option Talk). Moves (heard bytes.items moment made) None m) (sym is) tt
text_moves bytes moment made (Some t) new is front = subst (λ (m : Option Talk). Moves (heard bytes.items moment made) (Some t) m) (sym is) (front, refl, refl)

pub quiet_moves : (old new : Option Talk) → new ≡ after_next Quiet old → IsNext old Quiet → Moves quiet old new
quiet_moves None new is front = subst (λ (m : Option Talk). Moves quiet None m) (sym is) tt
quiet_moves (Some t) new is front = subst (λ (m : Option Talk). Moves quiet (Some t) m) (sym is) (front, refl, refl)

same_sent : (base answers n : ℕ) (more : List Sending) → answers ≡ base + n → All (λ (s : Sending). s.after ≡ n) more → map (λ (s : Sending). record { text = s.text; after = answers }) more ≡ map (sent_text base) more
same_sent base answers n [] e now = refl
same_sent base answers n (s ∷ more) e now =
    let one : s.after ≡ n = All-head (λ (x : Sending). x.after ≡ n) s more now in
    let here : answers ≡ base + s.after = e ∙ ap (λ (k : ℕ). base + k) (sym one) in
    let rest = same_sent base answers n more e (All-tail (λ (x : Sending). x.after ≡ n) s more now) in
    ap (λ (k : ℕ). record { text = s.text; after = k } ∷ map (λ (x : Sending). record { text = x.text; after = answers }) more) here
    ∙ ap (λ (l : List SentText). record { text = s.text; after = base + s.after } ∷ l) rest

talks_told : (acts : List Act) (a : Act) (ss more : List Sending) (old was mid : Talk) → Talks acts ss old was → Moves a (Some was) (Some mid) → All (λ (s : Sending). s.after ≡ length acts + 1) more → TalksIf (acts ++ a ∷ []) (ss ++ more) (Some old) (after_sendings more (Some mid))
talks_told acts a ss more old was mid t m now =
    let counted : was.answers ≡ old.answers + length acts = t.answers in
    let later : mid.answers ≡ was.answers + 1 = m.1 in
    let long : length (acts ++ a ∷ []) ≡ length acts + 1 = acts_length acts a in
    let base : mid.answers ≡ old.answers + (length acts + 1) = omega arith in
    record {
      given =
          t.given
          ∙ ap (λ (l : List Arrival). map arrival_of acts ++ l) m.0
          ∙ sym (append_assoc (map arrival_of acts) (arrival_of a ∷ []) mid.inbox)
          ∙ ap (λ (l : List Arrival). l ++ mid.inbox) (sym (map-append arrival_of acts (a ∷ [])));
      answers = omega arith;
      sent =
          ap (λ (l : List SentText). mid.sent ++ l) (same_sent old.answers mid.answers (length acts + 1) more base now)
          ∙ ap (λ (l : List SentText). l ++ map (sent_text old.answers) more) (m.2 ∙ t.sent)
          ∙ append_assoc old.sent (map (sent_text old.answers) ss) (map (sent_text old.answers) more)
          ∙ ap (λ (l : List SentText). old.sent ++ l) (sym (map-append (sent_text old.answers) ss more));
    }

talks_by : (acts : List Act) (a : Act) (ss more : List Sending) (old was mid : Option Talk) → TalksIf acts ss old was → Moves a was mid → All (λ (s : Sending). s.after ≡ length acts + 1) more → TalksIf (acts ++ a ∷ []) (ss ++ more) old (after_sendings more mid)
talks_by acts a ss more None None None t m now = tt
talks_by acts a ss more None None (Some mid) t m now = absurd m
talks_by acts a ss more None (Some was) mid t m now = absurd t
talks_by acts a ss more (Some old) None mid t m now = absurd t
talks_by acts a ss more (Some old) (Some was) None t m now = absurd m
talks_by acts a ss more (Some old) (Some was) (Some mid) t m now = talks_told acts a ss more old was mid t m now

pub talks_on : (acts : List Act) (a : Act) (ss more : List Sending) (old was mid new : Option Talk) → TalksIf acts ss old was → Moves a was mid → All (λ (s : Sending). s.after ≡ length acts + 1) more → new ≡ after_sendings more mid → TalksIf (acts ++ a ∷ []) (ss ++ more) old new
talks_on acts a ss more old was mid new t m now is = subst (λ (n : Option Talk). TalksIf (acts ++ a ∷ []) (ss ++ more) old n) (sym is) (talks_by acts a ss more old was mid t m now)

-- ---- the session

-- all that is held was looked at, so it stands again
pub stands_on : (hub : Hub) (conn open_at : ℕ) (acts : List Act) (a : Act) (ss : List Sending) (s0 s1 : Record) (p0 p1 : Passes) (talk0 was mid new : Option Talk) (counts0 counts counts1 : LinkCounts) (hours0 hours hours1 : Hours)
    → Stands hub conn open_at acts ss s0 p0 talk0 was counts0 counts hours0 hours → Moves a was mid → Asked hours (moment_of a) hours1 → counts1.faults ≡ counts.faults → counts1.ends ≡ counts.ends
    → (t : Tells hub conn open_at acts a ss s1 mid new p1) → Stands hub conn open_at (acts ++ a ∷ []) (ss ++ t.more) s1 p1 talk0 new counts0 counts1 hours0 hours1
stands_on hub conn open_at acts a ss s0 s1 p0 p1 talk0 was mid new counts0 counts counts1 hours0 hours hours1 st m asked faults ends t = record {
  sits = subst (λ (n : ℕ). Sits hub conn open_at (acts ++ a ∷ []) n (ss ++ t.more) s1 p1) (sym (acts_length acts a)) t.sits;
  up = inr t.up;
  talks = talks_on acts a ss t.more talk0 was mid new st.talks m t.now t.sent;
  faults = faults ∙ st.faults;
  ends_is = ends ∙ st.ends_is;
  asked = subst (λ (ms : List ℕ). Asked hours0 ms hours1) (sym (moments_more acts a)) (asked_on hours0 (moments_of acts) (moment_of a) hours hours1 st.asked asked);
}
