-- What one answer of the link makes of a session: it stands again, or comes to rest.
use Rattle.std.proofs.Common.{◌≡◌, ◌⊎◌, ℕ, ◌+◌, true, false, List, [], ◌∷◌, ◌++◌, map, length, Option, Some, None, Ok, Err, refl, ap, sym, ◌∙◌, subst, inl, inr, ⊎_elim, arith, Vec, Global}
use Rattle.std.specs.Prelude.{IfSome, IfNone}
use Rattle.std.proofs.lemmas.List.{append-nil}
use Rattle.std.proofs.lemmas.List.Elements.{All-nil}
use Rattle.ps_lines.specs.declared.order.Order.{Order}
use Rattle.ps_lines.specs.declared.order.Order.TheVariants.{Room}
use Rattle.ps_session.specs.Sessions.{Record, is_full, counted}
use Rattle.ps_session.specs.Routes.{taken}
use Rattle.ps_session.specs.declared.session.TakeFault.TheVariants as take_faults
use Rattle.ps_outside.specs.Causes.{Rose}
use Rattle.ps_outside.specs.Links.{Talk, LinkCounts, IsNext, after_next, HasNextCause}
use Rattle.ps_outside.specs.declared.link.Next.TheVariants as nexts
use Rattle.ps_outside.specs.declared.link.Arrival.{Arrival}
use Rattle.ps_hub.specs.Hubs.{Hub}
use Rattle.ps_hub.specs.declared.passes.Passes.{Passes}
use Rattle.ps_serve.specs.declared.closed.End.{End}
use Rattle.ps_serve.specs.declared.closed.End.TheVariants as ends
use Rattle.ps_session.specs.declared.session.TakeFault.{TakeFault}
use Rattle.ps_serve.specs.Acts.{Made, Act, quiet, heard, arrival_of, moment_of, moments_of}
use Rattle.ps_serve.specs.Sendings.{Sending}
use Rattle.ps_serve.specs.Sittings.{Sits, IsUpToDate, Left}
use Rattle.ps_serve.specs.Steps.{Hours, Asked, Hears, StopsFull, StopsShort, Stops, Tells, TellsPart, IsBreak, Talks, TalksIf, Stands}
use Rattle.ps_serve.specs.Ends.{Account, text_item, IsTalk, AreOfLink, HasEmptyInbox, HasCause}
use Rattle.ps_serve.specs.Rests.{end_after, IsSitting, GoesOn, HasExtraAt, ComesToRest}
use Rattle.ps_serve.proofs.SendingLemmas.{no_sendings}
use Rattle.ps_serve.proofs.ActLemmas.{acts_length, moments_more}
use Rattle.ps_serve.proofs.QuietLemmas.{quiet_sits}
use Rattle.ps_serve.proofs.StandLemmas.{asked_on, Moves, text_moves, quiet_moves, talks_on, stands_on}
use Rattle.ps_serve.proofs.RestLemmas.{whole_sits, whole_full, rests_whole, asked_sits, rests_failed, rests_short}

-- ---- answers

pub if_none_two : {A : Type 0} (o : Option A) (P Q R : Type 0) → IfNone o P → IfNone o Q → (P → Q → R) → IfNone o R
if_none_two None P Q R p q f = f p q
if_none_two (Some x) P Q R p q f = tt

pub if_some_two : {A : Type 0} (o : Option A) (P Q R : A → Type 0) → IfSome o P → IfSome o Q → ((x : A) → P x → Q x → R x) → IfSome o R
if_some_two None P Q R p q f = tt
if_some_two (Some x) P Q R p q f = f x p q

-- ---- what the two pieces promise

abbrev pub TellsAll : Hub → Record → Passes → Option Talk → Option Talk → Passes → Type 0
TellsAll hub session passes mid new behind = (conn open_at : ℕ) (acts : List Act) (a : Act) (ss : List Sending) → Sits hub conn open_at (acts ++ a ∷ []) (length acts) ss session passes → Tells hub conn open_at acts a ss session mid new behind

abbrev pub TellsSome : End → Hub → Record → Passes → Option Talk → Option Talk → Passes → Type 0
TellsSome end hub session passes mid new behind = (conn open_at : ℕ) (acts : List Act) (a : Act) (ss : List Sending) → Sits hub conn open_at (acts ++ a ∷ []) (length acts) ss session passes → TellsPart end hub conn open_at acts a ss mid new behind

abbrev pub HearsAll : Hub → Record → Passes → List ℕ → Hours → Hours → Record → Passes → Type 0
HearsAll hub session passes bytes old new heard_session behind = (conn open_at : ℕ) (acts : List Act) (ss : List Sending) → Sits hub conn open_at acts (length acts) ss session passes → Hears hub conn open_at acts ss bytes old new heard_session behind

-- ---- it stands again

pub sits_quiet : (hub : Hub) (s0 s1 : Record) (p0 p1 : Passes) (mid new : Option Talk) → IsSitting hub s0 p0 → TellsAll hub s0 p0 mid new p1 → s1 ≡ s0 → IsSitting hub s1 p1
sits_quiet hub s0 s1 p0 p1 mid new (conn, open_at, acts, ss, sits) tells same =
    let t = tells conn open_at acts quiet ss (quiet_sits hub conn open_at acts ss s0 p0 sits) in
    subst (λ (s : Record). IsSitting hub s p1) (sym same) (conn, open_at, acts ++ quiet ∷ [], ss ++ t.more, subst (λ (n : ℕ). Sits hub conn open_at (acts ++ quiet ∷ []) n (ss ++ t.more) s0 p1) (sym (acts_length acts quiet)) t.sits)

pub sits_text : (hub : Hub) (s0 s1 s2 : Record) (p0 p1 p2 : Passes) (bytes : List ℕ) (h0 h1 : Hours) (mid new : Option Talk) → IsSitting hub s0 p0 → HearsAll hub s0 p0 bytes h0 h1 s1 p1 → TellsAll hub s1 p1 mid new p2 → s2 ≡ s1 → IsSitting hub s2 p2
sits_text hub s0 s1 s2 p0 p1 p2 bytes h0 h1 mid new (conn, open_at, acts, ss, sits) hears tells same =
    let h = hears conn open_at acts ss sits in
    let a : Act = heard bytes h.moment h.made in
    let t = tells conn open_at acts a ss h.sits in
    subst (λ (s : Record). IsSitting hub s p2) (sym same) (conn, open_at, acts ++ a ∷ [], ss ++ t.more, subst (λ (n : ℕ). Sits hub conn open_at (acts ++ a ∷ []) n (ss ++ t.more) s1 p2) (sym (acts_length acts a)) t.sits)

module _ (hub : Hub) (conn open_at : ℕ) (acts : List Act) (ss : List Sending) (talk0 : Option Talk) (counts0 : LinkCounts) (hours0 : Hours) where
  pub goes_quiet : (s0 s1 : Record) (p0 p1 : Passes) (was mid new : Option Talk) (c0 c1 c2 : LinkCounts) (h : Hours) → Stands hub conn open_at acts ss s0 p0 talk0 was counts0 c0 hours0 h → mid ≡ after_next nexts.Quiet was → IsNext was nexts.Quiet → HasNextCause c0 c1 nexts.Quiet
      → TellsAll hub s0 p0 mid new p1 → s1 ≡ s0 → c2 ≡ c1 → GoesOn hub conn open_at s1 p1 talk0 new counts0 c2 hours0 h
  goes_quiet s0 s1 p0 p1 was mid new c0 c1 c2 h st is front cause tells same counts =
      let t = tells conn open_at acts quiet ss (quiet_sits hub conn open_at acts ss s0 p0 st.sits) in (
        acts ++ quiet ∷ [],
        ss ++ t.more,
        subst (λ (s : Record). Stands hub conn open_at (acts ++ quiet ∷ []) (ss ++ t.more) s p1 talk0 new counts0 c2 hours0 h) (sym same)
            (stands_on hub conn open_at acts quiet ss s0 s0 p0 p1 talk0 was mid new counts0 c0 c2 hours0 h h st (quiet_moves was mid is front) refl (ap (λ (c : LinkCounts). c.faults) counts ∙ cause.other) (ap (λ (c : LinkCounts). c.ends) counts ∙ cause.third) t),
      )

  pub goes_text : (s0 s1 s2 : Record) (p0 p1 p2 : Passes) (bytes : Vec ℕ Global) (was mid new : Option Talk) (c0 c1 c2 : LinkCounts) (h0 h1 : Hours) → Stands hub conn open_at acts ss s0 p0 talk0 was counts0 c0 hours0 h0 → mid ≡ after_next (nexts.Text bytes) was → IsNext was (nexts.Text bytes) → HasNextCause c0 c1 (nexts.Text bytes)
      → HearsAll hub s0 p0 bytes.items h0 h1 s1 p1 → TellsAll hub s1 p1 mid new p2 → s2 ≡ s1 → c2 ≡ c1 → GoesOn hub conn open_at s2 p2 talk0 new counts0 c2 hours0 h1
  goes_text s0 s1 s2 p0 p1 p2 bytes was mid new c0 c1 c2 h0 h1 st is front cause hears tells same counts =
      let h = hears conn open_at acts ss st.sits in
      let a : Act = heard bytes.items h.moment h.made in
      let t = tells conn open_at acts a ss h.sits in (
        acts ++ a ∷ [],
        ss ++ t.more,
        subst (λ (s : Record). Stands hub conn open_at (acts ++ a ∷ []) (ss ++ t.more) s p2 talk0 new counts0 c2 hours0 h1) (sym same)
            (stands_on hub conn open_at acts a ss s0 s1 p0 p2 talk0 was mid new counts0 c0 c2 hours0 h0 h1 st (text_moves bytes h.moment h.made was mid is front) h.asked (ap (λ (c : LinkCounts). c.faults) (counts ∙ cause)) (ap (λ (c : LinkCounts). c.ends) (counts ∙ cause)) t),
      )

-- ---- it comes to rest

-- what the link gave, with a text at the end that became nothing, or none
abbrev RestMoves : List (List ℕ) → Option Talk → Option Talk → Type 0
RestMoves rest None None = Unit {0}
RestMoves rest (Some was) (Some mid) = (was.inbox ≡ map text_item rest ++ mid.inbox) × (mid.answers ≡ was.answers + length rest) × (mid.sent ≡ was.sent)
RestMoves rest was mid = ⊥

told_here : (t : Account) (old was mid : Talk) → Talks t.acts t.sendings old was → RestMoves t.rest (Some was) (Some mid) → IsTalk t old mid
told_here t old was mid k m =
    let counted : was.answers ≡ old.answers + length t.acts = k.answers in
    let later : mid.answers ≡ was.answers + length t.rest = m.1 in
    record {
      given = k.given ∙ ap (λ (l : List Arrival). map arrival_of t.acts ++ l) m.0;
      answers = omega arith;
      sent = m.2 ∙ k.sent;
    }

told_by : (t : Account) (old was mid : Option Talk) → TalksIf t.acts t.sendings old was → RestMoves t.rest was mid → AreOfLink t old mid
told_by t None None None k m = tt
told_by t None None (Some mid) k m = absurd m
told_by t None (Some was) mid k m = absurd k
told_by t (Some old) None mid k m = absurd k
told_by t (Some old) (Some was) None k m = absurd m
told_by t (Some old) (Some was) (Some mid) k m = told_here t old was mid k m

still_there : (was mid : Option Talk) → mid ≡ was → RestMoves [] was mid
still_there None mid is = subst (λ (m : Option Talk). RestMoves [] None m) (sym is) tt
still_there (Some w) mid is = subst (λ (m : Option Talk). RestMoves [] (Some w) m) (sym is) (refl, omega arith, refl)

text_there : (bytes : Vec ℕ Global) (was mid : Option Talk) → mid ≡ after_next (nexts.Text bytes) was → IsNext was (nexts.Text bytes) → RestMoves (bytes.items ∷ []) was mid
text_there bytes None mid is front = subst (λ (m : Option Talk). RestMoves (bytes.items ∷ []) None m) (sym is) tt
text_there bytes (Some w) mid is front = subst (λ (m : Option Talk). RestMoves (bytes.items ∷ []) (Some w) m) (sym is) (front, omega arith, refl)

after_end : (was : Option Talk) → after_next nexts.End was ≡ was
after_end None = refl
after_end (Some w) = refl

after_failed : (was : Option Talk) → after_next nexts.Failed was ≡ was
after_failed None = refl
after_failed (Some w) = refl

after_none : (was : Option Talk) → after_next nexts.NoMemory was ≡ was
after_none None = refl
after_none (Some w) = refl

abbrev HasInbox : Option Talk → Type 0
HasInbox None = Unit {0}
HasInbox (Some talk) = talk.inbox ≡ []

empty_inbox : (was mid : Option Talk) → mid ≡ was → IsNext was nexts.End → HasInbox mid
empty_inbox None mid is front = subst HasInbox (sym is) tt
empty_inbox (Some w) mid is front = subst HasInbox (sym is) front

inbox_closed : (talk : Option Talk) → HasInbox talk → HasEmptyInbox ends.Closed talk
inbox_closed None e = tt
inbox_closed (Some w) e = e

no_list : {A : Type 0} (x : A) (xs : List A) → xs ≡ [] → xs ≡ x ∷ [] → ⊥
no_list x xs none one = let bad : x ∷ [] ≡ [] = sym one ∙ none in cc

module _ (hub : Hub) (conn open_at left : ℕ) (acts : List Act) (ss : List Sending) (talk0 : Option Talk) (counts0 : LinkCounts) (hours0 : Hours) where
  -- what was done, where what came last is no act
  abbrev told_of : List (List ℕ) → List ℕ → Account
  told_of rest extra = record { acts = acts; sendings = ss; rest = rest; opened = open_at; extra = extra; left = left }

  -- and where it is one
  abbrev told_with : Act → List Sending → Account
  told_with a more = record { acts = acts ++ a ∷ []; sendings = ss ++ more; rest = []; opened = open_at; extra = []; left = left }

  -- ---- nothing came of it

  kept : (end : End) (rest : List (List ℕ)) (extra : List ℕ) (s : Record) (p : Passes) (was mid : Option Talk) (c0 c1 : LinkCounts) (h h1 : Hours) → Stands hub conn open_at acts ss s p talk0 was counts0 c0 hours0 h → RestMoves rest was mid
      → HasCause end hub conn (told_of rest extra) p.rooms.items mid counts0 c1 → HasExtraAt end conn (told_of rest extra) → Asked h extra h1 → ComesToRest end hub conn open_at left p talk0 mid counts0 c1 hours0 h1
  kept end rest extra s p was mid c0 c1 h h1 st moves cause few asked =
      let t = told_of rest extra in
      (t, refl, refl, rests_whole end hub conn t p talk0 mid counts0 c1 hours0 h1 (whole_sits hub conn t s p st.sits st.up) (told_by t talk0 was mid st.talks moves, st.sits.way) cause few (asked_sits end hub conn t p.rooms.items st.sits.rooms) (asked_on hours0 (moments_of acts) extra h h1 st.asked asked))

  pub rest_closed : (s : Record) (p : Passes) (was mid : Option Talk) (c0 c1 : LinkCounts) (h : Hours) → Stands hub conn open_at acts ss s p talk0 was counts0 c0 hours0 h → mid ≡ after_next nexts.End was → IsNext was nexts.End → HasNextCause c0 c1 nexts.End → ComesToRest ends.Closed hub conn open_at left p talk0 mid counts0 c1 hours0 h
  rest_closed s p was mid c0 c1 h st is front cause =
      let same : mid ≡ was = is ∙ after_end was in
      kept ends.Closed [] [] s p was mid c0 c1 h h st (still_there was mid same)
      (record { counts = (subst (λ (n : ℕ). Rose n c1.ends) st.ends_is cause.rose, cause.other ∙ st.faults); inbox = inbox_closed mid (empty_inbox was mid same front); text = refl }) refl refl

  pub rest_failed : (s : Record) (p : Passes) (was mid : Option Talk) (c0 c1 : LinkCounts) (h : Hours) → Stands hub conn open_at acts ss s p talk0 was counts0 c0 hours0 h → mid ≡ after_next nexts.Failed was → HasNextCause c0 c1 nexts.Failed → ComesToRest ends.LinkFault hub conn open_at left p talk0 mid counts0 c1 hours0 h
  rest_failed s p was mid c0 c1 h st is cause =
      kept ends.LinkFault [] [] s p was mid c0 c1 h h st (still_there was mid (is ∙ after_failed was))
      (record { counts = (subst (λ (n : ℕ). Rose n c1.faults) st.faults cause.rose, cause.third ∙ st.ends_is); inbox = tt; text = refl }) refl refl

  pub rest_none : (s : Record) (p : Passes) (was mid : Option Talk) (c0 c1 : LinkCounts) (h : Hours) → Stands hub conn open_at acts ss s p talk0 was counts0 c0 hours0 h → mid ≡ after_next nexts.NoMemory was → ComesToRest ends.NoMemory hub conn open_at left p talk0 mid counts0 c1 hours0 h
  rest_none s p was mid c0 c1 h st is =
      kept ends.NoMemory [] [] s p was mid c0 c1 h h st (still_there was mid (is ∙ after_none was))
      (record { counts = tt; inbox = tt; text = omega arith }) (inl refl) refl

  -- ---- a text that became nothing

  pub rest_bad : (s : Record) (p p1 : Passes) (bytes : Vec ℕ Global) (was mid : Option Talk) (c0 c1 : LinkCounts) (h h1 : Hours) → Stands hub conn open_at acts ss s p talk0 was counts0 c0 hours0 h → mid ≡ after_next (nexts.Text bytes) was → IsNext was (nexts.Text bytes) → HasNextCause c0 c1 (nexts.Text bytes)
      → Stops take_faults.BadText hub conn open_at acts ss bytes.items s p h h1 p1 → ComesToRest (ends.BadText bytes) hub conn open_at left p1 talk0 mid counts0 c1 hours0 h1
  rest_bad s p p1 bytes was mid c0 c1 h h1 st is front cause stop =
      subst (λ (q : Passes). ComesToRest (ends.BadText bytes) hub conn open_at left q talk0 mid counts0 c1 hours0 h1) (sym stop.1)
      (
      kept (ends.BadText bytes) (bytes.items ∷ []) [] s p was mid c0 c1 h h1 st (text_there bytes was mid is front)
      (record {
        counts = (ap (λ (c : LinkCounts). c.faults) cause ∙ st.faults, ap (λ (c : LinkCounts). c.ends) cause ∙ st.ends_is);
        inbox = tt;
        text = (refl, subst (λ (r : Record). taken r bytes.items ≡ Err take_faults.BadText) st.sits.session_is stop.0);
      })
      refl stop.2
      )

  rest_limit : (room : Option (List ℕ)) (s : Record) (p p1 : Passes) (bytes : Vec ℕ Global) (was mid : Option Talk) (c0 c1 : LinkCounts) (h h1 : Hours) → Stands hub conn open_at acts ss s p talk0 was counts0 c0 hours0 h → mid ≡ after_next (nexts.Text bytes) was → IsNext was (nexts.Text bytes) → HasNextCause c0 c1 (nexts.Text bytes)
      → (taken s bytes.items ≡ Err (take_faults.Limit room)) × (p1 ≡ p) × (h1 ≡ h) → ComesToRest (ends.OwnLimit room) hub conn open_at left p1 talk0 mid counts0 c1 hours0 h1
  rest_limit room s p p1 bytes was mid c0 c1 h h1 st is front cause stop =
      subst (λ (q : Passes). ComesToRest (ends.OwnLimit room) hub conn open_at left q talk0 mid counts0 c1 hours0 h1) (sym stop.1)
      (
      kept (ends.OwnLimit room) (bytes.items ∷ []) [] s p was mid c0 c1 h h1 st (text_there bytes was mid is front)
      (record {
        counts = (ap (λ (c : LinkCounts). c.faults) cause ∙ st.faults, ap (λ (c : LinkCounts). c.ends) cause ∙ st.ends_is);
        inbox = tt;
        text = (bytes.items, refl, inl (subst (λ (r : Record). taken r bytes.items ≡ Err (take_faults.Limit room)) st.sits.session_is stop.0, refl));
      })
      (inl refl) stop.2
      )

  rest_full : (room : Option (List ℕ)) (s : Record) (p p1 : Passes) (bytes : Vec ℕ Global) (was mid : Option Talk) (c0 c1 : LinkCounts) (h h1 : Hours) → Stands hub conn open_at acts ss s p talk0 was counts0 c0 hours0 h → mid ≡ after_next (nexts.Text bytes) was → IsNext was (nexts.Text bytes) → HasNextCause c0 c1 (nexts.Text bytes)
      → room ≡ None → StopsFull hub conn open_at acts ss bytes.items s p h h1 p1 → ComesToRest (ends.OwnLimit room) hub conn open_at left p1 talk0 mid counts0 c1 hours0 h1
  rest_full room s p p1 bytes was mid c0 c1 h h1 st is front cause hall f =
      let t = told_of (bytes.items ∷ []) (f.moment ∷ []) in
      let up : (acts ≡ []) ⊎ IsUpToDate p1 = ⊎_elim (λ (e : acts ≡ []). inl e) (λ (u : IsUpToDate p). inr (f.up u)) st.up in
      let badge = f.badge_is ∙ st.sits.badge_is ∙ ap (λ (r : Record). r.badge) st.sits.session_is in (
        t,
        refl,
        refl,
        rests_whole (ends.OwnLimit room) hub conn t p1 talk0 mid counts0 c1 hours0 h1 (whole_full hub conn t p1 f.sits up badge) (told_by t talk0 was mid st.talks (text_there bytes was mid is front), st.sits.way)
            (record {
              counts = (ap (λ (c : LinkCounts). c.faults) cause ∙ st.faults, ap (λ (c : LinkCounts). c.ends) cause ∙ st.ends_is);
              inbox = tt;
              text = (
                bytes.items,
                refl,
                inr (hall, f.id, f.cmd, f.place, subst (λ (r : Record). taken r bytes.items ≡ Ok (Room f.id f.cmd)) st.sits.session_is f.taken_is, subst (λ (r : Record). is_full None (counted (Some f.id) r) ≡ true) st.sits.session_is f.full, f.unfound, refl),
              );
            })
            (inr (bytes.items, Room f.id f.cmd, refl, subst (λ (r : Record). taken r bytes.items ≡ Ok (Room f.id f.cmd)) st.sits.session_is f.taken_is, refl)) (λ i d lt. tt) (asked_on hours0 (moments_of acts) (f.moment ∷ []) h h1 st.asked f.asked),
      )

  pub rest_many : (room : Option (List ℕ)) (s : Record) (p p1 : Passes) (bytes : Vec ℕ Global) (was mid : Option Talk) (c0 c1 : LinkCounts) (h h1 : Hours) → Stands hub conn open_at acts ss s p talk0 was counts0 c0 hours0 h → mid ≡ after_next (nexts.Text bytes) was → IsNext was (nexts.Text bytes) → HasNextCause c0 c1 (nexts.Text bytes)
      → Stops (take_faults.Limit room) hub conn open_at acts ss bytes.items s p h h1 p1 → ComesToRest (ends.OwnLimit room) hub conn open_at left p1 talk0 mid counts0 c1 hours0 h1
  rest_many room s p p1 bytes was mid c0 c1 h h1 st is front cause stop =
      ⊎_elim
      (λ (l : (taken s bytes.items ≡ Err (take_faults.Limit room)) × (p1 ≡ p) × (h1 ≡ h)). rest_limit room s p p1 bytes was mid c0 c1 h h1 st is front cause l)
      (λ (f : (room ≡ None) × StopsFull hub conn open_at acts ss bytes.items s p h h1 p1). rest_full room s p p1 bytes was mid c0 c1 h h1 st is front cause f.0 f.1)
      stop

  -- ---- memory ran out for a text

  short_before : (s : Record) (p p1 : Passes) (bytes : Vec ℕ Global) (was mid : Option Talk) (c0 c1 : LinkCounts) (h h1 : Hours) → Stands hub conn open_at acts ss s p talk0 was counts0 c0 hours0 h → mid ≡ after_next (nexts.Text bytes) was → IsNext was (nexts.Text bytes)
      → (q : StopsShort hub conn open_at acts ss bytes.items s h h1 p1) → q.last ≡ [] → ComesToRest ends.NoMemory hub conn open_at left p1 talk0 mid counts0 c1 hours0 h1
  short_before s p p1 bytes was mid c0 c1 h h1 st is front q none =
      let t = told_of (bytes.items ∷ []) q.moments in
      let parts : Left false hub conn open_at acts acts ss p1 = subst (λ (l : List Act). Left false hub conn open_at acts l ss p1) (ap (λ (l : List Act). acts ++ l) none ∙ append-nil acts) q.left in (
        t,
        refl,
        refl,
        rests_short hub conn acts [] t p1 talk0 mid counts0 c1 hours0 h1 parts (sym (append-nil acts)) (omega arith) (told_by t talk0 was mid st.talks (text_there bytes was mid is front), st.sits.way)
            (record { counts = tt; inbox = tt; text = omega arith })
            (⊎_elim
            (λ (none_asked : q.moments ≡ []). inl none_asked)
            (λ (one : (order : Order) × (taken s bytes.items ≡ Ok order) × (length q.moments ≡ 1)). inr (bytes.items, one.0, refl, subst (λ (r : Record). taken r bytes.items ≡ Ok one.0) st.sits.session_is one.1, one.2))
            q.of_order)
            (asked_on hours0 (moments_of acts) q.moments h h1 st.asked q.asked),
      )

  short_within : (s : Record) (p p1 : Passes) (bytes : Vec ℕ Global) (was mid : Option Talk) (c0 c1 : LinkCounts) (h h1 : Hours) → Stands hub conn open_at acts ss s p talk0 was counts0 c0 hours0 h → mid ≡ after_next (nexts.Text bytes) was → IsNext was (nexts.Text bytes)
      → (q : StopsShort hub conn open_at acts ss bytes.items s h h1 p1) (moment : ℕ) (made : Made) → q.last ≡ heard bytes.items moment made ∷ [] → q.moments ≡ moments_of q.last → ComesToRest ends.NoMemory hub conn open_at left p1 talk0 mid counts0 c1 hours0 h1
  short_within s p p1 bytes was mid c0 c1 h h1 st is front q moment made one agree =
      let a : Act = heard bytes.items moment made in
      let t : Account = record { acts = acts ++ a ∷ []; sendings = ss; rest = []; opened = open_at; extra = []; left = left } in
      let parts : Left false hub conn open_at acts (acts ++ a ∷ []) ss p1 = subst (λ (l : List Act). Left false hub conn open_at acts (acts ++ l) ss p1) one q.left in
      let talks : TalksIf (acts ++ a ∷ []) ss talk0 mid = subst (λ (l : List Sending). TalksIf (acts ++ a ∷ []) l talk0 mid) (append-nil ss) (talks_on acts a ss [] talk0 was mid mid st.talks (text_moves bytes moment made was mid is front) (All-nil (λ (x : Sending). x.after ≡ length acts + 1)) (no_sendings mid)) in
      let asked : Asked h (moment ∷ []) h1 = subst (λ (ms : List ℕ). Asked h ms h1) (agree ∙ ap moments_of one) q.asked in
      let asked_all : Asked hours0 (moments_of (acts ++ a ∷ []) ++ []) h1 = subst (λ (ms : List ℕ). Asked hours0 ms h1) (sym (append-nil (moments_of (acts ++ a ∷ [])) ∙ moments_more acts a)) (asked_on hours0 (moments_of acts) (moment ∷ []) h h1 st.asked asked) in (
        t,
        refl,
        refl,
        rests_short hub conn acts (a ∷ []) t p1 talk0 mid counts0 c1 hours0 h1 parts refl (omega arith) (told_by t talk0 mid mid talks (still_there mid mid refl), parts.way)
            (record { counts = tt; inbox = tt; text = omega arith }) (inl refl) asked_all,
      )

  pub rest_short : (s : Record) (p p1 : Passes) (bytes : Vec ℕ Global) (was mid : Option Talk) (c0 c1 : LinkCounts) (h h1 : Hours) → Stands hub conn open_at acts ss s p talk0 was counts0 c0 hours0 h → mid ≡ after_next (nexts.Text bytes) was → IsNext was (nexts.Text bytes)
      → Stops take_faults.NoMemory hub conn open_at acts ss bytes.items s p h h1 p1 → ComesToRest ends.NoMemory hub conn open_at left p1 talk0 mid counts0 c1 hours0 h1
  rest_short s p p1 bytes was mid c0 c1 h h1 st is front q =
      ⊎_elim
      (λ (none : q.last ≡ []). short_before s p p1 bytes was mid c0 c1 h h1 st is front q none)
      (λ (one : (moment : ℕ) × (made : Made) × (q.last ≡ heard bytes.items moment made ∷ [])).
      ⊎_elim
      (λ (none : q.last ≡ []). absurd (no_list (heard bytes.items one.0 one.1) q.last none one.2))
      (λ (agree : q.moments ≡ moments_of q.last). short_within s p p1 bytes was mid c0 c1 h h1 st is front q one.0 one.1 one.2 agree)
      q.agree)
      q.last_is

  -- a text stopped the session
  pub rest_stopped : (stop : TakeFault) (s : Record) (p p1 : Passes) (lent : List ℕ) (bytes : Vec ℕ Global) (was mid : Option Talk) (c0 c1 : LinkCounts) (h h1 : Hours) → Stands hub conn open_at acts ss s p talk0 was counts0 c0 hours0 h → mid ≡ after_next (nexts.Text bytes) was → IsNext was (nexts.Text bytes) → HasNextCause c0 c1 (nexts.Text bytes)
      → lent ≡ bytes.items → Stops stop hub conn open_at acts ss lent s p h h1 p1 → ComesToRest (end_after stop bytes) hub conn open_at left p1 talk0 mid counts0 c1 hours0 h1
  rest_stopped stop s p p1 lent bytes was mid c0 c1 h h1 st is front cause same stopped =
      by_stop stop (subst (λ (b : List ℕ). Stops stop hub conn open_at acts ss b s p h h1 p1) same stopped) where
        by_stop : (stop : TakeFault) → Stops stop hub conn open_at acts ss bytes.items s p h h1 p1 → ComesToRest (end_after stop bytes) hub conn open_at left p1 talk0 mid counts0 c1 hours0 h1
        by_stop take_faults.BadText q = rest_bad s p p1 bytes was mid c0 c1 h h1 st is front cause q
        by_stop (take_faults.Limit room) q = rest_many room s p p1 bytes was mid c0 c1 h h1 st is front cause q
        by_stop take_faults.NoMemory q = rest_short s p p1 bytes was mid c0 c1 h h1 st is front q

  -- ---- it broke off while it told what happened

  broke_with : (s0 : Record) (p0 p2 : Passes) (a : Act) (was mid new : Option Talk) (c0 : LinkCounts) (h h1 : Hours) → Stands hub conn open_at acts ss s0 p0 talk0 was counts0 c0 hours0 h → Moves a was mid → (end : End) (t : TellsPart end hub conn open_at acts a ss mid new p2) → AreOfLink (told_with a t.more) talk0 new
  broke_with s0 p0 p2 a was mid new c0 h h1 st moves end t = told_by (told_with a t.more) talk0 new new (talks_on acts a ss t.more talk0 was mid new st.talks moves t.now t.sent) (still_there new new refl)

  asked_with : (s0 : Record) (p0 : Passes) (a : Act) (was : Option Talk) (c0 : LinkCounts) (h h1 : Hours) → Stands hub conn open_at acts ss s0 p0 talk0 was counts0 c0 hours0 h → Asked h (moment_of a) h1 → Asked hours0 (moments_of (acts ++ a ∷ []) ++ []) h1
  asked_with s0 p0 a was c0 h h1 st asked = subst (λ (ms : List ℕ). Asked hours0 ms h1) (sym (append-nil (moments_of (acts ++ a ∷ [])) ∙ moments_more acts a)) (asked_on hours0 (moments_of acts) (moment_of a) h h1 st.asked asked)

  rest_broke : (end : End) (s0 : Record) (p0 p2 : Passes) (a : Act) (was mid new : Option Talk) (c0 c1 c2 : LinkCounts) (h h1 : Hours) → Stands hub conn open_at acts ss s0 p0 talk0 was counts0 c0 hours0 h → Moves a was mid → Asked h (moment_of a) h1
      → c1.faults ≡ c0.faults → c1.ends ≡ c0.ends → IsBreak end c1 c2 → TellsPart end hub conn open_at acts a ss mid new p2 → ComesToRest end hub conn open_at left p2 talk0 new counts0 c2 hours0 h1
  rest_broke ends.LinkFault s0 p0 p2 a was mid new c0 c1 c2 h h1 st moves asked faults ended broke t = (
    told_with a t.more,
    refl,
    refl,
    rests_failed hub conn acts (told_with a t.more) p2 talk0 new counts0 c2 hours0 h1 t.left (broke_with s0 p0 p2 a was mid new c0 h h1 st moves ends.LinkFault t, t.left.way)
        (record { counts = (subst (λ (n : ℕ). Rose n c2.faults) (faults ∙ st.faults) broke.rose, broke.third ∙ ended ∙ st.ends_is); inbox = tt; text = refl }) refl (asked_with s0 p0 a was c0 h h1 st asked),
  )
  rest_broke ends.NoMemory s0 p0 p2 a was mid new c0 c1 c2 h h1 st moves asked faults ended broke t = (
    told_with a t.more,
    refl,
    refl,
    rests_short hub conn acts (a ∷ []) (told_with a t.more) p2 talk0 new counts0 c2 hours0 h1 t.left refl (omega arith) (broke_with s0 p0 p2 a was mid new c0 h h1 st moves ends.NoMemory t, t.left.way)
        (record { counts = tt; inbox = tt; text = omega arith }) (inl refl) (asked_with s0 p0 a was c0 h h1 st asked),
  )
  rest_broke ends.Taken s0 p0 p2 a was mid new c0 c1 c2 h h1 st moves asked faults ended broke t = absurd broke
  rest_broke ends.Closed s0 p0 p2 a was mid new c0 c1 c2 h h1 st moves asked faults ended broke t = absurd broke
  rest_broke (ends.OwnLimit room) s0 p0 p2 a was mid new c0 c1 c2 h h1 st moves asked faults ended broke t = absurd broke
  rest_broke (ends.BadText bytes) s0 p0 p2 a was mid new c0 c1 c2 h h1 st moves asked faults ended broke t = absurd broke

  pub broke_quiet : (end : End) (s0 : Record) (p0 p1 : Passes) (was mid new : Option Talk) (c0 c1 c2 : LinkCounts) (h : Hours) → Stands hub conn open_at acts ss s0 p0 talk0 was counts0 c0 hours0 h → mid ≡ after_next nexts.Quiet was → IsNext was nexts.Quiet → HasNextCause c0 c1 nexts.Quiet
      → IsBreak end c1 c2 → TellsSome end hub s0 p0 mid new p1 → ComesToRest end hub conn open_at left p1 talk0 new counts0 c2 hours0 h
  broke_quiet end s0 p0 p1 was mid new c0 c1 c2 h st is front cause broke tells =
      let sits = quiet_sits hub conn open_at acts ss s0 p0 st.sits in
      rest_broke end s0 p0 p1 quiet was mid new c0 c1 c2 h h st (quiet_moves was mid is front) refl cause.other cause.third broke (tells conn open_at acts quiet ss sits)

  pub broke_text : (end : End) (s0 s1 : Record) (p0 p1 p2 : Passes) (bytes : Vec ℕ Global) (was mid new : Option Talk) (c0 c1 c2 : LinkCounts) (h h1 : Hours) → Stands hub conn open_at acts ss s0 p0 talk0 was counts0 c0 hours0 h → mid ≡ after_next (nexts.Text bytes) was → IsNext was (nexts.Text bytes) → HasNextCause c0 c1 (nexts.Text bytes)
      → HearsAll hub s0 p0 bytes.items h h1 s1 p1 → IsBreak end c1 c2 → TellsSome end hub s1 p1 mid new p2 → ComesToRest end hub conn open_at left p2 talk0 new counts0 c2 hours0 h1
  broke_text end s0 s1 p0 p1 p2 bytes was mid new c0 c1 c2 h h1 st is front cause hears broke tells =
      let q = hears conn open_at acts ss st.sits in
      let a : Act = heard bytes.items q.moment q.made in
      rest_broke end s0 p0 p2 a was mid new c0 c1 c2 h h1 st (text_moves bytes q.moment q.made was mid is front) q.asked (ap (λ (c : LinkCounts). c.faults) cause) (ap (λ (c : LinkCounts). c.ends) cause) broke (tells conn open_at acts a ss q.sits)
