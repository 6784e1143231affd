-- What a look and the texts behind it make of what was sent and of the looks that were answered.
use Rattle.std.proofs.Common.{◌≡◌, ℕ, zero, suc, ◌+◌, ◌≤◌, List, [], ◌∷◌, ◌++◌, length, take, drop, Option, None, refl, ap, sym, ◌∙◌, subst, arith, append_assoc}
use Rattle.std.specs.Prelude.{All}
use Rattle.std.proofs.lemmas.List.{append-nil, length-append, map-append, take-append-drop}
use Rattle.std.proofs.lemmas.List.Elements.{All-push, All-weaker}
use Rattle.ps_histlock.specs.declared.view.View.{View}
use Rattle.ps_histlock.specs.Views.{after_look}
use Rattle.ps_histlock.specs.Histories.{entries_of}
use Rattle.ps_histlock.proofs.Lists.{prefix_self, prefix_length, own_between}
use mathlib.Core.List.{IsPrefix}
use Rattle.ps_base.specs.declared.msg.Msg.{Msg}
use Rattle.ps_base.specs.Messages.{msg_lines, texts_of}
use Rattle.server_pass.specs.Tellings.{lines_of}
use Rattle.server_pass.specs.Turns.{TurnsAtLast, ReadsOn, Rereads}
use Rattle.server_pass.specs.Catches.{IsFresh, HandsOut}
use Rattle.ps_serve.specs.Sendings.{Sending, texts_from, texts_before, message_texts, IsLookAnswered, AreLooksAnswered}
use Rattle.ps_serve.specs.Sittings.{IsSent, IsCaughtUp, IsPartSent, AreAlmostAnswered}
use Rattle.ps_serve.proofs.Prefixes.{prefix_same, prefix_trans, take_prefix}
use Rattle.ps_serve.proofs.SendingLemmas.{texts_from-append, from_still, before_more, before_all, texts_are, message_texts-append}

-- ---- beginnings of lists

prefix_behind : {A : Type 0} (zs xs ys : List A) → IsPrefix xs ys → IsPrefix (zs ++ xs) (zs ++ ys)
prefix_behind zs xs ys p = (p.0, append_assoc zs xs p.0 ∙ ap (λ w. zs ++ w) p.1)

prefix_take : {A : Type 0} (n : ℕ) (xs : List A) → IsPrefix (take n xs) xs
prefix_take n xs = (drop n xs, take-append-drop n xs)

-- ---- a look, and turns without an entry, if any

module _ {O C : Type 0} where
  -- turns without an entry
  pub record Reread (v w : View O C) : Type 0 where
    pub looks : w.looks ≡ v.looks
    pub mine : w.mine ≡ v.mine
    pub number : w.number ≡ v.number
    pub grows : IsPrefix v.seen w.seen

  reread_none : (v w : View O C) → w ≡ v → Reread v w
  reread_none v w is = subst (λ (u : View O C). Reread v u) (sym is) (record { looks = refl; mine = refl; number = refl; grows = prefix_self v.seen })

  reread_turn : (v w : View O C) → TurnsAtLast v None w → Reread v w
  reread_turn v w t = subst (λ (u : View O C). Reread v u) (sym t.1.2) (record { looks = refl; mine = refl; number = refl; grows = t.1.1.0 })

  reread_then : (v u w : View O C) → Reread v u → Reread u w → Reread v w
  reread_then v u w a b = record { looks = b.looks ∙ a.looks; mine = b.mine ∙ a.mine; number = b.number ∙ a.number; grows = prefix_trans v.seen u.seen w.seen a.grows b.grows }

  reread_by : (turns : ℕ) (v w : View O C) → ReadsOn turns v w → Reread v w
  reread_by zero v w is = reread_none v w is
  reread_by (suc turns) v w r = reread_then v r.0 w (reread_by turns v r.0 r.1) (reread_turn r.0 w r.2)

  pub reread : (v w : View O C) → Rereads v w → Reread v w
  reread v w r = reread_by r.0 v w r.1

  reads_on : (before turns : ℕ) (v u w : View O C) → ReadsOn before v u → ReadsOn turns u w → Rereads v w
  reads_on before zero v u w a is = (before, subst (λ (x : View O C). ReadsOn before v x) (sym is) a)
  reads_on before (suc turns) v u w a b = (let r = reads_on before turns v u b.0 a b.1 in (suc r.0, (b.0, r.1, b.2)))

  pub rereads_then : (v u w : View O C) → Rereads v u → Rereads u w → Rereads v w
  rereads_then v u w a b = reads_on a.0 b.0 v u w a.1 b.1

  pub record Looked (v w : View O C) (n : ℕ) : Type 0 where
    pub looks : w.looks ≡ v.looks ++ n ∷ []
    pub mine : w.mine ≡ v.mine
    pub number : w.number ≡ v.number
    pub grows : IsPrefix v.seen w.seen

  pub looked : (v w : View O C) (n : ℕ) → Rereads (after_look v n) w → Looked v w n
  looked v w n r = (let t = reread (after_look v n) w r in record { looks = t.looks; mine = t.mine; number = t.number; grows = t.grows })

  pub one_look_more : (v w : View O C) (n : ℕ) → Looked v w n → length w.looks ≡ length v.looks + 1
  one_look_more v w n l = ap length l.looks ∙ length-append v.looks (n ∷ [])

-- ---- all that is the pass's own

module _ {C : Type 0} where
  take_behind : (n : ℕ) (xs ys : List C) → length xs ≤ n → IsPrefix xs (take n (xs ++ ys))
  take_behind n [] ys le = (take n ys, refl)
  take_behind zero (x ∷ xs) ys le = absurd (omega (arith, le))
  take_behind (suc n) (x ∷ xs) ys le = (let p = take_behind n xs ys (omega (arith, le)) in (p.0, ap (λ (l : List C). x ∷ l) p.1))

  prefix_taken : (n : ℕ) (xs ys : List C) → length xs ≤ n → IsPrefix xs ys → IsPrefix xs (take n ys)
  prefix_taken n xs ys le p = subst (λ (l : List C). IsPrefix xs (take n l)) p.1 (take_behind n xs p.0 le)

module _ {O C : Type 0} where
  -- what a pass made stands in what it had seen before its look, and so in what was handed out for it
  pub caught_up : (v w : View O C) (n at : ℕ) → Looked v w n → IsFresh v n → length v.seen ≤ n → n ≤ at → v.mine ≡ entries_of v.number v.seen → w.mine ≡ entries_of w.number w.seen → IsCaughtUp w at
  caught_up v w n at l fresh seen le was is =
      let looks : All (λ (m : ℕ). m ≤ at) (v.looks ++ n ∷ []) = All-push (λ (m : ℕ). m ≤ at) v.looks n (All-weaker (λ (m : ℕ). m ≤ n) (λ (m : ℕ). m ≤ at) (λ m less. omega (arith, less)) v.looks fresh.1) le in
      let one : entries_of w.number v.seen ≡ entries_of w.number w.seen = ap (λ (i : ℕ). entries_of i v.seen) l.number ∙ sym was ∙ sym l.mine ∙ is in
      record {
        looks = subst (λ (ns : List ℕ). All (λ (m : ℕ). m ≤ at) ns) (sym l.looks) looks;
        own = sym (own_between w.number v.seen (take at w.seen) w.seen (prefix_taken at v.seen w.seen (omega (arith, seen, le)) l.grows) (prefix_take at w.seen) one) ∙ sym is;
      }

module _ {C : Type 0} (shows : List C → List (List (List ℕ)) → Type 0) where
  -- ---- what was sent

  -- all messages of a list have one view
  abbrev pub IsOne : Type 0
  IsOne = (cmds : List C) (one two : List (List (List ℕ))) → shows cmds one → shows cmds two → one ≡ two

  -- the view over what was handed out, with what is handed out now
  pub record Handed (cmds : List C) (at : ℕ) (room : Option (List ℕ)) (place : Option ℕ) (ss : List Sending) (msgs : List Msg) (more : List C) (now : ℕ) : Type 0 where
    pub view : List (List (List ℕ))
    pub shown : shows (take now more) view
    pub texts : message_texts room view ≡ texts_from place ss ++ texts_of room msgs

  pub handed : IsOne → (cmds : List C) (at : ℕ) (room : Option (List ℕ)) (place : Option ℕ) (ss : List Sending) (msgs : List Msg) (more : List C) (now : ℕ) → IsSent shows cmds at room place ss → HandsOut shows cmds at msgs more now → Handed cmds at room place ss msgs more now
  handed one cmds at room place ss msgs more now sent h = record {
    view = h.before ++ lines_of msgs;
    shown = h.shown;
    texts =
        message_texts-append room h.before (lines_of msgs)
        ∙ ap (λ (v : List (List (List ℕ))). message_texts room v ++ message_texts room (lines_of msgs)) (one (take at cmds) h.before sent.0 h.shown_before sent.1)
        ∙ ap (λ (ts : List (List ℕ)). ts ++ message_texts room (lines_of msgs)) (sym sent.2)
        ∙ ap (λ (ts : List (List ℕ)). texts_from place ss ++ ts) (sym (texts_are room msgs));
  }

  -- nothing is handed out
  pub hands_none : (cmds : List C) (at : ℕ) (before : List (List (List ℕ))) (more : List C) (now : ℕ) → shows (take at cmds) before → at ≤ length cmds → IsPrefix cmds more → now ≡ at → HandsOut shows cmds at [] more now
  hands_none cmds at before more now shown le grows same =
      let longer : length cmds ≤ length more = prefix_length cmds more grows in
      record {
        before = before;
        shown_before = shown;
        on = omega (arith, same);
        within = omega (arith, same, longer, le);
        shown = subst (λ (n : ℕ). shows (take n more) (before ++ [])) (sym same) (subst (λ (ms : List (List (List ℕ))). shows (take at more) ms) (sym (append-nil before)) (subst (λ (xs : List C). shows xs before) (sym (take_prefix at cmds more le grows)) shown));
      }

  -- one piece behind the other
  pub hands_then : IsOne → (cmds : List C) (at : ℕ) (msgs : List Msg) (more : List C) (mid : ℕ) (others : List Msg) (most : List C) (now : ℕ) → HandsOut shows cmds at msgs more mid → HandsOut shows more mid others most now → HandsOut shows cmds at (msgs ++ others) most now
  hands_then one cmds at msgs more mid others most now a b =
      let on : at ≤ mid = a.on in
      let further : mid ≤ now = b.on in
      record {
        before = a.before;
        shown_before = a.shown_before;
        on = omega arith;
        within = b.within;
        shown = subst (λ (ms : List (List (List ℕ))). shows (take now most) ms)
            (ap (λ (ms : List (List (List ℕ))). ms ++ lines_of others) (one (take mid more) b.before (a.before ++ lines_of msgs) b.shown_before a.shown)
            ∙ append_assoc a.before (lines_of msgs) (lines_of others)
            ∙ ap (λ (ms : List (List (List ℕ))). a.before ++ ms) (sym (map-append msg_lines msgs others)))
            b.shown;
      }

  pub sent_more : (cmds : List C) (at : ℕ) (room : Option (List ℕ)) (place : Option ℕ) (ss news : List Sending) (msgs : List Msg) (more : List C) (now : ℕ) → Handed cmds at room place ss msgs more now → texts_from place news ≡ texts_of room msgs → IsSent shows more now room place (ss ++ news)
  sent_more cmds at room place ss news msgs more now h from = (h.view, h.shown, texts_from-append place ss news ∙ ap (λ (ts : List (List ℕ)). texts_from place ss ++ ts) from ∙ sym h.texts)

  pub part_sent : (cmds : List C) (at : ℕ) (room : Option (List ℕ)) (place : Option ℕ) (ss news : List Sending) (msgs : List Msg) (more : List C) (now count : ℕ) → Handed cmds at room place ss msgs more now → texts_from place news ≡ take count (texts_of room msgs) → IsPartSent shows more now room place (ss ++ news)
  part_sent cmds at room place ss news msgs more now count h from = (
    h.view,
    h.shown,
    subst (λ (ts : List (List ℕ)). IsPrefix ts (message_texts room h.view)) (sym (texts_from-append place ss news ∙ ap (λ (ts : List (List ℕ)). texts_from place ss ++ ts) from))
        (subst (λ (ts : List (List ℕ)). IsPrefix (texts_from place ss ++ take count (texts_of room msgs)) ts) (sym h.texts) (prefix_behind (texts_from place ss) (take count (texts_of room msgs)) (texts_of room msgs) (prefix_take count (texts_of room msgs)))),
  )

  -- texts of other places
  pub sent_apart : (cmds : List C) (at : ℕ) (room : Option (List ℕ)) (place : Option ℕ) (ss news : List Sending) → IsSent shows cmds at room place ss → texts_from place news ≡ [] → IsSent shows cmds at room place (ss ++ news)
  sent_apart cmds at room place ss news sent others = (sent.0, sent.1, from_still place ss news others ∙ sent.2)

  pub whole_part : (cmds : List C) (at : ℕ) (room : Option (List ℕ)) (place : Option ℕ) (ss : List Sending) → IsSent shows cmds at room place ss → IsPartSent shows cmds at room place ss
  whole_part cmds at room place ss sent = (sent.0, sent.1, prefix_same (texts_from place ss) (message_texts room sent.0) sent.2)

  -- ---- looks

  pub look_stays : (cmds more : List C) (room : Option (List ℕ)) (before behind : List (List ℕ)) (n : ℕ) → IsPrefix cmds more → IsPrefix before behind → IsLookAnswered shows cmds room before n → IsLookAnswered shows more room behind n
  look_stays cmds more room before behind n grows later a =
      let longer : length cmds ≤ length more = prefix_length cmds more grows in
      let within : n ≤ length cmds = a.within in
      let there : a.entries ≤ length cmds = a.there in
      record {
        within = omega arith;
        entries = a.entries;
        enough = a.enough;
        there = omega arith;
        view = a.view;
        shown = subst (λ (xs : List C). shows xs a.view) (sym (take_prefix a.entries cmds more a.there grows)) a.shown;
        sent_whole = prefix_trans (message_texts room a.view) before behind a.sent_whole later;
      }

  -- looks stay answered, whatever comes later
  pub looks_stay : (cmds more : List C) (room : Option (List ℕ)) (place : Option ℕ) (ss news : List Sending) (first : ℕ) (looks : List ℕ) → IsPrefix cmds more → AreLooksAnswered shows cmds room place ss first looks → AreLooksAnswered shows more room place (ss ++ news) first looks
  looks_stay cmds more room place ss news first [] grows a = tt
  looks_stay cmds more room place ss news first (n ∷ looks) grows a = (look_stays cmds more room (texts_before place first ss) (texts_before place first (ss ++ news)) n grows (before_more place first ss news) a.0, looks_stay cmds more room place ss news (first + 1) looks grows a.1)

  look_push : (cmds : List C) (room : Option (List ℕ)) (place : Option ℕ) (ss : List Sending) (first m : ℕ) (looks : List ℕ) (n : ℕ) → AreLooksAnswered shows cmds room place ss first looks → first + length looks ≡ m → IsLookAnswered shows cmds room (texts_before place m ss) n → AreLooksAnswered shows cmds room place ss first (looks ++ n ∷ [])
  look_push cmds room place ss first m [] n a e b = (subst (λ (k : ℕ). IsLookAnswered shows cmds room (texts_before place k ss) n) (let same : m ≡ first = omega (arith, e) in same) b, tt)
  look_push cmds room place ss first m (x ∷ looks) n a e b = (a.0, look_push cmds room place ss (first + 1) m looks n a.1 (omega (arith, e)) b)

  -- a look is answered by all that was sent, where all that it showed was handed out
  look_now : (cmds : List C) (at : ℕ) (room : Option (List ℕ)) (place : Option ℕ) (ss : List Sending) (m n : ℕ) → IsSent shows cmds at room place ss → at ≤ length cmds → n ≤ at → All (λ (s : Sending). s.after ≤ m) ss → IsLookAnswered shows cmds room (texts_before place m ss) n
  look_now cmds at room place ss m n sent there le time = record {
    within = omega arith;
    entries = at;
    enough = le;
    there = there;
    view = sent.0;
    shown = sent.1;
    sent_whole = prefix_same (message_texts room sent.0) (texts_before place m ss) (sym (before_all place m ss time ∙ sent.2));
  }

  -- one look more, answered at once
  pub looks_more : (cmds more : List C) (at : ℕ) (room : Option (List ℕ)) (place : Option ℕ) (ss news : List Sending) (first m : ℕ) (looks : List ℕ) (n : ℕ) (after : List ℕ) → IsPrefix cmds more → AreLooksAnswered shows cmds room place ss first looks → first + length looks ≡ m
      → IsSent shows more at room place (ss ++ news) → at ≤ length more → n ≤ at → All (λ (s : Sending). s.after ≤ m) (ss ++ news) → after ≡ looks ++ n ∷ [] → AreLooksAnswered shows more room place (ss ++ news) first after
  looks_more cmds more at room place ss news first m looks n after grows a e sent there le time is =
      subst (λ (xs : List ℕ). AreLooksAnswered shows more room place (ss ++ news) first xs) (sym is)
      (look_push more room place (ss ++ news) first m looks n (looks_stay cmds more room place ss news first looks grows a) e (look_now more at room place (ss ++ news) m n sent there le time))

  -- ---- looks of which the last may wait

  pub all_answered : (cmds : List C) (room : Option (List ℕ)) (place : Option ℕ) (ss : List Sending) (first sure most : ℕ) (looks : List ℕ) → AreLooksAnswered shows cmds room place ss first looks → sure ≤ length looks → length looks ≤ most → AreAlmostAnswered shows cmds room place ss first sure most looks
  all_answered cmds room place ss first sure most looks a enough few = record { early = looks; last = []; parts = sym (append-nil looks); one = omega arith; enough = enough; few = few; answered = a }

  pub almost_answered : (cmds : List C) (room : Option (List ℕ)) (place : Option ℕ) (ss : List Sending) (first sure most : ℕ) (looks : List ℕ) (n : ℕ) (after : List ℕ) → AreLooksAnswered shows cmds room place ss first looks → after ≡ looks ++ n ∷ [] → sure ≤ length looks → length looks + 1 ≤ most → AreAlmostAnswered shows cmds room place ss first sure most after
  almost_answered cmds room place ss first sure most looks n after a is enough few = record { early = looks; last = n ∷ []; parts = is; one = omega arith; enough = enough; few = omega (arith, ap length is ∙ length-append looks (n ∷ [])); answered = a }
