-- Catching up, from what a look, turns and handing out do to a pass.
use Rattle.std.proofs.Common.{◌≡◌, ℕ, ◌<◌, ◌≤◌, List, ◌++◌, length, Option, Result, Ok, Err, sym, ap, subst, ◌∙◌, arith}
use Rattle.std.specs.Prelude.{IfOk, OnErr}
use Rattle.ps_base.specs.declared.msg.Msg.{Msg}
use Rattle.ps_histlock.specs.declared.view.View.{View}
use Rattle.ps_histlock.specs.Histories.{commands}
use Rattle.ps_histlock.specs.Seated.{TableId}
use Rattle.ps_histlock.specs.Views.{after_look}
use Rattle.server_pass.specs.Tellings.{Telling, UpTo, lines_of, IsTold}
use Rattle.server_pass.specs.Turns.{Rereads, ReadsAtLast}
use Rattle.server_pass.specs.Passes.{Grows, IsPass}
use Rattle.server_pass.specs.Catches.{IsFresh, LooksAnd, LooksAtMost, HandsOut, Caught, Handed}
use Rattle.server_pass.specs.declared.pass.PlacePass.{PlacePass}
use Rattle.server_pass.proofs.ToldLemmas.{DidRead, grows_looked, grows_on, rereads_grow, rereads_more, hands_out}

module _ {O C X : Type 0} (pulls : O → List C → X → List Msg → X → Type 0) where
  -- what a turn without an entry does to a view
  pub did_read : {T E : Type 0} (v : View O C) (x : X) (kept : List Msg) (result : Result T E) (w : View O C) (y : X) (more : List Msg) → ReadsAtLast pulls v x kept result w y more → DidRead v result w
  did_read v x kept (Ok done) w y more told = told.0
  did_read v x kept (Err e) w y more told = told.0

pub if_ok_both : {A E : Type 0} (P Q S : A → Type 0) (r : Result A E) → IfOk r P → IfOk r Q → ((x : A) → P x → Q x → S x) → IfOk r S
if_ok_both P Q S (Ok x) p q f = f x p q
if_ok_both P Q S (Err e) p q f = tt

pub on_err_then : {A E : Type 0} (P Q : Type 0) (r : Result A E) → OnErr r P → (P → Q) → OnErr r Q
on_err_then P Q (Ok x) p f = tt
on_err_then P Q (Err e) p f = f p

-- so it is, whatever the answer
pub on_err_given : {T E : Type 0} (P : Type 0) (result : Result T E) → P → OnErr result P
on_err_given P (Ok done) p = tt
on_err_given P (Err e) p = p

-- a loop that ends once so much was passed didn't begin
pub still_idle : {P : Type 0} (shown : ℕ) (passed : P → ℕ) (first now next : P) → (shown ≤ passed first → now ≡ first) → passed now < shown → shown ≤ passed first → next ≡ first
still_idle shown passed first now next same less le = let is : passed now ≡ passed first = ap passed (same le) in absurd (omega arith)

module _ {O C : Type 0} where
  looks_grow : (v w : View O C) (n : ℕ) → Rereads (after_look v n) w → Grows v w
  looks_grow v w n r = grows_on v (after_look v n) w (grows_looked v n) (rereads_grow (after_look v n) w r)

  -- a look, the turns after it, and what is handed out then
  looks_and : (v m w : View O C) (n passed now : ℕ) → m ≡ after_look v n → length v.seen ≤ n → IsFresh v n → Rereads m w → (n ≤ passed → w ≡ m) → n ≤ now → LooksAnd v passed w now
  looks_and v m w n passed now is seen fresh read idle answered = record {
    shown = n;
    seen = seen;
    fresh = fresh;
    read = subst (λ (u : View O C). Rereads u w) is read;
    idle = λ le. subst (λ (u : View O C). w ≡ u) is (idle le);
    answered = answered;
  }

  looks_less : (v m w : View O C) (n : ℕ) → m ≡ after_look v n → length v.seen ≤ n → IsFresh v n → Rereads m w → LooksAtMost v w
  looks_less v m w n is seen fresh read = (n, seen, subst (λ (u : View O C). Rereads u w) is read, fresh)

module _ {K O C X N I : Type 0} (origin_in : K → O) (stands : List C → K → Type 0) (signer : C → Option ℕ)
    (pulls : O → List C → X → List Msg → X → Type 0) (t : Telling O C X) where
  -- a turn more
  pub read_more : {T E : Type 0} (first now next : PlacePass (TableId × View O C) X N I) (result : Result T E) → Rereads first.pass.1 now.pass.1
      → ReadsAtLast (UpTo pulls t.bounded) now.pass.1 now.cursor (now.kept.items ++ now.fresh.items) result next.pass.1 next.cursor (next.kept.items ++ next.fresh.items)
      → Rereads first.pass.1 next.pass.1
  read_more first now next result r does = rereads_more first.pass.1 now.pass.1 next.pass.1 result r
      (did_read (UpTo pulls t.bounded) now.pass.1 now.cursor (now.kept.items ++ now.fresh.items) result next.pass.1 next.cursor (next.kept.items ++ next.fresh.items) does)

  out : (conn : ℕ) (place : TableId × O) (h m k : PlacePass (TableId × View O C) X N I) (msgs : List Msg) → IsPass origin_in stands signer t conn place h → IsPass origin_in stands signer t conn place m → Grows h.pass.1 m.pass.1 → m.at ≡ h.at
      → msgs ≡ m.kept.items ++ m.fresh.items → k.pass ≡ m.pass → k.at ≡ t.passed m.cursor
      → HandsOut (t.shows conn place.1) (commands h.pass.1.seen) h.at msgs (commands k.pass.1.seen) k.at
  out conn place h m k msgs p q grows at given same end =
      let told : IsTold (t.shows conn place.1) (t.stands_at conn place.1) (commands m.pass.1.seen) m.cursor (t.passed m.cursor) (lines_of msgs) h.at =
      subst (λ (n : ℕ). IsTold (t.shows conn place.1) (t.stands_at conn place.1) (commands m.pass.1.seen) m.cursor (t.passed m.cursor) (lines_of msgs) n) at
      (subst (λ (l : List Msg). IsTold (t.shows conn place.1) (t.stands_at conn place.1) (commands m.pass.1.seen) m.cursor (t.passed m.cursor) (lines_of l) m.at) (sym given) q.told) in
      subst (λ (s : TableId × View O C). HandsOut (t.shows conn place.1) (commands h.pass.1.seen) h.at msgs (commands s.1.seen) k.at) (sym same)
      (hands_out (t.shows conn place.1) (t.stands_at conn place.1) t.passed h.pass.1 m.pass.1 h.cursor m.cursor (h.kept.items ++ h.fresh.items) msgs h.at k.at p.told grows told end)

  -- from `h` by a look to `l`, by turns to `m`, and by handing out to `k`
  pub caught : (conn : ℕ) (place : TableId × O) (h l m k : PlacePass (TableId × View O C) X N I) (n : ℕ) (msgs : List Msg) → IsPass origin_in stands signer t conn place h → IsPass origin_in stands signer t conn place m
      → l ≡ record h { pass = (h.pass.0, after_look h.pass.1 n) } → length h.pass.1.seen ≤ n → IsFresh h.pass.1 n
      → Rereads l.pass.1 m.pass.1 → (n ≤ t.passed l.cursor → m ≡ l) → n ≤ t.passed m.cursor → m.at ≡ l.at → msgs ≡ m.kept.items ++ m.fresh.items
      → k.pass ≡ m.pass → k.at ≡ t.passed m.cursor → Caught t conn place.1 msgs h k
  caught conn place h l m k n msgs p q is seen fresh read idle answered at given same end =
      let seen_then : l.pass.1 ≡ after_look h.pass.1 n = ap (λ (x : PlacePass (TableId × View O C) X N I). x.pass.1) is in
      let view : k.pass.1 ≡ m.pass.1 = ap (λ (s : TableId × View O C). s.1) same in
      let further : Rereads (after_look h.pass.1 n) m.pass.1 = subst (λ (u : View O C). Rereads u m.pass.1) seen_then read in (
        looks_and h.pass.1 l.pass.1 k.pass.1 n (t.passed h.cursor) k.at seen_then seen fresh (subst (λ (u : View O C). Rereads l.pass.1 u) (sym view) read)
            (λ le. view ∙ ap (λ (x : PlacePass (TableId × View O C) X N I). x.pass.1) (idle (subst (λ (x : PlacePass (TableId × View O C) X N I). n ≤ t.passed x.cursor) (sym is) le))) (subst (λ (a : ℕ). n ≤ a) (sym end) answered),
        out conn place h m k msgs p q (looks_grow h.pass.1 m.pass.1 n further) (at ∙ ap (λ (x : PlacePass (TableId × View O C) X N I). x.at) is) given same end,
      )

  pub less : (h l m : PlacePass (TableId × View O C) X N I) (n : ℕ) → l ≡ record h { pass = (h.pass.0, after_look h.pass.1 n) } → length h.pass.1.seen ≤ n → IsFresh h.pass.1 n
      → Rereads l.pass.1 m.pass.1 → LooksAtMost h.pass.1 m.pass.1
  less h l m n is seen fresh read = looks_less h.pass.1 l.pass.1 m.pass.1 n (ap (λ (x : PlacePass (TableId × View O C) X N I). x.pass.1) is) seen fresh read

  pub handed_on : (conn : ℕ) (place : TableId × O) (h m k : PlacePass (TableId × View O C) X N I) (msgs : List Msg) → IsPass origin_in stands signer t conn place h → IsPass origin_in stands signer t conn place m → Rereads h.pass.1 m.pass.1
      → m.at ≡ h.at → msgs ≡ m.kept.items ++ m.fresh.items → k.pass ≡ m.pass → k.at ≡ t.passed m.cursor → Handed t conn place.1 msgs h k
  handed_on conn place h m k msgs p q read at given same end = (
    subst (λ (s : TableId × View O C). Rereads h.pass.1 s.1) (sym same) read,
    out conn place h m k msgs p q (rereads_grow h.pass.1 m.pass.1 read) at given same end,
  )
