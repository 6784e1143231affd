-- How far a tournament has come: what was written, what waits, and the lines that are still to come.
use Rattle.std.proofs.Common.{◌≡◌, ◌⊎◌, ℕ, zero, suc, List, [], ◌∷◌, ◌++◌, Option, Some, None, refl, sym, ap, ◌∙◌, subst, inl, inr, append_assoc}
use Rattle.std.specs.Option.{option_map}
use Rattle.std.specs.Io.KnownBytes.{Appends, Keeps}
use Rattle.std.proofs.KnownBytes.{Appends-trans, Appends-nil}
use Rattle.std.proofs.lemmas.Option.{none-some}
use Rattle.ps_outside.specs.Sinks.{AppendsFront}
use Rattle.ps_tour.specs.Brackets.{open_match}
use Rattle.replay_script.specs.declared.item.Item.{Item}
use Rattle.replay_state.specs.Entries.{Run, state_of, end_at, run_after, run_past}
use Rattle.replay_state.specs.Tables.{Desk, state_in, desk_of, desk_after, item_text, item_after, text_from}
use Rattle.replay_state.proofs.TextLemmas.{desk_past, desk_past_all, text_behind, end_is}
use Rattle.replay_tour.specs.declared.battle_end.BattleEnd.{BattleEnd}
use Rattle.replay_tour.specs.Matches.{match_line}
use Rattle.replay_tour.specs.Tours.{Tour, line_of, next_line, past}
use Rattle.ps_replay.specs.Flow.{MovesFront}
use Rattle.ps_replay.specs.Tours.{battle_end, end_of, line_with, lines_from, played, PlaysLines, PlaysFront}
use Rattle.ps_replay.proofs.FlowLemmas.{Came, Came-start, Came-more, Came-stopped, Came-last, Came-all}

-- where the tournament began with `first` in the state `start` of the run `r`, and so many lines are left to come at the most
pub record Reached (most : ℕ) (format : List ℕ) (first : Tour) (start : Desk) (r : Run) (old new : Option (List ℕ)) (left : ℕ) (t : Tour) (d : Desk) (pending : List ℕ) : Type 0 where
  pub run : Run
  pub desk_is : d ≡ desk_of run
  pub came : Came old new (text_from start (lines_from most format first r)) pending d (lines_from left format t run)
  pub same : played t run (lines_from left format t run) ≡ played first r (lines_from most format first r)

pub reached_start : (most left : ℕ) (format : List ℕ) (t : Tour) (d : Desk) (r : Run) (old : Option (List ℕ)) → left ≡ most → d ≡ desk_of r → Reached most format t d r old old left t d []
reached_start most left format t d r old all is =
    subst (λ (n : ℕ). Reached most format t d r old old n t d []) (sym all) (record { run = r; desk_is = is; came = Came-start old d (lines_from most format t r); same = refl })

-- ---- a line

lines_step : (m : ℕ) (format : List ℕ) (t : Tour) (r : Run) (line : Item) → next_line format t ≡ Some line → lines_from (suc m) format t r ≡ line ∷ lines_from m format (past (end_of r line) t) (run_after r line)
lines_step m format t r line e = ap (line_with (lines_from m format) t r) e

end_known : (r : Run) (d : Desk) (line : Item) → d ≡ desk_of r → option_map battle_end (end_at (state_in d) line) ≡ end_of r line
end_known r d line is =
    ap (λ (x : Desk). option_map battle_end (end_at (state_in x) line)) is
    ∙ ap (option_map battle_end) (end_is r line)

lines_left : (left m : ℕ) (format : List ℕ) (t : Tour) (r : Run) (line : Item) → left ≡ suc m → next_line format t ≡ Some line → lines_from left format t r ≡ line ∷ lines_from m format (past (end_of r line) t) (run_after r line)
lines_left left m format t r line is next = ap (λ (n : ℕ). lines_from n format t r) is ∙ lines_step m format t r line next

pub reached_more : (most left m : ℕ) (format : List ℕ) (first t : Tour) (start d : Desk) (r : Run) (old mid new : Option (List ℕ)) (pending now : List ℕ) (line : Item) → left ≡ suc m → next_line format t ≡ Some line
    → Reached most format first start r old mid left t d pending → MovesFront mid new (pending ++ item_text d line) now
    → Reached most format first start r old new m (past (option_map battle_end (end_at (state_in d) line)) t) (item_after d line) now
reached_more most left m format first t start d r old mid new pending now line is next a moved =
    let later : Tour = past (end_of a.run line) t in
    let rest : List Item = lines_from m format later (run_after a.run line) in
    let parts : lines_from left format t a.run ≡ line ∷ rest = lines_left left m format t a.run line is next in
    let there : Reached most format first start r old new m later (item_after d line) now = record {
      run = run_after a.run line;
      desk_is = ap (λ (x : Desk). item_after x line) a.desk_is ∙ desk_past a.run line;
      came = Came-more old mid new (text_from start (lines_from most format first r)) pending now d line rest
          (subst (λ (is : List Item). Came old mid (text_from start (lines_from most format first r)) pending d is) parts a.came) moved;
      same = sym (ap (played t a.run) parts) ∙ a.same;
    } in
    subst (λ (end : Option BattleEnd). Reached most format first start r old new m (past end t) (item_after d line) now) (sym (end_known a.run d line a.desk_is)) there

pub reached_stopped : (most left m : ℕ) (format : List ℕ) (first t : Tour) (start d : Desk) (r : Run) (old mid new : Option (List ℕ)) (pending : List ℕ) (line : Item) → left ≡ suc m → next_line format t ≡ Some line
    → Reached most format first start r old mid left t d pending → AppendsFront mid new (pending ++ item_text d line) → AppendsFront old new (text_from start (lines_from most format first r))
reached_stopped most left m format first t start d r old mid new pending line is next a front =
    Came-stopped old mid new (text_from start (lines_from most format first r)) pending d line (lines_from m format (past (end_of a.run line) t) (run_after a.run line))
    (subst (λ (is : List Item). Came old mid (text_from start (lines_from most format first r)) pending d is) (lines_left left m format t a.run line is next) a.came) front

-- ---- an end on the way

pub reached_front : (most left : ℕ) (format : List ℕ) (first t : Tour) (start d : Desk) (r : Run) (old new : Option (List ℕ)) (pending : List ℕ)
    → Reached most format first start r old new left t d pending → AppendsFront old new (text_from start (lines_from most format first r))
reached_front most left format first t start d r old new pending a =
    record { front = a.came.front; rest = pending ++ text_from d (lines_from left format t a.run); parts = a.came.parts; grew = a.came.wrote }

-- ---- the last line

none_left : (left m : ℕ) (format : List ℕ) (t : Tour) (r : Run) → left ≡ suc m → next_line format t ≡ None → lines_from left format t r ≡ []
none_left left m format t r is none = ap (λ (n : ℕ). lines_from n format t r) is ∙ ap (line_with (lines_from m format) t r) none

at_end : (most left m : ℕ) (format : List ℕ) (first t : Tour) (start d : Desk) (r : Run) (old mid : Option (List ℕ)) (pending : List ℕ) → left ≡ suc m → next_line format t ≡ None
    → Reached most format first start r old mid left t d pending → Came old mid (text_from start (lines_from most format first r)) pending d []
at_end most left m format first t start d r old mid pending is none a =
    subst (λ (is : List Item). Came old mid (text_from start (lines_from most format first r)) pending d is) (none_left left m format t a.run is none) a.came

pub reached_last : (most left m : ℕ) (format : List ℕ) (first t : Tour) (start d : Desk) (r : Run) (old mid new : Option (List ℕ)) (pending : List ℕ) → left ≡ suc m → next_line format t ≡ None
    → Reached most format first start r old mid left t d pending → AppendsFront mid new pending → AppendsFront old new (text_from start (lines_from most format first r))
reached_last most left m format first t start d r old mid new pending is none a front =
    Came-last old mid new (text_from start (lines_from most format first r)) pending d (at_end most left m format first t start d r old mid pending is none a) front

pub reached_all : (most left m : ℕ) (format : List ℕ) (first t : Tour) (start d : Desk) (r : Run) (old mid new : Option (List ℕ)) (pending now : List ℕ) → left ≡ suc m → next_line format t ≡ None
    → Reached most format first start r old mid left t d pending → MovesFront mid new pending now → now ≡ [] → Appends old new (text_from start (lines_from most format first r))
reached_all most left m format first t start d r old mid new pending now is none a moved empty =
    Came-all old mid new (text_from start (lines_from most format first r)) pending now d (at_end most left m format first t start d r old mid pending is none a) moved empty

pub reached_end : (most left m : ℕ) (format : List ℕ) (first t : Tour) (start d : Desk) (r : Run) (old mid : Option (List ℕ)) (pending : List ℕ) → left ≡ suc m → next_line format t ≡ None
    → Reached most format first start r old mid left t d pending → t ≡ played first r (lines_from most format first r)
reached_end most left m format first t start d r old mid pending is none a = sym (ap (played t a.run) (none_left left m format t a.run is none)) ∙ a.same

none_open : (format : List ℕ) (t : Tour) (met : Option (ℕ × ℕ)) → line_of format t met ≡ None → met ≡ None
none_open format t None e = refl
none_open format t (Some pair) e = absurd (none-some _ (sym e))

pub is_over : (format : List ℕ) (t : Tour) → next_line format t ≡ None → open_match t.round ≡ None
is_over format t e = none_open format t (open_match t.round) e

-- ---- lines before them

-- the lines of `items` are played, and then those of the matches
pub lines_behind : (items : List Item) (most : ℕ) (format : List ℕ) (before after : Tour) (d : Desk) (old mid new : Option (List ℕ)) → Appends old mid (text_from d items)
    → PlaysLines [] most format before after (desk_after d items) mid new → PlaysLines items most format before after d old new
lines_behind items most format before after d old mid new wrote a = record {
  wrote = λ r is.
      let lines : List Item = lines_from most format before (run_past r items) in
      let there : desk_after d items ≡ desk_of (run_past r items) = ap (λ (x : Desk). desk_after x items) is ∙ desk_past_all r items in
      subst (Appends old new) (sym (text_behind d items lines)) (Appends-trans old mid new (text_from d items) (text_from (desk_after d items) lines) wrote (a.wrote (run_past r items) there));
  after_is = λ r is. a.after_is (run_past r items) (ap (λ (x : Desk). desk_after x items) is ∙ desk_past_all r items);
  over = a.over;
}

-- a front of a text is one of a longer text, and so is one of what is behind it
pub longer : (old new : Option (List ℕ)) (text more : List ℕ) → AppendsFront old new text → AppendsFront old new (text ++ more)
longer old new text more a = record { front = a.front; rest = a.rest ++ more; parts = ap (λ (x : List ℕ). x ++ more) a.parts ∙ append_assoc a.front a.rest more; grew = a.grew }

pub front_behind : (old mid new : Option (List ℕ)) (text more : List ℕ) → Appends old mid text → AppendsFront mid new more → AppendsFront old new (text ++ more)
front_behind old mid new text more wrote a = record {
  front = text ++ a.front;
  rest = a.rest;
  parts = ap (λ (x : List ℕ). text ++ x) a.parts ∙ sym (append_assoc text a.front a.rest);
  grew = Appends-trans old mid new text a.front wrote a.grew;
}

pub stopped_before : (items : List Item) (most : ℕ) (format : List ℕ) (before : Tour) (d : Desk) (old new : Option (List ℕ)) → AppendsFront old new (text_from d items) → PlaysFront items most format before d old new
stopped_before items most format before d old new a = record {
  front = λ r is.
      let lines : List Item = lines_from most format before (run_past r items) in
      subst (AppendsFront old new) (sym (text_behind d items lines)) (longer old new (text_from d items) (text_from (desk_after d items) lines) a);
}

pub stopped_behind : (items : List Item) (most : ℕ) (format : List ℕ) (before : Tour) (d : Desk) (old mid new : Option (List ℕ)) → Appends old mid (text_from d items)
    → PlaysFront [] most format before (desk_after d items) mid new → PlaysFront items most format before d old new
stopped_behind items most format before d old mid new wrote a = record {
  front = λ r is.
      let lines : List Item = lines_from most format before (run_past r items) in
      let there : desk_after d items ≡ desk_of (run_past r items) = ap (λ (x : Desk). desk_after x items) is ∙ desk_past_all r items in
      subst (AppendsFront old new) (sym (text_behind d items lines)) (front_behind old mid new (text_from d items) (text_from (desk_after d items) lines) wrote (a.front (run_past r items) there));
}

-- nothing was written yet
pub not_begun : (items : List Item) (most : ℕ) (format : List ℕ) (before : Tour) (d : Desk) (old : Option (List ℕ)) → PlaysFront items most format before d old old
not_begun items most format before d old = record {
  front = λ r is. record { front = []; rest = text_from d (items ++ lines_from most format before (run_past r items)); parts = refl; grew = Appends-nil old };
}
