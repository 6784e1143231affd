-- What one more entry makes of the hall, and what is pulled of it.
use Rattle.std.proofs.Common.{◌≡◌, ℕ, ◌+◌, ◌-◌, ◌≤◌, true, false, List, [], ◌∷◌, ◌++◌, length, take, drop, Option, Some, None, IfSome, option_map, refl, sym, ap, ◌∙◌, subst, inr, arith}
use Rattle.std.proofs.lemmas.List.{length-append, length-drop, length-take-le, take-append-drop}
use Rattle.ps_base.specs.Ids.{id_of}
use Rattle.ps_base.specs.declared.badge.Badge.{Badge}
use Rattle.ps_base.specs.declared.hall_why.HallWhy.{HallWhy}
use Rattle.ps_lines.specs.declared.command.HallCmd.{HallCmd}
use Rattle.ps_lines.specs.declared.command.HallCmd.TheVariants.{Open, Quit, Bad, Name, Team, Search, Accept, Report}
use Rattle.rules_start.specs.declared.start.Start.{Start}
use Rattle.rules_start.specs.Fits.{IsFit}
use Rattle.ps_hall.specs.declared.entry.HallEntry.{HallEntry}
use Rattle.ps_hall.specs.declared.game.Game.{Game}
use Rattle.ps_hall.specs.declared.outcome.HallOut.{HallOut}
use Rattle.ps_hall.specs.Records.{Record}
use Rattle.ps_base.specs.Limits.{most_battles}
use Rattle.ps_hall.specs.Lookups.{badge_of, game_in}
use Rattle.ps_hall.specs.Starts.{game_of, with_game, start_of_search, start_of_accept}
use Rattle.ps_hall.specs.Steps.{forgotten_if, with_search, with_accept, reported, after_named, after_by as applied_by, applied}
use Rattle.ps_hall.specs.declared.notice.Notice.{Notice}
use Rattle.ps_hall.specs.Halls.{Seen, seen_opened, seen_after, run_seen, run_record, after, after_by, verdict, out_of, pulled, pulled_past, before_last, cursor_past}
use Rattle.ps_base.specs.declared.msg.Msg.{Msg}
use Rattle.ps_hall.proofs.PullLemmas.{log_before}
use Rattle.server_places.specs.declared.cursor.HallCursor.{HallCursor}
use Rattle.server_places.specs.declared.site.Root.{Root}
use Rattle.server_places.specs.Halls.{hall_opened, hall_after, hall_seen, HallHome, HallStands, HallAnswers, HallPulls, ReadsHall}
use Rattle.server_places.proofs.NumberLemmas.{IsNumber, numbered}

-- ---- histories

seen_more : (s : Seen) (es fs : List HallEntry) → run_seen s (es ++ fs) ≡ run_seen (run_seen s es) fs
seen_more s [] fs = refl
seen_more s (e ∷ es) fs = seen_more (seen_after s e) es fs

state_is : (s : Seen) (es : List HallEntry) → (run_seen s es).state ≡ run_record s.state es
state_is s [] = refl
state_is s (e ∷ es) = state_is (seen_after s e) es

-- ---- no entry changes what the hall was opened with

abbrev root_of : Record → Root
root_of h = record { config = h.config; dex = h.dex }

game_root : (h : Record) (g : Option Game) → root_of (with_game h g) ≡ root_of h
game_root h None = refl
game_root h (Some g) = refl

forgotten_root : (h : Record) (me : Option (List ℕ)) → root_of (forgotten_if h me) ≡ root_of h
forgotten_root h None = refl
forgotten_root h (Some me) = refl

reported_root : (h : Record) (number : ℕ) (winner : Option ℕ) (g : Option Game) → root_of (reported h number winner g) ≡ root_of h
reported_root h number winner None = refl
reported_root h number winner (Some g) = refl

named_root : (h : Record) (name : List ℕ) (cmd : HallCmd) → root_of (after_named h name cmd) ≡ root_of h
named_root h name (Team None) = refl
named_root h name (Team (Some text)) = refl
named_root h name (Search format) = game_root (with_search h name format) (option_map (game_of true) (start_of_search h name format))
named_root h name (Accept user) = game_root (with_accept h (id_of name) user) (option_map (game_of false) (start_of_accept h name user))
named_root h name other = refl

by_root : (h : Record) (badge : Option Badge) (cmd : HallCmd) → root_of (applied_by h badge cmd) ≡ root_of h
by_root h None cmd = refl
by_root h (Some badge) cmd = named_root h badge.name cmd

applied_root : (h : Record) (conn : ℕ) (cmd : HallCmd) → root_of (applied h conn cmd) ≡ root_of h
unfolding applied
applied_root h conn Open = refl
applied_root h conn Quit = forgotten_root h (option_map (λ b. id_of b.name) (badge_of h conn))
applied_root h conn (Bad reason) = refl
applied_root h conn (Name name assertion) = refl
applied_root h conn (Report number winner) = reported_root h number winner (game_in h number)
applied_root h conn other = by_root h (badge_of h conn) other

root_by : (v : Option HallWhy) (h : Record) (conn : ℕ) (cmd : HallCmd) → root_of (after_by v h conn cmd) ≡ root_of h
root_by (Some why) h conn cmd = refl
root_by None h conn cmd = applied_root h conn cmd

root_run : (h : Record) (es : List HallEntry) → root_of (run_record h es) ≡ root_of h
root_run h [] = refl
root_run h (e ∷ es) = root_run (after h e) es ∙ root_by (verdict h e) h e.conn e.cmd

-- ---- the hall of a place

pub hall_stands : (es : List HallEntry) (e : HallEntry) (old : HallHome) (hall : Seen) (new : HallHome) → HallStands es old → hall ≡ seen_after old.hall e → new ≡ record { root = old.root; hall = hall; count = old.count + 1 } → HallStands (es ++ e ∷ []) new
hall_stands es e old hall new s more is = rw is (record {
  hall = more ∙ ap (λ (x : Seen). seen_after x e) s.hall ∙ sym (seen_more (seen_opened (hall_opened old.root)) es (e ∷ []));
  count = let count = s.count in omega (arith, length-append es (e ∷ []));
})

state_in : (es : List HallEntry) (p : HallHome) → HallStands es p → p.hall.state ≡ hall_after p.root es
state_in es p s = ap (λ (x : Seen). x.state) s.hall ∙ state_is (seen_opened (hall_opened p.root)) es

in_range : (o : Option Start) → IfSome o IsNumber → (IfSome o (λ s. 1 ≤ s.number)) × (IfSome o (λ s. s.number ≤ most_battles))
in_range None n = (tt, tt)
in_range (Some s) n = n

pub hall_answers : (es : List HallEntry) (e : HallEntry) (p : HallHome) (out : HallOut) → HallStands es p → out ≡ out_of p.hall.state e → IfSome out.start (λ s. IsFit s p.hall.state.config p.hall.state.dex) → HallAnswers p.root es e out
hall_answers es e p out s is fit =
    let here : p.hall.state ≡ hall_after p.root es = state_in es p s in
    let root : root_of p.hall.state ≡ p.root = ap root_of here ∙ root_run (hall_opened p.root) es in
    let numbers : (IfSome out.start (λ s. 1 ≤ s.number)) × (IfSome out.start (λ s. s.number ≤ most_battles)) = in_range out.start (subst (λ (o : HallOut). IfSome o.start IsNumber) (sym is) (numbered p.hall.state e)) in
    record {
      is = is ∙ ap (λ (h : Record). out_of h e) here;
      fit = subst (λ (r : Root). IfSome out.start (λ s. IsFit s r.config r.dex)) root fit;
      above = numbers.0;
      below = numbers.1;
    }

-- ---- what is pulled

pub hall_pulled : (es : List HallEntry) (p : HallHome) (x y : HallCursor) (msgs : List Msg) → HallStands es p → ReadsHall p.hall p.count x msgs y → HallPulls p.root es x msgs y
hall_pulled es p x y msgs s reads =
    let left : ℕ = reads.left in
    let below : left ≤ p.count = reads.within in
    let few : left ≤ p.count - x.passed = reads.few in
    let count : p.count ≡ length es = s.count in
    let n : ℕ = length es - left in
    let size : length (take n es) ≡ n = length-take-le n es (omega arith) in
    let many : length (drop n es) ≡ left = omega (arith, length-drop n es) in
    let cut : before_last left p.hall ≡ before_last (length (drop n es)) (hall_seen p.root (take n es ++ drop n es)) =
    ap (before_last left) (s.hall ∙ ap (hall_seen p.root) (sym (take-append-drop n es))) ∙ ap (λ (m : ℕ). before_last m (hall_seen p.root (take n es ++ drop n es))) (sym many) in
    let same = log_before (hall_opened p.root) (take n es) (drop n es) in
    inr (record {
      count = n;
      within = omega arith;
      on = λ le. omega arith;
      reads = record {
        messages = reads.messages ∙ ap (pulled_past x.hall) cut ∙ ap (λ (l : List (List Notice)). pulled x.hall.conn (drop x.hall.at l)) same;
        cursor = reads.cursor
            ∙ ap (λ (h : Seen). record { hall = cursor_past x.hall h; passed = p.count - left; until = x.until }) cut
            ∙ ap (λ (l : List (List Notice)). record { hall = record { conn = x.hall.conn; at = length l }; passed = p.count - left; until = x.until }) same
            ∙ ap (λ (m : ℕ). record { hall = cursor_past x.hall (hall_seen p.root (take n es)); passed = m; until = x.until }) (omega (arith, size));
      };
    })
