-- From which command on all are entries of the room, and what the first so many commands tell.
use Rattle.std.proofs.Common.{◌≡◌, ℕ, ◌≤◌, ◌+◌, ◌-◌, List, [], ◌∷◌, ◌++◌, length, take, drop, Some, sym, ap, ◌∙◌, subst, arith}
use Rattle.std.proofs.lemmas.List.{length-append, length-take-le, length-drop, take_all, drop_all, take-take, take-append-le, drop-append-le, take-append-drop}
use Rattle.std.proofs.lemmas.List.Elements.{filter_map-append}
use Rattle.std.proofs.lemmas.Option.{same_Some}
use Rattle.ps_room.specs.declared.entry.Entry.{Entry}
use Rattle.ps_room.specs.Stories.{story, Story}
use Rattle.server_places.specs.declared.command.RoomCmd.{RoomCmd}
use Rattle.server_places.specs.declared.command.RoomCmd.TheVariants.{Begin, Play}
use Rattle.server_places.specs.declared.site.Site.{Site}
use Rattle.server_places.specs.Sites.{play_of, plays, Tells}
use Rattle.server_places.specs.Rooms.{IsPlain}
use Rattle.server_places.specs.StoryLaws.{one_story, going_on, tells_more}

-- ---- more commands

few_plays : (cmds : List RoomCmd) → length (plays cmds) ≤ length cmds
few_plays [] = omega arith
few_plays (Begin start ∷ cmds) = let few = few_plays cmds in omega arith
few_plays (Play e ∷ cmds) = let few = few_plays cmds in omega arith

-- all commands tell of a room, and none is behind them
pub plain_at_end : (site : Site) (cmds : List RoomCmd) (s : Story) (plain : ℕ) → Tells site cmds (Some s) → plain ≡ length cmds → IsPlain site cmds plain
plain_at_end site cmds s plain tells is =
    let none : drop plain cmds ≡ [] = drop_all plain cmds (omega arith) in
    record {
      within = omega arith;
      first = s;
      tells = subst (λ (l : List RoomCmd). Tells site l (Some s)) (sym (take_all plain cmds (omega arith))) tells;
      entries = ap (λ (l : List RoomCmd). length (plays l)) none ∙ sym (ap (λ (l : List RoomCmd). length l) none);
    }

-- an entry more
pub plain_more : (site : Site) (cmds : List RoomCmd) (e : Entry) (plain : ℕ) → IsPlain site cmds plain → IsPlain site (cmds ++ Play e ∷ []) plain
plain_more site cmds e plain p =
    let within : plain ≤ length cmds = p.within in
    let entries : length (plays (drop plain cmds)) ≡ length (drop plain cmds) = p.entries in
    let behind : drop plain (cmds ++ Play e ∷ []) ≡ drop plain cmds ++ Play e ∷ [] = drop-append-le plain cmds (Play e ∷ []) within in
    let more : plays (drop plain cmds ++ Play e ∷ []) ≡ plays (drop plain cmds) ++ e ∷ [] = filter_map-append play_of (drop plain cmds) (Play e ∷ []) in
    record {
      within = omega (arith, length-append cmds (Play e ∷ []));
      first = p.first;
      tells = subst (λ (l : List RoomCmd). Tells site l (Some p.first)) (sym (take-append-le plain cmds (Play e ∷ []) within)) p.tells;
      entries = ap (λ (l : List RoomCmd). length (plays l)) behind ∙ ap (λ (l : List Entry). length l) more
          ∙ one_longer (plays (drop plain cmds)) e (drop plain cmds) entries
          ∙ sym (ap (λ (l : List RoomCmd). length l) behind);
    }
  where
    one_longer : (es : List Entry) (x : Entry) (l : List RoomCmd) → length es ≡ length l → length (es ++ x ∷ []) ≡ length (l ++ Play x ∷ [])
    one_longer es x l same = omega (arith, length-append es (x ∷ []), length-append l (Play x ∷ []))

-- ---- fewer commands

-- what the first so many commands tell, where those behind them are entries: the story without as many
pub record Earlier (site : Site) (cmds : List RoomCmd) (s : Story) (n : ℕ) : Type 0 where
  pub one : Story
  pub tells : Tells site (take n cmds) (Some one)
  pub later : List Entry
  pub count : length later ≡ length cmds - n
  pub is : s ≡ story one.opening (one.history ++ later)

pub earlier : (site : Site) (cmds : List RoomCmd) (s : Story) (plain n : ℕ) → Tells site cmds (Some s) → IsPlain site cmds plain → plain ≤ n → n ≤ length cmds → Earlier site cmds s n
earlier site cmds s plain n tells p above below =
    let front : List RoomCmd = take n cmds in
    let rest : List RoomCmd = drop n cmds in
    let mid : List RoomCmd = drop plain front in
    let size : length front ≡ n = length-take-le n cmds below in
    let long : plain ≤ length front = omega (arith, size) in
    let whole : front ++ rest ≡ cmds = take-append-drop n cmds in
    let begins : take plain front ≡ take plain cmds = take-take plain n cmds above in
    let parts : take plain cmds ++ mid ≡ front = ap (λ (l : List RoomCmd). l ++ mid) (sym begins) ∙ take-append-drop plain front in
    let one : Story = going_on mid p.first in
    let told : Tells site front (Some one) = subst (λ (l : List RoomCmd). Tells site l (Some one)) parts (tells_more site (take plain cmds) mid p.first p.tells) in
    let all : Tells site cmds (Some (going_on rest one)) = subst (λ (l : List RoomCmd). Tells site l (Some (going_on rest one))) whole (tells_more site front rest one told) in
    let behind : drop plain cmds ≡ mid ++ rest = ap (λ (l : List RoomCmd). drop plain l) (sym whole) ∙ drop-append-le plain front rest long in
    let entries : length (plays (mid ++ rest)) ≡ length (mid ++ rest) = subst (λ (l : List RoomCmd). length (plays l) ≡ length l) behind p.entries in
    let both : length (plays (mid ++ rest)) ≡ length (plays mid ++ plays rest) = ap (λ (l : List Entry). length l) (filter_map-append play_of mid rest) in
    let few : length (plays mid) ≤ length mid = few_plays mid in
    let fewer : length (plays rest) ≤ length rest = few_plays rest in
    let left : length rest ≡ length cmds - n = length-drop n cmds in
    record {
      one = one;
      tells = told;
      later = plays rest;
      count = omega (arith, entries, both, few, fewer, left, length-append mid rest, length-append (plays mid) (plays rest));
      is = same_Some s (going_on rest one) (one_story site cmds (Some s) (Some (going_on rest one)) tells all);
    }
