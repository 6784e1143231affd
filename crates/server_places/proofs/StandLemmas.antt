-- What one more command makes of a place, and what is pulled of it.
use Rattle.std.proofs.Common.{◌≡◌, ℕ, ◌≤◌, ◌+◌, ◌-◌, false, List, [], ◌∷◌, ◌++◌, length, take, Option, Some, None, option_map, refl, sym, ap, ◌∙◌, subst, inl, inr, arith}
use Rattle.std.specs.Prelude.{nat_lt}
use Rattle.std.proofs.lemmas.Bool.Decides.{nat_tests}
use Rattle.std.proofs.lemmas.List.{append-nil, length-append, length-take-le, take_all}
use Rattle.std.proofs.lemmas.Option.{none-some}
use Rattle.ps_base.specs.declared.msg.Msg.{Msg}
use Rattle.rules_start.specs.declared.start.Start.{Start}
use Rattle.ps_splitlog.specs.Reads.{read_past, cursor_past}
use Rattle.ps_room.specs.declared.entry.Entry.{Entry}
use Rattle.ps_room.specs.declared.outcome.RoomOut.{RoomOut}
use Rattle.ps_room.specs.Openings.{Opening}
use Rattle.ps_room.specs.Logs.{Seen, seen_opened, run_seen}
use Rattle.ps_room.proofs.PullLemmas.{seen_run-append, log_before, id_is, are_rooms}
use Rattle.ps_room.specs.Stories.{story, Story, seen_of}
use Rattle.server_places.specs.declared.command.RoomCmd.{RoomCmd}
use Rattle.server_places.specs.declared.command.RoomCmd.TheVariants.{Begin, Play}
use Rattle.server_places.specs.declared.cursor.RoomCursor.{RoomCursor}
use Rattle.server_places.specs.declared.site.Site.{Site}
use Rattle.server_places.specs.Sites.{chat_at, battle_at, TellsBy, Tells}
use Rattle.server_places.specs.Rooms.{Place, IsPlainIf, Stands, Answers, BeginsBy, Begins, room_after, room_out, Piece, Pulls, ReadsRoom}
use Rattle.server_places.specs.StoryLaws.{tells_more, tells_waits, tells_opens, tells_stays}
use Rattle.server_places.proofs.PlainLemmas.{plain_at_end, plain_more, Earlier, earlier}

-- ---- before the first command

pub chat_stands : (o : Opening) (p : Place) → chat_at p.site ≡ Some o → p.room ≡ Some (seen_opened o) → p.count ≡ 0 → p.plain ≡ 0 → Stands [] p
chat_stands o p chat room count plain =
    let tells : Tells p.site [] (Some (story o [])) = subst (λ (c : Option Opening). TellsBy c p.site [] (Some (story o []))) (sym chat) refl in
    record {
      told = Some (story o []);
      tells = tells;
      room = room;
      count = count;
      plain = plain_at_end p.site [] (story o []) p.plain tells plain;
    }

pub no_chat : (site : Site) → 16 ≤ site.number → chat_at site ≡ None
no_chat site high = let not : nat_lt site.number 16 ≡ false = grind (arith, nat_tests) in rw not refl

-- ---- a Begin

-- one command more was counted
abbrev counted : Place → Place
counted p = record p { count = p.count + 1 }

-- a Begin was counted
abbrev begun_count : Place → Place
begun_count p = record p { count = p.count + 1; plain = p.count + 1 }

one_more : (cmds : List RoomCmd) (cmd : RoomCmd) (n : ℕ) → n ≡ length cmds → n + 1 ≡ length (cmds ++ cmd ∷ [])
one_more cmds cmd n e = omega (arith, length-append cmds (cmd ∷ []))

begun_by : (cmds : List RoomCmd) (start : Start) (old : Place) (told : Option Story) (new : Place) → Tells old.site cmds told → old.room ≡ option_map seen_of told → old.count ≡ length cmds → BeginsBy (option_map seen_of told) old start new
    → Stands (cmds ++ Begin start ∷ []) (begun_count new)
begun_by cmds start old (Some s) new tells room count same = subst (λ (p : Place). Stands (cmds ++ Begin start ∷ []) (begun_count p)) (sym same) (record {
  told = Some (story s.opening (s.history ++ []));
  tells = tells_more old.site cmds (Begin start ∷ []) s tells;
  room = room ∙ ap (λ (h : List Entry). Some (run_seen (seen_opened s.opening) h)) (sym (append-nil s.history));
  count = one_more cmds (Begin start) old.count count;
  plain = plain_at_end old.site (cmds ++ Begin start ∷ []) (story s.opening (s.history ++ [])) (old.count + 1) (tells_more old.site cmds (Begin start ∷ []) s tells) (one_more cmds (Begin start) old.count count);
})
begun_by cmds start old None new tells room count (inl a) = subst (λ (p : Place). Stands (cmds ++ Begin start ∷ []) (begun_count p)) (sym a.1) (record {
  told = Some (story (battle_at old.site start) []);
  tells = tells_opens old.site cmds start a.0 tells;
  room = refl;
  count = one_more cmds (Begin start) old.count count;
  plain = plain_at_end old.site (cmds ++ Begin start ∷ []) (story (battle_at old.site start) []) (old.count + 1) (tells_opens old.site cmds start a.0 tells) (one_more cmds (Begin start) old.count count);
})
begun_by cmds start old None new tells room count (inr a) = subst (λ (p : Place). Stands (cmds ++ Begin start ∷ []) (begun_count p)) (sym a.1) (record {
  told = None;
  tells = tells_stays old.site cmds start a.0 tells;
  room = room;
  count = one_more cmds (Begin start) old.count count;
  plain = tt;
})

-- `here` is the place as it lies before the command is counted
pub begun : (cmds : List RoomCmd) (cmd : RoomCmd) (start : Start) (old new here : Place) → cmd ≡ Begin start → here ≡ record new { plain = new.count + 1 } → Stands cmds old → Begins old start new
    → Stands (cmds ++ cmd ∷ []) (counted here)
begun cmds cmd start old new here is at s b =
    rw (is, at) (begun_by cmds start old s.told new s.tells s.room s.count (subst (λ (r : Option Seen). BeginsBy r old start new) s.room b))

-- ---- an entry

played_by : (cmds : List RoomCmd) (e : Entry) (old : Place) (told : Option Story) → Tells old.site cmds told → old.room ≡ option_map seen_of told → old.count ≡ length cmds → IsPlainIf told old.site cmds old.plain
    → Stands (cmds ++ Play e ∷ []) (counted (record old { room = room_after old.room e }))
played_by cmds e old (Some s) tells room count plain = record {
  told = Some (story s.opening (s.history ++ e ∷ []));
  tells = tells_more old.site cmds (Play e ∷ []) s tells;
  room = ap (λ (r : Option Seen). room_after r e) room ∙ ap (λ (x : Seen). Some x) (sym (seen_run-append (seen_opened s.opening) s.history (e ∷ [])));
  count = one_more cmds (Play e) old.count count;
  plain = plain_more old.site cmds e old.plain plain;
}
played_by cmds e old None tells room count plain = record {
  told = None;
  tells = tells_waits old.site cmds e tells;
  room = ap (λ (r : Option Seen). room_after r e) room;
  count = one_more cmds (Play e) old.count count;
  plain = tt;
}

pub played : (cmds : List RoomCmd) (cmd : RoomCmd) (e : Entry) (old new here : Place) → cmd ≡ Play e → here ≡ new → Stands cmds old → new ≡ record old { room = room_after old.room e } → Stands (cmds ++ cmd ∷ []) (counted here)
played cmds cmd e old new here is at s same = rw (is, at, same) (played_by cmds e old s.told s.tells s.room s.count s.plain)

-- ---- what is answered

unanswered_by : (site : Site) (cmds : List RoomCmd) (start : Start) (told : Option Story) → Tells site cmds told → Answers site cmds (Begin start) None
unanswered_by site cmds start (Some s) tells = record { told = Some s; tells = tells; is = refl }
unanswered_by site cmds start None tells = record { told = None; tells = tells; is = refl }

pub unanswered : (cmds : List RoomCmd) (cmd : RoomCmd) (start : Start) (p : Place) (out : Option RoomOut) → cmd ≡ Begin start → out ≡ None → Stands cmds p → Answers p.site cmds cmd out
unanswered cmds cmd start p out is none s = rw (is, none) (unanswered_by p.site cmds start s.told s.tells)

answered_by : (site : Site) (cmds : List RoomCmd) (e : Entry) (told : Option Story) → Tells site cmds told → Answers site cmds (Play e) (room_out (option_map seen_of told) e)
answered_by site cmds e (Some s) tells = record { told = Some s; tells = tells; is = ap (λ (x : RoomOut). Some x) ((are_rooms s.opening s.history).out_is e) }
answered_by site cmds e None tells = record { told = None; tells = tells; is = refl }

pub answered : (cmds : List RoomCmd) (cmd : RoomCmd) (e : Entry) (p : Place) (given out : Option RoomOut) → cmd ≡ Play e → out ≡ given → given ≡ room_out p.room e → Stands cmds p → Answers p.site cmds cmd out
answered cmds cmd e p given out is same by s = rw (is, same, by, s.room) (answered_by p.site cmds e s.told s.tells)

-- ---- what is pulled

-- where all commands tell of a room: the first of them, but for as many as are left
reads_by : (cmds : List RoomCmd) (p : Place) (s : Story) (x y : RoomCursor) (r : Seen) (msgs : List Msg) → Tells p.site cmds (Some s) → IsPlainIf (Some s) p.site cmds p.plain → p.count ≡ length cmds → r ≡ seen_of s
    → ReadsRoom r p.count p.plain x msgs y → Piece p.site cmds x msgs y
reads_by cmds p s x y r msgs tells plain count room reads =
    let left : ℕ = reads.left in
    let few : left ≤ p.count - p.plain = reads.few in
    let fewer : left ≤ p.count - x.passed = reads.fewer in
    let within : p.plain ≤ length cmds = plain.within in
    let n : ℕ = length cmds - left in
    let e : Earlier p.site cmds s n = earlier p.site cmds s p.plain n tells plain (omega arith) (omega arith) in
    let many : length e.later ≡ left = omega (arith, e.count) in
    let size : length (take n cmds) ≡ n = length-take-le n cmds (omega arith) in
    let same : r ≡ seen_of (story e.one.opening (e.one.history ++ e.later)) = room ∙ ap seen_of e.is in
    let cut : take (length r.log - left) r.log ≡ (seen_of e.one).log =
    ap (λ (z : Seen). take (length z.log - left) z.log) same
    ∙ ap (λ (m : ℕ). take (length (seen_of (story e.one.opening (e.one.history ++ e.later))).log - m) (seen_of (story e.one.opening (e.one.history ++ e.later))).log) (sym many)
    ∙ log_before e.one.opening e.one.history e.later in
    let opening : s.opening ≡ e.one.opening = ap (λ (z : Story). z.opening) e.is in
    let id : r.id ≡ s.opening.id = ap (λ (z : Seen). z.id) room ∙ id_is s.opening s.history in
    let passed : p.count - left ≡ length (take n cmds) = omega (arith, size, count) in
    record {
      count = n;
      within = omega arith;
      on = λ le. omega arith;
      reads = record {
        told = Some e.one;
        tells = e.tells;
        messages = reads.messages ∙ ap (λ l. read_past x.room l) cut;
        cursor = reads.cursor ∙ (λ i. record { room = cursor_past x.room (cut i); id = Some ((id ∙ ap (λ (o : Opening). o.id) opening) i); passed = passed i; until = x.until });
      };
      told = Some s;
      tells = tells;
      id = ap (λ (z : RoomCursor). z.id) reads.cursor ∙ ap (λ (t : List ℕ). Some t) id;
    }

pulled_by : (cmds : List RoomCmd) (p : Place) (told : Option Story) (x y : RoomCursor) (r : Seen) (msgs : List Msg) → Tells p.site cmds told → IsPlainIf told p.site cmds p.plain → p.count ≡ length cmds → Some r ≡ option_map seen_of told
    → ReadsRoom r p.count p.plain x msgs y → Pulls p.site cmds x msgs y
pulled_by cmds p None x y r msgs tells plain count room reads = absurd (none-some r (sym room))
pulled_by cmds p (Some s) x y r msgs tells plain count room reads = let same : r ≡ seen_of s = cc in inr (reads_by cmds p s x y r msgs tells plain count same reads)

pub pulled : (cmds : List RoomCmd) (p : Place) (x y : RoomCursor) (r : Seen) (msgs : List Msg) → Stands cmds p → p.room ≡ Some r → ReadsRoom r p.count p.plain x msgs y → Pulls p.site cmds x msgs y
pulled cmds p x y r msgs s room reads = pulled_by cmds p s.told x y r msgs s.tells s.plain s.count (sym room ∙ s.room) reads

-- where there is no room, all commands are passed
unpulled_by : (cmds : List RoomCmd) (p : Place) (told : Option Story) (x y : RoomCursor) → Tells p.site cmds told → p.count ≡ length cmds → None ≡ option_map seen_of told
    → y ≡ record x { passed = p.count } → Pulls p.site cmds x [] y
unpulled_by cmds p None x y tells count room is = inr (record {
  count = length cmds;
  within = omega arith;
  on = λ le. le;
  reads = record {
    told = None;
    tells = subst (λ (l : List RoomCmd). Tells p.site l None) (sym (take_all (length cmds) cmds (omega arith))) tells;
    messages = refl;
    cursor = is ∙ ap (λ (n : ℕ). record x { passed = n }) (count ∙ sym (length-take-le (length cmds) cmds (omega arith)));
  };
  told = None;
  tells = tells;
  id = tt;
})
unpulled_by cmds p (Some s) x y tells count room is = absurd (none-some (seen_of s) room)

pub unpulled : (cmds : List RoomCmd) (p : Place) (x y : RoomCursor) → Stands cmds p → p.room ≡ None → y ≡ record x { passed = p.count } → Pulls p.site cmds x [] y
unpulled cmds p x y s room is = unpulled_by cmds p s.told x y s.tells s.count (sym room ∙ s.room) is
