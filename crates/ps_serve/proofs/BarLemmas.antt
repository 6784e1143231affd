-- Every line of the hall begins with `|`.
use Rattle.std.proofs.Common.{◌≡◌, ℕ, Bool, true, false, cond, eqb, List, [], ◌∷◌, ◌++◌, codes, map, Option, Some, None, refl, ap, ℤ}
use Rattle.std.specs.Prelude.{All}
use Rattle.std.specs.List.{join_with_byte}
use Rattle.std.specs.Fmt.{decimal, signed_decimal}
use Rattle.std.specs.FinMap.{get}
use Rattle.std.specs.Prelude.{option_and_then}
use Rattle.std.proofs.lemmas.List.Elements.{All-nil, All-cons, All-append}
use Rattle.ps_base.specs.Ids.{id_of}
use Rattle.ps_base.specs.HallWhys.{hall_why_name, popup_end, popup_line}
use Rattle.ps_base.specs.declared.badge.Badge.{Badge}
use Rattle.ps_base.specs.declared.hall_why.HallWhy.{HallWhy}
use Rattle.ps_base.specs.declared.hall_why.HallWhy.TheVariants as why
use Rattle.ps_lines.specs.declared.command.HallCmd.{HallCmd}
use Rattle.ps_lines.specs.declared.command.HallCmd.TheVariants.{Open, Quit, Bad, Name, Search, CancelSearch, Challenge, CancelChallenge, Reject, Accept, Whisper, Rank, Report}
use Rattle.ps_group.specs.declared.group.Group.{Group}
use Rattle.ps_rules.specs.declared.table.Format.{Format}
use Rattle.ps_base.specs.ById.{ById}
use Rattle.ps_base.specs.Messages.{sent}
use Rattle.ps_group.specs.ShownNames.{shown_name}
use Rattle.ps_users.specs.Assertions.{challstr_of}
use Rattle.ps_users.specs.Refusals.{read_of}
use Rattle.ps_users.specs.Seats.{badge_in}
use Rattle.ps_users.specs.Steps.{granted}
use Rattle.ps_pms.specs.Lookups.{asked_by, partners}
use Rattle.ps_pms.specs.Records.{Record as Pms}
use Rattle.ps_pms.specs.declared.asked.Asked.{Asked}
use Rattle.ps_ladder.specs.declared.searches.Search.{Search as Waiting}
use Rattle.ps_hall.specs.declared.entry.HallEntry.{HallEntry}
use Rattle.ps_hall.specs.declared.game.Game.{Game}
use Rattle.ps_hall.specs.declared.notice.Notice.{Notice}
use Rattle.ps_hall.specs.Records.{Record}
use Rattle.ps_hall.specs.Lookups.{badge_of, opponent, rating_in, game_in, player_id}
use Rattle.ps_hall.specs.Lines.{challstr_line, guest_line, formats_line, user_line, search_line, challenge_line, whisper_line, rating_line, taken_by, taken_line, refused_line}
use Rattle.ps_hall.specs.Steps.{applied}
use Rattle.ps_hall.specs.Told.{notice, to_conn, to_user, told_of_name, told_partners, told_of_quit, told_matched, told_both, told_of_cancel_challenge, accept_lines, told_whisper, rating_lines, told_player, told_of_report, told_of_named, told_by, told}
use Rattle.ps_hall.specs.Halls.{verdict, after, notices_by, notices, lines_for, message_of, message, view}
use Rattle.ps_serve.specs.Ends.{IsOfHall}

-- a line that begins with `|`
abbrev Bars : List (List ℕ) → Type 0
Bars [] = Unit {0}
Bars (line ∷ lines) = IsOfHall line × Bars lines

abbrev AllBars : List Notice → Type 0
AllBars [] = Unit {0}
AllBars (n ∷ ns) = Bars n.lines × AllBars ns

-- a message whose first line does
abbrev pub IsBarred : List (List ℕ) → Type 0
IsBarred m = (rest : List ℕ) × (lines : List (List ℕ)) × (m ≡ (124 ∷ rest) ∷ lines)

longer : (x y : List ℕ) → IsOfHall x → IsOfHall (x ++ y)
longer x y b = (b.0 ++ y, ap (λ (l : List ℕ). l ++ y) b.1)

-- ---- lines

challstr_bar : (nonce : List ℕ) (conn : ℕ) → IsOfHall (challstr_line nonce conn)
challstr_bar nonce conn = longer (codes "|challstr|") (challstr_of nonce conn) (codes "challstr|", refl)

guest_bar : (conn : ℕ) → IsOfHall (guest_line conn)
guest_bar conn = longer (codes "|updateuser| Guest " ++ decimal conn) (codes "|0|0|{}") (longer (codes "|updateuser| Guest ") (decimal conn) (codes "updateuser| Guest ", refl))

formats_bar : (fs : List Format) → IsOfHall (formats_line fs)
formats_bar fs = longer (codes "|formats|") (join_with_byte 124 (map (λ (f : Format). f.name) fs)) (codes "formats|", refl)

user_bar : (groups : List Group) (badge : Badge) → IsOfHall (user_line groups badge)
user_bar groups badge = longer (codes "|updateuser|" ++ shown_name groups badge.rank badge.name) (codes "|1|0|{}") (longer (codes "|updateuser|") (shown_name groups badge.rank badge.name) (codes "updateuser|", refl))

search_bar : (gs : List Game) (ss : List Waiting) (id : List ℕ) → IsOfHall (search_line gs ss id)
unfolding search_line
search_bar gs ss id = longer (codes "|updatesearch|") _ (codes "updatesearch|", refl)

challenge_bar : (asked : List Asked) (id : List ℕ) → IsOfHall (challenge_line asked id)
unfolding challenge_line
challenge_bar asked id = longer (codes "|updatechallenges|") _ (codes "updatechallenges|", refl)

whisper_bar : (groups : List Group) (from to : Badge) (text : List ℕ) → IsOfHall (whisper_line groups from to text)
whisper_bar groups from to text =
    let one = codes "|pm|" ++ shown_name groups from.rank from.name in
    let two = one ++ codes "|" in
    let three = two ++ shown_name groups to.rank to.name in
    let four = three ++ codes "|" in
    longer four text (longer three (codes "|") (longer two (shown_name groups to.rank to.name) (longer one (codes "|") (longer (codes "|pm|") (shown_name groups from.rank from.name) (codes "pm|", refl)))))

rating_bar : (id format : List ℕ) (rating : ℤ) → IsOfHall (rating_line id format rating)
rating_bar id format rating =
    let one = codes "|popup|" ++ id in
    let two = one ++ codes " " in
    let three = two ++ format in
    let four = three ++ codes " " in
    longer four (signed_decimal rating) (longer three (codes " ") (longer two format (longer one (codes " ") (longer (codes "|popup|") id (codes "popup|", refl)))))

popup_bar : (reason : HallWhy) → IsOfHall (popup_line reason)
popup_bar reason =
    let one = codes "|popup|[" ++ hall_why_name reason in
    let two = one ++ codes "]" in
    longer two (popup_end reason) (longer one (codes "]") (longer (codes "|popup|[") (hall_why_name reason) (codes "popup|[", refl)))

taken_by_bar : (name : Option (List ℕ)) → IsOfHall (taken_by name)
taken_by_bar None = popup_bar why.NameTaken
taken_by_bar (Some name) = longer (codes "|nametaken|" ++ name) (codes "|[NameTaken]") (longer (codes "|nametaken|") name (codes "nametaken|", refl))

taken_bar : (cmd : HallCmd) → IsOfHall (taken_line cmd)
taken_bar (Name name assertion) = taken_by_bar (read_of name)
taken_bar other = popup_bar why.NameTaken

refused_bar : (reason : HallWhy) (cmd : HallCmd) → IsOfHall (refused_line reason cmd)
refused_bar why.NameTaken cmd = taken_bar cmd
refused_bar reason cmd = popup_bar reason

-- ---- rows

conn_bars : (conn : Option ℕ) (lines : List (List ℕ)) → Bars lines → AllBars (to_conn conn lines)
conn_bars None lines b = tt
conn_bars (Some conn) lines b = (b, tt)

user_bars : (online : ById ℕ) (id : List ℕ) (lines : List (List ℕ)) → Bars lines → AllBars (to_user online id lines)
user_bars online id lines b = conn_bars (get online id) lines b

both_bars : (xs ys : List Notice) → AllBars xs → AllBars ys → AllBars (xs ++ ys)
both_bars [] ys a b = b
both_bars (x ∷ xs) ys a b = (a.0, both_bars xs ys a.1 b)

name_bars : (groups : List Group) (conn : ℕ) (badge : Option Badge) → AllBars (told_of_name groups conn badge)
name_bars groups conn None = tt
name_bars groups conn (Some badge) = ((user_bar groups badge, tt), tt)

partner_bars : (online : ById ℕ) (asked : List Asked) (ids : List (List ℕ)) → AllBars (told_partners online asked ids)
partner_bars online asked [] = tt
partner_bars online asked (id ∷ ids) = both_bars (to_user online id (challenge_line asked id ∷ [])) (told_partners online asked ids) (user_bars online id (challenge_line asked id ∷ []) (challenge_bar asked id, tt)) (partner_bars online asked ids)

quit_bars : (online : ById ℕ) (pms : Pms) (asked : List Asked) (badge : Option Badge) → AllBars (told_of_quit online pms asked badge)
quit_bars online pms asked None = tt
quit_bars online pms asked (Some badge) = partner_bars online asked (partners pms (id_of badge.name))

matched_bars : (online : ById ℕ) (gs : List Game) (ss : List Waiting) (other : Option Waiting) → AllBars (told_matched online gs ss other)
matched_bars online gs ss None = tt
matched_bars online gs ss (Some s) = user_bars online s.user (search_line gs ss s.user ∷ []) (search_bar gs ss s.user, tt)

both_ends : (online : ById ℕ) (asked : List Asked) (conn : ℕ) (me user : List ℕ) → AllBars (told_both online asked conn me user)
both_ends online asked conn me user = ((challenge_bar asked me, tt), user_bars online user (challenge_line asked user ∷ []) (challenge_bar asked user, tt))

cancel_bars : (online : ById ℕ) (asked : List Asked) (conn : ℕ) (me : List ℕ) (a : Option Asked) → AllBars (told_of_cancel_challenge online asked conn me a)
cancel_bars online asked conn me None = tt
cancel_bars online asked conn me (Some a) = both_ends online asked conn me a.to

accept_bars : (gs : List Game) (ss : List Waiting) (asked : List Asked) (id : List ℕ) → Bars (accept_lines gs ss asked id)
accept_bars gs ss asked id = (challenge_bar asked id, (search_bar gs ss id, tt))

ends_bars : (b : Bool) (conn other : ℕ) (line : List ℕ) → IsOfHall line → AllBars (cond b (notice conn (line ∷ []) ∷ []) (notice conn (line ∷ []) ∷ notice other (line ∷ []) ∷ []))
ends_bars true conn other line bar = ((bar, tt), tt)
ends_bars false conn other line bar = ((bar, tt), ((bar, tt), tt))

whisper_bars : (groups : List Group) (conn : ℕ) (from : Badge) (other : Option ℕ) (to : Option Badge) (text : List ℕ) → AllBars (told_whisper groups conn from other to text)
whisper_bars groups conn from (Some other) (Some to) text = ends_bars (eqb conn other) conn other (whisper_line groups from to text) (whisper_bar groups from to text)
whisper_bars groups conn from (Some other) None text = tt
whisper_bars groups conn from None to text = tt

rate_bars : (rating : ℤ) (g : Game) (rated : Bool) (winner : Option ℕ) (id : List ℕ) → Bars (rating_lines rating g rated winner id)
rate_bars rating g true (Some s) id = (rating_bar id g.format rating, tt)
rate_bars rating g true None id = tt
rate_bars rating g false winner id = tt

player_bars : (online : ById ℕ) (gs : List Game) (ss : List Waiting) (rating : ℤ) (g : Game) (winner : Option ℕ) (id : List ℕ) → AllBars (told_player online gs ss rating g winner id)
player_bars online gs ss rating g winner id = user_bars online id (search_line gs ss id ∷ rating_lines rating g g.rated winner id) (search_bar gs ss id, rate_bars rating g g.rated winner id)

report_bars : (online : ById ℕ) (r : Record) (winner : Option ℕ) (g : Option Game) → AllBars (told_of_report online r winner g)
report_bars online r winner None = tt
report_bars online r winner (Some g) = both_bars (told_player online r.games r.searches (rating_in r g.format (player_id g 0)) g winner (player_id g 0)) (told_player online r.games r.searches (rating_in r g.format (player_id g 1)) g winner (player_id g 1))
    (player_bars online r.games r.searches (rating_in r g.format (player_id g 0)) g winner (player_id g 0)) (player_bars online r.games r.searches (rating_in r g.format (player_id g 1)) g winner (player_id g 1))

-- ---- all of them

named_bars : (before behind : Record) (conn : ℕ) (me : Badge) (cmd : HallCmd) → AllBars (told_of_named before behind conn me cmd)
named_bars before behind conn me (Search format) = ((search_bar behind.games behind.searches (id_of me.name), tt), matched_bars before.users.online behind.games behind.searches (opponent before (id_of me.name) format))
named_bars before behind conn me CancelSearch = ((search_bar behind.games behind.searches (id_of me.name), tt), tt)
named_bars before behind conn me (Challenge user format) = both_ends before.users.online behind.pms.asked conn (id_of me.name) user
named_bars before behind conn me CancelChallenge = cancel_bars before.users.online behind.pms.asked conn (id_of me.name) (asked_by before.pms (id_of me.name))
named_bars before behind conn me (Reject user) = both_ends before.users.online behind.pms.asked conn (id_of me.name) user
named_bars before behind conn me (Accept user) = (accept_bars behind.games behind.searches behind.pms.asked (id_of me.name), user_bars before.users.online user (accept_lines behind.games behind.searches behind.pms.asked user) (accept_bars behind.games behind.searches behind.pms.asked user))
named_bars before behind conn me (Whisper user text) = whisper_bars before.config.groups conn me (get before.users.online user) (option_and_then (badge_in before.users.seats) (get before.users.online user)) text
named_bars before behind conn me (Rank user format) = ((rating_bar user format (rating_in before format user), tt), tt)
named_bars before behind conn me other = tt

badge_bars : (before behind : Record) (conn : ℕ) (badge : Option Badge) (cmd : HallCmd) → AllBars (told_by before behind conn badge cmd)
badge_bars before behind conn None cmd = tt
badge_bars before behind conn (Some badge) cmd = named_bars before behind conn badge cmd

told_bars : (before behind : Record) (conn : ℕ) (cmd : HallCmd) → AllBars (told before behind conn cmd)
unfolding told
told_bars before behind conn Open = ((challstr_bar before.config.nonce conn, (guest_bar conn, (formats_bar before.config.formats.formats, tt))), tt)
told_bars before behind conn Quit = quit_bars before.users.online before.pms behind.pms.asked (badge_of before conn)
told_bars before behind conn (Bad reason) = tt
told_bars before behind conn (Name name assertion) = name_bars before.config.groups conn (granted before.users (Name name assertion))
told_bars before behind conn (Report number winner) = report_bars before.users.online behind winner (game_in before number)
told_bars before behind conn other = badge_bars before behind conn (badge_of before conn) other

verdict_bars : (v : Option HallWhy) (h : Record) (conn : ℕ) (cmd : HallCmd) → AllBars (notices_by v h conn cmd)
verdict_bars (Some reason) h conn cmd = ((refused_bar reason cmd, tt), tt)
verdict_bars None h conn cmd = told_bars h (applied h conn cmd) conn cmd

-- ---- what a connection is sent

bars_with : (xs ys : List (List ℕ)) → Bars xs → Bars ys → Bars (xs ++ ys)
bars_with [] ys a b = b
bars_with (x ∷ xs) ys a b = (a.0, bars_with xs ys a.1 b)

own_bars : (b : Bool) (lines : List (List ℕ)) → Bars lines → Bars (cond b lines [])
own_bars true lines b = b
own_bars false lines b = tt

message_bars : (conn : ℕ) (ns : List Notice) → AllBars ns → Bars (message_of conn ns)
message_bars conn [] b = tt
message_bars conn (n ∷ ns) b = bars_with (lines_for conn n) (message_of conn ns) (own_bars (eqb n.conn conn) n.lines b.0) (message_bars conn ns b.1)

sent_barred : (lines : List (List ℕ)) → Bars lines → All IsBarred (sent lines)
sent_barred [] b = All-nil IsBarred
sent_barred (line ∷ lines) b = All-cons IsBarred (line ∷ lines) [] (b.0.0, lines, ap (λ (l : List ℕ). l ∷ lines) b.0.1) (All-nil IsBarred)

pub view_barred : (conn : ℕ) (h : Record) (es : List HallEntry) → All IsBarred (view conn h es)
view_barred conn h [] = All-nil IsBarred
view_barred conn h (e ∷ es) = All-append IsBarred (sent (message conn h e)) (view conn (after h e) es) (sent_barred (message conn h e) (message_bars conn (notices h e) (verdict_bars (verdict h e) h e.conn e.cmd))) (view_barred conn (after h e) es)
