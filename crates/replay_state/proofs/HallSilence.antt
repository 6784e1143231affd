-- The hall tells connections that have opened alone.
use Rattle.std.proofs.Common.{◌≡◌, ℕ, ◌≤◌, ◌==◌, Bool, true, false, cond, List, [], ◌∷◌, ◌++◌, Option, Some, None, refl, sym, ◌∙◌, subst, arith}
use Rattle.std.specs.Prelude.{ℤ, option_and_then, option_map}
use Rattle.std.specs.Ordering.{nat_cmp, eq_by_cmp}
use Rattle.std.specs.Cmp.Lexicographic.{slice_cmp, nat_list_cmp_total}
use Rattle.std.specs.FinMap.{get, insert, remove, get-insert, get-remove}
use Rattle.std.proofs.lemmas.Option.{none-some, same_Some}
use Rattle.ps_base.specs.Ids.{id_of}
use Rattle.ps_base.specs.declared.badge.Badge.{Badge}
use Rattle.ps_base.specs.declared.hall_why.HallWhy.{HallWhy}
use Rattle.ps_lines.specs.declared.command.HallCmd.{HallCmd}
use Rattle.ps_lines.specs.declared.command.HallCmd.TheVariants.{Open, Quit, Bad, Name, Search, CancelSearch, Challenge, CancelChallenge, Reject, Accept, Whisper, Rank, Report}
use Rattle.ps_group.specs.declared.group.Group.{Group}
use Rattle.ps_base.specs.ById.{ById}
use Rattle.ps_users.specs.Records.{Record as Users}
use Rattle.ps_users.specs.Refusals.{read_of}
use Rattle.ps_users.specs.Seats.{badge_in, without}
use Rattle.ps_users.specs.Steps.{granted, with_name, badge_for, after as users_after}
use Rattle.ps_pms.specs.Lookups.{asked_by, partners}
use Rattle.ps_pms.specs.declared.asked.Asked.{Asked}
use Rattle.ps_ladder.specs.declared.searches.Search.{Search as Waiting}
use Rattle.ps_hall.specs.declared.entry.HallEntry.{HallEntry}
use Rattle.ps_hall.specs.declared.notice.Notice.{Notice}
use Rattle.ps_hall.specs.declared.game.Game.{Game}
use Rattle.ps_hall.specs.Records.{Record}
use Rattle.ps_hall.specs.Lookups.{badge_of, opponent, rating_in, game_in, player_id}
use Rattle.ps_hall.specs.Lines.{search_line, challenge_line, whisper_line}
use Rattle.ps_hall.specs.Steps.{applied, forgotten, reported, after_by}
use Rattle.ps_hall.specs.Told.{to_conn, to_user, told_of_name, told_partners, told_of_quit, told_matched, told_of_cancel_challenge, told_ends, told_whisper, rating_lines, told_player, told_players, told_of_report, told_of_named, told_by, told}
use Rattle.ps_hall.specs.Halls as halls
use Rattle.ps_hall.proofs.StepLemmas.{forgotten_users, users_by, reported_users}
use Rattle.ps_room.proofs.SilenceLemmas.{IsUpTo}

-- ---- who is online

-- each id that is online is so on one of the first n connections
abbrev pub AreKnown : ℕ → ById ℕ → Type 0
AreKnown n online = (id : List ℕ) (conn : ℕ) → get online id ≡ Some conn → IsUpTo n conn

pub known_more : (n k : ℕ) (online : ById ℕ) → n ≤ k → AreKnown n online → AreKnown k online
known_more n k online le known id conn e = let up = known id conn e in (up.0, omega (arith, up.1))

-- ---- whom the rows tell

abbrev AllUpTo : ℕ → List Notice → Type 0
AllUpTo n [] = Unit {0}
AllUpTo n (x ∷ xs) = IsUpTo n x.conn × AllUpTo n xs

up_to_append : (n : ℕ) (xs ys : List Notice) → AllUpTo n xs → AllUpTo n ys → AllUpTo n (xs ++ ys)
up_to_append n [] ys a b = b
up_to_append n (x ∷ xs) ys a b = (a.0, up_to_append n xs ys a.1 b)

to_known : (n : ℕ) (o : Option ℕ) (lines : List (List ℕ)) → ((conn : ℕ) → o ≡ Some conn → IsUpTo n conn) → AllUpTo n (to_conn o lines)
to_known n None lines known = tt
to_known n (Some conn) lines known = (known conn refl, tt)

of_name : (n : ℕ) (groups : List Group) (conn : ℕ) (badge : Option Badge) → IsUpTo n conn → AllUpTo n (told_of_name groups conn badge)
of_name n groups conn None by = tt
of_name n groups conn (Some badge) by = (by, tt)

ends : (n conn other : ℕ) (lines : List (List ℕ)) (same : Bool) → IsUpTo n conn → IsUpTo n other → (conn == other) ≡ same → AllUpTo n (told_ends conn other lines)
ends n conn other lines true by to e = rw e (by, tt)
ends n conn other lines false by to e = rw e (by, (to, tt))

of_whisper : (n : ℕ) (groups : List Group) (conn : ℕ) (from : Badge) (other : Option ℕ) (to : Option Badge) (text : List ℕ) → IsUpTo n conn → ((c : ℕ) → other ≡ Some c → IsUpTo n c) → AllUpTo n (told_whisper groups conn from other to text)
of_whisper n groups conn from None to text by known = tt
of_whisper n groups conn from (Some other) None text by known = tt
of_whisper n groups conn from (Some other) (Some to) text by known = ends n conn other (whisper_line groups from to text ∷ []) (conn == other) by (known other refl) refl

module _ (n : ℕ) (online : ById ℕ) (known : AreKnown n online) where
  user : (id : List ℕ) (lines : List (List ℕ)) → AllUpTo n (to_user online id lines)
  user id lines = to_known n (get online id) lines (known id)

  of_partners : (asked : List Asked) (ids : List (List ℕ)) → AllUpTo n (told_partners online asked ids)
  of_partners asked [] = tt
  of_partners asked (id ∷ ids) = up_to_append n (to_user online id (challenge_line asked id ∷ [])) (told_partners online asked ids) (user id (challenge_line asked id ∷ [])) (of_partners asked ids)

  of_matched : (gs : List Game) (ss : List Waiting) (other : Option Waiting) → AllUpTo n (told_matched online gs ss other)
  of_matched gs ss None = tt
  of_matched gs ss (Some s) = user s.user (search_line gs ss s.user ∷ [])

  of_cancel : (asked : List Asked) (conn : ℕ) (me : List ℕ) (a : Option Asked) → IsUpTo n conn → AllUpTo n (told_of_cancel_challenge online asked conn me a)
  of_cancel asked conn me None by = tt
  of_cancel asked conn me (Some a) by = (by, user a.to (challenge_line asked a.to ∷ []))

  of_players : (gs : List Game) (ss : List Waiting) (one two : ℤ) (g : Game) (winner : Option ℕ) → AllUpTo n (told_players online gs ss one two g winner)
  of_players gs ss one two g winner =
      up_to_append n (told_player online gs ss one g winner (player_id g 0)) (told_player online gs ss two g winner (player_id g 1))
      (user (player_id g 0) (search_line gs ss (player_id g 0) ∷ rating_lines one g g.rated winner (player_id g 0)))
      (user (player_id g 1) (search_line gs ss (player_id g 1) ∷ rating_lines two g g.rated winner (player_id g 1)))

  of_report : (after : Record) (winner : Option ℕ) (g : Option Game) → AllUpTo n (told_of_report online after winner g)
  of_report after winner None = tt
  of_report after winner (Some g) = of_players after.games after.searches (rating_in after g.format (player_id g 0)) (rating_in after g.format (player_id g 1)) g winner

module _ (n : ℕ) (before after : Record) (conn : ℕ) (known : AreKnown n before.users.online) (by : IsUpTo n conn) where
  of_quit : (badge : Option Badge) → AllUpTo n (told_of_quit before.users.online before.pms after.pms.asked badge)
  of_quit None = tt
  of_quit (Some badge) = of_partners n before.users.online known after.pms.asked (partners before.pms (id_of badge.name))

  of_named : (me : Badge) (cmd : HallCmd) → AllUpTo n (told_of_named before after conn me cmd)
  of_named me (Search format) = (by, of_matched n before.users.online known after.games after.searches (opponent before (id_of me.name) format))
  of_named me CancelSearch = (by, tt)
  of_named me (Challenge to format) = (by, user n before.users.online known to (challenge_line after.pms.asked to ∷ []))
  of_named me CancelChallenge = of_cancel n before.users.online known after.pms.asked conn (id_of me.name) (asked_by before.pms (id_of me.name)) by
  of_named me (Reject to) = (by, user n before.users.online known to (challenge_line after.pms.asked to ∷ []))
  of_named me (Accept to) = (by, user n before.users.online known to _)
  of_named me (Whisper to text) = of_whisper n before.config.groups conn me (get before.users.online to) (option_and_then (badge_in before.users.seats) (get before.users.online to)) text by (known to)
  of_named me (Rank to format) = (by, tt)
  of_named me other = tt

  of_badge : (badge : Option Badge) (cmd : HallCmd) → AllUpTo n (told_by before after conn badge cmd)
  of_badge None cmd = tt
  of_badge (Some badge) cmd = of_named badge cmd

  told_up_to : (cmd : HallCmd) → AllUpTo n (told before after conn cmd)
  unfolding told
  told_up_to Open = (by, tt)
  told_up_to Quit = of_quit (badge_of before conn)
  told_up_to (Bad reason) = tt
  told_up_to (Name name assertion) = of_name n before.config.groups conn (granted before.users (Name name assertion)) by
  told_up_to (Report number winner) = of_report n before.users.online known after winner (game_in before number)
  told_up_to other = of_badge (badge_of before conn) other

notices_up_to : (n : ℕ) (v : Option HallWhy) (h : Record) (conn : ℕ) (cmd : HallCmd) → AreKnown n h.users.online → IsUpTo n conn → AllUpTo n (halls.notices_by v h conn cmd)
notices_up_to n (Some why) h conn cmd known by = (by, tt)
notices_up_to n None h conn cmd known by = told_up_to n h (applied h conn cmd) conn known by cmd

-- ---- who isn't told

-- not the number of one of the first n
abbrev pub IsUnopened : ℕ → ℕ → Type 0
IsUnopened n conn = (k : ℕ) → IsUpTo n k → (k == conn) ≡ false

none_told : (n conn : ℕ) (xs : List Notice) → AllUpTo n xs → IsUnopened n conn → halls.message_of conn xs ≡ []
none_told n conn [] up out = refl
none_told n conn (x ∷ xs) up out = rw (out x.conn up.0) (none_told n conn xs up.1 out)

-- who hasn't opened is sent nothing by the hall
pub unopened_silent : (n conn : ℕ) (h : Record) (e : HallEntry) → AreKnown n h.users.online → IsUpTo n e.conn → IsUnopened n conn → halls.message conn h e ≡ []
unopened_silent n conn h e known by out = none_told n conn (halls.notices h e) (notices_up_to n (halls.verdict h e) h e.conn e.cmd known by) out

-- ---- who is online after an entry

known_put : (n conn : ℕ) (online : ById ℕ) (id : List ℕ) → AreKnown n online → IsUpTo n conn → AreKnown n (insert online id conn)
known_put n conn online id known by q c e = either (eq_by_cmp (slice_cmp nat_cmp) q id) (sym (get-insert nat_list_cmp_total online id conn q) ∙ e)
  where
    either : (b : Bool) → cond b (Some conn) (get online q) ≡ Some c → IsUpTo n c
    either true is = subst (IsUpTo n) (same_Some conn c is) by
    either false is = known q c is

known_removed : (n : ℕ) (online : ById ℕ) (id : List ℕ) → AreKnown n online → AreKnown n (remove online id)
known_removed n online id known q c e = either (eq_by_cmp (slice_cmp nat_cmp) q id) (sym (get-remove nat_list_cmp_total online id q) ∙ e)
  where
    either : (b : Bool) → cond b None (get online q) ≡ Some c → IsUpTo n c
    either true is = absurd (none-some c is)
    either false is = known q c is

known_without : (n : ℕ) (online : ById ℕ) (badge : Option Badge) → AreKnown n online → AreKnown n (without badge online)
known_without n online None known = known
known_without n online (Some badge) known = known_removed n online (id_of badge.name) known

known_named : (n conn : ℕ) (users : Users) (name : Option (List ℕ)) → AreKnown n users.online → IsUpTo n conn → AreKnown n (with_name users conn name).online
known_named n conn users None known by = known
known_named n conn users (Some name) known by = known_put n conn users.online (id_of (badge_for users name).name) known by

-- most commands leave the users as they were

same_known : (n : ℕ) (one two : Users) → two ≡ one → AreKnown n one.online → AreKnown n two.online
same_known n one two same known = subst (λ (users : Users). AreKnown n users.online) (sym same) known

known_quit : (n conn : ℕ) (h : Record) (users : Users) → users ≡ h.users → AreKnown n h.users.online → AreKnown n (users_after users conn Quit).online
known_quit n conn h users same known = subst (λ (u : Users). AreKnown n (users_after u conn Quit).online) (sym same) (known_without n h.users.online (badge_in h.users.seats conn) known)

known_applied : (n : ℕ) (h : Record) (conn : ℕ) (cmd : HallCmd) → AreKnown n h.users.online → IsUpTo n conn → AreKnown n (applied h conn cmd).users.online
unfolding applied
known_applied n h conn Open known by = known
known_applied n h conn Quit known by = known_quit n conn h (forgotten h (badge_of h conn)).users (forgotten_users h (option_map (λ b. id_of b.name) (badge_of h conn))) known
known_applied n h conn (Bad reason) known by = known
known_applied n h conn (Name name assertion) known by = known_named n conn h.users (read_of name) known by
known_applied n h conn (Report number winner) known by = same_known n h.users (reported h number winner (game_in h number)).users (reported_users h number winner (game_in h number)) known
known_applied n h conn other known by = same_known n h.users (after_by h (badge_of h conn) other).users (users_by h (badge_of h conn) other) known

known_by : (n : ℕ) (v : Option HallWhy) (h : Record) (conn : ℕ) (cmd : HallCmd) → AreKnown n h.users.online → IsUpTo n conn → AreKnown n (halls.after_by v h conn cmd).users.online
known_by n (Some why) h conn cmd known by = known
known_by n None h conn cmd known by = known_applied n h conn cmd known by

pub known_after : (n : ℕ) (h : Record) (e : HallEntry) → AreKnown n h.users.online → IsUpTo n e.conn → AreKnown n (halls.after h e).users.online
known_after n h e known by = known_by n (halls.verdict h e) h e.conn e.cmd known by
