-- Each line that the hall tells begins with a bar.
use Rattle.std.proofs.Common.{◌≡◌, ℕ, ℤ, ◌==◌, Bool, true, false, cond, List, [], ◌∷◌, Option, Some, None, refl, ap}
use Rattle.std.specs.Prelude.{option_and_then}
use Rattle.std.specs.FinMap.{get}
use Rattle.ps_base.specs.Characters as characters
use Rattle.ps_base.specs.ById.{ById}
use Rattle.ps_base.specs.Ids.{id_of}
use Rattle.ps_base.specs.declared.badge.Badge.{Badge}
use Rattle.ps_base.specs.declared.hall_why.HallWhy.{HallWhy}
use Rattle.ps_base.specs.declared.hall_why.HallWhy.TheVariants as why
use Rattle.ps_lines.specs.declared.command.HallCmd.{HallCmd}
use Rattle.ps_lines.specs.declared.command.HallCmd.TheVariants.{Open, Quit, Bad, Name, Search, CancelSearch, Challenge, CancelChallenge, Reject, Accept, Whisper, Rank, Report}
use Rattle.ps_group.specs.declared.group.Group.{Group}
use Rattle.ps_users.specs.Refusals.{read_of}
use Rattle.ps_users.specs.Seats.{badge_in}
use Rattle.ps_users.specs.Steps.{granted}
use Rattle.ps_pms.specs.Lookups.{asked_by, partners}
use Rattle.ps_pms.specs.declared.asked.Asked.{Asked}
use Rattle.ps_ladder.specs.declared.searches.Search.{Search as Waiting}
use Rattle.ps_hall.specs.declared.entry.HallEntry.{HallEntry}
use Rattle.ps_hall.specs.declared.notice.Notice.{Notice}
use Rattle.ps_hall.specs.declared.game.Game.{Game}
use Rattle.ps_hall.specs.Records.{Record}
use Rattle.ps_hall.specs.Lookups.{badge_of, opponent, rating_in, game_in, player_id}
use Rattle.ps_hall.specs.Lines.{search_line, challenge_line, whisper_line, taken_by, taken_line, refused_line}
use Rattle.ps_hall.specs.Steps.{applied}
use Rattle.ps_hall.specs.Told.{to_conn, to_user, told_of_name, told_partners, told_of_quit, told_matched, told_of_cancel_challenge, told_ends, told_whisper, rating_lines, told_player, told_players, told_of_report, told_of_named, told_by, told}
use Rattle.ps_hall.specs.Halls as halls
use Rattle.replay_read.proofs.SoLemmas.{AreSo, so_append}

-- ---- lines

abbrev pub IsBarred : List ℕ → Type 0
IsBarred [] = ⊥
IsBarred (byte ∷ bytes) = byte ≡ characters.bar

-- what stands behind it
pub record IsBehindBar (line : List ℕ) : Type 0 where
  pub bytes : List ℕ
  pub line_is : line ≡ characters.bar ∷ bytes

pub behind_bar : (line : List ℕ) → IsBarred line → IsBehindBar line
behind_bar [] a = absurd a
behind_bar (byte ∷ bytes) a = record { bytes = bytes; line_is = ap (λ (b : ℕ). b ∷ bytes) a }

search_barred : (gs : List Game) (ss : List Waiting) (id : List ℕ) → IsBarred (search_line gs ss id)
unfolding search_line
search_barred gs ss id = refl

challenge_barred : (asked : List Asked) (id : List ℕ) → IsBarred (challenge_line asked id)
unfolding challenge_line
challenge_barred asked id = refl

taken_name : (name : Option (List ℕ)) → IsBarred (taken_by name)
taken_name None = refl
taken_name (Some name) = refl

taken : (cmd : HallCmd) → IsBarred (taken_line cmd)
taken (Name name assertion) = taken_name (read_of name)
taken other = refl

refused : (reason : HallWhy) (cmd : HallCmd) → IsBarred (refused_line reason cmd)
refused why.NameTaken cmd = taken cmd
refused reason cmd = refl

-- ---- the rows

abbrev AreToldBarred : Notice → Type 0
AreToldBarred x = AreSo IsBarred x.lines

abbrev AllBarred : List Notice → Type 0
AllBarred xs = AreSo AreToldBarred xs

to_some : (o : Option ℕ) (lines : List (List ℕ)) → AreSo IsBarred lines → AllBarred (to_conn o lines)
to_some None lines a = tt
to_some (Some conn) lines a = (a, tt)

of_name : (groups : List Group) (conn : ℕ) (badge : Option Badge) → AllBarred (told_of_name groups conn badge)
of_name groups conn None = tt
of_name groups conn (Some badge) = ((refl, tt), tt)

ends : (conn other : ℕ) (lines : List (List ℕ)) → AreSo IsBarred lines → AllBarred (told_ends conn other lines)
ends conn other lines a = either (conn == other)
  where
    either : (same : Bool) → AllBarred (cond same (record { conn = conn; lines = lines } ∷ []) (record { conn = conn; lines = lines } ∷ record { conn = other; lines = lines } ∷ []))
    either true = (a, tt)
    either false = (a, (a, tt))

of_whisper : (groups : List Group) (conn : ℕ) (from : Badge) (other : Option ℕ) (to : Option Badge) (text : List ℕ) → AllBarred (told_whisper groups conn from other to text)
of_whisper groups conn from None to text = tt
of_whisper groups conn from (Some other) None text = tt
of_whisper groups conn from (Some other) (Some to) text = ends conn other (whisper_line groups from to text ∷ []) (refl, tt)

ratings : (rating : ℤ) (g : Game) (rated : Bool) (winner : Option ℕ) (id : List ℕ) → AreSo IsBarred (rating_lines rating g rated winner id)
ratings rating g true (Some winner) id = (refl, tt)
ratings rating g true None id = tt
ratings rating g false winner id = tt

module _ (online : ById ℕ) where
  user : (id : List ℕ) (lines : List (List ℕ)) → AreSo IsBarred lines → AllBarred (to_user online id lines)
  user id lines a = to_some (get online id) lines a

  asked_user : (asked : List Asked) (id : List ℕ) → AllBarred (to_user online id (challenge_line asked id ∷ []))
  asked_user asked id = user id (challenge_line asked id ∷ []) (challenge_barred asked id, tt)

  of_partners : (asked : List Asked) (ids : List (List ℕ)) → AllBarred (told_partners online asked ids)
  of_partners asked [] = tt
  of_partners asked (id ∷ ids) = so_append AreToldBarred (to_user online id (challenge_line asked id ∷ [])) (told_partners online asked ids) (asked_user asked id) (of_partners asked ids)

  of_matched : (gs : List Game) (ss : List Waiting) (other : Option Waiting) → AllBarred (told_matched online gs ss other)
  of_matched gs ss None = tt
  of_matched gs ss (Some s) = user s.user (search_line gs ss s.user ∷ []) (search_barred gs ss s.user, tt)

  of_cancel : (asked : List Asked) (conn : ℕ) (me : List ℕ) (a : Option Asked) → AllBarred (told_of_cancel_challenge online asked conn me a)
  of_cancel asked conn me None = tt
  of_cancel asked conn me (Some a) = ((challenge_barred asked me, tt), asked_user asked a.to)

  of_player : (gs : List Game) (ss : List Waiting) (rating : ℤ) (g : Game) (winner : Option ℕ) (id : List ℕ) → AllBarred (told_player online gs ss rating g winner id)
  of_player gs ss rating g winner id = user id (search_line gs ss id ∷ rating_lines rating g g.rated winner id) (search_barred gs ss id, ratings rating g g.rated winner id)

  of_players : (gs : List Game) (ss : List Waiting) (one two : ℤ) (g : Game) (winner : Option ℕ) → AllBarred (told_players online gs ss one two g winner)
  of_players gs ss one two g winner =
      so_append AreToldBarred (told_player online gs ss one g winner (player_id g 0)) (told_player online gs ss two g winner (player_id g 1))
      (of_player gs ss one g winner (player_id g 0))
      (of_player gs ss two g winner (player_id g 1))

  of_report : (after : Record) (winner : Option ℕ) (g : Option Game) → AllBarred (told_of_report online after winner g)
  of_report after winner None = tt
  of_report after winner (Some g) = of_players after.games after.searches (rating_in after g.format (player_id g 0)) (rating_in after g.format (player_id g 1)) g winner

module _ (before after : Record) (conn : ℕ) where
  of_quit : (badge : Option Badge) → AllBarred (told_of_quit before.users.online before.pms after.pms.asked badge)
  of_quit None = tt
  of_quit (Some badge) = of_partners before.users.online after.pms.asked (partners before.pms (id_of badge.name))

  of_named : (me : Badge) (cmd : HallCmd) → AllBarred (told_of_named before after conn me cmd)
  of_named me (Search format) = ((search_barred after.games after.searches (id_of me.name), tt), of_matched before.users.online after.games after.searches (opponent before (id_of me.name) format))
  of_named me CancelSearch = ((search_barred after.games after.searches (id_of me.name), tt), tt)
  of_named me (Challenge to format) = ((challenge_barred after.pms.asked (id_of me.name), tt), asked_user before.users.online after.pms.asked to)
  of_named me CancelChallenge = of_cancel before.users.online after.pms.asked conn (id_of me.name) (asked_by before.pms (id_of me.name))
  of_named me (Reject to) = ((challenge_barred after.pms.asked (id_of me.name), tt), asked_user before.users.online after.pms.asked to)
  of_named me (Accept to) =
      let both : (id : List ℕ) → AreSo IsBarred (challenge_line after.pms.asked id ∷ search_line after.games after.searches id ∷ []) = λ id. (challenge_barred after.pms.asked id, (search_barred after.games after.searches id, tt)) in
      (both (id_of me.name), user before.users.online to (challenge_line after.pms.asked to ∷ search_line after.games after.searches to ∷ []) (both to))
  of_named me (Whisper to text) = of_whisper before.config.groups conn me (get before.users.online to) (option_and_then (badge_in before.users.seats) (get before.users.online to)) text
  of_named me (Rank to format) = ((refl, tt), tt)
  of_named me other = tt

  of_badge : (badge : Option Badge) (cmd : HallCmd) → AllBarred (told_by before after conn badge cmd)
  of_badge None cmd = tt
  of_badge (Some badge) cmd = of_named badge cmd

  told_barred : (cmd : HallCmd) → AllBarred (told before after conn cmd)
  unfolding told
  told_barred Open = ((refl, (refl, (refl, tt))), tt)
  told_barred Quit = of_quit (badge_of before conn)
  told_barred (Bad reason) = tt
  told_barred (Name name assertion) = of_name before.config.groups conn (granted before.users (Name name assertion))
  told_barred (Report number winner) = of_report before.users.online after winner (game_in before number)
  told_barred other = of_badge (badge_of before conn) other

notices_barred : (v : Option HallWhy) (h : Record) (conn : ℕ) (cmd : HallCmd) → AllBarred (halls.notices_by v h conn cmd)
notices_barred (Some reason) h conn cmd = ((refused reason cmd, tt), tt)
notices_barred None h conn cmd = told_barred h (applied h conn cmd) conn cmd

-- ---- what a connection is sent

lines_barred : (conn : ℕ) (xs : List Notice) → AllBarred xs → AreSo IsBarred (halls.message_of conn xs)
lines_barred conn [] a = tt
lines_barred conn (x ∷ xs) a = so_append IsBarred (halls.lines_for conn x) (halls.message_of conn xs) (either (x.conn == conn)) (lines_barred conn xs a.1)
  where
    either : (same : Bool) → AreSo IsBarred (cond same x.lines [])
    either true = a.0
    either false = tt

pub message_barred : (conn : ℕ) (h : Record) (e : HallEntry) → AreSo IsBarred (halls.message conn h e)
message_barred conn h e = lines_barred conn (halls.notices h e) (notices_barred (halls.verdict h e) h e.conn e.cmd)
