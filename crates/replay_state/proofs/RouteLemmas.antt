-- What a text is taken for: no Open, Quit or Report of the hall, and an order for a room of a connection with a badge alone.
use Rattle.std.proofs.Common.{ℕ, Bool, true, false, cond, List, codes, Option, Some, None, Result, Ok, Err, IfOk, IfSome}
use Rattle.std.specs.Str.{bytes_eq}
use Rattle.ps_base.specs.Cuts.{after_front}
use Rattle.ps_base.specs.Numbers.{number_in}
use Rattle.ps_base.specs.declared.badge.Badge.{Badge}
use Rattle.ps_lines.specs.Arguments.{nothing, argument, id_at, symbol_at, two, second, one_id, user_and_reason, user_and_format}
use Rattle.ps_lines.specs.Clients.{client}
use Rattle.ps_lines.specs.Commands.{row, clean, worded, spaced, slashed, command, has_control}
use Rattle.ps_lines.specs.Faults.{◌>>=◌}
use Rattle.ps_lines.specs.HallRows.{comma}
use Rattle.ps_lines.specs.Parts.{at_first, at_last}
use Rattle.ps_lines.specs.RoomRows.{level, numbered, chosen}
use Rattle.ps_lines.specs.Words.{word_of}
use Rattle.ps_lines.specs.declared.client.ClientFault.{ClientFault}
use Rattle.ps_lines.specs.declared.client.ClientFault.TheVariants as client_faults
use Rattle.ps_lines.specs.declared.command.BadWhy.{BadWhy}
use Rattle.ps_lines.specs.declared.command.Command.{Command}
use Rattle.ps_lines.specs.declared.command.CommandFault.{CommandFault}
use Rattle.ps_lines.specs.declared.command.HallCmd.{HallCmd}
use Rattle.ps_lines.specs.declared.command.HallCmd.TheVariants as hall_commands
use Rattle.ps_lines.specs.declared.command.Parsed.{Parsed}
use Rattle.ps_lines.specs.declared.command.Parsed.TheVariants.{Room, Hall}
use Rattle.ps_lines.specs.declared.order.Order.{Order}
use Rattle.ps_lines.specs.declared.order.Order.TheVariants as orders
use Rattle.ps_lines.specs.declared.word.Word.{Word}
use Rattle.ps_lines.specs.declared.word.Word.TheVariants as words
use Rattle.ps_session.specs.Sessions.{Record, is_full}
use Rattle.ps_session.specs.Routes.{room_named, room_refusal, unless_refused, by_command, by_client, order_of, place_of, limited, within_limit, taken}

-- a command of the hall that a text makes
abbrev pub IsAsked : HallCmd → Type 0
IsAsked hall_commands.Open = ⊥
IsAsked hall_commands.Quit = ⊥
IsAsked (hall_commands.Report number winner) = ⊥
IsAsked other = Unit {0}

abbrev IsSent : Parsed → Type 0
IsSent (Hall cmd) = IsAsked cmd
IsSent (Room cmd) = Unit {0}

bound : {A : Type 0} (m : Result A CommandFault) (f : A → Result Parsed CommandFault) → ((x : A) → IfOk (f x) IsSent) → IfOk (m >>= f) IsSent
bound (Ok x) f h = h x
bound (Err e) f h = tt

either : (b : Bool) (x y : Result Parsed CommandFault) → IfOk x IsSent → IfOk y IsSent → IfOk (cond b x y) IsSent
either true x y h k = h
either false x y h k = k

utm_sent : (rest : Option (List ℕ)) → IfOk (row words.Team rest) IsSent
utm_sent None = tt
utm_sent (Some text) = either (bytes_eq text (codes "null")) _ _ tt tt

numbered_sent : (choice : List ℕ) (o : Option ℕ) → IfOk (numbered choice o) IsSent
numbered_sent choice None = tt
numbered_sent choice (Some rqid) = tt

chosen_sent : (choice : List ℕ) (o : Option (List ℕ × List ℕ)) → IfOk (chosen choice o) IsSent
chosen_sent choice None = tt
chosen_sent choice (Some parts) = numbered_sent parts.0 (number_in parts.1)

row_sent : (word : Word) (rest : Option (List ℕ)) → IfOk (row word rest) IsSent
row_sent words.Join rest = bound (argument rest) _ (λ room. tt)
row_sent words.Leave rest = bound (nothing rest) _ (λ x. tt)
row_sent words.Announce rest = bound (argument rest) _ (λ text. tt)
row_sent words.Modnote rest = bound (argument rest) _ (λ text. tt)
row_sent words.Warn rest = bound (user_and_reason rest) _ (λ named. tt)
row_sent words.Mute rest = bound (user_and_reason rest) _ (λ named. tt)
row_sent words.Unmute rest = bound (one_id rest) _ (λ id. tt)
row_sent words.Ban rest = bound (user_and_reason rest) _ (λ named. tt)
row_sent words.Unban rest = bound (one_id rest) _ (λ id. tt)
row_sent words.Promote rest = bound (argument rest) _ (λ text. bound (id_at 1 (two text).0) _ (λ user. bound (second (two text).1) _ (λ group. bound (symbol_at 2 group) _ (λ symbol. tt))))
row_sent words.Modchat rest = bound (argument rest) _ (λ text. bound (level text) _ (λ symbol. tt))
row_sent words.Choose rest = bound (argument rest) _ (λ text. chosen_sent text (at_last 124 text))
row_sent words.Undo rest = bound (nothing rest) _ (λ x. tt)
row_sent words.Forfeit rest = bound (nothing rest) _ (λ x. tt)
row_sent words.Name rest = bound (argument rest) _ (λ text. bound (comma 1 (at_first 44 text)) _ (λ name. bound (comma 2 (at_first 44 name.1)) _ (λ middle. either (bytes_eq middle.0 (codes "0")) _ _ tt tt)))
row_sent words.Team rest = utm_sent rest
row_sent words.Search rest = bound (one_id rest) _ (λ id. tt)
row_sent words.CancelSearch rest = bound (nothing rest) _ (λ x. tt)
row_sent words.Challenge rest = bound (user_and_format rest) _ (λ named. tt)
row_sent words.CancelChallenge rest = bound (nothing rest) _ (λ x. tt)
row_sent words.Reject rest = bound (one_id rest) _ (λ id. tt)
row_sent words.Accept rest = bound (one_id rest) _ (λ id. tt)
row_sent words.Whisper rest = bound (argument rest) _ (λ text. bound (id_at 1 (two text).0) _ (λ user. bound (second (two text).1) _ (λ whispered. tt)))
row_sent words.Block rest = bound (one_id rest) _ (λ id. tt)
row_sent words.Unblock rest = bound (one_id rest) _ (λ id. tt)
row_sent words.Rank rest = bound (user_and_format rest) _ (λ named. tt)

clean_sent : (control : Bool) (r : Result Parsed CommandFault) → IfOk r IsSent → IfOk (clean control r) IsSent
clean_sent true r h = tt
clean_sent false r h = h

worded_sent : (control : Bool) (word : Option Word) (rest : Option (List ℕ)) → IfOk (worded control word rest) IsSent
worded_sent control None rest = tt
worded_sent control (Some word) rest = clean_sent control (row word rest) (row_sent word rest)

spaced_sent : (control : Bool) (line : List ℕ) (o : Option (List ℕ × List ℕ)) → IfOk (spaced control line o) IsSent
spaced_sent control line None = worded_sent control (word_of line) None
spaced_sent control line (Some parts) = worded_sent control (word_of parts.0) (Some parts.1)

slashed_sent : (text : List ℕ) (o : Option (List ℕ)) → IfOk (slashed text o) IsSent
slashed_sent text None = clean_sent (has_control text) _ tt
slashed_sent text (Some line) = spaced_sent (has_control text) line (at_first 32 line)

command_sent : (text : List ℕ) → IfOk (command text) IsSent
unfolding command
command_sent text = slashed_sent text (after_front (codes "/") text)

-- ---- where it goes

abbrev pub IsNamed : Option Badge → Type 0
IsNamed None = ⊥
IsNamed (Some badge) = Unit {0}

-- the order of a text of a connection with this badge or none
abbrev pub IsOfText : Option Badge → Order → Type 0
IsOfText badge (orders.Hall cmd) = IsAsked cmd
IsOfText badge (orders.Room id cmd) = IsNamed badge

refused_asked : (badge : Badge) (why : Option BadWhy) (id : List ℕ) (cmd : Command) → IsOfText (Some badge) (unless_refused why id cmd)
refused_asked badge None id cmd = tt
refused_asked badge (Some why) id cmd = tt

command_asked : (badge : Option Badge) (r : Record) (room : List ℕ) (read : Result Parsed CommandFault) → IfOk read IsSent → IsOfText badge (by_command badge r room read)
command_asked badge r room (Err fault) h = tt
command_asked badge r room (Ok (Hall cmd)) h = h
command_asked None r room (Ok (Room cmd)) h = tt
command_asked (Some badge) r room (Ok (Room cmd)) h = refused_asked badge (room_refusal (Some badge) r (room_named room cmd)) (room_named room cmd) cmd

client_asked : (badge : Option Badge) (r : Record) (read : Result (List ℕ × List ℕ) ClientFault) → IfSome (by_client badge r read) (IsOfText badge)
client_asked badge r (Err client_faults.NoBar) = tt
client_asked badge r (Err other) = tt
client_asked badge r (Ok message) = command_asked badge r message.0 (command message.1) (command_sent message.1)

order_asked : (badge : Option Badge) (r : Record) (text : List ℕ) → IfSome (order_of badge r text) (IsOfText badge)
unfolding order_of
order_asked badge r text = client_asked badge r (client text)

limited_asked : (badge : Option Badge) (full : Bool) (order : Order) → IsOfText badge order → IfOk (limited full order) (IsOfText badge)
limited_asked badge true order h = tt
limited_asked badge false order h = h

within_asked : (r : Record) (o : Option Order) → IfSome o (IsOfText r.badge) → IfOk (within_limit r o) (IsOfText r.badge)
within_asked r None h = tt
within_asked r (Some order) h = limited_asked r.badge (is_full (place_of order) r) order h

pub taken_asked : (r : Record) (text : List ℕ) → IfOk (taken r text) (IsOfText r.badge)
taken_asked r text = within_asked r (order_of r.badge r text) (order_asked r.badge r text)
