use Rattle.std.proofs.Common.{◌++◌, true, codes, string_bytes}
use Rattle.json.specs.Print.{escape_byte}
use Rattle.serde_json.specs.Data.{boolean}
use Rattle.serde_json.specs.Written.{compact_text, members_text}
use Rattle.ps_choice.specs.Shown.{condition, details, nick_of, ident}
use Rattle.ps_choice.specs.Requests.{text, member_data, later_member, moves_and_stats}
use Rattle.ps_choice.proofs.RequestLemmas.{then}
use Rattle.ps_choice.proofs.request.write_known_member.Goals as goal

pub returns : goal.returns
unfolding escape_byte member_data
returns c =
    let m = c.args.m.now in
    let start = string_bytes c.args.line.now in
    let one = string_bytes c.push_flag.new.line in
    let two = string_bytes c.write_condition.new.line in
    let three = string_bytes c.write_details.new.line in
    let four = string_bytes c.write_ident.new.line in
    let all = string_bytes c.write_moves_and_stats.new.line in
    let active = codes "{\"active\":" ++ compact_text (boolean c.args.active) in
    let health = later_member (codes "condition") (text (condition m)) in
    let species = later_member (codes "details") (text (details c.args.dex.now.species m)) in
    let name = later_member (codes "ident") (text (ident c.args.number (nick_of c.args.nicks.now c.args.index))) in
    let end = members_text true (moves_and_stats c.args.dex.now.moves m) in
    then start one all active (health ++ (species ++ (name ++ end))) c.in_ok-push_flag.ensures
    (then one two all health (species ++ (name ++ end)) c.in_ok-write_condition.ensures
    (then two three all species (name ++ end) c.in_ok-write_details.ensures
    (then three four all name end c.in_ok-write_ident.ensures
    c.in_ok-write_moves_and_stats.ensures)))
