use Rattle.std.proofs.Common.{List, ℕ, ◌++◌, codes, decimal, false, true, ap, ◌∙◌, string_bytes}
use Rattle.json.specs.Print.{escape_byte}
use Rattle.serde_json.specs.View.{items_of}
use Rattle.serde_json.specs.Written.{items_text}
use Rattle.ps_choice.specs.Requests.{moves_data, side_data, later_member}
use Rattle.ps_choice.proofs.RequestLemmas.{then, then_closed, regrouped}
use Rattle.ps_choice.proofs.request.write_turn.Goals as goal

pub returns : goal.returns
unfolding escape_byte
returns c =
    let start = string_bytes c.args.line.now in
    let one = string_bytes c.push_piece.new.line in
    let two = string_bytes c.write_moves.new.line in
    let three = string_bytes c.write_round.new.line in
    let all = string_bytes c.push_piece-2.new.line in
    let moves = items_text false (items_of (moves_data c.args.dex.now.moves c.args.side.now)) in
    let side = later_member (codes "side") (side_data c.args.dex.now c.args.names.player.now c.args.names.nicks.now c.args.number true c.args.side.now) in
    let behind = codes "}],\"rqid\":" ++ (decimal c.args.round ++ (side ++ codes "}")) in
    then start one all (codes "{\"active\":[{\"moves\":[") (moves ++ behind) c.in_ok-push_piece.ensures
    (then one two all moves behind c.in_ok-write_moves.ensures
    (then_closed two three all (codes "}],\"rqid\":") (decimal c.args.round) side (codes "}") c.in_ok-write_round.ensures c.in_ok-push_piece-2.ensures))
    ∙ ap (λ (x : List ℕ). start ++ (codes "{\"active\":[{\"moves\":[" ++ x))
    (regrouped moves (codes "}") (codes "]") (codes ",\"rqid\":" ++ (decimal c.args.round ++ (side ++ codes "}"))))
