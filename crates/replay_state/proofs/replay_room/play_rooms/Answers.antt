use Rattle.std.proofs.Common.{◌++◌, string_bytes, List, ℕ, arith, Some, ap, sym, ◌∙◌}
use Rattle.std.proofs.lemmas.List.{append-nil}
use Rattle.ps_room.specs.declared.outcome.RoomOut.{RoomOut}
use Rattle.replay_state.proofs.PlayLemmas.{no_room_text, no_room_out, no_room_set, room_text, room_set, room_out}
use Rattle.replay_state.proofs.replay_room.play_rooms.Goals as goal

pub returns-then-place-rooms-clause-state : goal.returns-then-place-rooms-clause-state
returns-then-place-rooms-clause-state c = no_room_set c.args.rooms.now c.args.place c.args.entry.now c.if-place-rooms.true

pub returns-then-place-rooms-clause-text : goal.returns-then-place-rooms-clause-text
returns-then-place-rooms-clause-text c =
    sym (ap (λ (x : List ℕ). string_bytes c.args.out.now ++ x) (no_room_text c.args.rooms.now c.args.place c.args.entry.now c.args.count c.if-place-rooms.true) ∙ append-nil (string_bytes c.args.out.now))

pub returns-then-place-rooms-clause-out : goal.returns-then-place-rooms-clause-out
returns-then-place-rooms-clause-out c = no_room_out c.args.rooms.now c.args.place c.args.entry.now c.if-place-rooms.true

pub returns-clause-state : goal.returns-clause-state
returns-clause-state c = room_set c.args.rooms.now c.args.place c.index-rooms-place.result c.play_entry.new.room c.args.entry.now (omega arith) c.in_ok-made.ensures.state

pub returns-clause-text : goal.returns-clause-text
returns-clause-text c =
    c.in_ok-made.ensures.text ∙ ap (λ (x : List ℕ). string_bytes c.args.out.now ++ x) (room_text c.args.rooms.now c.args.place c.index-rooms-place.result c.args.entry.now c.args.count (omega arith))

pub returns-clause-out : goal.returns-clause-out
returns-clause-out c =
    ap (λ (o : RoomOut). Some o) c.in_ok-made.ensures.out ∙ room_out c.args.rooms.now c.args.place c.index-rooms-place.result c.args.entry.now (omega arith)
