use Rattle.std.specs.Option.{option_to_list}
use Rattle.replay_state.proofs.KeptLemmas.{kept_new}
use Rattle.replay_state.proofs.short_room.ShortRoom.new.Goals as goal

pub returns : goal.returns
returns c =
    kept_new c.args.opening c.in_ok-opened.opened.state c.in_ok-log.log c.backlog_size.result (option_to_list c.in_ok-opened.opened.first)
    c.in_ok-opened.ensures.state c.backlog_size.ensures c.in_ok-opened.ensures.first c.in_ok-log.ensures.most c.in_ok-log.ensures.lines
