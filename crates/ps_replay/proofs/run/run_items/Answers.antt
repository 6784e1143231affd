use Rattle.std.specs.Arc.{arc_value}
use Rattle.replay_state.specs.Setup.{setup_of}
use Rattle.replay_state.proofs.BlockLemmas.{blocks_of}
use Rattle.replay_state.proofs.OneEntryLemmas.{one_entry_each}
use Rattle.replay_state.proofs.PlaceLemmas.{are_histories}
use Rattle.replay_state.proofs.TwoWorldLemmas.{equal_blocks}
use Rattle.replay_state.proofs.WholeHallLemmas.{whole_hall}
use Rattle.replay_read.proofs.ReadLemmas.{read_back}
use Rattle.ps_replay.specs.Outcomes.{symbols_of}
use Rattle.ps_replay.proofs.run.run_items.Goals as goal

pub returns-in-Ok-clause-replayed : goal.returns-in-Ok-clause-replayed
returns-in-Ok-clause-replayed g c = λ _.
    let config = arc_value c.args.config.now in
    let dex = arc_value c.args.dex.now in
    let known = c.requires.known in
    record {
      transcript = record {
        within = c.requires.within;
        items = c.args.items.now;
        script = c.requires.script;
        wrote = c.in-Ok.ensures.wrote;
        blocks = blocks_of (setup_of config dex c.args.items.now) (symbols_of config.groups) c.args.bytes.now c.args.items.now c.requires.script;
        read = read_back (setup_of config dex c.args.items.now) (symbols_of config.groups) c.args.bytes.now c.args.items.now c.requires.script known.rooms known.formats known.few;
      };
      one_entry = λ items script. one_entry_each (setup_of config dex items) (symbols_of config.groups) c.args.bytes.now items known.few script;
      histories = λ items script. are_histories (setup_of config dex items) items known.few;
      hall = λ items script. whole_hall config dex items;
      two_worlds = λ items script. equal_blocks config dex (symbols_of config.groups) c.args.bytes.now items script;
    }
