use Rattle.std.proofs.Common.{None, refl}
use Rattle.program_commands.specs.Setups.{IsOption}
use Rattle.program_show.specs.Asked.{show_of}
use Rattle.program_show.specs.Shows.{Tells}
use Rattle.program_show.proofs.ShowLemmas.{tells_whole, written_ends, written_cause, written_shown, no_memory_shown}
use Rattle.program_show.proofs.show.show_whole.Goals as goal

pub returns-in-Err-clause-wrote : goal.returns-in-Err-clause-wrote
returns-in-Err-clause-wrote g c =
    no_memory_shown (Tells c.args.dex.now c.args.config.now None) c.args.words.as_json (g.K.Sink.written c.args.out.now)

pub returns-in-Ok-clause-ends : goal.returns-in-Ok-clause-ends
returns-in-Ok-clause-ends g c = written_ends c.args.config.now None None c.show_sections.result refl c.show_sections.ensures.ends

pub returns-in-Ok-clause-cause : goal.returns-in-Ok-clause-cause
returns-in-Ok-clause-cause g c =
    written_cause (IsOption (show_of c.args.words).options) (g.F.Files.counts c.args.files.now) (g.F.Files.counts c.show_sections.new.files)
    c.show_sections.result c.show_sections.ensures.ends

pub returns-in-Ok-clause-wrote : goal.returns-in-Ok-clause-wrote
returns-in-Ok-clause-wrote g c =
    written_shown (Tells c.args.dex.now c.args.config.now None) c.in-Ok.sections.items c.args.words.as_json
    (g.K.Sink.written c.args.out.now) (g.K.Sink.written c.show_sections.new.out) c.show_sections.result
    (tells_whole c.args.dex.now c.args.config.now c.in-Ok.sections.items c.in-Ok.ensures) c.show_sections.ensures.wrote
