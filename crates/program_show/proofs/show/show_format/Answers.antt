use Rattle.std.proofs.Common.{Some}
use Rattle.program_commands.specs.Setups.{IsOption}
use Rattle.program_show.specs.Asked.{show_of}
use Rattle.program_show.specs.Shows.{Tells}
use Rattle.program_show.proofs.ShowLemmas.{tells_format, written_ends, written_cause, written_shown, no_memory_shown}
use Rattle.program_show.proofs.ShowLemmas.{unknown_ends, unknown_cause, unknown_shown, unknown_fault}
use Rattle.program_show.proofs.show.show_format.Goals as goal

pub returns-in-Err-clause-ends : goal.returns-in-Err-clause-ends
returns-in-Err-clause-ends g c = unknown_ends c.args.config.now (Some c.args.name.now) c.in-Err.status c.in-Err.ensures.ended

pub returns-in-Err-clause-cause : goal.returns-in-Err-clause-cause
returns-in-Err-clause-cause g c =
    unknown_cause (IsOption (show_of c.args.words).options) (g.F.Files.counts c.args.files.now) (g.F.Files.counts c.args.files.now)
    c.in-Err.status c.in-Err.ensures.cause

pub returns-in-Err-clause-wrote : goal.returns-in-Err-clause-wrote
returns-in-Err-clause-wrote g c =
    unknown_shown (Tells c.args.dex.now c.args.config.now (Some c.args.name.now)) c.args.words.as_json
    (g.K.Sink.written c.args.out.now) c.in-Err.status c.in-Err.ensures.cause

pub returns-in-Err-clause-write_fault : goal.returns-in-Err-clause-write_fault
returns-in-Err-clause-write_fault g c =
    unknown_fault (g.K.Sink.faults c.args.out.now) (g.K.Sink.faults c.args.out.now) c.in-Err.status c.in-Err.ensures.cause

pub returns-in-Err-format_summary-clause-wrote : goal.returns-in-Err-format_summary-clause-wrote
returns-in-Err-format_summary-clause-wrote g c =
    no_memory_shown (Tells c.args.dex.now c.args.config.now (Some c.args.name.now)) c.args.words.as_json (g.K.Sink.written c.args.out.now)

pub returns-in-Ok-format_summary-clause-ends : goal.returns-in-Ok-format_summary-clause-ends
returns-in-Ok-format_summary-clause-ends g c =
    written_ends c.args.config.now (Some c.args.name.now) (Some c.in-Ok.format.now) c.show_sections.result
    c.in-Ok.ensures.value c.show_sections.ensures.ends

pub returns-in-Ok-format_summary-clause-cause : goal.returns-in-Ok-format_summary-clause-cause
returns-in-Ok-format_summary-clause-cause g c =
    written_cause (IsOption (show_of c.args.words).options) (g.F.Files.counts c.args.files.now) (g.F.Files.counts c.show_sections.new.files)
    c.show_sections.result c.show_sections.ensures.ends

pub returns-in-Ok-format_summary-clause-wrote : goal.returns-in-Ok-format_summary-clause-wrote
returns-in-Ok-format_summary-clause-wrote g c =
    written_shown (Tells c.args.dex.now c.args.config.now (Some c.args.name.now)) c.in-Ok-format_summary.sections.items c.args.words.as_json
    (g.K.Sink.written c.args.out.now) (g.K.Sink.written c.show_sections.new.out) c.show_sections.result
    (tells_format c.args.dex.now c.args.config.now c.args.name.now c.in-Ok.format.now c.in-Ok-format_summary.sections.items
    c.in-Ok.ensures.value c.in-Ok-format_summary.ensures)
    c.show_sections.ensures.wrote
