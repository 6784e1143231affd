use Rattle.program_show.proofs.ShowLemmas.{front_of}
use Rattle.program_show.proofs.show.write_front.Goals as goal

pub returns : goal.returns
returns g c =
    front_of c.args.as_json c.args.sections.now (g.K.Sink.written c.args.out.now) (g.K.Sink.written c.write_page-status.new.out)
    c.write_page-status.result c.write_page-status.ensures.wrote
