use Rattle.std.proofs.Common.{◌≡◌, map, string_bytes, Ok}
use Rattle.ps_outside.specs.Causes.{Rose}
use Rattle.program_commands.specs.Words.{serve_words_in, serves_of}
use Rattle.server_accept.specs.Servers.{SettlesServe}
use Rattle.server_accept.specs.Journals.{AreServed}
use Rattle.server_accept.proofs.ServerLemmas.{serves}
use Rattle.server_accept.proofs.serve.serve.Goals as goal

pub returns-in-Ok-clause-complete : goal.returns-in-Ok-clause-complete
returns-in-Ok-clause-complete g c =
    let is : serve_words_in (map string_bytes c.args.words.now) ≡ Ok (serves_of c.in-Ok.asked) = c.in-Ok.ensures.read in
    serves (λ asked. SettlesServe (g.F.Files.contents c.args.files.now) asked.options (Rose (g.F.Files.counts c.args.files.now).faults (g.F.Files.counts c.serve_files.new.files).faults) (Rose (g.D.Door.faults c.args.door.now) (g.D.Door.faults c.serve_files.new.door)) c.serve_files.result.status)
    (serve_words_in (map string_bytes c.args.words.now)) (serves_of c.in-Ok.asked) is c.serve_files.ensures.complete

pub returns-in-Ok-clause-sessions : goal.returns-in-Ok-clause-sessions
returns-in-Ok-clause-sessions g c =
    let is : serve_words_in (map string_bytes c.args.words.now) ≡ Ok (serves_of c.in-Ok.asked) = c.in-Ok.ensures.read in
    serves (λ asked. AreServed (g.F.Files.contents c.args.files.now) asked.options c.serve_files.result.sessions.items) (serve_words_in (map string_bytes c.args.words.now)) (serves_of c.in-Ok.asked) is c.serve_files.ensures.sessions
