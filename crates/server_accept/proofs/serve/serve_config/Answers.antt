use Rattle.std.proofs.Common.{inl, inr}
use Rattle.program_commands.specs.Words.{options_of}
use Rattle.program_commands.specs.Setups.{HasSetup, IsGood}
use Rattle.program_commands.proofs.SetupLemmas.{files_settle}
use Rattle.server_accept.proofs.ServerLemmas.{door_cause}
use Rattle.server_accept.proofs.serve.serve_config.Goals as goal

pub returns-in-Err-clause-complete : goal.returns-in-Err-clause-complete
returns-in-Err-clause-complete g c = λ good files _.
    files_settle (g.F.Files.contents c.args.files.now) (options_of c.args.words.options) c.args.dex (g.F.Files.counts c.args.files.now) (g.F.Files.counts c.config_or_standard.new.files)
    c.in-Err.status c.requires.stands c.in-Err.ensures.alone c.in-Err.ensures.ended c.in-Err.ensures.cause good files

pub returns-in-Ok-make_hub-clause-cause : goal.returns-in-Ok-make_hub-clause-cause
returns-in-Ok-make_hub-clause-cause g c =
    let setup : HasSetup (g.F.Files.contents c.args.files.now) (options_of c.args.words.options) IsGood = (c.in-Ok.config, c.args.dex, record { dex_is = c.requires.stands; config_is = c.in-Ok.ensures.stands }, tt) in
    door_cause (g.F.Files.contents c.args.files.now) (options_of c.args.words.options) (g.F.Files.counts c.args.files.now) (g.F.Files.counts c.config_or_standard.new.files) c.serve_door.result.status setup c.serve_door.ensures.of

pub returns-in-Err-clause-sessions : goal.returns-in-Err-clause-sessions
returns-in-Err-clause-sessions g c = inl c.new.ensures.items

pub returns-in-Err-make_hub-clause-sessions : goal.returns-in-Err-make_hub-clause-sessions
returns-in-Err-make_hub-clause-sessions g c = inl c.new-in-Err-make_hub.ensures.items

pub returns-in-Ok-make_hub-clause-sessions : goal.returns-in-Ok-make_hub-clause-sessions
returns-in-Ok-make_hub-clause-sessions g c =
    inr (c.in-Ok.config, c.args.dex, record { dex_is = c.requires.stands; config_is = c.in-Ok.ensures.stands }, (c.in-Ok-make_hub.hub, c.in-Ok-make_hub.ensures.0, c.in-Ok-make_hub.ensures.1, c.serve_door.ensures.sessions))
