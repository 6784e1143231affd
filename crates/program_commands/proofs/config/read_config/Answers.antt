use Rattle.replay_drill.proofs.PlainLemmas.{plain_formats}
use Rattle.rules_config.proofs.FileLemmas.{of_file}
use Rattle.rules_config.proofs.FitLemmas.{file_fit}
use Rattle.program_commands.proofs.RoomLemmas.{own_rooms}
use Rattle.program_commands.proofs.config.read_config.Goals as goal

pub returns-in-Ok-read-clause-few : goal.returns-in-Ok-read-clause-few
returns-in-Ok-read-clause-few g c = (file_fit c.in-Ok-read.config (of_file _ _ c.in-Ok-read.config c.in-Ok-read.ensures)).few_rooms

pub returns-in-Ok-read-clause-plain : goal.returns-in-Ok-read-clause-plain
returns-in-Ok-read-clause-plain g c = plain_formats c.in-Ok-read.config (of_file _ _ c.in-Ok-read.config c.in-Ok-read.ensures)

pub returns-in-Ok-read-clause-rooms : goal.returns-in-Ok-read-clause-rooms
returns-in-Ok-read-clause-rooms g c = own_rooms c.in-Ok-read.config (of_file _ _ c.in-Ok-read.config c.in-Ok-read.ensures)
