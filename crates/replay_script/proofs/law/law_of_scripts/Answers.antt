use Rattle.replay_script.proofs.OneScript as laws
use Rattle.replay_script.proofs.law.law_of_scripts.Goals as goal

pub returns : goal.returns
returns c = laws.law_of_scripts
