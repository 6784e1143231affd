-- A clean text of a script is clean for a session, too.
use Rattle.std.proofs.Common.{◌≡◌, ◌==◌, ℕ, false, List, [], ◌∷◌, refl}
use Rattle.std.specs.Prelude.{nat_lt}
use Rattle.std.proofs.lemmas.Bool.{or_parts, or_from}
use Rattle.ps_lines.specs.CleanTexts as texts
use Rattle.ps_lines.specs.Commands as commands
use Rattle.replay_script.specs.Cleans as lines
use Rattle.replay_script.specs.Controls as controls

no_control : (text : List ℕ) → controls.has_control text ≡ false → commands.has_control text ≡ false
no_control [] none = refl
no_control (b ∷ text) none =
    let both = or_parts (controls.is_control b) (controls.has_control text) none in
    or_from (nat_lt b 32) (commands.has_control text) (or_parts (nat_lt b 32) (b == 127) both.0).0 (no_control text both.1)

pub clean_text : (text : List ℕ) → lines.IsClean text → texts.IsClean text
clean_text text clean = record { few = clean.few; no_control = no_control text clean.no_control }
