-- Effects that copy something of the foe, or use another move: what each answers, and what it does.
use Rattle.std.specs.Prelude.{ℕ, Option, None}
use Rattle.ps_mon.specs.declared.effect.CopyKind.{CopyKind}
use Rattle.ps_mon.specs.declared.effect.CopyKind.TheVariants as kinds
use Rattle.ps_mon.specs.Facts.{Figures}
use Rattle.ps_hits.specs.Courses.{Course, played}
use Rattle.ps_copy.specs.Answers.{answer_of}
use Rattle.ps_copy.specs.Calling.{metronome_row, mirrormove_row}
use Rattle.ps_copy.specs.Learning.{mimic_effect, transform_effect, conversion_row}
use Rattle.ps_copy.specs.Disabling.{disable_effect}

-- the move that is used in the place of the move `mv`, of that kind, where side `user` uses it
unfoldable pub called : CopyKind → Figures → ℕ → ℕ → Course → Option ℕ
called kinds.Metronome facts mv user course = answer_of (metronome_row facts) user course
called kinds.MirrorMove facts mv user course = answer_of (mirrormove_row facts) user course
called other facts mv user course = None

-- what the move `mv`, of that kind, does where side `user` uses it by a slot, but for the move in its place
unfoldable pub copied : CopyKind → Figures → ℕ → ℕ → ℕ → Course → Course
copied kinds.Mimic facts mv slot user course = mimic_effect facts mv slot user course
copied kinds.Transform facts mv slot user course = transform_effect user course
copied kinds.Metronome facts mv slot user course = played (metronome_row facts) user course
copied kinds.MirrorMove facts mv slot user course = played (mirrormove_row facts) user course
copied kinds.Conversion facts mv slot user course = played conversion_row user course
copied kinds.Disable facts mv slot user course = disable_effect facts mv user course
