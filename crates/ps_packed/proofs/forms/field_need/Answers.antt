use Rattle.std.proofs.Common.{◌≡◌, true, subst}
use Rattle.ps_packed.specs.Fields.{field_index}
use Rattle.ps_packed.specs.Forms.{form_of}
use Rattle.ps_packed.specs.Scan.{prefix_ok}
use Rattle.ps_packed.specs.declared.field.Field.{Field}
use Rattle.ps_packed.proofs.LevelLaws.{level_short}
use Rattle.ps_packed.proofs.forms.field_need.Goals as goal

pub level_need-requires : goal.level_need-requires
level_need-requires c = level_short c.args.word.now (subst (λ (f : Field). prefix_ok (form_of (field_index f)) c.args.word.now ≡ true) c.in-Level.is c.requires)
