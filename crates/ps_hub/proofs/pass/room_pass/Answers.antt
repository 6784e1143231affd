use Rattle.std.proofs.Common.{ap, ◌∙◌}
use Rattle.ps_histlock.specs.Views.{newcomer}
use Rattle.server_places.specs.declared.site.Site.{Site}
use Rattle.ps_hub.proofs.pass.room_pass.Goals as goal

pub returns : goal.returns
returns c = λ hub name origin.
    let by = c.new-2.ensures.pass.0 in
    record {
      number_is = c.new-2.ensures.same.0;
      id = c.new-2.ensures.same.1;
      pass = (c.args.lock.now.0, by, name, c.new-2.ensures.pass.1 ∙ ap (λ (s : Site). (c.args.lock.now.0, newcomer s by)) origin);
      cursor = c.new-2.ensures.cursor ∙ c.new.ensures;
      kept = c.new-2.ensures.kept;
      at = c.new-2.ensures.at;
    }
