use Rattle.std.proofs.Common.{length, sym, ap, ◌∙◌}
use Rattle.std.proofs.lemmas.List.{length-map}
use Rattle.ps_hub.specs.Hubs.{Hub, name_of}
use Rattle.ps_hub.proofs.LockLemmas.{battle_has_lock}
use Rattle.ps_hub.proofs.hub.Hub.place_of_battle.Goals as goal

pub returns-clause-there : goal.returns-clause-there
returns-clause-there c = battle_has_lock c.args.self.now _ c.args.number (sym (ap (λ (h : Hub). length h.battles) c.self.view_is) ∙ length-map c.self.inside.battles.items name_of ∙ c.self.invariant.4) c.room_of_battle.ensures c.requires.0 c.requires.1
