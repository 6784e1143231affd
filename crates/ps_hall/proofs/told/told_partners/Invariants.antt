use Rattle.std.proofs.Common.{◌≡◌, ◌++◌, map, drop}
use Rattle.ps_hall.specs.Told.{told_partners}
use Rattle.ps_hall.proofs.told.told_partners.Given as goal

abbrev pub invariant-loop-id : goal.invariant-loop-id
invariant-loop-id l = l.notices.items ++ told_partners l.users.online (map (λ x. x.now) l.asked) (drop l.id-index l.ids) ≡ told_partners l.users.online (map (λ x. x.now) l.asked) l.ids
