use Rattle.std.proofs.Common.{[], ◌∷◌, ◌++◌, sym, ap, ◌∙◌, subst, Some}
use Rattle.atomic_table.specs.Table.{opening}
use Rattle.ps_histlock.specs.Views.{newcomer}
use Rattle.ps_histlock.specs.Locks.{IsKept}
use Rattle.ps_histlock.specs.Homes.{home_origin, HomeStands}
use Rattle.ps_histlock.proofs.Steps.{opens}
use Rattle.ps_histlock.proofs.lock.HistLock.new.Goals as goal

pub new-requires-2 : goal.new-requires-2
new-requires-2 g c =
    let home = c.new.result in
    let slots = c.push_reserved.ensures.items ∙ ap (λ l. l ++ Some home ∷ []) c.in_ok-slots.ensures.items in
    subst (λ k. IsKept (home_origin g.K.Kept.origin) (HomeStands g.K.Kept.stands g.K.Kept.signer) g.K.Kept.signer (g.K.Kept.origin k) (opening (0 ∷ []) c.push_reserved.new.self.items (newcomer (g.K.Kept.origin k) 0))) (c.new.ensures.kept ∙ sym c.of-key.ensures)
    (opens (home_origin g.K.Kept.origin) (HomeStands g.K.Kept.stands g.K.Kept.signer) g.K.Kept.signer home _ slots c.new.ensures.stands)
