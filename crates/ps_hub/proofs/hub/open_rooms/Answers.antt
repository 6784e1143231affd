use Rattle.std.proofs.Common.{◌≡◌, ◌++◌, ◌∷◌, [], length, Some, slice_get, sym, ap, ◌∙◌}
use Rattle.std.proofs.lemmas.Option.{none-some, same_Some}
use Rattle.ps_histlock.specs.Seated.{TableId}
use Rattle.server_places.specs.declared.site.Site.{Site}
use Rattle.ps_hub.proofs.LockLemmas.{openers_of, openers_left, lock_of_last}
use Rattle.ps_hub.proofs.hub.open_rooms.Goals as goal

pub loop-opener-init : goal.loop-opener-init
loop-opener-init c = openers_of c.args.locks.now c.args.openers.items c.requires

-- the lock of the opener that was taken stands at the index that is left
pub unreachable-requires : goal.unreachable-requires
unreachable-requires c =
    let left : c.loop-opener.openers.items ≡ c.pop.new.self.items ++ c.in-Some.opener ∷ [] = c.in-Some.ensures.items in
    let found = lock_of_last c.args.locks.now c.loop-opener.openers.items c.pop.new.self.items c.in-Some.opener left c.loop-opener.invariant in
    let at : c.len.result ≡ length c.pop.new.self.items = c.len.ensures ∙ c.pop.new.self.ok.0 in
    none-some found.0 (sym c.in-None.ensures.none ∙ ap (λ i. slice_get c.args.locks.now i) at ∙ found.1)

pub open-requires : goal.open-requires
open-requires c =
    let left : c.loop-opener.openers.items ≡ c.pop.new.self.items ++ c.in-Some.opener ∷ [] = c.in-Some.ensures.items in
    let found = lock_of_last c.args.locks.now c.loop-opener.openers.items c.pop.new.self.items c.in-Some.opener left c.loop-opener.invariant in
    let at : c.len.result ≡ length c.pop.new.self.items = c.len.ensures ∙ c.pop.new.self.ok.0 in
    let here : slice_get c.args.locks.now c.len.result ≡ Some c.in-Some-lock_at.lock.now = c.in-Some-lock_at.ensures.found in
    let same : found.0 ≡ c.in-Some-lock_at.lock.now = same_Some found.0 c.in-Some-lock_at.lock.now (sym found.1 ∙ ap (λ i. slice_get c.args.locks.now i) (sym at) ∙ here) in
    found.2 ∙ ap (λ (l : TableId × Site). l.0) same

pub loop-opener-preserved : goal.loop-opener-preserved
loop-opener-preserved c =
    openers_left c.args.locks.now c.loop-opener.openers.items c.pop.new.self.items c.in-Some.opener c.in-Some.ensures.items c.loop-opener.invariant
