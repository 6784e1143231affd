-- The order of places is a total one: for the code alone.
use Rattle.std.specs.Cmp.{IsTotalOrder}
use Rattle.std.proofs.lemmas.Cmp.{then_total, back_total, on_total, int_cmp_total, nat_list_cmp_total}
use Rattle.ps_keep.specs.Standings.{place_cmp}

pub place_cmp_total : IsTotalOrder place_cmp
place_cmp_total = then_total (back_total (on_total (λ place. place.rating) int_cmp_total))
    (on_total (λ place. place.user) nat_list_cmp_total)
