-- What hearing a text promises, by its answer.
use Rattle.std.proofs.Common.{◌≡◌, ℕ, List, length, IfNone, IfSome, Option, Some, None, Ok, refl, inl}
use Rattle.ps_lines.specs.declared.order.Order.{Order}
use Rattle.ps_outside.specs.Clocks.{IsNow, after_now}
use Rattle.ps_session.specs.Sessions.{Record, counted}
use Rattle.ps_session.specs.Routes.{taken, place_of, IsTakeFault}
use Rattle.ps_hub.specs.Hubs.{Hub}
use Rattle.ps_hub.specs.Passes.{AreOf}
use Rattle.ps_hub.specs.declared.passes.Passes.{Passes}
use Rattle.ps_session.specs.declared.session.TakeFault.{TakeFault}
use Rattle.ps_session.specs.declared.session.TakeFault.TheVariants as take_faults
use Rattle.ps_serve.specs.Acts.{Act}
use Rattle.ps_serve.specs.Sendings.{Sending}
use Rattle.ps_serve.specs.Sittings.{Sits}
use Rattle.ps_serve.specs.Steps.{Hours, Hears, Stops}
use Rattle.ps_serve.specs.Obeys.{Obeys}
use Rattle.ps_serve.proofs.OrderLemmas.{taken_needs}
use Rattle.ps_serve.proofs.Obeyed.{heard_of}
use Rattle.ps_serve.proofs.Stopped.{short_at_once, stopped_of}

module _ (hub : Hub) (r : Record) (old : Passes) (bytes : List ℕ) (hours now : Hours) (moment : ℕ) (order : Order) (after : Record) (new : Passes) where
  pub heard_by : (stop : Option TakeFault) → taken r bytes ≡ Ok order → old.badge ≡ r.badge → IsNow hours moment → now ≡ after_now hours → AreOf hub new → Obeys hub order moment (counted (place_of order) r) old stop after new
      → IfNone stop ((conn open_at : ℕ) (acts : List Act) (ss : List Sending) → Sits hub conn open_at acts (length acts) ss r old → Hears hub conn open_at acts ss bytes hours now after new)
  heard_by None take badge told later are o = λ conn open_at acts ss s. heard_of hub conn open_at acts ss r old s bytes moment after new are hours now told later order take (taken_needs r bytes order old take badge) o
  heard_by (Some stop) take badge told later are o = tt

  pub stopped_by : (stop : Option TakeFault) → taken r bytes ≡ Ok order → old.badge ≡ r.badge → IsNow hours moment → now ≡ after_now hours → AreOf hub new → Obeys hub order moment (counted (place_of order) r) old stop after new
      → IfSome stop (λ x. (conn open_at : ℕ) (acts : List Act) (ss : List Sending) → Sits hub conn open_at acts (length acts) ss r old → Stops x hub conn open_at acts ss bytes r old hours now new)
  stopped_by None take badge told later are o = tt
  stopped_by (Some stop) take badge told later are o = λ conn open_at acts ss s. stopped_of hub conn open_at acts ss r old s bytes hours now moment told later new are after stop order take (taken_needs r bytes order old take badge) o

-- bytes that are no order end the session at once
pub refused_by : (hub : Hub) (r : Record) (old : Passes) (bytes : List ℕ) (hours : Hours) (fault : TakeFault) → IsTakeFault fault (taken r bytes) → AreOf hub old
    → (conn open_at : ℕ) (acts : List Act) (ss : List Sending) → Sits hub conn open_at acts (length acts) ss r old → Stops fault hub conn open_at acts ss bytes r old hours hours old
refused_by hub r old bytes hours take_faults.BadText is are = λ conn open_at acts ss s. (is, refl, refl)
refused_by hub r old bytes hours (take_faults.Limit room) is are = λ conn open_at acts ss s. inl (is, refl, refl)
refused_by hub r old bytes hours take_faults.NoMemory is are = λ conn open_at acts ss s. short_at_once hub conn open_at acts ss r old s bytes hours hours refl are
