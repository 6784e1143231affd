use Rattle.std.proofs.Common.{◌≡◌, ◌≢◌, ℕ, List, length, Some, refl, sym, ap, ◌∙◌, arith, rules, below_more}
use Rattle.std.specs.Prelude.{slice_get}
use Rattle.std.proofs.lemmas.Option.{slice_get_read}
use Rattle.rules_config.specs.declared.settings.ChatRoom.{ChatRoom}
use Rattle.ps_hub.specs.Names.{IsChatId}
use Rattle.ps_hub.proofs.NameLemmas.{first_chat, other_room, no_chat_room}
use Rattle.ps_hub.proofs.name.chat_named.Goals as goal

pub returns-then-eq-clause-found : goal.returns-then-eq-clause-found
returns-then-eq-clause-found c =
    let room : ChatRoom = c.index-rooms-number.result in
    let there : slice_get c.rooms-rooms.result.now c.loop-number.number ≡ Some room = slice_get_read c.rooms-rooms.result.now (length c.rooms-rooms.result.now) c.loop-number.number room refl (omega arith) c.index-rooms-number.is in
    let same : room.id ≡ c.args.id.now = search rules in
    first_chat c.args.config.now c.args.id.now c.loop-number.number room (ap (λ (l : List ChatRoom). slice_get l c.loop-number.number) (sym c.rooms-rooms.ensures.value) ∙ there) same c.loop-number.invariant

pub loop-number-preserved : goal.loop-number-preserved
loop-number-preserved c =
    let room : ChatRoom = c.index-rooms-number.result in
    let there : slice_get c.rooms-rooms.result.now c.loop-number.number ≡ Some room = slice_get_read c.rooms-rooms.result.now (length c.rooms-rooms.result.now) c.loop-number.number room refl (omega arith) c.index-rooms-number.is in
    let other : room.id ≢ c.args.id.now = search rules in
    below_more (λ (k : ℕ). IsChatId c.args.config.now c.args.id.now k → ⊥) c.loop-number.number c.loop-number.invariant
    (other_room c.args.config.now c.args.id.now c.loop-number.number room (ap (λ (l : List ChatRoom). slice_get l c.loop-number.number) (sym c.rooms-rooms.ensures.value) ∙ there) other)

pub returns-clause-none : goal.returns-clause-none
returns-clause-none c =
    let rooms : length c.args.config.now.rooms ≡ length c.rooms-rooms.result.now = ap length (sym c.rooms-rooms.ensures.value) in
    no_chat_room c.args.config.now c.args.id.now c.loop-number.number (omega arith) c.loop-number.invariant
