-- What is stored of an event is shown as the event.
use Rattle.std.proofs.Common.{◌≡◌, ℕ, Bool, true, false, cond, not, ◌&&◌, List, Some, None, refl, sym, ap, ◌∙◌, ◌⊎◌, inl, inr}
use Rattle.ps_dex.specs.declared.item.Tables.{Tables}
use Rattle.ps_event.specs.declared.audience.Audience.{Audience}
use Rattle.ps_event.specs.declared.audience.Audience.TheVariants as audiences
use Rattle.ps_event.specs.declared.event.Event.{Event}
use Rattle.ps_event.specs.declared.event.Event.TheVariants as events
use Rattle.ps_event.specs.declared.side.Side.{Side}
use Rattle.ps_event.specs.declared.side.Side.TheVariants.{P1, P2}
use Rattle.ps_event.specs.Table.{audience_of, is_logged}
use Rattle.ps_view.specs.declared.names.Names.{Names}
use Rattle.ps_view.specs.declared.role.Role.{Role}
use Rattle.ps_view.specs.declared.role.Role.TheVariants.{Outside, Spectator, Player}
use Rattle.ps_view.specs.Roles.{is_player, is_member, has_role, reads_exactly}
use Rattle.ps_view.specs.Lines.{is_request, line_of, row_of}
use Rattle.ps_splitlog.specs.declared.stored.Stored.TheVariants.{Same}
use Rattle.ps_splitlog.specs.Lines.{shown, shown_if, split_line, same_line, stored_by, stored_of_event}
use Rattle.ps_splitlog.specs.Reads.{IsLoggedAs, EventsAreShown, EventsAreLogged}

-- an event is for all, split by a side, or a request to a side
abbrev Kinds : Event → Type 0
Kinds e =
    ((audience_of e ≡ audiences.All) × (is_request e ≡ false))
    ⊎ (((side : Side) × (audience_of e ≡ audiences.Split side) × (is_request e ≡ false))
    ⊎ ((side : Side) × (e ≡ events.Request side)))

kinds : (e : Event) → Kinds e
kinds (events.Player side) = inl (refl, refl)
kinds (events.TeamSize side count) = inl (refl, refl)
kinds events.GameType = inl (refl, refl)
kinds events.Gen = inl (refl, refl)
kinds events.Tier = inl (refl, refl)
kinds (events.Rule clause) = inl (refl, refl)
kinds events.ClearPoke = inl (refl, refl)
kinds (events.Poke side species level) = inl (refl, refl)
kinds events.TeamPreview = inl (refl, refl)
kinds events.Start = inl (refl, refl)
kinds (events.Switch who species level health) = inr (inl (who.side, refl, refl))
kinds (events.Move who mv target still from) = inl (refl, refl)
kinds (events.Cant who reason) = inl (refl, refl)
kinds (events.Damage who health from) = inr (inl (who.side, refl, refl))
kinds (events.Heal who health) = inr (inl (who.side, refl, refl))
kinds (events.Status who status) = inl (refl, refl)
kinds (events.CureStatus who status) = inl (refl, refl)
kinds (events.Boost who stat by) = inl (refl, refl)
kinds (events.Unboost who stat by) = inl (refl, refl)
kinds (events.Crit who) = inl (refl, refl)
kinds (events.Super who) = inl (refl, refl)
kinds (events.Resisted who) = inl (refl, refl)
kinds (events.Immune who) = inl (refl, refl)
kinds (events.Miss who) = inl (refl, refl)
kinds (events.Fail who) = inl (refl, refl)
kinds (events.VolStart who effect mv) = inl (refl, refl)
kinds (events.VolEnd who effect) = inl (refl, refl)
kinds (events.Activate who effect mv) = inl (refl, refl)
kinds (events.MustRecharge who) = inl (refl, refl)
kinds (events.Prepare who mv) = inl (refl, refl)
kinds (events.Transform who target) = inl (refl, refl)
kinds (events.HitCount who hits) = inl (refl, refl)
kinds events.ClearAll = inl (refl, refl)
kinds (events.Faint who) = inl (refl, refl)
kinds events.Upkeep = inl (refl, refl)
kinds (events.Turn turn) = inl (refl, refl)
kinds (events.Forfeit side) = inl (refl, refl)
kinds (events.Win side) = inl (refl, refl)
kinds events.Tie = inl (refl, refl)
kinds (events.Request side) = inr (inr (side, refl))

-- ---- shown

for_all : (conn : ℕ) (role : Role) (logged : Bool) (text : List ℕ) → shown conn role (Same audiences.All logged text) ≡ cond (is_member role && true) (Some text) None
for_all conn Outside logged text = refl
for_all conn (Spectator rank) logged text = refl
for_all conn (Player side rank) logged text = refl

by_side : (conn : ℕ) (role : Role) (side : Side) (logged : Bool) (row : Bool → List ℕ)
    → shown_if conn role (split_line side logged (Some (row (is_player side (Player side 0)))) (Some (row false))) ≡ cond (is_member role && true) (Some (row (is_player side role))) None
by_side conn Outside side logged row = refl
by_side conn (Spectator rank) P1 logged row = refl
by_side conn (Spectator rank) P2 logged row = refl
by_side conn (Player P1 rank) P1 logged row = refl
by_side conn (Player P1 rank) P2 logged row = refl
by_side conn (Player P2 rank) P1 logged row = refl
by_side conn (Player P2 rank) P2 logged row = refl

line_is : (a : Audience) (request : Bool) (role : Role) (names : Names) (dex : Tables) (e : Event) → audience_of e ≡ a → is_request e ≡ request
    → line_of e role names dex ≡ cond (has_role a role && not request) (Some (row_of (reads_exactly a role) names dex e)) None
unfolding line_of
line_is a request role names dex e is asks = rw (is, asks) refl

stored_is : (a : Audience) (names : Names) (dex : Tables) (e : Event) → audience_of e ≡ a → stored_of_event names dex e ≡ stored_by a names dex e
unfolding stored_of_event
stored_is a names dex e is = ap (λ x. stored_by x names dex e) is

of_request : (conn : ℕ) (role : Role) (names : Names) (dex : Tables) (side : Side) → shown_if conn role (stored_of_event names dex (events.Request side)) ≡ line_of (events.Request side) role names dex
unfolding stored_of_event line_of
of_request conn Outside names dex P1 = refl
of_request conn Outside names dex P2 = refl
of_request conn (Spectator rank) names dex P1 = refl
of_request conn (Spectator rank) names dex P2 = refl
of_request conn (Player P1 rank) names dex P1 = refl
of_request conn (Player P1 rank) names dex P2 = refl
of_request conn (Player P2 rank) names dex P1 = refl
of_request conn (Player P2 rank) names dex P2 = refl

stored_for_all : (names : Names) (dex : Tables) (e : Event) → audience_of e ≡ audiences.All → is_request e ≡ false → stored_of_event names dex e ≡ Some (Same audiences.All (is_logged e) (row_of false names dex e))
stored_for_all names dex e is asks = stored_is audiences.All names dex e is ∙ ap (same_line audiences.All (is_logged e)) (line_is audiences.All false (Spectator 0) names dex e is asks)

own_line : (names : Names) (dex : Tables) (e : Event) (side : Side) → audience_of e ≡ audiences.Split side → is_request e ≡ false → line_of e (Player side 0) names dex ≡ Some (row_of (is_player side (Player side 0)) names dex e)
own_line names dex e side is asks = line_is (audiences.Split side) false (Player side 0) names dex e is asks

stored_for_side : (names : Names) (dex : Tables) (e : Event) (side : Side) → audience_of e ≡ audiences.Split side → is_request e ≡ false
    → stored_of_event names dex e ≡ split_line side (is_logged e) (Some (row_of (is_player side (Player side 0)) names dex e)) (Some (row_of false names dex e))
stored_for_side names dex e side is asks =
    stored_is (audiences.Split side) names dex e is
    ∙ ap (λ line. split_line side (is_logged e) line (line_of e (Spectator 0) names dex)) (own_line names dex e side is asks)
    ∙ ap (split_line side (is_logged e) (Some (row_of (is_player side (Player side 0)) names dex e))) (line_is (audiences.Split side) false (Spectator 0) names dex e is asks)

shown_by : (conn : ℕ) (role : Role) (names : Names) (dex : Tables) (e : Event) → Kinds e → shown_if conn role (stored_of_event names dex e) ≡ line_of e role names dex
shown_by conn role names dex e (inl k) =
    ap (shown_if conn role) (stored_for_all names dex e k.0 k.1)
    ∙ for_all conn role (is_logged e) (row_of false names dex e)
    ∙ sym (line_is audiences.All false role names dex e k.0 k.1)
shown_by conn role names dex e (inr (inl k)) =
    ap (shown_if conn role) (stored_for_side names dex e k.0 k.1 k.2)
    ∙ by_side conn role k.0 (is_logged e) (λ exact. row_of exact names dex e)
    ∙ sym (line_is (audiences.Split k.0) false role names dex e k.1 k.2)
shown_by conn role names dex e (inr (inr k)) = rw k.1 (of_request conn role names dex k.0)

pub events_are_shown : EventsAreShown
events_are_shown conn role names dex e = shown_by conn role names dex e (kinds e)

-- ---- logged

none_for_request : (names : Names) (dex : Tables) (side : Side) → stored_of_event names dex (events.Request side) ≡ None
unfolding stored_of_event line_of
none_for_request names dex P1 = refl
none_for_request names dex P2 = refl

logged_by : (names : Names) (dex : Tables) (e : Event) → Kinds e → IsLoggedAs e (stored_of_event names dex e)
logged_by names dex e (inl k) = rw (stored_for_all names dex e k.0 k.1) refl
logged_by names dex e (inr (inl k)) = rw (stored_for_side names dex e k.0 k.1 k.2) refl
logged_by names dex e (inr (inr k)) = rw (ap (stored_of_event names dex) k.1 ∙ none_for_request names dex k.0, k.1) refl

pub events_are_logged : EventsAreLogged
events_are_logged names dex e = logged_by names dex e (kinds e)
