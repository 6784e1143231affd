use Rattle.std.proofs.Common.{◌≡◌, ◌∙◌, [], sym, ap, subst, Option, None}
use Rattle.battle_rounds.specs.Fights.{Fight}
use Rattle.ps_room.specs.Logs.{Seen, record_in, join_if, given, out_of, Goes, MakesNone}
use Rattle.ps_room.specs.Rooms.{verdict, sender_of, is_join, IsDecided, CanDecideIn}
use Rattle.ps_room.proofs.ChangeLemmas.{room_with, can_decide, given_by_parts, out_by_parts, goes_by_parts, none_by_parts}
use Rattle.ps_room.proofs.state.RoomState.prepare_allowed.Goals as goal

pub prepared_by-requires : goal.prepared_by-requires
prepared_by-requires c =
    let here : Seen = room_with c.self.inside.no c.self.inside.id c.self.inside.chat c.self.inside.battle [] in
    let is : IsDecided here.battle (sender_of (record_in here) c.args.entry.now) c.args.entry.now.cmd c.args.decision =
    subst (λ (s : Seen). IsDecided s.battle (sender_of (record_in s) c.args.entry.now) c.args.entry.now.cmd c.args.decision) (sym c.self.view_is) c.requires.decided in
    subst (λ (b : Option Fight). CanDecideIn b c.args.decision) (sym c.as_ref.ensures.value) (can_decide here.battle (sender_of (record_in here) c.args.entry.now) c.args.entry.now.cmd c.args.decision is)

pub returns-clause-out : goal.returns-clause-out
returns-clause-out c =
    let here : Seen = room_with c.self.inside.no c.self.inside.id c.self.inside.chat c.self.inside.battle [] in
    let allowed : verdict (record_in here) c.args.entry.now ≡ None = ap (λ (s : Seen). verdict (record_in s) c.args.entry.now) c.self.view_is ∙ c.requires.allowed in
    let is : IsDecided here.battle (sender_of (record_in here) c.args.entry.now) c.args.entry.now.cmd c.args.decision =
    subst (λ (s : Seen). IsDecided s.battle (sender_of (record_in s) c.args.entry.now) c.args.entry.now.cmd c.args.decision) (sym c.self.view_is) c.requires.decided in
    c.in_ok-prepared.ensures.out
    ∙ out_by_parts here c.args.entry.now _ c.args.decision allowed c.as_ref.ensures.value is
    ∙ ap (λ (s : Seen). out_of (record_in s) c.args.entry.now) c.self.view_is

pub returns-clause-log_entry : goal.returns-clause-log_entry
returns-clause-log_entry c =
    let here : Seen = room_with c.self.inside.no c.self.inside.id c.self.inside.chat c.self.inside.battle [] in
    let allowed : verdict (record_in here) c.args.entry.now ≡ None = ap (λ (s : Seen). verdict (record_in s) c.args.entry.now) c.self.view_is ∙ c.requires.allowed in
    let is : IsDecided here.battle (sender_of (record_in here) c.args.entry.now) c.args.entry.now.cmd c.args.decision =
    subst (λ (s : Seen). IsDecided s.battle (sender_of (record_in s) c.args.entry.now) c.args.entry.now.cmd c.args.decision) (sym c.self.view_is) c.requires.decided in
    let join : c.in_ok-join.join ≡ join_if (is_join c.args.entry.now.cmd) (record_in here) c.args.entry.now =
    c.in_ok-join.ensures ∙ ap (λ (s : Seen). join_if (is_join c.args.entry.now.cmd) (record_in s) c.args.entry.now) (sym c.self.view_is) in
    c.in_ok-prepared.ensures.log_entry
    ∙ given_by_parts here c.args.entry.now _ c.args.decision _ _ allowed c.as_ref.ensures.value is c.in_ok-lines.ensures join
    ∙ ap (λ (s : Seen). given (record_in s) c.args.entry.now) c.self.view_is

pub returns-clause-goes : goal.returns-clause-goes
returns-clause-goes c =
    let here : Seen = room_with c.self.inside.no c.self.inside.id c.self.inside.chat c.self.inside.battle [] in
    let is : IsDecided here.battle (sender_of (record_in here) c.args.entry.now) c.args.entry.now.cmd c.args.decision =
    subst (λ (s : Seen). IsDecided s.battle (sender_of (record_in s) c.args.entry.now) c.args.entry.now.cmd c.args.decision) (sym c.self.view_is) c.requires.decided in
    subst (λ (s : Seen). Goes s c.args.entry.now c.in_ok-prepared.prepared.bout) c.self.view_is
    (goes_by_parts here c.args.entry.now _ c.args.decision _ c.as_ref.ensures.value is c.in_ok-prepared.ensures.after c.in_ok-prepared.ensures.bout)

pub returns-clause-none : goal.returns-clause-none
returns-clause-none c =
    let here : Seen = room_with c.self.inside.no c.self.inside.id c.self.inside.chat c.self.inside.battle [] in
    let allowed : verdict (record_in here) c.args.entry.now ≡ None = ap (λ (s : Seen). verdict (record_in s) c.args.entry.now) c.self.view_is ∙ c.requires.allowed in
    subst (λ (s : Seen). MakesNone s c.args.entry.now c.in_ok-prepared.prepared.bout) c.self.view_is
    (none_by_parts here c.args.entry.now _ _ allowed c.as_ref.ensures.value c.in_ok-prepared.ensures.idle)
