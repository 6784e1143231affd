use Rattle.std.proofs.Common.{◌≡◌, ◌∙◌, [], ap, sym, subst, map, None, Option}
use Rattle.ps_chat.specs.Steps.{Seen as ChatSeen}
use Rattle.ps_chat.specs.Lookups.{member}
use Rattle.ps_chat.specs.Rooms.{presents}
use Rattle.battle_rounds.specs.Fights.{Fight}
use Rattle.ps_room.specs.Records.{cast_in}
use Rattle.ps_room.specs.Rooms.{verdict, battle_after}
use Rattle.ps_room.specs.Logs.{Seen, record_in, state_after, kept_of, change_in, changed_conn, touched_by, Goes}
use Rattle.ps_room.proofs.AnswerLemmas.{chat_allows}
use Rattle.ps_room.proofs.ChangeLemmas.{room_with, state_applied, roles_applied}
use Rattle.ps_room.proofs.state.RoomState.keep_applied.Goals as goal

pub set_bout-requires : goal.set_bout-requires
set_bout-requires c =
    let here : Seen = room_with c.self.inside.no c.self.inside.id c.self.inside.chat c.self.inside.battle [] in
    let goes : Goes here c.args.entry.now c.args.bout = subst (λ (s : Seen). Goes s c.args.entry.now c.args.bout) (sym c.self.view_is) c.requires.goes in
    goes.bout (ap (λ (s : Seen). verdict (record_in s) c.args.entry.now) c.self.view_is ∙ c.requires.allowed)

pub change-requires : goal.change-requires
change-requires c =
    let here : Seen = room_with c.self.inside.no c.self.inside.id c.self.inside.chat c.self.inside.battle [] in
    chat_allows (record_in here) c.args.entry.now (ap (λ (s : Seen). verdict (record_in s) c.args.entry.now) c.self.view_is ∙ c.requires.allowed)

pub returns-clause-ok : goal.returns-clause-ok
returns-clause-ok c =
    let next : Option Fight = c.set_bout.new.battle in
    let here : Seen = room_with c.self.inside.no c.self.inside.id c.self.inside.chat c.self.inside.battle [] in
    let allowed : verdict (record_in here) c.args.entry.now ≡ None = ap (λ (s : Seen). verdict (record_in s) c.args.entry.now) c.self.view_is ∙ c.requires.allowed in
    let goes : Goes here c.args.entry.now c.args.bout = subst (λ (s : Seen). Goes s c.args.entry.now c.args.bout) (sym c.self.view_is) c.requires.goes in
    let went : next ≡ battle_after c.self.inside.battle (member c.args.entry.now.conn (presents c.self.inside.chat.opening c.self.inside.chat.state)) c.args.entry.now.cmd =
    c.set_bout.ensures ∙ goes.after allowed in
    state_applied c.self.inside.no c.self.inside.id c.self.inside.chat c.change.new.self c.self.inside.battle next c.args.entry.now allowed c.in_ok-change.ensures.ok went
    ∙ ap (λ (s : Seen). state_after s c.args.entry.now) c.self.view_is

pub returns-clause-roles : goal.returns-clause-roles
returns-clause-roles c =
    let new : ChatSeen = c.change.new.self in
    let next : Option Fight = c.set_bout.new.battle in
    let changes : c.from_vec.result ≡ map (λ x. change_in (cast_in next) new.opening new.state (changed_conn x)) c.in_ok-changes.changes.items =
    c.from_vec.ensures ∙ c.set_all_roles.ensures ∙ ap (λ cast. map (λ x. change_in cast new.opening new.state (changed_conn x)) c.in_ok-changes.changes.items) (c.cast_in.ensures ∙ ap cast_in c.as_ref.ensures.value) in
    let touch : map changed_conn c.in_ok-changes.changes.items ≡ touched_by c.args.entry.now.cmd (presents c.self.inside.chat.opening c.self.inside.chat.state) c.args.entry.now.conn =
    c.in_ok-changes.ensures ∙ ap (λ ps. touched_by c.args.entry.now.cmd ps c.args.entry.now.conn) c.members.ensures in
    let here : Seen = room_with c.self.inside.no c.self.inside.id c.self.inside.chat c.self.inside.battle [] in
    let allowed : verdict (record_in here) c.args.entry.now ≡ None = ap (λ (s : Seen). verdict (record_in s) c.args.entry.now) c.self.view_is ∙ c.requires.allowed in
    let goes : Goes here c.args.entry.now c.args.bout = subst (λ (s : Seen). Goes s c.args.entry.now c.args.bout) (sym c.self.view_is) c.requires.goes in
    let went : next ≡ battle_after c.self.inside.battle (member c.args.entry.now.conn (presents c.self.inside.chat.opening c.self.inside.chat.state)) c.args.entry.now.cmd =
    c.set_bout.ensures ∙ goes.after allowed in
    roles_applied c.self.inside.no c.self.inside.id c.self.inside.chat new c.self.inside.battle next c.args.entry.now c.in_ok-changes.changes.items c.from_vec.result
    allowed c.in_ok-change.ensures.ok went touch changes
    ∙ ap (λ (s : Seen). (kept_of (record_in s) c.args.entry.now).roles) c.self.view_is
