-- The rows over a room are those over its record, and leave each member with its rank.
use Rattle.std.proofs.Common.{◌≡◌, ℕ, ◌==◌, Bool, true, false, not, cond, List, [], ◌∷◌, ◌++◌, map, Option, Some, None, refl, sym, ap, ◌∙◌}
use Rattle.std.specs.List.{filter}
use Rattle.std.specs.Str.{bytes_eq}
use Rattle.std.specs.Cmp.Lexicographic.{nat_list_cmp_total}
use Rattle.std.specs.FinMap.{insert, get-insert}
use Rattle.std.proofs.lemmas.List.{map-append}
use Rattle.std.proofs.lemmas.Map.Text.{is_eq-slice_cmp}
use Rattle.ps_base.specs.Ids.{id_of}
use Rattle.ps_base.specs.declared.badge.Badge.{Badge}
use Rattle.ps_group.specs.Ranks.{higher, rank_of}
use Rattle.ps_group.specs.declared.group.Group.{Group}
use Rattle.ps_lines.specs.declared.command.Command.{Command}
use Rattle.ps_lines.specs.declared.command.Command.TheVariants.{Join, Leave, Quit, Say, Announce, Modnote, Warn, Mute, Unmute, Ban, Unban, Promote, Modchat, Choose, Undo, Forfeit}
use Rattle.ps_base.specs.ById.{ById}
use Rattle.ps_chat.specs.Records.{Member}
use Rattle.ps_chat.specs.Lookups.{has_id, member}
use Rattle.ps_chat.specs.Rooms.{present, bare, ranked, room_of, opening_of, record_of}
use Rattle.ps_chat.specs.Refusals.{refusal_of_join}
use Rattle.ps_chat.specs.Verdicts.{verdict, room_verdict}
use Rattle.ps_chat.specs.Told.{joiner, lines, room_lines}
use Rattle.ps_chat.specs.Lines.{Line}
use Rattle.ps_chat.specs.Changes.{record_after}
use Rattle.ps_chat.specs.Steps.{Seen}
use Rattle.ps_chat.specs.RoomChanges.{room_after, room_with_rank, JoinsNew, Settled}
use Rattle.ps_chat.specs.declared.present.Present.{Present}
use Rattle.ps_chat.specs.declared.room.Room.{Room}

-- ---- a settled room is that of its record

pub settled : (r : Room) → Settled r → room_of (opening_of r) (record_of r) ≡ r
settled r e = ap (λ (ps : List Present). record r { members = ps }) e

pub room_answers : (r : Room) (conn : ℕ) (badge : Badge) (moment : ℕ) (cmd : Command) → Settled r → room_verdict r conn badge moment cmd ≡ verdict (opening_of r) (record_of r) conn badge moment cmd
unfolding verdict
room_answers r conn badge moment cmd e = ap (λ (x : Room). room_verdict x conn badge moment cmd) (sym (settled r e))

pub room_tells : (r : Room) (conn : ℕ) (badge : Badge) (moment : ℕ) (cmd : Command) → Settled r → room_lines r conn badge moment cmd ≡ lines (opening_of r) (record_of r) conn badge moment cmd
unfolding lines
room_tells r conn badge moment cmd e = ap (λ (x : Room). room_lines x conn badge moment cmd) (sym (settled r e))

-- ---- who joins is new

not_member : (r : Room) (me : Option Present) (id : List ℕ) → refusal_of_join r me id ≡ None → me ≡ None
not_member r (Some me) id e = absurd cc
not_member r None id e = refl

pub joins_new : (r : Room) (conn : ℕ) (badge : Badge) (moment : ℕ) (cmd : Command) → room_verdict r conn badge moment cmd ≡ None → JoinsNew r conn cmd
joins_new r conn badge moment (Join room) e = not_member r (member conn r.members) (id_of badge.name) e
joins_new r conn badge moment Leave e = tt
joins_new r conn badge moment Quit e = tt
joins_new r conn badge moment (Say text) e = tt
joins_new r conn badge moment (Announce text) e = tt
joins_new r conn badge moment (Modnote text) e = tt
joins_new r conn badge moment (Warn id reason) e = tt
joins_new r conn badge moment (Mute id reason) e = tt
joins_new r conn badge moment (Unmute id) e = tt
joins_new r conn badge moment (Ban id reason) e = tt
joins_new r conn badge moment (Unban id) e = tt
joins_new r conn badge moment (Promote id symbol) e = tt
joins_new r conn badge moment (Modchat symbol) e = tt
joins_new r conn badge moment (Choose choice rqid) e = tt
joins_new r conn badge moment Undo e = tt
joins_new r conn badge moment Forfeit e = tt

-- ---- the record after

-- a test that reads what a member is without its rank
bare_by : (test : Present → Bool) (on : Member → Bool) (p : Present) (ps : List Present) (b : Bool) → test p ≡ b → on (bare p) ≡ b → map bare (filter test ps) ≡ filter on (map bare ps) → map bare (filter test (p ∷ ps)) ≡ filter on (map bare (p ∷ ps))
bare_by test on p ps true t u more = rw (t, u) (ap (λ (ms : List Member). bare p ∷ ms) more)
bare_by test on p ps false t u more = rw (t, u) more

bare_filter : (test : Present → Bool) (on : Member → Bool) (ps : List Present) → ((p : Present) → on (bare p) ≡ test p) → map bare (filter test ps) ≡ filter on (map bare ps)
bare_filter test on [] same = refl
bare_filter test on (p ∷ ps) same = bare_by test on p ps (test p) refl (same p) (bare_filter test on ps same)

bare_ranked_by : (rank : ℕ) (p : Present) (b : Bool) → bare (cond b (record p { rank = rank }) p) ≡ bare p
bare_ranked_by rank p true = refl
bare_ranked_by rank p false = refl

bare_ranked : (id : List ℕ) (rank : ℕ) (ps : List Present) → map bare (map (ranked id rank) ps) ≡ map bare ps
bare_ranked id rank [] = refl
bare_ranked id rank (p ∷ ps) = rw (bare_ranked_by (higher p.badge.rank rank) p (has_id id p), bare_ranked id rank ps) refl

promoted_record : (r : Room) (id : List ℕ) (o : Option ℕ) → record_of (room_with_rank r id o) ≡ Rattle.ps_chat.specs.Changes.with_rank (record_of r) id o
promoted_record r id None = refl
promoted_record r id (Some rank) = ap (λ (ms : List Member). record { members = ms; ranks = insert r.ranks id rank; mutes = r.mutes; bans = r.bans; modchat = r.modchat }) (bare_ranked id rank r.members)

pub record_is : (r : Room) (conn : ℕ) (badge : Badge) (moment : ℕ) (cmd : Command) → record_of (room_after r (joiner r conn badge) moment cmd) ≡ record_after r.groups (record_of r) conn badge moment cmd
record_is r conn badge moment (Join room) = ap (λ (ms : List Member). record (record_of r) { members = ms }) (map-append bare r.members (joiner r conn badge ∷ []))
record_is r conn badge moment Leave = ap (λ (ms : List Member). record (record_of r) { members = ms }) (bare_filter (λ p. not (p.conn == conn)) (λ m. not (m.conn == conn)) r.members (λ p. refl))
record_is r conn badge moment Quit = ap (λ (ms : List Member). record (record_of r) { members = ms }) (bare_filter (λ p. not (p.conn == conn)) (λ m. not (m.conn == conn)) r.members (λ p. refl))
record_is r conn badge moment (Say text) = refl
record_is r conn badge moment (Announce text) = refl
record_is r conn badge moment (Modnote text) = refl
record_is r conn badge moment (Warn id reason) = refl
record_is r conn badge moment (Mute id reason) = refl
record_is r conn badge moment (Unmute id) = refl
record_is r conn badge moment (Ban id reason) = ap (λ (ms : List Member). record (record_of r) { members = ms; bans = insert r.bans id tt }) (bare_filter (λ p. not (has_id id p)) (λ m. not (bytes_eq (id_of m.badge.name) id)) r.members (λ p. refl))
record_is r conn badge moment (Unban id) = refl
record_is r conn badge moment (Promote id symbol) = promoted_record r id (rank_of symbol r.groups)
record_is r conn badge moment (Modchat symbol) = refl
record_is r conn badge moment (Choose choice rqid) = refl
record_is r conn badge moment Undo = refl
record_is r conn badge moment Forfeit = refl

-- ---- each member has its rank after

module _ (f : Member → Present) where
  first_kept : (p q : Present) (ps qs : List Present) → p ∷ ps ≡ q ∷ qs → p ≡ q
  first_kept p q ps qs e = cc

  others_kept : (p q : Present) (ps qs : List Present) → p ∷ ps ≡ q ∷ qs → ps ≡ qs
  others_kept p q ps qs e = cc

  filter_by : (test : Present → Bool) (p : Present) (ps : List Present) (b : Bool) → test p ≡ b → map f (map bare (p ∷ ps)) ≡ p ∷ ps → (map f (map bare ps) ≡ ps → map f (map bare (filter test ps)) ≡ filter test ps) → map f (map bare (filter test (p ∷ ps))) ≡ filter test (p ∷ ps)
  filter_by test p ps true t e more = rw t (ap (λ (x : Present). x ∷ map f (map bare (filter test ps))) (first_kept (f (bare p)) p (map f (map bare ps)) ps e) ∙ ap (λ (xs : List Present). p ∷ xs) (more (others_kept (f (bare p)) p (map f (map bare ps)) ps e)))
  filter_by test p ps false t e more = rw t (more (others_kept (f (bare p)) p (map f (map bare ps)) ps e))

  filter_kept : (test : Present → Bool) (ps : List Present) → map f (map bare ps) ≡ ps → map f (map bare (filter test ps)) ≡ filter test ps
  filter_kept test [] e = refl
  filter_kept test (p ∷ ps) e = filter_by test p ps (test p) refl e (filter_kept test ps)

  push_kept : (ps : List Present) (j : Present) → f (bare j) ≡ j → map f (map bare ps) ≡ ps → map f (map bare (ps ++ j ∷ [])) ≡ ps ++ j ∷ []
  push_kept ps j same e = ap (map f) (map-append bare ps (j ∷ [])) ∙ map-append f (map bare ps) (bare j ∷ []) ∙ ap (λ (xs : List Present). xs ++ f (bare j) ∷ []) e ∙ ap (λ (x : Present). ps ++ x ∷ []) same

-- with a new room rank
newly_by : (groups : List Group) (ranks : ById ℕ) (id : List ℕ) (new : ℕ) (p : Present) (b : Bool) → bytes_eq (id_of p.badge.name) id ≡ b → present groups ranks (bare p) ≡ p
    → present groups (insert ranks id new) (bare p) ≡ cond b (record p { rank = higher p.badge.rank new }) p
newly_by groups ranks id new p true t e = rw (get-insert nat_list_cmp_total ranks id new (id_of p.badge.name), is_eq-slice_cmp (id_of p.badge.name) id, t) refl
newly_by groups ranks id new p false t e = rw (get-insert nat_list_cmp_total ranks id new (id_of p.badge.name), is_eq-slice_cmp (id_of p.badge.name) id, t) e

newly : (groups : List Group) (ranks : ById ℕ) (id : List ℕ) (new : ℕ) (p : Present) → present groups ranks (bare p) ≡ p → present groups (insert ranks id new) (bare (ranked id new p)) ≡ ranked id new p
newly groups ranks id new p e =
    ap (present groups (insert ranks id new)) (bare_ranked_by (higher p.badge.rank new) p (has_id id p))
    ∙ newly_by groups ranks id new p (has_id id p) refl e

ranked_kept : (groups : List Group) (ranks : ById ℕ) (id : List ℕ) (new : ℕ) (ps : List Present) → map (present groups ranks) (map bare ps) ≡ ps
    → map (present groups (insert ranks id new)) (map bare (map (ranked id new) ps)) ≡ map (ranked id new) ps
ranked_kept groups ranks id new [] e = refl
ranked_kept groups ranks id new (p ∷ ps) e =
    ap (λ (x : Present). x ∷ map (present groups (insert ranks id new)) (map bare (map (ranked id new) ps))) (newly groups ranks id new p (first_kept (present groups ranks) (present groups ranks (bare p)) p (map (present groups ranks) (map bare ps)) ps e))
    ∙ ap (λ (xs : List Present). ranked id new p ∷ xs) (ranked_kept groups ranks id new ps (others_kept (present groups ranks) (present groups ranks (bare p)) p (map (present groups ranks) (map bare ps)) ps e))

promoted_settled : (r : Room) (id : List ℕ) (o : Option ℕ) → Settled r → Settled (room_with_rank r id o)
promoted_settled r id None e = e
promoted_settled r id (Some rank) e = ranked_kept r.groups r.ranks id rank r.members e

pub still_settled : (r : Room) (conn : ℕ) (badge : Badge) (moment : ℕ) (cmd : Command) → Settled r → Settled (room_after r (joiner r conn badge) moment cmd)
still_settled r conn badge moment (Join room) e = push_kept (present r.groups r.ranks) r.members (joiner r conn badge) refl e
still_settled r conn badge moment Leave e = filter_kept (present r.groups r.ranks) (λ p. not (p.conn == conn)) r.members e
still_settled r conn badge moment Quit e = filter_kept (present r.groups r.ranks) (λ p. not (p.conn == conn)) r.members e
still_settled r conn badge moment (Say text) e = e
still_settled r conn badge moment (Announce text) e = e
still_settled r conn badge moment (Modnote text) e = e
still_settled r conn badge moment (Warn id reason) e = e
still_settled r conn badge moment (Mute id reason) e = e
still_settled r conn badge moment (Unmute id) e = e
still_settled r conn badge moment (Ban id reason) e = filter_kept (present r.groups r.ranks) (λ p. not (has_id id p)) r.members e
still_settled r conn badge moment (Unban id) e = e
still_settled r conn badge moment (Promote id symbol) e = promoted_settled r id (rank_of symbol r.groups) e
still_settled r conn badge moment (Modchat symbol) e = e
still_settled r conn badge moment (Choose choice rqid) e = e
still_settled r conn badge moment Undo e = e
still_settled r conn badge moment Forfeit e = e

-- what a room was opened with stays
pub same_opening : (r : Room) (new : Present) (moment : ℕ) (cmd : Command) → opening_of (room_after r new moment cmd) ≡ opening_of r
same_opening r new moment (Join room) = refl
same_opening r new moment Leave = refl
same_opening r new moment Quit = refl
same_opening r new moment (Say text) = refl
same_opening r new moment (Announce text) = refl
same_opening r new moment (Modnote text) = refl
same_opening r new moment (Warn id reason) = refl
same_opening r new moment (Mute id reason) = refl
same_opening r new moment (Unmute id) = refl
same_opening r new moment (Ban id reason) = refl
same_opening r new moment (Unban id) = refl
same_opening r new moment (Promote id symbol) = by (rank_of symbol r.groups)
  where
    by : (o : Option ℕ) → opening_of (room_with_rank r id o) ≡ opening_of r
    by None = refl
    by (Some rank) = refl
same_opening r new moment (Modchat symbol) = refl
same_opening r new moment (Choose choice rqid) = refl
same_opening r new moment Undo = refl
same_opening r new moment Forfeit = refl

-- a room after an entry is what the record says; the lines are those of before
pub moved_on : (r : Room) (kept : List Line) (conn : ℕ) (badge : Badge) (moment : ℕ) (cmd : Command)
    → ◌≡◌ {A = Seen} (record { opening = opening_of (room_after r (joiner r conn badge) moment cmd); state = record_of (room_after r (joiner r conn badge) moment cmd); lines = kept })
    (record { opening = opening_of r; state = record_after r.groups (record_of r) conn badge moment cmd; lines = kept })
moved_on r kept conn badge moment cmd = λ i. record {
  opening = same_opening r (joiner r conn badge) moment cmd i;
  state = record_is r conn badge moment cmd i;
  lines = kept;
}
