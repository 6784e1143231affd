use Rattle.std.proofs.Common.{◌≡◌, List, Some, refl, sym, ap, ◌∙◌, subst}
use Rattle.std.specs.Prelude.{All}
use Rattle.std.proofs.lemmas.List.Elements.{All-nil}
use Rattle.ps_hall.specs.declared.entry.HallEntry.{HallEntry}
use Rattle.ps_histlock.specs.declared.view.View.{View}
use Rattle.ps_histlock.specs.Seated.{TableId}
use Rattle.ps_histlock.specs.Views.{newcomer}
use Rattle.ps_histlock.proofs.SignLemmas.{signs_on}
use Rattle.server_places.specs.Halls.{hall_signer}
use Rattle.ps_lines.specs.declared.command.HallCmd.TheVariants.{Open}
use Rattle.server_places.specs.declared.site.Root.{Root}
use Rattle.ps_hub.specs.Hubs.{root_of}
use Rattle.ps_hub.specs.Passes.{RoomPass, IsHallPass, IsRoomPass, numbers, IsRising}
use Rattle.server_pass.specs.Turns.{TurnsAtLast}
use Rattle.ps_hub.specs.Calls.{hall_entry}
use Rattle.ps_histlock.specs.Histories.{entry}
use Rattle.ps_hub.proofs.AdmitLemmas.{heir_said, stranger}
use Rattle.ps_hub.proofs.OfLemmas.{of_hall}
use Rattle.ps_hub.proofs.hub.Hub.admit.Goals as goal

pub turn-requires-clause-sign : goal.turn-requires-clause-sign
turn-requires-clause-sign g c =
    let opened : IsHallPass c.args.self.now c.args.conn c.hall_pass-opener.result = c.hall_pass-opener.ensures.of c.args.self.now c.hall_lock-lock.ensures.name c.hall_lock-lock.ensures.origin in
    signs_on hall_signer c.args.conn c.hall_pass-opener.result.pass.1.said (hall_entry c.args.conn c.args.moment Open) (of_hall c.args.conn c.args.moment Open) opened.signs

pub returns-in-Done-clause-of : goal.returns-in-Done-clause-of
returns-in-Done-clause-of g c =
    let hub = c.args.self.now in
    let opened : IsHallPass hub c.args.conn c.hall_pass-opener.result = c.hall_pass-opener.ensures.of hub c.hall_lock-lock.ensures.name c.hall_lock-lock.ensures.origin in
    let heir : IsHallPass hub c.args.conn c.heir.result = c.heir.ensures.of c.args.conn (hub.hall, root_of hub) (c.turn.ensures.of c.args.conn (hub.hall, root_of hub) (of_hall c.args.conn c.args.moment Open) opened) in
    let opener = c.hall_pass-opener.ensures.pass in
    let pass = c.heir.ensures.pass in
    let fresh : c.hall_pass-opener.result.pass.1 ≡ newcomer (root_of hub) opener.0 =
    ap (λ (q : TableId × View Root HallEntry). q.1) opener.1 ∙ ap (λ (r : Root). newcomer r opener.0) c.hall_lock-lock.ensures.origin in
    let turns = subst (λ (v : View Root HallEntry). TurnsAtLast v (Some (hall_entry c.args.conn c.args.moment Open))
    c.turn.new.self.pass.1) fresh c.in-Done.ensures.does.0 in
    record {
      hall_pass = c.heir.result;
      hall = refl;
      hall_is = heir;
      opened = entry opener.0 (hall_entry c.args.conn c.args.moment Open);
      is_open = (c.args.moment, refl);
      said = heir_said (root_of hub) opener.0 pass.0 c.turn.new.self.pass.1 c.heir.result.pass.1 (hall_entry c.args.conn c.args.moment Open) turns (ap (λ (q : TableId × View Root HallEntry). q.1) pass.1);
      rooms = subst (All (IsRoomPass hub c.args.conn)) (sym c.new.ensures.items) (All-nil (IsRoomPass hub c.args.conn));
      rising = subst (λ (l : List RoomPass). IsRising (numbers l)) (sym c.new.ensures.items) tt;
    }

pub returns-in-NameTaken-clause-taken : goal.returns-in-NameTaken-clause-taken
returns-in-NameTaken-clause-taken g c =
    let hub = c.args.self.now in
    let opened : IsHallPass hub c.args.conn c.hall_pass-opener.result = c.hall_pass-opener.ensures.of hub c.hall_lock-lock.ensures.name c.hall_lock-lock.ensures.origin in
    stranger hub c.args.conn c.args.moment c.hall_pass-opener.result c.turn.new.self
    (c.turn.ensures.of c.args.conn (hub.hall, root_of hub) (of_hall c.args.conn c.args.moment Open) opened) c.in-NameTaken.ensures.does.0
    c.in-NameTaken.ensures.taken

pub returns-in-Done-clause-does : goal.returns-in-Done-clause-does
returns-in-Done-clause-does g c =
    let heir = c.heir.ensures.pass in
    let opener = c.hall_pass-opener.ensures.pass in
    let fresh : c.hall_pass-opener.result.pass.1 ≡ newcomer (root_of c.args.self.now) opener.0 =
    ap (λ (q : TableId × View Root HallEntry). q.1) opener.1 ∙ ap (λ (r : Root). newcomer r opener.0) c.hall_lock-lock.ensures.origin in
    record {
      pass = c.heir.result;
      hall = refl;
      by = opener.0;
      opener = c.turn.new.self.pass.1;
      opened = subst (λ (v : View Root HallEntry). TurnsAtLast v (Some (hall_entry c.args.conn c.args.moment Open)) c.turn.new.self.pass.1)
          fresh c.in-Done.ensures.does.0;
      number = heir.0;
      split = ap (λ (q : TableId × View Root HallEntry). q.1) heir.1;
      at = c.heir.ensures.same.0 ∙ c.turn.ensures.same.0 ∙ c.hall_pass-opener.ensures.at;
      rooms = c.new.ensures.items;
      badge = refl;
      conn_is = refl;
    }
