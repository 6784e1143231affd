-- What was read is what a text is taken for.
use Rattle.std.proofs.Common.{◌≡◌, ℕ, List, Option, Result, Ok, Err, IfOk, IfErr, sym, ap, ◌∙◌}
use Rattle.ps_lines.specs.Clients.{client}
use Rattle.ps_lines.specs.declared.client.ClientFault.{ClientFault}
use Rattle.ps_lines.specs.declared.client.ClientMsg.{ClientMsg}
use Rattle.ps_lines.specs.declared.order.Order.{Order}
use Rattle.ps_session.specs.Routes.{by_client, order_of, parts_of, within_limit, taken}
use Rattle.ps_session.specs.Sessions.{Record}

parts_are : (text : List ℕ) (read : Result ClientMsg ClientFault)
    → IfOk read (λ m. client text ≡ Ok (m.room.now, m.text.now)) → IfErr read (λ f. client text ≡ Err f) → parts_of read ≡ client text
parts_are text (Ok message) ok err = sym ok
parts_are text (Err fault) ok err = sym err

pub taken_is : (r : Record) (text : List ℕ) (read : Result ClientMsg ClientFault) (order : Option Order)
    → IfOk read (λ m. client text ≡ Ok (m.room.now, m.text.now)) → IfErr read (λ f. client text ≡ Err f)
    → order ≡ by_client r.badge r (parts_of read) → within_limit r order ≡ taken r text
unfolding order_of
taken_is r text read order ok err is =
    ap (within_limit r) (is ∙ ap (by_client r.badge r) (parts_are text read ok err))
