-- What an entry of the hall leaves of its connections, and how it is answered.
use Rattle.std.proofs.Common.{◌≡◌, ◌≢◌, ℕ, ◌==◌, Bool, true, false, cond, List, [], ◌∷◌, Option, Some, None, is_some, refl, sym, ap, ◌∙◌}
use Rattle.std.specs.Ordering.{nat_cmp, eq_by_cmp}
use Rattle.std.specs.Cmp.{nat_cmp_total, eq_by_cmp_equiv, Equal-is}
use Rattle.std.specs.FinMap.{get, insert, remove, get-insert, get-remove, nat_cmp-IsAntisymmetric}
use Rattle.std.proofs.lemmas.Bool.{ne_eqb, eq-eqb}
use Rattle.ps_base.specs.declared.badge.Badge.{Badge}
use Rattle.ps_base.specs.declared.hall_why.HallWhy.{HallWhy}
use Rattle.ps_lines.specs.declared.command.HallCmd.{HallCmd}
use Rattle.ps_lines.specs.declared.command.HallCmd.TheVariants.{Open, Quit, Name}
use Rattle.ps_users.specs.Records.{Record as Users}
use Rattle.ps_users.specs.Refusals.{read_of}
use Rattle.ps_users.specs.Seats.{Seats, is_seat, opened_by}
use Rattle.ps_users.specs.Steps.{after as users_after, with_name, badge_for}
use Rattle.ps_hall.specs.declared.entry.HallEntry.{HallEntry}
use Rattle.ps_hall.specs.Halls as halls
use Rattle.ps_hall.specs.Lines.{refused_line}
use Rattle.ps_hall.specs.Records.{Record}
use Rattle.ps_hall.specs.Refusals.{refusal}
use Rattle.ps_hall.specs.Steps.{after_by, applied}
use Rattle.ps_hall.proofs.StepLemmas.{applied_users}
use Rattle.replay_state.specs.OneEntry.{IsHallAnswered}

-- ---- who is open

put_if : (b : Bool) (v : Option Badge) (o : Option (Option Badge)) → is_some o ≡ true → is_some (cond b (Some v) o) ≡ true
put_if true v o e = refl
put_if false v o e = e

put_seat : (seats : Seats) (conn k : ℕ) (v : Option Badge) → is_seat seats k ≡ true → is_seat (insert seats conn v) k ≡ true
put_seat seats conn k v e = ap is_some (get-insert nat_cmp_total seats conn v k) ∙ put_if (eq_by_cmp nat_cmp k conn) v (get seats k) e

here_seat : (seats : Seats) (conn : ℕ) (v : Option Badge) → is_seat (insert seats conn v) conn ≡ true
here_seat seats conn v = ap is_some (get-insert nat_cmp_total seats conn v conn) ∙ ap (λ (b : Bool). is_some (cond b (Some v) (get seats conn))) ((eq_by_cmp_equiv nat_cmp_total).refl conn)

left_if : (b : Bool) (conn k : ℕ) (o : Option (Option Badge)) → eq_by_cmp nat_cmp k conn ≡ b → k ≢ conn → is_some o ≡ true → is_some (cond b None o) ≡ true
left_if true conn k o t other e = absurd (other (nat_cmp-IsAntisymmetric k conn ((Equal-is (nat_cmp k conn)).0 t)))
left_if false conn k o t other e = e

left_seat : (seats : Seats) (conn k : ℕ) → k ≢ conn → is_seat seats k ≡ true → is_seat (remove seats conn) k ≡ true
left_seat seats conn k other e = ap is_some (get-remove nat_cmp_total seats conn k) ∙ left_if (eq_by_cmp nat_cmp k conn) conn k (get seats k) refl other e

open_seat : (o : Option (Option Badge)) (seats : Seats) (conn k : ℕ) → is_seat seats k ≡ true → is_seat (opened_by o seats conn) k ≡ true
open_seat None seats conn k e = put_seat seats conn k None e
open_seat (Some seat) seats conn k e = e

new_seat : (o : Option (Option Badge)) (seats : Seats) (conn : ℕ) → get seats conn ≡ o → is_seat (opened_by o seats conn) conn ≡ true
new_seat None seats conn e = here_seat seats conn None
new_seat (Some seat) seats conn e = ap is_some e

name_seat : (users : Users) (conn k : ℕ) (name : Option (List ℕ)) → is_seat users.seats k ≡ true → is_seat (with_name users conn name).seats k ≡ true
name_seat users conn k None e = e
name_seat users conn k (Some name) e = put_seat users.seats conn k (Some (badge_for users name)) e

-- the command closes no such connection
abbrev pub Spares : ℕ → HallCmd → ℕ → Type 0
Spares conn Quit k = k ≢ conn
Spares conn other k = Unit {0}

users_seat : (users : Users) (conn : ℕ) (cmd : HallCmd) (k : ℕ) → Spares conn cmd k → is_seat users.seats k ≡ true → is_seat (users_after users conn cmd).seats k ≡ true
users_seat users conn Open k spares e = open_seat (get users.seats conn) users.seats conn k e
users_seat users conn Quit k spares e = left_seat users.seats conn k spares e
users_seat users conn (Name name assertion) k spares e = name_seat users conn k (read_of name) e
users_seat users conn other k spares e = e

seat_by : (v : Option HallWhy) (h : Record) (conn : ℕ) (cmd : HallCmd) (k : ℕ) → Spares conn cmd k → is_seat h.users.seats k ≡ true → is_seat (halls.after_by v h conn cmd).users.seats k ≡ true
seat_by (Some why) h conn cmd k spares e = e
seat_by None h conn cmd k spares e = ap (λ (u : Users). is_seat u.seats k) (applied_users h conn cmd) ∙ users_seat h.users conn cmd k spares e

-- who is open stays open, unless it is closed
pub seat_after : (h : Record) (e : HallEntry) (k : ℕ) → Spares e.conn e.cmd k → is_seat h.users.seats k ≡ true → is_seat (halls.after h e).users.seats k ≡ true
seat_after h e k spares is = seat_by (halls.verdict h e) h e.conn e.cmd k spares is

-- who opens is open
pub seat_opened : (h : Record) (conn moment : ℕ) → is_seat (halls.after h (record { conn = conn; moment = moment; cmd = Open })).users.seats conn ≡ true
unfolding refusal applied
seat_opened h conn moment = new_seat (get h.users.seats conn) h.users.seats conn refl

-- ---- every entry gets the answer of its verdict

told_refused : (h : Record) (e : HallEntry) (why : HallWhy) → halls.verdict h e ≡ Some why → halls.message e.conn h e ≡ refused_line why e.cmd ∷ []
told_refused h e why v = rw (v, eq-eqb e.conn e.conn refl) refl

silent_refused : (h : Record) (e : HallEntry) (why : HallWhy) (conn : ℕ) → halls.verdict h e ≡ Some why → (e.conn == conn) ≡ false → halls.message conn h e ≡ []
silent_refused h e why conn v other = rw (v, other) refl

pub hall_answered : (h : Record) (e : HallEntry) → IsHallAnswered h e
hall_answered h e = record {
  allowed = λ v. ap (λ (x : Option HallWhy). halls.after_by x h e.conn e.cmd) v;
  unchanged = λ why v. ap (λ (x : Option HallWhy). halls.after_by x h e.conn e.cmd) v;
  told = λ why v. told_refused h e why v;
  silent = λ why conn v other. silent_refused h e why conn v (ne_eqb e.conn conn (λ same. other (sym same)));
}
