-- What the Open of a connection is in the history that its pass has seen.
use Rattle.std.proofs.Common.{◌≡◌, ◌≢◌, ℕ, List, [], ◌∷◌, ◌++◌, length, Some, None, sym, ap, ◌∙◌, subst, arith}
use Rattle.std.proofs.lemmas.Option.{same_Some}
use Rattle.ps_lines.specs.declared.command.HallCmd.TheVariants as hall_commands
use Rattle.ps_hall.specs.declared.entry.HallEntry.{HallEntry}
use Rattle.ps_histlock.specs.declared.view.Entry.{Entry}
use Rattle.ps_histlock.specs.declared.view.View.{View}
use Rattle.ps_histlock.specs.Histories.{commands, entry, entries_of, signed}
use Rattle.ps_histlock.specs.Views.{newcomer, heir_of, with_number}
use Rattle.ps_histlock.specs.Locks.{IsNameTaken}
use Rattle.ps_histlock.specs.Signs.{Speaks}
use Rattle.ps_histlock.proofs.Lists.{own_more}
use Rattle.server_places.specs.declared.site.Root.{Root}
use Rattle.server_places.specs.Halls.{hall_signer}
use Rattle.ps_hub.specs.Hubs.{Hub}
use Rattle.server_pass.specs.Turns.{TurnsAtLast}
use Rattle.ps_hub.specs.Passes.{HallPass, AreOf, IsHallPass}
use Rattle.ps_hub.specs.Calls.{hall_entry, Admits, IsStranger}
use Rattle.ps_hub.specs.declared.passes.Passes.{Passes}
use Rattle.ps_hub.proofs.PassListLemmas.{hall_of}

-- it is the last entry, and its pass has no other
pub record IsOpened (by : ℕ) (opening : Entry HallEntry) (seen : List (Entry HallEntry)) : Type 0 where
  pub before : List (Entry HallEntry)
  pub seen_is : seen ≡ before ++ opening ∷ []
  pub alone : entries_of by before ≡ []

pub admit_seen : (hub : Hub) (conn moment : ℕ) (p : Passes) → (a : Admits hub conn moment p) → IsOpened a.by (entry a.by (hall_entry conn moment hall_commands.Open)) a.pass.pass.1.seen
admit_seen hub conn moment p a = record {
  before = a.opened.1.0;
  seen_is = ap (λ (v : View Root HallEntry). v.seen) a.split ∙ ap (λ (v : View Root HallEntry). v.seen) a.opened.1.2;
  alone = sym a.opened.1.1.2;
}

-- and the connection's pass is another
pub admit_other : (hub : Hub) (conn moment : ℕ) (p : Passes) → AreOf hub p → (a : Admits hub conn moment p) → a.by ≢ a.pass.pass.1.number
admit_other hub conn moment p are a same =
    let o = admit_seen hub conn moment p a in
    let opening : Entry HallEntry = entry a.by (hall_entry conn moment hall_commands.Open) in
    let is : IsHallPass hub p.conn a.pass = hall_of hub p a.pass are a.hall in
    let none : [] ≡ entries_of a.by (o.before ++ opening ∷ []) = sym (ap (λ (v : View Root HallEntry). v.mine) a.split) ∙ is.rest.2 ∙ ap (λ (n : ℕ). entries_of n a.pass.pass.1.seen) (sym same) ∙ ap (entries_of a.by) o.seen_is in
    let own : [] ++ opening ∷ [] ≡ entries_of a.by (o.before ++ opening ∷ []) = own_more a.by [] o.before (hall_entry conn moment hall_commands.Open) (sym o.alone) in
    let one : length (opening ∷ []) ≡ 0 = ap length (own ∙ sym none) in
    absurd (omega arith)

-- what the opener has said is the Open
first_said : (r : Root) (by : ℕ) (v : View Root HallEntry) (e : HallEntry) → TurnsAtLast (newcomer r by) (Some e) v → v.said ≡ entry by e ∷ []
first_said r by v e t = ap (λ (u : View Root HallEntry). u.said) t.1.2

-- and so has its heir, which has made nothing
pub heir_said : (r : Root) (by n : ℕ) (v w : View Root HallEntry) (e : HallEntry) → TurnsAtLast (newcomer r by) (Some e) v → w ≡ with_number (heir_of v) n → w.said ≡ entry by e ∷ w.mine
heir_said r by n v w e t is = ap (λ (u : View Root HallEntry). u.said) is ∙ first_said r by v e t ∙ ap (λ (u : View Root HallEntry). entry by e ∷ u.mine) (sym is)

-- the opener met an entry under the number
pub stranger : (hub : Hub) (conn moment : ℕ) (h k : HallPass) → IsHallPass hub conn k → TurnsAtLast h.pass.1 None k.pass.1
    → IsNameTaken hall_signer h.pass.1.said k.pass.1.seen (hall_entry conn moment hall_commands.Open) → IsStranger hub conn k
stranger hub conn moment h k of turns taken =
    let same : conn ≡ taken.0 = same_Some conn taken.0 taken.1 in
    record {
      of = of;
      silent = ap (λ (l : List (Entry HallEntry)). signed hall_signer conn (commands l))
          (ap (λ (u : View Root HallEntry). u.said) turns.1.2) ∙ subst (λ (c : ℕ). signed hall_signer c (commands h.pass.1.said) ≡ [])
          (sym same) taken.2;
      stands = subst (λ (c : ℕ). Speaks hall_signer c k.pass.1.seen) (sym same) taken.3;
    }
