-- The text of a line that was read is clean.
use Rattle.std.proofs.Common.{◌≡◌, ℕ, Bool, true, false, cond, List, ◌∷◌, ◌++◌, length, Some, None, codes, refl, sym, ap, ◌∙◌}
use Rattle.std.specs.Prelude.{nat_le}
use Rattle.std.proofs.lemmas.Bool.{or_parts, leb-true}
use Rattle.std.proofs.lemmas.List.Folds.{list_any-append}
use Rattle.std.proofs.lemmas.Option.{none-some}
use Rattle.ps_base.specs.Limits.{most_text}
use Rattle.replay_script.specs.declared.item.Item.{Item}
use Rattle.replay_script.specs.declared.item.Item.TheVariants.{Nothing, Moment, Group, Open, Send, Close}
use Rattle.replay_script.specs.declared.script.ScriptKind.TheVariants as kinds
use Rattle.replay_script.specs.Cleans.{SendsClean}
use Rattle.replay_script.specs.Controls.{is_control, has_control}
use Rattle.replay_script.specs.Scripts.{Seen, IsLine, is_open, fault_of}

-- what stands behind others in a line without control characters has none
clean_end : (front text : List ℕ) → has_control (front ++ text) ≡ false → has_control text ≡ false
clean_end front text clean = (or_parts (has_control front) (has_control text) (sym (list_any-append is_control front text) ∙ clean)).1

within : (still short : Bool) → cond still (cond short None (Some kinds.Long)) (Some kinds.Order) ≡ None → short ≡ true
within true true e = refl
within true false e = absurd (none-some kinds.Long (sym e))
within false short e = absurd (none-some kinds.Order (sym e))

pub sends_clean : (s : Seen) (line : List ℕ) (i : Item) → IsLine line i → fault_of s i ≡ None → SendsClean i
sends_clean s line Nothing is none = tt
sends_clean s line (Moment n) is none = tt
sends_clean s line (Group symbol id) is none = tt
sends_clean s line (Open n) is none = tt
sends_clean s line (Send n text) is none =
    let clean : has_control ((codes ">" ++ is.item.digits) ++ 32 ∷ text) ≡ false = sym (ap has_control is.item.spelled) ∙ is.no_control in
    record {
      few = leb-true (length text) most_text (within (is_open s.opened n) (nat_le (length text) most_text) none);
      no_control = (or_parts (is_control 32) (has_control text) (clean_end (codes ">" ++ is.item.digits) (32 ∷ text) clean)).1;
    }
sends_clean s line (Close n) is none = tt
