use Rattle.std.proofs.Common.{◌≡◌, ℕ, Bool, true, false, cond, List, Some, None, refl, sym}
use Rattle.std.specs.Str.{IsUtf8, is_utf8}
use Rattle.std.proofs.lemmas.Str.{IsUtf8-from_is_utf8}
use Rattle.ps_lines.specs.Clients.{text_of}
use Rattle.ps_lines.proofs.ClientLemmas.{is_text}
use Rattle.ps_lines.proofs.client.text_of.Goals as goal

no_text : (bytes : List ℕ) → (IsUtf8 bytes → ⊥) → text_of bytes ≡ None
unfolding text_of
no_text bytes h = by_test (is_utf8 bytes) refl
  where
    by_test : (b : Bool) → is_utf8 bytes ≡ b → cond b (Some bytes) None ≡ None
    by_test true e = absurd (h (IsUtf8-from_is_utf8 bytes e))
    by_test false e = refl

pub returns-in-Ok : goal.returns-in-Ok
returns-in-Ok c = rw c.in-Ok.ensures.cases.0 (sym (is_text c.args.bytes.now c.in-Ok.ensures.cases.1))

pub returns-in-Err : goal.returns-in-Err
returns-in-Err c = sym (no_text c.args.bytes.now c.in-Err.ensures.cases.0)
