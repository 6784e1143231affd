-- Bytes that are UTF-8 are a text.
use Rattle.std.proofs.Common.{◌≡◌, ℕ, List, Some, refl}
use Rattle.std.specs.Str.{IsUtf8}
use Rattle.std.proofs.lemmas.Str.{is_utf8-from_IsUtf8}
use Rattle.ps_lines.specs.Clients.{text_of}

pub is_text : (bytes : List ℕ) → IsUtf8 bytes → text_of bytes ≡ Some bytes
unfolding text_of
is_text bytes h = rw (is_utf8-from_IsUtf8 bytes h) refl
