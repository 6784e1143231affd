-- What a log-in signs, and how.
use Rattle.std.specs.Prelude.{ℕ, List, [], ◌++◌, codes, Option, Some, None}
use Rattle.std.specs.Fmt.{decimal}
use Rattle.sha2.specs.Sha256.{sha256}
use Rattle.hex.specs.Hex.{encode_lower}
use Rattle.ps_users.specs.declared.account.Account.{Account}

-- the challenge of a connection
abbrev pub challstr_of : List ℕ → ℕ → List ℕ
challstr_of nonce conn = nonce ++ codes "-" ++ decimal conn

-- what is signed: the challenge, a colon and the secret
abbrev pub signed : List ℕ → List ℕ → List ℕ
signed challenge secret = challenge ++ codes ":" ++ secret

-- the assertion of a registered name: the digest of what is signed, in lower hex
unfoldable pub assertion_of : List ℕ → List ℕ → List ℕ
assertion_of challenge secret = encode_lower (sha256 (signed challenge secret))

-- the assertion that a name takes on a connection: the empty one, where it isn't registered
abbrev pub wanted_by : List ℕ → ℕ → Option Account → List ℕ
wanted_by nonce conn None = []
wanted_by nonce conn (Some account) = assertion_of (challstr_of nonce conn) account.secret
