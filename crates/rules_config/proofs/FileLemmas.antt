-- Which settings a configuration may have.
use Rattle.std.proofs.Common.{◌≡◌, ℕ, Bool, true, false, List, Ok, inl, inr, refl, ap, ◌∙◌}
use Rattle.ps_dex.specs.declared.item.Tables.{Tables}
use Rattle.rules_config.specs.declared.settings.Settings.{Settings}
use Rattle.rules_config.specs.declared.fresh.Fresh.{Fresh}
use Rattle.rules_config.specs.Fresh.{with_fresh, IsSaidOrFresh}
use Rattle.rules_config.specs.Reading.{config_of, HasFile}

-- those of a file
pub of_file : (dex : Tables) (bytes : List ℕ) (said : Settings) → config_of dex bytes ≡ Ok said → HasFile said
of_file dex bytes said says = record { bytes = bytes; dex = dex; said = said; says = says; kept = inl refl }

-- the later fresh ones count
twice_by : (one other : Fresh) (said : Settings) (nonce seed : Bool) → said.gives_nonce ≡ nonce → said.gives_seed ≡ seed → with_fresh other (with_fresh one said) ≡ with_fresh other said
twice_by one other said true true n s = rw (n, s) refl
twice_by one other said true false n s = rw (n, s) refl
twice_by one other said false true n s = rw (n, s) refl
twice_by one other said false false n s = rw (n, s) refl

twice : (one other : Fresh) (said : Settings) → with_fresh other (with_fresh one said) ≡ with_fresh other said
twice one other said = twice_by one other said said.gives_nonce said.gives_seed refl refl

made_fresh : (fresh : Fresh) (said s : Settings) → IsSaidOrFresh said s → IsSaidOrFresh said (with_fresh fresh s)
made_fresh fresh said s (inl same) = inr (fresh, ap (with_fresh fresh) same)
made_fresh fresh said s (inr (before, is)) = inr (fresh, ap (with_fresh fresh) is ∙ twice before fresh said)

-- and those with a fresh nonce or seed
pub of_fresh : (fresh : Fresh) (s : Settings) → HasFile s → HasFile (with_fresh fresh s)
of_fresh fresh s file = record { bytes = file.bytes; dex = file.dex; said = file.said; says = file.says; kept = made_fresh fresh file.said s file.kept }
