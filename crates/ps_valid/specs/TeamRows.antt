-- The rules of a team as a whole, and the order of all.
use Rattle.std.specs.Prelude.{ℕ, ◌+◌, ◌==◌, ◌&&◌, Bool, false, not, List, [], ◌∷◌, ◌++◌, length, map, decimal, bytes_eq, Option, Some}
use Rattle.std.specs.Prelude.{None, Result, Ok, ⊤, nat_le}
use Rattle.std.specs.List.{list_any}
use Rattle.ps_base.specs.Ids.{id_of}
use Rattle.ps_base.specs.declared.team_rule.TeamRule.TheVariants.{TooFew, TooMany, SpeciesClause, NicknameClause}
use Rattle.ps_data.specs.Reading.{◌>>=◌}
use Rattle.ps_mon.specs.declared.team.Member.{Member}
use Rattle.ps_mon.specs.Clauses.{has_clause}
use Rattle.ps_packed.specs.declared.set.Set.{Set}
use Rattle.ps_dex.specs.declared.item.Tables.{Tables}
use Rattle.ps_dex.specs.Lookups.{species_of}
use Rattle.ps_rules.specs.declared.clause.Clause.TheVariants.{Species, Nickname}
use Rattle.ps_rules.specs.declared.table.RuleTable.{RuleTable}
use Rattle.ps_rules.specs.Clauses.{bit_of}
use Rattle.ps_valid.specs.declared.verdict.Verdict.{Verdict}
use Rattle.ps_valid.specs.declared.legal.Legal.{Legal}
use Rattle.ps_valid.specs.Verdicts.{keeps}
use Rattle.ps_valid.specs.SetRows.{member_in}
use Rattle.ps_valid.specs.Members.{team_of}

-- ---- the number of sets

unfoldable pub too_few : RuleTable → ℕ → Result ⊤ Verdict
too_few rules count = keeps 0 TooFew (decimal count) (nat_le rules.min count)

unfoldable pub too_many : RuleTable → ℕ → Result ⊤ Verdict
too_many rules count = keeps 0 TooMany (decimal count) (nat_le count rules.max)

-- ---- each set by itself, from the first, which has the number 1

abbrev pub each_member : Tables → RuleTable → List Member → List Set → Result (List Member) Verdict
each_member dex rules before [] = Ok before
each_member dex rules before (set ∷ sets) = member_in dex rules (length before + 1) set >>= λ member.
    each_member dex rules (before ++ member ∷ []) sets

-- ---- each set beside those before it

-- the species of a set: its number, by its id or by an alias
unfoldable pub species_number : Tables → Set → Option ℕ
species_number dex set = species_of (id_of set.species) dex

abbrev pub is_same : Option ℕ → Option ℕ → Bool
is_same None two = false
is_same (Some one) None = false
is_same (Some one) (Some two) = one == two

-- one of the sets has the species
abbrev pub has_species : Tables → Option ℕ → List Set → Bool
has_species dex number sets = list_any (λ set. is_same (species_number dex set) number) sets

-- one of the sets has the nickname; nicknames are compared as texts
abbrev pub has_nick : List ℕ → List Set → Bool
has_nick nick sets = list_any (λ set. bytes_eq set.nick nick) sets

unfoldable pub species_clause : Tables → RuleTable → ℕ → List Set → Set → Result ⊤ Verdict
species_clause dex rules number before set = keeps number SpeciesClause (id_of set.species)
    (not (has_clause rules.clauses (bit_of Species) && has_species dex (species_number dex set) before))

unfoldable pub nickname_clause : RuleTable → ℕ → List Set → Set → Result ⊤ Verdict
nickname_clause rules number before set = keeps number NicknameClause set.nick
    (not (has_clause rules.clauses (bit_of Nickname) && has_nick set.nick before))

unfoldable pub pair_in : Tables → RuleTable → ℕ → List Set → Set → Result ⊤ Verdict
pair_in dex rules number before set = do
  _ ← species_clause dex rules number before set
  _ ← nickname_clause rules number before set
  Ok tt

abbrev pub each_later : Tables → RuleTable → List Set → List Set → Result ⊤ Verdict
each_later dex rules before [] = Ok tt
each_later dex rules before (set ∷ sets) = pair_in dex rules (length before + 1) before set >>= λ _.
    each_later dex rules (before ++ set ∷ []) sets

-- ---- all of it

abbrev pub nick_of : Set → List ℕ
nick_of set = set.nick

abbrev pub legal_of : List Set → List Member → Legal
legal_of sets members = record { team = team_of members; nicks = map nick_of sets }

-- the legal team that the sets make, or the first rule that they break
unfoldable pub legal_in : Tables → RuleTable → List Set → Result Legal Verdict
legal_in dex rules sets = do
  _ ← too_few rules (length sets)
  _ ← too_many rules (length sets)
  members ← each_member dex rules [] sets
  _ ← each_later dex rules [] sets
  Ok (legal_of sets members)
