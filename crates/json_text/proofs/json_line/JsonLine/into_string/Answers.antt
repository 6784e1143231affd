use Rattle.std.proofs.Common.{◌≡◌, ◌++◌, rules, sym, subst}
use Rattle.std.specs.Prelude.{string_bytes}
use Rattle.std.specs.Str.{IsUtf8}
use Rattle.std.proofs.lemmas.Str.{IsUtf8-append}
use Rattle.json.specs.Print.{print}
use Rattle.json_text.proofs.LineLemmas.{compact}
use Rattle.json_text.proofs.json_line.JsonLine.into_string.Goals as goal

pub unreachable-requires : goal.unreachable-requires
unreachable-requires c =
    let front = c.self.inside.writer.before in
    let printed = print c.self.inside.writer.tokens in
    let utf8 : IsUtf8 (front ++ printed) = IsUtf8-append front printed c.self.invariant c.into_inner.ensures.utf8 in
    search (rules, c.from_utf8.ensures.succeeds (subst IsUtf8 (sym c.into_inner.ensures.items) utf8))

pub returns-clause-text : goal.returns-clause-text
returns-clause-text c front value is =
    let bytes : string_bytes c.in-Ok.line ≡ c.args.self.front ++ print c.args.self.tokens = search rules in
    compact c.args.self (string_bytes c.in-Ok.line) front value bytes is
