use Rattle.std.proofs.Common.{◌≡◌, ℕ, List, ◌++◌, IfOk, ◌∙◌, sym, ap, subst, refl, length, Some}
use Rattle.std.specs.List.{slice_get}
use Rattle.std.proofs.lemmas.Option.{slice_get_read}
use Rattle.std.specs.Option.{option_to_list}
use Rattle.ps_splitlog.specs.declared.entry.Joined.{Joined}
use Rattle.ps_splitlog.specs.Entries.{size_of_keep, last_of}
use Rattle.ps_splitlog.specs.Indices.{shown_at}
use Rattle.ps_splitlog.proofs.MessageLemmas.{message_of_join}
use Rattle.ps_splitlog.proofs.read.message.Goals as goal

pub returns-in-Some-join_for : goal.returns-in-Some-join_for
returns-in-Some-join_for c =
    let j : Joined = c.in-Some-join_for.joined.now in
    let at : slice_get c.args.entries.now c.args.entry_index ≡ Some c.in-Some.log_entry.now = slice_get_read c.args.entries.now (length c.args.entries.now) c.args.entry_index c.in-Some.log_entry.now refl c.in-Some.ensures.lookup.3.0 c.in-Some.ensures.lookup.1 in
    subst (λ (texts : List (List ℕ)). IfOk c.init.result (λ v. v ≡ texts))
    (ap (λ ps. j.head ++ shown_at c.args.conn j.role c.args.entries.now (last_of (size_of_keep j.keep) ps) ++ option_to_list j.tail) c.line_indices_before.ensures
    ∙ message_of_join c.args.conn c.args.role c.args.entries.now c.args.entry_index c.in-Some.log_entry.now j c.args.index.now.starts.items c.args.index.now.line_indices.items c.requires at (sym c.in-Some-join_for.ensures))
    c.init.ensures
