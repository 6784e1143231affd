use Rattle.std.proofs.Common.{◌≡◌, refl, sym, ap, subst, arith, ◌∙◌, [], ◌∷◌, ◌++◌, length, Some}
use Rattle.atomic_table.specs.Table.{rest}
use Rattle.ps_histlock.specs.Views.{after_entry, IsStoodFor, IsAtRest}
use Rattle.ps_histlock.specs.Homes.{home_origin, HomeStands}
use Rattle.ps_histlock.proofs.Lists.{own_more, prefix_self, prefix_length, all_begin, all_more}
use Rattle.ps_histlock.proofs.TurnLemmas.{commands_more}
use Rattle.ps_histlock.specs.Histories.{entry as entry_, commands}
use Rattle.ps_histlock.proofs.Steps.{appends_as}
use Rattle.ps_histlock.proofs.lock.HistLock.append.Goals as goal

pub fetch_add-requires : goal.fetch_add-requires
fetch_add-requires g c =
    let words = c.self.invariant.0 in
    let v = c.args.seat.now.me.0 in
    let is = c.exchange.ensures.3 ∙ ap (λ l. (v, (0, Some c.args.home) ∷ rest l)) c.requires.seat_state.1 in
    let entry = c.requires.entry in
    (c.exchange.ensures.0 ∙ c.requires.seat_state.0 ∙ sym (ap (λ p. p.0) c.self.view_is), omega arith, appends_as (home_origin g.K.Kept.origin) (HomeStands g.K.Kept.stands g.K.Kept.signer) g.K.Kept.signer _ _ _ _ v c.args.home entry.0 g.W.Writes.written c.self.invariant.1 is c.requires.turn.0 c.requires.turn.1 c.requires.turn.2 c.requires.value entry.1 entry.2 entry.3 entry.4)

pub returns-clause-rest : goal.returns-clause-rest
returns-clause-rest g c =
    let v = c.args.seat.now.me.0 in
    let entry = c.fetch_add.ensures.2 in
    let same = ap (λ m. m.0) c.exchange.ensures.3 in
    let written = c.requires.entry in
    let is : written.0 ≡ entry.0 = cc (written.1, entry.1) in
    let stood : IsStoodFor g.K.Kept.origin g.K.Kept.stands (after_entry v entry.0) = (c.args.home.kept, c.requires.value, subst (λ l. g.K.Kept.stands l c.args.home.kept) (ap (λ x. commands v.seen ++ x ∷ []) is ∙ sym (commands_more v.seen v.number entry.0)) written.2.0) in
    subst (IsAtRest g.K.Kept.origin g.K.Kept.stands) (sym (ap (λ m. m.0) entry.2 ∙ ap (λ u. after_entry u entry.0) same)) (
      c.requires.turn.1,
      refl,
      own_more v.number v.mine v.seen entry.0 c.requires.own,
      c.requires.turn.2,
      c.requires.turn.3,
      prefix_self (v.seen ++ entry_ v.number entry.0 ∷ []),
      c.requires.turn.4,
      (c.requires.grown.0, all_begin v.earlier v.seen (v.seen ++ entry_ v.number entry.0 ∷ []) (entry_ v.number entry.0 ∷ [], refl) c.requires.grown.1, all_more (length v.seen) (length (v.seen ++ entry_ v.number entry.0 ∷ [])) v.shown (prefix_length v.seen _ (entry_ v.number entry.0 ∷ [], refl)) c.requires.grown.2),
      λ some. stood,
      c.requires.looked,
    )
