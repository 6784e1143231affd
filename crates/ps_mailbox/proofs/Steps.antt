-- Each step keeps the rule, and what steps tell.
use Rattle.std.proofs.Common.{◌≡◌, ◌≢◌, ◌⊎◌, ℕ, zero, suc, ◌-◌, ◌<◌, ◌≤◌, List, [], ◌∷◌, ◌++◌, length, set, refl, ap, sym, ◌∙◌, inl, inr, subst, arith, append-nil, append_assoc, length-set, true, false, All, ⊎_elim}
use Rattle.std.proofs.lemmas.List.Elements.{All-weaker, All-push, All-nil}
use mathlib.Core.Option.{some, some-injective, some-ne-none}
use mathlib.Core.List.{IsPrefix}
use lib.ListN.{get_elem?}
use Rattle.crossbeam_queue.specs.Fifo.{Pushes, Pops, Forks, Merges, Learns}
use Rattle.crossbeam_queue.proofs.Lists.{at_set}
use Rattle.ps_mailbox.specs.declared.view.Numbered.{Numbered}
use Rattle.ps_mailbox.specs.declared.view.Met.{Met}
use Rattle.ps_mailbox.specs.declared.view.View.{View}
use Rattle.ps_mailbox.specs.Posts.{posts_of, AreTakenInOrder, AreAllTaken}
use Rattle.ps_mailbox.specs.Views.{IsPoster, IsTaker, nobody, founder, first_poster, first_taker, number_of_new, kept, given, posting, taking, counting, meeting}
use Rattle.ps_mailbox.specs.Deliveries.{Sends, IsOutside, AreApart, IsGone, Takes, Delivers}
use Rattle.ps_mailbox.proofs.Lists.{off, at_end, of_last, posts_of-append, posts_of_other, posts_of_own}

module _ {T : Type 0} where
  -- a view with these numbers was there before
  abbrev Was : List (View T) → ℕ → View T → Type 0
  Was views j u = (o : View T) × (get_elem? views j ≡ some o) × (o.number ≡ u.number) × (o.end ≡ u.end) × (o.sends ≡ u.sends)

  -- every ticket was there before, with its numbers
  abbrev AllWere : List (View T) → List (View T) → Type 0
  AllWere views now = (j : ℕ) (u : View T) → get_elem? now j ≡ some u → u.sends ≡ true → Was views j u

  changed : (views : List (View T)) (i : ℕ) (v w : View T) → get_elem? views i ≡ some v → v.number ≡ w.number → v.end ≡ w.end → v.sends ≡ w.sends → AllWere views (set views i w)
  changed views i v w at number end sends j u e su =
      ⊎_elim
      (λ (x : (j ≡ i) × (w ≡ u)). (v, ap (λ k. get_elem? views k) x.0 ∙ at, number ∙ ap (λ (h : View T). h.number) x.1, end ∙ ap (λ (h : View T). h.end) x.1, sends ∙ ap (λ (h : View T). h.sends) x.1))
      (λ (x : (j ≢ i) × (get_elem? views j ≡ some u)). (u, x.1, refl, refl, refl))
      (at_set views i j w u e)

  -- one that may not post is added
  more : (views now : List (View T)) (w : View T) → w.sends ≡ false → AllWere views now → AllWere views (now ++ w ∷ [])
  more views now w mute was j u e su =
      ⊎_elim (λ (x : get_elem? now j ≡ some u). was j u x su) (λ (x : (j ≡ length now) × (w ≡ u)). absurd (off (sym mute ∙ (ap (λ (h : View T). h.sends) x.1 ∙ su)))) (at_end now w u j e)

  still_apart : (items : List (Numbered T)) (views now : List (View T)) → Delivers items views → AllWere views now
      → (i j : ℕ) (v u : View T) → i ≢ j → get_elem? now i ≡ some v → get_elem? now j ≡ some u → v.sends ≡ true → u.sends ≡ true → AreApart v u
  still_apart items views now d was i j v u ne a b sv su =
      let p = was i v a sv in
      let q = was j u b su in
      let p2 = p.2 in let p3 = p.3 in let q2 = q.2 in let q3 = q.3 in
      ⊎_elim (λ (h : p.0.end ≤ q.0.number). inl (omega arith)) (λ (h : q.0.end ≤ p.0.number). inr (omega arith)) (d.apart i j p.0 q.0 ne p.1 q.1 (p.4 ∙ sv) (q.4 ∙ su))

  still_outside : (views now : List (View T)) (n : ℕ) → AllWere views now → ((j : ℕ) (u : View T) → get_elem? views j ≡ some u → u.sends ≡ true → IsOutside n u)
      → (j : ℕ) (u : View T) → get_elem? now j ≡ some u → u.sends ≡ true → IsOutside n u
  still_outside views now n was gone j u e su =
      let p = was j u e su in
      let p2 = p.2 in let p3 = p.3 in
      ⊎_elim (λ (h : n < p.0.number). inl (omega arith)) (λ (h : p.0.end ≤ n). inr (omega arith)) (gone j p.0 p.1 (p.4 ∙ su))

  -- where nothing was posted under these numbers since, the tickets that are gone stay so
  still_gone : (all longer : List (Numbered T)) (views now : List (View T)) (met : List (Met T)) → AllWere views now
      → ((m : Met T) → IsGone all views m → posts_of m.number longer ≡ posts_of m.number all) → All (IsGone all views) met → All (IsGone longer now) met
  still_gone all longer views now met was same gone =
      All-weaker (IsGone all views) (IsGone longer now) (λ m g. record { own = same m g ∙ g.own; nobodys = still_outside views now m.number was g.nobodys }) met gone

  same_sends : (all : List (Numbered T)) (v w : View T) → v.number ≡ w.number → v.end ≡ w.end → v.posted ≡ w.posted → Sends all v → Sends all w
  same_sends all v w number end posted s =
      let has = s.has_number in
      record {
        has_number = omega arith;
        own = ap (λ n. posts_of n all) (sym number) ∙ s.own ∙ posted;
        unused = λ n low high. s.unused n (omega arith) (omega arith);
      }

  -- a view of the drain
  same_takes : (place : ℕ) (taken all : List (Numbered T)) (views : List (View T)) (i j : ℕ) (v w : View T) → i ≡ j → v ≡ w → Takes place taken all views i v → Takes place taken all views j w
  same_takes place taken all views i j v w at is = subst (λ (z : ℕ × View T). Takes place taken all views z.0 z.1) (λ k. (at k, is k))

  -- a push
  pub pushes : (n i : ℕ) (v : View T) (x : Numbered T) (number end posts : ℕ) → IsPoster number end posts v → x.number ≡ number → Pushes Delivers n i v x (λ w. w ≡ posting v x.post)
  pushes n i v x number end posts is from' items views room d at =
      let may : v.sends ≡ true = ap (λ (h : View T). h.sends) is.0 in
      let dry : v.takes ≡ false = ap (λ (h : View T). h.takes) is.0 in
      let from : x.number ≡ v.number = from' ∙ sym (ap (λ (h : View T). h.number) is.0) in
      let w : View T = posting v x.post in
      let now = set views i w in
      let t = d.taken in
      let mine = d.senders i v at may in
      let has = mine.has_number in
      let was = changed views i v w at refl refl refl in (
        w,
        record {
          place = d.place;
          taken = t;
          senders = λ j u e su. ⊎_elim
              (λ (y : (j ≡ i) × (w ≡ u)). subst (Sends (t ++ (items ++ x ∷ []))) y.1
              record {
                has_number = has;
                own = posts_of_own v.number t items x from ∙ ap (λ l. l ++ x.post ∷ []) mine.own;
                unused = λ k low high. posts_of_other k t items x (λ is. omega arith) ∙ mine.unused k low high;
              })
              (λ (y : (j ≢ i) × (get_elem? views j ≡ some u)).
              let theirs = d.senders j u y.1 su in
              let has' = theirs.has_number in
              let far = d.apart j i u v y.0 y.1 at su may in
              let ne : (k : ℕ) → u.number ≤ k → k < u.end → x.number ≢ k = λ k low high is. ⊎_elim (λ (h : u.end ≤ v.number). omega arith) (λ (h : v.end ≤ u.number). omega arith) far in
              record {
                has_number = has';
                own = posts_of_other u.number t items x (ne u.number (omega arith) (omega arith)) ∙ theirs.own;
                unused = λ k low high. posts_of_other k t items x (ne k (omega arith) high) ∙ theirs.unused k low high;
              })
              (at_set views i j w u e);
          apart = still_apart items views now d was;
          takers = λ j u e tu. ⊎_elim
              (λ (y : (j ≡ i) × (w ≡ u)). absurd (off (sym dry ∙ (ap (λ (h : View T). h.takes) y.1 ∙ tu))))
              (λ (y : (j ≢ i) × (get_elem? views j ≡ some u)).
              let theirs = d.takers j u y.1 tu in
              record {
                only = theirs.only;
                knows = theirs.knows;
                gone = still_gone (t ++ items) (t ++ (items ++ x ∷ [])) views now u.met was
                    (λ m g. posts_of_other m.number t items x (λ is. ⊎_elim (λ (h : m.number < v.number). omega arith) (λ (h : v.end ≤ m.number). omega arith) (g.nobodys i v at may)))
                    theirs.gone;
              })
              (at_set views i j w u e);
        },
        refl,
      )

  -- a pop
  pub pops : (i : ℕ) (v : View T) → IsTaker v → Pops Delivers i v (λ x w. w ≡ taking v x)
  pops i v is x items views d at =
      let may : v.takes ≡ true = ap (λ (h : View T). h.takes) is in
      let mute : v.sends ≡ false = ap (λ (h : View T). h.sends) is in
      let w : View T = taking v x in
      let now = set views i w in
      let t = d.taken in
      let mine = d.takers i v at may in
      let was = changed views i v w at refl refl refl in
      let same : t ++ (x ∷ items) ≡ (t ++ x ∷ []) ++ items = sym (append_assoc t (x ∷ []) items) in (
        w,
        record {
          place = d.place;
          taken = t ++ x ∷ [];
          senders = λ j u e su. ⊎_elim
              (λ (y : (j ≡ i) × (w ≡ u)). absurd (off (sym mute ∙ (ap (λ (h : View T). h.sends) y.1 ∙ su))))
              (λ (y : (j ≢ i) × (get_elem? views j ≡ some u)). subst (λ l. Sends l u) same (d.senders j u y.1 su))
              (at_set views i j w u e);
          apart = still_apart (x ∷ items) views now d was;
          takers = λ j u e tu. ⊎_elim
              (λ (y : (j ≡ i) × (w ≡ u)). same_takes d.place (t ++ x ∷ []) ((t ++ x ∷ []) ++ items) now i j w u (sym y.0) y.1
              record {
                only = mine.only;
                knows = ap (λ l. l ++ x ∷ []) mine.knows;
                gone = still_gone (t ++ (x ∷ items)) ((t ++ x ∷ []) ++ items) views now v.met was (λ m g. ap (posts_of m.number) (sym same)) mine.gone;
              })
              (λ (y : (j ≢ i) × (get_elem? views j ≡ some u)). absurd (y.0 ((d.takers j u y.1 tu).only ∙ sym mine.only)))
              (at_set views i j w u e);
        },
        refl,
      )

  -- of an empty queue: all was taken of the tickets that are gone
  pub tells_all : (i : ℕ) (v : View T) → IsTaker v → Learns Delivers i v (λ items. items ≡ [] → AreAllTaken v.taken v.met)
  tells_all i v is items views d at none =
      let mine = d.takers i v at (ap (λ (h : View T). h.takes) is) in
      let same : v.taken ≡ d.taken ++ items = mine.knows ∙ sym (ap (λ l. d.taken ++ l) none ∙ append-nil d.taken) in
      All-weaker (IsGone (d.taken ++ items) views) (λ (m : Met T). posts_of m.number v.taken ≡ m.posted) (λ m g. ap (posts_of m.number) same ∙ g.own) v.met mine.gone

  -- what was taken of the tickets that are gone, once w has met one
  pub tells : (i : ℕ) (v u w : View T) → IsTaker v → w ≡ meeting v u → Learns Delivers i w (λ items. AreTakenInOrder w.taken w.met)
  tells i v u w is met items views d at =
      let mine = d.takers i w at (ap (λ (h : View T). h.takes) (met ∙ ap (λ (h : View T). meeting h u) is)) in
      All-weaker (IsGone (d.taken ++ items) views) (λ (m : Met T). IsPrefix (posts_of m.number w.taken) m.posted)
      (λ m g. (posts_of m.number items, ap (λ l. posts_of m.number l ++ posts_of m.number items) mine.knows ∙ sym (posts_of-append m.number d.taken items) ∙ g.own)) w.met mine.gone

  -- the same of the one that it has met last
  pub tells_of : (v u w : View T) → w ≡ meeting v u → AreTakenInOrder w.taken w.met → IsPrefix (posts_of u.number w.taken) u.posted
  tells_of v u w is all =
      of_last (λ (m : Met T). IsPrefix (posts_of m.number w.taken) m.posted) v.met record { number = u.number; posted = u.posted }
      (subst (AreTakenInOrder w.taken) (ap (λ (h : View T). h.met) is) all)

  -- the drain counts that nothing was there
  pub counts : (i : ℕ) (v : View T) → IsTaker v → Forks Delivers i v (counting v) nobody
  counts i v is items views d at =
      let may : v.takes ≡ true = ap (λ (h : View T). h.takes) is in
      let mute : v.sends ≡ false = ap (λ (h : View T). h.sends) is in
      let w : View T = counting v in
      let vs = set views i w in
      let now = vs ++ nobody ∷ [] in
      let all = d.taken ++ items in
      let mine = d.takers i v at may in
      let was = more views vs nobody refl (changed views i v w at refl refl refl) in
      record {
        place = d.place;
        taken = d.taken;
        senders = λ j u e su. ⊎_elim
            (λ (x : get_elem? vs j ≡ some u). ⊎_elim
            (λ (y : (j ≡ i) × (w ≡ u)). absurd (off (sym mute ∙ (ap (λ (h : View T). h.sends) y.1 ∙ su))))
            (λ (y : (j ≢ i) × (get_elem? views j ≡ some u)). d.senders j u y.1 su)
            (at_set views i j w u x))
            (λ (x : (j ≡ length vs) × (nobody ≡ u)). absurd (off (ap (λ (h : View T). h.sends) x.1 ∙ su)))
            (at_end vs nobody u j e);
        apart = still_apart items views now d was;
        takers = λ j u e tu. ⊎_elim
            (λ (x : get_elem? vs j ≡ some u). ⊎_elim
            (λ (y : (j ≡ i) × (w ≡ u)). same_takes d.place d.taken all now i j w u (sym y.0) y.1
            record { only = mine.only; knows = mine.knows; gone = still_gone all all views now v.met was (λ m g. refl) mine.gone })
            (λ (y : (j ≢ i) × (get_elem? views j ≡ some u)). absurd (y.0 ((d.takers j u y.1 tu).only ∙ sym mine.only)))
            (at_set views i j w u x))
            (λ (x : (j ≡ length vs) × (nobody ≡ u)). absurd (off (ap (λ (h : View T). h.takes) x.1 ∙ tu)))
            (at_end vs nobody u j e);
      }

  -- the drain meets a ticket
  pub meets : (i : ℕ) (v : View T) (other : ℕ) (u : View T) (number end posts : ℕ) → IsTaker v → IsPoster number end posts u → Merges Delivers i v other u (meeting v u) nobody
  meets i v other u number end posts is it items views d at two at' =
      let may : v.takes ≡ true = ap (λ (h : View T). h.takes) is in
      let mute : v.sends ≡ false = ap (λ (h : View T). h.sends) is in
      let su : u.sends ≡ true = ap (λ (h : View T). h.sends) it.0 in
      let both : View T = meeting v u in
      let vs : List (View T) = set views i both in
      let now : List (View T) = set vs other nobody in
      let all = d.taken ++ items in
      let mine = d.takers i v at may in
      let there : get_elem? views other ≡ some u = ⊎_elim
      (λ (x : (other ≡ i) × (both ≡ u)). absurd (two x.0))
      (λ (x : (other ≢ i) × (get_elem? views other ≡ some u)). x.1)
      (at_set views i other both u at') in
      let theirs = d.senders other u there su in
      let old : (j : ℕ) (y : View T) → get_elem? now j ≡ some y → y.sends ≡ true → (j ≢ other) × (get_elem? views j ≡ some y) = λ j y e s.
      ⊎_elim
      (λ (x : (j ≡ other) × (nobody ≡ y)). absurd (off (ap (λ (h : View T). h.sends) x.1 ∙ s)))
      (λ (x : (j ≢ other) × (get_elem? vs j ≡ some y)). ⊎_elim
      (λ (z : (j ≡ i) × (both ≡ y)). absurd (off (sym mute ∙ (ap (λ (h : View T). h.sends) z.1 ∙ s))))
      (λ (z : (j ≢ i) × (get_elem? views j ≡ some y)). (x.0, z.1))
      (at_set views i j both y x.1))
      (at_set vs other j nobody y e) in
      let was : AllWere views now = λ j y e s. (y, (old j y e s).1, refl, refl, refl) in
      let has = theirs.has_number in
      let gone : IsGone all now record { number = u.number; posted = u.posted } = record {
        own = theirs.own;
        nobodys = λ j y e s.
            let o = old j y e s in
            ⊎_elim (λ (h : u.end ≤ y.number). inl (omega arith)) (λ (h : y.end ≤ u.number). inr h) (d.apart other j u y (λ is. o.0 (sym is)) there o.1 su s);
      } in
      record {
        place = d.place;
        taken = d.taken;
        senders = λ j y e s. d.senders j y (old j y e s).1 s;
        apart = still_apart items views now d was;
        takers = λ j y e s. ⊎_elim
            (λ (x : (j ≡ other) × (nobody ≡ y)). absurd (off (ap (λ (h : View T). h.takes) x.1 ∙ s)))
            (λ (x : (j ≢ other) × (get_elem? vs j ≡ some y)). ⊎_elim
            (λ (z : (j ≡ i) × (both ≡ y)). same_takes d.place d.taken all now i j both y (sym z.0) z.1
            record {
              only = mine.only;
              knows = mine.knows;
              gone = All-push (IsGone all now) v.met record { number = u.number; posted = u.posted } (still_gone all all views now v.met was (λ m g. refl) mine.gone) gone;
            })
            (λ (z : (j ≢ i) × (get_elem? views j ≡ some y)). absurd (z.0 ((d.takers j y z.1 s).only ∙ sym mine.only)))
            (at_set views i j both y x.1))
            (at_set vs other j nobody y e);
      }

  -- what a view is once a ticket was split: another's, the old ticket's, or the new ticket's
  abbrev Kind : List (View T) → ℕ → View T → ℕ → View T → Type 0
  Kind views i v j y = ((j ≢ i) × (get_elem? views j ≡ some y)) ⊎ (((j ≡ i) × (kept v ≡ y)) ⊎ ((j ≡ length views) × (given v ≡ y)))

  kind : (views : List (View T)) (i : ℕ) (v : View T) (j : ℕ) (y : View T) → get_elem? (set views i (kept v) ++ given v ∷ []) j ≡ some y → Kind views i v j y
  kind views i v j y e =
      ⊎_elim
      (λ (x : get_elem? (set views i (kept v)) j ≡ some y). ⊎_elim (λ (z : (j ≡ i) × (kept v ≡ y)). inr (inl z)) (λ (z : (j ≢ i) × (get_elem? views j ≡ some y)). inl z) (at_set views i j (kept v) y x))
      (λ (x : (j ≡ length (set views i (kept v))) × (given v ≡ y)). inr (inr (x.0 ∙ length-set views i (kept v), x.1)))
      (at_end (set views i (kept v)) (given v) y j e)

  -- a ticket whose numbers are among those of the old one
  abbrev IsPart : View T → View T → Type 0
  IsPart v y = (v.number ≤ y.number) × (y.end ≤ v.end)

  kept_part : (v y : View T) → kept v ≡ y → IsPart v y × (y.end ≡ number_of_new v)
  kept_part v y is =
      let number : v.number ≡ y.number = ap (λ (h : View T). h.number) is in
      let end : number_of_new v ≡ y.end = ap (λ (h : View T). h.end) is in
      ((omega arith, omega arith), sym end)

  given_part : (v y : View T) → v.number < number_of_new v → given v ≡ y → IsPart v y × (y.number ≡ number_of_new v)
  given_part v y above is =
      let number : number_of_new v ≡ y.number = ap (λ (h : View T). h.number) is in
      let end : v.end ≡ y.end = ap (λ (h : View T). h.end) is in
      ((omega arith, omega arith), sym number)

  part_apart : (v y z : View T) → AreApart v y → IsPart v z → AreApart z y
  part_apart v y z far part =
      let low = part.0 in let high = part.1 in
      ⊎_elim (λ (h : v.end ≤ y.number). inl (omega arith)) (λ (h : y.end ≤ v.number). inr (omega arith)) far

  other_way : (v w : View T) → AreApart v w → AreApart w v
  other_way v w far = ⊎_elim (λ (h : v.end ≤ w.number). inr h) (λ (h : w.end ≤ v.number). inl h) far

  split_apart : (items : List (Numbered T)) (views : List (View T)) (d : Delivers items views) (i : ℕ) (v : View T) → get_elem? views i ≡ some v → v.sends ≡ true → v.number < number_of_new v
      → (j k : ℕ) (y z : View T) → j ≢ k → y.sends ≡ true → z.sends ≡ true → Kind views i v j y → Kind views i v k z → AreApart y z
  split_apart items views d i v at sv above j k y z ne sy sz (inl a) (inl b) = d.apart j k y z ne a.1 b.1 sy sz
  split_apart items views d i v at sv above j k y z ne sy sz (inl a) (inr (inl b)) =
      other_way z y (part_apart v y z (d.apart i j v y (λ is. a.0 (sym is)) at a.1 sv sy) (kept_part v z b.1).0)
  split_apart items views d i v at sv above j k y z ne sy sz (inl a) (inr (inr b)) =
      other_way z y (part_apart v y z (d.apart i j v y (λ is. a.0 (sym is)) at a.1 sv sy) (given_part v z above b.1).0)
  split_apart items views d i v at sv above j k y z ne sy sz (inr (inl a)) (inl b) =
      part_apart v z y (d.apart i k v z (λ is. b.0 (sym is)) at b.1 sv sz) (kept_part v y a.1).0
  split_apart items views d i v at sv above j k y z ne sy sz (inr (inr a)) (inl b) =
      part_apart v z y (d.apart i k v z (λ is. b.0 (sym is)) at b.1 sv sz) (given_part v y above a.1).0
  split_apart items views d i v at sv above j k y z ne sy sz (inr (inl a)) (inr (inl b)) = absurd (ne (a.0 ∙ sym b.0))
  split_apart items views d i v at sv above j k y z ne sy sz (inr (inr a)) (inr (inr b)) = absurd (ne (a.0 ∙ sym b.0))
  split_apart items views d i v at sv above j k y z ne sy sz (inr (inl a)) (inr (inr b)) =
      let end = (kept_part v y a.1).1 in let number = (given_part v z above b.1).1 in inl (omega arith)
  split_apart items views d i v at sv above j k y z ne sy sz (inr (inr a)) (inr (inl b)) =
      let end = (kept_part v z b.1).1 in let number = (given_part v y above a.1).1 in inr (omega arith)

  -- a number that is none of the old ticket's is none of its parts'
  part_outside : (n : ℕ) (v y : View T) → IsOutside n v → IsPart v y → IsOutside n y
  part_outside n v y out part =
      let low = part.0 in let high = part.1 in
      ⊎_elim (λ (h : n < v.number). inl (omega arith)) (λ (h : v.end ≤ n). inr (omega arith)) out

  split_outside : (n : ℕ) (views : List (View T)) (i : ℕ) (v : View T) → v.number < number_of_new v → IsOutside n v
      → ((j : ℕ) (y : View T) → get_elem? views j ≡ some y → y.sends ≡ true → IsOutside n y) → (j : ℕ) (y : View T) → y.sends ≡ true → Kind views i v j y → IsOutside n y
  split_outside n views i v above out others j y sy (inl a) = others j y a.1 sy
  split_outside n views i v above out others j y sy (inr (inl a)) = part_outside n v y out (kept_part v y a.1).0
  split_outside n views i v above out others j y sy (inr (inr a)) = part_outside n v y out (given_part v y above a.1).0

  -- a ticket is split
  pub splits : (i : ℕ) (v : View T) (number end posts : ℕ) → IsPoster number end posts v → 2 ≤ end - number → Forks Delivers i v (kept v) (given v)
  splits i v number end posts is many items views d at =
      let sv : v.sends ≡ true = ap (λ (h : View T). h.sends) is.0 in
      let dry : v.takes ≡ false = ap (λ (h : View T). h.takes) is.0 in
      let low : v.number ≡ number = ap (λ (h : View T). h.number) is.0 in
      let high : v.end ≡ end = ap (λ (h : View T). h.end) is.0 in
      let mine = d.senders i v at sv in
      let new : ℕ = number_of_new v in
      let above : v.number < new = omega arith in
      let below : new < v.end = omega arith in
      let all = d.taken ++ items in
      let now = set views i (kept v) ++ given v ∷ [] in
      record {
        place = d.place;
        taken = d.taken;
        senders = λ j y e sy. ⊎_elim
            (λ (x : (j ≢ i) × (get_elem? views j ≡ some y)). d.senders j y x.1 sy)
            (λ (x : ((j ≡ i) × (kept v ≡ y)) ⊎ ((j ≡ length views) × (given v ≡ y))). ⊎_elim
            (λ (z : (j ≡ i) × (kept v ≡ y)). subst (Sends all) z.1 record { has_number = above; own = mine.own; unused = λ n low high. mine.unused n low (omega arith) })
            (λ (z : (j ≡ length views) × (given v ≡ y)). subst (Sends all) z.1 record { has_number = below; own = mine.unused new above below; unused = λ n low high. mine.unused n (omega arith) high })
            x)
            (kind views i v j y e);
        apart = λ j k y z ne a b sy sz. split_apart items views d i v at sv above j k y z ne sy sz (kind views i v j y a) (kind views i v k z b);
        takers = λ j y e ty. ⊎_elim
            (λ (x : (j ≢ i) × (get_elem? views j ≡ some y)).
            let theirs = d.takers j y x.1 ty in
            record {
              only = theirs.only;
              knows = theirs.knows;
              gone = All-weaker (IsGone all views) (IsGone all now)
                  (λ m g. record { own = g.own; nobodys = λ k z f sz. split_outside m.number views i v above (g.nobodys i v at sv) g.nobodys k z sz (kind views i v k z f) })
                  y.met theirs.gone;
            })
            (λ (x : ((j ≡ i) × (kept v ≡ y)) ⊎ ((j ≡ length views) × (given v ≡ y))). ⊎_elim
            (λ (z : (j ≡ i) × (kept v ≡ y)). absurd (off (sym dry ∙ (ap (λ (h : View T). h.takes) z.1 ∙ ty))))
            (λ (z : (j ≡ length views) × (given v ≡ y)). absurd (off (ap (λ (h : View T). h.takes) z.1 ∙ ty)))
            x)
            (kind views i v j y e);
      }

  at_first : (w v : View T) (i : ℕ) → get_elem? (w ∷ []) i ≡ some v → (i ≡ 0) × (w ≡ v)
  at_first w v zero e = (refl, some-injective w v e)
  at_first w v (suc i) e = absurd (some-ne-none v (sym e))

  -- the rule of a queue that is new
  pub begins : Delivers {T = T} [] (founder ∷ [])
  begins = record {
    place = 0;
    taken = [];
    senders = λ i v e s. subst (Sends []) (at_first founder v i e).1 record { has_number = omega arith; own = refl; unused = λ n low high. refl };
    apart = λ i j v w ne a b sv sw. absurd (ne ((at_first founder v i a).0 ∙ sym (at_first founder w j b).0));
    takers = λ i v e s. same_takes 0 [] [] (founder ∷ []) 0 i founder v (sym (at_first founder v i e).0) (at_first founder v i e).1 record { only = refl; knows = refl; gone = All-nil (IsGone [] (founder ∷ [])) };
  }

  -- the first ticket and the drain become two
  pub parts : (i : ℕ) (v : View T) → v ≡ founder → Forks Delivers i v first_poster first_taker
  parts i v is items views d at =
      let sv : v.sends ≡ true = ap (λ (h : View T). h.sends) is in
      let tv : v.takes ≡ true = ap (λ (h : View T). h.takes) is in
      let vs = set views i first_poster in
      let now = vs ++ first_taker ∷ [] in
      let all = d.taken ++ items in
      let mine = d.senders i v at sv in
      let hers = d.takers i v at tv in
      let was = more views vs first_taker refl (changed views i v first_poster at (ap (λ (h : View T). h.number) is) (ap (λ (h : View T). h.end) is) sv) in
      record {
        place = length vs;
        taken = d.taken;
        senders = λ j y e sy. ⊎_elim
            (λ (x : get_elem? vs j ≡ some y). ⊎_elim
            (λ (z : (j ≡ i) × (first_poster ≡ y)). subst (Sends all) z.1
            (same_sends all v first_poster (ap (λ (h : View T). h.number) is) (ap (λ (h : View T). h.end) is) (ap (λ (h : View T). h.posted) is) mine))
            (λ (z : (j ≢ i) × (get_elem? views j ≡ some y)). d.senders j y z.1 sy)
            (at_set views i j first_poster y x))
            (λ (x : (j ≡ length vs) × (first_taker ≡ y)). absurd (off (ap (λ (h : View T). h.sends) x.1 ∙ sy)))
            (at_end vs first_taker y j e);
        apart = still_apart items views now d was;
        takers = λ j y e ty. ⊎_elim
            (λ (x : get_elem? vs j ≡ some y). ⊎_elim
            (λ (z : (j ≡ i) × (first_poster ≡ y)). absurd (off (ap (λ (h : View T). h.takes) z.1 ∙ ty)))
            (λ (z : (j ≢ i) × (get_elem? views j ≡ some y)). absurd (z.0 ((d.takers j y z.1 ty).only ∙ sym hers.only)))
            (at_set views i j first_poster y x))
            (λ (x : (j ≡ length vs) × (first_taker ≡ y)). same_takes (length vs) d.taken all now (length vs) j first_taker y (sym x.0) x.1
            record { only = refl; knows = sym (ap (λ (h : View T). h.taken) is) ∙ hers.knows; gone = All-nil (IsGone all now) })
            (at_end vs first_taker y j e);
      }
