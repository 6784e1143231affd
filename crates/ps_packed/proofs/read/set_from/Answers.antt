use Rattle.std.proofs.Common.{◌≡◌, ◌<◌, ℕ, [], map, get_or, encode_utf8_all, not, ap, ◌∙◌, arith}
use Rattle.ps_packed.specs.Forms.{ids_of}
use Rattle.ps_packed.specs.Packed.{field, evs_of, gender_of, ivs_of, level_of, is_nil}
use Rattle.ps_packed.proofs.Reading.{piece_fits, mapped_at, set_is, same_other, nil_shows}
use Rattle.ps_packed.proofs.read.set_from.Goals as goal

pub evs-requires : goal.evs-requires
evs-requires c = piece_fits c.args.fields.now 6 _ c.requires (omega arith)

pub ivs-requires : goal.ivs-requires
ivs-requires c = piece_fits c.args.fields.now 8 _ c.requires (omega arith)

pub level-requires : goal.level-requires
level-requires c = piece_fits c.args.fields.now 10 _ c.requires (omega arith)

pub returns : goal.returns
returns c =
    let fs = c.args.fields.now in
    let at : (i : ℕ) → i < 12 → (get_or fs i (record { ref_ptr = (0, 0); now = [] })).now ≡ field (map (λ x. x.now) fs) i = λ i lt. mapped_at fs i _ (omega (arith, c.in-len12.len_at_least)) in
    set_is (map (λ x. x.now) fs) _ _ _ _ _ _ _ _ _ _ _ _
    (c.in_ok-nick-in-len12.ensures ∙ ap encode_utf8_all (c.or_other.ensures ∙ same_other _ _ _ _ (at 0 (omega arith)) (at 1 (omega arith))))
    (c.in_ok-species-in-len12.ensures ∙ ap encode_utf8_all (c.or_other-in-len12.ensures ∙ same_other _ _ _ _ (at 1 (omega arith)) (at 0 (omega arith))))
    (c.in_ok-item-in-len12.ensures ∙ ap encode_utf8_all (at 2 (omega arith)))
    (c.in_ok-ability-in-len12.ensures ∙ ap encode_utf8_all (at 3 (omega arith)))
    (c.in_ok-moves-in-len12.ensures ∙ ap ids_of (at 4 (omega arith)))
    (c.in_ok-nature-in-len12.ensures ∙ ap encode_utf8_all (at 5 (omega arith)))
    (c.in_ok-evs-in-len12.ensures ∙ ap evs_of (at 6 (omega arith)))
    (c.gender.ensures ∙ ap gender_of (at 7 (omega arith)))
    (c.in_ok-ivs-in-len12.ensures ∙ ap ivs_of (at 8 (omega arith)))
    (ap not (c.is_empty.ensures ∙ nil_shows _ ∙ ap is_nil (at 9 (omega arith))))
    (c.level.ensures ∙ ap level_of (at 10 (omega arith)))
    (c.in_ok-misc-in-len12.ensures ∙ ap encode_utf8_all (at 11 (omega arith)))
