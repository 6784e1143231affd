use Rattle.std.proofs.Common.{◌≡◌, ◌∷◌, ◌++◌, [], drop}
use Rattle.ps_tour.proofs.RoundLemmas.{still_round}
use Rattle.ps_tour.proofs.bracket.after_win.Goals as goal

pub going_on-requires : goal.going_on-requires
going_on-requires c =
    let through : c.push.new.self.items ≡ c.args.through.now ++ c.args.winner ∷ [] = cc in
    let playing : c.behind.result.items ≡ drop 2 c.args.playing.now = cc in
    rw (through, playing) (still_round c.args.winner (record { through = c.args.through.now; playing = c.args.playing.now }) c.requires.stands c.requires.open_match)
