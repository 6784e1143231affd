use Rattle.ps_serve.proofs.session.Sitting.sit.Goals as goal

pub loop-preserved : goal.loop-preserved
loop-preserved g c =
    let i = c.loop.invariant in
    (tt, tt, c.in-None-take.ensures.sits, λ talk0 counts0 hours0 conn open_at acts ss st. (let w = i.3 talk0 counts0 hours0 conn open_at acts ss st in c.in-None-take.ensures.goes_on talk0 counts0 hours0 conn open_at w.0 w.1 w.2))

pub returns-in-Some-take : goal.returns-in-Some-take
returns-in-Some-take g c = record {
  rests = λ talk0 counts0 hours0 conn open_at left acts ss st. (let w = c.loop.invariant.3 talk0 counts0 hours0 conn open_at acts ss st in c.in-Some-take.ensures.rests talk0 counts0 hours0 conn open_at left w.0 w.1 w.2);
}
