use Rattle.tests_serve.proofs.files.session.Goals as goal

pub returns : goal.returns
returns g c = c.serve_session.ensures.of_the_hub.of
