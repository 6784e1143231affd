use Rattle.server_accept.proofs.serve.serve_config.Given as goal

-- the sessions are of the hub that is made here
abbrev pub ghosts-serve_door : goal.ghosts-serve_door
ghosts-serve_door g a = record { hub = a.hub }
