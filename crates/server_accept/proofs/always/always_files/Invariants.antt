use Rattle.server_accept.proofs.always.always_files.Given as goal

-- the sessions are of the hub that is made here
abbrev pub ghosts-always_door : goal.ghosts-always_door
ghosts-always_door g a = record { hub = a.hub }
