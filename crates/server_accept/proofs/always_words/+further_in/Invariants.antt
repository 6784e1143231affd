use Rattle.server_accept.proofs.always_words.+further_in.Given as goal

-- each further word is one fewer that can stand
abbrev pub decreases-further_in : goal.decreases-further_in
decreases-further_in l = l.most
