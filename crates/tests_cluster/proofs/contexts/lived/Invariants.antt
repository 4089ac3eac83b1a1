use Rattle.tests_cluster.proofs.contexts.lived.Given as goal

-- the node whose life was begun in the file
abbrev pub ghosts-used-J-Naming : goal.ghosts-used-J-Naming
ghosts-used-J-Naming g a = record {
  book = a.tokens.1;
  node = a.served.0.node;
  incarnation = a.served.0.life;
  opening = a.served.1;
}

abbrev pub ghosts-used-J-Ledger : goal.ghosts-used-J-Ledger
ghosts-used-J-Ledger g a = record { name = a.tokens.0.name; parts = a.tokens.0.parts }
