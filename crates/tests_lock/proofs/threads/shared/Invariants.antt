use Rattle.tests_lock.proofs.threads.shared.Given as goal

-- the node whose file it is
abbrev pub ghosts-begun-J-Naming : goal.ghosts-begun-J-Naming
ghosts-begun-J-Naming g a = record {
  book = a.tokens.1;
  node = a.file.node;
  incarnation = a.file.life;
  opening = a.table;
}

abbrev pub ghosts-begun-J-Ledger : goal.ghosts-begun-J-Ledger
ghosts-begun-J-Ledger g a = record { name = a.tokens.0.name; parts = a.tokens.0.parts }
