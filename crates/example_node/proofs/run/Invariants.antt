use Rattle.example_node.proofs.run.Given as goal

-- the node whose file it is
abbrev pub ghosts-written-J-Naming : goal.ghosts-written-J-Naming
ghosts-written-J-Naming g a = record {
  book = a.tokens.1;
  node = a.file.node;
  incarnation = a.file.life;
  opening = a.table;
}

abbrev pub ghosts-written-J-Ledger : goal.ghosts-written-J-Ledger
ghosts-written-J-Ledger g a = record { name = a.tokens.0.name; parts = a.tokens.0.parts }
