use Rattle.bench.proofs.lock.disk.measure_at.Given as goal

-- the node whose file it is
abbrev pub ghosts-use_node-J-Naming : goal.ghosts-use_node-J-Naming
ghosts-use_node-J-Naming g a = record {
  book = a.tokens.1;
  node = a.file.node;
  incarnation = a.file.life;
  opening = a.table;
}

abbrev pub ghosts-use_node-J-Ledger : goal.ghosts-use_node-J-Ledger
ghosts-use_node-J-Ledger g a = record { name = a.tokens.0.name; parts = a.tokens.0.parts }
