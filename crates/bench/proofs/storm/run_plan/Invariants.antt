use Rattle.bench.proofs.storm.run_plan.Given as goal

-- the node whose file it is
abbrev pub ghosts-raise-J-Naming : goal.ghosts-raise-J-Naming
ghosts-raise-J-Naming g a = record {
  book = a.tokens.1;
  node = a.file.node;
  incarnation = a.file.life;
  opening = a.table;
}

abbrev pub ghosts-raise-J-Ledger : goal.ghosts-raise-J-Ledger
ghosts-raise-J-Ledger g a = record { name = a.tokens.0.name; parts = a.tokens.0.parts }
