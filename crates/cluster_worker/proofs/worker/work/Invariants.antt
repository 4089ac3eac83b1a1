use Rattle.cluster_worker.proofs.worker.work.Given as goal

-- the node whose life was begun in the file
abbrev pub ghosts-work_as-J-Naming : goal.ghosts-work_as-J-Naming
ghosts-work_as-J-Naming g a = record {
  book = a.tokens.1;
  node = a.job.served.file.node;
  incarnation = a.job.served.file.life;
  opening = a.job.served.table;
}

abbrev pub ghosts-work_as-J-Ledger : goal.ghosts-work_as-J-Ledger
ghosts-work_as-J-Ledger g a = record { name = a.tokens.0.name; parts = a.tokens.0.parts }
