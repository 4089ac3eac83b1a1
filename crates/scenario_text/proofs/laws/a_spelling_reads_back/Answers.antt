use Rattle.scenario_text.proofs.SpelledRows.{line_reads, one_line}
use Rattle.scenario_text.proofs.SpelledText.{commands_of-spelled, scenario_reads}
use Rattle.scenario_text.proofs.laws.a_spelling_reads_back.Goals as goal

pub returns-clause-line : goal.returns-clause-line
returns-clause-line c = line_reads

pub returns-clause-one_line : goal.returns-clause-one_line
returns-clause-one_line c = one_line

pub returns-clause-lines : goal.returns-clause-lines
returns-clause-lines c = commands_of-spelled

pub returns-clause-scenario : goal.returns-clause-scenario
returns-clause-scenario c = scenario_reads
