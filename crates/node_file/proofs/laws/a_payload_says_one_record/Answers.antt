use Rattle.node_file.proofs.Payloads.{says_one}
use Rattle.node_file.proofs.laws.a_payload_says_one_record.Goals as goal

pub returns : goal.returns
returns c = says_one
