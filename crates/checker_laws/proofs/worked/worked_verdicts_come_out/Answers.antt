use Rattle.checker_laws.proofs.Computed.{worked_verdicts, each_worked_verdict}
use Rattle.checker_laws.proofs.worked.worked_verdicts_come_out.Goals as goal

pub returns : goal.returns
returns c = record { table = worked_verdicts; each = each_worked_verdict }
