use Rattle.papers.proofs.Computed.{worked_papers, each_worked_paper}
use Rattle.papers.proofs.worked_papers_come_out.Goals as goal

pub returns : goal.returns
returns c = record { table = worked_papers; each = each_worked_paper }
