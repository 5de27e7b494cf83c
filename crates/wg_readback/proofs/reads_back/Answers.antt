use Rattle.wg_readback.proofs.reads_back.Goals as goal
use Rattle.wg_readback.proofs.Back.{reads_back}
use Rattle.wg_readback.proofs.Exact.{read_is_printable}
use Rattle.wg_readback.proofs.Reports.{report_reads_back}

pub returns-clause-read : goal.returns-clause-read
returns-clause-read _ before trace front printable = reads_back before trace front printable

pub returns-clause-report : goal.returns-clause-report
returns-clause-report _ entries trace printable = report_reads_back entries trace printable

pub returns-clause-only : goal.returns-clause-only
returns-clause-only _ bytes trace e = read_is_printable bytes trace e
