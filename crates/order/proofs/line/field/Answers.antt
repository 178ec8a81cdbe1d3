use Rattle.order.proofs.Reading.{reads_what_is_written}
use Rattle.order.proofs.line.field.Goals as goal

pub returns-clause-reads : goal.returns-clause-reads
returns-clause-reads c = reads_what_is_written

pub returns-in_err-text-clause-reads : goal.returns-in_err-text-clause-reads
returns-in_err-text-clause-reads c = reads_what_is_written
