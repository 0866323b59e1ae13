use Rattle.drf_state.proofs.Ends.{ended_line, first_line, only_line}
use Rattle.drf_state.proofs.reader.line_end.Goals as goal

pub returns-clause-found : goal.returns-clause-found
returns-clause-found c = first_line c.args.bytes.now c.memchr.result c.memchr.ensures

pub returns-clause-one : goal.returns-clause-one
returns-clause-one c = ended_line c.args.bytes.now c.memchr.result c.memchr.ensures

pub returns-clause-none : goal.returns-clause-none
returns-clause-none c = only_line c.args.bytes.now c.memchr.result c.memchr.ensures
