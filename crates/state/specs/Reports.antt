-- What a reader's last report means.
-- Assumes nothing.
use Rattle.std.specs.Prelude.{cond}
use Rattle.meaning.specs.Gateway.{Report, never, last}
use Rattle.state.specs.declared.reader as R

unfoldable pub report_of : R.Report.Report → Report
report_of r = cond r.kept (last r.id r.clock) never
