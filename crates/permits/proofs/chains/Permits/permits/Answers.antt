use Rattle.std.proofs.Common.{◌∙◌}
use Rattle.tables.specs.View.{view, operation_number}
use Rattle.permits.proofs.Permitted.{permits-is}
use Rattle.permits.proofs.chains.Permits.permits.Goals as goal

pub returns : goal.returns
returns c = c.names.ensures ∙ permits-is (view c.args.self.now) c.args.method (operation_number c.args.operation) c.args.number
