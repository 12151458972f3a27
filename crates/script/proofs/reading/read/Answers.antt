use Rattle.std.specs.Prelude.{Ok, Err}
use Rattle.tables.specs.View.{view}
use Rattle.script.proofs.Whole.{read-into}
use Rattle.script.proofs.Few.{few-arguments}
use Rattle.script.proofs.reading.read.Goals as goal

pub returns-in-Ok-clause-meaning : goal.returns-in-Ok-clause-meaning
returns-in-Ok-clause-meaning c = read-into (view c.args.loaded.now) c.tables-tables.ensures.good c.args.text.now c.read_sections.new.draft (Ok tt) c.in-Ok.ensures

pub returns-in-Ok-clause-few : goal.returns-in-Ok-clause-few
returns-in-Ok-clause-few c = few-arguments (view c.args.loaded.now) c.args.text.now c.read_sections.new.draft c.in-Ok.ensures

pub returns-in-Err-clause-meaning : goal.returns-in-Err-clause-meaning
returns-in-Err-clause-meaning c = read-into (view c.args.loaded.now) c.tables-tables.ensures.good c.args.text.now c.read_sections.new.draft (Err c.in-Err.refused) c.in-Err.ensures
