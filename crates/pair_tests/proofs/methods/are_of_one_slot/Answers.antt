use Rattle.meaning.specs.Tests.{one_slot, instance_method}
use Rattle.meaning.specs.Tables.{slot_of}
use Rattle.pair_tests.proofs.methods.are_of_one_slot.Goals as goal

pub returns : goal.returns
unfolding one_slot instance_method slot_of
returns c = rw (c.method.ensures.found, c.method-2.ensures.found) c.have_one_slot.ensures
