use Rattle.std.proofs.Common.{◌≡◌, ◌*◌, ◌+◌, ◌++◌, List, take, ap₂, arith}
use borrow.Rule.Slice.PartMut.{Post-is}
use Rattle.machine.specs.declared.label.Label.{Label}
use Rattle.machine.specs.Frame.{no_labels}
use Rattle.machine.proofs.state.clear.Goals as goal

pub returns : goal.returns
unfolding no_labels
returns c =
    let nothing : c.copy_from_slice.new.self ≡ no_labels = c.copy_from_slice.ensures.after in
    ap₂ (λ (frame back : List Label). take (32 * c.args.depth) c.args.labels.now ++ (frame ++ back)) nothing
    (Post-is (32 * c.args.depth) (32 * c.args.depth + 32) c.args.labels.now (omega arith))
