use Rattle.std.proofs.Common.{◌∙◌, ap, sym}
use Rattle.std.specs.List.{fold}
use Rattle.trust.specs.Turns.{join_supertype}
use Rattle.trust.proofs.Declared.{supers-at, supers-low}
use Rattle.trust.proofs.classes.join_supertypes.Goals as goal

pub join_rows-requires-clause-others_below : goal.join_rows-requires-clause-others_below
join_rows-requires-clause-others_below c = supers-low _ _ _ c.requires (rw c.classes.ensures.value at c.index-classes-class.is) c.classes.ensures.good _ c.supertypes.ensures.value

pub returns : goal.returns
returns c =
    let at = rw c.classes.ensures.value at c.index-classes-class.is in
    c.join_rows.ensures ∙ ap (fold (join_supertype c.args.class) c.args.rows.now) (c.supertypes.ensures.value ∙ sym (supers-at _ _ _ c.requires at))
