use Rattle.std.proofs.Common.{◌≡◌, ◌∙◌, ap, subst}
use Rattle.meaning.specs.Lists.{any}
use Rattle.meaning.specs.Tables.{field_class, field_type}
use Rattle.tables.specs.Contents.{Contents}
use Rattle.tables.specs.View.{view, operation_number}
use Rattle.permits.specs.Wanted.{fits, passes}
use Rattle.permits.specs.declared.chains.Wanted.{Wanted}
use Rattle.permits.specs.declared.chains.Wanted.TheVariants.{Field}
use Rattle.permits.proofs.Permitted.{permits-field-is}
use Rattle.permits.proofs.chains.Permits.permits_field.Goals as goal

pub returns-then-is_of_fields : goal.returns-then-is_of_fields
returns-then-is_of_fields c =
    let P = view c.args.self.now in
    let op = operation_number c.args.operation in
    let like = subst (λ (t : Contents). c.field_like-wanted.result ≡ Field (field_class (view t) c.args.number) (field_type (view t) c.args.number)) c.self.view_is c.field_like-wanted.ensures in
    c.names.ensures
    ∙ ap (λ (w : Wanted). any (passes c.args.method op (fits P w)) P.effects) like
    ∙ permits-field-is P c.args.method op c.args.number

pub returns-else-is_of_fields : goal.returns-else-is_of_fields
returns-else-is_of_fields c =
    let P = view c.args.self.now in
    let op = operation_number c.args.operation in
    let like = subst (λ (t : Contents). c.field_like-wanted.result ≡ Field (field_class (view t) c.args.number) (field_type (view t) c.args.number)) c.self.view_is c.field_like-wanted.ensures in
    c.has.ensures
    ∙ ap (λ (w : Wanted). any (passes c.args.method op (fits P w)) P.effects) like
    ∙ permits-field-is P c.args.method op c.args.number
