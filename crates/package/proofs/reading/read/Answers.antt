-- The sections are read one after another, as `read_sections` says it.
use Rattle.std.proofs.Common.{rules, ◌≡◌, length, Ok, Err, ap, ap₂}
use Rattle.sections.specs.declared.refusal.Refusal.TheVariants.{TooLong}
use Rattle.package.specs.Judging.{pair_declared, class_declared, field_declared, method_declared, effect_declared}
use Rattle.package.specs.Elements.{pair_in, class_in, field_in, method_in, effect_in}
use Rattle.package.specs.Readings.{read_sections}
use Rattle.package.proofs.Whole.{pairs-rest, classes-rest, fields-rest, methods-rest, effects-rest, read_held, read-accepted, read-refused}
use Rattle.package.proofs.Chain.{begun, behind, stopped, all_read, end-refused}
use Rattle.package.proofs.reading.read.Goals as goal

pub returns-then-text-gt-LONGEST-clause-meaning : goal.returns-then-text-gt-LONGEST-clause-meaning
unfolding read_sections
returns-then-text-gt-LONGEST-clause-meaning c =
    let stop : read_sections c.args.text.now ≡ Err (record { refusal = TooLong; line = 0 }) = search rules in
    read-refused c.args.text.now _ stop

pub returns-in_err-read_section-2 : goal.returns-in_err-read_section-2
unfolding pairs-rest classes-rest fields-rest methods-rest effects-rest
returns-in_err-read_section-2 c =
    let begun_lines = begun c.args.text.now c.new-lines.result c.read_header.new.lines c.in_ok-domains.domains c.if-text-gt-LONGEST.false c.new-lines.ensures c.in_ok-domains.ensures in
    let with_pairs = behind 2 128 pair_in (pair_declared c.in_ok-domains.domains) (pair_declared c.from.result) c.new-pairs.result c.read_header.new.lines (pairs-rest c.in_ok-domains.domains) begun_lines (ap pair_declared c.from.ensures) c.new-pairs.ensures (c.read_section.new.store, c.read_section.new.lines) c.in_ok-read_section.ensures in
    let stop : read_sections c.args.text.now ≡ Err c.in_err-read_section-2.field-0.0 = stopped 3 127 class_in (class_declared c.in_ok-domains.domains) (class_declared c.from.result) c.new-classes.result c.read_section.new.lines (classes-rest c.in_ok-domains.domains c.read_section.new.store) with_pairs (ap class_declared c.from.ensures) c.new-classes.ensures c.in_err-read_section-2.field-0.0 c.in_err-read_section-2.ensures in
    let told = read-refused c.args.text.now _ stop in
    search rules

pub returns-in_err-read_section-3 : goal.returns-in_err-read_section-3
unfolding pairs-rest classes-rest fields-rest methods-rest effects-rest
returns-in_err-read_section-3 c =
    let begun_lines = begun c.args.text.now c.new-lines.result c.read_header.new.lines c.in_ok-domains.domains c.if-text-gt-LONGEST.false c.new-lines.ensures c.in_ok-domains.ensures in
    let with_pairs = behind 2 128 pair_in (pair_declared c.in_ok-domains.domains) (pair_declared c.from.result) c.new-pairs.result c.read_header.new.lines (pairs-rest c.in_ok-domains.domains) begun_lines (ap pair_declared c.from.ensures) c.new-pairs.ensures (c.read_section.new.store, c.read_section.new.lines) c.in_ok-read_section.ensures in
    let with_classes = behind 3 127 class_in (class_declared c.in_ok-domains.domains) (class_declared c.from.result) c.new-classes.result c.read_section.new.lines (classes-rest c.in_ok-domains.domains c.read_section.new.store) with_pairs (ap class_declared c.from.ensures) c.new-classes.ensures (c.read_section-2.new.store, c.read_section-2.new.lines) c.in_ok-read_section-2.ensures in
    let stop : read_sections c.args.text.now ≡ Err c.in_err-read_section-3.field-0.0 = stopped 4 256 field_in (field_declared (length c.read_section-2.new.store)) (field_declared c.len.result) c.new-fields.result c.read_section-2.new.lines (fields-rest c.in_ok-domains.domains c.read_section.new.store c.read_section-2.new.store) with_classes (ap field_declared c.len.ensures) c.new-fields.ensures c.in_err-read_section-3.field-0.0 c.in_err-read_section-3.ensures in
    let told = read-refused c.args.text.now _ stop in
    search rules

pub returns-in_err-read_section-4 : goal.returns-in_err-read_section-4
unfolding pairs-rest classes-rest fields-rest methods-rest effects-rest
returns-in_err-read_section-4 c =
    let begun_lines = begun c.args.text.now c.new-lines.result c.read_header.new.lines c.in_ok-domains.domains c.if-text-gt-LONGEST.false c.new-lines.ensures c.in_ok-domains.ensures in
    let with_pairs = behind 2 128 pair_in (pair_declared c.in_ok-domains.domains) (pair_declared c.from.result) c.new-pairs.result c.read_header.new.lines (pairs-rest c.in_ok-domains.domains) begun_lines (ap pair_declared c.from.ensures) c.new-pairs.ensures (c.read_section.new.store, c.read_section.new.lines) c.in_ok-read_section.ensures in
    let with_classes = behind 3 127 class_in (class_declared c.in_ok-domains.domains) (class_declared c.from.result) c.new-classes.result c.read_section.new.lines (classes-rest c.in_ok-domains.domains c.read_section.new.store) with_pairs (ap class_declared c.from.ensures) c.new-classes.ensures (c.read_section-2.new.store, c.read_section-2.new.lines) c.in_ok-read_section-2.ensures in
    let with_fields = behind 4 256 field_in (field_declared (length c.read_section-2.new.store)) (field_declared c.len.result) c.new-fields.result c.read_section-2.new.lines (fields-rest c.in_ok-domains.domains c.read_section.new.store c.read_section-2.new.store) with_classes (ap field_declared c.len.ensures) c.new-fields.ensures (c.read_section-3.new.store, c.read_section-3.new.lines) c.in_ok-read_section-3.ensures in
    let stop : read_sections c.args.text.now ≡ Err c.in_err-read_section-4.field-0.0 = stopped 5 256 method_in (method_declared c.in_ok-domains.domains (length c.read_section-2.new.store)) (method_declared c.from.result c.len.result) c.new-methods.result c.read_section-3.new.lines (methods-rest c.in_ok-domains.domains c.read_section.new.store c.read_section-2.new.store c.read_section-3.new.store) with_fields (ap₂ method_declared c.from.ensures c.len.ensures) c.new-methods.ensures c.in_err-read_section-4.field-0.0 c.in_err-read_section-4.ensures in
    let told = read-refused c.args.text.now _ stop in
    search rules

pub returns-in_err-read_section-5 : goal.returns-in_err-read_section-5
unfolding pairs-rest classes-rest fields-rest methods-rest effects-rest
returns-in_err-read_section-5 c =
    let begun_lines = begun c.args.text.now c.new-lines.result c.read_header.new.lines c.in_ok-domains.domains c.if-text-gt-LONGEST.false c.new-lines.ensures c.in_ok-domains.ensures in
    let with_pairs = behind 2 128 pair_in (pair_declared c.in_ok-domains.domains) (pair_declared c.from.result) c.new-pairs.result c.read_header.new.lines (pairs-rest c.in_ok-domains.domains) begun_lines (ap pair_declared c.from.ensures) c.new-pairs.ensures (c.read_section.new.store, c.read_section.new.lines) c.in_ok-read_section.ensures in
    let with_classes = behind 3 127 class_in (class_declared c.in_ok-domains.domains) (class_declared c.from.result) c.new-classes.result c.read_section.new.lines (classes-rest c.in_ok-domains.domains c.read_section.new.store) with_pairs (ap class_declared c.from.ensures) c.new-classes.ensures (c.read_section-2.new.store, c.read_section-2.new.lines) c.in_ok-read_section-2.ensures in
    let with_fields = behind 4 256 field_in (field_declared (length c.read_section-2.new.store)) (field_declared c.len.result) c.new-fields.result c.read_section-2.new.lines (fields-rest c.in_ok-domains.domains c.read_section.new.store c.read_section-2.new.store) with_classes (ap field_declared c.len.ensures) c.new-fields.ensures (c.read_section-3.new.store, c.read_section-3.new.lines) c.in_ok-read_section-3.ensures in
    let with_methods = behind 5 256 method_in (method_declared c.in_ok-domains.domains (length c.read_section-2.new.store)) (method_declared c.from.result c.len.result) c.new-methods.result c.read_section-3.new.lines (methods-rest c.in_ok-domains.domains c.read_section.new.store c.read_section-2.new.store c.read_section-3.new.store) with_fields (ap₂ method_declared c.from.ensures c.len.ensures) c.new-methods.ensures (c.read_section-4.new.store, c.read_section-4.new.lines) c.in_ok-read_section-4.ensures in
    let stop : read_sections c.args.text.now ≡ Err c.in_err-read_section-5.field-0.0 = stopped 6 1024 effect_in (effect_declared (length c.read_section-2.new.store) c.read_section-3.new.store c.read_section-4.new.store) (effect_declared c.len.result c.as_slice.result.now c.as_slice-2.result.now) c.new-effects.result c.read_section-4.new.lines (effects-rest c.in_ok-domains.domains c.read_section.new.store c.read_section-2.new.store c.read_section-3.new.store c.read_section-4.new.store) with_methods (λ i. effect_declared (c.len.ensures i) (c.as_slice.ensures.items i) (c.as_slice-2.ensures.items i)) c.new-effects.ensures c.in_err-read_section-5.field-0.0 c.in_err-read_section-5.ensures in
    let told = read-refused c.args.text.now _ stop in
    search rules

pub returns-in_err-read_end : goal.returns-in_err-read_end
unfolding pairs-rest classes-rest fields-rest methods-rest effects-rest
returns-in_err-read_end c =
    let begun_lines = begun c.args.text.now c.new-lines.result c.read_header.new.lines c.in_ok-domains.domains c.if-text-gt-LONGEST.false c.new-lines.ensures c.in_ok-domains.ensures in
    let with_pairs = behind 2 128 pair_in (pair_declared c.in_ok-domains.domains) (pair_declared c.from.result) c.new-pairs.result c.read_header.new.lines (pairs-rest c.in_ok-domains.domains) begun_lines (ap pair_declared c.from.ensures) c.new-pairs.ensures (c.read_section.new.store, c.read_section.new.lines) c.in_ok-read_section.ensures in
    let with_classes = behind 3 127 class_in (class_declared c.in_ok-domains.domains) (class_declared c.from.result) c.new-classes.result c.read_section.new.lines (classes-rest c.in_ok-domains.domains c.read_section.new.store) with_pairs (ap class_declared c.from.ensures) c.new-classes.ensures (c.read_section-2.new.store, c.read_section-2.new.lines) c.in_ok-read_section-2.ensures in
    let with_fields = behind 4 256 field_in (field_declared (length c.read_section-2.new.store)) (field_declared c.len.result) c.new-fields.result c.read_section-2.new.lines (fields-rest c.in_ok-domains.domains c.read_section.new.store c.read_section-2.new.store) with_classes (ap field_declared c.len.ensures) c.new-fields.ensures (c.read_section-3.new.store, c.read_section-3.new.lines) c.in_ok-read_section-3.ensures in
    let with_methods = behind 5 256 method_in (method_declared c.in_ok-domains.domains (length c.read_section-2.new.store)) (method_declared c.from.result c.len.result) c.new-methods.result c.read_section-3.new.lines (methods-rest c.in_ok-domains.domains c.read_section.new.store c.read_section-2.new.store c.read_section-3.new.store) with_fields (ap₂ method_declared c.from.ensures c.len.ensures) c.new-methods.ensures (c.read_section-4.new.store, c.read_section-4.new.lines) c.in_ok-read_section-4.ensures in
    let with_effects = behind 6 1024 effect_in (effect_declared (length c.read_section-2.new.store) c.read_section-3.new.store c.read_section-4.new.store) (effect_declared c.len.result c.as_slice.result.now c.as_slice-2.result.now) c.new-effects.result c.read_section-4.new.lines (effects-rest c.in_ok-domains.domains c.read_section.new.store c.read_section-2.new.store c.read_section-3.new.store c.read_section-4.new.store) with_methods (λ i. effect_declared (c.len.ensures i) (c.as_slice.ensures.items i) (c.as_slice-2.ensures.items i)) c.new-effects.ensures (c.read_section-5.new.store, c.read_section-5.new.lines) c.in_ok-read_section-5.ensures in
    let stop : read_sections c.args.text.now ≡ Err c.in_err-read_end.field-0.0 = end-refused c.in_ok-domains.domains c.read_section.new.store c.read_section-2.new.store c.read_section-3.new.store c.read_section-4.new.store (c.read_section-5.new.store, c.read_section-5.new.lines) with_effects c.in_err-read_end.field-0.0 c.in_err-read_end.ensures.end in
    let told = read-refused c.args.text.now _ stop in
    search rules

pub new-requires : goal.new-requires
unfolding pairs-rest classes-rest fields-rest methods-rest effects-rest
new-requires c =
    let begun_lines = begun c.args.text.now c.new-lines.result c.read_header.new.lines c.in_ok-domains.domains c.if-text-gt-LONGEST.false c.new-lines.ensures c.in_ok-domains.ensures in
    let with_pairs = behind 2 128 pair_in (pair_declared c.in_ok-domains.domains) (pair_declared c.from.result) c.new-pairs.result c.read_header.new.lines (pairs-rest c.in_ok-domains.domains) begun_lines (ap pair_declared c.from.ensures) c.new-pairs.ensures (c.read_section.new.store, c.read_section.new.lines) c.in_ok-read_section.ensures in
    let with_classes = behind 3 127 class_in (class_declared c.in_ok-domains.domains) (class_declared c.from.result) c.new-classes.result c.read_section.new.lines (classes-rest c.in_ok-domains.domains c.read_section.new.store) with_pairs (ap class_declared c.from.ensures) c.new-classes.ensures (c.read_section-2.new.store, c.read_section-2.new.lines) c.in_ok-read_section-2.ensures in
    let with_fields = behind 4 256 field_in (field_declared (length c.read_section-2.new.store)) (field_declared c.len.result) c.new-fields.result c.read_section-2.new.lines (fields-rest c.in_ok-domains.domains c.read_section.new.store c.read_section-2.new.store) with_classes (ap field_declared c.len.ensures) c.new-fields.ensures (c.read_section-3.new.store, c.read_section-3.new.lines) c.in_ok-read_section-3.ensures in
    let with_methods = behind 5 256 method_in (method_declared c.in_ok-domains.domains (length c.read_section-2.new.store)) (method_declared c.from.result c.len.result) c.new-methods.result c.read_section-3.new.lines (methods-rest c.in_ok-domains.domains c.read_section.new.store c.read_section-2.new.store c.read_section-3.new.store) with_fields (ap₂ method_declared c.from.ensures c.len.ensures) c.new-methods.ensures (c.read_section-4.new.store, c.read_section-4.new.lines) c.in_ok-read_section-4.ensures in
    let with_effects = behind 6 1024 effect_in (effect_declared (length c.read_section-2.new.store) c.read_section-3.new.store c.read_section-4.new.store) (effect_declared c.len.result c.as_slice.result.now c.as_slice-2.result.now) c.new-effects.result c.read_section-4.new.lines (effects-rest c.in_ok-domains.domains c.read_section.new.store c.read_section-2.new.store c.read_section-3.new.store c.read_section-4.new.store) with_methods (λ i. effect_declared (c.len.ensures i) (c.as_slice.ensures.items i) (c.as_slice-2.ensures.items i)) c.new-effects.ensures (c.read_section-5.new.store, c.read_section-5.new.lines) c.in_ok-read_section-5.ensures in
    read_held c.args.text.now _ (all_read c.in_ok-domains.domains c.read_section.new.store c.read_section-2.new.store c.read_section-3.new.store c.read_section-4.new.store (c.read_section-5.new.store, c.read_section-5.new.lines) with_effects c.in_ok-read_end.ensures.end)

pub returns : goal.returns
unfolding pairs-rest classes-rest fields-rest methods-rest effects-rest
returns c =
    let begun_lines = begun c.args.text.now c.new-lines.result c.read_header.new.lines c.in_ok-domains.domains c.if-text-gt-LONGEST.false c.new-lines.ensures c.in_ok-domains.ensures in
    let with_pairs = behind 2 128 pair_in (pair_declared c.in_ok-domains.domains) (pair_declared c.from.result) c.new-pairs.result c.read_header.new.lines (pairs-rest c.in_ok-domains.domains) begun_lines (ap pair_declared c.from.ensures) c.new-pairs.ensures (c.read_section.new.store, c.read_section.new.lines) c.in_ok-read_section.ensures in
    let with_classes = behind 3 127 class_in (class_declared c.in_ok-domains.domains) (class_declared c.from.result) c.new-classes.result c.read_section.new.lines (classes-rest c.in_ok-domains.domains c.read_section.new.store) with_pairs (ap class_declared c.from.ensures) c.new-classes.ensures (c.read_section-2.new.store, c.read_section-2.new.lines) c.in_ok-read_section-2.ensures in
    let with_fields = behind 4 256 field_in (field_declared (length c.read_section-2.new.store)) (field_declared c.len.result) c.new-fields.result c.read_section-2.new.lines (fields-rest c.in_ok-domains.domains c.read_section.new.store c.read_section-2.new.store) with_classes (ap field_declared c.len.ensures) c.new-fields.ensures (c.read_section-3.new.store, c.read_section-3.new.lines) c.in_ok-read_section-3.ensures in
    let with_methods = behind 5 256 method_in (method_declared c.in_ok-domains.domains (length c.read_section-2.new.store)) (method_declared c.from.result c.len.result) c.new-methods.result c.read_section-3.new.lines (methods-rest c.in_ok-domains.domains c.read_section.new.store c.read_section-2.new.store c.read_section-3.new.store) with_fields (ap₂ method_declared c.from.ensures c.len.ensures) c.new-methods.ensures (c.read_section-4.new.store, c.read_section-4.new.lines) c.in_ok-read_section-4.ensures in
    let with_effects = behind 6 1024 effect_in (effect_declared (length c.read_section-2.new.store) c.read_section-3.new.store c.read_section-4.new.store) (effect_declared c.len.result c.as_slice.result.now c.as_slice-2.result.now) c.new-effects.result c.read_section-4.new.lines (effects-rest c.in_ok-domains.domains c.read_section.new.store c.read_section-2.new.store c.read_section-3.new.store c.read_section-4.new.store) with_methods (λ i. effect_declared (c.len.ensures i) (c.as_slice.ensures.items i) (c.as_slice-2.ensures.items i)) c.new-effects.ensures (c.read_section-5.new.store, c.read_section-5.new.lines) c.in_ok-read_section-5.ensures in
    let whole : read_sections c.args.text.now ≡ Ok c.new.result = rw c.new.ensures (all_read c.in_ok-domains.domains c.read_section.new.store c.read_section-2.new.store c.read_section-3.new.store c.read_section-4.new.store (c.read_section-5.new.store, c.read_section-5.new.lines) with_effects c.in_ok-read_end.ensures.end) in
    record { meaning = read-accepted c.args.text.now _ whole; exact = whole }
