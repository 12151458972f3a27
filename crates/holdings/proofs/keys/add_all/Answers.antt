use Rattle.std.proofs.Common.{rules, arith, ◌+◌, ◌<◌, ◌≤◌, ◌≡◌, ◌∙◌, List, [], ◌++◌, map, ap, sym, subst, get_or, length, drop, length-append, append_assoc}
use mathlib.Core.List.Memᴰ
use lib.ListN.{drop_of_length-le}
use Rattle.std.proofs.lemmas.List.{length-map}
use Rattle.runs.specs.Holdings.{Holding, key}
use Rattle.tables.specs.View.{view}
use Rattle.machine.specs.Snapshot.{no_frame}
use Rattle.holdings.specs.Held.{linked, framed, saved_held, AllBytes}
use Rattle.holdings.proofs.Gathering.{both, saved-more, joins}
use Rattle.holdings.proofs.keys.add_all.Goals as goal

pub loop-place-init : goal.loop-place-init
loop-place-init c =
    let s = c.args.state.now in
    let P = view c.args.tables.now in
    let part : List Holding = framed P s.method s.labels in
    let links = map (linked P) s.links in
    let e : c.add_frame.new.keys ≡ map key part = rw (c.requires, c.method.ensures, c.labels.ensures.labels) at c.add_frame.ensures.keys in
    record {
      left = joins [] _ part (saved_held P s.saved) links e ∙ ap (map key) (append_assoc part (saved_held P s.saved) links);
      bytes = both part (saved_held P s.saved) (rw (c.method.ensures, c.labels.ensures.labels) at c.add_frame.ensures.bytes);
      few = rw e (simp length-map c.labels.ensures.within);
    }

pub loop-place-preserved : goal.loop-place-preserved
loop-place-preserved c =
    let s = c.args.state.now in
    let P = view c.args.tables.now in
    let h : c.loop-place.place < length s.saved = search rules in
    let frame = get_or s.saved c.loop-place.place no_frame in
    let part : List Holding = framed P frame.method frame.labels in
    let rest = saved_held P (drop (c.loop-place.place + 1) s.saved) in
    let links = map (linked P) s.links in
    let e : c.add_frame-in-loop-place.new.keys ≡ c.loop-place.keys ++ map key part = rw (c.saved_method.ensures, c.saved_labels.ensures.labels) at c.add_frame-in-loop-place.ensures.keys in
    let b : AllBytes part = rw (c.saved_method.ensures, c.saved_labels.ensures.labels) at c.add_frame-in-loop-place.ensures.bytes in
    let more : saved_held P (drop c.loop-place.place s.saved) ≡ part ++ rest = saved-more P s.saved c.loop-place.place h in
    record {
      left = joins _ _ part rest links e ∙ ap (λ hs. c.loop-place.keys ++ map key (hs ++ links)) (sym more) ∙ c.loop-place.invariant.left;
      bytes = λ left. c.loop-place.invariant.bytes (subst AllBytes (sym more) (both part rest b left));
      few = rw e (simp (length-append, length-map) (omega (arith, c.loop-place.invariant.few, rw c.saved_labels.ensures.labels at c.saved_labels.ensures.within)));
    }

pub returns-clause-bytes : goal.returns-clause-bytes
returns-clause-bytes c =
    let s = c.args.state.now in
    let P = view c.args.tables.now in
    let part : List Holding = framed P s.method s.labels in
    let links = map (linked P) s.links in
    let h : length s.saved ≤ c.loop-place.place = search rules in
    let none_left : AllBytes (saved_held P (drop c.loop-place.place s.saved)) = rw (drop_of_length-le s.saved {i = c.loop-place.place} h) (λ x m. absurd (Memᴰ.not-nil m)) in
    let b : AllBytes links = rw c.links.ensures.links at c.add_links.ensures.bytes in
    subst AllBytes (append_assoc part (saved_held P s.saved) links) (both (part ++ saved_held P s.saved) links (c.loop-place.invariant.bytes none_left) b)
