-- The first line of what is left of a text, one byte further on.
-- Assumes nothing.
use Rattle.std.proofs.Common.{◌≡◌, ◌≢◌, ℕ, suc, ◌<◌, ◌+◌, Bool, true, false, ◌&&◌, cond, eqb, List, [], ◌∷◌, ◌++◌, length, get_or, ◌*◌, append_assoc, length-append, Option, Some, None, Result, Ok, Err, ap, sym, refl, ◌∙◌, arith}
use Rattle.std.proofs.Math.Option.{none, some}
use Rattle.std.proofs.Math.Option as M
use Rattle.std.proofs.lemmas.Bool.{ne_eqb, and_parts}
use Rattle.std.proofs.lemmas.List.{append-nil}
use Rattle.std.proofs.lemmas.Bool.Decides.{nat_tests}
use Rattle.meaning.specs.Text.{Line, lines_of, decode, frame_of, not_empty, before, onto, add_char, is_digit, digit}
use Rattle.meaning.proofs.ReadDigits.{digit-range}
use Rattle.text.specs.declared.frame.Frame.{Frame}
use Rattle.text.specs.declared.lines.BadLine.{BadLine}
use Rattle.text.specs.Digits.{byte_of}
use Rattle.text.specs.Cutting.{Cut, cut, cut_of, broken, ended, unended, within}
use Rattle.text.specs.Frames.{first_bytes, pack_frame, empty, with_byte}
use Rattle.text.specs.Reading.{framed, first_line, lines_past, frames_of, with_rest, first_byte}
use Rattle.text.proofs.Packed.{packed-more}

same_parts : (p q : ℕ × List ℕ) → Some p ≡ Some q → (p.0 ≡ q.0) × (p.1 ≡ q.1)
same_parts p q e = let same : p ≡ q = cc in (ap (λ (r : ℕ × List ℕ). r.0) same, ap (λ (r : ℕ × List ℕ). r.1) same)

by_byte : (f : Frame) (o : Option ℕ) (s t : List ℕ) (b : ℕ) (other : Cut) → with_rest o s ≡ Some (b, t) → elim o [ Some x ↦ within (with_byte f x) s | None ↦ other ] ≡ within (with_byte f b) t
by_byte f (Some x) s t b other e = let same = same_parts (x, s) (b, t) e in rw (same.0, same.1)
by_byte f None s t b other e = cc

-- what two digits spell joins the frame
pub within-first_byte : (f : Frame) (s t : List ℕ) (b : ℕ) → first_byte s ≡ Some (b, t) → within f s ≡ within (with_byte f b) t
unfolding within
within-first_byte f [] t b e = cc
within-first_byte f (c ∷ []) t b e = cc
within-first_byte f (c ∷ d ∷ s) t b e = by_byte f (byte_of c d) s t b _ e

-- an LF ends a frame that has a byte
pub within-lf : (f : Frame) (t : List ℕ) → (f.length ≡ 0 → ⊥) → within f (10 ∷ t) ≡ record { line = Some (Ok f); later = lines_of t }
unfolding within lines_of byte_of is_digit
within-lf f [] h = rw (ne_eqb f.length 0 h)
within-lf f (d ∷ t) h = rw (ne_eqb f.length 0 h)

-- the text ends between two lines
pub within-none : (f : Frame) (s : List ℕ) → length s ≡ 0 → f.length ≡ 0 → within f s ≡ record { line = None; later = [] }
unfolding within
within-none f [] e z = grind (arith, nat_tests)
within-none f (c ∷ s) e z = absurd (omega arith)

stops : (o : Option ℕ) (s : List ℕ) (lines : ℕ → Cut) (other : Cut) → with_rest o s ≡ None → other ≡ broken → elim o [ Some x ↦ lines x | None ↦ other ] ≡ broken
stops (Some x) s lines other e same = cc
stops None s lines other e same = same

-- a line is neither digits nor ended, or has no byte
pub within-broken : (f : Frame) (s : List ℕ) → first_byte s ≡ None → (get_or s 0 0 ≡ 10 → f.length ≡ 0) → (length s ≡ 0 → f.length ≢ 0) → within f s ≡ record { line = Some (Err (record {})); later = [] }
unfolding within
within-broken f [] e lf z = grind (arith, nat_tests)
within-broken f (c ∷ []) e lf z = grind (arith, nat_tests)
within-broken f (c ∷ d ∷ s) e lf z = stops (byte_of c d) s _ _ e (grind (arith, nat_tests))

-- two digits and more make a text shorter
pub length-first_byte : (s t : List ℕ) (b : ℕ) → first_byte s ≡ Some (b, t) → length t < length s
length-first_byte [] t b e = cc
length-first_byte (c ∷ []) t b e = cc
length-first_byte (c ∷ d ∷ s) t b e = shorter (byte_of c d) s t b e where
  shorter : (o : Option ℕ) (s t : List ℕ) (b : ℕ) → with_rest o s ≡ Some (b, t) → length t < length (c ∷ d ∷ s)
  shorter (Some x) s t b e = rw (same_parts (x, s) (b, t) e).1 (omega arith)
  shorter None s t b e = cc

-- ---- `meaning` cuts the same

-- the first of some lines, where these bytes stand before it
abbrev by_bytes : List ℕ → M.Option (List ℕ) → List Line → Cut
by_bytes f none ls = broken
by_bytes f (some g) ls = ended (pack_frame (f ++ g)) ls

abbrev onward : List ℕ → List Line → Cut
onward f [] = unended (pack_frame f)
onward f (l ∷ ls) = cond l.ended (by_bytes f (decode l.text) ls) broken

decode-bad : (c d : ℕ) (t : List ℕ) → is_digit c && is_digit d ≡ false → decode (c ∷ d ∷ t) ≡ none
unfolding decode
decode-bad c d t e = ap (λ (b : Bool). elim b as (λ (x : Bool). M.Option (List ℕ)) [ true ↦ before (digit c * 16 + digit d) (decode t) | false ↦ none ]) e

decode-good : (c d : ℕ) (t : List ℕ) → is_digit c && is_digit d ≡ true → decode (c ∷ d ∷ t) ≡ before (digit c * 16 + digit d) (decode t)
unfolding decode
decode-good c d t e = ap (λ (b : Bool). elim b as (λ (x : Bool). M.Option (List ℕ)) [ true ↦ before (digit c * 16 + digit d) (decode t) | false ↦ none ]) e

bad-line : (f : List ℕ) (c d : ℕ) (n : Bool) (ls : List Line) → is_digit c && is_digit d ≡ false → onward f (onto c (add_char n d ls)) ≡ broken
unfolding decode
bad-line f c d true ls e = refl
bad-line f c d false [] e = refl
bad-line f c d false (l ∷ ls) e = ap (λ (o : M.Option (List ℕ)). cond l.ended (by_bytes f o ls) broken) (decode-bad c d l.text e) ∙ on l.ended
  where
    on : (b : Bool) → cond b broken broken ≡ broken
    on true = refl
    on false = refl

good-byte : (f : List ℕ) (c d : ℕ) (ls : List Line) → is_digit c && is_digit d ≡ true → onward f (onto c (onto d ls)) ≡ onward (f ++ ((digit c * 16 + digit d) ∷ [])) ls
unfolding decode
good-byte f c d [] e = rw (ne_eqb (length (f ++ ((digit c * 16 + digit d) ∷ []))) 0 (λ h. absurd (omega (arith, h, length-append f ((digit c * 16 + digit d) ∷ [])))))
good-byte f c d (l ∷ ls) e = ap (λ (o : M.Option (List ℕ)). cond l.ended (by_bytes f o ls) broken) (decode-good c d l.text e) ∙ (ap (λ (t : Cut). cond l.ended t broken) (on (decode l.text)))
  where
    b : ℕ
    b = digit c * 16 + digit d

    on : (o : M.Option (List ℕ)) → by_bytes f (before b o) ls ≡ by_bytes (f ++ (b ∷ [])) o ls
    on none = refl
    on (some g) = rw (append_assoc f (b ∷ []) g)

not-lf : (c : ℕ) → is_digit c ≡ true → eqb c 10 ≡ false
not-lf c e = ne_eqb c 10 (λ h. let r = digit-range c e in absurd (omega (arith, r.0)))

within-onward : (f s : List ℕ) → within (pack_frame f) s ≡ onward f (lines_of s)
unfolding within lines_of decode byte_of
within-onward f [] = refl
within-onward f (c ∷ []) = on (eqb c 10)
  where
    on : (n : Bool) → cond n (ended (pack_frame f) []) broken ≡ onward f (add_char n c [])
    on true = rw (append-nil f)
    on false = refl
within-onward f (c ∷ d ∷ s) = on (is_digit c && is_digit d) refl (within-onward (f ++ ((digit c * 16 + digit d) ∷ [])) s)
  where
    other : (n : Bool) → is_digit c && is_digit d ≡ false → cond n (ended (pack_frame f) (lines_of (d ∷ s))) broken ≡ onward f (add_char n c (add_char (eqb d 10) d (lines_of s)))
    other true e = rw (append-nil f)
    other false e = sym (bad-line f c d (eqb d 10) (lines_of s) e)

    on : (b : Bool) → is_digit c && is_digit d ≡ b → within (pack_frame (f ++ ((digit c * 16 + digit d) ∷ []))) s ≡ onward (f ++ ((digit c * 16 + digit d) ∷ [])) (lines_of s)
        → elim (elim b as (λ (x : Bool). Option ℕ) [ true ↦ Some (digit c * 16 + digit d) | false ↦ None ]) as (λ (x : Option ℕ). Cut) [ Some x ↦ within (with_byte (pack_frame f) x) s | None ↦ cond (eqb c 10) (ended (pack_frame f) (lines_of (d ∷ s))) broken ]
        ≡ onward f (add_char (eqb c 10) c (add_char (eqb d 10) d (lines_of s)))
    on true e ih =
        let w = and_parts (is_digit c) (is_digit d) e in
        rw (not-lf c w.0, not-lf d w.1) (ap (λ (g : Frame). within g s) (packed-more f (digit c * 16 + digit d)) ∙ ih ∙ sym (good-byte f c d (lines_of s) e))
    on false e ih = other (eqb c 10) e

onward-none : (ls : List Line) → onward [] ls ≡ cut_of ls
unfolding first_line lines_past frame_of
onward-none [] = refl
onward-none (l ∷ ls) = on l.ended (decode l.text)
  where
    on : (e : Bool) (o : M.Option (List ℕ)) → cond e (by_bytes [] o ls) broken
        ≡ cut (Some (framed (elim e as (λ (x : Bool). M.Option (List ℕ)) [ true ↦ not_empty o | false ↦ none ]))) (elim (elim e as (λ (x : Bool). M.Option (List ℕ)) [ true ↦ not_empty o | false ↦ none ]) as (λ (x : M.Option (List ℕ)). List Line) [ none ↦ [] | some f ↦ ls ])
    on true none = refl
    on true (some []) = refl
    on true (some (b ∷ f)) = rw (ne_eqb (suc (length f)) 0 (λ h. absurd (omega (arith, h))))
    on false o = refl

pub within-start : (s : List ℕ) → cut_of (lines_of s) ≡ within empty s
unfolding first_bytes
within-start s = sym (within-onward [] s ∙ onward-none (lines_of s))

pub lines-none : lines_of [] ≡ []
unfolding lines_of
lines-none = refl

pub ruleset bytes = (within-first_byte, length-first_byte, within-start)

pub ruleset steps = (within-first_byte, within-lf, within-none, within-broken, length-first_byte, within-start, lines-none)

-- ---- the lines as an iterator

pub frames-none : (ls : List Line) → first_line ls ≡ None → frames_of ls ≡ []
unfolding first_line frames_of
frames-none [] e = refl
frames-none (l ∷ ls) e = cc

pub frames-first : (ls : List Line) (x : Result Frame BadLine) → first_line ls ≡ Some x → frames_of ls ≡ x ∷ frames_of (lines_past ls)
unfolding first_line frames_of lines_past
frames-first [] x e = cc
frames-first (l ∷ ls) x e = on (frame_of l) (some-same (framed (frame_of l)) x e)
  where
    some-same : (y z : Result Frame BadLine) → Some y ≡ Some z → y ≡ z
    some-same y z h = cc

    on : (o : M.Option (List ℕ)) → framed o ≡ x → framed o ∷ elim o as (λ (y : M.Option (List ℕ)). List (Result Frame BadLine)) [ none ↦ [] | some f ↦ frames_of ls ]
        ≡ x ∷ frames_of (elim o as (λ (y : M.Option (List ℕ)). List Line) [ none ↦ [] | some f ↦ ls ])
    on none h = ap (λ (y : Result Frame BadLine). y ∷ []) h
    on (some f) h = ap (λ (y : Result Frame BadLine). y ∷ frames_of ls) h

pub ruleset items = (frames-none, frames-first)
