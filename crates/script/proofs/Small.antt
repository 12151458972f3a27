-- A frame's bytes are below 256.
use Prim.Native.Nat.{ℕ, ◌+◌, ◌-◌, ◌*◌, ◌<◌}
use native.Mathlib.Omega.{arith}
use mathlib.Core.Path.{◌≡◌, subst}
use mathlib.Core.Logic.{◌⊎◌, inl, inr}
use mathlib.Core.Bool.{Bool, true, false, ◌&&◌}
use mathlib.Core.Option.{Option, none, some}
use mathlib.Core.List.Memᴰ
use mathlib.Core.List.{List, [], ◌∷◌}
use lib.Dec.{T, leb, leb→le}
use lib.ListN.{length, get_or-eq_default}
use Rattle.meaning.specs.Lists.{In}
use Rattle.meaning.specs.Text.{Line, is_digit, digit, before, decode, not_empty, frame_of, byte}
use Rattle.meaning.proofs.Bools.{both, either, decided, decides-lt}
use Rattle.meaning.proofs.Lists.{get_or-in}
use Rattle.meaning.proofs.ReadLists.{cond-elim}
use Rattle.runs.proofs.Sets.{joins-each, joins-cons}

abbrev SmallIf : Option (List ℕ) → Type 0
SmallIf none = Unit {0}
SmallIf (some f) = (b : ℕ) → In b f → b < 256

digit-small : (c : ℕ) → T (is_digit c) → digit c < 16
unfolding is_digit digit
digit-small c t = cond-elim (λ (d : ℕ). d < 16) (leb c 57) (λ h. omega (arith, leb→le c 57 h)) (on (either (leb 48 c && leb c 57) (leb 65 c && leb c 70) t))
  where
    on : T (leb 48 c && leb c 57) ⊎ T (leb 65 c && leb c 70) → c - 55 < 16
    on (inl u) = omega (arith, leb→le c 57 (both (leb 48 c) (leb c 57) u).1)
    on (inr u) = omega (arith, leb→le c 70 (both (leb 65 c) (leb c 70) u).1)

decode-small : (s : List ℕ) → SmallIf (decode s)
unfolding decode
decode-small [] = λ b m. absurd (Memᴰ.not-nil m)
decode-small (c ∷ []) = tt
decode-small (c ∷ d ∷ s) = on (is_digit c && is_digit d) (λ t. let h = both (is_digit c) (is_digit d) t in two (digit-small c h.0) (digit-small d h.1)) (decode s) (decode-small s)
  where
    two : digit c < 16 → digit d < 16 → digit c * 16 + digit d < 256
    two a b = omega arith

    on : (b : Bool) → (T b → digit c * 16 + digit d < 256) → (o : Option (List ℕ)) → SmallIf o → SmallIf (elim b as (λ _. Option (List ℕ)) [ true ↦ before (digit c * 16 + digit d) o | false ↦ none ])
    on true h none k = tt
    on true h (some f) k = joins-each (joins-cons (digit c * 16 + digit d) f) (λ b. b < 256) (h tt) k
    on false h o k = tt

frame_small : (l : Line) → SmallIf (frame_of l)
unfolding frame_of
frame_small l = on l.ended (decode l.text) (decode-small l.text)
  where
    on : (b : Bool) (o : Option (List ℕ)) → SmallIf o → SmallIf (elim b as (λ _. Option (List ℕ)) [ true ↦ not_empty o | false ↦ none ])
    on true none k = tt
    on true (some []) k = tt
    on true (some (b ∷ f)) k = k
    on false o k = tt

byte_small : (f : List ℕ) (i : ℕ) → ((b : ℕ) → In b f → b < 256) → byte f i < 256
byte_small f i k = on (decided (decides-lt i (length f)))
  where
    on : Dec (i < length f) → byte f i < 256
    on (yes l) = k (byte f i) (get_or-in f i 0 l)
    on (no n) = rw (get_or-eq_default f 0 {n = i} (omega arith)) (omega arith)

pub bytes-small : (l : Line) (f : List ℕ) → frame_of l ≡ some f → (i : ℕ) → byte f i < 256
bytes-small l f e i = byte_small f i (subst SmallIf e (frame_small l))
