-- The laws of rows: a bit read, a row or'ed, and a list of rows is fixed by its bits.
-- Assumes nothing.
use Prim.Native.Nat.{ℕ, zero, suc, ◌^◌, ◌≤◌, ◌<◌}
use mathlib.Core.Path.{◌≡◌, refl, sym, ap, ◌∙◌}
use mathlib.Core.Bool.{Bool, true, false, ◌&&◌, ◌||◌}
use mathlib.Core.List.{List}
use native.Mathlib.Decide.{ℕ_discrete, dec_lt}
use native.Mathlib.Omega.{arith}
use native.Mathlib.Nat.{not-suc-le-zero, le_of_suc-le-suc}
use lib.Dec.{T, eqb}
use lib.ListN.{length, get_or, length-set, replicate, length-replicate}
use lib.Seq.{ext_get_or, get_or-set_same, get_or-set_other}
use lib.Pow.{pow-lt, pow_pos}
use lib.Bits.{bit_and, bit_or, or_lt, and_le_l}
use borrow.Author.Tests.{lt-ltb, le-ltb, eq-eqb, ne_eqb}
use Rattle.meaning.proofs.Bools.{both, and, or_left, true-passes, passes-true, false-fails, Decides, decides-as, decides_eq, decides-lt, decides_and, decides_not, decides-same}
use Rattle.relation.specs.Bit.{bit, number}
use Rattle.relation.specs.Rows.{listed, words, among, narrow, wide, row_bit, or_at, add_bit, join_from, meet_row, within}
use Rattle.relation.proofs.BitLaws.{bit_or_lem, bit_and_lem, bit-zero, bit-pow, fixed, number_lt, bit-number, some-bit}

-- ---- listed

pub length-listed : {A : Type 0} (n : ℕ) (f : ℕ → A) → length (listed n f) ≡ n
unfolding listed
length-listed zero f = refl
length-listed (suc n) f = ap suc (length-listed n (λ (i : ℕ). f (suc i)))

pub get_or-listed : {A : Type 0} (n : ℕ) (f : ℕ → A) (i : ℕ) (d : A) → i < n → get_or (listed n f) i d ≡ f i
unfolding listed
get_or-listed zero f i d h = absurd (not-suc-le-zero h)
get_or-listed (suc n) f zero d h = refl
get_or-listed (suc n) f (suc i) d h = get_or-listed n (λ (i : ℕ). f (suc i)) i d (le_of_suc-le-suc h)

pub listed_of : {A : Type 0} (n : ℕ) (f : ℕ → A) (d : A) (l : List A) → length l ≡ n → ((i : ℕ) → i < n → get_or l i d ≡ f i) → l ≡ listed n f
listed_of n f d l e at =
    ext_get_or d l (listed n f) (e ∙ sym (length-listed n f)) (λ i h. let h' : i < n = omega arith in at i h' ∙ sym (get_or-listed n f i d h'))

-- ---- words

-- each word has w bits at most
abbrev pub Small : ℕ → List ℕ → Type 0
Small w ws = (i : ℕ) → i < length ws → get_or ws i 0 < 2 ^ w

-- n words of w bits
pub record Sized (w n : ℕ) (ws : List ℕ) : Type 0 where
  pub long : length ws ≡ n
  pub small : Small w ws

module _ (w n : ℕ) (f : ℕ → ℕ → Bool) where
  pub word-bit : (i d : ℕ) → i < n → d < w → row_bit (words w n f) i d ≡ f i d
  unfolding words
  word-bit i d h l = ap (λ (x : ℕ). bit x d) (get_or-listed n (λ (i : ℕ). number w (f i)) i 0 h) ∙ bit-number w (f i) d ∙ rw (lt-ltb d w l)

  pub words-sized : Sized w n (words w n f)
  unfolding words
  words-sized = record { long = long; small = λ i h. rw (get_or-listed n (λ (i : ℕ). number w (f i)) i 0 (omega (arith, long))) (number_lt w (f i)) }
    where
      long : length (listed n (λ (i : ℕ). number w (f i))) ≡ n
      long = length-listed n (λ (i : ℕ). number w (f i))

  pub words_of : (ws : List ℕ) → Sized w n ws → ((i d : ℕ) → i < n → d < w → row_bit ws i d ≡ f i d) → ws ≡ words w n f
  unfolding words
  words_of ws z at =
      listed_of n (λ (i : ℕ). number w (f i)) 0 ws z.long
      (λ i h. fixed w (get_or ws i 0) (number w (f i)) (z.small i (omega (arith, z.long))) (number_lt w (f i)) (λ d l. at i d h l ∙ sym (bit-number w (f i) d ∙ rw (lt-ltb d w l))))

-- ---- no bit

pub zeros-at : (n i : ℕ) → get_or (replicate n zero) i zero ≡ zero
zeros-at zero i = refl
zeros-at (suc n) zero = refl
zeros-at (suc n) (suc i) = zeros-at n i

pub zeros-sized : (w n : ℕ) → Sized w n (replicate n zero)
zeros-sized w n = record { long = length-replicate n zero; small = λ i h. rw (zeros-at n i) (pow_pos w) }

-- ---- a row or'ed

or-none : (b : Bool) → (b || false) ≡ b
or-none true = refl
or-none false = refl

module _ (ws : List ℕ) (i x : ℕ) (h : i < length ws) where
  pub or-bit : (j d : ℕ) → row_bit (or_at ws i x) j d ≡ (row_bit ws j d || (eqb j i && bit x d))
  or-bit j d = on (ℕ_discrete j i)
    where
      on : Dec (j ≡ i) → row_bit (or_at ws i x) j d ≡ (row_bit ws j d || (eqb j i && bit x d))
      on (yes e) = rw (e, eq-eqb i i refl, get_or-set_same ws i (bit_or (get_or ws i 0) x) 0 h) (bit_or_lem (get_or ws i 0) x d)
      on (no u) = rw (ne_eqb j i u, get_or-set_other ws i j (bit_or (get_or ws i 0) x) 0 u) (sym (or-none (row_bit ws j d)))

  pub or-sized : (w n : ℕ) → x < 2 ^ w → Sized w n ws → Sized w n (or_at ws i x)
  or-sized w n l z = record { long = length-set ws i (bit_or (get_or ws i 0) x) ∙ z.long; small = λ j k. on j (omega (arith, length-set ws i (bit_or (get_or ws i 0) x))) (ℕ_discrete j i) }
    where
      on : (j : ℕ) → j < length ws → Dec (j ≡ i) → get_or (or_at ws i x) j 0 < 2 ^ w
      on j k (yes e) = rw (e, get_or-set_same ws i (bit_or (get_or ws i 0) x) 0 h) (or_lt w (get_or ws i 0) x (z.small i h) l)
      on j k (no u) = rw (get_or-set_other ws i j (bit_or (get_or ws i 0) x) 0 u) (z.small j k)

-- a bit set
pub add_row : (ws : List ℕ) (a b : ℕ) → a < length ws → (x y : ℕ) → row_bit (add_bit a b ws) x y ≡ (row_bit ws x y || (eqb x a && eqb y b))
add_row ws a b h x y = or-bit ws a (2 ^ b) h x y ∙ ap (λ (t : Bool). row_bit ws x y || (eqb x a && t)) (bit-pow b y ∙ turned)
  where
    turned : eqb b y ≡ eqb y b
    turned = decides-same (decides-as (decides_eq b y) sym sym) (decides_eq y b)

pub add-sized : (w n a b : ℕ) (ws : List ℕ) → a < n → b < w → Sized w n ws → Sized w n (add_bit a b ws)
add-sized w n a b ws h l z = or-sized ws a (2 ^ b) (omega (arith, z.long)) w n (pow-lt {i = b} {j = w} l) z

-- a row joined
pub join_row_lem : (ws xs : List ℕ) (a s : ℕ) → a < length ws → (x y : ℕ) → row_bit (join_from xs a s ws) x y ≡ (row_bit ws x y || (eqb x a && row_bit xs s y))
join_row_lem ws xs a s h = or-bit ws a (get_or xs s 0) h

pub join-sized : (w n : ℕ) (xs : List ℕ) (a s : ℕ) (ws : List ℕ) → a < n → s < n → Sized w n xs → Sized w n ws → Sized w n (join_from xs a s ws)
join-sized w n xs a s ws h l x z = or-sized ws a (get_or xs s 0) (omega (arith, z.long)) w n (x.small s (omega (arith, x.long))) z

-- ---- rows of which one has a bit of the other, or all

module _ {w n : ℕ} (xs ys : List ℕ) (z : Sized w n xs) (a b : ℕ) (ha : a < n) where
  common : ℕ
  common = bit_and (get_or xs a 0) (get_or ys b 0)

  common-bit : (d : ℕ) → bit common d ≡ (row_bit xs a d && row_bit ys b d)
  unfolding common
  common-bit = bit_and_lem (get_or xs a 0) (get_or ys b 0)

  common-lt : common < 2 ^ w
  unfolding common
  common-lt = omega (arith, and_le_l (get_or xs a 0) (get_or ys b 0), z.small a (omega (arith, z.long)))

  pub decides-meet : Decides (meet_row xs a ys b) ((j : ℕ) × (j < w) × T (row_bit xs a j) × T (row_bit ys b j))
  unfolding common
  decides-meet =
      decides-as (decides_not (decides_eq common 0))
      (λ u. let c = some-bit w common common-lt u in
      let p = both (row_bit xs a c.0) (row_bit ys b c.0) (true-passes (row_bit xs a c.0 && row_bit ys b c.0) (sym (common-bit c.0) ∙ c.2)) in
      (c.0, c.1, p.0, p.1))
      (λ c e. false-fails (bit 0 c.0) (bit-zero c.0) (rw (← e) (rw (common-bit c.0) (and (row_bit xs a c.0) (row_bit ys b c.0) c.2 c.3))))

module _ {w n : ℕ} (rows : List ℕ) (z : Sized w n rows) (a b : ℕ) (ha : a < n) (hb : b < n) where
  pub decides-within : Decides (within rows a b) ((d : ℕ) → d < w → T (row_bit rows a d) → T (row_bit rows b d))
  decides-within = decides-as (decides_eq (bit_or x y) y) from to
    where
      x : ℕ
      x = get_or rows a 0

      y : ℕ
      y = get_or rows b 0

      from : bit_or x y ≡ y → (d : ℕ) → d < w → T (bit x d) → T (bit y d)
      from e d h t = rw (← e) (rw (bit_or_lem x y d) (or_left (bit x d) (bit y d) t))

      absorbs : (p q : Bool) → (T p → T q) → (p || q) ≡ q
      absorbs true q f = sym (passes-true q (f tt))
      absorbs false q f = refl

      to : ((d : ℕ) → d < w → T (bit x d) → T (bit y d)) → bit_or x y ≡ y
      to f =
          let x_small : x < 2 ^ w = z.small a (omega (arith, z.long)) in
          let y_small : y < 2 ^ w = z.small b (omega (arith, z.long)) in
          fixed w (bit_or x y) y (or_lt w x y x_small y_small) y_small (λ d h. bit_or_lem x y d ∙ absorbs (bit x d) (bit y d) (f d h))

-- ---- rows that are a relation

-- what is asked of numbers below n is the relation itself
pub among-is : (n : ℕ) (f : ℕ → ℕ → Bool) (a b : ℕ) → a < n → b < n → among n f a b ≡ f a b
unfolding among
among-is n f a b h l = rw (lt-ltb a n h, lt-ltb b n l)

-- a relation between numbers below n is asked there alone
pub decides-among : (n : ℕ) {f : ℕ → ℕ → Bool} {F : ℕ → ℕ → Type 0} → ((a b : ℕ) → Decides (f a b) (F a b)) → (a b : ℕ) → Decides (among n f a b) ((a < n) × (b < n) × F a b)
unfolding among
decides-among n d a b =
    decides-as (decides_and (decides-lt a n) (decides_and (decides-lt b n) (d a b))) (λ p. (p.0, p.1.0, p.1.1)) (λ p. (p.0, (p.1, p.2)))

pub among-same : (n : ℕ) (f g : ℕ → ℕ → Bool) → ((a b : ℕ) → a < n → b < n → f a b ≡ g a b) → (a b : ℕ) → among n f a b ≡ among n g a b
among-same n f g same a b = on (dec_lt a n) (dec_lt b n)
  where
    on : Dec (a < n) → Dec (b < n) → among n f a b ≡ among n g a b
    on (yes h) (yes l) = unfold among in rw (same a b h l)
    on (yes h) (no l) = unfold among in rw (le-ltb b n (omega arith))
    on (no h) l = unfold among in rw (le-ltb a n (omega arith))

module _ (n : ℕ) (f : ℕ → ℕ → Bool) where
  pub narrow-bit : (e d : ℕ) → e < 32 → d < 32 → row_bit (narrow n f) e d ≡ among n f e d
  unfolding narrow
  narrow-bit = word-bit 32 32 (among n f)

  pub narrow-of : (ws : List ℕ) → Sized 32 32 ws → ((e d : ℕ) → e < 32 → d < 32 → row_bit ws e d ≡ among n f e d) → ws ≡ narrow n f
  unfolding narrow
  narrow-of = words_of 32 32 (among n f)

  pub narrow-sized : Sized 32 32 (narrow n f)
  unfolding narrow
  narrow-sized = words-sized 32 32 (among n f)

  pub narrow-is : n ≤ 32 → (e d : ℕ) → e < n → d < n → row_bit (narrow n f) e d ≡ f e d
  narrow-is few e d h l = narrow-bit e d (omega arith) (omega arith) ∙ among-is n f e d h l

  pub wide_bit : (a b : ℕ) → a < 127 → b < 128 → row_bit (wide n f) a b ≡ among n f a b
  unfolding wide
  wide_bit = word-bit 128 127 (among n f)

  pub wide_of : (ws : List ℕ) → Sized 128 127 ws → ((a b : ℕ) → a < 127 → b < 128 → row_bit ws a b ≡ among n f a b) → ws ≡ wide n f
  unfolding wide
  wide_of = words_of 128 127 (among n f)

  pub wide-sized : Sized 128 127 (wide n f)
  unfolding wide
  wide-sized = words-sized 128 127 (among n f)

  pub wide-is : n ≤ 127 → (a b : ℕ) → a < n → b < n → row_bit (wide n f) a b ≡ f a b
  wide-is few a b h l = wide_bit a b (omega arith) (omega arith) ∙ among-is n f a b h l

pub wide-same : (n : ℕ) (f g : ℕ → ℕ → Bool) → ((a b : ℕ) → a < n → b < n → f a b ≡ g a b) → wide n f ≡ wide n g
wide-same n f g same = wide_of n g (wide n f) (wide-sized n f) (λ a b h l. wide_bit n f a b h l ∙ among-same n f g same a b)
