-- Places with keys: the chains of the places of one key, in rising order.
-- Assumes nothing.
use Rattle.std.specs.Prelude.{ℕ, ◌+◌, ◌%◌, ◌≤◌, ◌<◌, ◌≡◌, ◌≢◌, Bool, true, List, map, slice_index}

-- r is the first place from `from` on whose key is k, or n
pub record FirstFrom (keys : List ℕ) (n from k r : ℕ) : Type 0 where
  pub up : from ≤ r
  pub most : r ≤ n
  pub hit : r < n → slice_index keys r ≡ k
  pub skips : (i : ℕ) → from ≤ i → i < r → slice_index keys i ≢ k

-- behind each place the next one whose key has the same low byte, or n
pub record IsNearest (keys : List ℕ) (n : ℕ) (near : List ℕ) : Type 0 where
  pub at : (a : ℕ) → a < n → FirstFrom (map (λ (k : ℕ). k % 256) keys) n (a + 1) (slice_index keys a % 256) (slice_index near a)

-- where the chain of a starts: at n for the key 0
pub record StartOf (keys : List ℕ) (n a r : ℕ) : Type 0 where
  pub none : slice_index keys a ≡ 0 → r ≡ n
  pub some : slice_index keys a ≢ 0 → FirstFrom keys n 0 (slice_index keys a) r

-- the same for the first place of its key
pub record OwnStart (keys : List ℕ) (n a r : ℕ) : Type 0 where
  pub most : r ≤ n
  pub none : slice_index keys a ≡ 0 → r ≡ n
  pub some : slice_index keys a ≢ 0 → r ≡ a

-- where each chain starts is known of the places whose key no place from `from` on has before them
pub record IsStarted (keys : List ℕ) (n from : ℕ) (starts : List ℕ) : Type 0 where
  pub at : (a : ℕ) → a < n → ((i : ℕ) → from ≤ i → i < a → slice_index keys i ≢ slice_index keys a) → StartOf keys n a (slice_index starts a)

-- where each chain starts, and where it goes on from each place
pub record IsLinked (keys : List ℕ) (n : ℕ) (starts nexts : List ℕ) : Type 0 where
  pub start : (a : ℕ) → a < n → StartOf keys n a (slice_index starts a)
  pub next : (a : ℕ) → a < n → FirstFrom keys n (a + 1) (slice_index keys a) (slice_index nexts a)

-- the test passes at no pair of two keys, nor at the key 0
pub record IsKeyed (keys : List ℕ) (n : ℕ) (test : ℕ → ℕ → Bool) : Type 0 where
  pub same : (a b : ℕ) → a < n → b < n → test a b ≡ true → slice_index keys b ≡ slice_index keys a
  pub some : (a b : ℕ) → a < n → b < n → test a b ≡ true → slice_index keys a ≢ 0
