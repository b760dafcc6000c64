-- A table over records: `homes` places where a probe can begin, and behind them as many as there can be records, so that
-- a probe that goes up by one finds a free place before the end. A place holds 0 if it is free, and i + 1 for record i.
use Rattle.std.specs.Prelude.{◌≡◌, ℕ, ◌+◌, ◌-◌, ◌*◌, ◌/◌, ◌^◌, ◌<◌, ◌≤◌, List, length, take, drop, ◌≢◌, slice_index, slice_index_or, slice_set, Result, Ok, Err}
use Rattle.lent.specs.declared.shape.Shape.{Shape}
use Rattle.lent.specs.Hash.{hash_of}
use Rattle.lent.specs.Records.{rec}

abbrev pub homes : Shape → ℕ
homes s = 2 ^ s.bits

abbrev pub places : Shape → ℕ
places s = homes s + s.room

-- where the probe for a key begins: the highest bits of its hash
unfoldable pub home : Shape → List ℕ → ℕ
home s key = hash_of key / 2 ^ (64 - s.bits)

-- no place from a to b is free
abbrev pub Full : List ℕ → ℕ → ℕ → Type 0
Full t a b = (k : ℕ) → a ≤ k → k < b → 0 < slice_index t k

-- some place from a on is free
pub record SomeFree (t : List ℕ) (a : ℕ) : Type 0 where
  pub place : ℕ
  pub behind : a ≤ place
  pub inside : place < length t
  pub empty : slice_index_or t place 0 ≡ 0

-- the first that is
pub record FirstFree (t : List ℕ) (a place : ℕ) : Type 0 where
  pub behind : a ≤ place
  pub inside : place < length t
  pub empty : slice_index_or t place 0 ≡ 0
  pub full : Full t a place

-- the probe for record i comes to its place
pub record Placed (s : Shape) (q t : List ℕ) (n i : ℕ) : Type 0 where
  pub place : ℕ
  pub behind : home s (rec q s.width i) ≤ place
  pub within : place < homes s + n
  pub entry : slice_index_or t place 0 ≡ i + 1
  pub full : Full t (home s (rec q s.width i)) place

-- the table t has the first n records of q, and nothing else
pub record Probed (s : Shape) (q t : List ℕ) (n : ℕ) : Type 0 where
  pub few : n ≤ s.room
  pub held : n * s.width ≤ length q
  pub fits : places s ≤ length t
  pub entries : (p : ℕ) → p < places s → slice_index t p ≤ n
  pub reach : (p : ℕ) → p < places s → 0 < slice_index t p → p < homes s + n
  pub placed : (i : ℕ) → i < n → Placed s q t n i

-- the probe for a key ended at a free place: no record is the key, and it may be entered here
pub record Free (s : Shape) (q t : List ℕ) (n : ℕ) (key : List ℕ) (place : ℕ) : Type 0 where
  pub empty : slice_index_or t place 0 ≡ 0
  pub behind : home s key ≤ place
  pub within : place ≤ homes s + n
  pub full : Full t (home s key) place
  pub new : (i : ℕ) → i < n → rec q s.width i ≢ key

-- the place tells the record that is the key
pub record Known (s : Shape) (q t : List ℕ) (n : ℕ) (key : List ℕ) (place : ℕ) : Type 0 where
  pub below : slice_index_or t place 0 ≤ n
  pub same : rec q s.width (slice_index t place - 1) ≡ key

-- where the probe for a key ended
pub record Stop (s : Shape) (q t : List ℕ) (n : ℕ) (key : List ℕ) (place : ℕ) : Type 0 where
  pub inside : place < places s
  pub known : 0 < slice_index t place → Known s q t n key place
  pub free : slice_index_or t place 0 ≡ 0 → Free s q t n key place

-- record i is the key
pub record IsKey (s : Shape) (q : List ℕ) (n : ℕ) (key : List ℕ) (i : ℕ) : Type 0 where
  pub below : i < n
  pub same : rec q s.width i ≡ key

-- what the probe for a key came to: the record that is the key, or a free place
abbrev pub Found : Shape → List ℕ → List ℕ → ℕ → List ℕ → Result ℕ ℕ → Type 0
Found s q t n key (Ok i) = IsKey s q n key i
Found s q t n key (Err place) = (place < places s) × Free s q t n key place

-- the key is record n now, and the table has it
pub record Inserted (s : Shape) (q t : List ℕ) (n : ℕ) (key : List ℕ) (place : ℕ) (q' t' : List ℕ) : Type 0 where
  pub probed : Probed s q' t' (n + 1)
  pub here : rec q' s.width n ≡ key
  pub kept : take (n * s.width) q' ≡ take (n * s.width) q
  pub rest : drop ((n + 1) * s.width) q' ≡ drop ((n + 1) * s.width) q
  pub entered : t' ≡ slice_set t place (n + 1)
