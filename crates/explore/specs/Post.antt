-- What the steps of exploration promise.
use Rattle.std.specs.Prelude.{◌≡◌, ℕ, ◌+◌, ◌*◌, ◌<◌, ◌≤◌, List, length, take, Some, None, Option, ◌≢◌, slice_index}
use Rattle.lent.specs.declared.shape.Shape.{Shape}
use Rattle.lent.specs.Records.{rec}
use Rattle.lent.specs.Table.{homes, Probed}
use Rattle.model.specs.Code.{Prog}
use Rattle.explore.specs.Found.{width, moves_of, Edge, Found, Sorted, Near, Explored, Crowded}

-- a record looked for among the first n, and written behind them if it is new and there is room: it is record j now
pub record Entered (s : Shape) (limit : ℕ) (q t : List ℕ) (n : ℕ) (key q' t' : List ℕ) (j n' : ℕ) : Type 0 where
  pub probed : Probed s q' t' n'
  pub here : rec q' s.width j ≡ key
  pub below : j < n'
  pub kept : take (n * s.width) q' ≡ take (n * s.width) q
  pub grown : n ≤ n'
  pub by_one : n' ≤ n + 1
  pub few : n' ≤ limit
  pub new : (i : ℕ) → i < n → n < n' → rec q s.width i ≢ key
  pub last : n < n' → j ≡ n

-- or it is new, and all is full
pub record Refused (s : Shape) (limit : ℕ) (q : List ℕ) (n : ℕ) (key : List ℕ) : Type 0 where
  pub full : n ≡ limit
  pub new : (i : ℕ) → i < n → rec q s.width i ≢ key

abbrev pub EnteredAs : Shape → ℕ → List ℕ → List ℕ → ℕ → List ℕ → List ℕ → List ℕ → ℕ → Option ℕ → Type 0
EnteredAs s limit q t n key q' t' n' (Some j) = Entered s limit q t n key q' t' j n'
EnteredAs s limit q t n key q' t' n' None = Refused s limit q n key × (n' ≡ n)

-- exploration at move m of state i: what is found, the table that finds it again, and the edges before this one
pub record Going (p : Prog) (s : Shape) (limit : ℕ) (q t g : List ℕ) (n i m : ℕ) : Type 0 where
  pub found : Found p q n
  pub sorted : Sorted p q n
  pub near : Near p q n i
  pub probed : Probed s q t n
  pub wide : s.width ≡ width (length p)
  pub few : n ≤ limit
  pub here : i < n
  pub edges : (k l : ℕ) → l < moves_of (length p) → k * moves_of (length p) + l < i * moves_of (length p) + m → Edge p q n k l (slice_index g (k * moves_of (length p) + l))

-- one more edge; or there are more states than may be
abbrev pub Visited : Prog → Shape → ℕ → ℕ → ℕ → ℕ → List ℕ → List ℕ → List ℕ → ℕ → Option (Unit {0}) → Type 0
Visited p s limit n i m q t g n' (Some _) = Going p s limit q t g n' i (m + 1) × (n' ≤ n + 1)
Visited p s limit n i m q t g n' None = Crowded p limit × (n' ≡ n)

-- all moves of a state; or there are more states than may be
abbrev pub Expanded : Prog → Shape → ℕ → ℕ → List ℕ → List ℕ → List ℕ → ℕ → Option (Unit {0}) → Type 0
Expanded p s limit i q t g n' (Some _) = Going p s limit q t g n' i (moves_of (length p))
Expanded p s limit i q t g n' None = Crowded p limit × (n' ≤ limit) × (n' < s.room)

-- exploration between two states: those before i have had their turn
pub record Between (p : Prog) (s : Shape) (limit : ℕ) (q t g : List ℕ) (n i : ℕ) : Type 0 where
  pub found : Found p q n
  pub sorted : Sorted p q n
  pub near : i < n → Near p q n i
  pub probed : Probed s q t n
  pub wide : s.width ≡ width (length p)
  pub few : n ≤ limit
  pub done : i ≤ n
  pub fits : homes s + (limit + 9) ≤ length t
  pub edges : (k l : ℕ) → k < i → l < moves_of (length p) → Edge p q n k l (slice_index g (k * moves_of (length p) + l))

-- the first state is there, and a table that finds it again
abbrev pub Started : Prog → ℕ → List ℕ → List ℕ → Shape → Type 0
Started p limit q t s = (g : List ℕ) → Between p s limit q t g 1 0

-- all states are found; or there are more than may be
abbrev pub AllExplored : Prog → ℕ → List ℕ → List ℕ → Option ℕ → Type 0
AllExplored p limit q g (Some n) = Explored p q g n × (n ≤ limit)
AllExplored p limit q g None = Crowded p limit
