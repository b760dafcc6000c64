-- The first k moves are told, and nothing behind the path's words has changed.
use Rattle.std.proofs.Common.{◌≡◌, map, length, take, drop}
use Rattle.explore.specs.Found.{move_of}
use Rattle.fences.specs.Told.{text_ms}
use Rattle.fences.proofs.telling.write_moves.Given as goal

abbrev pub invariant-loop-k : goal.invariant-loop-k
invariant-loop-k l = (take l.k l.out ≡ text_ms (map (move_of l.threads) (take l.k l.path))) × (drop (length l.path) l.out ≡ drop (length l.path) l.initial.out)
