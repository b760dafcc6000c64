-- The order grows with each call, up to all events, and is as long as before after each turn.
use Rattle.std.proofs.Common.{◌≡◌, ◌-◌, vec_len}
use Rattle.orders.proofs.outcomes.+extend.Given as goal

abbrev pub decreases-extend : goal.decreases-extend
decreases-extend l = vec_len l.task.now.events - vec_len l.order.now

abbrev pub invariant-loop-e : goal.invariant-loop-e
invariant-loop-e l =
    (goal.iterator-loop-e).can_next l.e-iterator
    × (goal.iterator-loop-e).is_finite l.e-iterator
    × (vec_len l.order ≡ vec_len l.initial.order)
