-- The definitions that a reader must believe, and the theorems about them as types.
-- Programs and words, the two machines, the orders, outcomes, fences put in, guards, one program worked by hand, and
-- what is proved of them all.
pub mod Code
pub mod Machine
pub mod Orders
pub mod Outcomes
pub mod Fences
pub mod Guards
pub mod StoreBuffering
pub mod Theorems
