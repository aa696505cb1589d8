-- The lists of books over books.
use Rattle.std.specs.Prelude.{ℕ, ◌≤◌, List, ◌++◌, map, length, take}
use Rattle.std.proofs.Common.{arith}
use Rattle.std.proofs.lemmas.List.{length-map, length-take}
use Rattle.market.specs.declared.order.OrderTerms.{OrderTerms}
use Rattle.market.specs.Ranges.{counted}

-- a book has at most so many orders
abbrev pub most_orders : ℕ
most_orders = 4096

-- the first's orders, then the second's, cut at the most
abbrev pub joined : List OrderTerms → List OrderTerms → List OrderTerms
joined xs ys = take most_orders (xs ++ ys)

-- the orders with their counted prices as limits
abbrev pub ranged : (lowest highest : ℕ) → List OrderTerms → List OrderTerms
ranged lo hi os = map (counted lo hi) os

pub joined_short : (xs ys : List OrderTerms) → length (joined xs ys) ≤ most_orders
joined_short xs ys = omega (arith, length-take most_orders (xs ++ ys))

pub ranged_short : (lo hi : ℕ) (os : List OrderTerms) → length os ≤ most_orders → length (ranged lo hi os) ≤ most_orders
ranged_short lo hi os h = omega (arith, length-map os (counted lo hi))
