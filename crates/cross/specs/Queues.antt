-- The queue of a side's orders for their fills, and what giving out shares along it writes.
use Rattle.std.specs.Prelude.{◌≡◌, ℕ, ◌-◌, min, Bool, true, cond, not, ◌&&◌, ◌||◌, List, [], ◌∷◌, map, length, set, nat_lt}
use Rattle.std.specs.declared.cmp.Ordering.TheVariants.{Less, Equal, Greater}
use Rattle.std.specs.declared.cmp.Ordering.{Ordering}
use Rattle.std.specs.List.{range_with_len, All}
use Rattle.market.specs.declared.order.Side.{Side}
use Rattle.market.specs.declared.order.OrderTerms.{OrderTerms}
use Rattle.cross.specs.declared.allotment.Allotment.{Allotment}
use Rattle.cross.specs.declared.queue.Queued.{Queued}
use Rattle.cross.specs.Allotments.{side_places}
use Rattle.cross.specs.Depth.{buys, sells}
use Rattle.cross.specs.Fills.{at_place, willing}
use Rattle.cross.specs.Rankings.{same_side}

module _ (good : OrderTerms → OrderTerms → Bool) where
  -- an order at a place stands before another: a buy before a sell, and of one side the one ahead
  abbrev pub stands_before : OrderTerms → ℕ → OrderTerms → ℕ → Bool
  stands_before a i b j = (buys a.side && sells b.side) || (good a b && (not (good b a) || nat_lt i j))

  abbrev pub standing : OrderTerms → ℕ → OrderTerms → ℕ → Ordering
  standing a i b j = cond (stands_before a i b j) Less (cond (stands_before b j a i) Greater Equal)

-- the shares that an order asks for at a price
abbrev pub asks : (lowest highest price : ℕ) → OrderTerms → ℕ
asks lo hi p o = cond (willing lo hi p o) o.shares 0

-- A queue of orders, each with its place in the book and the record of the list that is its own: it holds the orders of
-- a side among the first n, the k-th with the record k.
pub record Queue (side : Side) (os : List OrderTerms) (n : ℕ) (queue : List Queued) : Type 0 where
  pub places : map (λ q. q.place) queue ≡ side_places side os n
  pub slots : map (λ q. q.slot) queue ≡ range_with_len 0 (length queue)
  pub orders : All (λ q. (q.order.terms ≡ at_place os q.place) × (same_side side q.order.terms.side ≡ true)) queue

-- what a list holds once e shares are given out along the queue, to each order what it asks for while they last
abbrev pub given_out : (ask : OrderTerms → ℕ) → List Queued → (e : ℕ) → List Allotment → List Allotment
given_out ask [] e list = list
given_out ask (q ∷ queue) e list =
    given_out ask queue (e - ask q.order.terms) (set list q.slot (record { place = q.place; fill = min (ask q.order.terms) e }))
