-- Whether the better-priced shares of a side find as many on the other side, and where a search for that ends.
use Rattle.std.specs.Prelude.{◌≡◌, ℕ, ◌+◌, ◌-◌, ◌<◌, ◌≤◌, Bool, false, ◌⊎◌, List, nat_le}
use Rattle.market.specs.declared.order.Side.{Side}
use Rattle.market.specs.declared.order.Side.TheVariants.{Buy, Sell}
use Rattle.market.specs.declared.order.OrderTerms.{OrderTerms}
use Rattle.book.specs.declared.ranged.Ranged.{Ranged}
use Rattle.cross.specs.declared.depth.Depth.{Depth}
use Rattle.cross.specs.Passes.{depth_at}

abbrev pub serves : Side → Depth → Bool
serves Buy d = nat_le d.bought_above d.sold
serves Sell d = nat_le d.sold_below d.bought

abbrev pub served : (lowest highest : ℕ) → List OrderTerms → Side → ℕ → Bool
served lo hi os side p = serves side (depth_at lo hi p os)

-- the same of a book in its range, where `orders` lists a book
abbrev pub served_in : {B : Type 0} → (B → List OrderTerms) → Ranged B → Side → ℕ → Bool
served_in orders r = served r.range.lowest.cents r.range.highest.cents (orders r.book)

-- r lies on the way from one price to another, upwards or downwards, and the price before it on that way is
-- unserved
abbrev pub First : (served : ℕ → Bool) → (from to r : ℕ) → Type 0
First served from to r =
    ((from < r) × (r ≤ to) × (served (r - 1) ≡ false)) ⊎ ((r < from) × (to ≤ r) × (served (r + 1) ≡ false))
